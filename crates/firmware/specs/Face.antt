-- The answers of the exported functions, as C gets them (SPEC 13.1). Definitions only.
use Rattle.std.specs.Prelude.{◌≡◌}
use Rattle.limits.specs.Reply.{Reply}
use Rattle.firmware.specs.declared.Answer.{Answer}

-- SPEC 1.4: beside a refusal the result is 0.
abbrev pub answer : Reply → Answer
answer x = record { refusal = x.refusal; result = x.result }

-- SPEC 13.1: what an exported function promises. The operation's own answer has the operation's promise P, and C gets
-- its reply.
pub record Given {A : Type 0} (reply : A → Reply) (P : A → Type 0) (r : Answer) : Type 0 where
  pub told : A
  pub promised : P told
  pub answered : r ≡ answer (reply told)
