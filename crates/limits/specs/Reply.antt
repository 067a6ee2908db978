-- An operation's reply. Definitions only.
use Rattle.std.specs.Prelude.{ℕ}

-- SPEC 1.4: the refusal's number, 0 where there is none, and the result, 0 beside a refusal.
pub record Reply : Type 0 where
  pub refusal : ℕ
  pub result : ℕ

abbrev pub refused : ℕ → Reply
refused r = record { refusal = r; result = 0 }

abbrev pub gives : ℕ → Reply
gives x = record { refusal = 0; result = x }
