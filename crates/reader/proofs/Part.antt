-- A part of some bytes from a place on, and a line as a part of them. Assumes nothing.
use mathlib.Core.Path.{◌≡◌, ◌∙◌, sym, ap}
use mathlib.Core.List.{List, []}
use mathlib.Core.Logic.{inl, inr}
use Prim.Native.Nat.{ℕ, ◌+◌, ◌≤◌}
use native.Mathlib.Omega.{arith}
use denote.Ref.{Bor}
use lib.ListN.{length, take, drop, length-drop, drop_of_length-le}
use lib.Seq.{take_all, drop-drop}
use Rattle.std.specs.Prelude.{Option, Some, None, unwrap_or}
use Rattle.std.specs.List.{PartBy}
use Rattle.lists.specs.Line.{line, line_from}
use Rattle.lists.proofs.Lines.{take-line, line-short}
use Rattle.cards.specs.Heads.{rule_head}
use Rattle.reader.specs.Part.{rule_from}

-- What `get` answers for a range with no end, or nothing past the end.
pub from_place : (s : List ℕ) (n : ℕ) (r : Option (Bor (List ℕ))) (d : Bor (List ℕ)) {b : Bor (List ℕ)}
    → PartBy (λ x. x.now) s n (length s) r → b ≡ unwrap_or r d → d.now ≡ [] → b.now ≡ drop n s
from_place s n None d h e z =
    let past : length s ≤ n = elim h.0 [ inl p ↦ omega arith | inr p ↦ omega arith ] in
    rw e (z ∙ sym (drop_of_length-le s past))
from_place s n (Some x) d h e z = rw e (h.0.2 ∙ take_all _ (drop n s) (omega (arith, length-drop n s)))

-- The line at the front of some bytes.
pub line_fits : (s : List ℕ) (k : ℕ) → k ≡ length (line_from s 0) → k ≤ length s
line_fits s k e = omega (arith, line-short s)

pub rule_taken : (s : List ℕ) (at : ℕ) {l t : List ℕ} (k : ℕ) → l ≡ drop at s → t ≡ drop (length rule_head) l
    → k ≡ length (line_from t 0) → take k t ≡ rule_from s at
rule_taken s at {l} {t} k p q e =
    let is : t ≡ drop (at + length rule_head) s =
    q ∙ ap (drop (length rule_head)) p ∙ drop-drop (length rule_head) at s in
    rw e (take-line t ∙ ap line is)
