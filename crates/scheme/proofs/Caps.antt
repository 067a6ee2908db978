-- A count held at the cap compares with any number below the cap as the unheld count does. Assumes nothing.
use mathlib.Core.Bool.{Bool, true, false, cond}
use mathlib.Core.Path.{◌≡◌, refl, sym, ap, ◌∙◌}
use Prim.Native.Nat.{ℕ, suc, ◌+◌, ◌<◌, min}
use native.Mathlib.Decide.{dec_le}
use native.Mathlib.Nat.{min-eq_right, min-zero}
use native.Mathlib.Omega.{arith}
use borrow.Author.Tests.{lt-leb, le-leb, lt-ltb, le-ltb, ne_eqb}
use Rattle.traces.specs.Compare.{compares}
use Rattle.traces.specs.declared.Op.{Op}
use Rattle.traces.specs.declared.Op.TheVariants.{AtMost as le, Below as lt, Equal as eq, Above as gt, AtLeast as ge}
use Rattle.flows.specs.Flow.{increased}

-- What a comparison says of every number above n.
abbrev above : Op → Bool
above le = false
above lt = false
above eq = false
above gt = true
above ge = true

compares-above : (o : Op) (x n : ℕ) → n < x → compares o x n ≡ above o
compares-above le x n h = lt-leb x n h
compares-above lt x n h = le-ltb x n (omega arith)
compares-above eq x n h = ne_eqb x n (omega arith)
compares-above gt x n h = lt-ltb n x h
compares-above ge x n h = le-leb n x (omega arith)

module _ (cap : ℕ) where
  pub compares-held : (o : Op) (x n : ℕ) → n < cap → compares o (min cap x) n ≡ compares o x n
  compares-held o x n h =
      elim (dec_le x cap) [
        | yes below ↦ ap (λ (y : ℕ). compares o y n) (min-eq_right below)
        | no beyond ↦ compares-above o (min cap x) n (omega arith) ∙ sym (compares-above o x n (omega arith))
      ]

  -- One more, of a held count.
  pub held_more : (x : ℕ) → min cap (min cap x + 1) ≡ min cap (suc x)
  held_more x = omega arith

  -- One more if `more`,
  pub increased-held : (x : ℕ) (more : Bool) → increased cap (min cap x) more ≡ min cap (cond more (suc x) x)
  unfolding increased
  increased-held x true = held_more x
  increased-held x false = refl

  -- and 0 if not.
  pub restarted-held : (x : ℕ) (more : Bool)
      → cond more (increased cap (min cap x) more) 0 ≡ min cap (cond more (suc x) 0)
  unfolding increased
  restarted-held x true = held_more x
  restarted-held x false = sym (min-zero cap)

  -- The first of a count, if there is one.
  pub first-held : (more : Bool) → cond more (increased cap 0 more) 0 ≡ min cap (cond more 1 0)
  first-held more = ap (λ (x : ℕ). cond more (increased cap x more) 0) (sym (min-zero cap)) ∙ restarted-held 0 more
