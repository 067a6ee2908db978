-- Two traces that differ at most in parameters which a formula does not name give it one meaning on every interval and
-- one verdict at every tick: by recursion on the formula, and on the ticks for the latest start. Assumes nothing.
use mathlib.Core.Bool.{Bool, true, not, ◌&&◌, ◌||◌, cond}
use mathlib.Core.Option.{Option, some, none}
use mathlib.Core.Path.{◌≡◌, refl, ap, ap₂, ◌∙◌, fun_ext}
use Prim.Native.Nat.{ℕ, zero, suc, ◌-◌}
use lib.Dec.{eqb, ltb}
use borrow.Author.Tests.{eq-eqb}
use Rattle.traces.specs.Trace.{Trace, parameter_at, bit, nonzero}
use Rattle.traces.specs.Compare.{compares}
use Rattle.formulas.specs.Formula.{Num, Prop, Formula}
use Rattle.formulas.specs.Formula.Num.{literal, parameter}
use Rattle.formulas.specs.Formula.Prop.{constant, signal, velocity, neg_p, and_p, or_p}
use Rattle.formulas.specs.Formula.Test.{begin, end, point, held, kept}
use Rattle.formulas.specs.Formula.Count.{sum, age}
use Rattle.formulas.specs.Formula.Formula.{test, len, count, lag, neg, and, or, then}
use Rattle.formulas.specs.Meaning.{value, at, each, any, tally, streak, lagged, meaning, latest, since, verdict}
use Rattle.formulas.specs.Names.{num_names, names_parameter}
use Rattle.formulas.specs.Raw.{raw_p, raw}
use Rattle.formulas.proofs.Named.{named-left, named-right}

module _ (trace trace' : Trace) where
  -- The named parameters are the same in both.
  abbrev pub SameNamed : (ℕ → Bool) → Type 0
  SameNamed named = (j : ℕ) → named j ≡ true → (i : ℕ) → parameter_at (trace i) j ≡ parameter_at (trace' i) j

  value-alike : (n : Num) → SameNamed (num_names n) → (i : ℕ) → value n (trace i) ≡ value n (trace' i)
  value-alike (literal n) h i = refl
  value-alike (parameter j) h i = h j (eq-eqb j j refl) i

  module _ (signals : (i : ℕ) → (trace i).signals ≡ (trace' i).signals)
      (velocities : (i : ℕ) → (trace i).velocity ≡ (trace' i).velocity) where
    -- P at each tick,
    at-alike : (p : Prop) (i : ℕ) → at trace p i ≡ at trace' p i
    at-alike (constant c) i = refl
    at-alike (signal j) i = ap (λ (x : ℕ). nonzero (bit x j)) (signals i)
    at-alike (velocity o n) i = ap (λ (x : ℕ). compares o x n) (velocities i)
    at-alike (neg_p p) i = ap not (at-alike p i)
    at-alike (and_p p q) i = ap₂ ◌&&◌ (at-alike p i) (at-alike q i)
    at-alike (or_p p q) i = ap₂ ◌||◌ (at-alike p i) (at-alike q i)

    -- and so at all ticks at once.
    ats : (p : Prop) → at trace p ≡ at trace' p
    ats p = fun_ext (at-alike p)

    -- A formula on each interval.
    pub meaning-alike : (f : Formula) → SameNamed (names_parameter (raw f)) → (b e : ℕ)
        → meaning trace f b e ≡ meaning trace' f b e
    meaning-alike (test begin p) h b e = at-alike p b
    meaning-alike (test end p) h b e = at-alike p e
    meaning-alike (test point p) h b e = ap (λ (x : Bool). eqb b e && x) (at-alike p b)
    meaning-alike (test kept p) h b e = ap (λ (x : ℕ → Bool). each x b (e - b)) (ats p)
    meaning-alike (test held p) h b e = ap (λ (x : ℕ → Bool). ltb b e && each x b (e - b)) (ats p)
    meaning-alike (len o n) h b e = ap (compares o (e - b)) (value-alike n h e)
    meaning-alike (count sum p o n) h b e =
        ap₂ (λ (x : ℕ → Bool) (y : ℕ). compares o (tally x b (e - b)) y) (ats p)
        (value-alike n (named-right (names_parameter (raw_p p)) (num_names n) h) e)
    meaning-alike (count age p o n) h b e =
        ap₂ (λ (x : ℕ → Bool) (y : ℕ). compares o (streak x e (e - b)) y) (ats p)
        (value-alike n (named-right (names_parameter (raw_p p)) (num_names n) h) e)
    meaning-alike (lag p n q) h b e =
        let numbers = named-left (num_names n) (names_parameter (raw_p q)) (named-right (names_parameter (raw_p p)) _ h)
        in
        ap₂ (λ (x y : ℕ → Bool). lagged x (value n (trace e)) y b e) (ats p) (ats q)
        ∙ ap (λ (v : ℕ). lagged (at trace' p) v (at trace' q) b e) (value-alike n numbers e)
    meaning-alike (neg f) h b e = ap not (meaning-alike f h b e)
    meaning-alike (and f g) h b e =
        ap₂ ◌&&◌ (meaning-alike f (named-left (names_parameter (raw f)) (names_parameter (raw g)) h) b e)
        (meaning-alike g (named-right (names_parameter (raw f)) (names_parameter (raw g)) h) b e)
    meaning-alike (or f g) h b e =
        ap₂ ◌||◌ (meaning-alike f (named-left (names_parameter (raw f)) (names_parameter (raw g)) h) b e)
        (meaning-alike g (named-right (names_parameter (raw f)) (names_parameter (raw g)) h) b e)
    meaning-alike (then l f) h b e =
        let first = meaning-alike l (named-left (names_parameter (raw l)) (names_parameter (raw f)) h) b in
        let second = meaning-alike f (named-right (names_parameter (raw l)) (names_parameter (raw f)) h) in
        ap (λ (x : ℕ → Bool). any x b (e - b)) (fun_ext (λ m. rw (first m, first (suc m), second (suc m) e)))

    module _ (begins : (i : ℕ) → (trace i).start ≡ (trace' i).start) where
      latest-alike : (e : ℕ) → latest trace e ≡ latest trace' e
      latest-alike zero = ap (λ (x : ℕ). cond (nonzero x) (some zero) none) (begins zero)
      latest-alike (suc e) =
          ap₂ (λ (x : ℕ) (y : Option ℕ). cond (nonzero x) (some (suc e)) y) (begins (suc e)) (latest-alike e)

      -- The verdict at each tick.
      pub verdict-alike : (f : Formula) → SameNamed (names_parameter (raw f)) → (e : ℕ)
          → verdict trace f e ≡ verdict trace' f e
      verdict-alike f h e =
          ap₂ (since trace) (fun_ext (λ b. meaning-alike f h b e)) (latest-alike e)
