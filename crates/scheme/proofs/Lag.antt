-- The rows of a `lag` give its meaning, from the latest start on: by induction on the ticks since that start. At the
-- start nothing is due, since there is no run of P before it. At a tick after it, the run of P up to one tick ago
-- decides whether Q is asked for (formulas, proofs/Meaning.antt: `lagged-next`), and the last rows take this together
-- with what was so one tick ago. Assumes nothing.
use mathlib.Core.Bool.{Bool, true, false, not, ◌||◌}
use mathlib.Core.Path.{◌≡◌, refl, sym, ap₂, ◌∙◌}
use Prim.Native.Nat.{ℕ, zero, suc, ◌-◌, ◌<◌, min}
use native.Mathlib.Nat.{min-zero}
use native.Mathlib.Omega.{arith}
use lib.Dec.{leb, ltb}
use borrow.Author.Tests.{le-leb}
use Rattle.traces.specs.Trace.{Trace}
use Rattle.traces.specs.declared.Op.TheVariants.{AtMost as le, Below as lt}
use Rattle.formulas.specs.Formula.{Num}
use Rattle.formulas.specs.Formula.Num.{literal}
use Rattle.formulas.specs.Meaning.{value, streak, lagged}
use Rattle.formulas.proofs.Meaning.{lagged-next}
use Rattle.tables.specs.Table.{kind_of}
use Rattle.scheme.specs.Scheme.{◌⊕◌}
use Rattle.scheme.specs.Emit.{run-es, fine-es, always-es}
use Rattle.scheme.proofs.Offsets.{⊕-add, span}
use Rattle.scheme.proofs.Local.{on, Stand}
use Rattle.scheme.proofs.Atoms.{Since, run_is, compare-is}

-- The start flow s and its negation n. x has one value, which is below the cap.
module _ (cap : ℕ) (trace : Trace) (flow : ℕ → ℕ → ℕ) (s n : ℕ)
    (negated : (k : ℕ) → on flow n k ≡ not (on flow s k))
    (x : Num) (same : (i j : ℕ) → value x (trace i) ≡ value x (trace j)) (small : (k : ℕ) → value x (trace k) < cap)
    -- P and its run,
    (o p : ℕ) (P : ℕ → Bool) (says-p : (k : ℕ) → on flow p k ≡ P k) (run : Stand cap trace flow o (run-es n o p))
    -- Q, and whether it holds where it is asked for,
    (o'' q : ℕ) (Q : ℕ → Bool) (says-q : (k : ℕ) → on flow q k ≡ Q k)
    (fine : Stand cap trace flow o'' (fine-es x o'' (o ⊕ 1) q))
    -- and that it was so at each tick.
    (always : Stand cap trace flow (o'' ⊕ 4) (always-es s (o'' ⊕ 4) (o'' ⊕ 3)))
  where
    -- What the second rows say at tick k, where c is the run up to one tick ago.
    fine-is : (k c : ℕ) → flow k (o ⊕ 1) ≡ min cap c
        → on flow (o'' ⊕ 3) k ≡ ((ltb c (value x (trace k)) || leb c 0) || Q k)
    unfolding kind_of
    fine-is k c ago =
        let short = compare-is cap trace flow o'' (o ⊕ 1) lt x (fine.0, tt) k c (small k) ago in
        let positive : 0 < cap = omega (arith, small k) in
        let none = compare-is cap trace flow (o'' ⊕ 1) (o ⊕ 1) le (literal 0) (fine.1.0, tt) k c positive ago in
        fine.1.1.1.0 k ∙ ap₂ ◌||◌ (fine.1.1.0 k ∙ ap₂ ◌||◌ short none) (says-q k)

    pub lag-is : (b d : ℕ) → Since (on flow s) b d
        → on flow (o'' ⊕ 6) (b ⊕ d) ≡ lagged P (value x (trace (b ⊕ d))) Q b (b ⊕ d)
    unfolding kind_of
    lag-is b zero since =
        let run-now : flow b (o ⊕ 1) ≡ min cap 0 = rw (run.1.0 b, negated b, since) (sym (min-zero cap)) in
        let none : b - b ≡ 0 = omega arith in
        rw (always.1.1.0 b, always.1.0 b, since, fine-is b 0 run-now, le-leb 0 0 (omega arith), none)
        (either (ltb 0 (value x (trace b))) (Q b))
      where
        either : (y z : Bool) → ((y || true) || z) ≡ true
        either true z = refl
        either false z = refl
    lag-is b (suc d) since =
        let k : ℕ = suc (b ⊕ d) in
        let r : ℕ = streak P (b ⊕ d) d in
        let counted = run_is cap trace flow s n negated o p P says-p run b d since.0 in
        let run-ago : flow k (o ⊕ 1) ≡ min cap r =
        rw (run.1.0 k, negated k, since.1, run.0.1 (b ⊕ d)) counted in
        let before = always.0.1 (b ⊕ d) ∙ lag-is b d since.0 in
        rw (always.1.1.0 k, always.1.0 k, since.1, before, fine-is k r run-ago, same (b ⊕ d) k, span b d)
        (sym (rw (span b d) at (lagged-next P (value x (trace k)) Q b (b ⊕ d) (rw ⊕-add (omega arith)))))
