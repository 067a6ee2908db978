-- The closing rows: started from the first start on and not before it, so that the last two flows answer the verdict.
-- Assumes nothing.
use mathlib.Core.Bool.{Bool, true, false, ◌&&◌, cond}
use mathlib.Core.Option.{Option}
use mathlib.Core.Path.{◌≡◌, refl, ◌∙◌}
use Prim.Native.Nat.{ℕ, zero, suc}
use Rattle.traces.specs.Trace.{Trace, truth, idle_verdict, starts}
use Rattle.formulas.specs.Formula.{Formula}
use Rattle.formulas.specs.Meaning.{meaning, latest, since, verdict}
use Rattle.tables.specs.Table.{kind_of}
use Rattle.scheme.specs.Scheme.{◌⊕◌}
use Rattle.scheme.specs.Emit.{whole-es}
use Rattle.scheme.proofs.Local.{on, Stand}
use Rattle.scheme.proofs.Atoms.{Since}
use Rattle.scheme.proofs.Nodes.{Agrees}
use Rattle.scheme.proofs.Starts.{Never, Latest, latest-is}

module _ (cap : ℕ) (trace : Trace) (flow : ℕ → ℕ → ℕ) where
  module _ (s o v : ℕ) (h : Stand cap trace flow o (whole-es s o v)) where
    -- Started at each tick since a start,
    started : (b d : ℕ) → Since (on flow s) b d → on flow (o ⊕ 1) (b ⊕ d) ≡ true
    unfolding kind_of
    started b zero begun = rw (h.1.0 b, begun)
    started b (suc d) begun = rw (h.1.0 (suc (b ⊕ d)), begun.1, h.0.1 (b ⊕ d), started b d begun.0)

    -- and not before any.
    not-started : (e : ℕ) → Never (on flow s) e → on flow (o ⊕ 1) e ≡ false
    unfolding kind_of
    not-started zero never = rw (h.1.0 0, never, h.0.0)
    not-started (suc e) never = rw (h.1.0 (suc e), never.1, h.0.1 e, not-started e never.0)

    -- From the first start on the verdict's flow is the formula's.
    shown : (e : ℕ) → on flow (o ⊕ 2) e ≡ (on flow (o ⊕ 1) e && on flow v e)
    unfolding kind_of
    shown e = h.1.1.0 e

    module _ (begins : (k : ℕ) → on flow s k ≡ starts (trace k)) where
      -- Whatever is answered once started is answered from the first start on, and before it idle.
      pub answers-since : (x : Bool) (e : ℕ)
          → cond (on flow (o ⊕ 1) e) (truth x) idle_verdict ≡ since trace (λ b. x) (latest trace e)
      answers-since x e = go (latest-is trace (on flow s) begins e)
        where
          go : {y : Option ℕ} → Latest (on flow s) e y
              → cond (on flow (o ⊕ 1) e) (truth x) idle_verdict ≡ since trace (λ b. x) y
          go (Latest.never never) = rw (not-started e never)
          go (Latest.since b d end begun) = rw (← end, started b d begun)

      pub whole_is : (f : Formula) → Agrees trace flow s v f → (e : ℕ)
          → cond (on flow (o ⊕ 1) e) (truth (on flow (o ⊕ 2) e)) idle_verdict ≡ verdict trace f e
      whole_is f agree e = answers-since (on flow (o ⊕ 2) e) e ∙ go (latest-is trace (on flow s) begins e)
        where
          go : {y : Option ℕ} → Latest (on flow s) e y
              → since trace (λ b. on flow (o ⊕ 2) e) y ≡ since trace (λ b. meaning trace f b e) y
          go (Latest.never never) = refl
          go (Latest.since b d end begun) = rw (← end, shown (b ⊕ d), started b d begun, agree b d begun)
