-- The latest start of the ticks up to e: there is none, or it is d ticks before e. Assumes nothing.
use mathlib.Core.Bool.{Bool, true, false, cond}
use mathlib.Core.Option.{Option, none, some}
use mathlib.Core.Path.{◌≡◌, refl, ap}
use Prim.Native.Nat.{ℕ, zero, suc}
use Rattle.traces.specs.Trace.{Trace, starts}
use Rattle.formulas.specs.Meaning.{latest}
use Rattle.scheme.specs.Scheme.{◌⊕◌}
use Rattle.scheme.proofs.Atoms.{Since}

-- None of the ticks up to e has s.
abbrev pub Never : (ℕ → Bool) → ℕ → Type 0
Never s zero = s 0 ≡ false
Never s (suc e) = Never s e × (s (suc e) ≡ false)

-- What the latest start of the ticks up to e is.
pub data Latest (s : ℕ → Bool) (e : ℕ) : Option ℕ → Type 0 where
  never : Never s e → Latest s e none
  since : (b d : ℕ) → b ⊕ d ≡ e → Since s b d → Latest s e (some b)

-- One tick more without a start: the latest start stays the latest.
stays : {s : ℕ → Bool} {e : ℕ} {x : Option ℕ} → s (suc e) ≡ false → Latest s e x → Latest s (suc e) x
stays z (never h) = never (h, z)
stays z (since b d p h) = since b (suc d) (ap suc p) (h, rw p z)

-- A flow s that is true exactly at the starts.
module _ (trace : Trace) (s : ℕ → Bool) (same : (k : ℕ) → s k ≡ starts (trace k)) where
  pub latest-is : (e : ℕ) → Latest s e (latest trace e)
  latest-is zero = go (starts (trace 0)) (same 0)
    where
      go : (x : Bool) → s 0 ≡ x → Latest s 0 (cond x (some 0) none)
      go true h = since 0 0 refl h
      go false h = never h
  latest-is (suc e) = go (starts (trace (suc e))) (same (suc e)) (latest-is e)
    where
      go : (x : Bool) → s (suc e) ≡ x → Latest s e (latest trace e)
          → Latest s (suc e) (cond x (some (suc e)) (latest trace e))
      go true h before = since (suc e) 0 refl h
      go false h before = stays h before
