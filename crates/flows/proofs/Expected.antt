-- The answers to a list of calls as a list that the calls and the verdicts of their ticks give, where the calls decide
-- by themselves which are refused (SPEC 6.5). Assumes nothing.
use mathlib.Core.Path.{◌≡◌, refl, ◌∙◌, sym, ap, ap₂}
use mathlib.Core.List.{List, [], ◌∷◌}
use Prim.Native.Nat.{ℕ, suc}
use Rattle.traces.specs.declared.Tick.{Tick}
use Rattle.flows.specs.Run.{Call, called, Taken, steps, answered, tick_if, ticks, EachTick}
use Rattle.flows.specs.Run.{admits, refusal_in, CallsDecide}
use Rattle.flows.specs.Run.EachTick.{none, tick as ticked, refused as skipped}
use Rattle.tables.specs.Table.{Checked, passed}
use Rattle.flows.specs.Step.{Stepped}
use Rattle.std.specs.Prelude.{Ok, Err}

-- The ticks of the calls that are admitted.
abbrev tick_for : Checked → Tick → List Tick → List Tick
tick_for (Ok tt) k ks = k ∷ ks
tick_for (Err r) k ks = ks

unfoldable pub admitted : ℕ → ℕ → ℕ → List Call → List Tick
admitted cap velocities n [] = []
admitted cap velocities n (x ∷ xs) = tick_for (admits cap velocities n x) x.tick (admitted cap velocities n xs)

-- The number of the next tick, after a call at the number k.
abbrev next_if : Checked → ℕ → ℕ
next_if (Ok tt) k = suc k
next_if (Err r) k = k

abbrev verdict_if : Checked → ℕ → Stepped
verdict_if (Ok tt) v = Ok v
verdict_if (Err r) v = Err r

-- The answers of a list of calls that begins at the tick numbered k, if v j is the verdict of the tick numbered j.
unfoldable pub expected : ℕ → ℕ → ℕ → (ℕ → ℕ) → ℕ → List Call → List Stepped
expected cap velocities n v k [] = []
expected cap velocities n v k (x ∷ xs) =
    let c = admits cap velocities n x in
    verdict_if c (v k) ∷ expected cap velocities n v (next_if c k) xs

heads : {A : Type 0} {x y : A} {xs ys : List A} → x ∷ xs ≡ y ∷ ys → x ≡ y
heads e = cc

tails : {A : Type 0} {x y : A} {xs ys : List A} → x ∷ xs ≡ y ∷ ys → xs ≡ ys
tails e = cc

-- A step that is not refused is a tick.
tick-for : (a : Stepped) (k : Tick) (ks : List Tick) → tick_if a k ks ≡ tick_for (refusal_in a) k ks
tick-for (Ok v) k ks = refl
tick-for (Err r) k ks = refl

pub decided-ticks : (cap velocities : ℕ) (t : List ℕ) (n : ℕ) (xs : List Call) (state : List ℕ)
    → CallsDecide cap velocities n xs (steps cap velocities t n state xs)
    → ticks (steps cap velocities t n state xs) ≡ admitted cap velocities n xs
unfolding steps admitted
decided-ticks cap velocities t n [] state e = refl
decided-ticks cap velocities t n (x ∷ xs) state e =
    tick-for (called cap velocities t n state x).answer x.tick _
    ∙ ap₂ (λ (c : Checked) (l : List Tick). tick_for c x.tick l) (heads e)
    (decided-ticks cap velocities t n xs _ (tails e))

-- Verdicts at all ticks give the answers.
pub each-expected : (cap velocities n : ℕ) (v : ℕ → ℕ) (xs : List Call) (ss : List Taken) (k : ℕ)
    → CallsDecide cap velocities n xs ss → EachTick (λ k s. s.left.answer ≡ Ok (v k)) k ss
    → answered ss ≡ expected cap velocities n v k xs
unfolding expected
each-expected cap velocities n v [] [] k e none = refl
each-expected cap velocities n v [] (s ∷ ss) k e h = cc
each-expected cap velocities n v (x ∷ xs) [] k e h = cc
each-expected cap velocities n v (x ∷ xs) (s ∷ ss) k e (ticked a p rest) =
    let c : admits cap velocities n x ≡ passed = sym (heads e) ∙ ap refusal_in a in
    rw (p, c)
    (ap (λ (l : List Stepped). Ok (v k) ∷ l) (each-expected cap velocities n v xs ss (suc k) (tails e) rest))
each-expected cap velocities n v (x ∷ xs) (s ∷ ss) k e (skipped {r = r} a rest) =
    let c : admits cap velocities n x ≡ Err r = sym (heads e) ∙ ap refusal_in a in
    rw (a, c) (ap (λ (l : List Stepped). Err r ∷ l) (each-expected cap velocities n v xs ss k (tails e) rest))
