-- The rows of a `then` give its meaning, since a lead that is false stays false (SPEC 3.9): first what the meaning is
-- by where the lead ends, then the phases that the rows go through. Assumes nothing.
use mathlib.Core.Bool.{Bool, true, false, not, ◌&&◌, ◌||◌, true≢false}
use mathlib.Core.Path.{◌≡◌, refl, sym, ap, ap₂, ◌∙◌}
use Prim.Native.Nat.{ℕ, zero, suc, ◌-◌, ◌≤◌}
use native.Mathlib.Omega.{arith}
use Rattle.traces.specs.Trace.{Trace}
use Rattle.formulas.specs.Meaning.{any}
use Rattle.tables.specs.Table.{kind_of}
use Rattle.scheme.specs.Scheme.{◌⊕◌}
use Rattle.scheme.specs.Emit.{lead-end-es, then-es}
use Rattle.scheme.proofs.Offsets.{⊕-add, any_none, any-one}
use Rattle.scheme.proofs.Local.{on, Stand}
use Rattle.scheme.proofs.Atoms.{Since}

-- ---- the meaning

-- What L `then` F asks of m, on an interval from b to e.
abbrev pub ends_at : (ℕ → ℕ → Bool) → (ℕ → ℕ → Bool) → ℕ → ℕ → ℕ → Bool
ends_at l f b e m = l b m && (not (l b (suc m)) && f (suc m) e)

-- A lead l, which stays false once it is, on the intervals from b on, and a second part f.
module _ (l f : ℕ → ℕ → Bool) (b : ℕ) (falls : (d : ℕ) → l b (suc (b ⊕ d)) ≡ true → l b (b ⊕ d) ≡ true) where
  true-since : (i d : ℕ) → l b (b ⊕ (i ⊕ d)) ≡ true → l b (b ⊕ i) ≡ true
  true-since i zero e = e
  true-since i (suc d) e = true-since i d (falls (i ⊕ d) e)

  -- If it is true, it was true before.
  was-true : (i d : ℕ) → i ≤ d → l b (b ⊕ d) ≡ true → l b (b ⊕ i) ≡ true
  was-true i d h e =
      let far : i ⊕ (d - i) ≡ d = rw ⊕-add (omega arith) in
      true-since i (d - i) (rw far e)

  -- If it is false, it stays false.
  stays-false : (i d : ℕ) → i ≤ d → l b (b ⊕ i) ≡ false → l b (b ⊕ d) ≡ false
  stays-false i d h e = go (l b (b ⊕ d)) refl
    where
      go : (x : Bool) → l b (b ⊕ d) ≡ x → l b (b ⊕ d) ≡ false
      go true t = absurd (true≢false (sym (was-true i d h t) ∙ e))
      go false t = t

  -- The lead holds: it has not ended.
  then-waiting : (d e : ℕ) → l b (b ⊕ d) ≡ true → any (ends_at l f b e) b d ≡ false
  then-waiting d e t =
      any_none (ends_at l f b e) b d (λ i h. rw (was-true i d (omega arith) t, was-true (suc i) d h t))

  -- The lead never held: it does not end.
  then-dead : (d e : ℕ) → l b b ≡ false → any (ends_at l f b e) b d ≡ false
  then-dead d e z = any_none (ends_at l f b e) b d (λ i h. rw (stays-false 0 i (omega arith) z))

  -- The lead ended at b ⊕ c: the second part is on the ticks after that.
  then-going : (c j e : ℕ) → l b (b ⊕ c) ≡ true → l b (suc (b ⊕ c)) ≡ false
      → any (ends_at l f b e) b (suc (c ⊕ j)) ≡ f (suc (b ⊕ c)) e
  then-going c j e t z =
      any-one (ends_at l f b e) b c j
      (λ i h. rw (was-true i c (omega arith) t, was-true (suc i) c h t)) (λ i h. rw (stays-false (suc c) i h z))
      ∙ rw (t, z)

-- ---- the rows

-- Where the rows are, d ticks after b, with the lead's values l from b on, the second part's start flow `begins`, and
-- the value `running`: the lead holds; it never held; or it ended at b ⊕ c, and the second part has run for j ticks.
data Phase (l begins : ℕ → Bool) (b : ℕ) (running : Bool) (d : ℕ) : Type 0 where
  waiting : l (b ⊕ d) ≡ true → running ≡ false → Phase l begins b running d
  dead : l b ≡ false → running ≡ false → Phase l begins b running d
  going : (c j : ℕ) → d ≡ suc (c ⊕ j) → l (b ⊕ c) ≡ true → l (suc (b ⊕ c)) ≡ false
      → Since begins (suc (b ⊕ c)) j → running ≡ true → Phase l begins b running d

-- The second part's interval ends where the whole one does.
same_end : (b c j d : ℕ) → d ≡ suc (c ⊕ j) → suc (b ⊕ c) ⊕ j ≡ b ⊕ d
same_end b c j d e = rw e (omega (arith, ⊕-add (suc (b ⊕ c)) j, ⊕-add b c, ⊕-add b (c ⊕ j), ⊕-add c j))

-- The end of the lead p stands at o, the rest at o'; s and n are the start flow and its negation, g the second part.
module _ (cap : ℕ) (trace : Trace) (flow : ℕ → ℕ → ℕ) (s n : ℕ) (negated : (k : ℕ) → on flow n k ≡ not (on flow s k))
    (o o' p g : ℕ) (ending : Stand cap trace flow o (lead-end-es n o p))
    (rest : Stand cap trace flow o' (then-es n o' (o ⊕ 3) g)) where
  -- The second part starts where the lead, true one tick ago, is false.
  begins : (k : ℕ) → on flow s (suc k) ≡ false → on flow (o ⊕ 3) (suc k) ≡ on flow p k && not (on flow p (suc k))
  unfolding kind_of
  begins k e =
      let memory = ending.0.1 k in
      let ended = ending.1.0 (suc k) in
      let before = ending.1.1.0 (suc k) ∙ ap₂ ◌&&◌ (negated (suc k) ∙ ap not e) memory in
      ending.1.1.1.0 (suc k) ∙ ap₂ ◌&&◌ before ended

  pub second-negated : (k : ℕ) → on flow (o ⊕ 4) k ≡ not (on flow (o ⊕ 3) k)
  unfolding kind_of
  second-negated k = ending.1.1.1.1.0 k

  -- It does not run at a start of the whole, and from then on it runs once it has started.
  still : (k : ℕ) → on flow s k ≡ true → on flow (o' ⊕ 2) k ≡ false
  unfolding kind_of
  still k e = rest.1.1.0 k ∙ ap (λ (x : Bool). x && on flow (o' ⊕ 1) k) (negated k ∙ ap not e)

  runs : (k : ℕ) → on flow s (suc k) ≡ false
      → on flow (o' ⊕ 2) (suc k) ≡ on flow (o ⊕ 3) (suc k) || on flow (o' ⊕ 2) k
  unfolding kind_of
  runs k e =
      let memory = rest.0.1 k in
      let started = rest.1.0 (suc k) ∙ ap (λ (x : Bool). on flow (o ⊕ 3) (suc k) || x) memory in
      rest.1.1.0 (suc k) ∙ ap₂ ◌&&◌ (negated (suc k) ∙ ap not e) started

  module _ (l f : ℕ → ℕ → Bool) (b : ℕ) (falls : (d : ℕ) → l b (suc (b ⊕ d)) ≡ true → l b (b ⊕ d) ≡ true)
      (leads : (d : ℕ) → Since (on flow s) b d → on flow p (b ⊕ d) ≡ l b (b ⊕ d)) where
    PhaseAt : ℕ → Type 0
    PhaseAt d = Phase (l b) (on flow (o ⊕ 3)) b (on flow (o' ⊕ 2) (b ⊕ d)) d

    phase : (d : ℕ) → Since (on flow s) b d → PhaseAt d
    unfolding PhaseAt
    phase zero since = go (l b b) refl
      where
        go : (x : Bool) → l b b ≡ x → PhaseAt 0
        go true e = waiting e (still b since)
        go false e = dead e (still b since)
    phase (suc d) since = go (phase d since.0) (l b (suc (b ⊕ d))) refl
      where
        second : on flow (o ⊕ 3) (suc (b ⊕ d)) ≡ l b (b ⊕ d) && not (l b (suc (b ⊕ d)))
        second = rw (begins (b ⊕ d) since.1, leads d since.0, leads (suc d) since)

        run : on flow (o' ⊕ 2) (suc (b ⊕ d)) ≡ on flow (o ⊕ 3) (suc (b ⊕ d)) || on flow (o' ⊕ 2) (b ⊕ d)
        run = runs (b ⊕ d) since.1

        go : PhaseAt d → (x : Bool) → l b (suc (b ⊕ d)) ≡ x → PhaseAt (suc d)
        go (waiting t r) true e = waiting e (rw (run, second, r, t, e))
        go (waiting t r) false e =
            let start : on flow (o ⊕ 3) (suc (b ⊕ d)) ≡ true = rw (second, t, e) in
            going d 0 refl t e start (rw (run, start))
        go (dead z r) x e =
            let no_more = stays-false l f b falls 0 d (omega arith) z in
            dead z (rw (run, second, r, no_more))
        go (going c j q t z starting r) x e =
            let no_more = stays-false l f b falls (suc c) d (rw (q, ⊕-add) (omega arith)) z in
            let no_start : on flow (o ⊕ 3) (suc (b ⊕ d)) ≡ false = rw (second, no_more) in
            going c (suc j) (ap suc q) t z (starting, rw (same_end b c j d q) no_start) (rw (run, no_start, r))

    pub then_is : ((b d : ℕ) → Since (on flow (o ⊕ 3)) b d → on flow g (b ⊕ d) ≡ f b (b ⊕ d))
        → (d : ℕ) → Since (on flow s) b d → on flow (o' ⊕ 3) (b ⊕ d) ≡ any (ends_at l f b (b ⊕ d)) b d
    unfolding PhaseAt kind_of
    then_is seconds d since = rw (rest.1.1.1.0 (b ⊕ d)) (go (phase d since))
      where
        go : PhaseAt d → on flow (o' ⊕ 2) (b ⊕ d) && on flow g (b ⊕ d) ≡ any (ends_at l f b (b ⊕ d)) b d
        go (waiting t r) = rw r (sym (then-waiting l f b falls d (b ⊕ d) t))
        go (dead z r) = rw r (sym (then-dead l f b falls d (b ⊕ d) z))
        go (going c j q t z starting r) =
            let end : suc (b ⊕ c) ⊕ j ≡ b ⊕ d = same_end b c j d q in
            let second : on flow g (b ⊕ d) ≡ f (suc (b ⊕ c)) (b ⊕ d) = rw end at (seconds (suc (b ⊕ c)) j starting) in
            rw (r, second) (sym (rw q (then-going l f b falls c j (b ⊕ suc (c ⊕ j)) t z)))
