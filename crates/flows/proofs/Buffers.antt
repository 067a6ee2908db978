-- Laws of the flows of a tick and of what is written to the state. Assumes nothing.
use mathlib.Core.Path.{◌≡◌, refl, ◌∙◌, ap}
use mathlib.Core.Bool.{Bool, true, false, cond}
use mathlib.Core.List.{List, [], ◌∷◌, ◌++◌, append_assoc}
use mathlib.Core.Logic.{◌≢◌}
use Prim.Native.Nat.{ℕ, zero, suc, ◌+◌, ◌≤◌, ◌<◌}
use native.Mathlib.Omega.{arith}
use native.Mathlib.Numerals.{add-one}
use native.Mathlib.Decide.{ℕ_discrete}
use lib.ListN.{length, get_or, set, drop, length-append, length-set, get_or-append}
use lib.Seq.{drop-cons, set_at, get_or_at, get_or-set_same, get_or-set_other}
use Rattle.traces.specs.declared.Tick.{Tick}
use Rattle.lists.specs.Number.{number_at}
use Rattle.tables.specs.Table.{kind_at}
use Rattle.flows.specs.Flow.{value_at, flows, memories_set}
use Rattle.tables.specs.Table.{is_memory}

-- The flows of a tick.
module _ (cap : ℕ) (t : List ℕ) (k : Tick) (state : List ℕ) where
  pub length-flows : (i : ℕ) → length (flows cap t k state i) ≡ i
  unfolding flows
  length-flows zero = refl
  length-flows (suc i) = rw (length-append, length-flows i) (add-one i)

  pub flows-none : flows cap t k state 0 ≡ []
  unfolding flows
  flows-none = refl

  -- Flow i, after the first i,
  flows-new : (i : ℕ) → number_at (flows cap t k state (suc i)) i ≡ value_at cap t k state (flows cap t k state i) i
  unfolding flows
  flows-new i =
      get_or_at (flows cap t k state i) (value_at cap t k state (flows cap t k state i) i) [] 0 i (length-flows i)

  -- which are kept.
  flows-old : (i j : ℕ) → j < i → number_at (flows cap t k state (suc i)) j ≡ number_at (flows cap t k state i) j
  unfolding flows
  flows-old i j h =
      get_or-append (flows cap t k state i) (value_at cap t k state (flows cap t k state i) i ∷ []) 0 j
      (rw (length-flows i) h)

  -- A flow is the same among the first i and among the first n.
  pub flows-kept : (n i j : ℕ) → j < i → i ≤ n
      → number_at (flows cap t k state n) j ≡ number_at (flows cap t k state i) j
  flows-kept zero i j h g = absurd (omega arith)
  flows-kept (suc n) i j h g =
      elim (ℕ_discrete i (suc n)) [
        | yes q ↦ rw q
        | no q ↦ flows-old n j (omega arith) ∙ flows-kept n i j h (omega arith)
      ]

  -- Flow i of n is the value of equation i after the flows before it.
  pub flows-at : (n i : ℕ) → i < n
      → number_at (flows cap t k state n) i ≡ value_at cap t k state (flows cap t k state i) i
  flows-at n i h = flows-kept n (suc i) i (omega arith) h ∙ flows-new i

  -- The loop that fills a buffer: flow i is stored after the first i.
  pub flows-store : (i x : ℕ) (values : List ℕ) → i < length values
      → x ≡ value_at cap t k state (flows cap t k state i) i
      → set (flows cap t k state i ++ drop i values) i x ≡ flows cap t k state (i + 1) ++ drop (i + 1) values
  unfolding flows
  flows-store i x values h e =
      ap (λ (l : List ℕ). set (flows cap t k state i ++ l) i x) (drop-cons values i 0 h)
      ∙ set_at (flows cap t k state i) (get_or values i 0) (drop (suc i) values) x i (length-flows i)
      ∙ rw (add-one i, ← e, append_assoc)

-- What is written to the state.
module _ (t : List ℕ) (f : ℕ → ℕ) where
  store_length : (b : Bool) (i : ℕ) (state : List ℕ) → length (cond b (set state i (f i)) state) ≡ length state
  store_length true i state = length-set state i (f i)
  store_length false i state = refl

  pub length-memories : (n : ℕ) (state : List ℕ) → length (memories_set t f n state) ≡ length state
  unfolding memories_set
  length-memories zero state = refl
  length-memories (suc i) state =
      store_length (is_memory (kind_at t i)) i (memories_set t f i state) ∙ length-memories i state

  store_other : (b : Bool) (i j : ℕ) (state : List ℕ) → j ≢ i
      → number_at (cond b (set state i (f i)) state) j ≡ number_at state j
  store_other true i j state q = get_or-set_other state i j (f i) 0 q
  store_other false i j state q = refl

  -- The cell of a memory below n has what is written to it.
  pub set-cell : (n i : ℕ) (state : List ℕ) → i < n → n ≤ length state → is_memory (kind_at t i) ≡ true
      → number_at (memories_set t f n state) i ≡ f i
  unfolding memories_set
  set-cell zero i state h room m = absurd (omega arith)
  set-cell (suc n) i state h room m =
      elim (ℕ_discrete i n) [
        | yes q ↦ rw (q, rw q at m)
            (get_or-set_same (memories_set t f n state) n (f n) 0 (rw (length-memories n state) room))
        | no q ↦ store_other (is_memory (kind_at t n)) n i (memories_set t f n state) q
            ∙ set-cell n i state (omega arith) (omega arith) m
      ]

-- The loop that writes: the memories among the first i equations are set, and `state` has become `cells`. The cell of a
-- memory is set,
pub set-memory : (t : List ℕ) (f : ℕ → ℕ) (i : ℕ) (state : List ℕ) {cells after : List ℕ} (x : ℕ)
    → cells ≡ memories_set t f i state → is_memory (kind_at t i) ≡ true → x ≡ f i → after ≡ set cells i x
    → after ≡ memories_set t f (i + 1) state
unfolding memories_set
set-memory t f i state x h m e a = a ∙ rw (add-one i, m, h, e)

-- and any other is kept.
pub set_other : (t : List ℕ) (f : ℕ → ℕ) (i : ℕ) (state : List ℕ) {cells after : List ℕ}
    → cells ≡ memories_set t f i state → is_memory (kind_at t i) ≡ false → after ≡ cells
    → after ≡ memories_set t f (i + 1) state
unfolding memories_set
set_other t f i state h m a = a ∙ rw (add-one i, m) h
