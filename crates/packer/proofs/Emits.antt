-- The packed table stored equation by equation: before equation i, those kept below i stand at the front. Assumes
-- nothing.
use mathlib.Core.Path.{◌≡◌, refl, ◌∙◌, sym, ap}
use mathlib.Core.Bool.{Bool, true, false}
use mathlib.Core.List.{List}
use Prim.Native.Nat.{ℕ, ◌+◌, ◌*◌, ◌≤◌, ◌<◌}
use native.Mathlib.Omega.{arith}
use native.Mathlib.Numerals.{add-one}
use lib.ListN.{length}
use lib.Seq.{sets, length-sets}
use Rattle.lists.specs.Number.{number_at}
use Rattle.lists.proofs.Buffers.{sets-append}
use Rattle.traces.specs.Trace.{truth}
use Rattle.traces.proofs.Laws.{nonzero-truth}
use Rattle.tables.specs.Table.{equation_at}
use Rattle.packing.specs.Search.{count}
use Rattle.packing.specs.Pack.{renamed, classes, kept, numbers, packed_below}
use Rattle.packing.proofs.Searches.{count_none, count-more, count_same, count-le}
use Rattle.packing.proofs.Result.{kept_more, kept_same, length-packed}
use Rattle.packer.specs.Round.{quick_key, Fitted}
use Rattle.packer.specs.Place.{Marked, place_at, Placed, numbers_of}
use Rattle.tables.specs.declared.Equation.{Equation}
use Rattle.packer.proofs.Quick.{mixed-renamed, key-agree}

-- What is stored of the equations below i.
abbrev below : List ℕ → ℕ → ℕ → List ℕ
below t n i = packed_below t (classes t n) (kept t n) i

-- The loop: so many are stored, and nothing else is changed in the second table.
pub record Emitting (t : List ℕ) (n : ℕ) (second now : List ℕ) (size i : ℕ) : Type 0 where
  pub within : i ≤ n
  pub stored : now ≡ sets second 0 (below t n i)
  pub counted : size ≡ count (kept t n) i

-- A mark is not 0 exactly where the equation is kept.
module _ (t : List ℕ) (n : ℕ) (m : List ℕ) (M : Marked t n m) (i : ℕ) (l : i < n) where
  pub not-zero : (number_at m i ≡ 0 → ⊥) → kept t n i ≡ true
  not-zero h = by_value (kept t n i) (λ e. h (M i l ∙ e))
    where
      by_value : (b : Bool) → (truth b ≡ 0 → ⊥) → b ≡ true
      by_value true h = refl
      by_value false h = absurd (h refl)

  pub is_zero : number_at m i ≡ 0 → kept t n i ≡ false
  is_zero e = sym (nonzero-truth (kept t n i)) ∙ rw (← M i l, e)

module _ (t : List ℕ) (n : ℕ) (F : Fitted t n) (second : List ℕ) where
  pub emit-none : Emitting t n second second 0 0
  unfolding packed_below
  emit-none = record { within = omega arith; stored = refl; counted = sym (count_none (kept t n)) }

  -- The key of equation i by the places is the equation with its operands renamed.
  key-renamed : (places : List ℕ) → Placed t n places → (i : ℕ) → i < n
      → quick_key t (number_at places) (number_at places) i ≡ renamed (place_at t n) (equation_at t i)
  key-renamed places P i l =
      let names = number_at places in
      let names' = place_at t n in
      key-agree F.velocities t n F.equations names names' names names' n P P i (omega arith) l
      ∙ mixed-renamed names' (equation_at t i)

  module _ {now : List ℕ} {size i : ℕ} (E : Emitting t n second now size i) where
    pub emit-length : length now ≡ length second
    emit-length = rw E.stored (length-sets second 0 (below t n i))

    pub emit-few : size ≤ i
    emit-few = omega (arith, E.counted, count-le (kept t n) i)

    -- It is stored where it is kept,
    pub emit-more : i < n → kept t n i ≡ true → (places : List ℕ) → Placed t n places → (x : Equation)
        → x ≡ quick_key t (number_at places) (number_at places) i → {then : List ℕ} {size' : ℕ}
        → then ≡ sets now (4 * size) (numbers_of x) → size' ≡ size + 1 → Emitting t n second then size' (i + 1)
    emit-more l k places P x e h one =
        let c = classes t n in
        let m = kept t n in
        let at : 4 * size ≡ 0 + length (below t n i) = omega (arith, E.counted, length-packed t c m i) in
        let four : numbers_of x ≡ numbers t c m (renamed (place_at t n) (equation_at t i)) =
        ap (numbers t c m) (e ∙ key-renamed places P i l) in
        record {
          within = omega arith;
          stored = h ∙ (λ a. sets (E.stored a) (at a) (four a))
              ∙ sets-append second 0 (below t n i) (numbers t c m (renamed (place_at t n) (equation_at t i)))
              ∙ ap (sets second 0) (sym (kept_more t c m i k)) ∙ rw (add-one i);
          counted = one ∙ rw (add-one i, E.counted, count-more (kept t n) i k) (omega arith);
        }

    -- and else nothing is.
    pub emit-other : i < n → kept t n i ≡ false → {then : List ℕ} {size' : ℕ} → then ≡ now → size' ≡ size
        → Emitting t n second then size' (i + 1)
    emit-other l k same none =
        let others = sym (kept_same t (classes t n) (kept t n) i k) in
        record {
          within = omega arith;
          stored = same ∙ E.stored ∙ ap (sets second 0) others ∙ rw (add-one i);
          counted = none ∙ rw (add-one i, E.counted, count_same (kept t n) i k);
        }
