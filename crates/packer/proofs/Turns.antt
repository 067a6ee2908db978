-- The turns of a round (`round_of`): after each, the classes are those of a quicker round so far, the chains are right,
-- and the names of later equations are kept, as are all numbers of the chains past n. Assumes nothing.
use mathlib.Core.Path.{◌≡◌, refl, ◌∙◌, sym}
use mathlib.Core.Bool.{true}
use mathlib.Core.List.{List}
use Prim.Native.Nat.{ℕ, zero, suc, ◌+◌, ◌≤◌, ◌<◌}
use native.Mathlib.Omega.{arith}
use native.Mathlib.Numerals.{add-one}
use lib.ListN.{length, set, length-set}
use lib.Seq.{get_or-set_same, get_or-set_other}
use Rattle.lists.specs.Number.{number_at}
use Rattle.tables.specs.Table.{all, equation_fits}
use Rattle.packing.specs.Search.{first}
use Rattle.tables.specs.declared.Equation.{Equation}
use Rattle.packer.specs.Round.{quick_key, same_quick_key, Quick, bucket_of, Chains, chains, head_after}
use Rattle.packer.specs.Round.{entered, cleared, round_of}
use Rattle.packer.proofs.Cleared.{length-cleared, cleared_at, cleared-set, cleared-again}
use Rattle.packer.proofs.Quick.{quick-more}
use Rattle.packer.proofs.Buckets.{set-kept, class_in, Buckets, buckets-none, buckets-more}
use Rattle.packer.proofs.Spread.{bucket-below}

-- The buffers w₀ have become w in the first i turns of a round after the classes p.
pub record Turned (t : List ℕ) (n : ℕ) (p : ℕ → ℕ) (w₀ : Chains) (i : ℕ) (w : Chains) : Type 0 where
  pub names : length w.names ≡ length w₀.names
  pub next : length w.next ≡ length w₀.next
  pub heads : length w.heads ≡ length w₀.heads
  pub quick : Quick t i p (class_in w)
  pub buckets : Buckets t (bucket_of n) n p i w
  pub beyond : (x : ℕ) → i ≤ x → class_in w x ≡ class_in w₀ x
  pub rest-next : cleared n w.next ≡ cleared n w₀.next
  pub rest-heads : cleared n w.heads ≡ cleared n w₀.heads

module _ (t : List ℕ) (n : ℕ) (p : ℕ → ℕ) (w₀ : Chains) where
  -- What a turn of the program does: j is the class of equation i, x its key, b its bucket and h the new head.
  pub turn : (w : Chains) (i : ℕ) (x : Equation) {j b h : ℕ} → w ≡ round_of t p n w₀ i
      → x ≡ quick_key t (class_in w) p i → b ≡ bucket_of n x
      → j ≡ first (same_quick_key t (class_in w) p i) i → h ≡ head_after i j (number_at w.heads b)
      → chains (set w.names i j) (set w.next i (number_at w.heads b)) (set w.heads b h)
      ≡ round_of t p n w₀ (i + 1)
  unfolding round_of
  turn w i x e key bucket class head = rw (add-one i, ← e, ← key, ← bucket, ← class, head)

module _ (velocities : ℕ) (t : List ℕ) (n : ℕ) (p : ℕ → ℕ) (w₀ : Chains)
    (fit : all (equation_fits velocities t n) n ≡ true) (names : n ≤ length w₀.names)
    (next : n ≤ length w₀.next) (heads : n ≤ length w₀.heads) where
  -- One turn more.
  turned_more : (i : ℕ) (w : Chains) → i < n → Turned t n p w₀ i w → Turned t n p w₀ (suc i) (entered t p n w i)
  turned_more i w l T =
      let j = first (same_quick_key t (class_in w) p i) i in
      let room : i < length w.names = omega (arith, T.names) in
      record {
        names = rw length-set T.names;
        next = rw length-set T.next;
        heads = rw length-set T.heads;
        quick =
            quick-more velocities t n fit p p (class_in w) _ i (λ x u. refl) (λ x u. sym (set-kept w.names i j x u)) l
            T.quick (get_or-set_same w.names i j 0 room);
        buckets =
            buckets-more velocities t n fit (bucket_of n) n (λ e. bucket-below n e (omega arith)) p w i j l room
            (omega (arith, T.next)) (omega (arith, T.heads)) T.buckets;
        beyond = λ x u. get_or-set_other w.names i x j 0 (λ (q : x ≡ i). omega arith) ∙ T.beyond x (omega arith);
        rest-next = cleared-set n w.next i _ l ∙ T.rest-next;
        rest-heads = cleared-set n w.heads _ _ (bucket-below n _ (omega arith)) ∙ T.rest-heads;
      }

  -- Each of the n turns.
  pub turned : (i : ℕ) → i ≤ n → Turned t n p w₀ i (round_of t p n w₀ i)
  unfolding round_of
  turned zero l =
      record {
        names = refl;
        next = refl;
        heads = length-cleared n w₀.heads heads;
        quick = record { entry = λ i u. absurd (omega arith) };
        buckets = buckets-none t (bucket_of n) n p _ (cleared_at n w₀.heads);
        beyond = λ x u. refl;
        rest-next = refl;
        rest-heads = cleared-again n w₀.heads;
      }
  turned (suc i) l = turned_more i (round_of t p n w₀ i) l (turned i (omega arith))

  -- What is known of buffers that are those after i turns.
  pub turned_to : {i : ℕ} {w : Chains} → w ≡ round_of t p n w₀ i → i ≤ n → Turned t n p w₀ i w
  turned_to {i} e l = rw e (turned i l)
