-- The chains of a round, by buckets, for any function that gives a key its bucket: the chain in which the next equation
-- is looked for, the buckets after one equation more, and the walk of a chain. Assumes nothing.
use mathlib.Core.Path.{◌≡◌, refl, ◌∙◌, sym, ap}
use mathlib.Core.Bool.{true, false}
use mathlib.Core.List.{List}
use Prim.Native.Nat.{ℕ, suc, ◌≤◌, ◌<◌}
use native.Mathlib.Omega.{arith}
use native.Mathlib.Decide.{dec_le, ℕ_discrete}
use native.Mathlib.Numerals.{add-one}
use lib.ListN.{length, set}
use lib.Seq.{get_or-set_same, get_or-set_other}
use borrow.Author.Tests.{eq-eqb, ne_eqb}
use Rattle.lists.specs.Number.{number_at}
use Rattle.tables.specs.Table.{all, equation_fits}
use Rattle.packing.specs.Search.{first}
use Rattle.packing.proofs.Searches.{not-both}
use Rattle.packing.proofs.Keys.{same_true, true_same}
use Rattle.packer.specs.Round.{quick_key, same_quick_key, Quick, Chains, head_after, entered_at, Chain}
use Rattle.packer.proofs.Quick.{key-agree, next-found, next-none}
use Rattle.tables.specs.declared.Equation.{Equation}

-- A number stored at i keeps those before it.
pub set-kept : (l : List ℕ) (i v x : ℕ) → x < i → number_at (set l i v) x ≡ number_at l x
set-kept l i v x u = get_or-set_other l i x v 0 (λ (q : x ≡ i). omega arith)

-- The class and the bucket of equation x, by the buffers w of a round after the classes p.
abbrev pub class_in : Chains → ℕ → ℕ
class_in w = number_at w.names

abbrev pub bucket_in : List ℕ → (Equation → ℕ) → (ℕ → ℕ) → Chains → ℕ → ℕ
bucket_in t bucket p w x = bucket (quick_key t (class_in w) p x)

-- All chains of the classes below i: the head of each of the m buckets is one more than the last class in it, and the
-- `next` of an equation one more than the last class before it in its bucket.
pub record Buckets (t : List ℕ) (bucket : Equation → ℕ) (m : ℕ) (p : ℕ → ℕ) (i : ℕ) (w : Chains) : Type 0 where
  pub bound : (a : ℕ) → a < m → number_at w.heads a ≤ i
  pub head : (y : ℕ) → y < i → class_in w y ≡ y → y < number_at w.heads (bucket_in t bucket p w y)
  pub starts : (a x : ℕ) → a < m → number_at w.heads a ≡ suc x → bucket_in t bucket p w x ≡ a
  pub low : (x : ℕ) → x < i → number_at w.next x ≤ x
  pub link : (x y : ℕ) → x < i → y < x → class_in w y ≡ y → bucket_in t bucket p w y ≡ bucket_in t bucket p w x
      → y < number_at w.next x
  pub own : (x y : ℕ) → x < i → number_at w.next x ≡ suc y → bucket_in t bucket p w y ≡ bucket_in t bucket p w x

module _ (t : List ℕ) (bucket : Equation → ℕ) (m : ℕ) (p : ℕ → ℕ) (w : Chains) where
  -- No equation has entered, and the heads are cleared.
  pub buckets-none : ((a : ℕ) → a < m → number_at w.heads a ≡ 0) → Buckets t bucket m p 0 w
  buckets-none h =
      record {
        bound = λ a l. omega (arith, h a l);
        head = λ y l e. absurd (omega arith);
        starts = λ a x l e. absurd (omega (arith, h a l));
        low = λ x l. absurd (omega arith);
        link = λ x y l u e q. absurd (omega arith);
        own = λ x y l q. absurd (omega arith);
      }

  -- The chain in which equation i is looked for starts at the head of its bucket.
  pub chain-of : (i a : ℕ) {key : Equation} → Buckets t bucket m p i w → a < m → key ≡ quick_key t (class_in w) p i
      → a ≡ bucket key → Chain t bucket p (class_in w) i (number_at w.next) (number_at w.heads a)
  chain-of i a B l k e =
      let own : a ≡ bucket_in t bucket p w i = e ∙ ap bucket k in
      record {
        bound = B.bound a l;
        head = λ y u f q. rw (q, ← own) at (B.head y u f);
        starts = λ x f. B.starts a x l f ∙ own;
        low = B.low;
        link = B.link;
        own = B.own;
      }

-- Equation i of n enters with the class j in its bucket: its `next` is the head, and it becomes the head if it is a
-- class.
module _ (velocities : ℕ) (t : List ℕ) (n : ℕ) (fit : all (equation_fits velocities t n) n ≡ true)
    (bucket : Equation → ℕ) (m : ℕ) (within : (e : Equation) → bucket e < m) (p : ℕ → ℕ) (w : Chains) (i j : ℕ)
    (l : i < n) (names : i < length w.names) (next : i < length w.next) (heads : m ≤ length w.heads)
    (B : Buckets t bucket m p i w) where
  abbrev entering : ℕ
  entering = bucket_in t bucket p w i

  abbrev after : Chains
  after = entered_at w i j entering

  -- What is kept in the three buffers, and what is new.
  name-kept : (x : ℕ) → x < i → class_in w x ≡ class_in after x
  name-kept x u = sym (set-kept w.names i j x u)

  name_new : class_in after i ≡ j
  name_new = get_or-set_same w.names i j 0 names

  next-kept : (x : ℕ) → x < i → number_at after.next x ≡ number_at w.next x
  next-kept x u = set-kept w.next i _ x u

  next-new : number_at after.next i ≡ number_at w.heads entering
  next-new = get_or-set_same w.next i _ 0 next

  head-kept : (a : ℕ) → (a ≡ entering → ⊥) → number_at after.heads a ≡ number_at w.heads a
  head-kept a q = get_or-set_other w.heads entering a _ 0 q

  head-new : number_at after.heads entering ≡ head_after i j (number_at w.heads entering)
  head-new = get_or-set_same w.heads entering _ 0 (omega (arith, within (quick_key t (class_in w) p i)))

  -- The buckets of the equations up to i are the same.
  bucket-kept : (x : ℕ) → x ≤ i → bucket_in t bucket p w x ≡ bucket_in t bucket p after x
  bucket-kept x u =
      ap bucket
      (key-agree velocities t n fit p p (class_in w) (class_in after) i (λ y v. refl) name-kept x u (omega arith))

  -- The head of each bucket: it does not fall, and it is one more than an equation of its bucket up to i.
  record Head (a : ℕ) : Type 0 where
    low : number_at after.heads a ≤ suc i
    up : number_at w.heads a ≤ number_at after.heads a
    starts : (x : ℕ) → number_at after.heads a ≡ suc x → (x ≤ i) × (bucket_in t bucket p w x ≡ a)

  -- A head that is kept, and one that is new.
  head-old : (a : ℕ) → a < m → number_at after.heads a ≡ number_at w.heads a → Head a
  head-old a u e =
      record {
        low = omega (arith, B.bound a u);
        up = omega arith;
        starts = λ x q. (omega (arith, B.bound a u), B.starts a x u (sym e ∙ q));
      }

  head-own : j ≡ i → number_at after.heads entering ≡ suc i
  head-own e = head-new ∙ rw (eq-eqb j i e) (add-one i)

  each-head : (a : ℕ) → a < m → Head a
  each-head a u =
      elim (ℕ_discrete a entering) [
        | no q ↦ head-old a u (head-kept a q)
        | yes q ↦ elim (ℕ_discrete j i) [
          | no r ↦ head-old a u (rw q (head-new ∙ rw (ne_eqb j i r)))
          | yes r ↦ let e : number_at after.heads a ≡ suc i = rw q (head-own r) in
              record {
                low = omega arith;
                up = omega (arith, B.bound a u);
                starts = λ x s. let z : x ≡ i = omega arith in (omega arith, rw z (sym q));
              }
        ]
      ]

  -- A class up to i is below the head of its bucket.
  head-above : (y : ℕ) → y < suc i → class_in after y ≡ y → y < number_at after.heads (bucket_in t bucket p after y)
  head-above y u e =
      elim (ℕ_discrete y i) [
        | yes q ↦ rw (q, ← (bucket-kept i (omega arith)), head-own (sym name_new ∙ rw q at e)) (omega arith)
        | no q ↦ rw (← (bucket-kept y (omega arith)))
            (omega (
              arith,
              (each-head (bucket_in t bucket p w y) (within _)).up,
              B.head y (omega arith) (name-kept y (omega arith) ∙ e),
            ))
      ]

  -- The `next` of an equation up to i is no higher than the equation, it is above each class before it in its bucket,
  -- and it is one more than an equation of its bucket.
  link-low : (x : ℕ) → x < suc i → number_at after.next x ≤ x
  link-low x u =
      elim (ℕ_discrete x i) [
        | yes q ↦ rw (q, next-new) (B.bound entering (within _))
        | no q ↦ rw (next-kept x (omega arith)) (B.low x (omega arith))
      ]

  link-above : (x y : ℕ) → x < suc i → y < x → class_in after y ≡ y
      → bucket_in t bucket p after y ≡ bucket_in t bucket p after x → y < number_at after.next x
  link-above x y u v e q =
      elim (ℕ_discrete x i) [
        | yes r ↦ let z : bucket_in t bucket p w y ≡ entering =
            bucket-kept y (omega arith) ∙ rw r at q ∙ sym (bucket-kept i (omega arith)) in
            rw (r, next-new, ← z) (B.head y (omega arith) (name-kept y (omega arith) ∙ e))
        | no r ↦ rw (next-kept x (omega arith))
            (B.link x y (omega arith) v (name-kept y (omega arith) ∙ e)
            (bucket-kept y (omega arith) ∙ q ∙ sym (bucket-kept x (omega arith))))
      ]

  link-own : (x y : ℕ) → x < suc i → number_at after.next x ≡ suc y
      → bucket_in t bucket p after y ≡ bucket_in t bucket p after x
  link-own x y u q =
      elim (ℕ_discrete x i) [
        | yes r ↦ let e : number_at w.heads entering ≡ suc y = sym next-new ∙ (rw r at q) in
            sym (bucket-kept y (omega (arith, B.bound entering (within _)))) ∙ B.starts entering y (within _) e
            ∙ bucket-kept i (omega arith) ∙ ap (bucket_in t bucket p after) (sym r)
        | no r ↦ let e : number_at w.next x ≡ suc y = sym (next-kept x (omega arith)) ∙ q in
            sym (bucket-kept y (omega (arith, B.low x (omega arith)))) ∙ B.own x y (omega arith) e
            ∙ bucket-kept x (omega arith)
      ]

  pub buckets-more : Buckets t bucket m p (suc i) after
  buckets-more =
      record {
        bound = λ a u. (each-head a u).low;
        head = head-above;
        starts = λ a x u e. let h = (each-head a u).starts x e in sym (bucket-kept x h.0) ∙ h.1;
        low = link-low;
        link = link-above;
        own = link-own;
      }

-- The walk of the chain of equation i, from its start down to the place `at`: no class that stands after has its key.
pub record Walked (t : List ℕ) (bucket : Equation → ℕ) (p c : ℕ → ℕ) (i at : ℕ) : Type 0 where
  pub bound : at ≤ i
  pub own : (x : ℕ) → at ≡ suc x → bucket (quick_key t c p x) ≡ bucket (quick_key t c p i)
  pub past : (y : ℕ) → y < i → c y ≡ y → at ≤ y → quick_key t c p y ≡ quick_key t c p i → ⊥

module _ {t : List ℕ} {bucket : Equation → ℕ} {p c : ℕ → ℕ} {i : ℕ} {next : ℕ → ℕ} {start : ℕ} (Q : Quick t i p c)
    (C : Chain t bucket p c i next start) where
  module _ {at x : ℕ} (z : at ≡ suc x) (W : Walked t bucket p c i at) where
    -- Where the equation has another key, the walk goes on at the next place.
    pub walk_more : same_quick_key t c p i x ≡ false → Walked t bucket p c i (next x)
    walk_more e =
        let l : x < i = omega (arith, W.bound) in
        record {
          bound = omega (arith, C.low x l);
          own = λ y q. C.own x y l q ∙ W.own x z;
          past = λ y u r v k. elim (ℕ_discrete y x) [
            | yes q ↦ not-both (same_quick_key t c p i x)
                (rw q at (true_same (quick_key t c p y) (quick_key t c p i) k)) e
            | no q ↦ elim (dec_le at y) [
              | yes g ↦ W.past y u r g k
              | no g ↦ let h = C.link x y l (omega arith) r (ap bucket k ∙ sym (W.own x z)) in omega arith
            ]
          ];
        }

    -- Where it has the key, its class is the one that is looked for.
    pub walk-found : same_quick_key t c p i x ≡ true → c x ≡ first (same_quick_key t c p i) i
    walk-found e =
        sym (next-found t i p c Q x (omega (arith, W.bound)) (same_true (quick_key t c p x) (quick_key t c p i) e))

  -- At the end of the chain, none has the key.
  pub walk_end : {at : ℕ} → at ≤ 0 → Walked t bucket p c i at → i ≡ first (same_quick_key t c p i) i
  walk_end z W = sym (next-none t i p c Q (λ y l e k. W.past y l e (omega arith) k))
