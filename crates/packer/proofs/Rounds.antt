-- What is known from round to round: the classes refine what the rounds have found, no class falls, and the sum of the
-- classes grows with each round that changes one, so the rounds end; the first that changes none has found the classes
-- (SPEC 16.2). Assumes nothing.
use mathlib.Core.Path.{◌≡◌, refl, ◌∙◌, sym, ap}
use mathlib.Core.Bool.{true}
use mathlib.Core.List.{List, ◌++◌}
use Prim.Native.Nat.{ℕ, ◌*◌, ◌-◌, ◌≤◌, ◌<◌}
use native.Mathlib.Omega.{arith}
use native.Mathlib.Decide.{dec_le}
use lib.ListN.{length, take, drop, get_or-append}
use lib.Seq.{length-take-le, get_or-take, ext_get_or}
use Rattle.lists.specs.Number.{number_at}
use Rattle.tables.specs.Table.{all, equation_fits}
use Rattle.packing.specs.Pack.{classes}
use Rattle.packing.proofs.Searches.{total, total-le, total-same, total-bound}
use Rattle.packing.proofs.Classes.{Finer}
use Rattle.packer.specs.Place.{filled}
use Rattle.packer.specs.Round.{Quick, Fitted, Rooms, Chains, cleared, round_of}
use Rattle.packer.proofs.Filled.{filled_is}
use Rattle.packer.proofs.Cleared.{cleared-copy, length-copy}
use Rattle.packer.proofs.Quick.{quick-le, quick-finer, quick-later, quick-coarser, quick-fixed, quick-agree}
use Rattle.packer.proofs.Turns.{Turned, turned}

-- Both give each of the n equations the same class.
abbrev Agreed : ℕ → (ℕ → ℕ) → (ℕ → ℕ) → Type 0
Agreed n f g = (i : ℕ) → i < n → f i ≡ g i

-- What is known of the classes p before a round: the classes of the n equations refine them, and the round refines them
-- and lets none fall.
pub record Before (t : List ℕ) (n : ℕ) (p : ℕ → ℕ) : Type 0 where
  pub coarse : Finer n (classes t n) p
  pub finer : (c : ℕ → ℕ) → Quick t n p c → Finer n c p
  pub rises : (c : ℕ → ℕ) → Quick t n p c → (i : ℕ) → i < n → p i ≤ c i

-- A round of c after p, and then p', which agrees with c.
module _ (velocities : ℕ) (t : List ℕ) (n : ℕ) (fit : all (equation_fits velocities t n) n ≡ true) (p c : ℕ → ℕ)
    (B : Before t n p) (Q : Quick t n p c) where
  before_more : (p' : ℕ → ℕ) → Agreed n p' c → Before t n p'
  before_more p' h =
      let finer : Finer n p' p = λ x y u v e. B.finer c Q x y u v (sym (h x u) ∙ e ∙ h y v) in
      record {
        coarse = λ x y u v e. h x u ∙ quick-coarser velocities t n fit p c Q B.coarse x y u v e ∙ sym (h y v);
        finer = λ c' Q' x y u v e. h x u ∙ quick-finer velocities t n fit p' c' p c Q' Q finer x y u v e ∙ sym (h y v);
        rises = λ c' Q' i l. rw (h i l) (quick-later velocities t n fit p' c' p c Q' Q finer i l);
      }

  -- The sum of the classes grows, unless none changes, and it has a bound.
  grows : (Agreed n p c → ⊥) → total p n < total c n
  grows other =
      elim (dec_le (total c n) (total p n)) [
        | yes l ↦ absurd (other (total-same p c n (B.rises c Q) l))
        | no l ↦ omega arith
      ]

  bounded : total c n ≤ n * n
  bounded = omega (arith, total-bound c n n (λ i l. let u = quick-le t n p c Q i l in omega arith))

  measure-less : (p' : ℕ → ℕ) → Agreed n p' c → (Agreed n p c → ⊥) → n * n - total p' n < n * n - total p n
  measure-less p' h other =
      omega (arith, grows other, bounded, total-le c p' n (λ i l. omega (arith, h i l)))

  -- A round that changes none.
  done : Agreed n p c → Agreed n c (classes t n)
  done h =
      quick-fixed velocities t n fit c (quick-agree velocities t n fit p c c c n h (λ x u. refl) (omega arith) Q)
      (quick-coarser velocities t n fit p c Q B.coarse)

-- Two buffers agree where their first n numbers are the same.
module _ (n : ℕ) (l l' : List ℕ) where
  same-agreed : take n l ≡ take n l' → Agreed n (number_at l) (number_at l')
  same-agreed e i u =
      sym (get_or-take n l i 0 u) ∙ ap (λ (x : List ℕ). number_at x i) e ∙ get_or-take n l' i 0 u

  differ-agreed : n ≤ length l → n ≤ length l' → (take n l ≡ take n l' → ⊥)
      → Agreed n (number_at l) (number_at l') → ⊥
  differ-agreed u v e h =
      let long : length (take n l) ≡ n = length-take-le n l u in
      e (ext_get_or 0 (take n l) (take n l') (long ∙ sym (length-take-le n l' v))
      (λ i w. let below : i < n = omega arith in
      get_or-take n l i 0 below ∙ h i below ∙ sym (get_or-take n l' i 0 below)))

-- The buffers between two rounds, where w₀ and before₀ are those at the start: their lengths, what is known of the
-- classes before the round, and that all numbers past n are kept.
pub record Rounding (t : List ℕ) (n : ℕ) (w₀ : Chains) (before₀ : List ℕ) (w : Chains) (before : List ℕ) : Type 0 where
  pub length-names : length w.names ≡ length w₀.names
  pub length_before : length before ≡ length before₀
  pub length-next : length w.next ≡ length w₀.next
  pub length-heads : length w.heads ≡ length w₀.heads
  pub known : Before t n (number_at before)
  pub beyond : (x : ℕ) → n ≤ x → number_at w.names x ≡ number_at w₀.names x
  pub rest-before : cleared n before ≡ cleared n before₀
  pub rest-next : cleared n w.next ≡ cleared n w₀.next
  pub rest-heads : cleared n w.heads ≡ cleared n w₀.heads

-- What is copied from the front of a list is there.
copied : (n : ℕ) (o l : List ℕ) → n ≤ length l → Agreed n (number_at (take n l ++ drop n o)) (number_at l)
copied n o l u i w =
    let long : length (take n l) ≡ n = length-take-le n l u in
    get_or-append (take n l) (drop n o) 0 i (omega arith) ∙ get_or-take n l i 0 w

-- A round turns these buffers into `after`.
module _ {t : List ℕ} {n : ℕ} {w₀ : Chains} {before₀ : List ℕ} {w : Chains} {before : List ℕ} {after : Chains}
    (from : Rounding t n w₀ before₀ w before) (fitted : Fitted t n)
    (rooms : Rooms n w₀.names before₀ w₀.next w₀.heads) (round : after ≡ round_of t (number_at before) n w n) where
  -- What is known of the buffers after it.
  rounded : Turned t n (number_at before) w n after
  rounded =
      rw round
      (turned fitted.velocities t n (number_at before) w fitted.equations
      (omega (arith, rooms.in-names, from.length-names)) (omega (arith, rooms.in-next, from.length-next))
      (omega (arith, rooms.in-heads, from.length-heads)) n (omega arith))

  pub names-kept : length after.names ≡ length w₀.names
  names-kept = rounded.names ∙ from.length-names

  next-kept : length after.next ≡ length w₀.next
  next-kept = rounded.next ∙ from.length-next

  heads-kept : length after.heads ≡ length w₀.heads
  heads-kept = rounded.heads ∙ from.length-heads

  beyond-kept : (x : ℕ) → n ≤ x → number_at after.names x ≡ number_at w₀.names x
  beyond-kept x u = rounded.beyond x u ∙ from.beyond x u

  -- Clearing the chains leaves what clearing those at the start would.
  pub next-cleared : cleared n after.next ≡ cleared n w₀.next
  next-cleared = rounded.rest-next ∙ from.rest-next

  pub heads-cleared : cleared n after.heads ≡ cleared n w₀.heads
  heads-cleared = rounded.rest-heads ∙ from.rest-heads

  -- It changes no class: the classes are found.
  pub rounding-done : take n before ≡ take n after.names
      → after.names ≡ filled (classes t n) n w₀.names
  rounding-done e =
      filled_is (classes t n) n w₀.names after.names rooms.in-names names-kept
      (done fitted.velocities t n fitted.equations (number_at before) (number_at after.names)
      from.known rounded.quick (same-agreed n before after.names e)) beyond-kept

  -- It changes one: the names are copied, and the next round follows.
  module _ {copy : List ℕ} (stored : copy ≡ take n after.names ++ drop n before) where
    room-names : n ≤ length after.names
    room-names = omega (arith, names-kept, rooms.in-names)

    room-before : n ≤ length before
    room-before = omega (arith, from.length_before, rooms.in-before)

    same_names : Agreed n (number_at copy) (number_at after.names)
    same_names = rw stored (copied n before after.names room-names)

    pub rounding-less : (take n before ≡ take n after.names → ⊥)
        → n * n - total (number_at copy) n < n * n - total (number_at before) n
    rounding-less e =
        measure-less fitted.velocities t n fitted.equations (number_at before) (number_at after.names)
        from.known rounded.quick (number_at copy) same_names
        (differ-agreed n before after.names room-before room-names e)

    pub rounding-more : Rounding t n w₀ before₀ after copy
    rounding-more =
        record {
          length-names = names-kept;
          length_before = rw stored (length-copy n before after.names room-names room-before) ∙ from.length_before;
          length-next = next-kept;
          length-heads = heads-kept;
          known =
              before_more fitted.velocities t n fitted.equations (number_at before)
              (number_at after.names) from.known rounded.quick (number_at copy) same_names;
          beyond = beyond-kept;
          rest-before =
              rw stored (cleared-copy n before after.names room-names) ∙ from.rest-before;
          rest-next = next-cleared;
          rest-heads = heads-cleared;
        }
