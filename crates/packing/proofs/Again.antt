-- Packing what packing left, by its statement alone: `PackAnswer` settles the answer, so what it says of a packed table
-- is what `packing` does with it, and that is the same table again (Twice.antt). And packing a table does not depend on
-- the numbers behind its n equations (One.antt). Assumes nothing.
use mathlib.Core.Path.{◌≡◌, refl, ◌∙◌, sym, ap}
use mathlib.Core.Bool.{true}
use mathlib.Core.List.{List, ◌++◌}
use Prim.Native.Nat.{ℕ, ◌+◌, ◌*◌, ◌≤◌, ◌<◌}
use native.Mathlib.Omega.{arith}
use lib.ListN.{length, take, drop}
use lib.Seq.{take-append_seam, get_or-take}
use borrow.Author.Tests.{le-leb}
use Rattle.lists.specs.Number.{number_at}
use Rattle.limits.specs.Limits.{table_room}
use Rattle.limits.specs.declared.Refusal.{Refusal}
use Rattle.tables.specs.Table.{equation_at, checked}
use Rattle.packing.specs.Pack.{classes, kept, packed, packed_count}
use Rattle.packing.specs.Packing.{AfterPack, after_pack, after_packing, packing}
use Rattle.packing.specs.Laws.{Packed, PackAnswer}
use Rattle.packing.specs.Laws.PackAnswer.{not-checked, no_room, packed as is-packed}
use Rattle.packing.proofs.Keys.{equation-same}
use Rattle.packing.proofs.Result.{length-packed}
use Rattle.packing.proofs.Packs.{room-decides, pack-answers}
use Rattle.packing.proofs.Twice.{twice}
use Rattle.packing.proofs.One.{one-front, one_answer}
use Rattle.std.specs.Prelude.{Ok, Err}

-- Where nothing is refused the packed table is stored.
packing-stores : (velocities : ℕ) (t : List ℕ) (n : ℕ) (before : List ℕ) → checked velocities t n ≡ Ok tt
    → table_room ≤ length before → packing velocities t n before ≡ after_packing t n before
unfolding packing
packing-stores velocities t n before passed room =
    rw (room-decides velocities t n before passed true (le-leb table_room (length before) room))

-- A refusal is no answer with equations, and the answer has one number of them.
pub refused-packed : {k : Refusal} {m : ℕ} → ◌≡◌ {A = Packed} (Err k) (Ok m) → ⊥
refused-packed e = let z : ◌≡◌ {A = ℕ} 0 1 = cc in omega arith

equations-one : {n m : ℕ} → ◌≡◌ {A = Packed} (Ok n) (Ok m) → n ≡ m
equations-one e = cc

-- An answer with equations: the table passed its check, and there was room.
pub answer-passed : {velocities : ℕ} {t : List ℕ} {n : ℕ} {before : List ℕ} {r : Packed} {n' : ℕ} {after : List ℕ}
    → PackAnswer velocities t n before r after → r ≡ Ok n'
    → (checked velocities t n ≡ Ok tt) × (table_room ≤ length before)
answer-passed (not-checked e) q = absurd (refused-packed q)
answer-passed (no_room e l) q = absurd (refused-packed q)
answer-passed (is-packed e l s b h) q = (e, l)

-- What an answer with n' equations leaves: the packed table at the front.
module _ (velocities : ℕ) (t : List ℕ) (n : ℕ) (before : List ℕ) (n' : ℕ) (after : List ℕ)
    (A : PackAnswer velocities t n before (Ok n') after) where
  passed : checked velocities t n ≡ Ok tt
  passed = (answer-passed A refl).0

  left : after_pack (Ok n') after ≡ after_packing t n before
  left =
      let one = one_answer A (pack-answers velocities t n before) in
      (λ a. after_pack (one.0 a) (one.1 a)) ∙ packing-stores velocities t n before passed (answer-passed A refl).1

  size : n' ≡ packed_count t n
  unfolding after_packing
  size = equations-one (ap (λ (x : AfterPack). x.answer) left)

  front : take (4 * n') after ≡ packed t n
  unfolding after_packing
  front =
      let long = length-packed t (classes t n) (kept t n) n in
      let second : after ≡ packed t n ++ drop (4 * packed_count t n) before = ap (λ (x : AfterPack). x.second) left in
      rw (second, size, ← long) (take-append_seam (packed t n) _)

  -- Packing that table gives it again.
  pub again : (rest before' : List ℕ) (r : Packed) (after' : List ℕ) → table_room ≤ length before'
      → PackAnswer velocities (take (4 * n') after ++ rest) n' before' r after'
      → (r ≡ Ok n') × (after' ≡ take (4 * n') after ++ drop (4 * n') before')
  unfolding after_packing
  again rest before' r after' room B =
      let same : packing velocities (take (4 * n') after ++ rest) n' before' ≡ after_packing t n before' =
      rw (front, size) (twice velocities t n passed rest before') ∙ packing-stores velocities t n before' passed room in
      let one = one_answer B (pack-answers velocities (take (4 * n') after ++ rest) n' before') in (
        one.0 ∙ ap (λ (x : AfterPack). x.answer) same ∙ ap Ok (sym size),
        one.1 ∙ ap (λ (x : AfterPack). x.second) same ∙ rw (front, size),
      )

-- Lists with the same first 4·n numbers have the same first n equations.
equations-same : (t s : List ℕ) (n : ℕ) → take (4 * n) t ≡ take (4 * n) s → (i : ℕ) → i < n
    → equation_at t i ≡ equation_at s i
equations-same t s n e i l =
    equation-same _ _ (number (4 * i) (omega arith)) (number (4 * i + 1) (omega arith))
    (number (4 * i + 2) (omega arith)) (number (4 * i + 3) (omega arith))
  where
    number : (x : ℕ) → x < 4 * n → number_at t x ≡ number_at s x
    number x u =
        sym (get_or-take (4 * n) t x 0 u) ∙ ap (λ (l : List ℕ). number_at l x) e ∙ get_or-take (4 * n) s x 0 u

-- SPEC 5.6: numbers behind the n equations are not the table's own. Whatever they are, and whatever the second table
-- held, the packed table is the same.
pub behind : (velocities : ℕ) (t s : List ℕ) (n : ℕ) (before after before' after' : List ℕ) (n' n'' : ℕ)
    → take (4 * n) t ≡ take (4 * n) s → PackAnswer velocities t n before (Ok n') after
    → PackAnswer velocities s n before' (Ok n'') after'
    → (n' ≡ n'') × (take (4 * n') after ≡ take (4 * n'') after')
behind velocities t s n before after before' after' n' n'' e (is-packed p l z b h) (is-packed p' l' z' b' h') =
    one-front velocities t s n n' after n'' after' p p' (equations-same t s n e) h h'
