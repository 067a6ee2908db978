-- Buffers whose first numbers are given by a function (`filled`): their length, their numbers, and that no other buffer
-- has these. Assumes nothing.
use mathlib.Core.Path.{◌≡◌, refl, ◌∙◌, sym}
use mathlib.Core.List.{List}
use Prim.Native.Nat.{ℕ, zero, suc, ◌≤◌, ◌<◌}
use native.Mathlib.Omega.{arith}
use native.Mathlib.Decide.{ℕ_discrete, dec_lt}
use lib.ListN.{length, length-set}
use lib.Seq.{get_or-set_same, get_or-set_other, ext_get_or}
use Rattle.lists.specs.Number.{number_at}
use Rattle.packer.specs.Place.{filled}

module _ (f : ℕ → ℕ) where
  pub length-filled : (n : ℕ) (l : List ℕ) → length (filled f n l) ≡ length l
  unfolding filled
  length-filled zero l = refl
  length-filled (suc n) l = rw length-set (length-filled n l)

  -- The first n numbers,
  pub filled_at : (n : ℕ) (l : List ℕ) (i : ℕ) → i < n → n ≤ length l → number_at (filled f n l) i ≡ f i
  unfolding filled
  filled_at zero l i u v = absurd (omega arith)
  filled_at (suc n) l i u v =
      let k = length-filled n l in
      elim (ℕ_discrete i n) [
        | yes q ↦ rw q (get_or-set_same (filled f n l) n (f n) 0 (omega arith))
        | no q ↦ get_or-set_other (filled f n l) n i (f n) 0 q ∙ filled_at n l i (omega arith) (omega arith)
      ]

  -- and those after them.
  pub filled-beyond : (n : ℕ) (l : List ℕ) (i : ℕ) → n ≤ i → number_at (filled f n l) i ≡ number_at l i
  unfolding filled
  filled-beyond zero l i u = refl
  filled-beyond (suc n) l i u =
      get_or-set_other (filled f n l) n i (f n) 0 (λ (q : i ≡ n). omega arith) ∙ filled-beyond n l i (omega arith)

  -- No other list has these.
  pub filled_is : (n : ℕ) (l l' : List ℕ) → n ≤ length l → length l' ≡ length l
      → ((i : ℕ) → i < n → number_at l' i ≡ f i) → ((i : ℕ) → n ≤ i → number_at l' i ≡ number_at l i) → l'
      ≡ filled f n l
  filled_is n l l' u e low high =
      ext_get_or 0 l' (filled f n l) (e ∙ sym (length-filled n l))
      (λ i v. elim (dec_lt i n) [
        | yes w ↦ low i w ∙ sym (filled_at n l i w u)
        | no w ↦ high i (omega arith) ∙ sym (filled-beyond n l i (omega arith))
      ])
