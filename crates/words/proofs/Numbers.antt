-- The word of a number, by what stands after it. Assumes nothing.
use mathlib.Core.List.{List}
use mathlib.Core.Path.{◌≡◌, refl}
use Prim.Native.Nat.{ℕ, ◌≤◌, ◌<◌}
use lib.ListN.{length}
use lib.Seq.{drop-cons}
use Rattle.lists.specs.Place.{DecimalAt}
use Rattle.lists.proofs.Decimals.{is-of, above_of, is-bounded}
use Rattle.lists.specs.declared.Decimal.TheVariants.{Is, Above}
use Rattle.words.specs.Split.{number_of}
use Rattle.std.specs.Prelude.{Err}
use Rattle.limits.specs.declared.Refusal.TheVariants.{BadWord}

-- A number that is read is at most max, and it is the word where no bytes are left behind it.
module _ {max n : ℕ} {l : List ℕ} where
  pub number_small : {v : ℕ} → DecimalAt l 0 max (Is v n) → v ≤ max
  number_small h = is-bounded max l (is-of h refl)

  pub number_rest : {v : ℕ} (base : ℕ) → DecimalAt l 0 max (Is v n) → n < length l → Err BadWord ≡ number_of base max l
  unfolding number_of
  number_rest base h p = rw (is-of h refl, drop-cons l n 0 p)

  pub above_rest : (base : ℕ) → DecimalAt l 0 max (Above n) → n < length l → Err BadWord ≡ number_of base max l
  unfolding number_of
  above_rest base h p = rw (above_of h refl, drop-cons l n 0 p)
