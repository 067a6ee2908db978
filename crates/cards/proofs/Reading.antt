-- What an answer says that was read at a place (`ReadsAs`): it ends the bytes, or a certain byte follows. Assumes
-- nothing.
use mathlib.Core.Path.{◌≡◌, sym, ap}
use mathlib.Core.List.{List}
use Prim.Native.Nat.{ℕ, ◌+◌, ◌≤◌, ◌<◌}
use native.Mathlib.Omega.{arith}
use native.Mathlib.Numerals.{add-one}
use lib.ListN.{length, get_or, drop, drop_of_length-le}
use lib.Seq.{drop-cons}
use borrow.Author.Tests.{eq-eqb, ne_eqb}
use Rattle.std.specs.Prelude.{Some, None}
use Rattle.lists.specs.Place.{DecimalAt}
use Rattle.lists.specs.declared.Decimal.{Decimal}
use Rattle.lists.specs.declared.Decimal.TheVariants as D
use Rattle.lists.proofs.Decimals.{is-of, is-next, above_of, missing-of}
use Rattle.cards.specs.Numbers.{Parsed, parsed, number, before, wholly}
use Rattle.cards.specs.Place.{ReadsAs}
use Rattle.cards.specs.declared.Found.{Found}

-- Nothing was read.
module _ {A : Type 0} {s : List ℕ} {p : Parsed A} (h : ReadsAs None s p) where
  pub none_whole : None ≡ wholly p
  unfolding wholly
  none_whole = rw (← h.means)

  pub none_before : (c : ℕ) → ReadsAs {A = A} None s (before c p)
  unfolding before
  none_before c = record { means = rw (← h.means); within = omega arith }

-- A value was read, and the bytes end behind it, or another byte follows.
module _ {A : Type 0} {f : Found A} {s : List ℕ} {p : Parsed A} (h : ReadsAs (Some f) s p) where
  pub whole : length s ≤ f.next → Some f.value ≡ wholly p
  unfolding wholly
  whole g = rw (← h.means, drop_of_length-le s g)

  pub not_whole : f.next < length s → None ≡ wholly p
  unfolding wholly
  not_whole g = rw (← h.means, drop-cons s f.next 0)

  pub ended_before : (c : ℕ) → length s ≤ f.next → ReadsAs {A = A} None s (before c p)
  unfolding before
  ended_before c g = record { means = rw (← h.means, drop_of_length-le s g); within = omega arith }

  pub other_before : (c : ℕ) → f.next < length s → (get_or s f.next 0 ≡ c → ⊥) → ReadsAs {A = A} None s (before c p)
  unfolding before
  other_before c g e =
      record { means = rw (← h.means, drop-cons s f.next 0, ne_eqb _ _ e); within = omega arith }

  pub found_before : (c : ℕ) → f.next < length s → get_or s f.next 0 ≡ c
      → ReadsAs (Some (record { value = f.value; next = f.next + 1 })) s (before c p)
  unfolding before
  found_before c g e =
      record { means = rw (← h.means, drop-cons s f.next 0, eq-eqb _ _ e, add-one f.next); within = omega arith }

-- What the decimal reader answers.
module _ {s : List ℕ} {at max : ℕ} {r : Decimal} (h : DecimalAt s at max r) where
  pub number_is : {v n : ℕ} → r ≡ D.Is v n
      → ReadsAs (Some (record { value = v; next = n })) s (number max (drop at s))
  unfolding number
  number_is e = record { means = sym (ap parsed (is-of h e)); within = is-next h e }

  pub number_above : {n : ℕ} → r ≡ D.Above n → ReadsAs {A = ℕ} None s (number max (drop at s))
  unfolding number
  number_above e = record { means = sym (ap parsed (above_of h e)); within = omega arith }

  pub number_missing : r ≡ D.Missing → ReadsAs {A = ℕ} None s (number max (drop at s))
  unfolding number
  number_missing e = record { means = sym (ap parsed (missing-of h e)); within = omega arith }

pub ruleset reading = (
  none_whole,
  none_before,
  whole,
  not_whole,
  ended_before,
  other_before,
  found_before,
  number_is,
  number_above,
  number_missing,
)
