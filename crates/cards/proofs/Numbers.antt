-- How a text begins (`has_prefix`), and how a line of numbers goes on after those that were read. Assumes nothing.
use mathlib.Core.Path.{◌≡◌, refl, ◌∙◌, sym, ap}
use mathlib.Core.Bool.{Bool, true, false, cond, ◌&&◌, false≢true}
use mathlib.Core.List.{List, [], ◌∷◌, ◌++◌}
use Prim.Native.Nat.{ℕ, suc, ◌+◌, ◌-◌, ◌≤◌, ◌<◌}
use native.Mathlib.Omega.{arith}
use native.Mathlib.Numerals.{add-one}
use lib.Dec.{eqb}
use lib.ListN.{length, set, take, drop, length-set}
use lib.Seq.{take-suc-set, take_all}
use borrow.Author.Tests.{eqb-true, eqb-false, ne_eqb, eq-eqb}
use Rattle.std.specs.Prelude.{Some, None}
use Rattle.std.specs.Cmp.Lexicographic.{pointwise}
use Rattle.limits.specs.Limits.{last_literal}
use Rattle.cards.specs.Heads.{parameters_head}
use Rattle.cards.specs.Numbers.{Parsed, number, has_prefix, before_comma, at_end, numbers, last_parameter, wholly}
use Rattle.cards.specs.Numbers.{parameters_of}
use Rattle.cards.specs.Numbers.Parsed.{done, none}
use Rattle.cards.specs.Place.{ReadsAs}
use Rattle.cards.specs.declared.Found.{Found}

-- ---- how a text begins

-- What the library's `starts_with` answers.
pub prefix_is : (w s : List ℕ) → has_prefix w s ≡ pointwise eqb w (take (length w) s)
unfolding has_prefix
prefix_is [] s = refl
prefix_is (x ∷ w) [] = refl
prefix_is (x ∷ w) (y ∷ s) = split (eqb x y) refl (prefix_is w s)
  where
    split : (t : Bool) → eqb x y ≡ t → has_prefix w s ≡ pointwise eqb w (take (length w) s)
        → cond (eqb y x) (has_prefix w s) false ≡ (eqb x y && pointwise eqb w (take (length w) s))
    split true e h = rw (e, eq-eqb y x (sym (eqb-true x y e))) h
    split false e h = rw (e, ne_eqb y x (λ z. eqb-false x y e (sym z)))

true-then : (t : Bool) {u : Bool} → cond t u false ≡ true → u ≡ true
true-then true e = e
true-then false e = absurd (false≢true e)

-- A text with a prefix is at least as long.
pub prefix-long : (w s : List ℕ) → has_prefix w s ≡ true → length w ≤ length s
unfolding has_prefix
prefix-long [] s e = omega arith
prefix-long (x ∷ w) [] e = absurd (false≢true e)
prefix-long (x ∷ w) (y ∷ s) e = omega (arith, prefix-long w s (true-then (eqb y x) e))

-- ---- the eight parameters

-- The loop of `parameters_of`: i numbers are read, and what stands from `at` on, after them, reads as the line does.
pub record Listing (s ps : List ℕ) (at i : ℕ) : Type 0 where
  pub rest : numbers (last_parameter - i) (take i ps) (drop at s) ≡ parameters_of s
  pub within : i ≤ last_parameter
  pub seven : length ps ≡ last_parameter

pub listing_begun : (s ps : List ℕ) → has_prefix parameters_head s ≡ true → length ps ≡ last_parameter
    → Listing s ps (length parameters_head) 0
unfolding parameters_of
listing_begun s ps e h = record { rest = rw e; within = omega arith; seven = h }

-- The eighth number ends the line.
ended_none : (got : List ℕ) (p : Parsed ℕ) → None ≡ wholly p → at_end got p ≡ None
unfolding at_end wholly
ended_none got none e = refl
ended_none got (done v []) e = cc
ended_none got (done v (b ∷ l)) e = refl

ended_some : (got : List ℕ) (p : Parsed ℕ) {v : ℕ} → Some v ≡ wholly p → at_end got p ≡ Some (got ++ (v ∷ []))
unfolding at_end wholly
ended_some got none e = cc
ended_some got (done w []) {v} e = let is : w ≡ v = cc in rw is
ended_some got (done w (b ∷ l)) e = cc

-- The last place of eight.
stored_last : (ps : List ℕ) (w v : ℕ) → set (ps ++ (w ∷ [])) (length ps) v ≡ ps ++ (v ∷ [])
stored_last [] w v = refl
stored_last (x ∷ ps) w v = ap (λ (l : List ℕ). x ∷ l) (stored_last ps w v)

module _ {s ps : List ℕ} {at i : ℕ} (k : Listing s ps at i) where
  -- One of the first seven, before a comma.
  module _ (h : i < last_parameter) where
    next_lem : numbers (suc (last_parameter - (i + 1))) (take i ps) (drop at s) ≡ parameters_of s
    next_lem = let z : last_parameter - i ≡ suc (last_parameter - (i + 1)) = omega arith in rw z at k.rest

    pub listing_none : ReadsAs None s (before_comma (number last_literal (drop at s))) → None ≡ parameters_of s
    unfolding numbers
    listing_none q = rw (← q.means) at next_lem

    pub listing_more : {f : Found ℕ} → ReadsAs (Some f) s (before_comma (number last_literal (drop at s)))
        → Listing s (set ps i f.value) f.next (i + 1)
    unfolding numbers
    listing_more {f} q =
        let stored : take (i + 1) (set ps i f.value) ≡ take i ps ++ (f.value ∷ []) =
        rw (add-one i) (take-suc-set ps i f.value (omega (arith, k.seven))) in
        record {
          rest = rw stored (rw (← q.means) at next_lem);
          within = omega arith;
          seven = length-set ps i f.value ∙ k.seven;
        }

  -- The eighth.
  module _ (h : last_parameter ≤ i) where
    all_seven : at_end ps (number last_literal (drop at s)) ≡ parameters_of s
    unfolding numbers
    all_seven =
        let z : i ≡ last_parameter = omega (arith, k.within) in
        let all : take last_parameter ps ≡ ps = take_all last_parameter ps (omega (arith, k.seven)) in
        rw all at (rw z at k.rest)

    pub listing_unended : None ≡ wholly (number last_literal (drop at s)) → None ≡ parameters_of s
    listing_unended q = sym (ended_none ps _ q) ∙ all_seven

    pub listing_last : {v : ℕ} → Some v ≡ wholly (number last_literal (drop at s))
        → Some (set (ps ++ (0 ∷ [])) last_parameter v) ≡ parameters_of s
    listing_last {v} q =
        rw (← k.seven) (rw (stored_last ps 0 v) (sym (ended_some ps _ q) ∙ all_seven))

pub ruleset listing = (prefix_is, listing_begun, listing_none, listing_more, listing_unended, listing_last)
