-- The functions on word lists that the limits and the fragment are defined by, one word at a time, and what is known
-- while a loop passes the words. Assumes nothing.
use mathlib.Core.Bool.{Bool, true, false, ◌||◌, cond}
use mathlib.Core.Path.{◌≡◌, refl, sym, ap, ◌∙◌}
use mathlib.Core.List.{List, [], ◌∷◌}
use Prim.Native.Nat.{ℕ, suc, ◌+◌, ◌≤◌, ◌<◌}
use native.Mathlib.Omega.{arith}
use lib.Dec.{eqb, ltb}
use lib.ListN.{length, get_or, drop, drop_of_length-le}
use Rattle.lists.proofs.Buffers.{drop_more}
use borrow.Author.Tests.{lt-ltb, le-ltb}
use Rattle.std.specs.List.{list_any}
use Rattle.std.specs.Prelude.{Ok, Err}
use Rattle.limits.specs.declared.Refusal.TheVariants.{OverLimits}
use Rattle.grammar.specs.Fragment.{has_word}
use Rattle.rules.specs.Limits.{bracket_limit, operator_limit, opened, deep, counted, operator_count, beyond_limits}

-- ---- `chop` or `exists` among the words

pub has_word_any : (w : ℕ) (ws : List ℕ) → list_any (λ (x : ℕ). eqb x w) ws ≡ has_word w ws
unfolding has_word
has_word_any w [] = refl
has_word_any w (x ∷ xs) = ap (λ (b : Bool). eqb x w || b) (has_word_any w xs)

-- ---- the answer on the limits

pub in_limits : (b : Bool) {u : Unit {0}} → Ok u ≡ cond b (Err OverLimits) (Ok tt) → b ≡ false
in_limits true e = cc
in_limits false e = refl

-- ---- round brackets open, d before position i

module _ (d : ℕ) (ws : List ℕ) (i : ℕ) where
  deep-here : i < length ws → bracket_limit < opened d (get_or ws i 0) → deep d (drop i ws) ≡ true
  unfolding deep
  deep-here h l =
      ap (deep d) (drop_more ws i h)
      ∙ ap (λ (b : Bool). b || deep (opened d (get_or ws i 0)) (drop (i + 1) ws)) (lt-ltb _ _ l)

  deep-later : i < length ws → opened d (get_or ws i 0) ≤ bracket_limit
      → deep d (drop i ws) ≡ deep (opened d (get_or ws i 0)) (drop (i + 1) ws)
  unfolding deep
  deep-later h l =
      ap (deep d) (drop_more ws i h)
      ∙ ap (λ (b : Bool). b || deep (opened d (get_or ws i 0)) (drop (i + 1) ws)) (le-ltb _ _ l)

  deep-never : length ws ≤ i → deep d (drop i ws) ≡ false
  unfolding deep
  deep-never h = ap (deep d) (drop_of_length-le ws h)

-- ---- how many words are counted

module _ (ws : List ℕ) (i : ℕ) where
  operators-at : i < length ws → (b : Bool) → counted (get_or ws i 0) ≡ b
      → operator_count (drop i ws) ≡ cond b (suc (operator_count (drop (i + 1) ws))) (operator_count (drop (i + 1) ws))
  unfolding operator_count
  operators-at h b e =
      ap operator_count (drop_more ws i h)
      ∙ ap (λ (x : Bool). cond x (suc (operator_count (drop (i + 1) ws))) (operator_count (drop (i + 1) ws))) e

  operators-end : length ws ≤ i → operator_count (drop i ws) ≡ 0
  unfolding operator_count
  operators-end h = ap operator_count (drop_of_length-le ws h)

-- ---- one pass over the words

-- Before position i: `depth` round brackets are open, and n words were counted.
pub record Passed (ws : List ℕ) (depth n i : ℕ) : Type 0 where
  pub low : depth ≤ bracket_limit
  pub few : n ≤ i
  pub deep-left : deep depth (drop i ws) ≡ deep 0 ws
  pub operators-left : n + operator_count (drop i ws) ≡ operator_count ws

module _ {ws : List ℕ} {depth n : ℕ} {i : ℕ} (h : Passed ws depth n i) where
  -- The word at i opens one bracket too many.
  pub passed_deep : i < length ws → bracket_limit < opened depth (get_or ws i 0) → deep 0 ws ≡ true
  passed_deep l m = sym h.deep-left ∙ deep-here depth ws i l m

  counts : (x : Bool) (n' : ℕ) → i < length ws → counted (get_or ws i 0) ≡ x → n' ≡ cond x (suc n) n
      → (n' ≤ i + 1) × (n' + operator_count (drop (i + 1) ws) ≡ operator_count ws)
  counts true n' l e c = omega (arith, h.few, h.operators-left, operators-at ws i l true e)
  counts false n' l e c = omega (arith, h.few, h.operators-left, operators-at ws i l false e)

  -- The word at i.
  pub passed_one : (x : Bool) {depth' n' : ℕ} → i < length ws → depth' ≡ opened depth (get_or ws i 0)
      → depth' ≤ bracket_limit → counted (get_or ws i 0) ≡ x → n' ≡ cond x (suc n) n → Passed ws depth' n' (i + 1)
  passed_one x {depth'} {n'} l d m e c =
      let more = counts x n' l e c in
      record {
        low = m;
        few = more.0;
        deep-left =
            ap (λ (k : ℕ). deep k (drop (i + 1) ws)) d
            ∙ sym (deep-later depth ws i l (omega arith)) ∙ h.deep-left;
        operators-left = more.1;
      }

  -- After the last word.
  pub passed_limits : length ws ≤ i → ltb operator_limit n ≡ beyond_limits ws
  passed_limits l =
      let all : n ≡ operator_count ws = omega (arith, h.operators-left, operators-end ws i l) in
      let shallow : deep 0 ws ≡ false = sym h.deep-left ∙ deep-never depth ws i l in
      rw (all, shallow)
