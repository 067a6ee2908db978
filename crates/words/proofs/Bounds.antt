-- Every word that splitting a text makes is from 1 to the highest word, one that is a velocity's literal is below the
-- context's velocities, and there are at most as many words as a text can have. Assumes nothing.
use mathlib.Core.Bool.{Bool, true, not, ◌&&◌, and-eq-true_iff}
use mathlib.Core.List.{List, [], ◌∷◌, ◌++◌}
use mathlib.Core.Path.{◌≡◌, refl, subst}
use Prim.Native.Nat.{ℕ, suc, ◌+◌, ◌-◌, ◌≤◌, ◌<◌}
use native.Mathlib.Decide.{dec_lt}
use native.Mathlib.Omega.{arith}
use lib.Dec.{eqb, leb, ltb}
use lib.ListN.{length, drop, length-append, get_or-append, get_or-eq_default}
use lib.Seq.{get_or-append_seam}
use borrow.Author.Tests.{ltb-true, leb-true, eqb-false, not-true}
use Rattle.limits.specs.Limits.{word_limit, signal_count, parameter_count, last_literal}
use Rattle.limits.specs.Context.{standard_context}
use Rattle.limits.specs.declared.Context.{Context}
use Rattle.limits.specs.declared.Refusal.{Refusal}
use Rattle.limits.specs.Refusal.{number}
use Rattle.lists.specs.Text.{byte}
use Rattle.lists.specs.Number.{number_at}
use Rattle.lists.specs.Same.{same}
use Rattle.lists.specs.Decimal.{Numeral, numeral}
use Rattle.lists.specs.Decimal.Numeral.{is, above, missing}
use Rattle.lists.proofs.Choice.{chosen}
use Rattle.lists.proofs.Decimals.{is-bounded}
use Rattle.words.specs.Word.{LT, GT, BEGIN, keywords, PARAMETER, SIGNAL, VELOCITY, LITERAL, last_word}
use Rattle.words.specs.Word.{is_velocity}
use Rattle.words.specs.Split.{SPACE, RUN, OTHER, Operator, operators, word_among, in_run, class_of}
use Rattle.words.specs.Split.{goes_on, begins, run}
use Rattle.words.specs.Split.{keyword_among, keyword_of, word_from, number_of, literal_of, run_of, longest}
use Rattle.words.specs.Split.{awaits_velocity, word_of, Out, add, words, wrong_size, split_of}
use Rattle.words.specs.Split.Out.{refused, made}
use Rattle.words.specs.Contract.{Ranged}
use Rattle.words.specs.Split.{Word}
use Rattle.std.specs.Prelude.{Ok, Err}

-- The context of the specification has velocities with words of their own.
pub standard-ranged : Ranged standard_context
standard-ranged = record { some = omega arith; few = omega arith }

-- The property of one word, of an answer of one word, of a list of words, and of what splitting gives.
pub record Fine (context : Context) (w : ℕ) : Type 0 where
  pub some : 0 < w
  pub low : Ranged context → w ≤ last_word
  pub velocity : Ranged context → VELOCITY ≤ w → w < LITERAL → w < VELOCITY + context.velocities

-- A refusal of the words is 1 to 4.
abbrev pub OfWords : Refusal → Type 0
OfWords r = (1 ≤ number r) × (number r ≤ 4)

abbrev pub FineWord : Context → Word → Type 0
FineWord context (Ok w) = Fine context w
FineWord context (Err r) = OfWords r

pub record FineList (context : Context) (ws : List ℕ) : Type 0 where
  pub few : length ws ≤ word_limit
  pub each : (i : ℕ) → i < length ws → Fine context (number_at ws i)

abbrev pub FineOut : Context → Out → Type 0
FineOut context (refused r) = OfWords r
FineOut context (made ws) = FineList context ws

-- A class is at most OTHER: the operators' words by a test over their table.
small : List Operator → Bool
small [] = true
small (o ∷ os) = leb o.word OTHER && small os

among-small : (os : List Operator) (b : ℕ) → small os ≡ true → word_among os b ≤ OTHER
unfolding small
among-small [] b t = omega arith
among-small (o ∷ os) b t =
    let both = (and-eq-true_iff (leb o.word OTHER) (small os)).0 t in
    chosen (λ c. c ≤ OTHER) (eqb b o.sign) (λ _. leb-true o.word OTHER both.0)
    (λ _. among-small os b both.1)

class-small : (b : ℕ) → class_of b ≤ OTHER
unfolding class_of small
class-small b =
    chosen (λ c. c ≤ OTHER) (in_run b) (λ _. omega arith)
    (λ _. chosen (λ c. c ≤ OTHER) (eqb b (byte " ")) (λ _. omega arith) (λ _. among-small operators b refl))

-- A byte that begins a word is no space.
class-some : (p c : ℕ) → begins p c ≡ true → 0 < c
class-some p c t =
    let no-space = not-true (eqb c SPACE) ((and-eq-true_iff (not (eqb c SPACE)) (not (goes_on p c))).0 t).0 in
    positive (eqb-false c SPACE no-space)
  where
    positive : (c ≡ 0 → ⊥) → 0 < c
    positive n = omega arith

-- Keywords are numbered one after the other.
among-bound : (ks : List (List ℕ)) (n : ℕ) (r : List ℕ) → keyword_among ks n r ≤ n + length ks
unfolding keyword_among
among-bound [] n r = omega arith
among-bound (k ∷ ks) n r =
    chosen (λ w. w ≤ n + suc (length ks)) (same r k) (λ _. omega arith) (λ _. omega (arith, among-bound ks (suc n) r))

module _ (context : Context) where
  -- A word below the velocities'.
  below-fine : (w : ℕ) → 0 < w → w < VELOCITY → Fine context w
  below-fine w s h = record { some = s; low = λ _. omega arith; velocity = λ _ p _. absurd (omega arith) }

  from-fine : (base max : ℕ) (q : Numeral) → ((v : ℕ) → v ≤ max → Fine context (base + v))
      → ((v : ℕ) (l : List ℕ) → q ≡ is v l → v ≤ max) → FineWord context (word_from base q)
  from-fine base max (is v []) f b = f v (b v [] refl)
  from-fine base max (is v (x ∷ l)) f b = (omega arith, omega arith)
  from-fine base max (above []) f b = (omega arith, omega arith)
  from-fine base max (above (x ∷ l)) f b = (omega arith, omega arith)
  from-fine base max missing f b = (omega arith, omega arith)

  number-fine : (base max : ℕ) (l : List ℕ) → ((v : ℕ) → v ≤ max → Fine context (base + v))
      → FineWord context (number_of base max l)
  unfolding number_of
  number-fine base max l f = from-fine base max (numeral max l) f (λ v r e. is-bounded max l e)

  -- The literal of a velocity test, and any other.
  velocity-fine : (v : ℕ) → v ≤ context.velocities - 1 → Fine context (VELOCITY + v)
  velocity-fine v h =
      record {
        some = omega arith;
        low = λ r. omega (arith, r.few);
        velocity = λ r _ _. omega (arith, r.some);
      }

  other-fine : (v : ℕ) → v ≤ last_literal → Fine context (LITERAL + v)
  other-fine v h = record { some = omega arith; low = λ _. omega arith; velocity = λ _ _ q. absurd (omega arith) }

  literal-fine : (awaited : Bool) (r : List ℕ) → FineWord context (literal_of context awaited r)
  literal-fine awaited r =
      chosen (FineWord context) awaited (λ _. number-fine VELOCITY (context.velocities - 1) r velocity-fine)
      (λ _. number-fine LITERAL last_literal r other-fine)

  run-fine : (awaited : Bool) (r : List ℕ) → FineWord context (run_of context awaited r)
  unfolding run_of keyword_of
  run-fine awaited r =
      chosen (FineWord context) (ltb 0 (keyword_of r))
      (λ t. below-fine (keyword_of r) (ltb-true 0 (keyword_of r) t) (omega (arith, among-bound keywords BEGIN r)))
      (λ _. chosen (FineWord context) (eqb (number_at r 0) (byte "s"))
      (λ _. number-fine SIGNAL (signal_count - 1) (drop 1 r) (λ v h. below-fine _ (omega arith) (omega arith)))
      (λ _. chosen (FineWord context) (eqb (number_at r 0) (byte "k"))
      (λ _. number-fine PARAMETER (parameter_count - 1) (drop 1 r) (λ v h. below-fine _ (omega arith) (omega arith)))
      (λ _. literal-fine awaited r)))

  longest-fine : (c next : ℕ) → 0 < c → c ≤ OTHER → FineWord context (longest c next)
  longest-fine c next s h =
      chosen (Fine context) (eqb c LT && eqb next (byte "=")) (λ _. below-fine _ (omega arith) (omega arith))
      (λ _. chosen (Fine context) (eqb c GT && eqb next (byte "=")) (λ _. below-fine _ (omega arith) (omega arith))
      (λ _. below-fine c s (omega arith)))

  word-fine : (awaited : Bool) (c : ℕ) (l : List ℕ) → 0 < c → c ≤ OTHER → FineWord context (word_of context awaited c l)
  unfolding word_of
  word-fine awaited c l s h =
      chosen (FineWord context) (eqb c RUN) (λ _. run-fine awaited (run l))
      (λ _. chosen (FineWord context) (eqb c OTHER) (λ _. (omega arith, omega arith))
      (λ _. longest-fine c (number_at l 1) s h))

  -- One word more, where there are not yet so many.
  more-fine : (ws : List ℕ) (w : ℕ) → FineList context ws → (length ws ≡ word_limit → ⊥) → Fine context w
      → FineList context (ws ++ w ∷ [])
  more-fine ws w h n f = record { few = simp length-append (omega (arith, h.few)); each = each }
    where
      last : (i : ℕ) → i ≡ length ws → Fine context (number_at (ws ++ w ∷ []) i)
      last i e = rw (e, get_or-append_seam ws w [] 0) f

      each : (i : ℕ) → i < length (ws ++ w ∷ []) → Fine context (number_at (ws ++ w ∷ []) i)
      each i l =
          elim (dec_lt i (length ws)) [
            | yes a ↦ rw (get_or-append ws (w ∷ []) 0 i a) (h.each i a)
            | no a ↦ last i (let e = length-append ws (w ∷ []) in omega arith)
          ]

  add-fine : (w : Word) (ws : List ℕ) (rest : List ℕ → Out) → FineWord context w → FineList context ws
      → (length ws ≡ word_limit → ⊥) → ((more : List ℕ) → FineList context more → FineOut context (rest more))
      → FineOut context (add w ws rest)
  add-fine (Ok w) ws rest f h n go = go (ws ++ w ∷ []) (more-fine ws w h n f)
  add-fine (Err k) ws rest f h n go = f

  words-fine : (l : List ℕ) (p : ℕ) (ws : List ℕ) → FineList context ws → FineOut context (words context l p ws)
  unfolding words
  words-fine [] p ws h = h
  words-fine (b ∷ l) p ws h =
      let c = class_of b in
      chosen (FineOut context) (begins p c)
      (λ t. chosen (FineOut context) (eqb (length ws) word_limit) (λ _. (omega arith, omega arith))
      (λ n. add-fine (word_of context (awaits_velocity ws) c (b ∷ l)) ws (λ more. words context l c more)
      (word-fine (awaits_velocity ws) c (b ∷ l) (class-some p c t) (class-small b)) h
      (eqb-false (length ws) word_limit n)
      (λ more f. words-fine l c more f)))
      (λ _. words-fine l c ws h)

  split-fine : (text : List ℕ) → FineOut context (split_of context text)
  unfolding split_of
  split-fine text =
      chosen (FineOut context) (wrong_size text) (λ _. (omega arith, omega arith))
      (λ _. words-fine text SPACE [] (record { few = omega arith; each = λ i h. absurd (omega arith) }))

  -- The theorems.
  pub refusal-numbered : (text : List ℕ) (r : Refusal) → split_of context text ≡ refused r → OfWords r
  refusal-numbered text r e = subst (FineOut context) e (split-fine text)

  module _ (text ws : List ℕ) (e : split_of context text ≡ made ws) where
    fine : FineList context ws
    fine = subst (FineOut context) e (split-fine text)

    pub words-few : length ws ≤ word_limit
    words-few = fine.few

    pub word_made : (i : ℕ) → i < length ws → 0 < number_at ws i
    word_made i h = (fine.each i h).some

    module _ (r : Ranged context) (i : ℕ) where
      pub word_bound : number_at ws i ≤ last_word
      word_bound =
          elim (dec_lt i (length ws)) [
            | yes h ↦ (fine.each i h).low r
            | no h ↦ (let past : length ws ≤ i = omega arith in rw (get_or-eq_default ws 0 past) (omega arith))
          ]

      -- The literal of a velocity test is below the velocities. Past the words there is none.
      pub velocity-bound : is_velocity (number_at ws i) ≡ true → number_at ws i - VELOCITY < context.velocities
      unfolding is_velocity
      velocity-bound v =
          let w = number_at ws i in
          let both = (and-eq-true_iff (leb VELOCITY w) (leb w (LITERAL - 1))).0 v in
          let from = leb-true VELOCITY w both.0 in
          let to = leb-true w (LITERAL - 1) both.1 in
          elim (dec_lt i (length ws)) [
            | yes h ↦ omega (arith, (fine.each i h).velocity r from (omega arith))
            | no h ↦ absurd (past (omega arith) from)
          ]
        where
          past : length ws ≤ i → VELOCITY ≤ number_at ws i → ⊥
          past h from = omega (arith, get_or-eq_default ws 0 h)
