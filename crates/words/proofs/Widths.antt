-- After a word a text goes on as after a space, and a word takes a byte at least. Assumes nothing.
use mathlib.Core.Bool.{Bool, true, false, cond, ◌&&◌, ◌||◌, false≢true}
use mathlib.Core.List.{List, [], ◌∷◌}
use mathlib.Core.Path.{◌≡◌, refl, sym, ◌∙◌}
use Prim.Native.Nat.{ℕ, ◌≤◌, ◌<◌}
use native.Mathlib.Omega.{arith}
use lib.Dec.{eqb}
use lib.ListN.{length, drop}
use borrow.Author.Tests.{eqb-true, eqb-false, ne_eqb}
use Rattle.limits.specs.declared.Context.{Context}
use Rattle.lists.specs.Text.{byte}
use Rattle.lists.specs.Number.{number_at}
use Rattle.lists.specs.Decimal.{is_digit}
use Rattle.words.specs.Word.{LT, EQ, GT}
use Rattle.words.specs.Split.{SPACE, RUN, class_of, goes_on, run, words}
use Rattle.words.specs.Width.{operator_width, width_of}
use Rattle.words.proofs.Classes.{no-equals}
use Rattle.words.proofs.Runs.{run_length, run_some}

module _ (context : Context) where
  -- Where no word goes on.
  afresh : (p : ℕ) (l ws : List ℕ) → goes_on p (class_of (number_at l 0)) ≡ false
      → words context l p ws ≡ words context l SPACE ws
  unfolding words
  afresh p [] ws h = refl
  afresh p (b ∷ l) ws h = rw h

  -- At the end of a run.
  module _ (b : ℕ) (l ws : List ℕ) where
    past-run-at : (x : Bool) → eqb (class_of b) RUN ≡ x
        → words context l RUN ws ≡ words context (drop (length (run l)) l) SPACE ws
        → words context (b ∷ l) RUN ws ≡ words context (drop (length (cond x (b ∷ run l) [])) (b ∷ l)) SPACE ws
    unfolding words
    past-run-at true e h = rw (eqb-true (class_of b) RUN e) h
    past-run-at false e h = afresh RUN (b ∷ l) ws (simp e)

  past-run : (l ws : List ℕ) → words context l RUN ws ≡ words context (drop (length (run l)) l) SPACE ws
  unfolding run words
  past-run [] ws = refl
  past-run (b ∷ l) ws = past-run-at b l ws (eqb (class_of b) RUN) refl (past-run l ws)

  -- After an operator of class c at the byte b.
  module _ (c b : ℕ) (n : c ≡ RUN → ⊥) where
    operator-past : (l ws : List ℕ) (x y : Bool) → (eqb c LT || eqb c GT) ≡ x → eqb (number_at l 0) (byte "=") ≡ y
        → words context l c ws ≡ words context (drop (cond (x && y) 2 1) (b ∷ l)) SPACE ws
    unfolding words class_of is_digit
    operator-past l ws false y p q = afresh c l ws (simp (ne_eqb c RUN n, p))
    operator-past l ws true false p q =
        afresh c l ws (simp (ne_eqb c RUN n, p, no-equals (number_at l 0) (eqb-false _ (byte "=") q)))
    operator-past [] ws true true p q = absurd (false≢true q)
    operator-past (d ∷ l) ws true true p q =
        rw (eqb-true d (byte "=") q) (simp (ne_eqb c RUN n, p) (afresh EQ l ws refl))

  -- After the word of class c at the byte b.
  word-past : (c b : ℕ) (l ws : List ℕ) → c ≡ class_of b → (z : Bool) → eqb c RUN ≡ z
      → words context l c ws
      ≡ words context (drop (cond z (length (run (b ∷ l))) (operator_width c (number_at l 0))) (b ∷ l)) SPACE ws
  unfolding run
  word-past c b l ws e true t =
      let is-run = eqb-true c RUN t in
      rw (is-run, sym e ∙ is-run) (past-run l ws)
  word-past c b l ws e false t = operator-past c b (eqb-false c RUN t) l ws _ _ refl refl

  -- The same after the first word of a text, of class c.
  pub text-past : (c : ℕ) (text ws : List ℕ) → 0 < length text → c ≡ class_of (number_at text 0)
      → words context (drop 1 text) c ws ≡ words context (drop (width_of c text) text) SPACE ws
  text-past c [] ws h e = absurd (omega arith)
  text-past c (b ∷ l) ws h e = word-past c b l ws e (eqb c RUN) refl

-- A word takes a byte at least,
some_at : (n : ℕ) (x y z : Bool) → (z ≡ true → 0 < n) → 0 < cond z n (cond (x && y) 2 1)
some_at n x y true h = h refl
some_at n true true false h = omega arith
some_at n true false false h = omega arith
some_at n false y false h = omega arith

pub width_some : (c : ℕ) (text : List ℕ) → 0 < length text → c ≡ class_of (number_at text 0) → 0 < width_of c text
width_some c text h e =
    some_at _ (eqb c LT || eqb c GT) (eqb (number_at text 1) (byte "=")) (eqb c RUN)
    (λ t. run_some text h (sym e ∙ eqb-true c RUN t))

-- and no more than there are.
fits_at : (n m : ℕ) (x y z : Bool) → n ≤ m → 0 < m → (y ≡ true → 1 < m) → cond z n (cond (x && y) 2 1) ≤ m
fits_at n m x y true f h g = f
fits_at n m true true false f h g = g refl
fits_at n m true false false f h g = omega arith
fits_at n m false y false f h g = omega arith

second : (text : List ℕ) → eqb (number_at text 1) (byte "=") ≡ true → 1 < length text
second [] e = absurd (false≢true e)
second (b ∷ []) e = absurd (false≢true e)
second (b ∷ d ∷ l) e = omega arith

pub width_fits : (c : ℕ) (text : List ℕ) → 0 < length text → width_of c text ≤ length text
width_fits c text h =
    fits_at _ _ (eqb c LT || eqb c GT) (eqb (number_at text 1) (byte "=")) (eqb c RUN) (run_length text) h
    (second text)
