-- Which bytes are not of a class. Assumes nothing.
use mathlib.Core.Bool.{Bool, true, false, not, ◌&&◌, and-false, and-eq-true_iff}
use mathlib.Core.List.{List, [], ◌∷◌}
use mathlib.Core.Path.{◌≡◌, refl, sym, ap, ◌∙◌}
use Prim.Native.Nat.{ℕ, ◌<◌}
use lib.Dec.{eqb, leb}
use borrow.Author.Tests.{ne_eqb, lt-leb}
use Rattle.lists.specs.Text.{byte}
use Rattle.lists.proofs.Choice.{chosen}
use Rattle.words.specs.Word.{within, EQ}
use Rattle.words.specs.Split.{OTHER, Operator, operators, word_among, in_run, class_of}

-- A number above a range.
pub within-above : (lo hi w : ℕ) → hi < w → within lo hi w ≡ false
within-above lo hi w p = ap (λ (x : Bool). leb lo w && x) (lt-leb w hi p) ∙ and-false (leb lo w)

-- No operator that is the byte b has the word w.
lacks : ℕ → ℕ → List Operator → Bool
lacks w b [] = true
lacks w b (o ∷ os) = not (eqb o.word w && eqb b o.sign) && lacks w b os

one-false : (x y : Bool) → not (x && y) ≡ true → y ≡ true → x ≡ false
one-false true true h t = sym h
one-false true false h t = sym t
one-false false y h t = refl

lacking : (w b : ℕ) (os : List Operator) → eqb OTHER w ≡ false → lacks w b os ≡ true → eqb (word_among os b) w ≡ false
unfolding lacks
lacking w b [] p h = p
lacking w b (o ∷ os) p h =
    let both = (and-eq-true_iff (not (eqb o.word w && eqb b o.sign)) (lacks w b os)).0 h in
    chosen (λ c. eqb c w ≡ false) (eqb b o.sign) (one-false _ _ both.0) (λ _. lacking w b os p both.1)

-- No other byte than `=` has its class.
pub no-equals : (b : ℕ) → (b ≡ byte "=" → ⊥) → eqb (class_of b) EQ ≡ false
unfolding class_of lacks
no-equals b n =
    chosen (λ c. eqb c EQ ≡ false) (in_run b) (λ _. refl)
    (λ _. chosen (λ c. eqb c EQ ≡ false) (eqb b (byte " ")) (λ _. refl)
    (λ _. lacking EQ b operators refl (simp (ne_eqb b (byte "=") n))))
