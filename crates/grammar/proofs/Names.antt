-- A rule's tree names a parameter exactly if the parameter's word stands among the rule's words: by recursion on the
-- derivation. Assumes nothing.
use mathlib.Core.Path.{◌≡◌, refl, sym, ap, ap₂, ◌∙◌}
use mathlib.Core.Bool.{Bool, true, false, ◌||◌, or-false, or_assoc, or_comm, cond}
use mathlib.Core.List.{List, [], ◌∷◌, ◌++◌}
use Prim.Native.Nat.{ℕ, ◌+◌, ◌-◌, ◌≤◌, ◌<◌}
use native.Mathlib.Omega.{arith}
use lib.Dec.{eqb, leb}
use borrow.Author.Tests.{leb-true, eqb-true, eqb-false, eq-eqb, ne_eqb}
use Rattle.limits.specs.Limits.{parameter_count}
use Rattle.formulas.specs.Formula.Num.{literal, parameter}
use Rattle.formulas.specs.Names.{num_names, names_parameter}
use Rattle.formulas.specs.Tree.{Tree}
use Rattle.words.specs.Word.{ROUND, ROUND-END, SQUARE, SQUARE-END, NOT, AND, OR, COMMA, LEN}
use Rattle.words.specs.Word.{LAG, THEN, CHOP, EXISTS, VEL, PARAMETER, LITERAL}
use Rattle.words.specs.Word.{is_num}
use Rattle.grammar.specs.Grammar.{Symbol, Derives, Rule, num_word}
use Rattle.grammar.specs.Grammar.Symbol.{B}
use Rattle.grammar.specs.Grammar.Derives.{F-one, F-then, F-chop, D-one, D-or, C-one, C-and}
use Rattle.grammar.specs.Grammar.Derives.{U-not, U-exists, U-round, U-constant, U-signal, U-velocity}
use Rattle.grammar.specs.Grammar.Derives.{U-test, U-len, U-count, U-lag, B-between}
use Rattle.grammar.specs.Fragment.{has_word}
use Rattle.grammar.proofs.Position.{num_pos}
use Rattle.grammar.proofs.Hits.{hits, hits-append, own, Clear, clear}

module _ (j : ℕ) (known : j < parameter_count) where
  -- ---- words

  -- A word is that of parameter j.
  abbrev hit : ℕ → Bool
  hit w = eqb w (PARAMETER + j)

  -- Words below and above the parameters are none,
  low : (w : ℕ) → w < PARAMETER → hit w ≡ false
  low w h = ne_eqb w (PARAMETER + j) (λ e. omega arith)

  high : (w : ℕ) → PARAMETER + parameter_count ≤ w → hit w ≡ false
  high w h = ne_eqb w (PARAMETER + j) (λ e. omega arith)

  -- and so neither are the words of a class,
  none-hit : Clear hit
  none-hit = clear hit (λ w h. low w (omega arith)) (λ w h. high w (omega arith))

  -- but for that of n, where n is parameter j.
  number-hit : (w : ℕ) → PARAMETER ≤ w → hit w ≡ eqb (w - PARAMETER) j
  number-hit w h = go (eqb (w - PARAMETER) j) refl
    where
      go : (x : Bool) → eqb (w - PARAMETER) j ≡ x → hit w ≡ x
      go true e = eq-eqb w (PARAMETER + j) (omega (arith, eqb-true (w - PARAMETER) j e))
      go false e = ne_eqb w (PARAMETER + j) (λ q. eqb-false (w - PARAMETER) j e (omega arith))

  num-hit : (w : ℕ) → is_num w ≡ true → hit w ≡ num_names (num_word w) j
  num-hit w h = go (leb LITERAL w) refl
    where
      go : (x : Bool) → leb LITERAL w ≡ x
          → hit w ≡ num_names (cond x (literal (w - LITERAL)) (parameter (w - PARAMETER))) j
      go true e = high w (omega (arith, leb-true LITERAL w e))
      go false e = number-hit w (num_pos w h)

  -- ---- derivations

  -- Two parts with a word between them that is none.
  joined : (s u : List ℕ) (w : ℕ) {x y : Bool} → w < PARAMETER → hits hit s ≡ x → hits hit u ≡ y
      → hits hit (s ++ w ∷ u) ≡ x || y
  joined s u w h e f = hits-append hit s (w ∷ u) ∙ ap₂ ◌||◌ e (ap (λ (b : Bool). b || hits hit u) (low w h) ∙ f)

  -- After a word that is none.
  after-low : (w : ℕ) (s : List ℕ) → w < PARAMETER → hits hit (w ∷ s) ≡ hits hit s
  after-low w s h = ap (λ (b : Bool). b || hits hit s) (low w h)

  -- The brackets and the comma of a P are none.
  between : (before after : ℕ) {x : Bool} → before < PARAMETER → after < PARAMETER → own hit (B before after) || x ≡ x
  between before after {x} h k = ap₂ (λ (b c : Bool). (b || c) || x) (low before h) (low after k)

  -- Words have it exactly if their symbol has it or their tree names it.
  hits-names : {l : Bool} {c : Symbol} {s : List ℕ} {t : Tree} → Derives l c s t
      → hits hit s ≡ own hit c || names_parameter t j
  hits-names (F-one g) = hits-names g
  hits-names (F-then {s} {u} g h) = joined s u THEN (omega arith) (hits-names g) (hits-names h)
  hits-names (F-chop {s} {u} g h) = joined s u CHOP (omega arith) (hits-names g) (hits-names h)
  hits-names (D-one g) = hits-names g
  hits-names (D-or {s = s} {u = u} g h) = joined s u OR (omega arith) (hits-names g) (hits-names h)
  hits-names (C-one g) = hits-names g
  hits-names (C-and {s = s} {u = u} g h) = joined s u AND (omega arith) (hits-names g) (hits-names h)
  hits-names (U-not {s = s} g) = after-low NOT s (omega arith) ∙ hits-names g
  hits-names (U-exists {w} {s} h g) =
      after-low EXISTS (w ∷ s) (omega arith) ∙ ap (λ (b : Bool). b || hits hit s) (none-hit.signal w h) ∙ hits-names g
  hits-names (U-round {s = s} g) =
      after-low ROUND (s ++ ROUND-END ∷ []) (omega arith)
      ∙ joined s [] ROUND-END (omega arith) (hits-names g) refl ∙ or-false _
  hits-names (U-constant {w} h) = or-false (hit w) ∙ none-hit.bit w h
  hits-names (U-signal {w} h) = or-false (hit w) ∙ none-hit.signal w h
  hits-names (U-velocity {o} {n} h m) =
      after-low VEL (o ∷ n ∷ []) (omega arith) ∙ ap₂ ◌||◌ (none-hit.op o h) (or-false (hit n) ∙ none-hit.velocity n m)
  hits-names (U-test {k} {s} h g) =
      ap₂ ◌||◌ (none-hit.test k h) (hits-names g ∙ between SQUARE SQUARE-END (omega arith) (omega arith))
  hits-names (U-len {o} {n} h m) =
      after-low LEN (o ∷ n ∷ []) (omega arith) ∙ ap₂ ◌||◌ (none-hit.op o h) (or-false (hit n) ∙ num-hit n m)
  hits-names (U-count {k} {s} o n h g p q) =
      let number = ap₂ ◌||◌ (none-hit.op o p) (or-false (hit n) ∙ num-hit n q) in
      ap₂ ◌||◌ (none-hit.count k h)
      (hits-append hit s (o ∷ n ∷ [])
      ∙ ap₂ ◌||◌ (hits-names g ∙ between SQUARE SQUARE-END (omega arith) (omega arith)) number)
  hits-names (U-lag {s} {u} n g p h) =
      after-low LAG (s ++ n ∷ u) (omega arith) ∙ hits-append hit s (n ∷ u)
      ∙ ap₂ ◌||◌ (hits-names g ∙ between SQUARE COMMA (omega arith) (omega arith))
      (ap₂ ◌||◌ (num-hit n p) (hits-names h ∙ between COMMA SQUARE-END (omega arith) (omega arith)))
  hits-names (B-between {s} {p} before after g) =
      ap (λ (x : Bool). hit before || x)
      (hits-append hit s (after ∷ []) ∙ ap₂ ◌||◌ (hits-names g) (or-false (hit after))
      ∙ or_comm (names_parameter p j) (hit after))
      ∙ sym (or_assoc (hit before) (hit after) (names_parameter p j))

  -- That is how `has_word` looks at them.
  word-hits : (s : List ℕ) → has_word (PARAMETER + j) s ≡ hits hit s
  unfolding has_word
  word-hits [] = refl
  word-hits (w ∷ s) = ap (λ (x : Bool). hit w || x) (word-hits s)

  pub names-words : (ws : List ℕ) (t : Tree) → Rule ws t → names_parameter t j ≡ has_word (PARAMETER + j) ws
  names-words ws t g = sym (word-hits ws ∙ hits-names g)
