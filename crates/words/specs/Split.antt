-- How a text is split into words (SPEC 2.1 to SPEC 2.9, SPEC 2.11), and refusals 1 to 4. Definitions only.
use Rattle.std.specs.Prelude.{Bool, not, ◌&&◌, ◌||◌, cond, List, [], ◌∷◌, ◌++◌, reverse, ℕ, suc, ◌+◌, ◌-◌, eqb, ltb}
use Rattle.std.specs.Prelude.{length, drop, Result, Ok, Err}
use Prim.Native.String.{String}
use Rattle.limits.specs.Limits.{text_limit, word_limit, signal_count, parameter_count, last_literal}
use Rattle.limits.specs.declared.Context.{Context}
use Rattle.limits.specs.declared.Refusal.{Refusal}
use Rattle.limits.specs.declared.Refusal.TheVariants.{TextSize, BadWord, NumberTooHigh, TooManyWords}
use Rattle.lists.specs.Text.{byte}
use Rattle.lists.specs.Number.{number_at}
use Rattle.lists.specs.Same.{same}
use Rattle.lists.specs.Decimal.{Numeral, is_digit, numeral}
use Rattle.lists.specs.Decimal.Numeral.{is, above, missing}
use Rattle.words.specs.Word.{ROUND, ROUND-END, SQUARE, SQUARE-END, NOT, AND, OR, LE, LT, EQ, GT, GE, COMMA}
use Rattle.words.specs.Word.{BEGIN, VEL, PARAMETER, SIGNAL, VELOCITY, LITERAL, keywords, within, is_op}

-- What class of byte stands in a text. SPEC 2.2: a space is in no word. SPEC 2.4: a letter or a digit belongs to a run.
-- SPEC 2.3: an operator byte is the number of the word that it is by itself. SPEC 7.2: any other byte makes no word.
abbrev pub SPACE : ℕ
SPACE = 0

abbrev pub RUN : ℕ
RUN = 40

abbrev pub OTHER : ℕ
OTHER = 50

-- SPEC 2.3: the operator bytes, each with its word.
pub record Operator : Type 0 where
  pub sign : ℕ
  pub word : ℕ

abbrev pub operator : String → ℕ → Operator
operator s w = record { sign = byte s; word = w }

abbrev pub operators : List Operator
operators =
    operator "(" ROUND ∷ operator ")" ROUND-END ∷ operator "[" SQUARE ∷ operator "]" SQUARE-END ∷ operator "!" NOT ∷
    operator "&" AND ∷ operator "|" OR ∷ operator "<" LT ∷ operator "=" EQ ∷ operator ">" GT ∷
    operator "," COMMA ∷ []

abbrev pub word_among : List Operator → ℕ → ℕ
word_among [] b = OTHER
word_among (o ∷ os) b = cond (eqb b o.sign) o.word (word_among os b)

-- SPEC 2.4: a letter or a digit.
abbrev pub in_run : ℕ → Bool
in_run b = within (byte "a") (byte "z") b || is_digit b

unfoldable pub class_of : ℕ → ℕ
class_of b = cond (in_run b) RUN (cond (eqb b (byte " ")) SPACE (word_among operators b))

-- A byte of class c goes on with the word of the byte before it, of class p: a run goes on (SPEC 2.4), and `=` after
-- `<` or `>` (SPEC 2.3).
abbrev pub goes_on : ℕ → ℕ → Bool
goes_on p c = (eqb p RUN && eqb c RUN) || ((eqb p LT || eqb p GT) && eqb c EQ)

-- A word begins at a byte that is no space and goes on with no word.
abbrev pub begins : ℕ → ℕ → Bool
begins p c = not (eqb c SPACE) && not (goes_on p c)

-- SPEC 2.4: the run at the front of a text, all of it.
unfoldable pub run : List ℕ → List ℕ
run [] = []
run (b ∷ l) = let r = b ∷ run l in cond (eqb (class_of b) RUN) r []

-- The word of a spelling, if the run is that; else the other number.
abbrev pub spelled_or : List ℕ → List ℕ → ℕ → ℕ → ℕ
spelled_or r spelling word other = cond (same r spelling) word other

-- SPEC 2.5: which keyword a run is, numbered from n on; 0 if it is none.
unfoldable pub keyword_among : List (List ℕ) → ℕ → List ℕ → ℕ
keyword_among [] n r = 0
keyword_among (k ∷ ks) n r = let other = keyword_among ks (suc n) r in spelled_or r k n other

unfoldable pub keyword_of : List ℕ → ℕ
keyword_of r = keyword_among keywords BEGIN r

-- One word: its number, or refusal 2 or 3 (SPEC 7.2, SPEC 7.3).
abbrev pub Word : Type 0
Word = Result ℕ Refusal

-- The word of a number, base + n. SPEC 7.2: there is no number, or a byte is left behind it, as after a first 0 with
-- digits behind it (SPEC 2.8). SPEC 7.3: the number is too high.
abbrev pub word_from : ℕ → Numeral → Word
word_from base (is n []) = Ok (base + n)
word_from base (is n (b ∷ l)) = Err BadWord
word_from base (above []) = Err NumberTooHigh
word_from base (above (b ∷ l)) = Err BadWord
word_from base missing = Err BadWord

-- A number up to max.
unfoldable pub number_of : ℕ → ℕ → List ℕ → Word
number_of base max l = word_from base (numeral max l)

-- The word k places from the end of the words so far; 0 if there is none.
abbrev pub back : ℕ → List ℕ → ℕ
back k ws = number_at (reverse ws) k

-- SPEC 2.11: of the words so far the last two are `v` and a comparison. A literal behind them is a velocity's.
abbrev pub awaits_velocity : List ℕ → Bool
awaits_velocity ws = eqb (back 1 ws) VEL && is_op (back 0 ws)

-- A literal: one whose two words before are `v` and a comparison goes up to the last velocity (SPEC 2.11), any other up
-- to the last literal (SPEC 2.7).
abbrev pub literal_of : Context → Bool → List ℕ → Word
literal_of context awaited r =
    cond awaited (number_of VELOCITY (context.velocities - 1) r) (number_of LITERAL last_literal r)

-- The word that a run is: a keyword (SPEC 2.5), by its first byte a signal or a parameter (SPEC 2.6), or else a
-- literal. Here and below `awaited` says whether the literal would be a velocity's.
unfoldable pub run_of : Context → Bool → List ℕ → Word
run_of context awaited r =
    cond (ltb 0 (keyword_of r)) (Ok (keyword_of r))
    (cond (eqb (number_at r 0) (byte "s")) (number_of SIGNAL (signal_count - 1) (drop 1 r))
    (cond (eqb (number_at r 0) (byte "k")) (number_of PARAMETER (parameter_count - 1) (drop 1 r))
    (literal_of context awaited r)))

-- SPEC 2.3: `<` and `>` take in a `=` behind them.
abbrev pub longest : ℕ → ℕ → Word
longest c next =
    Ok (cond (eqb c LT && eqb next (byte "=")) LE (cond (eqb c GT && eqb next (byte "=")) GE c))

-- The word at the front of a text whose first byte is of class c; of some bytes none begins (SPEC 7.2).
unfoldable pub word_of : Context → Bool → ℕ → List ℕ → Word
word_of context awaited c l =
    cond (eqb c RUN) (run_of context awaited (run l)) (cond (eqb c OTHER) (Err BadWord) (longest c (number_at l 1)))

-- What splitting a text gives: its words, or the first refusal.
pub data Out : Type 0 where
  refused : Refusal → Out
  made : List ℕ → Out

-- The words so far and one more.
abbrev pub add : Word → List ℕ → (List ℕ → Out) → Out
add (Ok w) ws rest = rest (ws ++ w ∷ [])
add (Err r) ws rest = refused r

-- SPEC 8.1: word by word, up to the first refusal. SPEC 7.4: after the last word that there is room for (SPEC 2.9), one
-- more is not looked at. p is the class of the byte before, ws the words so far.
unfoldable pub words : Context → List ℕ → ℕ → List ℕ → Out
words context [] p ws = made ws
words context (b ∷ l) p ws =
    let word = word_of context (awaits_velocity ws) (class_of b) (b ∷ l) in
    let one = add word ws (λ more. words context l (class_of b) more) in
    let none = words context l (class_of b) ws in
    cond (begins p (class_of b)) (cond (eqb (length ws) word_limit) (refused TooManyWords) one) none

-- SPEC 7.1: there is no byte, or more than a text can have (SPEC 2.1).
abbrev pub wrong_size : List ℕ → Bool
wrong_size text = eqb (length text) 0 || ltb text_limit (length text)

unfoldable pub split_of : Context → List ℕ → Out
split_of context text = cond (wrong_size text) (refused TextSize) (words context text SPACE [])
