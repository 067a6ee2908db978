-- What splitting gives for texts at the corners of the rules: one table, and one statement over all its rows, which is
-- computed. Assumes nothing.
use mathlib.Core.List.{List, [], ◌∷◌, ◌++◌, map}
use mathlib.Core.Path.{◌≡◌, refl}
use Prim.Native.Nat.{ℕ, ◌+◌, ◌-◌}
use lib.ListN.{replicate}
use Rattle.limits.specs.Limits.{text_limit, word_limit}
use Rattle.limits.specs.Context.{standard_context}
use Rattle.limits.specs.declared.Refusal.{Refusal}
use Rattle.limits.specs.declared.Refusal.TheVariants.{TextSize, BadWord, NumberTooHigh, TooManyWords}
use Rattle.lists.specs.Text.{byte, bytes}
use Rattle.lists.specs.Text.{line_end}
use Rattle.lists.specs.Decimal.{is_digit, digits_after, numeral}
use Rattle.words.specs.Word.{ROUND, ROUND-END, SQUARE, SQUARE-END, NOT, AND, OR, LE, LT, EQ, GT, GE, COMMA}
use Rattle.words.specs.Word.{BEGIN, KEPT, LEN, SUM, AGE, LAG, THEN, CHOP, EXISTS, VEL}
use Rattle.words.specs.Word.{PARAMETER, SIGNAL, VELOCITY, LITERAL, is_op}
use Rattle.words.specs.Split.{class_of, run, keyword_among, keyword_of, number_of, run_of, word_of}
use Rattle.words.specs.Split.{Out, words, split_of}
use Rattle.words.specs.Split.Out.{refused, made}

-- A text, and what splitting it gives.
pub record Example : Type 0 where
  pub text : List ℕ
  pub out : Out

abbrev splits : List ℕ → List ℕ → Example
splits text ws = record { text = text; out = made ws }

abbrev refuses : List ℕ → Refusal → Example
refuses text r = record { text = text; out = refused r }

-- n words `(`, and n spaces.
abbrev rounds : ℕ → List ℕ
rounds n = replicate n (byte "(")

abbrev spaces : ℕ → List ℕ
spaces n = replicate n (byte " ")

-- Words with a number.
abbrev signal : ℕ → ℕ
signal n = SIGNAL + n

abbrev parameter : ℕ → ℕ
parameter n = PARAMETER + n

abbrev velocity : ℕ → ℕ
velocity n = VELOCITY + n

abbrev literal : ℕ → ℕ
literal n = LITERAL + n

-- Keywords that the definitions give no name.
abbrev END : ℕ
END = BEGIN + 1

abbrev POINT : ℕ
POINT = BEGIN + 2

abbrev HELD : ℕ
HELD = BEGIN + 3

unfoldable pub examples : List Example
examples =
    -- the rules of trial runs 7 and 10 (SPEC 14.1)
    splits (bytes "kept[s0] then end[s1]")
    (KEPT ∷ SQUARE ∷ signal 0 ∷ SQUARE-END ∷ THEN ∷ END ∷ SQUARE ∷ signal 1 ∷ SQUARE-END ∷ []) ∷
    splits (bytes "!(len <= 1 then len <= 1)")
    (NOT ∷ ROUND ∷ LEN ∷ LE ∷ literal 1 ∷ THEN ∷ LEN ∷ LE ∷ literal 1 ∷ ROUND-END ∷ []) ∷
    -- all keywords and operators
    splits (bytes "begin end point held kept len sum age lag then chop exists v")
    (BEGIN ∷ END ∷ POINT ∷ HELD ∷ KEPT ∷ LEN ∷ SUM ∷ AGE ∷ LAG ∷ THEN ∷ CHOP ∷ EXISTS ∷ VEL ∷ []) ∷
    splits (bytes "()[]!&|< = > <=>=,")
    (ROUND ∷ ROUND-END ∷ SQUARE ∷ SQUARE-END ∷ NOT ∷ AND ∷ OR ∷ LT ∷ EQ ∷ GT ∷ LE ∷ GE ∷ COMMA ∷ []) ∷
    -- `,` and `lag` are words wherever they stand, and so are the numbers beside a `,`
    splits (bytes "lag[s0,1,s1]")
    (LAG ∷ SQUARE ∷ signal 0 ∷ COMMA ∷ literal 1 ∷ COMMA ∷ signal 1 ∷ SQUARE-END ∷ []) ∷
    splits (bytes ",lag,,") (COMMA ∷ LAG ∷ COMMA ∷ COMMA ∷ []) ∷
    refuses (bytes "lag[s0,1000000,s1]") NumberTooHigh ∷
    refuses (bytes "lag[s0,01,s1]") BadWord ∷
    refuses (bytes "la") BadWord ∷
    refuses (bytes "lags") BadWord ∷
    -- the literal behind `v` and a comparison (SPEC 2.11), whatever stands around it
    splits (bytes "end[v>=90]") (END ∷ SQUARE ∷ VEL ∷ GE ∷ velocity 90 ∷ SQUARE-END ∷ []) ∷
    splits (bytes "v<0 v<=127") (VEL ∷ LT ∷ velocity 0 ∷ VEL ∷ LE ∷ velocity 127 ∷ []) ∷
    refuses (bytes "v<200") NumberTooHigh ∷
    refuses (bytes "end[v>=128") NumberTooHigh ∷
    refuses (bytes "v>=0128") BadWord ∷
    refuses (bytes "v>=128x") BadWord ∷
    refuses (bytes "v5") BadWord ∷
    refuses (bytes "vv") BadWord ∷
    splits (bytes "v>=k0") (VEL ∷ GE ∷ parameter 0 ∷ []) ∷
    -- any other literal: the two words before are not these, or not in this order, or there are no two
    splits (bytes "v < = 200") (VEL ∷ LT ∷ EQ ∷ literal 200 ∷ []) ∷
    splits (bytes "v 200") (VEL ∷ literal 200 ∷ []) ∷
    splits (bytes "<v 200") (LT ∷ VEL ∷ literal 200 ∷ []) ∷
    splits (bytes "v<1<200") (VEL ∷ LT ∷ velocity 1 ∷ LT ∷ literal 200 ∷ []) ∷
    splits (bytes "v!200") (VEL ∷ NOT ∷ literal 200 ∷ []) ∷
    splits (bytes "<200") (LT ∷ literal 200 ∷ []) ∷
    splits (bytes "len<=200") (LEN ∷ LE ∷ literal 200 ∷ []) ∷
    -- how long a text is (SPEC 2.1)
    refuses [] TextSize ∷
    refuses (spaces (text_limit + 1)) TextSize ∷
    splits (spaces text_limit) [] ∷
    splits (bytes "   ") [] ∷
    -- numbers at the ends of their ranges (SPEC 7.3)
    splits (bytes "s0") (signal 0 ∷ []) ∷
    splits (bytes "s63") (signal 63 ∷ []) ∷
    refuses (bytes "s64") NumberTooHigh ∷
    splits (bytes "k7") (parameter 7 ∷ []) ∷
    refuses (bytes "k8") NumberTooHigh ∷
    splits (bytes "0") (literal 0 ∷ []) ∷
    splits (bytes "999999") (literal 999999 ∷ []) ∷
    refuses (bytes "1000000") NumberTooHigh ∷
    -- a first 0 with digits behind it (SPEC 2.8), also where the number is too high
    refuses (bytes "s064") BadWord ∷
    refuses (bytes "k08") BadWord ∷
    refuses (bytes "00") BadWord ∷
    -- runs that are no word
    refuses (bytes "s") BadWord ∷
    refuses (bytes "x") BadWord ∷
    refuses (bytes "1a") BadWord ∷
    refuses (bytes "s1s2") BadWord ∷
    refuses (bytes "beginend") BadWord ∷
    -- bytes that are in no word (SPEC 7.2): `B`, tab and line end
    refuses (bytes "Begin") BadWord ∷
    refuses (9 ∷ []) BadWord ∷
    refuses (line_end ∷ []) BadWord ∷
    -- operators of one byte and of two (SPEC 2.3)
    splits (bytes "<=") (LE ∷ []) ∷
    splits (bytes ">=") (GE ∷ []) ∷
    splits (bytes "=<") (EQ ∷ LT ∷ []) ∷
    splits (bytes "<==") (LE ∷ EQ ∷ []) ∷
    splits (bytes "> =") (GT ∷ EQ ∷ []) ∷
    splits (bytes "len<=3") (LEN ∷ LE ∷ literal 3 ∷ []) ∷
    -- the first word that is refused decides (SPEC 8.1)
    refuses (bytes "x 1000000") BadWord ∷
    refuses (bytes "1000000 x") NumberTooHigh ∷
    -- one word too many, be it a word or not (SPEC 7.4), and a bad word before it
    splits (rounds word_limit) (replicate word_limit ROUND) ∷
    refuses (rounds (word_limit + 1)) TooManyWords ∷
    refuses (rounds word_limit ++ bytes "x") TooManyWords ∷
    refuses (rounds (word_limit - 1) ++ bytes "x(") BadWord ∷
    []

pub examples-hold : map (λ e. split_of standard_context e.text) examples ≡ map (λ e. e.out) examples
unfolding examples is_digit digits_after numeral is_op class_of run keyword_among keyword_of number_of run_of word_of
    words
    split_of
examples-hold = refl
