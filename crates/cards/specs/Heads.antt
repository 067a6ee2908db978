-- How the lines before the ticks begin, and the refusals of a card's lines. Definitions only.
use mathlib.Core.List.{List, [], ◌∷◌, ◌++◌, Memᴰ}
use Rattle.std.specs.Prelude.{ℕ, length, drop}
use Rattle.limits.specs.declared.Refusal.{Refusal}
use Rattle.limits.specs.declared.Refusal.TheVariants.{BadHead, BadTick}
use Rattle.lists.specs.Decimal.{digit}
use Rattle.lists.specs.Text.{bytes}

-- SPEC 10.2: the editions of cards,
abbrev pub editions : List ℕ
editions = 1 ∷ 2 ∷ []

abbrev pub IsEdition : ℕ → Type 0
IsEdition e = Memᴰ e editions

-- the whole first line of one, whose number is a digit,
abbrev pub edition_line : ℕ → List ℕ
edition_line e = bytes "edition=" ++ (digit e ∷ [])

-- the one whose tick lines have no velocity (SPEC 10.6), and the number that a stage has where no edition is known.
abbrev pub plain_edition : ℕ
plain_edition = 1

abbrev pub no_edition : ℕ
no_edition = 0

-- How the other three lines before the ticks begin (SPEC 10.3, SPEC 10.4, SPEC 10.5).
abbrev pub parameters_head : List ℕ
parameters_head = bytes "k="

abbrev pub rule_head : List ℕ
rule_head = bytes "watch="

abbrev pub count_head : List ℕ
count_head = bytes "ticks="

-- What stands after the head of a line.
abbrev pub after_head : List ℕ → List ℕ → List ℕ
after_head head l = drop (length head) l

-- SPEC 10.7: which refusal a line gets that fails. The first is for the four first lines (SPEC 7.17), the second for
-- the others and for bytes behind them (SPEC 7.18).
abbrev pub head_refusal : Refusal
head_refusal = BadHead

abbrev pub tick_refusal : Refusal
tick_refusal = BadTick
