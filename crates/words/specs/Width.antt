-- How many bytes of a text a word takes. No public promise cites this module: it is what the code goes by, and proofs/
-- show that the words are those of specs/Split.antt. Definitions only.
use Rattle.std.specs.Prelude.{◌&&◌, ◌||◌, cond, List, ℕ, eqb, length}
use Rattle.lists.specs.Text.{byte}
use Rattle.lists.specs.Number.{number_at}
use Rattle.words.specs.Word.{LT, GT}
use Rattle.words.specs.Split.{RUN, run}

-- An operator byte of class c before the byte next: `<` and `>` go with a `=` behind them.
abbrev pub operator_width : ℕ → ℕ → ℕ
operator_width c next = cond ((eqb c LT || eqb c GT) && eqb next (byte "=")) 2 1

-- The word at the front of a text whose first byte is of class c.
abbrev pub width_of : ℕ → List ℕ → ℕ
width_of c l = cond (eqb c RUN) (length (run l)) (operator_width c (number_at l 1))
