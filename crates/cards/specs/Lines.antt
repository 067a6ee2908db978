-- Over-long lines, and bytes cut into lines (SPEC 10.1). Definitions only.
use Rattle.std.specs.Prelude.{Bool, cond, List, [], ◌∷◌, ℕ, eqb, leb, length}
use Rattle.limits.specs.Limits.{line_limit}
use Rattle.lists.specs.Text.{line_end}

-- SPEC 10.1: a line's byte 10 counts as one of its bytes, so a line that is given without it is over-long from so many
-- bytes on.
abbrev pub over_long : List ℕ → Bool
over_long l = leb line_limit (length l)

-- The lines that end in byte 10, without it, and the bytes after the last of them.
pub record Cut : Type 0 where
  pub whole : List (List ℕ)
  pub tail : List ℕ

abbrev pub cut_as : List (List ℕ) → List ℕ → Cut
cut_as ls t = record { whole = ls; tail = t }

-- A line in front.
abbrev pub with_line : List ℕ → Cut → Cut
with_line l c = cut_as (l ∷ c.whole) c.tail

-- A byte in front of the first line, or of the bytes after the last where there is no line.
abbrev pub push_on : ℕ → List (List ℕ) → List ℕ → Cut
push_on b [] t = cut_as [] (b ∷ t)
push_on b (l ∷ ls) t = cut_as ((b ∷ l) ∷ ls) t

abbrev pub push : ℕ → Cut → Cut
push b c = push_on b c.whole c.tail

unfoldable pub cut : List ℕ → Cut
cut [] = cut_as [] []
cut (b ∷ s) = cond (eqb b line_end) (with_line [] (cut s)) (push b (cut s))
