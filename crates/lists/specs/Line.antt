-- The line at the front of some bytes. Definitions only.
use Rattle.std.specs.Prelude.{cond, List, [], ◌∷◌, ℕ, eqb, drop}
use Rattle.lists.specs.Text.{line_end}

-- The bytes before the first line end; all of them, where there is none.
unfoldable pub line : List ℕ → List ℕ
line [] = []
line (b ∷ s) = cond (eqb b line_end) [] (b ∷ line s)

-- The same from a place on.
abbrev pub line_from : List ℕ → ℕ → List ℕ
line_from s at = line (drop at s)
