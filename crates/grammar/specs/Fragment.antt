-- Which words lead out of the fragment that has a meaning (SPEC 3.10). Definitions only.
use Rattle.std.specs.Prelude.{Bool, false, ◌||◌, List, [], ◌∷◌, ℕ, eqb}
use Rattle.words.specs.Word.{CHOP, EXISTS}

-- The word w stands among the words.
unfoldable pub has_word : ℕ → List ℕ → Bool
has_word w [] = false
has_word w (x ∷ xs) = eqb x w || has_word w xs

-- SPEC 7.7: `chop` or `exists` is among the words.
abbrev pub beyond : List ℕ → Bool
beyond ws = has_word CHOP ws || has_word EXISTS ws
