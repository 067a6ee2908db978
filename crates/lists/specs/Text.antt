-- The bytes of a text in quotes, so that definitions can write texts by their characters. Definitions only.
use Rattle.std.specs.Prelude.{List, ℕ}
use Prim.Native.Char.{code}
use Prim.Native.String.{String}
use Rattle.lists.specs.Number.{number_at}

-- The codes of a text's characters: for characters of ASCII, its bytes.
abbrev pub bytes : String → List ℕ
bytes String.[] = List.[]
bytes (String.◌∷◌ c s) = List.◌∷◌ (code c) (bytes s)

-- The byte of a text's first character.
abbrev pub byte : String → ℕ
byte s = number_at (bytes s) 0

-- SPEC 10.1: the byte at the end of a card's line; SPEC 9.1: of a line of Lustre text too.
abbrev pub line_end : ℕ
line_end = 10
