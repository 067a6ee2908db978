-- The numbers of a list by their places. Definitions only.
use Rattle.std.specs.Prelude.{List, ℕ, get_or}

-- Number i of a list; 0 past the end.
abbrev pub number_at : List ℕ → ℕ → ℕ
number_at l i = get_or l i 0
