-- How long a table's text can be. Definitions only.
use Rattle.std.specs.Prelude.{ℕ, ◌+◌, ◌*◌}
use Rattle.limits.specs.Limits.{equation_limit}

-- No line is longer, nor are the first line and the last three together (proofs/Sizes.antt).
abbrev pub longest_line : ℕ
longest_line = 100

-- No table's text is longer.
abbrev pub length_limit : ℕ
length_limit = longest_line * equation_limit + longest_line
