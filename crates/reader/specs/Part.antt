-- Which part of a card is the rule text. Definitions only.
use Rattle.std.specs.Prelude.{List, ℕ, ◌+◌, length}
use Rattle.lists.specs.Line.{line_from}
use Rattle.cards.specs.Heads.{rule_head}

-- SPEC 10.4: what stands after `watch=` at a place, up to the line's end.
abbrev pub rule_from : List ℕ → ℕ → List ℕ
rule_from s at = line_from s (at + length rule_head)
