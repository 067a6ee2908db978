-- The search gives the place of the first line end (`position_from_yields_List`), which is the line's length.
use Rattle.std.proofs.Common.{rules, ◌∙◌, eqb}
use Rattle.std.proofs.lemmas.Iterator.{YieldsList-from_slice}
use Rattle.std.proofs.lemmas.Iterator.Search.{position_from_yields_List}
use Rattle.lists.specs.Text.{line_end}
use Rattle.lists.proofs.Lines.{line_place_from}
use Rattle.lists.proofs.line_length.Goals as goal

pub returns : goal.returns
returns c =
    c.unwrap_or.ensures
    ∙ line_place_from c.args.s.now c.args.at c.min.result c.position.result c.min.ensures
    (position_from_yields_List (λ b. eqb b line_end) _ _ c.position.result c.position.ensures.ran
    (YieldsList-from_slice _ c.iter.ensures.rest)
    (λ x b q k. search rules))
