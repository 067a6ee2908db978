-- The part from after `watch=` on, up to the end of the line there.
use Rattle.std.proofs.Common.{length, refl, sym}
use lib.Seq.{length-take-le}
use Rattle.cards.specs.Heads.{rule_head}
use Rattle.reader.proofs.Part.{from_place, line_fits, rule_taken}
use Rattle.reader.proofs.Reader.rule_text.Goals as goal

pub slice_bounds-result-end : goal.slice_bounds-result-end
slice_bounds-result-end c = sym (length-take-le _ _ (line_fits _ _ c.line_length.ensures))

pub returns : goal.returns
returns c =
    let bytes = c.args.self.bytes.now in
    let line = from_place bytes c.args.self.at _ _ c.get.ensures.lookup c.unwrap_or-line.ensures refl in
    let text = from_place c.unwrap_or-line.result.now (length rule_head) _ _ c.get-2.ensures.lookup
    c.unwrap_or-text.ensures refl in
    rule_taken bytes c.args.self.at _ line text c.line_length.ensures
