-- A round that changes no class has found the classes, and one that changes one is followed by another. The other
-- buffers are as if cleared at the start: past n no number is changed.
use Rattle.std.proofs.Common.{sym, ◌∙◌}
use Rattle.std.proofs.lemmas.Slice.Eq.{bytes_eq-Decides}
use Rattle.packing.proofs.Searches.{not-both}
use Rattle.packer.proofs.Rounds.{next-cleared, heads-cleared, rounding-done, rounding-less, rounding-more}
use Rattle.packer.proofs.classify.Goals as goal

pub loop-names-smaller : goal.loop-names-smaller
loop-names-smaller c =
    rounding-less c.loop-names.invariant c.requires.fitted c.requires.rooms c.round.ensures
    c.copy_over.ensures
    (λ q. not-both _ ((bytes_eq-Decides _ _).1 q) (sym c.eq.ensures ∙ c.if-eq.false))

pub loop-names-preserved : goal.loop-names-preserved
loop-names-preserved c =
    rounding-more c.loop-names.invariant c.requires.fitted c.requires.rooms c.round.ensures
    c.copy_over.ensures

pub returns : goal.returns
returns c =
    let from = c.loop-names.invariant in
    let pre = c.requires in (
      rounding-done from pre.fitted pre.rooms c.round.ensures
          ((bytes_eq-Decides _ _).0 (sym c.eq.ensures ∙ c.if-eq.true)),
      c.clear-2.ensures ∙ from.rest-before,
      c.clear-3.ensures ∙ next-cleared from pre.fitted pre.rooms c.round.ensures,
      c.clear-4.ensures ∙ heads-cleared from pre.fitted pre.rooms c.round.ensures,
    )
