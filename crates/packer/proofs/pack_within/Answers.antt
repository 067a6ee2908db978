-- The parts one after the other, each on what those before it leave in the buffers. The names are classes and then
-- places, and the heads are heads and then marks; all are cleared in the end, and no part changes a number past n.
use Rattle.std.proofs.Common.{◌∙◌}
use native.Mathlib.Omega.{arith}
use Rattle.packer.proofs.Cleared.{cleared_by, cleared-filled}
use Rattle.packer.proofs.Whole.{fitted, closed, filled-by}
use Rattle.packer.proofs.pack_within.Goals as goal

pub classify-requires : goal.classify-requires
classify-requires c = record { fitted = fitted _ _ c.requires.passing; rooms = c.requires.rooms }

pub mark-requires : goal.mark-requires
mark-requires c =
    let classes = filled-by _ _ _ c.classify.ensures.0 c.requires.rooms.in-names in (
      record {
        fitted = fitted _ _ c.requires.passing;
        two = closed _ _ c.requires.passing;
        names = classes.1;
        named = classes.0;
        room = omega (arith, c.requires.rooms.in-heads);
      },
      omega (arith, c.requires.rooms.in-next),
    )

pub place-size-requires : goal.place-size-requires
place-size-requires c =
    let classes = filled-by _ _ _ c.classify.ensures.0 c.requires.rooms.in-names in
    let marks = filled-by _ _ _ c.mark.ensures.0 (omega (arith, c.requires.rooms.in-heads)) in
    record {
      fitted = fitted _ _ c.requires.passing;
      names = classes.1;
      marks = marks.1;
      marked = marks.0;
      named = classes.0;
    }

pub emit-requires : goal.emit-requires
emit-requires c =
    let fits = fitted _ _ c.requires.passing in
    let marks = filled-by _ _ _ c.mark.ensures.0 (omega (arith, c.requires.rooms.in-heads)) in
    let places = filled-by _ _ _ c.place-size.ensures.0 (omega (arith, c.requires.rooms.in-names)) in
    record {
      fitted = fits;
      places = places.1;
      marks = marks.1;
      marked = marks.0;
      room = omega (arith, fits.few, c.requires.room);
    }

pub returns : goal.returns
returns c =
    let rooms = c.requires.rooms in (
      c.place-size.ensures.1,
      c.emit.ensures,
      c.clear.ensures ∙ cleared-filled _ _ _ c.place-size.ensures.0 ∙ cleared-filled _ _ _ c.classify.ensures.0,
      c.classify.ensures.1,
      c.mark.ensures.1 ∙ (cleared_by _ _ c.classify.ensures.2 rooms.in-next).1,
      c.clear-2.ensures ∙ cleared-filled _ _ _ c.mark.ensures.0
          ∙ (cleared_by _ _ c.classify.ensures.3 rooms.in-heads).1,
    )
