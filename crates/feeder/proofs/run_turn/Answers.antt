-- `feeder::run_turn` meets its contract: what `feed` leaves over is moved to the front of the buffer. Assumes nothing.
use Rattle.std.proofs.Common.{◌≡◌, ◌-◌, ◌≤◌, ◌∙◌, sym, ap, take, arith}
use Rattle.std.proofs.Math.Seq.{length-take-le}
use Rattle.feeder.proofs.Resuming.{goes-rest, short-eq}
use Rattle.feeder.proofs.Moving.{drop-take, moved-front, take-shifted}
use Rattle.feeder.proofs.run_turn.Goals as goal

pub returns-clause-turns : goal.returns-clause-turns
returns-clause-turns c =
    let feed = c.feed-used.ensures.feeds in
    let to = c.args.to in
    let buf = c.args.buf.now in
    let used = c.feed-used.result.used in
    let within : used ≤ to = omega (arith, feed.used, length-take-le to buf c.requires.0) in
    let shift = moved-front buf used to c.copy_within.ensures.after in
    let front =
    ap (take (to - used)) shift ∙ take-shifted buf used to within c.requires.0 ∙ sym (drop-take used to buf) in
    let z : to - (to - used) ≡ used = omega arith in
    record {
      goes = goes-rest front feed.goes;
      world = feed.world;
      rest = front ∙ feed.rest;
      buffer = rw z shift;
      within = omega arith;
      short = short-eq front feed.short;
      kept = feed.kept;
      room = feed.room;
    }
