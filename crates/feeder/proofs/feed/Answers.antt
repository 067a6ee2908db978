-- `feeder::feed` meets its contract: tick lines are run, and then a line is played, or the start of one is left.
-- Assumes nothing.
use Rattle.std.proofs.Common.{arith}
use Rattle.player.proofs.Playing.{arrays-on}
use Rattle.feeder.proofs.Feeding.{ran_on, line-inside, line-ends, whole-line, said-room, after_line}
use Rattle.feeder.proofs.Feeding.{tail-room, tail-feeds}
use Rattle.feeder.proofs.feed.Goals as goal

pub overflow_add-to : goal.overflow_add-to
overflow_add-to c =
    let run = ran_on c.loop-player.invariant.between c.feed_ticks-ran.ensures.runs c.feed_ticks-ran.auto.out in
    omega (arith, line-inside run _ c.line_length.ensures, c.well_formed)

-- The start of a line is left.
pub feed_tail-requires : goal.feed_tail-requires
feed_tail-requires c =
    let run = ran_on c.loop-player.invariant.between c.feed_ticks-ran.ensures.runs c.feed_ticks-ran.auto.out in
    (omega arith, tail-room run _ c.line_length.ensures c.if-to-bytes.true)

pub returns-then-to-bytes-clause-feeds : goal.returns-then-to-bytes-clause-feeds
returns-then-to-bytes-clause-feeds c =
    let run = ran_on c.loop-player.invariant.between c.feed_ticks-ran.ensures.runs c.feed_ticks-ran.auto.out in
    let fed = c.feed_tail.ensures.fed in
    tail-feeds run _ c.line_length.ensures c.if-to-bytes.true fed.0 fed.1 fed.2

-- A whole line is played.
pub on_line-output-requires : goal.on_line-output-requires
on_line-output-requires c =
    let run = ran_on c.loop-player.invariant.between c.feed_ticks-ran.ensures.runs c.feed_ticks-ran.auto.out in
    whole-line run _ c.line_length.ensures c.if-to-bytes.false

pub put-at-requires : goal.put-at-requires
put-at-requires c =
    let run = ran_on c.loop-player.invariant.between c.feed_ticks-ran.ensures.runs c.feed_ticks-ran.auto.out in
    said-room run _ c.line_length.ensures c.if-to-bytes.false c.on_line-output.ensures.line

pub overflow_add-used-in-loop-player : goal.overflow_add-used-in-loop-player
overflow_add-used-in-loop-player c =
    let run = ran_on c.loop-player.invariant.between c.feed_ticks-ran.ensures.runs c.feed_ticks-ran.auto.out in
    omega (arith, line-ends run _ c.line_length.ensures c.if-to-bytes.false, c.well_formed)

pub loop-player-smaller : goal.loop-player-smaller
loop-player-smaller c =
    let run = ran_on c.loop-player.invariant.between c.feed_ticks-ran.ensures.runs c.feed_ticks-ran.auto.out in
    omega (arith, line-ends run _ c.line_length.ensures c.if-to-bytes.false)

pub loop-player-preserved : goal.loop-player-preserved
loop-player-preserved c =
    let inv = c.loop-player.invariant in
    let run = ran_on inv.between c.feed_ticks-ran.ensures.runs c.feed_ticks-ran.auto.out in
    let line = c.on_line-output.ensures in
    let put = c.put-at.ensures in
    record {
      between = after_line run _ c.line_length.ensures c.if-to-bytes.false line.line put.0 put.1;
      arrays = arrays-on (arrays-on inv.arrays c.feed_ticks-ran.ensures.arrays) line.arrays;
    }
