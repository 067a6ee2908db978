-- `feeder::run_ticks` meets its contract: a tick line is found at its place, and its step is run. Assumes nothing.
use Rattle.std.proofs.Common.{◌∙◌}
use Rattle.player.proofs.Playing.{some-velocity}
use Rattle.feeder.proofs.TickRuns.{passes_at, velocity-low, admitted-on, verdict-room, after-tick}
use Rattle.feeder.proofs.run_ticks.Goals as goal

pub step_passed-v-requires : goal.step_passed-v-requires
step_passed-v-requires c =
    let admits = c.loop-player.invariant.admits in
    let low = velocity-low _ _ _ some-velocity c.args.bytes.now c.loop-player.used admits c.in-Some.ensures in
    passes_at _ _ _ admits low c.tick_of-now.ensures

pub put_verdict-at-requires : goal.put_verdict-at-requires
put_verdict-at-requires c =
    let inv = c.loop-player.invariant in
    verdict-room _ _ _ some-velocity c.args.bytes.now c.loop-player.used inv.admits c.in-Some.ensures
    c.tick_of-now.ensures c.step_passed-v.ensures inv.between c.loop-player-test.true

pub loop-player-preserved : goal.loop-player-preserved
loop-player-preserved c =
    let inv = c.loop-player.invariant in
    let put = c.put_verdict-at.ensures in
    record {
      between =
          after-tick _ _ _ some-velocity c.args.bytes.now c.loop-player.used inv.admits c.in-Some.ensures
          c.tick_of-now.ensures c.step_passed-v.ensures inv.between c.loop-player-test.true put.0 put.1;
      admits =
          admitted-on _ _ _ some-velocity c.args.bytes.now c.loop-player.used inv.admits c.in-Some.ensures
          c.tick_of-now.ensures c.step_passed-v.ensures;
      arrays = record {
        table = inv.arrays.table;
        state = inv.arrays.state;
        values = inv.arrays.values;
        table_length = inv.arrays.table_length;
        state_length = c.step_passed-v.auto.state ∙ inv.arrays.state_length;
        values_length = c.step_passed-v.auto.values ∙ inv.arrays.values_length;
      };
    }
