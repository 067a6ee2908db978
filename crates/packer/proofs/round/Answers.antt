-- A turn, by what is known of the buffers after the turns before it (`Turned`): equation i is looked for in its chain.
use Rattle.std.proofs.Common.{◌≤◌}
use native.Mathlib.Omega.{arith}
use Rattle.lists.specs.Number.{number_at}
use Rattle.packing.proofs.Searches.{first-le}
use Rattle.packer.specs.Round.{bucket_of, round_of, chains}
use Rattle.packer.proofs.Buckets.{chain-of}
use Rattle.packer.proofs.Turns.{turn, turned_to}
use Rattle.packer.proofs.round.Goals as goal

pub loop-i-init : goal.loop-i-init
unfolding round_of
loop-i-init c = rw c.clear.ensures

pub walk-j-requires : goal.walk-j-requires
walk-j-requires c =
    let pre = c.requires in
    let now = turned_to pre.0.velocities _ _ _ _ pre.0.equations pre.1 pre.2 pre.3 c.loop-i.invariant (omega arith) in
    record {
      whole = omega (arith, pre.0.whole);
      named = omega (arith, pre.1);
      linked = omega (arith, pre.2);
      key = c.key_at-x.ensures;
      quick = now.quick;
      chain =
          chain-of c.args.table.now (bucket_of c.args.n) c.args.n (number_at c.args.before.now)
          (chains c.loop-i.names c.loop-i.next c.loop-i.heads) _ _ now.buckets c.bucket_of-b.ensures.1
          c.key_at-x.ensures c.bucket_of-b.ensures.0;
    }

pub overflow_cast-names : goal.overflow_cast-names
overflow_cast-names c =
    let low : c.walk-j.result ≤ c.loop-i.i = rw c.walk-j.ensures (first-le _ _) in
    omega (arith, c.requires.0.few)

pub loop-i-preserved : goal.loop-i-preserved
loop-i-preserved c =
    turn _ _ _ _ (chains c.loop-i.names c.loop-i.next c.loop-i.heads) c.loop-i.i c.key_at-x.result c.loop-i.invariant
    c.key_at-x.ensures c.bucket_of-b.ensures.0 c.walk-j.ensures c.head_after.ensures
