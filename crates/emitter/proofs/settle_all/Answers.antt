-- One signal more, and all.
use Rattle.std.proofs.Common.{arith}
use Rattle.emitter.proofs.Header.{starts-are, settling-one, settling-all}
use Rattle.emitter.proofs.settle_all.Goals as goal

pub loop-j-preserved : goal.loop-j-preserved
loop-j-preserved c = settling-one c.loop-j.invariant c.loop-j-test.true c.settle-next.ensures

pub returns : goal.returns
returns c =
    settling-all (starts-are c.args.table.now c.put.ensures c.put-2.ensures) c.loop-j.invariant (omega arith)
