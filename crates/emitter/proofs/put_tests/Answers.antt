-- No chunk, one chunk more, and all.
use Rattle.std.proofs.Common.{arith}
use Rattle.emitter.proofs.Records.{testing-none, testing-one, testing-all}
use Rattle.emitter.proofs.put_tests.Goals as goal

pub loop-numbers-init : goal.loop-numbers-init
loop-numbers-init c = testing-none _ _ _

pub loop-numbers-preserved : goal.loop-numbers-preserved
loop-numbers-preserved c =
    testing-one c.loop-numbers.invariant c.loop-numbers-test.true c.record_of.ensures c.put_test-next.ensures

pub returns : goal.returns
returns c =
    testing-all c.loop-numbers.invariant c.as_chunks.ensures.front c.loop-numbers-test.false (omega arith)
