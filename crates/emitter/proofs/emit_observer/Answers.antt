-- What the four calls gave, put together: the signals that are named, their equations and those of the tests, and
-- then the records' equations, from the first record of the arena on.
use Rattle.emitter.proofs.Whole.{emitted}
use Rattle.emitter.proofs.emit_observer.Goals as goal

pub returns : goal.returns
returns c =
    emitted c.requires c.mark_all.ensures c.settle_all-tests.ensures c.put_tests-next.ensures c.enter_all.ensures
