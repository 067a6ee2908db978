-- `towerwatch::Memory::once` meets its contract: a read keeps what was left over, so the turn is one from there.
-- Assumes nothing.
use Rattle.std.proofs.Common.{sym, [], drop}
use Rattle.towerwatch.proofs.Progress.{came-none}
use Rattle.towerwatch.proofs.Memory.once.Goals as goal

-- The input is over.
pub returns-then-over : goal.returns-then-over
returns-then-over c = record {
  piece = [];
  came = came-none _ (drop c.args.self.now.to c.read-got.new.buf) c.read-got.ensures.came c.if-over.true;
  takes = rw (sym c.read-got.ensures.buf_unchanged.0) (c.end.ensures _ _ _ _ _ _);
}
