-- `towerwatch::Memory::piece` meets its contract: what the turn put is handed over. Assumes nothing.
use Rattle.std.proofs.Common.{arith, refl}
use Rattle.towerwatch.proofs.Progress.{piece-takes}
use Rattle.towerwatch.proofs.Memory.piece.Goals as goal

pub returns : goal.returns
returns c =
    piece-takes c.args.self.now.to c.args.got c.run_turn-rest.ensures.turns c.hand-done.ensures c.requires.0
    (omega (arith, c.run_turn-rest.auto.out, c.args.self.now.ready.0.room)) c.requires.1 _
    c.is_over-over.result refl refl c.is_over-over.ensures c.going-stand.ensures
