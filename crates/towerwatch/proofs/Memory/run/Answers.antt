-- `towerwatch::Memory::run` meets its contract: each turn goes on from where the one before ended. Assumes nothing.
use Rattle.std.proofs.Common.{rules, refl, ◌≡◌, true, false, arith}
use Rattle.player.specs.Card.{held_by}
use Rattle.towerwatch.specs.Run.{is_reading}
use Rattle.towerwatch.proofs.Progress.{reached-start, ends-whole, fewer, reached-on}
use Rattle.towerwatch.proofs.Showing.{whole-program}
use Rattle.towerwatch.proofs.Memory.run.Goals as goal

pub loop-stdin-init : goal.loop-stdin-init
loop-stdin-init c = rw (c.requires.0, c.requires.1) reached-start

-- The run ends,
pub returns-then-ne-clause-whole : goal.returns-then-ne-clause-whole
returns-then-ne-clause-whole c =
    let off : is_reading c.once-n.result.stand ≡ false = search rules in
    ends-whole c.loop-stdin.invariant c.once-n.result c.once-n.ensures off _ refl refl refl

pub returns-then-ne-clause-program : goal.returns-then-ne-clause-program
returns-then-ne-clause-program c = whole-program _ (returns-then-ne-clause-whole c)

-- or it reads on.
pub loop-stdin-smaller : goal.loop-stdin-smaller
loop-stdin-smaller c =
    let once = c.once-n.ensures in
    let on : is_reading c.once-n.result.stand ≡ true = search rules in
    let next = c.once-n.new.self in
    omega (
      arith,
      fewer {w' = held_by next.player} c.loop-stdin.invariant _ once on next.ready.0.short.below,
      once.takes.more on,
    )

pub loop-stdin-preserved : goal.loop-stdin-preserved
loop-stdin-preserved c =
    let on : is_reading c.once-n.result.stand ≡ true = search rules in
    let next = c.once-n.new.self in
    reached-on {w' = held_by next.player} c.loop-stdin.invariant _ c.once-n.ensures on next.ready.0.short.below
    next.ready.1
