-- The measure is the depth that reading needs (grammar, specs/Parse.antt). What begins with `!`, `exists`, a round
-- bracket, `then` or `chop` is measured as an atom, and `lag`, which an atom calls at its own position, by the words
-- left alone. A loop keeps the parts so far as one tree, and goes by the words left.
use Rattle.std.proofs.Common.{◌-◌, ◌*◌, length}
use Rattle.grammar.specs.Parse.{depth}
use Rattle.grammar.specs.Parse.Goal.{go_f, go_d, go_ds, go_c, go_cs, go_u, go_a, go_b}
use Rattle.parser.proofs.Stored.{PartsRead}
use Rattle.parser.proofs.+reading.Given as goal

abbrev pub decreases-atom : goal.decreases-atom
decreases-atom l = depth l.ws.now go_a l.at

abbrev pub decreases-chop : goal.decreases-chop
decreases-chop l = depth l.ws.now go_a l.d.at

abbrev pub decreases-exists : goal.decreases-exists
decreases-exists l = depth l.ws.now go_a l.at

abbrev pub decreases-lag : goal.decreases-lag
decreases-lag l = 6 * (length l.ws.now - l.at)

abbrev pub decreases-not : goal.decreases-not
decreases-not l = depth l.ws.now go_a l.at

abbrev pub decreases-prop : goal.decreases-prop
decreases-prop l = depth l.ws.now (go_b l.before l.after) l.at

abbrev pub decreases-read_c : goal.decreases-read_c
decreases-read_c l = depth l.ws.now (go_c l.inside) l.at

abbrev pub decreases-read_d : goal.decreases-read_d
decreases-read_d l = depth l.ws.now (go_d l.inside) l.at

abbrev pub decreases-read_f : goal.decreases-read_f
decreases-read_f l = depth l.ws.now (go_f l.inside) l.at

abbrev pub decreases-read_u : goal.decreases-read_u
decreases-read_u l = depth l.ws.now (go_u l.inside) l.at

abbrev pub decreases-round : goal.decreases-round
decreases-round l = depth l.ws.now go_a l.at

abbrev pub decreases-then : goal.decreases-then
decreases-then l = depth l.ws.now go_a l.d.at

abbrev pub invariant-read_c-loop-arena : goal.invariant-read_c-loop-arena
invariant-read_c-loop-arena l =
    PartsRead (go_c l.inside) (go_cs l.inside) l.ws l.at l.fn.arena l.top l.c.at l.c.top l.c.facts l.arena

abbrev pub decreases-read_c-loop-arena : goal.decreases-read_c-loop-arena
decreases-read_c-loop-arena l = length l.ws - l.c.at

abbrev pub invariant-read_d-loop-arena : goal.invariant-read_d-loop-arena
invariant-read_d-loop-arena l =
    PartsRead (go_d l.inside) (go_ds l.inside) l.ws l.at l.fn.arena l.top l.d.at l.d.top l.d.facts l.arena

abbrev pub decreases-read_d-loop-arena : goal.decreases-read_d-loop-arena
decreases-read_d-loop-arena l = length l.ws - l.d.at
