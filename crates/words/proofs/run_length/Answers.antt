-- Each byte after the first, and before the first that is in no run, is in the run.
use Rattle.std.proofs.Common.{rules, ◌-◌, ◌≡◌, length, drop, take, arith}
use borrow.Author.Rules.{part_to_end}
use Rattle.words.specs.Split.{run}
use Rattle.words.proofs.Runs.{run_goes, run_stops}
use Rattle.words.proofs.run_length.Goals as goal

pub returns : goal.returns
returns c =
    let text = c.args.text.now in
    let rest : c.unwrap_or.result ≡ length (run (take (length text - 1) (drop 1 text))) =
    run_stops _ _ (search rules) (search rules) (search rules) in
    omega (arith, rw (part_to_end text 1) at rest, run_goes text c.requires.0 c.requires.1)
