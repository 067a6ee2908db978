-- What is left to scan is what there was to scan.
use Rattle.std.proofs.Common.{◌≡◌, drop}
use Rattle.lustre.specs.Scan.{scan}
use Rattle.lustre_read.proofs.scan_form.Given as goal

abbrev pub invariant-loop-x : goal.invariant-loop-x
invariant-loop-x l =
    scan (drop l.x-index l.form) (drop l.found.next l.text) l.found.numbers
    ≡ scan l.form (drop l.p l.text) l.fn.e
