-- How an observer's table closes (SPEC 12.7): its last three equations are those of the closing rows. Over a number m
-- of signals that is left open (scheme, proofs/Parts.antt). Assumes nothing.
use mathlib.Core.Bool.{true}
use mathlib.Core.List.{List, ◌++◌}
use mathlib.Core.Path.{◌≡◌}
use Prim.Native.Nat.{ℕ, ◌≤◌, ◌<◌}
use lib.ListN.{length}
use Rattle.formulas.specs.Formula.{Formula}
use Rattle.formulas.specs.Bounds.{bounded}
use Rattle.formulas.specs.Raw.{raw}
use Rattle.limits.specs.Limits.{literal_count, signal_count}
use Rattle.scheme.specs.Emit.{named_by, numbers_of}
use Rattle.scheme.proofs.Parts.{body_block, observer_over, memory-last, started-last, verdict-last}
use Rattle.scheme.proofs.Formed.{start-stands, whole-stands, result-before}
use Rattle.agreement.specs.Agreement.{Closing}

module _ (cap velocities : ℕ) (low : cap ≤ literal_count) (m : ℕ) (few : m ≤ signal_count) (f : Formula)
    (bound : bounded cap velocities (raw f) ≡ true) (below : (j : ℕ) → named_by f j ≡ true → j < m) (junk : List ℕ)
  where
    pub closing-over : Closing (numbers_of (observer_over m f) ++ junk) (length (observer_over m f))
    closing-over =
        let rows = whole-stands cap velocities low m few f bound below junk in
        record {
          start = start-stands cap velocities low m few f bound below junk;
          memory = rw (memory-last m f, started-last m f) rows.0;
          started = rw (memory-last m f, started-last m f) rows.1.0;
          verdict = (
            (body_block m f).out,
            rw (memory-last m f) (result-before cap velocities low m few f bound below junk),
            rw (started-last m f, verdict-last m f) rows.1.1.0,
          );
        }
