-- A bit past the 64 is 0.
use native.Mathlib.Nat.{div-eq_of_lt, lt_of_lt_of_le}
use lib.Pow.{pow_mono}
use Rattle.flows.proofs.signal_at.Goals as goal

pub returns-else-j-lt-SIGNALS : goal.returns-else-j-lt-SIGNALS
returns-else-j-lt-SIGNALS c =
    rw (div-eq_of_lt (lt_of_lt_of_le c.ranges.signals.fits (pow_mono c.if-j-lt-SIGNALS.false)))
