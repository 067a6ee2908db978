-- What a text is read in (SPEC 8.1), and the tick lines and steps of a card go by. Definitions only.
use Rattle.limits.specs.Limits.{velocity_count}
use Rattle.limits.specs.declared.Context.{Context}

-- SPEC 1.1: the velocities of the specification.
abbrev pub standard_context : Context
standard_context = record { velocities = velocity_count }
