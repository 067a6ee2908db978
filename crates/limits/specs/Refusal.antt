-- The numbers of the refusals (SPEC 7.1 to SPEC 7.19). Definitions only.
use Rattle.std.specs.Prelude.{ℕ}
use Rattle.limits.specs.declared.Refusal.{Refusal}
use Rattle.limits.specs.declared.Refusal.TheVariants.{TextSize, BadWord, NumberTooHigh, TooManyWords, OverLimits, NoRule, BeyondFragment, NoLead, ShortTable, EquationCount, BadEquation, ShortState, ParameterTooHigh, CellOutOfRange, ShortText, NoTable, BadHead, BadTick, VelocityTooHigh}

-- SPEC 1.4: the number of each, which is that of its clause.
abbrev pub number : Refusal → ℕ
number TextSize = 1
number BadWord = 2
number NumberTooHigh = 3
number TooManyWords = 4
number OverLimits = 5
number NoRule = 6
number BeyondFragment = 7
number NoLead = 8
number ShortTable = 9
number EquationCount = 10
number BadEquation = 11
number ShortState = 12
number ParameterTooHigh = 13
number CellOutOfRange = 14
number ShortText = 15
number NoTable = 16
number BadHead = 17
number BadTick = 18
number VelocityTooHigh = 19
