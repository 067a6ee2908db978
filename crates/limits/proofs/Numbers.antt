-- The refusals' numbers, by computation. Assumes nothing.
use mathlib.Core.Path.{◌≡◌, refl}
use mathlib.Core.List.{[], ◌∷◌}
use Rattle.limits.specs.Refusal.{number}
use Rattle.limits.specs.declared.Refusal.TheVariants.{TextSize, BadWord, NumberTooHigh, TooManyWords, OverLimits}
use Rattle.limits.specs.declared.Refusal.TheVariants.{NoRule, BeyondFragment, NoLead, ShortTable, EquationCount}
use Rattle.limits.specs.declared.Refusal.TheVariants.{BadEquation, ShortState, ParameterTooHigh, CellOutOfRange}
use Rattle.limits.specs.declared.Refusal.TheVariants.{ShortText, NoTable, BadHead, BadTick, VelocityTooHigh}

-- SPEC 7.1 to SPEC 7.8, of a rule text.
of-texts :
    number TextSize ∷ number BadWord ∷ number NumberTooHigh ∷ number TooManyWords ∷ number OverLimits ∷ number NoRule
    ∷ number BeyondFragment ∷ number NoLead ∷ []
    ≡ 1 ∷ 2 ∷ 3 ∷ 4 ∷ 5 ∷ 6 ∷ 7 ∷ 8 ∷ []
of-texts = refl

-- SPEC 7.9 to SPEC 7.15, of what is lent, and SPEC 7.16, of a Lustre text.
of-tables :
    number ShortTable ∷ number EquationCount ∷ number BadEquation ∷ number ShortState ∷ number ParameterTooHigh
    ∷ number CellOutOfRange ∷ number ShortText ∷ number NoTable ∷ []
    ≡ 9 ∷ 10 ∷ 11 ∷ 12 ∷ 13 ∷ 14 ∷ 15 ∷ 16 ∷ []
of-tables = refl

-- SPEC 7.17 and SPEC 7.18, of a card, and SPEC 7.19, of a step.
of-ticks : number BadHead ∷ number BadTick ∷ number VelocityTooHigh ∷ [] ≡ 17 ∷ 18 ∷ 19 ∷ []
of-ticks = refl
