-- What is printed, computed: each row pins a definition of specs/ at a corner. Assumes nothing.
use mathlib.Core.Path.{◌≡◌, refl}
use mathlib.Core.List.{[], ◌∷◌, ◌++◌}
use Rattle.lists.specs.Text.{bytes}
use Rattle.traces.specs.Trace.{idle_verdict}
use Rattle.cards.specs.Lines.{cut}
use Rattle.cards.specs.Says.{line_says}
use Rattle.player.specs.Card.{played, lined, owed, prints, printed}
use Rattle.player.specs.Output.{refusal_digits, output_bytes}
use Rattle.player.specs.declared.Output.TheVariants as O
use Rattle.limits.specs.declared.Refusal.TheVariants.{BadTick, EquationCount, ShortTable, TextSize, VelocityTooHigh}

-- SPEC 10.10: the number of a refusal, of one digit and of two.
refusal-1 : output_bytes (O.Refused TextSize) ≡ bytes "refused=1" ++ (10 ∷ [])
unfolding output_bytes refusal_digits
refusal-1 = refl

refusal-9 : output_bytes (O.Refused ShortTable) ≡ bytes "refused=9" ++ (10 ∷ [])
unfolding output_bytes refusal_digits
refusal-9 = refl

refusal-10 : output_bytes (O.Refused EquationCount) ≡ bytes "refused=10" ++ (10 ∷ [])
unfolding output_bytes refusal_digits
refusal-10 = refl

refusal-18 : output_bytes (O.Refused BadTick) ≡ bytes "refused=18" ++ (10 ∷ [])
unfolding output_bytes refusal_digits
refusal-18 = refl

refusal-19 : output_bytes (O.Refused VelocityTooHigh) ≡ bytes "refused=19" ++ (10 ∷ [])
unfolding output_bytes refusal_digits
refusal-19 = refl

verdict-0 : output_bytes (O.Verdict 0) ≡ bytes "verdict=0" ++ (10 ∷ [])
unfolding output_bytes
verdict-0 = refl

verdict-1 : output_bytes (O.Verdict 1) ≡ bytes "verdict=1" ++ (10 ∷ [])
unfolding output_bytes
verdict-1 = refl

verdict-2 : output_bytes (O.Verdict idle_verdict) ≡ bytes "verdict=2" ++ (10 ∷ [])
unfolding output_bytes
verdict-2 = refl

-- No bytes at all, a first line that is broken, and one with no line end: the first line fails (SPEC 10.7).
empty : printed [] ≡ bytes "refused=17" ++ (10 ∷ [])
unfolding printed prints owed cut output_bytes refusal_digits
empty = refl

broken-first : printed (bytes "edition=3" ++ (10 ∷ [])) ≡ bytes "refused=17" ++ (10 ∷ [])
unfolding printed prints owed cut lined played line_says output_bytes refusal_digits
broken-first = refl

unended-first : printed (bytes "edition=1") ≡ bytes "refused=17" ++ (10 ∷ [])
unfolding printed prints owed cut output_bytes refusal_digits
unended-first = refl

-- The line of the second edition is fine, and the second line is missing.
second-missing : printed (bytes "edition=2" ++ (10 ∷ [])) ≡ bytes "refused=17" ++ (10 ∷ [])
unfolding printed prints owed cut lined played line_says output_bytes refusal_digits
second-missing = refl
