-- What a text with its parameters is, as it is computed (`side_of`) and as SPEC 8.3 has it (`HasSide`): the same, and
-- one outcome. Assumes nothing.
use mathlib.Core.Bool.{Bool, true, false, cond}
use mathlib.Core.List.{List}
use mathlib.Core.Path.{◌≡◌, refl, ap, ◌∙◌}
use Prim.Native.Nat.{ℕ}
use native.Mathlib.Omega.{arith}
use borrow.Author.Tests.{ltb-true, ltb-false, lt-ltb, le-ltb}
use Rattle.limits.specs.Limits.{literal_count, parameter_count}
use Rattle.limits.specs.declared.Context.{Context}
use Rattle.lists.specs.Number.{number_at}
use Rattle.lists.proofs.All.{all-at, all_of, all-stop, all-fails}
use Rattle.traces.specs.Parameters.{parameter_fits, parameters_fit}
use Rattle.formulas.specs.Tree.{Tree}
use Rattle.rules.specs.Reading.{Outcome, HasOutcome}
use Rattle.rules.specs.Reading.Outcome.{refused, rule}
use Rattle.rules.specs.Computed.{rule_of, side_of}
use Rattle.rules.specs.Same.{Above, Within, HasSide}
use Rattle.rules.specs.Same.HasSide.{text-refused, above, within}
use Rattle.rules.proofs.Theorems.{has-outcome, computed}
use Rattle.limits.specs.declared.Refusal.TheVariants.{ParameterTooHigh}

module _ (ps : List ℕ) where
  -- The test of SPEC 7.13 says whether all parameters are within the limit or one is above.
  pub fits-within : parameters_fit literal_count ps ≡ true → Within ps
  unfolding parameter_fits
  fits-within e j h =
      let below = ltb-true (number_at ps j) literal_count
      (all-at (parameter_fits literal_count ps) parameter_count e j h) in
      omega arith

  pub within-fits : Within ps → parameters_fit literal_count ps ≡ true
  unfolding parameter_fits
  within-fits w =
      all_of (parameter_fits literal_count ps) parameter_count
      (λ j h. lt-ltb (number_at ps j) literal_count (omega (arith, w j h)))

  unfit-above : parameters_fit literal_count ps ≡ false → Above ps
  unfolding parameter_fits
  unfit-above e =
      let w = all-fails (parameter_fits literal_count ps) parameter_count e in
      let high = ltb-false (number_at ps w.0) literal_count w.2 in
      (w.0, w.1, omega arith)

  above-unfit : Above ps → parameters_fit literal_count ps ≡ false
  unfolding parameter_fits
  above-unfit (j, h, high) =
      all-stop (parameter_fits literal_count ps) j parameter_count h
      (le-ltb (number_at ps j) literal_count (omega arith))

  -- So of a rule the parameters decide.
  pub side-unfit : {o : Outcome} {t : Tree} → o ≡ rule t → parameters_fit literal_count ps ≡ false
      → side_of ps o ≡ refused ParameterTooHigh
  side-unfit {t = t} e unfit = ap (side_of ps) e ∙ ap (λ (b : Bool). cond b (rule t) (refused ParameterTooHigh)) unfit

  pub side-fit : (o : Outcome) → parameters_fit literal_count ps ≡ true → side_of ps o ≡ o
  side-fit (refused n) fit = refl
  side-fit (rule t) fit = ap (λ (b : Bool). cond b (rule t) (refused ParameterTooHigh)) fit

  module _ (context : Context) (text : List ℕ) where
    of-rule : (t : Tree) → HasOutcome context text (rule t) → (b : Bool) → parameters_fit literal_count ps ≡ b
        → HasSide context text ps (cond b (rule t) (refused ParameterTooHigh))
    of-rule t h true e = within h (fits-within e)
    of-rule t h false e = above h (unfit-above e)

    of-outcome : (x : Outcome) → HasOutcome context text x → HasSide context text ps (side_of ps x)
    of-outcome (refused n) h = text-refused h
    of-outcome (rule t) h = of-rule t h (parameters_fit literal_count ps) refl

    -- Every text with its parameters is what is computed,
    pub has-side : HasSide context text ps (side_of ps (rule_of context text))
    has-side = of-outcome (rule_of context text) (has-outcome context text)

    -- and nothing else.
    pub side-computed : {x : Outcome} → HasSide context text ps x → side_of ps (rule_of context text) ≡ x
    side-computed (text-refused h) = ap (side_of ps) (computed context text h)
    side-computed (above h a) = side-unfit (computed context text h) (above-unfit a)
    side-computed (within h w) = side-fit (rule_of context text) (within-fits w) ∙ computed context text h

-- A side that is a rule: its text is one, and its parameters are within the limit.
pub side-rule : {context : Context} {text ps : List ℕ} {t : Tree} → HasSide context text ps (rule t)
    → HasOutcome context text (rule t) × Within ps
side-rule (within h w) = (h, w)
