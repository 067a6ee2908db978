-- The texts that SPEC 5.3 has for the kinds, those of the comparisons (SPEC 9.4), and a whole text (SPEC 9.1): the
-- definitions write them so. Tables that do not close as SPEC 5.5 says, which writing refuses. The highest velocity.
-- Assumes nothing.
use mathlib.Core.List.{List, [], ◌∷◌, map}
use mathlib.Core.Path.{◌≡◌, refl}
use Prim.Native.Nat.{ℕ}
use Rattle.lists.specs.Text.{bytes}
use Rattle.tables.specs.Table.{all, kind_of, shape_of, same_sort, is_flow, operand_fits, shape_fits}
use Rattle.tables.specs.Table.{length_fits, closes, equations_fit, checked}
use Rattle.lustre.specs.Numerals.{digits, number_text}
use Rattle.lustre.specs.Text.{value_text, line_rest, line_text, lines, foot, text_of}
use Rattle.lustre.specs.Write.{write_checked, after_write, write_effect}
use Rattle.std.specs.Prelude.{Ok, Err}
use Rattle.limits.specs.declared.Refusal.{Refusal}
use Rattle.limits.specs.declared.Refusal.TheVariants.{BadEquation, EquationCount}

-- What follows `fN=` for an equation of these four numbers.
abbrev end_of : ℕ → ℕ → ℕ → ℕ → List ℕ
end_of k a b c = value_text (kind_of k) (record { kind = k; a = a; b = b; c = c })

-- Each row of the table of SPEC 5.3.
record Column : Type 0 where
  kind0 : end_of 0 5 0 0 ≡ bytes "s5"
  kind1 : end_of 1 0 0 0 ≡ bytes "b"
  kind2 : end_of 2 1 0 0 ≡ bytes "true"
  kind3 : end_of 3 1 0 0 ≡ bytes "not f1"
  kind4 : end_of 4 1 2 0 ≡ bytes "f1 and f2"
  kind5 : end_of 5 1 2 0 ≡ bytes "f1 or f2"
  kind6 : end_of 6 5 0 0 ≡ bytes "false->pre(f5)"
  kind7 : end_of 7 6 0 0 ≡ bytes "0->pre(f6)"
  kind8 : end_of 8 7 6 0 ≡ bytes "cap(f7,f6)"
  kind9 : end_of 9 3 7 0 ≡ bytes "if f3 then f7 else 0"
  kind10 : end_of 10 9 0 12 ≡ bytes "f9<=12"
  kind11 : end_of 11 9 0 3 ≡ bytes "f9<=k3"
  kind12 : end_of 12 4 90 0 ≡ bytes "v>=90"

column : Column
unfolding value_text kind_of digits number_text
column =
    record {
      kind0 = refl;
      kind1 = refl;
      kind2 = refl;
      kind3 = refl;
      kind4 = refl;
      kind5 = refl;
      kind6 = refl;
      kind7 = refl;
      kind8 = refl;
      kind9 = refl;
      kind10 = refl;
      kind11 = refl;
      kind12 = refl;
    }

-- SPEC 9.4: the five comparisons by number, of kinds 10, 11 and 12.
abbrev five : (ℕ → List ℕ) → List (List ℕ)
five f = map f (0 ∷ 1 ∷ 2 ∷ 3 ∷ 4 ∷ [])

literals-spelled : five (λ b. end_of 10 9 b 7)
    ≡ bytes "f9<=7" ∷ bytes "f9<7" ∷ bytes "f9=7" ∷ bytes "f9>7" ∷ bytes "f9>=7" ∷ []
unfolding value_text kind_of digits number_text
literals-spelled = refl

parameters-spelled : five (λ b. end_of 11 9 b 7)
    ≡ bytes "f9<=k7" ∷ bytes "f9<k7" ∷ bytes "f9=k7" ∷ bytes "f9>k7" ∷ bytes "f9>=k7" ∷ []
unfolding value_text kind_of digits number_text
parameters-spelled = refl

velocities-spelled : five (λ a. end_of 12 a 7 0)
    ≡ bytes "v<=7" ∷ bytes "v<7" ∷ bytes "v=7" ∷ bytes "v>7" ∷ bytes "v>=7" ∷ []
unfolding value_text kind_of digits number_text
velocities-spelled = refl

-- SPEC 9.1: a text of two equations, which close the table (SPEC 5.5).
whole : text_of (1 ∷ 0 ∷ 0 ∷ 0 ∷ 3 ∷ 0 ∷ 0 ∷ 0 ∷ []) 2 ≡ bytes "let\nf0=b;\nf1=not f0;\nw=f0;\na=f1;\ntel\n"
unfolding text_of lines line_text line_rest foot value_text kind_of digits number_text
whole = refl

-- The last lines of a longer table.
twelve : foot 12 ≡ bytes "w=f10;\na=f11;\ntel\n"
unfolding foot digits number_text
twelve = refl

-- SPEC 8.6, whatever buffer is lent, and however many velocities there are: no equation is refused by 10 (SPEC 7.10),
-- one alone by 11 (SPEC 7.11), and so are two of which the started flow's, or the verdict's, is a count.
abbrev refuses : Refusal → List ℕ → ℕ → Type 0
refuses r t n = (velocities : ℕ) (buffer : List ℕ) → write_effect velocities t n buffer ≡ after_write (Err r) buffer

record Unclosed : Type 0 where
  none : refuses EquationCount (1 ∷ 0 ∷ 0 ∷ 0 ∷ []) 0
  alone : refuses BadEquation (1 ∷ 0 ∷ 0 ∷ 0 ∷ []) 1
  started-count : refuses BadEquation (7 ∷ 0 ∷ 0 ∷ 0 ∷ 1 ∷ 0 ∷ 0 ∷ 0 ∷ []) 2
  verdict-count : refuses BadEquation (1 ∷ 0 ∷ 0 ∷ 0 ∷ 7 ∷ 1 ∷ 0 ∷ 0 ∷ []) 2

unclosed : Unclosed
unfolding write_effect write_checked length_fits equations_fit closes all is_flow operand_fits shape_fits shape_of
    same_sort kind_of
unclosed =
    record {
      none = λ v b. refl;
      alone = λ v b. refl;
      started-count = λ v b. refl;
      verdict-count = λ v b. refl;
    }

-- SPEC 7.11: the literal of kind 12 is a velocity; of eight, 7 is the highest.
record Highest : Type 0 where
  seven : checked 8 (12 ∷ 4 ∷ 7 ∷ 0 ∷ 1 ∷ 0 ∷ 0 ∷ 0 ∷ []) 2 ≡ Ok tt
  eight : checked 8 (12 ∷ 4 ∷ 8 ∷ 0 ∷ 1 ∷ 0 ∷ 0 ∷ 0 ∷ []) 2 ≡ Err BadEquation

highest : Highest
unfolding checked length_fits equations_fit closes all is_flow operand_fits shape_fits shape_of same_sort kind_of
highest = record { seven = refl; eight = refl }
