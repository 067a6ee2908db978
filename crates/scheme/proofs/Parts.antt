-- The four parts of an observer and the places where they begin, over a number m of signals that is left open: at 64
-- they are the observer. (With 64 written, proofs would compute the list of signals.) Assumes nothing.
use mathlib.Core.Bool.{Bool}
use mathlib.Core.List.{List, ◌++◌}
use mathlib.Core.Path.{◌≡◌, refl, sym, ◌∙◌}
use Prim.Native.Nat.{ℕ, ◌-◌}
use native.Mathlib.Omega.{arith}
use lib.ListN.{length}
use Rattle.lists.specs.Number.{number_at}
use Rattle.formulas.specs.Formula.{Formula}
use Rattle.limits.specs.Limits.{signal_count}
use Rattle.tables.specs.Table.{started_of, verdict_of}
use Rattle.scheme.specs.Scheme.{◌⊕◌}
use Rattle.scheme.specs.Emit.{Block, place_after, emit, named_by, signals-es, places, whole-es, observer}
use Rattle.scheme.specs.Emit.{start_flow, negated_flow, header_count, start-es, tests_of, next_test}
use Rattle.scheme.proofs.Places.{after-append, after-length}
use Rattle.tables.specs.declared.Equation.{Equation}

-- The start flow, its negation, and the named signals among the first m.
abbrev pub head_rows : (ℕ → Bool) → ℕ → List Equation
head_rows named m = start-es ++ signals-es named 0 m

-- The flow of signal j.
abbrev pub flow_among : (ℕ → Bool) → ℕ → ℕ → ℕ
flow_among named m j = number_at (places named 0 header_count m) j

module _ (m : ℕ) (f : Formula) where
  -- Where the formula's tests begin; where its other equations do, and they,
  abbrev pub tests_place : ℕ
  tests_place = place_after 0 (head_rows (named_by f) m)

  abbrev pub body_place : ℕ
  body_place = next_test tests_place f

  abbrev pub body_block : Block
  body_block = emit (flow_among (named_by f) m) f start_flow negated_flow tests_place body_place

  -- where the closing equations begin, and they.
  abbrev pub whole_place : ℕ
  whole_place = place_after body_place body_block.es

  abbrev pub whole_rows : List Equation
  whole_rows = whole-es start_flow whole_place body_block.out

  abbrev pub observer_over : List Equation
  observer_over = head_rows (named_by f) m ++ (tests_of f ++ (body_block.es ++ whole_rows))

  -- The closing equations are the last three: after its memory the started flow's, and then the verdict's.
  pub whole-last : whole_place ⊕ 3 ≡ length observer_over
  whole-last =
      sym (after-append (head_rows (named_by f) m) (tests_of f ++ (body_block.es ++ whole_rows)) 0
      ∙ after-append (tests_of f) (body_block.es ++ whole_rows) tests_place
      ∙ after-append body_block.es whole_rows body_place)
      ∙ after-length observer_over 0 ∙ omega arith

  pub memory-last : length observer_over - 3 ≡ whole_place
  memory-last = omega (arith, whole-last)

  pub started-last : started_of (length observer_over) ≡ whole_place ⊕ 1
  started-last = omega (arith, whole-last)

  pub verdict-last : verdict_of (length observer_over) ≡ whole_place ⊕ 2
  verdict-last = omega (arith, whole-last)

pub is-observer : (f : Formula) → observer_over signal_count f ≡ observer f
is-observer f = refl
