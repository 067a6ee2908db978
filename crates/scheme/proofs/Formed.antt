-- An observer's table passes the check of tables, whatever stands after it. Assumes nothing.
use mathlib.Core.Bool.{true}
use mathlib.Core.List.{List, ◌++◌}
use mathlib.Core.Path.{◌≡◌, refl, sym, ap, subst}
use Prim.Native.Nat.{ℕ, ◌≤◌, ◌<◌}
use native.Mathlib.Omega.{arith}
use lib.ListN.{length, length-append}
use Rattle.formulas.specs.Formula.{Formula}
use Rattle.formulas.specs.Bounds.{bounded}
use Rattle.formulas.specs.Raw.{raw}
use Rattle.tables.specs.Kind.{START, NOT, OR}
use Rattle.tables.specs.Table.{equation, equation_at, kind_of, shape_of, same_sort, shape_fits, operand_fits}
use Rattle.tables.specs.Table.{equation_fits, closing_count, started_of, verdict_of, boolean_at, passed, checked, all}
use Rattle.limits.specs.Limits.{equation_limit, literal_count, signal_count}
use Rattle.tables.specs.declared.Sort.TheVariants.{Boolean}
use Rattle.tables.proofs.Tests.{all_of}
use Rattle.tables.proofs.Checks.{closing-by, long-enough}
use Rattle.scheme.specs.Scheme.{◌⊕◌}
use Rattle.scheme.specs.Emit.{named_by, signals-es, start_flow, negated_flow, header_count, numbers_of, tests_of}
use Rattle.scheme.proofs.Offsets.{zero-⊕}
use Rattle.scheme.proofs.Places.{after-later, Each, each_left, each_right, each_at, each_from}
use Rattle.scheme.proofs.Places.{equation-at, length-numbers}
use Rattle.scheme.proofs.Parts.{head_rows, flow_among, tests_place, body_place, body_block, whole_place, whole_rows}
use Rattle.scheme.proofs.Parts.{observer_over, whole-last, started-last, verdict-last}
use Rattle.scheme.proofs.Roles.{Before, later, Fits, KindAt}
use Rattle.scheme.proofs.Rows.{here, not-fine, whole-fine}
use Rattle.scheme.proofs.Blocks.{AllFine, follow, Leaves, fine}
use Rattle.scheme.proofs.Header.{signal-at, signal-before, signals-fit, tests-fit}
use Rattle.tables.specs.declared.Equation.{Equation}

module _ (cap velocities : ℕ) (low : cap ≤ literal_count) (m : ℕ) (few : m ≤ signal_count) (f : Formula)
    (bound : bounded cap velocities (raw f) ≡ true) (below : (j : ℕ) → named_by f j ≡ true → j < m) (junk : List ℕ)
  where
    -- The table, and its number of equations.
    abbrev t : List ℕ
    t = numbers_of (observer_over m f) ++ junk

    abbrev n : ℕ
    n = length (observer_over m f)

    -- The kinds in the table are those of the equations, in each of the four parts.
    kinds : Each (KindAt t) 0 (observer_over m f)
    kinds =
        each_from (KindAt t) (observer_over m f) 0
        (λ i h. rw zero-⊕ (ap (λ (e : Equation). kind_of e.kind) (equation-at (observer_over m f) junk i h)))

    head-kinds : Each (KindAt t) 0 (head_rows (named_by f) m)
    head-kinds = each_left (KindAt t) (head_rows (named_by f) m) _ 0 kinds

    later-kinds : Each (KindAt t) (tests_place m f) (tests_of f ++ ((body_block m f).es ++ whole_rows m f))
    later-kinds = each_right (KindAt t) (head_rows (named_by f) m) _ 0 kinds

    rest-kinds : Each (KindAt t) (body_place m f) ((body_block m f).es ++ whole_rows m f)
    rest-kinds = each_right (KindAt t) (tests_of f) _ (tests_place m f) later-kinds

    whole_kinds : Each (KindAt t) (whole_place m f) (whole_rows m f)
    whole_kinds = each_right (KindAt t) (body_block m f).es (whole_rows m f) (body_place m f) rest-kinds

    -- The start flow and its negation stand first,
    start : Before t 1 Boolean start_flow
    unfolding kind_of shape_of same_sort
    start = here velocities t n 0 start_flow START head-kinds.0 refl

    negation : Before t header_count Boolean negated_flow
    unfolding kind_of shape_of same_sort
    negation = here velocities t n 0 negated_flow NOT head-kinds.1.0 refl

    -- and every named signal before the tests, these before the formula's other equations.
    named : (j : ℕ) → named_by f j ≡ true → Before t (tests_place m f) Boolean (flow_among (named_by f) m j)
    unfolding kind_of shape_of same_sort
    named j e =
        let e' : named_by f (0 ⊕ j) ≡ true = rw zero-⊕ e in
        let kind = signal-at (named_by f) (KindAt t) m 0 header_count j head-kinds.1.1 (below j e) e' in
        record { earlier = signal-before (named_by f) m 0 header_count j (below j e) e'; sorted = rw kind }

    head-far : tests_place m f ≤ body_place m f
    head-far = after-later (tests_of f) (tests_place m f)

    far : header_count ≤ body_place m f
    far = omega (arith, after-later (signals-es (named_by f) 0 m) header_count, head-far)

    leaves : Leaves velocities t n (flow_among (named_by f) m) (named_by f) (tests_of f) (tests_place m f)
        (body_place m f)
    leaves =
        record {
          named = λ j e. later (named j e) head-far;
          kinds = each_left (KindAt t) (tests_of f) _ (tests_place m f) later-kinds;
          early = omega arith;
        }

    body-fine : AllFine velocities t n (body_place m f) (body_block m f).es (body_block m f).out
    body-fine =
        fine velocities t n (flow_among (named_by f) m) cap low f start_flow negated_flow (tests_place m f)
        (body_place m f)
        (record {
          bound = bound;
          leaves = leaves;
          start = later start (omega (arith, far));
          negation = later negation far;
          kinds = each_left (KindAt t) (body_block m f).es (whole_rows m f) (body_place m f) rest-kinds;
          room = omega (arith, whole-last m f);
        })

    head-fits : Each (Fits velocities t n) 0 (head_rows (named_by f) m)
    unfolding kind_of shape_of shape_fits operand_fits
    head-fits =
        let negation-fits = (not-fine velocities t n negated_flow start (omega arith) (head-kinds.1.0, tt)).0 in (
          record { fits = refl },
          (
            negation-fits.0,
            signals-fit (named_by f) velocities t n m 0 header_count
                (omega arith),
          ),
        )

    all-fine : AllFine velocities t n 0 (observer_over m f) (whole_place m f ⊕ 2)
    all-fine =
        let further : body_place m f ≤ whole_place m f = after-later (body_block m f).es (body_place m f) in
        let start' : Before t (whole_place m f) Boolean start_flow = later start (omega (arith, far)) in
        let room : whole_place m f ⊕ 3 ≤ n = omega (arith, whole-last m f) in
        let closing-fine = whole-fine velocities t n (whole_place m f) start' body-fine.1 room whole_kinds in
        follow velocities t n (head_rows (named_by f) m) _ 0 (whole_place m f ⊕ 2) head-fits
        (follow velocities t n (tests_of f) _ (tests_place m f) (whole_place m f ⊕ 2)
        (tests-fit cap velocities t n f bound (tests_place m f))
        (follow velocities t n (body_block m f).es (whole_rows m f) (body_place m f) (whole_place m f ⊕ 2) body-fine.0
        closing-fine))

    -- So every equation of the table keeps its rules,
    equations-fit : all (equation_fits velocities t n) n ≡ true
    equations-fit =
        all_of (equation_fits velocities t n) n
        (λ i h. subst (λ (e : Equation). shape_fits velocities t n i (shape_of (kind_of e.kind)) e ≡ true)
        (sym (equation-at (observer_over m f) junk i h))
        (rw zero-⊕ at (each_at (Fits velocities t n) (observer_over m f) 0 i all-fine.0 h)).fits)

    -- and the last two are boolean.
    started-boolean : boolean_at t (started_of n) ≡ true
    unfolding kind_of shape_of same_sort
    started-boolean =
        let sorted = (here velocities t n 0 (whole_place m f ⊕ 1) OR whole_kinds.1.0 refl).sorted in
        subst (λ (x : ℕ). boolean_at t x ≡ true) (sym (started-last m f)) sorted

    verdict-boolean : boolean_at t (verdict_of n) ≡ true
    verdict-boolean = subst (λ (x : ℕ). boolean_at t x ≡ true) (sym (verdict-last m f)) all-fine.1.sorted

    closed : closing_count ≤ n
    closed = omega (arith, whole-last m f)

    -- The start's equation and the three closing ones, where they stand.
    abbrev pub Stands : ℕ → Equation → Type 0
    Stands i e = equation_at t i ≡ e

    stands : Each Stands 0 (observer_over m f)
    stands = each_from Stands (observer_over m f) 0 (λ i h. rw zero-⊕ (equation-at (observer_over m f) junk i h))

    pub start-stands : Stands 0 (equation START 0 0 0)
    start-stands = (each_left Stands (head_rows (named_by f) m) _ 0 stands).0

    pub whole-stands : Each Stands (whole_place m f) (whole_rows m f)
    whole-stands =
        each_right Stands (body_block m f).es (whole_rows m f) (body_place m f)
        (each_right Stands (tests_of f) _ (tests_place m f) (each_right Stands (head_rows (named_by f) m) _ 0 stands))

    pub result-before : (body_block m f).out < whole_place m f
    result-before = body-fine.1.earlier

    pub formed-over : n ≤ equation_limit → checked velocities t n ≡ passed
    formed-over small =
        long-enough velocities t n (omega arith) small
        (omega (arith, length-append (numbers_of (observer_over m f)) junk, length-numbers (observer_over m f)))
        true true
        equations-fit (sym (closing-by t n closed true true started-boolean verdict-boolean))
