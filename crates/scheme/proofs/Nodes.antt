-- The equations of a proposition give what it says at each tick; those of a formula give, from the latest start of
-- their start flow on, the formula's meaning, if each parameter that it names has one value at all ticks, below the
-- cap. The equations of the velocity tests stand at a place of their own. Assumes nothing.
use mathlib.Core.Bool.{Bool, true, not, ◌&&◌, ◌||◌, and-eq-true_iff}
use mathlib.Core.List.{List, ◌++◌}
use mathlib.Core.Path.{◌≡◌, refl, ap, ap₂, ◌∙◌}
use Prim.Native.Nat.{ℕ, suc, ◌<◌}
use native.Mathlib.Omega.{arith}
use borrow.Author.Tests.{eq-eqb}
use Rattle.traces.specs.Trace.{Trace, signal_at}
use Rattle.traces.specs.declared.Op.{Op}
use Rattle.traces.proofs.Laws.{nonzero-truth, op-number}
use Rattle.formulas.specs.Formula.{Num, Count, Prop, Formula}
use Rattle.formulas.specs.Formula.Prop.{constant, signal, velocity, neg_p, and_p, or_p}
use Rattle.formulas.specs.Formula.Test.{begin, end, point, held, kept}
use Rattle.formulas.specs.Formula.Count.{sum, age}
use Rattle.formulas.specs.Formula.Formula.{test, len, count, lag, neg, and, or, then}
use Rattle.formulas.specs.Meaning.{holds, value, at, tally, streak, meaning}
use Rattle.formulas.specs.Tree.{lead, leads}
use Rattle.formulas.specs.Bounds.{bounded, num_bound}
use Rattle.formulas.specs.Names.{num_names, names_parameter}
use Rattle.formulas.specs.Raw.{raw_p, raw}
use Rattle.formulas.proofs.Named.{Unchanging, Steady, named-left, named-right, value_same, value-small}
use Rattle.formulas.proofs.Meaning.{lead-falls}
use Rattle.tables.specs.Table.{kind_of}
use Rattle.scheme.specs.Scheme.{◌⊕◌}
use Rattle.scheme.specs.Emit.{Block, place_after, tests_p, tests_of, next_test_p, next_test, emit_p, emit}
use Rattle.scheme.specs.Emit.{named_by_p, named_by, lead-end-es, then-es}
use Rattle.scheme.specs.Emit.{begin-es, point-es, kept-es, held-es, sum-es, age-es, run-es, fine-es, always-es}
use Rattle.scheme.proofs.Offsets.{⊕-add, span, lt-longer, eq-longer}
use Rattle.scheme.proofs.Places.{each_left, each_right}
use Rattle.scheme.proofs.Local.{on, LocalAt, Stand}
use Rattle.scheme.proofs.Atoms.{Since, begin-is, point-is, kept-is, held-is, len_is, sum_is, run_is}
use Rattle.scheme.proofs.Atoms.{compare-is}
use Rattle.scheme.proofs.Lag.{lag-is}
use Rattle.scheme.proofs.Then.{then_is, second-negated}
use Rattle.tables.specs.declared.Equation.{Equation}

-- The flow i says what f means, from the latest start of the flow s on.
abbrev pub Agrees : Trace → (ℕ → ℕ → ℕ) → ℕ → ℕ → Formula → Type 0
Agrees trace flow s i f = (b d : ℕ) → Since (on flow s) b d → on flow i (b ⊕ d) ≡ meaning trace f b (b ⊕ d)

module _ (cap velocities : ℕ) (trace : Trace) (flow : ℕ → ℕ → ℕ) where
  -- ---- parts of equations that stand

  abbrev pub Stands : ℕ → List Equation → Type 0
  Stands = Stand cap trace flow

  left : (xs ys : List Equation) (o : ℕ) → Stands o (xs ++ ys) → Stands o xs
  left = each_left (LocalAt cap trace flow)

  right : (xs ys : List Equation) (o : ℕ) → Stands o (xs ++ ys) → Stands (place_after o xs) ys
  right = each_right (LocalAt cap trace flow)

  three : (xs ys zs : List Equation) (o : ℕ) → Stands o (xs ++ (ys ++ zs))
      → Stands o xs × Stands (place_after o xs) ys × Stands (place_after (place_after o xs) ys) zs
  three xs ys zs o h =
      let rest = right xs (ys ++ zs) o h in
      (left xs (ys ++ zs) o h, left ys zs (place_after o xs) rest, right ys zs (place_after o xs) rest)

  module _ (flow_of : ℕ → ℕ) where
    -- ---- propositions

    -- The flow of each named signal is the signal.
    abbrev pub Signals : (ℕ → Bool) → Type 0
    Signals named = (j : ℕ) → named j ≡ true → (k : ℕ) → on flow (flow_of j) k ≡ signal_at (trace k) j

    -- The equations of a proposition, where they stand from place o on and those of its tests from place t on, give
    -- what it says.
    abbrev PropIs : Prop → ℕ → ℕ → Type 0
    PropIs p t o =
        Signals (named_by_p p) → Stands t (tests_p p) → Stands o (emit_p flow_of p t o).es
        → (k : ℕ) → on flow (emit_p flow_of p t o).out k ≡ holds p (trace k)

    -- Two propositions that are joined by `&` or `|`, and the row that joins them.
    both-are : (p q : Prop) (t o : ℕ) (row : List Equation) →
        let x : Block = emit_p flow_of p t o in
        let o' : ℕ = place_after o x.es in
        let y : Block = emit_p flow_of q (next_test_p t p) o' in
        PropIs p t o → PropIs q (next_test_p t p) o' → Signals (λ j. named_by_p p j || named_by_p q j)
        → Stands t (tests_p p ++ tests_p q) → Stands o (x.es ++ (y.es ++ row)) → (k : ℕ)
        → (on flow x.out k ≡ holds p (trace k)) × (on flow y.out k ≡ holds q (trace k))
        × Stands (place_after o' y.es) row
    both-are p q t o row p-is q-is signals tests h k =
        let x : Block = emit_p flow_of p t o in
        let y : Block = emit_p flow_of q (next_test_p t p) (place_after o x.es) in
        let parts = three x.es y.es row o h in (
          p-is (named-left (named_by_p p) (named_by_p q) signals) (left (tests_p p) (tests_p q) t tests) parts.0 k,
          q-is (named-right (named_by_p p) (named_by_p q) signals) (right (tests_p p) (tests_p q) t tests) parts.1 k,
          parts.2,
        )

    prop-is : (p : Prop) (t o : ℕ) → PropIs p t o
    unfolding kind_of
    prop-is (constant c) t o signals tests h k = rw (h.0 k) (nonzero-truth c)
    prop-is (signal j) t o signals tests h k = signals j (eq-eqb j j refl) k
    prop-is (velocity op n) t o signals tests h k = rw (tests.0 k, op-number)
    prop-is (neg_p p) t o signals tests h k =
        let x : Block = emit_p flow_of p t o in
        (right x.es _ o h).0 k ∙ ap not (prop-is p t o signals tests (left x.es _ o h) k)
    prop-is (and_p p q) t o signals tests h k =
        let (first, second, row) = both-are p q t o _ (prop-is p t o) (prop-is q _ _) signals tests h k in
        row.0 k ∙ ap₂ ◌&&◌ first second
    prop-is (or_p p q) t o signals tests h k =
        let (first, second, row) = both-are p q t o _ (prop-is p t o) (prop-is q _ _) signals tests h k in
        row.0 k ∙ ap₂ ◌||◌ first second

    -- ---- what is given of a formula, and of its parts

    -- Of equations es that stand from place o on, with the start flow s and its negation n: the formula's leads are
    -- leads, its numbers are bounded, the parameters that it names have one value each, below the cap, the signals that
    -- it names are there, and so are its tests, from place t on.
    pub record Given (leading bounds : Bool) (parameters named : ℕ → Bool) (s n t o : ℕ) (tests es : List Equation)
        : Type 0 where
      pub led : leading ≡ true
      pub bound : bounds ≡ true
      pub steady : (j : ℕ) → parameters j ≡ true → Steady cap trace j
      pub signals : Signals named
      pub negated : (k : ℕ) → on flow n k ≡ not (on flow s k)
      pub tested : Stands t tests
      pub stands : Stands o es

    abbrev pub GivenOf : Formula → ℕ → ℕ → ℕ → ℕ → Type 0
    GivenOf f s n t o =
        Given (leads (raw f)) (bounded cap velocities (raw f)) (names_parameter (raw f)) (named_by f) s n t o
        (tests_of f)
        (emit flow_of f s n t o).es

    -- An atom's proposition, and the rows that follow its equations.
    with-prop : {leading bounds : Bool} {parameters : ℕ → Bool} {s n t o : ℕ} (p : Prop)
        (rows : ℕ → ℕ → List Equation) →
        let x : Block = emit_p flow_of p t o in
        Given leading bounds parameters (named_by_p p) s n t o (tests_p p) (x.es ++ rows (place_after o x.es) x.out)
        → ((k : ℕ) → on flow x.out k ≡ at trace p k) × Stands (place_after o x.es)
        (rows (place_after o x.es) x.out)
    with-prop {t = t} {o = o} p rows given =
        let x : Block = emit_p flow_of p t o in (
          prop-is p t o given.signals given.tested (left x.es _ o given.stands),
          right x.es _ o given.stands,
        )

    -- What a `sum` or an `age` is compared with is below the cap.
    count_small : (c : Count) (p : Prop) (op : Op) (x : Num) {s n t o : ℕ} → GivenOf (count c p op x) s n t o
        → (k : ℕ) → value x (trace k) < cap
    count_small c p op x given =
        value-small trace cap velocities x ((and-eq-true_iff (bounded cap velocities (raw_p p)) _).0 given.bound).1
        (named-right (names_parameter (raw_p p)) (num_names x) given.steady)

    -- A `lag`: its n, its P and its Q, and the rows after each of them, the last ones in two parts.
    record LagParts (p q : Prop) (x : Num) (s n o' o'' p-flow q-flow : ℕ) : Type 0 where
      same : (i j : ℕ) → value x (trace i) ≡ value x (trace j)
      small : (k : ℕ) → value x (trace k) < cap
      says-p : (k : ℕ) → on flow p-flow k ≡ at trace p k
      says-q : (k : ℕ) → on flow q-flow k ≡ at trace q k
      run : Stands o' (run-es n o' p-flow)
      fine : Stands o'' (fine-es x o'' (o' ⊕ 1) q-flow)
      always : Stands (o'' ⊕ 4) (always-es s (o'' ⊕ 4) (o'' ⊕ 3))

    lag-parts : (p : Prop) (x : Num) (q : Prop) {s n t o : ℕ} → GivenOf (lag p x q) s n t o →
        let y : Block = emit_p flow_of p t o in
        let o' : ℕ = place_after o y.es in
        let z : Block = emit_p flow_of q (next_test_p t p) (o' ⊕ 4) in
        LagParts p q x s n o' (place_after (o' ⊕ 4) z.es) y.out z.out
    lag-parts p x q {s} {n} {t} {o} given =
        let y : Block = emit_p flow_of p t o in
        let o' : ℕ = place_after o y.es in
        let t' : ℕ = next_test_p t p in
        let z : Block = emit_p flow_of q t' (o' ⊕ 4) in
        let o'' : ℕ = place_after (o' ⊕ 4) z.es in
        let run : List Equation = run-es n o' y.out in
        let fine : List Equation = fine-es x o'' (o' ⊕ 1) z.out in
        let always : List Equation = always-es s (o'' ⊕ 4) (o'' ⊕ 3) in
        let parts = three y.es run (z.es ++ (fine ++ always)) o given.stands in
        let last = three z.es fine always (o' ⊕ 4) parts.2 in
        let first = left (tests_p p) (tests_p q) t given.tested in
        let second = right (tests_p p) (tests_p q) t given.tested in
        let bounds = ((and-eq-true_iff (bounded cap velocities (raw_p p)) _).0 given.bound).1 in
        let bound = ((and-eq-true_iff (num_bound cap velocities x) (bounded cap velocities (raw_p q))).0 bounds).0 in
        let others = named-right (names_parameter (raw_p p)) _ given.steady in
        let steady = named-left (num_names x) (names_parameter (raw_p q)) others in
        record {
          same = value_same trace x (λ j e. (steady j e).same);
          small = value-small trace cap velocities x bound steady;
          says-p = prop-is p t o (named-left (named_by_p p) (named_by_p q) given.signals) first parts.0;
          says-q = prop-is q t' (o' ⊕ 4) (named-right (named_by_p p) (named_by_p q) given.signals) second last.0;
          run = parts.1;
          fine = last.1;
          always = last.2;
        }

    -- The formula under a `!`.
    under-not : {leading bounds : Bool} {parameters named : ℕ → Bool} {s n t o : ℕ} {tests : List Equation}
        (xs ys : List Equation) → Given leading bounds parameters named s n t o tests (xs ++ ys)
        → Given leading bounds parameters named s n t o tests xs
    under-not {o = o} xs ys given =
        record {
          led = given.led;
          bound = given.bound;
          steady = given.steady;
          signals = given.signals;
          negated = given.negated;
          tested = given.tested;
          stands = left xs ys o given.stands;
        }

    -- Two formulas that are joined by `&` or `|`, and the row that joins them.
    both : (f g : Formula) {s n t o : ℕ} (row : List Equation) →
        let x : Block = emit flow_of f s n t o in
        let o' : ℕ = place_after o x.es in
        let y : Block = emit flow_of g s n (next_test t f) o' in
        Given (leads (raw f) && leads (raw g)) (bounded cap velocities (raw f) && bounded cap velocities (raw g))
        (λ j. names_parameter (raw f) j || names_parameter (raw g) j) (λ j. named_by f j || named_by g j) s n t o
        (tests_of f ++ tests_of g) (x.es ++ (y.es ++ row))
        → GivenOf f s n t o × GivenOf g s n (next_test t f) o' × Stands (place_after o' y.es) row
    both f g {s} {n} {t} {o} row given =
        let x : Block = emit flow_of f s n t o in
        let y : Block = emit flow_of g s n (next_test t f) (place_after o x.es) in
        let parts = three x.es y.es row o given.stands in
        let led = (and-eq-true_iff (leads (raw f)) (leads (raw g))).0 given.led in
        let bound =
        (and-eq-true_iff (bounded cap velocities (raw f)) (bounded cap velocities (raw g))).0 given.bound in (
          record {
            led = led.0;
            bound = bound.0;
            steady = named-left (names_parameter (raw f)) (names_parameter (raw g)) given.steady;
            signals = named-left (named_by f) (named_by g) given.signals;
            negated = given.negated;
            tested = left (tests_of f) (tests_of g) t given.tested;
            stands = parts.0;
          },
          record {
            led = led.1;
            bound = bound.1;
            steady = named-right (names_parameter (raw f)) (names_parameter (raw g)) given.steady;
            signals = named-right (named_by f) (named_by g) given.signals;
            negated = given.negated;
            tested = right (tests_of f) (tests_of g) t given.tested;
            stands = parts.1;
          },
          parts.2,
        )

    -- A `then`: its lead, the end of the lead, the second part, which starts there, and the rest.
    record ThenParts (l f : Formula) (s n t o o' o'' p g : ℕ) : Type 0 where
      is-lead : lead (raw l) ≡ true
      first : GivenOf l s n t o
      ending : Stands o' (lead-end-es n o' p)
      second : GivenOf f (o' ⊕ 3) (o' ⊕ 4) (next_test t l) (o' ⊕ 5)
      rest : Stands o'' (then-es n o'' (o' ⊕ 3) g)

    then-parts : (l f : Formula) {s n t o : ℕ} → GivenOf (then l f) s n t o →
        let x : Block = emit flow_of l s n t o in
        let o' : ℕ = place_after o x.es in
        let y : Block = emit flow_of f (o' ⊕ 3) (o' ⊕ 4) (next_test t l) (o' ⊕ 5) in
        ThenParts l f s n t o o' (place_after (o' ⊕ 5) y.es) x.out y.out
    then-parts l f {s} {n} {t} {o} given =
        let x : Block = emit flow_of l s n t o in
        let o' : ℕ = place_after o x.es in
        let y : Block = emit flow_of f (o' ⊕ 3) (o' ⊕ 4) (next_test t l) (o' ⊕ 5) in
        let o'' : ℕ = place_after (o' ⊕ 5) y.es in
        let ending : List Equation = lead-end-es n o' x.out in
        let rest : List Equation = then-es n o'' (o' ⊕ 3) y.out in
        let parts = three x.es ending (y.es ++ rest) o given.stands in
        let rest-stands : Stands o'' rest = right y.es rest (o' ⊕ 5) parts.2 in
        let leading = (and-eq-true_iff (lead (raw l)) (leads (raw l) && leads (raw f))).0 given.led in
        let led = (and-eq-true_iff (leads (raw l)) (leads (raw f))).0 leading.1 in
        let bound =
        (and-eq-true_iff (bounded cap velocities (raw l)) (bounded cap velocities (raw f))).0 given.bound in
        record {
          is-lead = leading.0;
          first = record {
            led = led.0;
            bound = bound.0;
            steady = named-left (names_parameter (raw l)) (names_parameter (raw f)) given.steady;
            signals = named-left (named_by l) (named_by f) given.signals;
            negated = given.negated;
            tested = left (tests_of l) (tests_of f) t given.tested;
            stands = parts.0;
          };
          ending = parts.1;
          second = record {
            led = led.1;
            bound = bound.1;
            steady = named-right (names_parameter (raw l)) (names_parameter (raw f)) given.steady;
            signals = named-right (named_by l) (named_by f) given.signals;
            negated =
                second-negated cap trace flow s n given.negated o' o'' x.out y.out parts.1 rest-stands;
            tested = right (tests_of l) (tests_of f) t given.tested;
            stands = left y.es rest (o' ⊕ 5) parts.2;
          };
          rest = rest-stands;
        }

    -- ---- formulas

    pub agrees : (f : Formula) (s n t o : ℕ) → GivenOf f s n t o
        → Agrees trace flow s (emit flow_of f s n t o).out f
    unfolding kind_of
    agrees (test begin p) s n t o given =
        let x : Block = emit_p flow_of p t o in
        let (says, rows) = with-prop p (begin-es s n) given in
        begin-is cap trace flow s n given.negated (place_after o x.es) x.out (at trace p) says rows
    agrees (test end p) s n t o given = λ b d since.
        prop-is p t o given.signals given.tested given.stands (b ⊕ d)
    agrees (test point p) s n t o given = λ b d since.
        let x : Block = emit_p flow_of p t o in
        let (says, rows) = with-prop p (point-es s) given in
        rw (eq-longer b d)
        (point-is cap trace flow s n given.negated (place_after o x.es) x.out (at trace p) says rows b d since)
    agrees (test held p) s n t o given = λ b d since.
        let x : Block = emit_p flow_of p t o in
        let (says, rows) = with-prop p (held-es s n) given in
        rw (lt-longer b d, span b d)
        (held-is cap trace flow s n given.negated (place_after o x.es) x.out (at trace p) says rows b d since)
    agrees (test kept p) s n t o given = λ b d since.
        let x : Block = emit_p flow_of p t o in
        let (says, rows) = with-prop p (kept-es s) given in
        rw (span b d)
        (kept-is cap trace flow s n given.negated (place_after o x.es) x.out (at trace p) says rows b d since)
    agrees (len op x) s n t o given = λ b d since.
        let rows = given.stands in
        let counted = len_is cap trace flow s n given.negated o op x rows b d since in
        let small = value-small trace cap velocities x given.bound given.steady (b ⊕ d) in
        rw (span b d)
        (compare-is cap trace flow (o ⊕ 3) (o ⊕ 2) op x rows.1.1.1 (b ⊕ d) d small counted)
    agrees (count sum p op x) s n t o given = λ b d since.
        let y : Block = emit_p flow_of p t o in
        let o' : ℕ = place_after o y.es in
        let (says, rows) = with-prop p (sum-es n op x) given in
        let counted = sum_is cap trace flow s n given.negated o' y.out (at trace p) says op x rows b d since in
        rw (span b d)
        (compare-is cap trace flow (o' ⊕ 3) (o' ⊕ 1) op x rows.1.1.1 (b ⊕ d) (tally (at trace p) b d)
        (count_small sum p op x given (b ⊕ d)) counted)
    agrees (count age p op x) s n t o given = λ b d since.
        let y : Block = emit_p flow_of p t o in
        let o' : ℕ = place_after o y.es in
        let (says, rows) = with-prop p (age-es n op x) given in
        let run : Stands o' (run-es n o' y.out) = (rows.0, (rows.1.0, (rows.1.1.0, (rows.1.1.1.0, tt)))) in
        let counted = run_is cap trace flow s n given.negated o' y.out (at trace p) says run b d since in
        rw (span b d)
        (compare-is cap trace flow (o' ⊕ 4) (o' ⊕ 3) op x rows.1.1.1.1 (b ⊕ d) (streak (at trace p) (b ⊕ d) d)
        (count_small age p op x given (b ⊕ d)) counted)
    agrees (lag p x q) s n t o given = λ b d since.
        let y : Block = emit_p flow_of p t o in
        let o' : ℕ = place_after o y.es in
        let z : Block = emit_p flow_of q (next_test_p t p) (o' ⊕ 4) in
        let o'' : ℕ = place_after (o' ⊕ 4) z.es in
        let parts = lag-parts p x q given in
        lag-is cap trace flow s n given.negated x parts.same parts.small o' y.out (at trace p)
        parts.says-p parts.run o'' z.out (at trace q) parts.says-q parts.fine parts.always b d since
    agrees (neg f) s n t o given = λ b d since.
        let x : Block = emit flow_of f s n t o in
        let row = right x.es _ o given.stands in
        row.0 (b ⊕ d) ∙ ap not (agrees f s n t o (under-not x.es _ given) b d since)
    agrees (and f g) s n t o given = λ b d since.
        let (first, second, row) = both f g _ given in
        row.0 (b ⊕ d) ∙ ap₂ ◌&&◌ (agrees f s n t o first b d since) (agrees g s n _ _ second b d since)
    agrees (or f g) s n t o given = λ b d since.
        let (first, second, row) = both f g _ given in
        row.0 (b ⊕ d) ∙ ap₂ ◌||◌ (agrees f s n t o first b d since) (agrees g s n _ _ second b d since)
    agrees (then l f) s n t o given = λ b d since.
        let x : Block = emit flow_of l s n t o in
        let o' : ℕ = place_after o x.es in
        let y : Block = emit flow_of f (o' ⊕ 3) (o' ⊕ 4) (next_test t l) (o' ⊕ 5) in
        let parts = then-parts l f given in
        let first = agrees l s n t o parts.first in
        let second = agrees f (o' ⊕ 3) (o' ⊕ 4) (next_test t l) (o' ⊕ 5) parts.second in
        let same : Unchanging trace (names_parameter (raw l)) = λ j e. (parts.first.steady j e).same in
        let falls : (d : ℕ) → meaning trace l b (suc (b ⊕ d)) ≡ true → meaning trace l b (b ⊕ d) ≡ true =
        λ d. lead-falls trace l same parts.is-lead b (b ⊕ d) (rw ⊕-add (omega arith)) in
        rw (span b d)
        (then_is cap trace flow s n given.negated o' (place_after (o' ⊕ 5) y.es) x.out y.out
        parts.ending parts.rest (meaning trace l) (meaning trace f) b falls (first b) second d since)
