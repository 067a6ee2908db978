-- Two texts that are the same rule, each with its parameters, compile to one and the same table, and over every list of
-- calls, each side with its own parameters, they answer the same. Assumes nothing.
use mathlib.Core.Bool.{true}
use mathlib.Core.List.{List, ◌++◌, map}
use mathlib.Core.Option.{Option, some}
use mathlib.Core.Path.{◌≡◌, refl, sym, ap, ◌∙◌, subst}
use Prim.Native.Nat.{ℕ, ◌*◌, ◌≤◌}
use native.Mathlib.Omega.{arith}
use lib.ListN.{length, take, drop}
use lib.Seq.{take_at}
use Rattle.formulas.specs.Formula.{Formula}
use Rattle.formulas.specs.Meaning.{verdict}
use Rattle.formulas.specs.Tree.{Tree, formula_of}
use Rattle.limits.specs.Limits.{standard_cap, table_room, rule_equations}
use Rattle.limits.specs.declared.Context.{Context}
use Rattle.limits.specs.declared.Refusal.{Refusal}
use Rattle.traces.specs.Trace.{Trace}
use Rattle.traces.specs.Parameters.{parameters_fit}
use Rattle.flows.specs.Run.{Call, call_with, from_fresh, answered}
use Rattle.flows.proofs.Expected.{admitted}
use Rattle.agreement.specs.Agreement.{trace_of_ticks, Observes}
use Rattle.agreement.proofs.Answers.{answers-are}
use Rattle.scheme.specs.Emit.{observer, numbers_of}
use Rattle.scheme.proofs.Places.{length-numbers}
use Rattle.emitter.proofs.Size.{observer-front}
use Rattle.rules.specs.Reading.{HasOutcome}
use Rattle.rules.specs.Reading.Outcome.{rule}
use Rattle.rules.proofs.Theorems.{computed}
use Rattle.rules.proofs.Sides.{side-rule, within-fits}
use Rattle.rules.proofs.SameRule.{yes-rule, same-formula, same-meaning}
use Rattle.rules.specs.Same.{SameRule}
use Rattle.observers.specs.Compile.{AfterCompile, after_compile, stored, compiled}
use Rattle.observers.specs.Demand.{Compiles}
use Rattle.observers.specs.Demand.Compiles.{not-read, no_room, observed}
use Rattle.observers.specs.Demand.{Compiled}
use Rattle.observers.proofs.Demand.{room-compiled}
use Rattle.observers.proofs.Own.{own, own-trace, second-trace, expected-alike}
use Rattle.std.specs.Prelude.{Ok, Err}
use Rattle.tables.specs.declared.Equation.{Equation}

-- A refusal has no equations.
pub refused-equations : {r : Refusal} {n : ℕ} → Err r ≡ Ok n → ⊥
refused-equations e = cc

module _ (context : Context) where
  abbrev velocities : ℕ
  velocities = context.velocities

  -- The n equations at the front of a table observe the formula.
  abbrev Fronts : List ℕ → ℕ → Formula → Type 0
  Fronts t n f = (rest : List ℕ) → Observes standard_cap velocities (take (4 * n) t ++ rest) n f

  -- What compiling a text into a table left.
  record Left (text before : List ℕ) (n : ℕ) (after : List ℕ) : Type 0 where
    tree : Tree
    formula : Formula
    is_read : HasOutcome context text (rule tree)
    is-formula : formula_of tree ≡ some formula
    room : table_room ≤ length before
    few : n ≤ rule_equations
    observes : Fronts after n formula

  left : (text before : List ℕ) (n : ℕ) (after : List ℕ) (r : Compiled) → Compiles context text before r after
      → r ≡ Ok n → Left text before n after
  left text before n after r (not-read e) q = absurd (refused-equations q)
  left text before n after r (no_room e h) q = absurd (refused-equations q)
  left text before n after r (observed {n = m} {after = l} {t} {f} e is room few same rest h exact ends) q =
      let number : m ≡ n = cc in
      record {
        tree = t;
        formula = f;
        is_read = e;
        is-formula = is;
        room = room;
        few = omega arith;
        observes = subst (λ (x : ℕ). Fronts l x f) number h;
      }

  -- The equations are the observer of the formula, where what was left is what is computed.
  module _ {text before : List ℕ} {n : ℕ} {after : List ℕ} (l : Left text before n after)
      (c : after_compile (Ok n) after ≡ compiled context text before) where
    abbrev rows : List Equation
    rows = observer l.formula

    whole : after_compile (Ok n) after ≡ stored rows before
    whole =
        c ∙ sym (room-compiled context text before l.tree (computed context text l.is_read) l.formula
        l.is-formula l.room rows refl)

    many : n ≡ length rows
    many = number_of refl refl (ap (λ (x : AfterCompile). x.answer) whole)
      where
        number_of : {p q : Compiled} {x y : ℕ} → p ≡ Ok x → q ≡ Ok y → p ≡ q → x ≡ y
        number_of e f g = cc

    front : take (4 * n) after ≡ numbers_of rows
    front =
        let small : length rows ≤ rule_equations = omega (arith, many, l.few) in
        ap (take (4 * n)) (ap (λ (x : AfterCompile). x.table) whole
        ∙ observer-front l.formula before (omega arith) l.room)
        ∙ take_at (numbers_of rows) (drop (4 * length rows) before) (4 * n)
        (length-numbers rows ∙ ap (λ (x : ℕ). 4 * x) (sym many))

  module _ (a ps b qs : List ℕ) (same : SameRule context a ps b qs) where
    -- Of two texts that are the same rule, what compiling left has one formula.
    formulas : {before before' t u : List ℕ} {n m : ℕ} (x : Left a before n t) (y : Left b before' m u)
        → x.formula ≡ y.formula
    formulas x y =
        equal x.is-formula y.is-formula
        (same-formula context a ps b qs same x.tree y.tree x.is_read y.is_read)
      where
        equal : {p q : Option Formula} {f g : Formula} → p ≡ some f → q ≡ some g → p ≡ q → f ≡ g
        equal e e' same = cc

    -- Compiled, it has as many equations, and the same ones.
    pub same_tables : (before before' : List ℕ) (n m : ℕ) (t u : List ℕ)
        → after_compile (Ok n) t ≡ compiled context a before → Compiles context a before (Ok n) t
        → after_compile (Ok m) u ≡ compiled context b before' → Compiles context b before' (Ok m) u
        → (n ≡ m) × (take (4 * n) t ≡ take (4 * m) u)
    same_tables before before' n m t u c h c' h' =
        let x = left a before n t (Ok n) h refl in
        let y = left b before' m u (Ok m) h' refl in
        let both = formulas x y in (
          many x c ∙ ap (λ (g : Formula). length (observer g)) both ∙ sym (many y c'),
          front x c ∙ ap (λ (g : Formula). numbers_of (observer g)) both ∙ sym (front y c'),
        )

    -- The parameters are admitted by a step.
    fit : (parameters_fit standard_cap ps ≡ true) × (parameters_fit standard_cap qs ≡ true)
    fit =
        let s = yes-rule same refl in
        (within-fits ps (side-rule s.first).1, within-fits qs (side-rule s.second).1)

    module _ {before before' t u : List ℕ} {n : ℕ} (x : Left a before n t) (y : Left b before' n u)
        (calls : List Call) where
      -- The traces of a list of calls, with the parameters of the one side and of the other:
      abbrev trace : Trace
      trace = trace_of_ticks ps (admitted standard_cap velocities n (map (call_with ps) calls))

      abbrev other : Trace
      other = trace_of_ticks qs (admitted standard_cap velocities n (map (call_with qs) calls))

      -- the same verdict at each tick.
      one-verdict : (i : ℕ) → verdict trace x.formula i ≡ verdict other y.formula i
      one-verdict i =
          ap (λ (z : Trace). verdict z x.formula i) (own-trace standard_cap velocities n ps calls)
          ∙ (same-meaning context a ps b qs same x.tree y.tree x.is_read y.is_read
          x.formula y.formula x.is-formula y.is-formula trace 0 i).1
          ∙ sym (ap (λ (z : Trace). verdict z y.formula i)
          (second-trace standard_cap velocities n ps qs fit.0 fit.1 calls))

    -- Two tables of as many equations, compiled of the one text and of the other: over every list of calls, each side
    -- with its own parameters, refused ones included, the same answers.
    pub same-answers : (before before' : List ℕ) (n : ℕ) (t u : List ℕ) → Compiles context a before (Ok n) t
        → Compiles context b before' (Ok n) u → (rest rest' old old' : List ℕ) → n ≤ length old
        → n ≤ length old' → (calls : List Call)
        → answered (from_fresh standard_cap velocities (take (4 * n) t ++ rest) n old (map (call_with ps) calls))
        ≡ answered (from_fresh standard_cap velocities (take (4 * n) u ++ rest') n old' (map (call_with qs) calls))
    same-answers before before' n t u h h' rest rest' old old' room room' calls =
        let x = left a before n t (Ok n) h refl in
        let y = left b before' n u (Ok n) h' refl in
        let others = map (call_with qs) calls in
        answers-are (x.observes rest) old room (map (call_with ps) calls) ps (own standard_cap velocities n ps calls)
        ∙ expected-alike standard_cap velocities n ps qs fit.0 fit.1 _ _ (one-verdict x y calls) 0 calls
        ∙ sym (answers-are (y.observes rest') old' room' others qs (own standard_cap velocities n qs calls))

    -- So of what compiling leaves of the one text and of the other.
    pub same_runs : (before before' : List ℕ) (n m : ℕ) (t u : List ℕ)
        → after_compile (Ok n) t ≡ compiled context a before → Compiles context a before (Ok n) t
        → after_compile (Ok m) u ≡ compiled context b before' → Compiles context b before' (Ok m) u
        → (rest rest' old old' : List ℕ) → n ≤ length old → m ≤ length old' → (calls : List Call)
        → answered (from_fresh standard_cap velocities (take (4 * n) t ++ rest) n old (map (call_with ps) calls))
        ≡ answered (from_fresh standard_cap velocities (take (4 * m) u ++ rest') m old' (map (call_with qs) calls))
    same_runs before before' n m t u c h c' h' rest rest' old old' room room' calls =
        let numbers : n ≡ m = (same_tables before before' n m t u c h c' h').0 in
        let second = subst (λ (k : ℕ). Compiles context b before' (Ok k) u) (sym numbers) h' in
        same-answers before before' n t u h second rest rest' old old' room (omega arith) calls
        ∙ ap (λ (k : ℕ). answered (from_fresh standard_cap velocities (take (4 * k) u ++ rest') k old'
        (map (call_with qs) calls))) numbers
