-- What flows that satisfy their equations are, in the words of their kinds: now, and one tick ago. Assumes nothing.
use mathlib.Core.Bool.{Bool, true, not, ◌&&◌, ◌||◌, cond}
use mathlib.Core.List.{List, ◌++◌}
use mathlib.Core.Path.{◌≡◌, sym}
use Prim.Native.Nat.{ℕ, suc, ◌<◌}
use lib.ListN.{length}
use native.Mathlib.Omega.{arith}
use Rattle.traces.specs.Trace.{Trace, truth, nonzero, signal_at, parameter_at, starts}
use Rattle.traces.specs.Compare.{op_of, compares}
use Rattle.traces.proofs.Laws.{nonzero-truth, truth-nonzero}
use Rattle.tables.specs.Table.{equation_at, kind_of, kind_at, shape_of, sort_of, same_sort}
use Rattle.flows.specs.Flow.{increased, value_of, initial}
use Rattle.tables.specs.declared.Sort.TheVariants.{Boolean}
use Rattle.flows.specs.Lustre.{arrow_pre, Lustre}
use Rattle.flows.proofs.Answers.{boolean-low}
use Rattle.scheme.specs.Emit.{numbers_of}
use Rattle.scheme.proofs.Offsets.{zero-⊕}
use Rattle.scheme.proofs.Places.{Each, each_from, equation-at}
use Rattle.std.specs.Prelude.{Option, Some, None}
use Rattle.tables.specs.declared.Kind.TheVariants.{Signal, Start, Constant, Not, And, Or, BooleanPre}
use Rattle.tables.specs.declared.Kind.TheVariants.{CountPre, Capped, If, CompareLiteral, CompareParameter, Velocity}
use Rattle.tables.specs.declared.Equation.{Equation}
use Rattle.tables.specs.declared.Kind.{Kind}

-- Boolean flow i is true at tick k.
abbrev pub on : (ℕ → ℕ → ℕ) → ℕ → ℕ → Bool
on flow i k = nonzero (flow k i)

module _ (cap : ℕ) (trace : Trace) (flow : ℕ → ℕ → ℕ) where
  -- What flow i, of an equation e of that kind, is at every tick; of a memory, at the first tick and after each tick.
  abbrev pub Local : Option Kind → ℕ → Equation → Type 0
  Local (Some Signal) i e = (k : ℕ) → on flow i k ≡ signal_at (trace k) e.a
  Local (Some Start) i e = (k : ℕ) → on flow i k ≡ starts (trace k)
  Local (Some Constant) i e = (k : ℕ) → on flow i k ≡ nonzero e.a
  Local (Some Not) i e = (k : ℕ) → on flow i k ≡ not (on flow e.a k)
  Local (Some And) i e = (k : ℕ) → on flow i k ≡ on flow e.a k && on flow e.b k
  Local (Some Or) i e = (k : ℕ) → on flow i k ≡ on flow e.a k || on flow e.b k
  Local (Some BooleanPre) i e = (on flow i 0 ≡ nonzero e.c) × ((k : ℕ) → on flow i (suc k) ≡ on flow e.a k)
  Local (Some CountPre) i e = (flow 0 i ≡ 0) × ((k : ℕ) → flow (suc k) i ≡ flow k e.a)
  Local (Some Capped) i e = (k : ℕ) → flow k i ≡ increased cap (flow k e.a) (on flow e.b k)
  Local (Some If) i e = (k : ℕ) → flow k i ≡ cond (on flow e.a k) (flow k e.b) 0
  Local (Some CompareLiteral) i e = (k : ℕ) → on flow i k ≡ compares (op_of e.b) (flow k e.a) e.c
  Local (Some CompareParameter) i e =
      (k : ℕ) → on flow i k ≡ compares (op_of e.b) (flow k e.a) (parameter_at (trace k) e.c)
  Local (Some Velocity) i e = (k : ℕ) → on flow i k ≡ compares (op_of e.a) (trace k).velocity e.b
  Local None i e = Unit {0}

  -- A flow that satisfies its equation is so.
  local : (q : Option Kind) (i : ℕ) (e : Equation)
      → ((k : ℕ) → flow k i
      ≡ value_of cap (trace k) (flow k) (arrow_pre (initial (sort_of q) e.c) (λ j. flow j e.a) k) q e)
      → Local q i e
  unfolding value_of initial shape_of
  local (Some Signal) i e h = λ k. rw (h k) (nonzero-truth (signal_at (trace k) e.a))
  local (Some Start) i e h = λ k. rw (h k) (nonzero-truth (starts (trace k)))
  local (Some Constant) i e h = λ k. rw (h k)
  local (Some Not) i e h = λ k. rw (h k) (nonzero-truth (not (on flow e.a k)))
  local (Some And) i e h = λ k. rw (h k) (nonzero-truth (on flow e.a k && on flow e.b k))
  local (Some Or) i e h = λ k. rw (h k) (nonzero-truth (on flow e.a k || on flow e.b k))
  local (Some BooleanPre) i e h = (rw (h 0), λ k. rw (h (suc k)))
  local (Some CountPre) i e h = (h 0, λ k. h (suc k))
  local (Some Capped) i e h = h
  local (Some If) i e h = h
  local (Some CompareLiteral) i e h = λ k. rw (h k) (nonzero-truth (compares (op_of e.b) (flow k e.a) e.c))
  local (Some CompareParameter) i e h = λ k.
      rw (h k) (nonzero-truth (compares (op_of e.b) (flow k e.a) (parameter_at (trace k) e.c)))
  local (Some Velocity) i e h = λ k. rw (h k) (nonzero-truth (compares (op_of e.a) (trace k).velocity e.b))
  local None i e h = tt

  -- The same of an equation with its own kind number, at place i,
  abbrev pub LocalAt : ℕ → Equation → Type 0
  LocalAt i e = Local (kind_of e.kind) i e

  -- and of equations that stand from place o on.
  abbrev pub Stand : ℕ → List Equation → Type 0
  Stand = Each LocalAt

  -- Flows that satisfy a table of these equations: the equations stand from place 0 on.
  pub all-stand : (es : List Equation) (junk : List ℕ) → Lustre cap (numbers_of es ++ junk) (length es) trace flow
      → Stand 0 es
  all-stand es junk lustre =
      each_from LocalAt es 0
      (λ i h. rw (zero-⊕, ← equation-at es junk i h)
      (local (kind_at t i) i (equation_at t i) (λ k. (lustre i k h).equation)))
    where
      t : List ℕ
      t = numbers_of es ++ junk

  -- A boolean flow is the number of a truth value.
  pub boolean-number : (t : List ℕ) (n : ℕ) → Lustre cap t n trace flow → (i : ℕ) → i < n
      → same_sort (sort_of (kind_at t i)) Boolean ≡ true → (k : ℕ) → flow k i ≡ truth (on flow i k)
  boolean-number t n lustre i h sorted k =
      let low = boolean-low cap (sort_of (kind_at t i)) (flow k i) sorted (lustre i k h).range in
      sym (truth-nonzero (flow k i) (omega (arith, low)))
