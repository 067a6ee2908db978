-- SPEC 12.3 (demand 3), on the definitions: the observer of a formula answers, over every list of calls from the fresh
-- state, refused ones included, with the formula's interval meaning. Assumes nothing.
use mathlib.Core.Bool.{true}
use mathlib.Core.List.{List, ◌++◌}
use mathlib.Core.Path.{◌≡◌, ap}
use Prim.Native.Nat.{ℕ, ◌≤◌, ◌<◌}
use native.Mathlib.Omega.{arith}
use lib.ListN.{length}
use Rattle.traces.specs.declared.Tick.{Tick}
use Rattle.traces.specs.Trace.{trace_of}
use Rattle.formulas.specs.Formula.{Formula}
use Rattle.formulas.specs.Tree.{leads}
use Rattle.formulas.specs.Bounds.{bounded}
use Rattle.formulas.specs.Arena.{flat}
use Rattle.formulas.specs.Names.{names_parameter}
use Rattle.formulas.specs.Raw.{raw}
use Rattle.formulas.proofs.Named.{Unchanging}
use Rattle.limits.specs.Limits.{arena_limit, equation_limit, literal_count, signal_count}
use Rattle.tables.specs.Table.{passed, checked}
use Rattle.flows.specs.Step.{AfterFresh}
use Rattle.flows.specs.Run.{Call, from_fresh, ticks, EachTick}
use Rattle.scheme.specs.Emit.{named_by, observer, numbers_of}
use Rattle.agreement.specs.Agreement.{Observes, AsMeant, Closing}
use Rattle.flows.proofs.Lists.{made, calls-decide}
use Rattle.scheme.proofs.Header.{names-below}
use Rattle.scheme.proofs.Sizes.{observer-size}
use Rattle.agreement.proofs.Answers.{passes, answers-named, answers-mean, answers-idle}
use Rattle.agreement.proofs.Ends.{closing-over}

-- The formula names signals 0 to 63 only.
below : (cap velocities : ℕ) (f : Formula) → bounded cap velocities (raw f) ≡ true
    → (j : ℕ) → named_by f j ≡ true → j < signal_count
below cap velocities f bound j e = names-below cap velocities j f bound e

-- What is cited is over any number of signals, so that nothing computes a list of 64.
few : signal_count ≤ signal_count
few = omega arith

-- For every cap up to a million, however many velocities there are, every formula f whose `then`s have leads on their
-- left, whose signals, parameters and literals are in range, and whose tree has no more records than reading makes, and
-- whatever numbers stand after its observer in the table: the observer observes f.
pub observes : (cap velocities : ℕ) → cap ≤ literal_count → (f : Formula) → leads (raw f) ≡ true
    → bounded cap velocities (raw f) ≡ true → length (flat (raw f)) ≤ arena_limit → (junk : List ℕ)
    → Observes cap velocities (numbers_of (observer f) ++ junk) (length (observer f)) f
observes cap velocities low f led bound size junk =
    record {
      formed = formed;
      fresh = λ old room. ap (λ (y : AfterFresh). y.answer) (made velocities t n old formed room);
      agrees = answers-mean cap velocities low signal_count few f led bound (below cap velocities f bound) junk short;
      decides = λ old room calls. calls-decide cap velocities t n formed old room calls;
      idle = answers-idle cap velocities low signal_count few f led bound (below cap velocities f bound) junk short;
    }
  where
    t : List ℕ
    t = numbers_of (observer f) ++ junk

    n : ℕ
    n = length (observer f)

    short : n ≤ equation_limit
    short = observer-size f size

    formed : checked velocities t n ≡ passed
    formed = passes cap velocities low signal_count few f led bound (below cap velocities f bound) junk short

-- The agreement of its answers with the meaning asks less: that each parameter that f names has one value at all ticks.
-- Others may change from tick to tick. Past the last tick the trace is as d, whose named parameters have these values
-- too.
pub agrees-named : (cap velocities : ℕ) → cap ≤ literal_count → (f : Formula) → leads (raw f) ≡ true
    → bounded cap velocities (raw f) ≡ true → length (flat (raw f)) ≤ arena_limit → (junk : List ℕ)
    → let t : List ℕ = numbers_of (observer f) ++ junk in
    let n : ℕ = length (observer f) in
    (old : List ℕ) → n ≤ length old → (calls : List Call) (d : Tick)
    → Unchanging (trace_of d (ticks (from_fresh cap velocities t n old calls))) (names_parameter (raw f))
    → EachTick (AsMeant f (trace_of d (ticks (from_fresh cap velocities t n old calls)))) 0
    (from_fresh cap velocities t n old calls)
agrees-named cap velocities low f led bound size junk =
    answers-named cap velocities low signal_count few f led bound (below cap velocities f bound) junk
    (observer-size f size)

-- SPEC 12.7: how it closes.
pub closing : (cap velocities : ℕ) → cap ≤ literal_count → (f : Formula) → bounded cap velocities (raw f) ≡ true
    → (junk : List ℕ)
    → Closing (numbers_of (observer f) ++ junk) (length (observer f))
closing cap velocities low f bound junk =
    closing-over cap velocities low signal_count few f bound (below cap velocities f bound) junk
