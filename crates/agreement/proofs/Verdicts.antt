-- What the last two flows of an observer answer, in any flows that satisfy its table's equations: idle before the first
-- start; from it on, on a trace in which each parameter that the formula names has one value at all ticks, below the
-- cap, the formula's verdict. Assumes nothing.
use mathlib.Core.Bool.{true, not, cond}
use mathlib.Core.List.{List, ◌++◌}
use mathlib.Core.Logic.{◌↔◌}
use mathlib.Core.Path.{◌≡◌, sym, subst}
use Prim.Native.Nat.{ℕ, ◌≤◌, ◌<◌}
use lib.ListN.{length}
use Rattle.traces.specs.Trace.{Trace, truth, idle_verdict, signal_at, starts}
use Rattle.formulas.specs.Formula.{Formula}
use Rattle.formulas.specs.Meaning.{latest, verdict}
use Rattle.formulas.specs.Laws.{Starts}
use Rattle.formulas.specs.Tree.{leads}
use Rattle.formulas.specs.Bounds.{bounded}
use Rattle.formulas.specs.Names.{names_parameter}
use Rattle.formulas.specs.Raw.{raw}
use Rattle.formulas.proofs.Laws.{seen, since-idle}
use Rattle.formulas.proofs.Named.{Steady}
use Rattle.tables.specs.Table.{kind_of}
use Rattle.flows.specs.Lustre.{Lustre}
use Rattle.scheme.specs.Scheme.{◌⊕◌}
use Rattle.scheme.specs.Emit.{named_by, start_flow, negated_flow, header_count, tests_of, numbers_of}
use Rattle.scheme.proofs.Offsets.{zero-⊕}
use Rattle.scheme.proofs.Places.{each_left, each_right}
use Rattle.scheme.proofs.Parts.{head_rows, flow_among, tests_place, body_place, body_block, whole_place, whole_rows}
use Rattle.scheme.proofs.Parts.{observer_over}
use Rattle.scheme.proofs.Header.{signal-at}
use Rattle.scheme.proofs.Local.{on, LocalAt, Stand, all-stand}
use Rattle.scheme.proofs.Nodes.{Agrees, agrees}
use Rattle.scheme.proofs.Closing.{answers-since, whole_is}

module _ (cap velocities : ℕ) (trace : Trace) (flow : ℕ → ℕ → ℕ) where
  module _ (m : ℕ) (f : Formula) (junk : List ℕ)
      (lustre : Lustre cap (numbers_of (observer_over m f) ++ junk) (length (observer_over m f)) trace flow) where
    stand : Stand cap trace flow 0 (observer_over m f)
    stand = all-stand cap trace flow (observer_over m f) junk lustre

    head : Stand cap trace flow 0 (head_rows (named_by f) m)
    head = each_left (LocalAt cap trace flow) (head_rows (named_by f) m) _ 0 stand

    after : Stand cap trace flow (tests_place m f) (tests_of f ++ ((body_block m f).es ++ whole_rows m f))
    after = each_right (LocalAt cap trace flow) (head_rows (named_by f) m) _ 0 stand

    rest : Stand cap trace flow (body_place m f) ((body_block m f).es ++ whole_rows m f)
    rest = each_right (LocalAt cap trace flow) (tests_of f) _ (tests_place m f) after

    closing : Stand cap trace flow (whole_place m f) (whole_rows m f)
    closing = each_right (LocalAt cap trace flow) (body_block m f).es (whole_rows m f) (body_place m f) rest

    begins : (k : ℕ) → on flow start_flow k ≡ starts (trace k)
    unfolding kind_of
    begins k = head.0 k

    negated : (k : ℕ) → on flow negated_flow k ≡ not (on flow start_flow k)
    unfolding kind_of
    negated k = head.1.0 k

    -- What the last two flows answer.
    abbrev pub told : ℕ → ℕ
    told e = cond (on flow (whole_place m f ⊕ 1) e) (truth (on flow (whole_place m f ⊕ 2) e)) idle_verdict

    pub idle-over : (e : ℕ) → (told e ≡ idle_verdict) ↔ ((i : ℕ) → i ≤ e → ¬ Starts trace i)
    idle-over e =
        let x = on flow (whole_place m f ⊕ 2) e in
        subst (λ (y : ℕ). (y ≡ idle_verdict) ↔ ((i : ℕ) → i ≤ e → ¬ Starts trace i))
        (sym (answers-since cap trace flow start_flow (whole_place m f) (body_block m f).out closing begins x e))
        (since-idle trace (λ b. x) e (latest trace e) (seen trace e))

    module _ (steady : (j : ℕ) → names_parameter (raw f) j ≡ true → Steady cap trace j)
        (led : leads (raw f) ≡ true) (bound : bounded cap velocities (raw f) ≡ true)
        (below : (j : ℕ) → named_by f j ≡ true → j < m) where
      -- The flow of each named signal is the signal.
      signals : (j : ℕ) → named_by f j ≡ true → (k : ℕ) → on flow (flow_among (named_by f) m j) k
          ≡ signal_at (trace k) j
      unfolding kind_of
      signals j e k =
          let e' : named_by f (0 ⊕ j) ≡ true = rw zero-⊕ e in
          rw zero-⊕ at (signal-at (named_by f) (LocalAt cap trace flow) m 0 header_count j head.1.1 (below j e) e' k)

      body-agrees : Agrees trace flow start_flow (body_block m f).out f
      body-agrees =
          agrees cap velocities trace flow (flow_among (named_by f) m) f start_flow negated_flow (tests_place m f)
          (body_place m f) (record {
            led = led;
            bound = bound;
            steady = steady;
            signals = signals;
            negated = negated;
            tested = each_left (LocalAt cap trace flow) (tests_of f) _ (tests_place m f) after;
            stands = each_left (LocalAt cap trace flow) (body_block m f).es (whole_rows m f) (body_place m f) rest;
          })

      pub verdict-over : (e : ℕ) → told e ≡ verdict trace f e
      verdict-over e =
          whole_is cap trace flow start_flow (whole_place m f) (body_block m f).out closing begins f body-agrees e
