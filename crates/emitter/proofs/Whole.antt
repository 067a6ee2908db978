-- Marks, header, tests, records and the whole rule's node together are the observer's equations. Assumes nothing.
use mathlib.Core.List.{List, [], ◌∷◌, ◌++◌, append-nil}
use mathlib.Core.Path.{◌≡◌, refl, sym, ap, ap₂, ◌∙◌}
use Prim.Native.Nat.{ℕ, ◌+◌, ◌≤◌, ◌<◌}
use native.Mathlib.Nat.{zero-add}
use native.Mathlib.Omega.{arith}
use lib.ListN.{length, replicate}
use Rattle.lists.specs.Number.{number_at}
use Rattle.traces.specs.Trace.{nonzero}
use Rattle.formulas.specs.Formula.{Formula}
use Rattle.formulas.specs.Arena.{WHOLE, flat}
use Rattle.formulas.proofs.Formulas.{raw}
use Rattle.limits.specs.Limits.{arena_limit, signal_count}
use Rattle.scheme.specs.Scheme.{◌⊕◌, node_of}
use Rattle.scheme.specs.Emit.{Block, place_after, emit, named_by, signals-es, places, whole-es}
use Rattle.scheme.specs.Emit.{start_flow, negated_flow, header_count, start-es, tests_of, next_test}
use Rattle.emitter.specs.Machine.{with_equations, State, state, record_of, values_at}
use Rattle.emitter.specs.Machine.{applied, step, run, ran, records, marks, Header, header_of, settle, headed}
use Rattle.emitter.specs.Machine.{tests_in}
use Rattle.emitter.specs.Contract.{Emitted, Ran, Headed, Tested}
use Rattle.scheme.proofs.Places.{after-length, after-append}
use Rattle.emitter.proofs.Equations.{equations-append}
use Rattle.emitter.proofs.Header.{settle_is}
use Rattle.emitter.proofs.Named.{named-long, named-at, tests-are}
use Rattle.emitter.proofs.Pass.{done, run-formula}
use Rattle.tables.specs.declared.Equation.{Equation}

-- ---- the header, of m signals

header_is : (f : Formula) (m : ℕ) (t : List ℕ) →
    settle m 0 (header_of (with_equations t 0 start-es) (marks (flat (raw f)) (replicate m 0)) header_count)
    ≡ header_of (with_equations t 0 (start-es ++ signals-es (named_by f) 0 m)) (places (named_by f) 0 header_count m)
    (place_after header_count (signals-es (named_by f) 0 m))
header_is f m t =
    let named : List ℕ = marks (flat (raw f)) (replicate m 0) in
    let long : length named ≡ m = named-long f m in
    let agree : (i : ℕ) → i < length named → named_by f (0 + i) ≡ nonzero (number_at named i) =
    λ i h. ap (named_by f) (zero-add i) ∙ named-at f m i (rw long at h) in
    let all : settle (length named) 0 (header_of (with_equations t 0 start-es) named header_count)
    ≡ header_of (with_equations (with_equations t 0 start-es) header_count (signals-es (named_by f) 0 (length named)))
    (places (named_by f) 0 header_count (length named))
    (place_after header_count (signals-es (named_by f) 0 (length named))) =
    settle_is (named_by f) named [] (with_equations t 0 start-es) header_count 0 refl agree in
    rw (equations-append start-es (signals-es (named_by f) 0 m) t 0) (rw long at all)

-- ---- the records, and the whole rule's node

ran-is : (f : Formula) (ps t : List ℕ) (u o : ℕ) →
    ran (flat (raw f)) ps t u o
    ≡ step ps (record_of WHOLE 0 0 0)
    (done (emit (number_at ps) f start_flow negated_flow u o) (tests_of f) (state t o u negated_flow []))
unfolding run records
ran-is f ps t u o =
    ap (λ (l : List ℕ). ran l ps t u o) (sym (append-nil (flat (raw f))))
    ∙ ap (step ps (record_of WHOLE 0 0 0)) (run-formula ps f [] (state t o u negated_flow []))

whole_is : (x : Block) (ts : List Equation) (ps t : List ℕ) (u o : ℕ) →
    (let o' : ℕ = place_after o x.es in
    step ps (record_of WHOLE 0 0 0) (done x ts (state t o u negated_flow []))
    ≡ state (with_equations (with_equations t o x.es) o' (whole-es start_flow o' x.out))
    (place_after o' (whole-es start_flow o' x.out)) (place_after u ts) negated_flow
    ((o' ⊕ 2) ∷ []))
unfolding node_of values_at applied step
whole_is x ts ps t u o = refl

-- ---- what the four calls of `emit_observer` gave

-- The table and the number of equations, of any number m of signals.
module _ (f : Formula) (m : ℕ) (t : List ℕ) where
  abbrev pub head : List Equation
  head = start-es ++ signals-es (named_by f) 0 m

  abbrev pub flows : List ℕ
  flows = places (named_by f) 0 header_count m

  -- Where the tests begin, and where they end.
  abbrev pub tests_place : ℕ
  tests_place = place_after 0 head

  abbrev pub middle_place : ℕ
  middle_place = next_test tests_place f

  abbrev pub middle : Block
  middle = emit (number_at flows) f start_flow negated_flow tests_place middle_place

  abbrev pub last : List Equation
  last = whole-es start_flow (place_after middle_place middle.es) middle.out

  abbrev pub whole : List Equation
  whole = head ++ (tests_of f ++ (middle.es ++ last))

  -- The table before the records are entered.
  abbrev pub before : List ℕ
  before = with_equations (with_equations t 0 head) tests_place (tests_of f)

  unfoldable pub ends : State
  ends = ran (flat (raw f)) flows before tests_place middle_place

  ends-table : ends.table ≡ with_equations t 0 whole
  unfolding ends
  ends-table =
      ap (λ (s : State). s.table) (ran-is f flows before tests_place middle_place)
      ∙ ap (λ (s : State). s.table) (whole_is middle (tests_of f) flows before tests_place middle_place)
      ∙ sym (equations-append middle.es last before middle_place)
      ∙ sym (equations-append (tests_of f) (middle.es ++ last) (with_equations t 0 head) tests_place)
      ∙ sym (equations-append head (tests_of f ++ (middle.es ++ last)) t 0)

  pub ends_next : ends.next ≡ length whole
  unfolding ends
  ends_next =
      ap (λ (s : State). s.next) (ran-is f flows before tests_place middle_place)
      ∙ ap (λ (s : State). s.next) (whole_is middle (tests_of f) flows before tests_place middle_place)
      ∙ sym (after-append middle.es last middle_place)
      ∙ sym (after-append (tests_of f) (middle.es ++ last) tests_place)
      ∙ sym (after-append head (tests_of f ++ (middle.es ++ last)) 0)
      ∙ after-length whole 0
      ∙ zero-add (length whole)

-- What entering the records gives once the tests ts are put after the header y.
abbrev after-tests : List ℕ → List Equation → Header → State
after-tests arena ts y =
    ran arena y.places (with_equations y.table y.next ts) y.next (place_after y.next ts)

pub emitted : {arena t named t₁ ps : List ℕ} {u : ℕ} {t₂ : List ℕ} {o : ℕ} {t₃ : List ℕ} {r : ℕ}
    → length arena ≤ arena_limit → named ≡ marks arena (replicate signal_count 0) → Headed t named t₁ ps u
    → Tested arena t₁ u t₂ o → Ran arena ps t₂ u o t₃ r → Emitted arena t t₃ r
unfolding with_equations ends
emitted {arena} {t} {named} {t₁} {ps} {u} {t₂} {o} {t₃} {r} short e-named h d g =
    record {
      many = λ f e. g.many ∙ ap (λ (s : State). s.next) (same f e) ∙ ends_next f signal_count t;
      written = λ f e. g.table ∙ ap (λ (s : State). s.table) (same f e) ∙ ends-table f signal_count t;
      few = omega arith;
    }
  where
    -- The header of the formula's signals.
    front : (f : Formula) → arena ≡ flat (raw f) →
        header_of t₁ ps u
        ≡ header_of (with_equations t 0 (head f signal_count t)) (flows f signal_count t) (tests_place f signal_count t)
    front f e =
        h.stands
        ∙ ap (headed t) (e-named ∙ ap (λ (l : List ℕ). marks l (replicate signal_count 0)) e)
        ∙ header_is f signal_count t

    same : (f : Formula) → arena ≡ flat (raw f) → ran arena ps t₂ u o ≡ ends f signal_count t
    same f e =
        ap₂ (λ (l : List ℕ) (k : ℕ). ran arena ps l u k) d.put.table d.put.next
        ∙ ap (after-tests arena (tests_in arena)) (front f e)
        ∙ ap₂
        (λ (l : List ℕ) (ts : List Equation). after-tests l ts
        (header_of (with_equations t 0 (head f signal_count t)) (flows f signal_count t)
        (tests_place f signal_count t)))
        e (ap tests_in e ∙ tests-are f)
