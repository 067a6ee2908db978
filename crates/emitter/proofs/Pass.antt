-- The pass over a formula's records writes the formula's equations: all induction on formulas, in two lemmas whose
-- clauses compute. Assumes nothing.
use mathlib.Core.List.{List, ◌∷◌, ◌++◌, append_assoc}
use mathlib.Core.Path.{◌≡◌, refl, ap, ◌∙◌}
use Prim.Native.Nat.{ℕ, ◌+◌}
use Rattle.lists.specs.Number.{number_at}
use Rattle.traces.specs.Compare.{op_number}
use Rattle.traces.specs.declared.Op.{Op}
use Rattle.traces.specs.declared.Op.TheVariants.{Below as lt}
use Rattle.formulas.specs.Formula.{Num, Prop, Test, Count, Formula}
use Rattle.formulas.specs.Formula.Prop.{constant, signal, velocity, neg_p, and_p, or_p}
use Rattle.formulas.specs.Formula.Test.{begin, end, point, held, kept}
use Rattle.formulas.specs.Formula.Count.{sum, age}
use Rattle.formulas.specs.Formula.Formula.{test, len, count, lag, neg, and, or, then}
use Rattle.formulas.specs.Arena.{NOT, AND, OR, TEST, COUNT, RUN, FINE, ALWAYS, LEAD-END, THEN, test_number}
use Rattle.formulas.specs.Arena.{count_number}
use Rattle.formulas.specs.Arena.{num_kind, num_value, row, flat}
use Rattle.formulas.proofs.Formulas.{raw_p, raw}
use Rattle.scheme.specs.Scheme.{◌⊕◌, Node, node_of, and_node, or_node, begin_node, point_node, held_node, kept_node}
use Rattle.scheme.specs.Scheme.{sum_node, age_node}
use Rattle.scheme.specs.Emit.{Block, place_after, own_flow, emit_p, emit, not-block, join-block, atom-block, not-es}
use Rattle.scheme.specs.Emit.{and-es, or-es}
use Rattle.scheme.specs.Emit.{begin-es, point-es, held-es, kept-es, sum-es, age-es, run-es, fine-es, always-es}
use Rattle.scheme.specs.Emit.{lead-end-es, then-es, after_run, after_fine, tests_p, tests_of}
use Rattle.emitter.specs.Machine.{with_equations, State, state, before, record_of}
use Rattle.emitter.specs.Machine.{values_at, applied, step, run, records}
use Rattle.scheme.proofs.Places.{after-append}
use Rattle.emitter.proofs.Equations.{equations-none, equations-append}
use Rattle.tables.specs.declared.Equation.{Equation}

-- ---- blocks of equations in a state

-- Equations at the next place, with another next test, another start and another stack.
abbrev all : State → List Equation → ℕ → ℕ → List ℕ → State
all s es u n st = state (with_equations s.table s.next es) (place_after s.next es) u n st

-- A block's equations at the next place, its result on the stack, its tests ts passed.
abbrev pub done : Block → List Equation → State → State
done x ts s = all s x.es (place_after s.tests ts) s.negated (x.out ∷ s.stack)

-- Equations after equations, and tests after tests.
joined : (s : State) (xs ys : List Equation) (v u m n : ℕ) (w st : List ℕ) →
    all (all s xs v m w) ys u n st ≡ all s (xs ++ ys) u n st
joined s xs ys v u m n w st = rw (equations-append xs ys s.table s.next, after-append xs ys s.next)

both-passed : (s : State) (es ts us : List Equation) (n : ℕ) (st : List ℕ) →
    all s es (place_after (place_after s.tests ts) us) n st ≡ all s es (place_after s.tests (ts ++ us)) n st
both-passed s es ts us n st = rw (after-append ts us s.tests)

module _ (places : List ℕ) where
  abbrev flow_of : ℕ → ℕ
  flow_of = number_at places

  -- The records l have the effect of the block x and pass the tests ts, whatever records follow.
  abbrev Runs : List ℕ → (State → Block) → List Equation → Type 0
  Runs l x ts = (r : List ℕ) (s : State) → run places (l ++ r) s ≡ run places r (done (x s) ts s)

  -- Records after those of one block; one record after them,
  after : (l m : List ℕ) (x : State → Block) (ts : List Equation) → Runs l x ts → (r : List ℕ) (s : State) →
      run places ((l ++ m) ++ r) s ≡ run places (m ++ r) (done (x s) ts s)
  after l m x ts h r s = rw (append_assoc l m r) (h (m ++ r) s)

  one : (l : List ℕ) (x : State → Block) (ts : List Equation) → Runs l x ts → (k a b c : ℕ) (r : List ℕ) (s : State) →
      run places ((l ++ row k a b c) ++ r) s ≡ run places r (step places (record_of k a b c) (done (x s) ts s))
  unfolding run records
  one l x ts h k a b c = after l (row k a b c) x ts h

  -- and after those of two.
  two : (l m : List ℕ) (x y : State → Block) (ts us : List Equation) → Runs l x ts → Runs m y us
      → (k a b c : ℕ) (r : List ℕ) (s : State) →
      let s₁ : State = done (x s) ts s in
      run places ((l ++ (m ++ row k a b c)) ++ r) s
      ≡ run places r (step places (record_of k a b c) (done (y s₁) us s₁))
  two l m x y ts us g h k a b c r s =
      after l (m ++ row k a b c) x ts g r s ∙ one m y us h k a b c r (done (x s) ts s)

  -- The equations of `not` after its operand's, of `and` and `or` after theirs, an atom's after its proposition's.
  not_done : (x : Block) (ts : List Equation) (r : List ℕ) (s : State) →
      run places r
      (all (done x ts s) (not-es (place_after s.next x.es) x.out) (place_after s.tests ts) s.negated
      (place_after s.next x.es ∷ s.stack))
      ≡ run places r (done (not-block s.next x) ts s)
  not_done x ts r s =
      let o : ℕ = place_after s.next x.es in
      let u : ℕ = place_after s.tests ts in
      ap (run places r)
      (joined s x.es (not-es o x.out) u u s.negated s.negated (x.out ∷ s.stack) (o ∷ s.stack))

  join-done : (join : ℕ → ℕ → ℕ → List Equation) (d : Node) (x y : Block) (ts us : List Equation) (r : List ℕ)
      (s : State) →
      (let o : ℕ = place_after (place_after s.next x.es) y.es in
      run places r
      (all (done y us (done x ts s)) (join o x.out y.out) (place_after (place_after s.tests ts) us)
      s.negated (own_flow o d.result ∷ s.stack))
      ≡ run places r (done (join-block join d s.next x y) (ts ++ us) s))
  join-done join d x y ts us r s =
      let o : ℕ = place_after (place_after s.next x.es) y.es in
      let u : ℕ = place_after s.tests ts in
      let u' : ℕ = place_after u us in
      let n : ℕ = s.negated in
      let st : List ℕ = x.out ∷ s.stack in
      let st' : List ℕ = own_flow o d.result ∷ s.stack in
      ap (run places r)
      (joined (done x ts s) y.es (join o x.out y.out) u' u' n n (y.out ∷ st) st'
      ∙ joined s x.es (y.es ++ join o x.out y.out) u u' n n st st'
      ∙ both-passed s (x.es ++ (y.es ++ join o x.out y.out)) ts us n st')

  atom-done : (rest : ℕ → ℕ → List Equation) (d : Node) (x : Block) (ts : List Equation) (r : List ℕ) (s : State) →
      (let o : ℕ = place_after s.next x.es in
      run places r
      (all (done x ts s) (rest o x.out) (place_after s.tests ts) s.negated (own_flow o d.result ∷ s.stack))
      ≡ run places r (done (atom-block rest d s.next x) ts s))
  atom-done rest d x ts r s =
      let o : ℕ = place_after s.next x.es in
      let u : ℕ = place_after s.tests ts in
      ap (run places r)
      (joined s x.es (rest o x.out) u u s.negated s.negated (x.out ∷ s.stack)
      (own_flow o d.result ∷ s.stack))

  -- ---- propositions

  abbrev block_p : Prop → State → Block
  block_p p s = emit_p flow_of p s.tests s.next

  abbrev done_p : Prop → State → State
  done_p p s = done (block_p p s) (tests_p p) s

  run-prop : (p : Prop) → Runs (flat (raw_p p)) (block_p p) (tests_p p)
  unfolding node_of values_at applied step run records
  run-prop (constant c) r s = refl
  run-prop (signal j) r s = refl
  run-prop (velocity o n) r s = refl
  run-prop (neg_p p) r s =
      one (flat (raw_p p)) (block_p p) (tests_p p) (run-prop p) NOT 0 0 0 r s ∙ not_done (block_p p s) (tests_p p) r s
  run-prop (and_p p q) r s =
      two (flat (raw_p p)) (flat (raw_p q)) (block_p p) (block_p q) (tests_p p) (tests_p q) (run-prop p) (run-prop q)
      AND 0 0 0 r s
      ∙ join-done and-es and_node (block_p p s) (block_p q (done_p p s)) (tests_p p) (tests_p q) r s
  run-prop (or_p p q) r s =
      two (flat (raw_p p)) (flat (raw_p q)) (block_p p) (block_p q) (tests_p p) (tests_p q) (run-prop p) (run-prop q)
      OR 0 0 0 r s
      ∙ join-done or-es or_node (block_p p s) (block_p q (done_p p s)) (tests_p p) (tests_p q) r s

  -- A test's record after its proposition's, and a count's.
  abbrev of_test : (k : Test) (p : Prop) (r : List ℕ) (s : State) →
      run places ((flat (raw_p p) ++ row (TEST + test_number k) 0 0 0) ++ r) s
      ≡ run places r (step places (record_of (TEST + test_number k) 0 0 0) (done_p p s))
  of_test k p = one (flat (raw_p p)) (block_p p) (tests_p p) (run-prop p) (TEST + test_number k) 0 0 0

  abbrev of-count : (k : Count) (p : Prop) (o : Op) (n : Num) (r : List ℕ) (s : State) →
      run places ((flat (raw_p p) ++ row (COUNT + count_number k) (op_number o) (num_kind n) (num_value n)) ++ r) s
      ≡ run places r
      (step places (record_of (COUNT + count_number k) (op_number o) (num_kind n) (num_value n)) (done_p p s))
  of-count k p o n =
      one (flat (raw_p p)) (block_p p) (tests_p p) (run-prop p) (COUNT + count_number k) (op_number o) (num_kind n)
      (num_value n)

  -- ---- formulas: the start flow is the one before the negated one

  abbrev pub block : Formula → State → Block
  block f s = emit flow_of f (before s.negated) s.negated s.tests s.next

  abbrev done_f : Formula → State → State
  done_f f s = done (block f s) (tests_of f) s

  pub run-formula : (f : Formula) → Runs (flat (raw f)) (block f) (tests_of f)
  unfolding node_of values_at applied step run records
  run-formula (test begin p) r s =
      of_test begin p r s
      ∙ atom-done (begin-es (before s.negated) s.negated) begin_node (block_p p s) (tests_p p) r s
  run-formula (test end p) r s =
      of_test end p r s ∙ ap (run places r) (rw (equations-none (done_p p s).table (done_p p s).next))
  run-formula (test point p) r s =
      of_test point p r s ∙ atom-done (point-es (before s.negated)) point_node (block_p p s) (tests_p p) r s
  run-formula (test held p) r s =
      of_test held p r s
      ∙ atom-done (held-es (before s.negated) s.negated) held_node (block_p p s) (tests_p p) r s
  run-formula (test kept p) r s =
      of_test kept p r s ∙ atom-done (kept-es (before s.negated)) kept_node (block_p p s) (tests_p p) r s
  run-formula (len o n) r s = refl
  run-formula (count sum p o n) r s =
      of-count sum p o n r s ∙ atom-done (sum-es s.negated o n) sum_node (block_p p s) (tests_p p) r s
  run-formula (count age p o n) r s =
      of-count age p o n r s ∙ atom-done (age-es s.negated o n) age_node (block_p p s) (tests_p p) r s
  -- s₁ is the state after the rows of the run, with its flow on the stack.
  run-formula (lag p m q) r s =
      let x : Block = block_p p s in
      let n : ℕ = s.negated in
      let u₁ : ℕ = place_after s.tests (tests_p p) in
      let o₁ : ℕ = place_after s.next x.es in
      let ran-es : List Equation = run-es n o₁ x.out in
      let s₁ : State = all (done_p p s) ran-es u₁ n ((o₁ ⊕ 1) ∷ s.stack) in
      let y : Block = block_p q s₁ in
      let u₂ : ℕ = place_after u₁ (tests_p q) in
      let o₂ : ℕ = place_after (after_run o₁) y.es in
      let due-es : List Equation = fine-es m o₂ (o₁ ⊕ 1) y.out in
      let last-es : List Equation = always-es (before n) (after_fine o₂) (o₂ ⊕ 3) in
      let st : List ℕ = (o₂ ⊕ 6) ∷ s.stack in
      let closing : List ℕ = row FINE (op_number lt) (num_kind m) (num_value m) ++ row ALWAYS 0 0 0 in
      let rest : List ℕ = row RUN 0 0 0 ++ (flat (raw_p q) ++ closing) in
      after (flat (raw_p p)) rest (block_p p) (tests_p p) (run-prop p) r s
      ∙ after (flat (raw_p q)) closing (block_p q) (tests_p q) (run-prop q) r s₁
      ∙ ap (run places r)
      (joined (done_p q s₁) due-es last-es u₂ u₂ n n ((o₂ ⊕ 3) ∷ s.stack) st
      ∙ joined s₁ y.es (due-es ++ last-es) u₂ u₂ n n (y.out ∷ s₁.stack) st
      ∙ joined (done_p p s) ran-es (y.es ++ (due-es ++ last-es)) u₁ u₂ n n s₁.stack st
      ∙ joined s x.es (ran-es ++ (y.es ++ (due-es ++ last-es))) u₁ u₂ n n (x.out ∷ s.stack) st
      ∙ both-passed s (x.es ++ (ran-es ++ (y.es ++ (due-es ++ last-es)))) (tests_p p) (tests_p q) n st)
  run-formula (neg f) r s =
      one (flat (raw f)) (block f) (tests_of f) (run-formula f) NOT 0 0 0 r s ∙ not_done (block f s) (tests_of f) r s
  run-formula (and f g) r s =
      two (flat (raw f)) (flat (raw g)) (block f) (block g) (tests_of f) (tests_of g) (run-formula f) (run-formula g)
      AND 0 0 0 r s
      ∙ join-done and-es and_node (block f s) (block g (done_f f s)) (tests_of f) (tests_of g) r s
  run-formula (or f g) r s =
      two (flat (raw f)) (flat (raw g)) (block f) (block g) (tests_of f) (tests_of g) (run-formula f) (run-formula g)
      OR 0 0 0 r s
      ∙ join-done or-es or_node (block f s) (block g (done_f f s)) (tests_of f) (tests_of g) r s
  -- s₁ is the state after the end of the lead: the second part's start, with the present one on the stack.
  run-formula (then f g) r s =
      let x : Block = block f s in
      let n : ℕ = s.negated in
      let u₁ : ℕ = place_after s.tests (tests_of f) in
      let o₁ : ℕ = place_after s.next x.es in
      let end-es : List Equation = lead-end-es n o₁ x.out in
      let s₁ : State = all (done_f f s) end-es u₁ (o₁ ⊕ 4) (n ∷ s.stack) in
      let y : Block = block g s₁ in
      let u₂ : ℕ = place_after u₁ (tests_of g) in
      let o₂ : ℕ = place_after (o₁ ⊕ 5) y.es in
      let rest-es : List Equation = then-es n o₂ (o₁ ⊕ 3) y.out in
      let st : List ℕ = (o₂ ⊕ 3) ∷ s.stack in
      let rest : List ℕ = row LEAD-END 0 0 0 ++ (flat (raw g) ++ row THEN 0 0 0) in
      after (flat (raw f)) rest (block f) (tests_of f) (run-formula f) r s
      ∙ one (flat (raw g)) (block g) (tests_of g) (run-formula g) THEN 0 0 0 r s₁
      ∙ ap (run places r)
      (joined s₁ y.es rest-es u₂ u₂ (o₁ ⊕ 4) n (y.out ∷ n ∷ s.stack) st
      ∙ joined (done_f f s) end-es (y.es ++ rest-es) u₁ u₂ (o₁ ⊕ 4) n (n ∷ s.stack) st
      ∙ joined s x.es (end-es ++ (y.es ++ rest-es)) u₁ u₂ n n (x.out ∷ s.stack) st
      ∙ both-passed s (x.es ++ (end-es ++ (y.es ++ rest-es))) (tests_of f) (tests_of g) n st)
