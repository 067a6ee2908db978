-- The equations of a formula: its observer. First stand the start flow and its negation, then the signals that the
-- formula names, lowest first, then its velocity tests, one for each place in the text, in its order. Then come its
-- nodes, a block for each after the blocks of its operands (`then` and `lag` have a part of their block between those
-- of their operands), then what tells whether there was a start, and the verdict. Definitions only.
use Rattle.std.specs.Prelude.{Bool, false, ◌||◌, cond, List, [], ◌∷◌, ◌++◌, ℕ, zero, suc, eqb, length}
use Rattle.lists.specs.Number.{number_at}
use Rattle.traces.specs.Trace.{truth}
use Rattle.traces.specs.Compare.{op_number}
use Rattle.traces.specs.declared.Op.{Op}
use Rattle.traces.specs.declared.Op.TheVariants.{Below as lt}
use Rattle.formulas.specs.Formula.{Num, Prop, Formula}
use Rattle.formulas.specs.Formula.Prop.{constant, signal, velocity, neg_p, and_p, or_p}
use Rattle.formulas.specs.Formula.Test.{begin, end, point, held, kept}
use Rattle.formulas.specs.Formula.Count.{sum, age}
use Rattle.formulas.specs.Formula.Formula.{test, len, count, lag, neg, and, or, then}
use Rattle.formulas.specs.Arena.{num_kind, num_value}
use Rattle.tables.specs.Kind.{SIGNAL, START, NOT, VELOCITY}
use Rattle.limits.specs.Limits.{signal_count}
use Rattle.tables.specs.Table.{equation}
use Rattle.scheme.specs.Scheme.{◌⊕◌, Name, Node, constant_node, signal_node, not_node, and_node, or_node, begin_node}
use Rattle.scheme.specs.Scheme.{end_node, point_node, held_node, kept_node, len_node, sum_node, age_node, run_node}
use Rattle.scheme.specs.Scheme.{fine_node, always_node, lead_end_node, then_node, velocity_node, whole_node}
use Rattle.scheme.specs.Scheme.{Values, value_named, comparison_of, filled}
use Rattle.scheme.specs.Scheme.Name.{Fourth}
use Rattle.tables.specs.declared.Equation.{Equation}

-- A block of equations, and the flow that is its result.
pub record Block : Type 0 where
  pub es : List Equation
  pub out : ℕ

-- The place after equations that stand from place o on.
abbrev pub place_after : ℕ → List Equation → ℕ
place_after o [] = o
place_after o (e ∷ es) = place_after (suc o) es

-- ---- the rows of each node, from place o on

-- The values at a node: its place, the negated start flow, the start flow, the last operand and the one before it.
abbrev pub flows_at : (place negated start last previous : ℕ) → Values
flows_at o n s p q =
    record {
      place = o;
      negated = n;
      start = s;
      last = p;
      previous = q;
      signal = 0;
      tested = 0;
      a = 0;
      comparison = 0;
      c = 0;
    }

-- The values at a comparison of a count with x.
abbrev pub comparing : (place negated last previous : ℕ) → Op → Num → Values
comparing o n p q op x =
    record {
      place = o;
      negated = n;
      start = 0;
      last = p;
      previous = q;
      signal = 0;
      tested = 0;
      a = op_number op;
      comparison = comparison_of (num_kind x);
      c = num_value x;
    }

-- The values at a leaf: its place, the flow of its signal, the flow of its test, and its record's first number.
abbrev pub leaf_at : (place signal tested a : ℕ) → Values
leaf_at o x t a =
    record {
      place = o;
      negated = 0;
      start = 0;
      last = 0;
      previous = 0;
      signal = x;
      tested = t;
      a = a;
      comparison = 0;
      c = 0;
    }

-- The value at a constant.
abbrev pub constant_at : ℕ → Bool → Values
constant_at o c = leaf_at o 0 0 (truth c)

-- The value at a signal, whose flow is x.
abbrev pub signalling : ℕ → Values
signalling x = leaf_at 0 x 0 0

-- The value at a velocity test, whose flow is x.
abbrev pub testing : ℕ → Values
testing x = leaf_at 0 0 x 0

-- s and n are the start flow and its negation, p the flow of the node's proposition or operand, q that of the operand
-- before it.
abbrev pub constant-es : Bool → ℕ → List Equation
constant-es c o = filled (constant_at o c) constant_node.rows

abbrev pub not-es : ℕ → ℕ → List Equation
not-es o p = filled (flows_at o 0 0 p 0) not_node.rows

abbrev pub and-es : ℕ → ℕ → ℕ → List Equation
and-es o q p = filled (flows_at o 0 0 p q) and_node.rows

abbrev pub or-es : ℕ → ℕ → ℕ → List Equation
or-es o q p = filled (flows_at o 0 0 p q) or_node.rows

abbrev pub begin-es : ℕ → ℕ → ℕ → ℕ → List Equation
begin-es s n o p = filled (flows_at o n s p 0) begin_node.rows

abbrev pub point-es : ℕ → ℕ → ℕ → List Equation
point-es s o p = filled (flows_at o 0 s p 0) point_node.rows

abbrev pub kept-es : ℕ → ℕ → ℕ → List Equation
kept-es s o p = filled (flows_at o 0 s p 0) kept_node.rows

abbrev pub held-es : ℕ → ℕ → ℕ → ℕ → List Equation
held-es s n o p = filled (flows_at o n s p 0) held_node.rows

abbrev pub len-es : ℕ → ℕ → Op → Num → List Equation
len-es n o op x = filled (comparing o n 0 0 op x) len_node.rows

abbrev pub sum-es : ℕ → Op → Num → ℕ → ℕ → List Equation
sum-es n op x o p = filled (comparing o n p 0 op x) sum_node.rows

abbrev pub age-es : ℕ → Op → Num → ℕ → ℕ → List Equation
age-es n op x o p = filled (comparing o n p 0 op x) age_node.rows

-- A `lag`: after its P, p; after its Q, q, where r is P's run; and after what the second of these gives, f.
abbrev pub run-es : ℕ → ℕ → ℕ → List Equation
run-es n o p = filled (flows_at o n 0 p 0) run_node.rows

abbrev pub fine-es : Num → ℕ → ℕ → ℕ → List Equation
fine-es x o r q = filled (comparing o 0 q r lt x) fine_node.rows

abbrev pub always-es : ℕ → ℕ → ℕ → List Equation
always-es s o f = filled (flows_at o 0 s f 0) always_node.rows

-- The end of the lead l: the fourth of these flows is the second part's start, the fifth its negation.
abbrev pub lead-end-es : ℕ → ℕ → ℕ → List Equation
lead-end-es n o l = filled (flows_at o n 0 l 0) lead_end_node.rows

-- The second part has run since its start s'; its result is f.
abbrev pub then-es : ℕ → ℕ → ℕ → ℕ → List Equation
then-es n o s' f = filled (flows_at o 0 s' f n) then_node.rows

-- Started, with its memory, and the verdict.
abbrev pub whole-es : ℕ → ℕ → ℕ → List Equation
whole-es s o v = filled (flows_at o 0 s v 0) whole_node.rows

-- ---- blocks

-- One of a node's own flows, the node's first equation at place o.
abbrev pub own_flow : ℕ → Name → ℕ
own_flow o x = value_named (flows_at o 0 0 0 0) x

abbrev pub not-block : ℕ → Block → Block
not-block o x =
    let o' : ℕ = place_after o x.es in
    record { es = x.es ++ not-es o' x.out; out = own_flow o' not_node.result }

-- Two blocks, the second after the first, and the row that joins them: of `&` and of `|`.
abbrev pub join-block : (ℕ → ℕ → ℕ → List Equation) → Node → ℕ → Block → Block → Block
join-block join d o x y =
    let o' : ℕ = place_after (place_after o x.es) y.es in
    record { es = x.es ++ (y.es ++ join o' x.out y.out); out = own_flow o' d.result }

-- A signal's flow stands in the header: no row, and that flow.
abbrev pub signal-block : ℕ → Block
signal-block x =
    record { es = filled (signalling x) signal_node.rows; out = value_named (signalling x) signal_node.result }

-- A velocity test's flow stands in the header too.
abbrev pub velocity-block : ℕ → Block
velocity-block x =
    record { es = filled (testing x) velocity_node.rows; out = value_named (testing x) velocity_node.result }

-- An `end` adds no row to its proposition's.
abbrev pub end-block : Block → Block
end-block x = record { es = x.es; out = value_named (flows_at 0 0 0 x.out 0) end_node.result }

-- An atom over a proposition's block.
abbrev pub atom-block : (ℕ → ℕ → List Equation) → Node → ℕ → Block → Block
atom-block rest d o x =
    let o' : ℕ = place_after o x.es in
    record { es = x.es ++ rest o' x.out; out = own_flow o' d.result }

-- Where the Q of a `lag` begins, and where its last equations do: after the rows that stand at place o.
abbrev pub after_run : ℕ → ℕ
after_run o = o ⊕ length run_node.rows

abbrev pub after_fine : ℕ → ℕ
after_fine o = o ⊕ length fine_node.rows

-- A `lag` over the blocks x of its P and y of its Q: o' is the place after x.
abbrev pub lag-block : ℕ → ℕ → Num → ℕ → Block → Block → Block
lag-block s n v o' x y =
    let o'' : ℕ = place_after (after_run o') y.es in
    let fine : List Equation = fine-es v o'' (own_flow o' run_node.result) y.out in
    let always : List Equation = always-es s (after_fine o'') (own_flow o'' fine_node.result) in
    record {
      es = x.es ++ (run-es n o' x.out ++ (y.es ++ (fine ++ always)));
      out = own_flow (after_fine o'') always_node.result;
    }

-- The start flow of a second part and its negation, where the end of its lead stands at place o, and the place after
-- that.
abbrev pub second_start : ℕ → ℕ
second_start o = own_flow o Fourth

abbrev pub second_negated : ℕ → ℕ
second_negated o = own_flow o lead_end_node.negated

abbrev pub second_place : ℕ → ℕ
second_place o = o ⊕ length lead_end_node.rows

-- A `then`: o' is the place after the lead x.
abbrev pub then-block : ℕ → ℕ → Block → Block → Block
then-block n o' x y =
    let o'' : ℕ = place_after (second_place o') y.es in
    record {
      es = x.es ++ (lead-end-es n o' x.out ++ (y.es ++ then-es n o'' (second_start o') y.out));
      out = own_flow o'' then_node.result;
    }

-- ---- the velocity tests

-- The equations of the tests of a proposition and of a formula, one for each place, in the text's order.
abbrev pub tests_p : Prop → List Equation
tests_p (constant c) = []
tests_p (signal j) = []
tests_p (velocity o n) = equation VELOCITY (op_number o) n 0 ∷ []
tests_p (neg_p p) = tests_p p
tests_p (and_p p q) = tests_p p ++ tests_p q
tests_p (or_p p q) = tests_p p ++ tests_p q

abbrev pub tests_of : Formula → List Equation
tests_of (test k p) = tests_p p
tests_of (len o n) = []
tests_of (count k p o n) = tests_p p
tests_of (lag p n q) = tests_p p ++ tests_p q
tests_of (neg f) = tests_of f
tests_of (and f g) = tests_of f ++ tests_of g
tests_of (or f g) = tests_of f ++ tests_of g
tests_of (then f g) = tests_of f ++ tests_of g

-- The place after the tests of a proposition and of a formula, where the first of them stands at place t.
abbrev pub next_test_p : ℕ → Prop → ℕ
next_test_p t p = place_after t (tests_p p)

abbrev pub next_test : ℕ → Formula → ℕ
next_test t f = place_after t (tests_of f)

-- ---- propositions and formulas

-- The equations of a proposition and of a formula from place o on, where their tests stand from place t on. flow_of has
-- the flow of each signal; s and n are the start flow of the formula's interval and its negation.
module _ (flow_of : ℕ → ℕ) where
  abbrev pub emit_p : Prop → ℕ → ℕ → Block
  emit_p (constant c) t o = record { es = constant-es c o; out = own_flow o constant_node.result }
  emit_p (signal j) t o = signal-block (flow_of j)
  emit_p (velocity op n) t o = velocity-block t
  emit_p (neg_p p) t o = not-block o (emit_p p t o)
  emit_p (and_p p q) t o =
      join-block and-es and_node o (emit_p p t o) (emit_p q (next_test_p t p) (place_after o (emit_p p t o).es))
  emit_p (or_p p q) t o =
      join-block or-es or_node o (emit_p p t o) (emit_p q (next_test_p t p) (place_after o (emit_p p t o).es))

  abbrev pub emit : Formula → ℕ → ℕ → ℕ → ℕ → Block
  emit (test begin p) s n t o = atom-block (begin-es s n) begin_node o (emit_p p t o)
  emit (test end p) s n t o = end-block (emit_p p t o)
  emit (test point p) s n t o = atom-block (point-es s) point_node o (emit_p p t o)
  emit (test held p) s n t o = atom-block (held-es s n) held_node o (emit_p p t o)
  emit (test kept p) s n t o = atom-block (kept-es s) kept_node o (emit_p p t o)
  emit (len op x) s n t o = record { es = len-es n o op x; out = own_flow o len_node.result }
  emit (count sum p op x) s n t o = atom-block (sum-es n op x) sum_node o (emit_p p t o)
  emit (count age p op x) s n t o = atom-block (age-es n op x) age_node o (emit_p p t o)
  emit (lag p x q) s n t o =
      let o' : ℕ = place_after o (emit_p p t o).es in
      lag-block s n x o' (emit_p p t o) (emit_p q (next_test_p t p) (after_run o'))
  emit (neg f) s n t o = not-block o (emit f s n t o)
  emit (and f g) s n t o =
      join-block and-es and_node o (emit f s n t o) (emit g s n (next_test t f) (place_after o (emit f s n t o).es))
  emit (or f g) s n t o =
      join-block or-es or_node o (emit f s n t o) (emit g s n (next_test t f) (place_after o (emit f s n t o).es))
  emit (then l f) s n t o =
      let o' : ℕ = place_after o (emit l s n t o).es in
      then-block n o' (emit l s n t o)
      (emit f (second_start o') (second_negated o') (next_test t l) (second_place o'))

-- ---- the named signals

-- Signal j is named by the proposition, and by the formula.
abbrev pub named_by_p : Prop → ℕ → Bool
named_by_p (constant c) j = false
named_by_p (signal i) j = eqb i j
named_by_p (velocity o n) j = false
named_by_p (neg_p p) j = named_by_p p j
named_by_p (and_p p q) j = named_by_p p j || named_by_p q j
named_by_p (or_p p q) j = named_by_p p j || named_by_p q j

abbrev pub named_by : Formula → ℕ → Bool
named_by (test k p) j = named_by_p p j
named_by (len o n) j = false
named_by (count k p o n) j = named_by_p p j
named_by (lag p n q) j = named_by_p p j || named_by_p q j
named_by (neg f) j = named_by f j
named_by (and f g) j = named_by f j || named_by g j
named_by (or f g) j = named_by f j || named_by g j
named_by (then f g) j = named_by f j || named_by g j

-- The equations of the named ones among the m signals from j on, by rising number.
abbrev pub signals-es : (ℕ → Bool) → ℕ → ℕ → List Equation
signals-es named j zero = []
signals-es named j (suc m) =
    cond (named j) (equation SIGNAL j 0 0 ∷ signals-es named (suc j) m) (signals-es named (suc j) m)

-- The flow of each of these signals, where signal j's stands at o if it is named.
abbrev pub places : (ℕ → Bool) → ℕ → ℕ → ℕ → List ℕ
places named j o zero = []
places named j o (suc m) = o ∷ places named (suc j) (cond (named j) (suc o) o) m

-- ---- the header

-- The start flow and its negation stand first: their flows, how many they are, and their equations.
abbrev pub start_flow : ℕ
start_flow = 0

abbrev pub negated_flow : ℕ
negated_flow = 1

abbrev pub header_count : ℕ
header_count = 2

abbrev pub start-es : List Equation
start-es = equation START 0 0 0 ∷ equation NOT start_flow 0 0 ∷ []

-- After them the named signals.
abbrev pub header : (ℕ → Bool) → List Equation
header named = start-es ++ signals-es named 0 signal_count

-- The flow of signal j.
abbrev pub flow_in : (ℕ → Bool) → ℕ → ℕ
flow_in named j = number_at (places named 0 header_count signal_count) j

-- After these the tests: the place of the first of them, and the place after them, where the table's head ends.
abbrev pub test_place : Formula → ℕ
test_place f = place_after 0 (header (named_by f))

abbrev pub head_place : Formula → ℕ
head_place f = next_test (test_place f) f

-- ---- the observer

abbrev pub body : Formula → Block
body f = emit (flow_in (named_by f)) f start_flow negated_flow (test_place f) (head_place f)

abbrev pub observer : Formula → List Equation
observer f =
    header (named_by f)
    ++ (tests_of f ++ ((body f).es ++ whole-es start_flow (place_after (head_place f) (body f).es) (body f).out))

-- The numbers of equations, four each.
abbrev pub numbers_of : List Equation → List ℕ
numbers_of [] = []
numbers_of (e ∷ es) = e.kind ∷ e.a ∷ e.b ∷ e.c ∷ numbers_of es
