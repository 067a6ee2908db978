-- The compiler's pass over the records of a tree (`flat` of formulas, specs/Arena.antt) as a machine: a record's kind
-- picks a node of the observer scheme (scheme, specs/Scheme.antt), and the node's rows are written with their names
-- looked up. No public promise cites this module: it is what the code does, and proofs/ show that what it writes is the
-- `observer` (scheme, specs/Emit.antt). Definitions only.
use Rattle.std.specs.Prelude.{cond, List, [], ◌∷◌, ℕ, zero, suc, ◌*◌, eqb, set, drop, length}
use Rattle.std.specs.List.{fold, flat_map}
use Rattle.std.proofs.lemmas.List.Edits.{sets}
use Rattle.lists.specs.Number.{number_at}
use Rattle.traces.specs.Trace.{nonzero}
use Rattle.formulas.specs.Arena as arena
use Rattle.tables.specs.Kind.{SIGNAL, VELOCITY}
use Rattle.limits.specs.Limits.{record_limit, signal_count}
use Rattle.scheme.specs.Scheme.{◌⊕◌, Node, node_of, Values, value_named, comparison_of, filled}
use Rattle.tables.specs.Table.{equation}
use Rattle.scheme.specs.Emit.{negated_flow, header_count, start-es, numbers_of}
use Rattle.emitter.specs.declared.Record.{Record}
use Rattle.tables.specs.declared.Equation.{Equation}

-- Operands that wait on the stack: at most one for each record, and room for one more.
abbrev pub stack_size : ℕ
stack_size = suc record_limit

-- ---- equations in a table

-- The table with equations from place o on; a number past the table's end is dropped.
unfoldable pub with_equations : List ℕ → ℕ → List Equation → List ℕ
with_equations t o es = sets t (4 * o) (numbers_of es)

-- ---- one record

-- The table so far, the place of the next equation, that of the next test in the table's head, the negated start flow,
-- and the operands, the last one first.
pub record State : Type 0 where
  pub table : List ℕ
  pub next : ℕ
  pub tests : ℕ
  pub negated : ℕ
  pub stack : List ℕ

abbrev pub state : List ℕ → ℕ → ℕ → ℕ → List ℕ → State
state t o u n st = record { table = t; next = o; tests = u; negated = n; stack = st }

-- A start flow stands right before its negation.
abbrev pub before : ℕ → ℕ
before zero = zero
before (suc n) = n

abbrev pub record_of : ℕ → ℕ → ℕ → ℕ → Record
record_of k a b c = record { kind = k; a = a; b = b; c = c }

-- The record that four numbers are.
abbrev pub record_in : List ℕ → Record
record_in l = record_of (number_at l 0) (number_at l 1) (number_at l 2) (number_at l 3)

-- The records of an arena. Numbers past the last whole record are none.
unfoldable pub records : List ℕ → List Record
records [] = []
records (k ∷ []) = []
records (k ∷ a ∷ []) = []
records (k ∷ a ∷ b ∷ []) = []
records (k ∷ a ∷ b ∷ c ∷ l) = record_of k a b c ∷ records l

-- The whole rule's record.
abbrev pub whole : Record
whole = record_of arena.WHOLE 0 0 0

-- The scheme's values for a record; places has the flow of each signal.
unfoldable pub values_at : List ℕ → ℕ → ℕ → ℕ → List ℕ → Record → Values
values_at places o u n st r =
    record {
      place = o;
      negated = n;
      start = before n;
      last = number_at st 0;
      previous = number_at st 1;
      signal = number_at places r.a;
      tested = u;
      a = r.a;
      comparison = comparison_of r.b;
      c = r.c;
    }

-- The values of the names in the names' order, and the values that numbers in that order are.
abbrev pub value_list : Values → List ℕ
value_list v =
    0 ∷ v.negated ∷ v.start ∷ v.last ∷ v.previous ∷ v.signal ∷ v.tested ∷ v.a ∷ v.c ∷ v.place ∷ (v.place ⊕ 1)
    ∷ (v.place ⊕ 2) ∷ (v.place ⊕ 3) ∷ (v.place ⊕ 4) ∷ []

abbrev pub values_in : List ℕ → ℕ → Values
values_in l k =
    record {
      place = number_at l 9;
      negated = number_at l 1;
      start = number_at l 2;
      last = number_at l 3;
      previous = number_at l 4;
      signal = number_at l 5;
      tested = number_at l 6;
      a = number_at l 7;
      comparison = k;
      c = number_at l 8;
    }

-- What a node leaves, with its values.
unfoldable pub applied : Node → Values → State → State
applied d v s =
    state (with_equations s.table s.next (filled v d.rows)) (s.next ⊕ length d.rows) (s.tests ⊕ d.tests)
    (value_named v d.negated) (value_named v d.result ∷ drop d.takes s.stack)

unfoldable pub step : List ℕ → Record → State → State
step places r s = applied (node_of r.kind) (values_at places s.next s.tests s.negated s.stack r) s

-- ---- all records

-- One after the other.
unfoldable pub run : List ℕ → List ℕ → State → State
run places l s = fold (λ s r. step places r s) s (records l)

-- The operands as the code holds them: the first h numbers of an array.
unfoldable pub stacked : List ℕ → ℕ → List ℕ
stacked l zero = []
stacked l (suc h) = number_at l h ∷ stacked l h

-- The records of an arena and then the whole rule's node, where the tests stand from u on and the table's head ends
-- at o.
abbrev pub ran : List ℕ → List ℕ → List ℕ → ℕ → ℕ → State
ran l places t u o = step places whole (run places l (state t o u negated_flow []))

-- ---- the named signals

-- A signal's record marks the signal.
unfoldable pub marked : Record → List ℕ → List ℕ
marked r named = cond (eqb r.kind arena.SIGNAL) (set named r.a 1) named

unfoldable pub marks : List ℕ → List ℕ → List ℕ
marks l named = fold (λ n r. marked r n) named (records l)

-- The table so far, the marks that give way to the signals' places, the place of the next equation.
pub record Header : Type 0 where
  pub table : List ℕ
  pub places : List ℕ
  pub next : ℕ

abbrev pub header_of : List ℕ → List ℕ → ℕ → Header
header_of t l o = record { table = t; places = l; next = o }

-- Signal j: a marked one gets its equation, and in any case its mark gives way to its place.
unfoldable pub with_signal : ℕ → Header → Header
with_signal j h =
    header_of (cond (nonzero (number_at h.places j)) (with_equations h.table h.next (equation SIGNAL j 0 0 ∷ []))
    h.table)
    (set h.places j h.next) (cond (nonzero (number_at h.places j)) (suc h.next) h.next)

-- The m signals from j on.
unfoldable pub settle : ℕ → ℕ → Header → Header
settle zero j h = h
settle (suc m) j h = settle m (suc j) (with_signal j h)

-- The start flow, its negation, and the signals.
abbrev pub headed : List ℕ → List ℕ → Header
headed t named = settle signal_count 0 (header_of (with_equations t 0 start-es) named header_count)

-- ---- the velocity tests

-- A velocity test's record has an equation in the table's head, any other none.
abbrev pub test_of : Record → List Equation
test_of r = cond (eqb r.kind arena.VELOCITY) (equation VELOCITY r.a r.b 0 ∷ []) []

-- Those of all records, in their order.
unfoldable pub tests_in : List ℕ → List Equation
tests_in l = flat_map test_of (records l)
