-- The observer scheme: for each node the rows that it adds. A row is an equation whose numbers are names, since they
-- differ from node to node. The observer of a formula (specs/Emit.antt) and the compiler's code go by these nodes.
-- Definitions only.
use Rattle.std.specs.Prelude.{cond, List, [], ◌∷◌, ◌++◌, ℕ, zero, suc, eqb, get_or}
use Rattle.formulas.specs.Arena.{LITERAL, WHOLE}
use Rattle.tables.specs.Table.{equation}
use Rattle.tables.specs.Kind.{CONSTANT, NOT, AND, OR, BOOLEAN-PRE, COUNT-PRE, CAPPED, IF}
use Rattle.tables.specs.Kind.{COMPARE-LITERAL, COMPARE-PARAMETER}
use Rattle.tables.specs.declared.Equation.{Equation}

-- o ⊕ k is o + k, by recursion on k: it computes where k is a numeral.
infixl 65 ◌⊕◌
abbrev pub ◌⊕◌ : ℕ → ℕ → ℕ
o ⊕ zero = o
o ⊕ suc k = suc (o ⊕ k)

-- ---- rows

-- What a number of a row stands for: 0; the negated start flow, and the start flow; the flow of the last operand, and
-- of the one before it; the flow of the signal that the record names; the flow of the next test in the table's head;
-- the record's first and last number; the node's own flows.
pub data Name : Type 0 where
  Nought Negated Start Last Previous Signal Tested A C First Second Third Fourth Fifth : Name

-- The kind of a row's equation: always that one, or the comparison that the record asks for.
pub data RowKind : Type 0 where
  OfKind : ℕ → RowKind
  Comparison : RowKind

-- The kind and the three numbers of an equation.
pub record Row : Type 0 where
  pub kind : RowKind
  pub a : Name
  pub b : Name
  pub c : Name

abbrev pub row : RowKind → Name → Name → Name → Row
row k a b c = record { kind = k; a = a; b = b; c = c }

-- An equation of that kind with one operand, and with two.
abbrev pub one : ℕ → Name → Row
one k a = row (OfKind k) a Nought Nought

abbrev pub two : ℕ → Name → Name → Row
two k a b = row (OfKind k) a b Nought

-- The comparison of a count with the record's literal or parameter.
abbrev pub comparison_row : Name → Row
comparison_row a = row Comparison a A C

-- The rows of each node. s and n are the start flow and its negation, P the last operand, m a memory.
abbrev pub constant_rows : List Row
constant_rows = one CONSTANT A ∷ []

abbrev pub not_rows : List Row
not_rows = one NOT Last ∷ []

abbrev pub and_rows : List Row
and_rows = two AND Previous Last ∷ []

abbrev pub or_rows : List Row
or_rows = two OR Previous Last ∷ []

-- v = (s and P) or (n and m), m = false -> pre v
abbrev pub begin_rows : List Row
begin_rows = one BOOLEAN-PRE Fourth ∷ two AND Start Last ∷ two AND Negated First ∷ two OR Second Third ∷ []

-- s and P
abbrev pub point_rows : List Row
point_rows = two AND Start Last ∷ []

-- k = s or m, m = false -> pre (k and P)
abbrev pub kept_rows : List Row
kept_rows = one BOOLEAN-PRE Third ∷ two OR Start First ∷ two AND Second Last ∷ []

-- and n and m
abbrev pub held_rows : List Row
held_rows = kept_rows ++ (two AND Negated First ∷ [])

-- c = if n then cap(m, n) else 0, m = 0 -> pre c
abbrev pub len_rows : List Row
len_rows = one COUNT-PRE Third ∷ two CAPPED First Negated ∷ two IF Negated Second ∷ comparison_row Third ∷ []

-- c = if n then m else 0, m = 0 -> pre cap(c, P)
abbrev pub sum_rows : List Row
sum_rows = one COUNT-PRE Third ∷ two IF Negated First ∷ two CAPPED Second Last ∷ comparison_row Second ∷ []

-- c = if P then cap(r, P) else 0, r = if n then m else 0, m = 0 -> pre c: c is P's run up to now, r its run up to one
-- tick ago
abbrev pub run_rows : List Row
run_rows = one COUNT-PRE Fourth ∷ two IF Negated First ∷ two CAPPED Second Last ∷ two IF Last Third ∷ []

-- and c compared
abbrev pub age_rows : List Row
age_rows = run_rows ++ (comparison_row Fourth ∷ [])

-- P is Q of a `lag`, k its number, and r the run of its P up to one tick ago, the operand before:
-- (r < k or r <= 0) or P. In `r <= 0` both the comparison and the literal are 0.
abbrev pub fine_rows : List Row
fine_rows =
    comparison_row Previous ∷ row (OfKind COMPARE-LITERAL) Previous Nought Nought ∷ two OR First Second
    ∷ two OR Third Last ∷ []

-- the end of the lead P: n and pre(P) and not P; the last is its negation
abbrev pub lead_end_rows : List Row
lead_end_rows =
    one BOOLEAN-PRE Last ∷ one NOT Last ∷ two AND Negated First ∷ two AND Third Second ∷ one NOT Fourth ∷ []

-- running r = n and (s' or pre r); r and P. The start is the second part's, n waited on the stack.
abbrev pub then_rows : List Row
then_rows = one BOOLEAN-PRE Third ∷ two OR Start First ∷ two AND Previous Second ∷ two AND Third Last ∷ []

-- started = s or pre started; verdict = started and P
abbrev pub whole_rows : List Row
whole_rows = one BOOLEAN-PRE Second ∷ two OR Start First ∷ two AND Second Last ∷ []

-- The most rows that a node has.
abbrev pub widest : ℕ
widest = 5

-- ---- nodes

-- A node: its rows, how many operands it takes off the stack, how many tests of the table's head are its own, which
-- value it leaves on the stack, and which value is the negated start flow from here on.
pub record Node : Type 0 where
  pub rows : List Row
  pub takes : ℕ
  pub tests : ℕ
  pub result : Name
  pub negated : Name

abbrev pub node : List Row → ℕ → Name → Name → Node
node rows takes result negated =
    record { rows = rows; takes = takes; tests = 0; result = result; negated = negated }

abbrev pub constant_node : Node
constant_node = node constant_rows 0 First Negated

abbrev pub signal_node : Node
signal_node = node [] 0 Signal Negated

abbrev pub not_node : Node
not_node = node not_rows 1 First Negated

abbrev pub and_node : Node
and_node = node and_rows 2 First Negated

abbrev pub or_node : Node
or_node = node or_rows 2 First Negated

abbrev pub begin_node : Node
begin_node = node begin_rows 1 Fourth Negated

abbrev pub end_node : Node
end_node = node [] 1 Last Negated

abbrev pub point_node : Node
point_node = node point_rows 1 First Negated

abbrev pub held_node : Node
held_node = node held_rows 1 Fourth Negated

abbrev pub kept_node : Node
kept_node = node kept_rows 1 Second Negated

abbrev pub len_node : Node
len_node = node len_rows 0 Fourth Negated

abbrev pub sum_node : Node
sum_node = node sum_rows 1 Fourth Negated

abbrev pub age_node : Node
age_node = node age_rows 1 Fifth Negated

-- The three nodes of a `lag`. Its P's run up to one tick ago,
abbrev pub run_node : Node
run_node = node run_rows 1 Second Negated

-- that Q holds if it is due,
abbrev pub fine_node : Node
fine_node = node fine_rows 2 Fourth Negated

-- and that this was so at each tick, the present one too: the rows of `kept`, of which the third is the result.
abbrev pub always_node : Node
always_node = node kept_rows 1 Third Negated

-- The end of a lead is the start of the second part: the present start waits on the stack until `then` takes it back.
abbrev pub lead_end_node : Node
lead_end_node = node lead_end_rows 1 Negated Fifth

abbrev pub then_node : Node
then_node = node then_rows 2 Fourth Previous

-- The equation of a velocity test stands in the table's head.
abbrev pub velocity_node : Node
velocity_node = record { rows = []; takes = 0; tests = 1; result = Tested; negated = Negated }

abbrev pub whole_node : Node
whole_node = node whole_rows 1 Third Negated

-- In the order of the kinds of records (formulas, specs/Arena.antt), the whole rule's last.
abbrev pub node_list : List Node
node_list =
    constant_node ∷ signal_node ∷ not_node ∷ and_node ∷ or_node
    ∷ begin_node ∷ end_node ∷ point_node ∷ held_node ∷ kept_node
    ∷ len_node ∷ sum_node ∷ age_node ∷ run_node ∷ fine_node ∷ always_node ∷ lead_end_node ∷ then_node ∷ velocity_node
    ∷ whole_node ∷ []

abbrev pub node_count : ℕ
node_count = suc WHOLE

-- The node of that kind of record; none past the last.
abbrev pub no_node : Node
no_node = node [] 0 Nought Nought

unfoldable pub node_of : ℕ → Node
node_of k = get_or node_list k no_node

-- ---- values

-- What the names stand for at a node: the place of its first equation, flows, and numbers of its record.
pub record Values : Type 0 where
  pub place : ℕ
  pub negated : ℕ
  pub start : ℕ
  pub last : ℕ
  pub previous : ℕ
  pub signal : ℕ
  pub tested : ℕ
  pub a : ℕ
  pub comparison : ℕ
  pub c : ℕ

abbrev pub value_named : Values → Name → ℕ
value_named v Nought = 0
value_named v Negated = v.negated
value_named v Start = v.start
value_named v Last = v.last
value_named v Previous = v.previous
value_named v Signal = v.signal
value_named v Tested = v.tested
value_named v A = v.a
value_named v C = v.c
value_named v First = v.place
value_named v Second = v.place ⊕ 1
value_named v Third = v.place ⊕ 2
value_named v Fourth = v.place ⊕ 3
value_named v Fifth = v.place ⊕ 4

abbrev pub kind_for : Values → RowKind → ℕ
kind_for v (OfKind k) = k
kind_for v Comparison = v.comparison

-- The kind of equation that compares with a literal or with a parameter, as a record says it.
abbrev pub comparison_of : ℕ → ℕ
comparison_of b = cond (eqb b LITERAL) COMPARE-LITERAL COMPARE-PARAMETER

-- A row's equation, and those of rows.
abbrev pub resolved : Values → Row → Equation
resolved v r = equation (kind_for v r.kind) (value_named v r.a) (value_named v r.b) (value_named v r.c)

abbrev pub filled : Values → List Row → List Equation
filled v [] = []
filled v (r ∷ rs) = resolved v r ∷ filled v rs

-- Row i, and one that nothing asks for past the last.
abbrev pub no_row : Row
no_row = one 0 Nought

abbrev pub row_at : List Row → ℕ → Row
row_at rs i = get_or rs i no_row
