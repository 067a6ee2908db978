-- What the code's nodes are of the observer scheme (scheme, specs/Scheme.antt). Definitions only.
use Rattle.std.specs.Prelude.{List, [], ◌∷◌, ◌++◌, map, ℕ, zero, suc, Option, Some, None, option_map}
use Rattle.scheme.specs.Scheme.{Name as SchemeName, RowKind as SchemeRowKind, Row as SchemeRow, Node as SchemeNode}
use Rattle.scheme.specs.Scheme.{node_list, no_node}
use Rattle.scheme.specs.Scheme.Name.{Nought as nought, Negated as negated, Start as start, Last as last}
use Rattle.scheme.specs.Scheme.Name.{Previous as previous, Signal as signal, Tested as tested, A as a, C as c}
use Rattle.scheme.specs.Scheme.Name.{First as first, Second as second, Third as third, Fourth as fourth}
use Rattle.scheme.specs.Scheme.Name.{Fifth as fifth}
use Rattle.scheme.specs.Scheme.RowKind.{OfKind as of_kind, Comparison as comparison}
use Rattle.node_table.specs.declared.Name.{Name}
use Rattle.node_table.specs.declared.Name.TheVariants.{Nought, Negated, Start, Last, Previous, Signal, Tested, A, C}
use Rattle.node_table.specs.declared.Name.TheVariants.{First, Second, Third, Fourth, Fifth}
use Rattle.node_table.specs.declared.RowKind.{RowKind}
use Rattle.node_table.specs.declared.RowKind.TheVariants.{OfKind, Comparison}
use Rattle.node_table.specs.declared.Row.{Row}
use Rattle.node_table.specs.declared.Node.{Node}

abbrev pub scheme_name : Name → SchemeName
scheme_name Nought = nought
scheme_name Negated = negated
scheme_name Start = start
scheme_name Last = last
scheme_name Previous = previous
scheme_name Signal = signal
scheme_name Tested = tested
scheme_name A = a
scheme_name C = c
scheme_name First = first
scheme_name Second = second
scheme_name Third = third
scheme_name Fourth = fourth
scheme_name Fifth = fifth

abbrev pub scheme_kind : RowKind → SchemeRowKind
scheme_kind (OfKind k) = of_kind k
scheme_kind Comparison = comparison

-- The kind of a row's equation, where the record asks for that comparison.
abbrev pub kind_by : ℕ → RowKind → ℕ
kind_by asked (OfKind k) = k
kind_by asked Comparison = asked

abbrev pub scheme_row : Row → SchemeRow
scheme_row r =
    record { kind = scheme_kind r.kind; a = scheme_name r.a; b = scheme_name r.b; c = scheme_name r.c }

abbrev pub scheme_rows : List (Option Row) → List SchemeRow
scheme_rows [] = []
scheme_rows (None ∷ rs) = scheme_rows rs
scheme_rows (Some r ∷ rs) = scheme_row r ∷ scheme_rows rs

abbrev pub scheme_node : Node → SchemeNode
scheme_node d =
    record {
      rows = scheme_rows d.rows;
      takes = d.takes;
      tests = d.tests;
      result = scheme_name d.result;
      negated = scheme_name d.negated;
    }

-- What stands at each place for a row of a node: a row, or None.
abbrev pub row_places : Node → List (Option SchemeRow)
row_places d = map (option_map scheme_row) d.rows

-- The first n rows, each at its place, with None at each place past the last.
abbrev pub padded_rows : ℕ → List SchemeRow → List (Option SchemeRow)
padded_rows zero rs = []
padded_rows (suc n) [] = None ∷ padded_rows n []
padded_rows (suc n) (r ∷ rs) = Some r ∷ padded_rows n rs

-- Every node, and none past the last kind.
unfoldable pub node_table : List SchemeNode
node_table = node_list ++ (no_node ∷ [])
