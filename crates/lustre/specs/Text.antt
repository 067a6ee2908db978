-- The Lustre text of a table, chapter 9 of the specification. Definitions only.
use Rattle.std.specs.Prelude.{Bool, true, false, List, [], ◌++◌, ℕ, zero, suc}
use Rattle.lists.specs.Text.{bytes}
use Rattle.traces.specs.Trace.{nonzero}
use Rattle.traces.specs.Compare.{op_of}
use Rattle.traces.specs.declared.Op.{Op}
use Rattle.traces.specs.declared.Op.TheVariants.{AtMost as le, Below as lt, Equal as eq, Above as gt, AtLeast as ge}
use Rattle.tables.specs.Table.{equation_at, kind_of, started_of, verdict_of}
use Rattle.lustre.specs.Numerals.{number_text}
use Rattle.std.specs.Prelude.{Option, Some, None}
use Rattle.tables.specs.declared.Kind.TheVariants.{Signal, Start, Constant, Not, And, Or, BooleanPre}
use Rattle.tables.specs.declared.Kind.TheVariants.{CountPre, Capped, If, CompareLiteral, CompareParameter, Velocity}
use Rattle.tables.specs.declared.Equation.{Equation}
use Rattle.tables.specs.declared.Kind.{Kind}

-- The name of the flow of equation x (SPEC 9.2).
abbrev pub flow : ℕ → List ℕ
flow x = bytes "f" ++ number_text x

-- SPEC 9.3: the constants of kinds 2 and 6.
abbrev pub truth_text : Bool → List ℕ
truth_text false = bytes "false"
truth_text true = bytes "true"

-- SPEC 9.4: a comparison, spelled by SPEC 1.3.
abbrev pub op_text : Op → List ℕ
op_text le = bytes "<="
op_text lt = bytes "<"
op_text eq = bytes "="
op_text gt = bytes ">"
op_text ge = bytes ">="

-- The texts of SPEC 5.3, by kind, which stand after `fN=` (SPEC 9.2). No number is that of an unknown kind in a
-- well-formed table.
unfoldable pub value_text : Option Kind → Equation → List ℕ
value_text (Some Signal) e = bytes "s" ++ number_text e.a
value_text (Some Start) e = bytes "b"
value_text (Some Constant) e = truth_text (nonzero e.a)
value_text (Some Not) e = bytes "not " ++ flow e.a
value_text (Some And) e = flow e.a ++ bytes " and " ++ flow e.b
value_text (Some Or) e = flow e.a ++ bytes " or " ++ flow e.b
value_text (Some BooleanPre) e = truth_text (nonzero e.c) ++ bytes "->pre(" ++ flow e.a ++ bytes ")"
value_text (Some CountPre) e = bytes "0->pre(" ++ flow e.a ++ bytes ")"
value_text (Some Capped) e = bytes "cap(" ++ flow e.a ++ bytes "," ++ flow e.b ++ bytes ")"
value_text (Some If) e = bytes "if " ++ flow e.a ++ bytes " then " ++ flow e.b ++ bytes " else 0"
value_text (Some CompareLiteral) e = flow e.a ++ op_text (op_of e.b) ++ number_text e.c
value_text (Some CompareParameter) e = flow e.a ++ op_text (op_of e.b) ++ bytes "k" ++ number_text e.c
value_text (Some Velocity) e = bytes "v" ++ op_text (op_of e.a) ++ number_text e.b
value_text None e = []

-- What follows `fN=` in the line of an equation, up to its end: `;` and, as in every line, byte 10 (SPEC 9.1).
unfoldable pub line_rest : Equation → List ℕ
line_rest e = value_text (kind_of e.kind) e ++ bytes ";\n"

-- SPEC 9.2: the line of equation i.
unfoldable pub line_text : ℕ → Equation → List ℕ
line_text i e = flow i ++ bytes "=" ++ line_rest e

-- The lines of the first n equations.
unfoldable pub lines : List ℕ → ℕ → List ℕ
lines t zero = []
lines t (suc i) = lines t i ++ line_text i (equation_at t i)

-- SPEC 9.1: the three last lines, `w=` with the name of the started flow, `a=` with that of the verdict, and `tel`.
unfoldable pub foot : ℕ → List ℕ
foot n = bytes "w=" ++ flow (started_of n) ++ bytes ";\na=" ++ flow (verdict_of n) ++ bytes ";\ntel\n"

-- SPEC 9.1: `let`, the equations' lines, and the three last ones.
unfoldable pub text_of : List ℕ → ℕ → List ℕ
text_of t n = bytes "let\n" ++ lines t n ++ foot n
