-- Forms: the texts that can follow `fN=` in a line (SPEC 5.3), with the letters A, B and C where numbers stand.
-- Definitions only.
-- The one line writer and the one line parser both walk them; that they give the text of specs/Text.antt is proved.
use Rattle.std.specs.Prelude.{Bool, true, not, ◌&&◌, cond, List, [], ◌∷◌, ◌++◌, ◌≡◌, ℕ, suc, ◌+◌, ◌≤◌, ◌<◌, leb}
use Rattle.std.specs.Prelude.{eqb, get_or, take, Option, Some, None}
use Prim.Native.String.{String}
use Rattle.lists.specs.Text.{bytes, byte}
use Rattle.traces.specs.Compare.{op_number}
use Rattle.traces.specs.declared.Op.TheVariants.{AtMost as le, Below as lt, Equal as eq, Above as gt, AtLeast as ge}
use Rattle.limits.specs.Limits.{equation_limit, last_literal}
use Rattle.tables.specs.Kind.{SIGNAL, START, CONSTANT, NOT, AND, OR, BOOLEAN-PRE, COUNT-PRE, CAPPED, IF}
use Rattle.tables.specs.Kind.{COMPARE-LITERAL, COMPARE-PARAMETER, VELOCITY}
use Rattle.tables.specs.Table.{equation, equation_at, kind_of, closing_count, started_of, verdict_of}
use Rattle.tables.specs.declared.Equation.{Equation}
use Rattle.tables.specs.declared.Kind.{Kind}
use Rattle.tables.specs.declared.Kind.TheVariants.{Signal, Start, Constant, Not, And, Or, BooleanPre}
use Rattle.tables.specs.declared.Kind.TheVariants.{CountPre, Capped, If, CompareLiteral, CompareParameter, Velocity}
use Rattle.lustre.specs.Numerals.{number_text}
use Rattle.lustre.specs.Text.{line_text}
use Rattle.lustre.specs.declared.Form.{Form as CodeForm}

-- The number i where A stands, as in `fN=`.
abbrev pub own : ℕ → Equation
own i = equation 0 i 0 0

-- The numbers of the last two of n flows where A and B stand, as in `w=fN;` and in `a=fN;`.
abbrev pub last_two : ℕ → Equation
last_two n = equation 0 (started_of n) (verdict_of n) 0

-- The letters that stand for numbers.
abbrev pub letter_a : ℕ
letter_a = byte "A"

abbrev pub letter_b : ℕ
letter_b = byte "B"

abbrev pub letter_c : ℕ
letter_c = byte "C"

-- A, B or C.
abbrev pub letter? : ℕ → Bool
letter? x = leb letter_a x && leb x letter_c

pub data Letter : ℕ → Type 0 where
  is_a : Letter letter_a
  is_b : Letter letter_b
  is_c : Letter letter_c

-- The number that a letter stands for.
abbrev pub slot : Equation → ℕ → ℕ
slot e x = cond (eqb x letter_a) e.a (cond (eqb x letter_b) e.b e.c)

-- The equation with v where that letter stands.
abbrev pub put : Equation → ℕ → ℕ → Equation
put e x v =
    cond (eqb x letter_a) (equation e.kind v e.b e.c)
    (cond (eqb x letter_b) (equation e.kind e.a v e.c) (equation e.kind e.a e.b v))

-- The text of one byte of a form.
abbrev pub piece : Equation → ℕ → List ℕ
piece e x = cond (letter? x) (number_text (slot e x)) (x ∷ [])

-- The text of a form.
unfoldable pub render : Equation → List ℕ → List ℕ
render e [] = []
render e (x ∷ f) = piece e x ++ render e f

-- The letter stands nowhere in the form.
unfoldable pub absent : ℕ → List ℕ → Bool
absent x [] = true
absent x (y ∷ f) = not (eqb x y) && absent x f

-- The two equations have the same kind, and the same numbers but for the form's letters.
pub record Agree (e e₀ : Equation) (f : List ℕ) : Type 0 where
  pub kinds : e.kind ≡ e₀.kind
  pub others : (x : ℕ) → Letter x → absent x f ≡ true → slot e x ≡ slot e₀ x

-- No number is above the highest in the text of a well-formed table: a literal.
abbrev pub Small : Equation → Type 0
Small e = (x : ℕ) → slot e x ≤ last_literal

-- A form: its text, and the kind and the numbers that it settles.
pub record Form : Type 0 where
  pub settled : Equation
  pub text : List ℕ

-- The form of these numbers and this text.
abbrev pub form : Equation → String → Form
form e f = record { settled = e; text = bytes f }

-- A form of the code, in which a slice holds the text.
abbrev pub form_value : CodeForm → Form
form_value f = record { settled = f.settled; text = take f.len f.bytes }

-- No form has more bytes.
abbrev pub form_width : ℕ
form_width = 22

-- Every form; those of one kind stand together, by the number that tells them apart.
unfoldable pub forms : List Form
forms =
    form (equation SIGNAL 0 0 0) "sA;\n"
    ∷ form (equation START 0 0 0) "b;\n"
    ∷ form (equation CONSTANT 0 0 0) "false;\n"
    ∷ form (equation CONSTANT 1 0 0) "true;\n"
    ∷ form (equation NOT 0 0 0) "not fA;\n"
    ∷ form (equation AND 0 0 0) "fA and fB;\n"
    ∷ form (equation OR 0 0 0) "fA or fB;\n"
    ∷ form (equation BOOLEAN-PRE 0 0 0) "false->pre(fA);\n"
    ∷ form (equation BOOLEAN-PRE 0 0 1) "true->pre(fA);\n"
    ∷ form (equation COUNT-PRE 0 0 0) "0->pre(fA);\n"
    ∷ form (equation CAPPED 0 0 0) "cap(fA,fB);\n"
    ∷ form (equation IF 0 0 0) "if fA then fB else 0;\n"
    ∷ form (equation COMPARE-LITERAL 0 (op_number le) 0) "fA<=C;\n"
    ∷ form (equation COMPARE-LITERAL 0 (op_number lt) 0) "fA<C;\n"
    ∷ form (equation COMPARE-LITERAL 0 (op_number eq) 0) "fA=C;\n"
    ∷ form (equation COMPARE-LITERAL 0 (op_number gt) 0) "fA>C;\n"
    ∷ form (equation COMPARE-LITERAL 0 (op_number ge) 0) "fA>=C;\n"
    ∷ form (equation COMPARE-PARAMETER 0 (op_number le) 0) "fA<=kC;\n"
    ∷ form (equation COMPARE-PARAMETER 0 (op_number lt) 0) "fA<kC;\n"
    ∷ form (equation COMPARE-PARAMETER 0 (op_number eq) 0) "fA=kC;\n"
    ∷ form (equation COMPARE-PARAMETER 0 (op_number gt) 0) "fA>kC;\n"
    ∷ form (equation COMPARE-PARAMETER 0 (op_number ge) 0) "fA>=kC;\n"
    ∷ form (equation VELOCITY (op_number le) 0 0) "v<=B;\n"
    ∷ form (equation VELOCITY (op_number lt) 0 0) "v<B;\n"
    ∷ form (equation VELOCITY (op_number eq) 0 0) "v=B;\n"
    ∷ form (equation VELOCITY (op_number gt) 0 0) "v>B;\n"
    ∷ form (equation VELOCITY (op_number ge) 0 0) "v>=B;\n"
    ∷ []

abbrev pub form_count : ℕ
form_count = 27

abbrev pub no_form : Form
no_form = record { settled = equation 0 0 0 0; text = [] }

unfoldable pub form_at : ℕ → Form
form_at f = get_or forms f no_form

-- The equation fits the form: it has the numbers that the form settles, and no number above the highest literal.
pub record Fits (f : Form) (e : Equation) : Type 0 where
  pub agrees : Agree e f.settled f.text
  pub small : Small e

-- The first form of a kind.
abbrev pub first_of : ℕ → List Form → ℕ
first_of k [] = 0
first_of k (f ∷ fs) = cond (eqb f.settled.kind k) 0 (suc (first_of k fs))

abbrev pub first_form : ℕ → ℕ
first_form k = first_of k forms

-- The number of the form of an equation.
unfoldable pub form_number : Option Kind → Equation → ℕ
form_number (Some Signal) e = first_form SIGNAL
form_number (Some Start) e = first_form START
form_number (Some Constant) e = first_form CONSTANT + e.a
form_number (Some Not) e = first_form NOT
form_number (Some And) e = first_form AND
form_number (Some Or) e = first_form OR
form_number (Some BooleanPre) e = first_form BOOLEAN-PRE + e.c
form_number (Some CountPre) e = first_form COUNT-PRE
form_number (Some Capped) e = first_form CAPPED
form_number (Some If) e = first_form IF
form_number (Some CompareLiteral) e = first_form COMPARE-LITERAL + e.b
form_number (Some CompareParameter) e = first_form COMPARE-PARAMETER + e.b
form_number (Some Velocity) e = first_form VELOCITY + e.a
form_number None e = 0

abbrev pub form_of : Equation → ℕ
form_of e = form_number (kind_of e.kind) e

-- The equation has a form.
pub record Plain (e : Equation) : Type 0 where
  pub known : form_of e < form_count
  pub fits : Fits (form_at (form_of e)) e

-- A table of as many equations as SPEC 5.5 and SPEC 5.6 admit, all of which have forms.
pub record PlainTable (t : List ℕ) (n : ℕ) : Type 0 where
  pub closed : closing_count ≤ n
  pub few : n ≤ equation_limit
  pub plain : (j : ℕ) → j < n → Plain (equation_at t j)

-- No equation's line with the number i stands at the front.
abbrev pub NoLine : ℕ → List ℕ → Type 0
NoLine i l = (e : Equation) (r : List ℕ) → Plain e → l ≡ line_text i e ++ r → ⊥
