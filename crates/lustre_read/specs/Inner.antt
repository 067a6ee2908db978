-- What the readers' answers say of the text. Definitions only; no public contract names them.
use Rattle.std.specs.Prelude.{cond, List, [], ◌∷◌, ◌++◌, ◌≡◌, ℕ, ◌*◌, ◌≤◌, ◌<◌, drop, Option, Some, None}
use Rattle.std.proofs.lemmas.List.Edits.{sets}
use Rattle.limits.specs.Limits.{equation_limit, last_literal}
use Rattle.lists.specs.Decimal.{numeral}
use Rattle.tables.specs.Table.{equation_at}
use Rattle.tables.specs.declared.Equation.{Equation}
use Rattle.lustre.specs.Text.{line_rest, line_text, lines, text_of}
use Rattle.lustre.specs.Read.{Writes}
use Rattle.lustre.specs.Form.{letter?, put, Plain, PlainTable, NoLine}
use Rattle.lustre.specs.Scan.{Scanned, after_number, after_byte}
use Rattle.lustre.specs.Scan.Scanned.{unlike, scanned}
use Rattle.lustre_read.specs.declared.Found.{Found}

-- One byte of a form.
unfoldable pub scan_piece : ℕ → List ℕ → Equation → Scanned
scan_piece x l e =
    cond (letter? x) (after_number (numeral last_literal l) (λ v r. scanned (put e x v) r))
    (after_byte x l (λ r. scanned e r))

-- What the form scanner's answer says of the text.
abbrev pub scan_seen : List ℕ → Option Found → Scanned
scan_seen text None = unlike
scan_seen text (Some f) = scanned f.numbers (drop f.next text)

-- No equation's text after `fN=` stands at the front.
abbrev pub NoEnd : List ℕ → Type 0
NoEnd l = (e : Equation) (r : List ℕ) → Plain e → l ≡ line_rest e ++ r → ⊥

-- The equation's text after `fN=` stands at p, and q is its end.
pub record EndAt (text : List ℕ) (p : ℕ) (e : Equation) (q : ℕ) : Type 0 where
  pub plain : Plain e
  pub says : drop p text ≡ line_rest e ++ drop q text

abbrev pub end_seen : List ℕ → ℕ → Option Found → Type 0
end_seen text p None = NoEnd (drop p text)
end_seen text p (Some f) = EndAt text p f.numbers f.next

-- The equation's line stands at p with the number i, and q is its end.
pub record LineAt (text : List ℕ) (p i : ℕ) (e : Equation) (q : ℕ) : Type 0 where
  pub plain : Plain e
  pub says : drop p text ≡ line_text i e ++ drop q text

abbrev pub line_seen : List ℕ → ℕ → ℕ → Option Found → Type 0
line_seen text p i None = NoLine i (drop p text)
line_seen text p i (Some f) = LineAt text p i f.numbers f.next

-- The table as four numbers of an equation are stored in it.
abbrev pub stored : List ℕ → ℕ → Equation → List ℕ
stored t i e = sets t (4 * i) (e.kind ∷ e.a ∷ e.b ∷ e.c ∷ [])

-- The lines of the first n equations of u stand at p, and q is their end.
pub record LinesAt (text : List ℕ) (p : ℕ) (u : List ℕ) (n q : ℕ) : Type 0 where
  pub few : n ≤ equation_limit
  pub says : drop p text ≡ lines u n ++ drop q text
  pub plain : (j : ℕ) → j < n → Plain (equation_at u j)

-- The same, and no further line follows.
pub record AllLinesAt (text : List ℕ) (p : ℕ) (u : List ℕ) (n q : ℕ) : Type 0 where
  pub lines_at : LinesAt text p u n q
  pub stops : n < equation_limit → NoLine n (drop q text)

-- The text is that of a table of equations that have forms; whether it is well formed is not said.
pub record Proposed (text u : List ℕ) (n : ℕ) : Type 0 where
  pub table : PlainTable u n
  pub says : text_of u n ≡ text

abbrev pub proposal_seen : List ℕ → List ℕ → Option ℕ → Type 0
proposal_seen text u None = (t : List ℕ) (n : ℕ) → Proposed text t n → ⊥
proposal_seen text u (Some n) = Proposed text u n

-- The same of a table that is well formed, where there are so many velocities.
abbrev pub table_seen : ℕ → List ℕ → List ℕ → Option ℕ → Type 0
table_seen velocities text u None = (t : List ℕ) (n : ℕ) → Writes velocities t n text → ⊥
table_seen velocities text u (Some n) = Writes velocities u n text
