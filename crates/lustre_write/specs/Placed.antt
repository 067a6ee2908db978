-- How texts are placed in a buffer. Definitions only; no public contract names them.
use Rattle.std.specs.Prelude.{List, ◌≡◌, ℕ, ◌+◌, ◌*◌, ◌≤◌, length}
use Rattle.std.proofs.lemmas.List.Edits.{sets}
use Rattle.lustre.specs.Form.{form_width}

-- The bytes that a byte of a form, a form and a line can take: a number of 32 bits has at most ten digits.
abbrev pub piece_room : ℕ
piece_room = 10

abbrev pub form_room : ℕ
form_room = piece_room * form_width

abbrev pub line_room : ℕ
line_room = form_room + form_room

-- The contract of every writer: the text stands at the front of the buffer, as far as it has room; r is the length of
-- the whole text, and within the limit.
pub record Placed (limit : ℕ) (text before after : List ℕ) (r : ℕ) : Type 0 where
  pub result : r ≡ length text
  pub buffer : after ≡ sets before 0 text
  pub short : r ≤ limit
