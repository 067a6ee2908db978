-- The parts of a table's text as forms: its first line, the beginning of an equation's line, and its last lines.
-- Assumes nothing.
use mathlib.Core.Path.{◌≡◌, refl}
use mathlib.Core.List.{List, ◌++◌}
use mathlib.Core.List.{append_assoc as assoc}
use Prim.Native.Nat.{ℕ}
use Rattle.lists.specs.Text.{bytes}
use Rattle.lustre.specs.Text.{line_rest, line_text, foot}
use Rattle.lustre.specs.Form.{own, last_two, render}
use Rattle.tables.specs.declared.Equation.{Equation}

-- The first line and the last three, as forms.
abbrev pub opening : List ℕ
opening = bytes "let\n"

abbrev pub closing : List ℕ
closing = bytes "w=fA;\na=fB;\ntel\n"

pub opening-text : (e : Equation) → render e opening ≡ opening
unfolding render
opening-text e = refl

pub foot-text : (n : ℕ) → render (last_two n) closing ≡ foot n
unfolding render foot
foot-text n = rw (assoc, assoc)

pub line-text : (i : ℕ) (e : Equation) → render (own i) (bytes "fA=") ++ line_rest e ≡ line_text i e
unfolding render line_text
line-text i e = refl
