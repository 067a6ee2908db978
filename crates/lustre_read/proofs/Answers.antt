-- What reading answers. Assumes nothing.
use mathlib.Core.Path.{◌≡◌, ◌∙◌, sym}
use mathlib.Core.List.{List}
use Prim.Native.Nat.{ℕ, ◌*◌, ◌≤◌}
use native.Mathlib.Omega.{arith}
use lib.ListN.{length, take}
use lib.Seq.{sets}
use Rattle.lists.proofs.Buffers.{sets-front}
use Rattle.limits.specs.Limits.{equation_limit, literal_count, table_room}
use Rattle.tables.specs.Table.{checked, passed}
use Rattle.tables.proofs.Checks.{checked-fitting}
use Rattle.lustre.specs.Read.{Writes, AfterRead}
use Rattle.lustre.specs.Read.AfterRead.{read}
use Rattle.lustre_read.specs.Inner.{Proposed, table_seen}
use Rattle.lustre.proofs.Tables.{well-plain, same-equations, same_check}
use Rattle.std.specs.Prelude.{Option, Some, None, Ok}

-- A well-formed table that writes the text is one that the text can propose, if velocities are literals.
pub can_propose : {velocities : ℕ} {text t : List ℕ} {n : ℕ} → velocities ≤ literal_count → Writes velocities t n text
    → Proposed text t n
can_propose {velocities} {text} {t} {n} v s =
    record { table = well-plain velocities t n v s.well-formed; says = s.exactly }

-- The text proposes a table that breaks the rules: then no well-formed table writes it.
pub ill_formed : {velocities : ℕ} {text u : List ℕ} {n : ℕ} → velocities ≤ literal_count → Proposed text u n
    → table_room ≤ length u → (checked velocities u n ≡ passed → ⊥) → (t : List ℕ) (m : ℕ) → Writes velocities t m text
    → ⊥
ill_formed {velocities} {text} {u} {n} v w l e t m s =
    let c = same-equations (can_propose v s).table w.table (s.exactly ∙ sym w.says) in
    let f : checked velocities t n ≡ passed = rw (← c.0) s.well-formed in
    e (same_check velocities t u n (rw c.0 at c.1) (omega (arith, w.table.few)) f)

-- What reading a table answers, by its cases.
pub none_read : {velocities : ℕ} {text : List ℕ} (u : List ℕ) {r : Option ℕ} → table_seen velocities text u r
    → r ≡ None → (t : List ℕ) (n : ℕ) → Writes velocities t n text → ⊥
none_read u w h = rw h at w

pub some_read : {velocities : ℕ} {text u : List ℕ} {r : Option ℕ} {n : ℕ} → table_seen velocities text u r → r ≡ Some n
    → Writes velocities u n text
some_read w h = rw h at w

pub few_equations : {velocities : ℕ} {t text : List ℕ} {n : ℕ} → Writes velocities t n text → n ≤ equation_limit
few_equations {velocities} {t} {text} {n} w = (checked-fitting velocities t n w.well-formed).few

-- The equations are copied.
pub copied : {velocities : ℕ} {text u : List ℕ} {n : ℕ} (b a : List ℕ) → Writes velocities u n text
    → table_room ≤ length b → a ≡ sets b 0 (take (4 * n) u) → AfterRead velocities text b (Ok n) a
copied {velocities} {text} {u} {n} b a w l h =
    let fit = checked-fitting velocities u n w.well-formed in
    rw (h, sets-front b u (4 * n) fit.whole (omega (arith, fit.few))) (read w l)
