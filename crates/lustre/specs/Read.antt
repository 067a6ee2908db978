-- Reading Lustre text (SPEC 8.7): which texts are read, what a call answers and the table that it leaves. Definitions
-- only.
use Rattle.std.specs.Prelude.{List, ◌++◌, ◌≡◌, ℕ, ◌*◌, ◌≤◌, ◌<◌, length, take, drop, Result, Ok, Err}
use Rattle.limits.specs.Limits.{table_room}
use Rattle.limits.specs.Refusal.{number}
use Rattle.limits.specs.Reply.{Reply, refused, gives}
use Rattle.limits.specs.declared.Refusal.{Refusal}
use Rattle.limits.specs.declared.Refusal.TheVariants.{NoTable, ShortTable}
use Rattle.tables.specs.Table.{checked}
use Rattle.lustre.specs.Text.{text_of}

-- What reading answers: the number of equations, or why it is refused.
abbrev pub Loaded : Type 0
Loaded = Result ℕ Refusal

-- The numbers that stand for the answer's cases (SPEC 12.5): the result of SPEC 8.7 is n.
abbrev pub load_reply : Loaded → Reply
load_reply (Ok n) = gives n
load_reply (Err r) = refused (number r)

-- The table t of n equations is well formed, where there are so many velocities, and writes exactly these bytes.
pub record Writes (velocities : ℕ) (t : List ℕ) (n : ℕ) (text : List ℕ) : Type 0 where
  pub well-formed : checked velocities t n ≡ Ok tt
  pub exactly : text_of t n ≡ text

-- What reading answers, and the table that it leaves, by the lent text and the table as it was lent.
pub data AfterRead (velocities : ℕ) (text table : List ℕ) : Loaded → List ℕ → Type 0 where
  -- SPEC 7.16: these bytes are the text of no table. A refusal keeps the table (SPEC 1.4).
  unread : ((t : List ℕ) (n : ℕ) → Writes velocities t n text → ⊥) → AfterRead velocities text table (Err NoTable) table
  -- SPEC 7.9: the lent table has no room for the largest result.
  no_room : {t : List ℕ} {n : ℕ} → Writes velocities t n text → length table < table_room
      → AfterRead velocities text table (Err ShortTable) table
  -- The first 4 n numbers are those of such a table. What stands behind them is kept (SPEC 1.5).
  read : {t : List ℕ} {n : ℕ} → Writes velocities t n text → table_room ≤ length table
      → AfterRead velocities text table (Ok n) (take (4 * n) t ++ drop (4 * n) table)
