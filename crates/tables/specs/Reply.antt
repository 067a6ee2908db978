-- The reply of a table's check. Definitions only.
use Rattle.limits.specs.Reply.{Reply, refused, gives}
use Rattle.limits.specs.Refusal.{number}
use Rattle.tables.specs.Table.{Checked}
use Rattle.std.specs.Prelude.{Ok, Err}

-- It gives no number.
abbrev pub checked_reply : Checked → Reply
checked_reply (Ok tt) = gives 0
checked_reply (Err r) = refused (number r)
