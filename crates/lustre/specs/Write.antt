-- Writing a table as Lustre text (SPEC 8.6): the whole effect of a call as one record. Definitions only.
use Rattle.std.specs.Prelude.{List, [], ◌∷◌, ◌++◌, ℕ, leb, length, drop, Result, Ok, Err}
use Rattle.limits.specs.Refusal.{number}
use Rattle.limits.specs.Reply.{Reply, refused, gives}
use Rattle.limits.specs.declared.Refusal.{Refusal}
use Rattle.limits.specs.declared.Refusal.TheVariants.{ShortText}
use Rattle.tables.specs.Table.{Checked, Test, test, first_failed, table_tests}
use Rattle.lustre.specs.Text.{text_of}

-- What writing answers: the length of the text in bytes, or why it is refused.
abbrev pub Written : Type 0
Written = Result ℕ Refusal

-- The numbers that stand for the answer's cases (SPEC 12.5): the result of SPEC 8.6 is the length.
abbrev pub write_reply : Written → Reply
write_reply (Ok l) = gives l
write_reply (Err r) = refused (number r)

-- The refusals of SPEC 8.6 in order, where there are so many velocities: those of the table, then 15, where the buffer
-- is too short (SPEC 7.15).
abbrev pub write_tests : ℕ → List ℕ → ℕ → List ℕ → List Test
write_tests velocities t n buffer =
    table_tests velocities t n ++ (test ShortText (leb (length (text_of t n)) (length buffer)) ∷ [])

-- The first refusal that applies, or none.
unfoldable pub write_checked : ℕ → List ℕ → ℕ → List ℕ → Checked
write_checked velocities t n buffer = first_failed (write_tests velocities t n buffer)

-- What writing answers, and the buffer that it leaves.
pub record AfterWrite : Type 0 where
  pub answer : Written
  pub buffer : List ℕ

abbrev pub after_write : Written → List ℕ → AfterWrite
after_write r buffer = record { answer = r; buffer = buffer }

-- The text at the front of the buffer. What stands behind it is kept (SPEC 1.5).
unfoldable pub after_text : List ℕ → List ℕ → AfterWrite
after_text text buffer = after_write (Ok (length text)) (text ++ drop (length text) buffer)

-- SPEC 1.4: a refusal keeps the buffer.
abbrev pub effect_if : Checked → List ℕ → ℕ → List ℕ → AfterWrite
effect_if (Ok tt) t n buffer = after_text (text_of t n) buffer
effect_if (Err r) t n buffer = after_write (Err r) buffer

-- The whole effect of writing.
unfoldable pub write_effect : ℕ → List ℕ → ℕ → List ℕ → AfterWrite
write_effect velocities t n buffer = effect_if (write_checked velocities t n buffer) t n buffer
