-- What is proved of writing and reading together, for every table of up to 4,096 equations, over the definitions that
-- the two operations' contracts cite. Assumes nothing.
use mathlib.Core.Path.{◌≡◌, refl, ◌∙◌, sym, ap}
use mathlib.Core.List.{List, [], ◌∷◌, ◌++◌}
use Prim.Native.Nat.{ℕ, ◌+◌, ◌*◌, ◌≤◌, ◌<◌}
use native.Mathlib.Omega.{arith}
use lib.Dec.{leb}
use lib.ListN.{length, take, drop, length-append, get_or-append}
use lib.Seq.{take_at, get_or-take, length-take-le}
use Rattle.limits.specs.Limits.{literal_count, table_room}
use borrow.Author.Tests.{le-leb}
use Rattle.lists.specs.Number.{number_at}
use Rattle.tables.specs.Table.{equation_at, Test, test, checked}
use Rattle.tables.specs.Table.{Checked}
use Rattle.tables.proofs.Checks.{checked-fitting, passed-both, refused-table}
use Rattle.lustre.specs.Text.{text_of}
use Rattle.lustre.specs.Write.{write_checked, after_write, after_text, effect_if, write_effect}
use Rattle.lustre.specs.Read.{AfterRead, unread, no_room, read}
use Rattle.lustre.specs.Read.{Loaded}
use Rattle.lustre.proofs.Tables.{well-plain, same-equations, same_numbers, same_text, same_check}
use Rattle.lustre.proofs.Differ.{refused-answered}
use Rattle.std.specs.Prelude.{Ok, Err}
use Rattle.limits.specs.declared.Refusal.TheVariants.{ShortText}

-- Two well-formed tables with the same text are the same table, if velocities are literals.
pub same-table : (velocities : ℕ) (t u : List ℕ) (n m : ℕ) → velocities ≤ literal_count → checked velocities t n
    ≡ Ok tt
    → checked velocities u m ≡ Ok tt → text_of t n ≡ text_of u m → (n ≡ m) × (take (4 * n) t ≡ take (4 * m) u)
same-table velocities t u n m v p q e =
    let r = same-equations (well-plain velocities t n v p) (well-plain velocities u m v q) e in
    let a = (checked-fitting velocities t n p).whole in
    let b = (checked-fitting velocities u m q).whole in
    (r.0, same_numbers t u n r.1 a (omega (arith, r.0)) ∙ ap (λ (k : ℕ). take (4 * k) u) r.0)

-- The promise of reading settles its answer and the lent table.
pub one_answer : (velocities : ℕ) (text table : List ℕ) (r r' : Loaded) (after after' : List ℕ)
    → velocities ≤ literal_count → AfterRead velocities text table r after → AfterRead velocities text table r' after'
    → (r ≡ r') × (after ≡ after')
one_answer velocities text table r r' a a' v (unread h) (unread h') = (refl, refl)
one_answer velocities text table r r' a a' v (unread h) (no_room {t} {n} w l) = absurd (h t n w)
one_answer velocities text table r r' a a' v (unread h) (read {t} {n} w l) = absurd (h t n w)
one_answer velocities text table r r' a a' v (no_room {t} {n} w l) (unread h) = absurd (h t n w)
one_answer velocities text table r r' a a' v (no_room w l) (no_room w' l') = (refl, refl)
one_answer velocities text table r r' a a' v (no_room w l) (read w' l') = absurd (omega arith)
one_answer velocities text table r r' a a' v (read {t} {n} w l) (unread h) = absurd (h t n w)
one_answer velocities text table r r' a a' v (read w l) (no_room w' l') = absurd (omega arith)
one_answer velocities text table r r' a a' v (read {t} {n} w l) (read {t = u} {n = m} w' l') =
    let s = same-table velocities t u n m v w.well-formed w'.well-formed (w.exactly ∙ sym w'.exactly) in
    (ap Ok s.0, rw (s.1, s.0))

-- A table whose text is read is left in the lent table.
text-read : (velocities : ℕ) (t : List ℕ) (n : ℕ) (table : List ℕ) (r : Loaded) (after : List ℕ)
    → velocities ≤ literal_count → checked velocities t n ≡ Ok tt → table_room ≤ length table
    → AfterRead velocities (text_of t n) table r after
    → (r ≡ Ok n) × (after ≡ take (4 * n) t ++ drop (4 * n) table)
text-read velocities t n table r after v e h w =
    one_answer velocities (text_of t n) table r (Ok n) after (take (4 * n) t ++ drop (4 * n) table) v w
    (read (record { well-formed = e; exactly = refl }) h)

-- A well-formed table whose text has room is written.
pub write-passed : (velocities : ℕ) (t b : List ℕ) (n : ℕ) → checked velocities t n ≡ Ok tt
    → length (text_of t n) ≤ length b → write_effect velocities t n b ≡ after_text (text_of t n) b
unfolding write_effect write_checked
write-passed velocities t b n e h =
    let p = passed-both velocities t n e in
    rw (p.0, p.1, le-leb (length (text_of t n)) (length b) h)

-- What was written is the text of a well-formed table.
pub text-written : (velocities : ℕ) (t : List ℕ) (n l : ℕ) (buffer : List ℕ)
    → (write_effect velocities t n buffer).answer ≡ Ok l
    → (checked velocities t n ≡ Ok tt) × (take l (write_effect velocities t n buffer).buffer ≡ text_of t n)
unfolding write_effect write_checked after_text
text-written velocities t n l buffer e = go (write_checked velocities t n buffer) refl e
  where
    room_test : Test
    room_test = test ShortText (leb (length (text_of t n)) (length buffer))

    well : (c : Checked) → checked velocities t n ≡ c → write_checked velocities t n buffer ≡ Ok tt
        → checked velocities t n ≡ Ok tt
    well (Ok tt) p q = p
    well (Err r) p q = p ∙ sym (refused-table velocities t n r (room_test ∷ []) p) ∙ q

    go : (c : Checked) → write_checked velocities t n buffer ≡ c → (effect_if c t n buffer).answer ≡ Ok l
        → (checked velocities t n ≡ Ok tt) × (take l (effect_if c t n buffer).buffer ≡ text_of t n)
    go (Ok tt) p q =
        let k : length (text_of t n) ≡ l = cc in
        (well (checked velocities t n) refl p, take_at (text_of t n) _ l k)
    go (Err r) p q = absurd (refused-answered q)

-- Read of written is the table: what a call wrote, read into a table with room, is n and the table that was written.
pub read-of-written : (velocities : ℕ) (t : List ℕ) (n l : ℕ) (buffer table : List ℕ) (r : Loaded) (after : List ℕ)
    → velocities ≤ literal_count → (write_effect velocities t n buffer).answer ≡ Ok l → table_room ≤ length table
    → AfterRead velocities (take l (write_effect velocities t n buffer).buffer) table r after
    → (r ≡ Ok n) × (after ≡ take (4 * n) t ++ drop (4 * n) table)
read-of-written velocities t n l buffer table r after v e h w =
    let p = text-written velocities t n l buffer e in
    text-read velocities t n table r after v p.0 h (rw p.1 at w)

-- The equations of a table and of its first 4 n numbers with others after them.
front_same : (u r : List ℕ) (n j : ℕ) → 4 * n ≤ length u → j < n → equation_at u j ≡ equation_at (take (4 * n) u ++ r) j
front_same u r n j h g = rw (
  number (4 * j) (omega arith),
  number (4 * j + 1) (omega arith),
  number (4 * j + 2) (omega arith),
  number (4 * j + 3) (omega arith),
)
  where
    number : (x : ℕ) → x < 4 * n → number_at u x ≡ number_at (take (4 * n) u ++ r) x
    number x k =
        let l : x < length (take (4 * n) u) = omega (arith, length-take-le (4 * n) u h) in
        sym (get_or-take (4 * n) u x 0 k) ∙ sym (get_or-append (take (4 * n) u) r 0 x l)

-- Written of read is the text, byte for byte: the table that a call read, written to a buffer with room, is the text.
pub written-of-read : (velocities : ℕ) (text table buffer : List ℕ) (n : ℕ) (after : List ℕ)
    → AfterRead velocities text table (Ok n) after → length text ≤ length buffer
    → write_effect velocities after n buffer ≡ after_write (Ok (length text)) (text ++ drop (length text) buffer)
unfolding after_text
written-of-read velocities text table buffer n after w h = go (Ok n) after w refl
  where
    go : (r : Loaded) (a : List ℕ) → AfterRead velocities text table r a → r ≡ Ok n
        → write_effect velocities a n buffer ≡ after_write (Ok (length text)) (text ++ drop (length text) buffer)
    go r a (unread k) e = absurd (refused-answered e)
    go r a (no_room v l) e = absurd (refused-answered e)
    go r a (read {t = u} {n = m} v l) e =
        let y : m ≡ n = cc in
        let f = (checked-fitting velocities u m v.well-formed).whole in
        let b = take (4 * m) u ++ drop (4 * m) table in
        let s : (j : ℕ) → j < m → equation_at u j ≡ equation_at b j = λ j g. front_same u (drop (4 * m) table) m j f g
        in
        let c = same_check velocities u b m s (omega (
          arith,
          length-append (take (4 * m) u) (drop (4 * m) table),
          length-take-le (4 * m) u f,
        )) v.well-formed in
        let x : text_of b m ≡ text = sym (same_text u b m s) ∙ v.exactly in
        rw (← y) (write-passed velocities b buffer m c (rw x h) ∙ rw x)
