-- Equations one after the other in a table: where they end, and what they leave of it. Assumes nothing.
use mathlib.Core.List.{List, [], ◌∷◌, ◌++◌, append-nil}
use Rattle.std.specs.Prelude.{Option, Some, None}
use mathlib.Core.Path.{◌≡◌, refl, sym, ap, ◌∙◌}
use Prim.Native.Nat.{ℕ, zero, suc, ◌+◌, ◌-◌, ◌*◌, ◌≤◌, ◌<◌, min}
use native.Mathlib.Numerals.{add-one}
use native.Mathlib.Decide.{dec_le}
use native.Mathlib.Omega.{arith}
use lib.ListN.{length, length-drop, get_or, set, take, drop}
use lib.Seq.{sets}
use borrow.Rule.Slice.PartMut.{put_mid, mid_of}
use Rattle.std.proofs.lemmas.List.{take_rest, drop_all, set_past, take_all, take_more}
use Rattle.lists.proofs.Buffers.{sets-append}
use Rattle.tables.specs.Table.{equation}
use Rattle.scheme.specs.Scheme.{◌⊕◌, Row as SchemeRow, Values, resolved, filled}
use Rattle.scheme.proofs.Offsets.{⊕-add}
use Rattle.scheme.specs.Emit.{place_after, numbers_of}
use Rattle.scheme.proofs.Places.{after-length, after-append, length-numbers}
use Rattle.node_table.specs.Table.{scheme_row, scheme_rows}
use Rattle.node_table.specs.declared.Row.{Row}
use Rattle.emitter.specs.Machine.{with_equations}
use Rattle.emitter.specs.Contract.{Put}
use Rattle.tables.specs.declared.Equation.{Equation}

-- ---- the numbers of equations

numbers-append : (xs ys : List Equation) → numbers_of (xs ++ ys) ≡ numbers_of xs ++ numbers_of ys
numbers-append [] ys = refl
numbers-append (e ∷ xs) ys = ap (λ (l : List ℕ). e.kind ∷ e.a ∷ e.b ∷ e.c ∷ l) (numbers-append xs ys)

-- ---- a table with equations

pub equations-none : (t : List ℕ) (o : ℕ) → with_equations t o [] ≡ t
unfolding with_equations
equations-none t o = refl

-- Equations after others are all of them at once.
pub equations-append : (xs ys : List Equation) (t : List ℕ) (o : ℕ) →
    with_equations t o (xs ++ ys) ≡ with_equations (with_equations t o xs) (place_after o xs) ys
unfolding with_equations
equations-append xs ys t o =
    let end : 4 * o + length (numbers_of xs) ≡ 4 * place_after o xs = omega
    (arith, length-numbers xs, after-length xs o) in
    ap (sets t (4 * o)) (numbers-append xs ys)
    ∙ sym (sets-append t (4 * o) (numbers_of xs) (numbers_of ys))
    ∙ ap (λ (n : ℕ). sets (sets t (4 * o) (numbers_of xs)) n (numbers_of ys)) end

-- Numbers stored from a place on are stored in what is left of the list there.
sets-cons : (vs t : List ℕ) (x i : ℕ) → sets (x ∷ t) (suc i) vs ≡ x ∷ sets t i vs
sets-cons [] t x i = refl
sets-cons (v ∷ vs) t x i = sets-cons vs (set t i v) x (suc i)

sets-drop : (t vs : List ℕ) (i : ℕ) → i ≤ length t → sets t i vs ≡ take i t ++ sets (drop i t) 0 vs
sets-drop t vs zero h = refl
sets-drop [] vs (suc i) h = absurd (omega arith)
sets-drop (x ∷ t) vs (suc i) h = sets-cons vs t x i ∙ ap (λ (l : List ℕ). x ∷ l) (sets-drop t vs i (omega arith))

sets_past : (t vs : List ℕ) (i : ℕ) → length t ≤ i → sets t i vs ≡ t
sets_past t [] i h = refl
sets_past t (v ∷ vs) i h = rw (set_past t i v h) (sets_past t vs (suc i) (omega arith))

-- One equation in what is left of the table at its place, or at the table's end where that comes before.
pub equation-put : (t p : List ℕ) (i n o kind a b c : ℕ) → i ≡ min (length t) (4 * o) → n ≡ length t - i
    → p ≡ set (set (set (set (mid_of i n t) 0 kind) 1 a) 2 b) 3 c
    → put_mid i n t p ≡ with_equations t o (equation kind a b c ∷ [])
unfolding with_equations
equation-put t p i n o kind a b c e-i e-n e-p =
    let numbers : List ℕ = kind ∷ a ∷ b ∷ c ∷ [] in
    let none : drop (length t - i) (drop i t) ≡ [] =
    drop_all (length t - i) (drop i t) (omega (arith, length-drop i t)) in
    let within : i ≤ length t = omega arith in
    rw (e-p, e-n, take_rest t i, none, append-nil (sets (drop i t) 0 numbers), ← sets-drop t numbers i within)
    (elim (dec_le (4 * o) (length t)) [
      | yes h ↦ (let at : i ≡ 4 * o = omega arith in rw at)
      | no h ↦
          let end : i ≡ length t = omega arith in
          rw (sets_past t numbers i (omega arith), sets_past t numbers (4 * o) (omega arith))
    ])

-- No equations are put; equations are put after equations.
pub put-none : (t : List ℕ) (o : ℕ) → Put [] t o t o
put-none t o = record { table = sym (equations-none t o); next = refl }

pub put-after : {es fs : List Equation} {t₀ t : List ℕ} {o₀ o : ℕ} {t' : List ℕ} {o' : ℕ} → Put es t₀ o₀ t o
    → Put fs t o t' o' → Put (es ++ fs) t₀ o₀ t' o'
put-after {es} {fs} {t₀} {o₀ = o₀} g h =
    record {
      table = rw (h.table, g.table, g.next, equations-append es fs t₀ o₀);
      next = rw (h.next, g.next, after-append es fs o₀);
    }

-- ---- the rows of a node

filled-length : (v : Values) (rs : List SchemeRow) → length (filled v rs) ≡ length rs
filled-length v [] = refl
filled-length v (r ∷ rs) = ap suc (filled-length v rs)

-- The places after a node's rows are as many as the rows.
pub after-filled : (v : Values) (rs : List SchemeRow) (o : ℕ) → place_after o (filled v rs) ≡ o ⊕ length rs
after-filled v rs o = after-length (filled v rs) o ∙ ap (λ (n : ℕ). o + n) (filled-length v rs) ∙ sym (⊕-add o (length rs))

-- The first i slots, and the next one with them.
scheme_rows-append : (rs : List (Option Row)) (r : Option Row)
    → scheme_rows (rs ++ (r ∷ [])) ≡ scheme_rows rs ++ scheme_rows (r ∷ [])
scheme_rows-append [] r = refl
scheme_rows-append (None ∷ rs) r = scheme_rows-append rs r
scheme_rows-append (Some x ∷ rs) r = ap (λ (l : List SchemeRow). scheme_row x ∷ l) (scheme_rows-append rs r)

filled-append : (v : Values) (rs qs : List SchemeRow) → filled v (rs ++ qs) ≡ filled v rs ++ filled v qs
filled-append v [] qs = refl
filled-append v (r ∷ rs) qs = ap (λ (l : List Equation). resolved v r ∷ l) (filled-append v rs qs)

pub slot_more : (v : Values) (rs : List (Option Row)) (i : ℕ) (r : Option Row) → i < length rs → get_or rs i None ≡ r
    → filled v (scheme_rows (take (i + 1) rs)) ≡ filled v (scheme_rows (take i rs)) ++ filled v (scheme_rows (r ∷ []))
slot_more v rs i r h e =
    rw (take_more rs i None h, e, scheme_rows-append (take i rs) r)
    (filled-append v (scheme_rows (take i rs)) (scheme_rows (r ∷ [])))

-- The first i slots' rows are put.
pub record Filling (v : Values) (rs : List (Option Row)) (t₀ : List ℕ) (o₀ : ℕ) (t : List ℕ) (o i : ℕ) : Type 0 where
  pub put : Put (filled v (scheme_rows (take i rs))) t₀ o₀ t o
  pub near : o ≤ o₀ + i

pub filling-none : (v : Values) (rs : List (Option Row)) (t : List ℕ) (o : ℕ) → Filling v rs t o t o 0
filling-none v rs t o = record { put = put-none t o; near = omega arith }

-- One slot more, with no row and with one.
pub filling-empty : {v : Values} {rs : List (Option Row)} {t₀ : List ℕ} {o₀ : ℕ} {t : List ℕ} {o i : ℕ}
    → Filling v rs t₀ o₀ t o i → i < length rs → get_or rs i None ≡ None → Filling v rs t₀ o₀ t o (i + 1)
filling-empty {v} {rs} {i = i} g h e =
    let same = slot_more v rs i None h e ∙ append-nil (filled v (scheme_rows (take i rs))) in
    record { put = rw same g.put; near = omega (arith, g.near) }

pub filling-row : {v : Values} {rs : List (Option Row)} {t₀ : List ℕ} {o₀ : ℕ} {t : List ℕ} {o i : ℕ} {t' : List ℕ}
    (r : Row) → Filling v rs t₀ o₀ t o i → i < length rs → get_or rs i None ≡ Some r
    → t' ≡ with_equations t o (resolved v (scheme_row r) ∷ []) → Filling v rs t₀ o₀ t' (o + 1) (i + 1)
filling-row {v} {rs} {o = o} {i} r g h e e-t =
    let one : Put (resolved v (scheme_row r) ∷ []) _ o _ (o + 1) = record { table = e-t; next = add-one o } in
    let more = slot_more v rs i (Some r) h e in
    record { put = rw more (put-after g.put one); near = omega (arith, g.near) }

pub filling-all : {v : Values} {rs : List (Option Row)} {t₀ : List ℕ} {o₀ : ℕ} {t : List ℕ} {o i : ℕ}
    → Filling v rs t₀ o₀ t o i → length rs ≤ i → Put (filled v (scheme_rows rs)) t₀ o₀ t o
filling-all {rs = rs} {i = i} g h = rw (take_all i rs h) at g.put
