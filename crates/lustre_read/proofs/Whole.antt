-- The whole text: what reading it finds. Assumes nothing.
use mathlib.Core.Path.{◌≡◌, refl, ◌∙◌, sym, ap}
use mathlib.Core.Bool.{true}
use mathlib.Core.List.{List, [], ◌++◌, append-nil}
use Prim.Native.Nat.{ℕ, ◌≤◌, ◌<◌}
use native.Mathlib.Omega.{arith}
use lib.ListN.{length, drop, length-drop, drop_of_length-le}
use Rattle.lists.specs.Decimal.{is_digit}
use Rattle.lists.proofs.Choice.{false-true}
use Rattle.limits.specs.Limits.{equation_limit}
use Rattle.tables.specs.Table.{closing_count, started_of, verdict_of}
use Rattle.lustre.specs.Text.{lines, foot, text_of}
use Rattle.lustre.specs.Form.{own, last_two, slot, render, absent, Letter, Agree, Small}
use Rattle.lustre.specs.Form.Letter.{is_a, is_b, is_c}
use Rattle.lustre.specs.Scan.{scan}
use Rattle.lustre.specs.Scan.Scanned.{unlike, scanned}
use Rattle.lustre.proofs.Parts.{opening, closing, opening-text, foot-text}
use Rattle.lustre.proofs.Scans.{closed, once, small, scans}
use Rattle.lustre.proofs.Tables.{foot-stops, same_lines, after-let}
use Rattle.lustre_read.specs.Inner.{AllLinesAt, Proposed}
use Rattle.lustre_read.proofs.Lined.{own-small, scanned-text}
use Rattle.lustre.proofs.Differ.{unlike-scanned}
use Rattle.tables.specs.declared.Equation.{Equation}

-- The first line: where it is not found, no table's text stands.
pub no_opening : (text : List ℕ) (d : Equation) → d ≡ own 0 → unlike ≡ scan opening text d
    → (t : List ℕ) (m : ℕ) → Proposed text t m → ⊥
unfolding closed absent
no_opening text d e h t m s =
    let a : text ≡ render (own 0) opening ++ (lines t m ++ foot m) =
    sym s.says ∙ after-let t m ∙ rw (opening-text (own 0)) in
    let b = own-small 0 (omega arith) in
    let o = lines t m ++ foot m in
    let g : Agree (own 0) (own 0) opening = record { kinds = refl; others = λ x i h. refl } in
    let c : scan opening text (own 0) ≡ scanned (own 0) o = rw a (scans (own 0) b opening o (own 0) refl g) in
    let f : unlike ≡ scan opening text (own 0) = h ∙ ap (scan opening text) e in
    unlike-scanned (f ∙ c)

opening-found : (text : List ℕ) (p : ℕ) (d e : Equation) → scanned e (drop p text) ≡ scan opening text d
    → text ≡ opening ++ drop p text
unfolding once
opening-found text p d e h = scanned-text opening text (drop p text) d e refl h ∙ rw (opening-text e)

-- The numbers of the last lines.
last-small : (n : ℕ) → n ≤ equation_limit → Small (last_two n)
last-small n h = small 0 (started_of n) (verdict_of n) 0 (omega arith) (omega arith) (omega arith)

last-agrees : (n : ℕ) → Agree (last_two n) (own 0) closing
unfolding absent
last-agrees n = record { kinds = refl; others = others }
  where
    others : (x : ℕ) → Letter x → absent x closing ≡ true → slot (last_two n) x ≡ slot (own 0) x
    others x is_a e = absurd (false-true e)
    others x is_b e = absurd (false-true e)
    others x is_c e = refl

-- The last lines, after the first line and all the equations' lines were found.
module _ {text u : List ℕ} {e₀ : Equation} {p n q : ℕ} (d₀ : Equation)
    (head : scanned e₀ (drop p text) ≡ scan opening text d₀) (w : AllLinesAt text p u n q) where
  start : text ≡ opening ++ drop p text
  start = opening-found text p d₀ e₀ head

  -- A table that has the text has n equations, and its last lines stand there.
  reached : (t : List ℕ) (m : ℕ) → Proposed text t m → (n ≡ m) × (drop q text ≡ foot m)
  reached t m s =
      let v = s.table in
      let a : opening ++ drop p text ≡ opening ++ (lines t m ++ foot m) =
      sym start ∙ sym s.says ∙ after-let t m in
      let b : drop p text ≡ lines t m ++ foot m = cc in
      let r = same_lines u t n m (drop q text) (foot m) w.lines_at.few v.few w.lines_at.plain v.plain
      (λ h. w.stops (omega (arith, v.few))) (λ h. foot-stops m m) (sym w.lines_at.says ∙ b) in
      (r.0, r.1)

  last-scans : (t : List ℕ) (m : ℕ) → Proposed text t m
      → scan closing (drop q text) (own 0) ≡ scanned (last_two m) []
  unfolding closed is_digit
  last-scans t m s =
      let v = s.table in
      let a : drop q text ≡ render (last_two m) closing ++ [] =
      (reached t m s).1 ∙ sym (foot-text m) ∙ sym (append-nil (render (last_two m) closing)) in
      rw a (scans (last_two m) (last-small m v.few) closing [] (own 0) refl (last-agrees m))

  module _ (d : Equation) (is-own : d ≡ own 0) where
    -- They are not there,
    pub no_closing : unlike ≡ scan closing (drop q text) d → (t : List ℕ) (m : ℕ) → Proposed text t m → ⊥
    no_closing g t m s =
        let k = last-scans t m s in
        let f = g ∙ ap (scan closing (drop q text)) is-own in
        unlike-scanned (f ∙ k)

    module _ (e : Equation) (end : ℕ) (g : scanned e (drop end text) ≡ scan closing (drop q text) d) where
      -- bytes follow them,
      pub bytes_left : end < length text → (t : List ℕ) (m : ℕ) → Proposed text t m → ⊥
      bytes_left l t m s =
          let k = last-scans t m s in
          let f = g ∙ ap (scan closing (drop q text)) is-own in
          let y : drop end text ≡ [] = cc in
          omega (arith, length-drop end text, ap length y)

      -- they have other numbers,
      pub other_last : (closing_count ≤ n → e ≡ last_two n → ⊥) → (t : List ℕ) (m : ℕ) → Proposed text t m → ⊥
      other_last o t m s =
          let k = last-scans t m s in
          let f = g ∙ ap (scan closing (drop q text)) is-own in
          let y : e ≡ last_two m = cc in
          let same = (reached t m s).0 in
          o (rw same s.table.closed) (rw same y)

      -- or the text is that of the table.
      pub proposes : length text ≤ end → closing_count ≤ n → e ≡ last_two n → Proposed text u n
      unfolding text_of once absent render
      proposes l o same = record {
        table = record { closed = o; few = w.lines_at.few; plain = w.lines_at.plain };
        says =
            sym
            (start ∙ ap (λ (x : List ℕ). opening ++ x) (w.lines_at.says ∙ ap (λ (x : List ℕ). lines u n ++ x) tail));
      }
        where
          tail : drop q text ≡ foot n
          tail =
              scanned-text closing (drop q text) (drop end text) d e refl g
              ∙ ap (λ (x : List ℕ). render e closing ++ x) (drop_of_length-le text l)
              ∙ append-nil (render e closing)
              ∙ ap (λ (x : Equation). render x closing) same
              ∙ foot-text n
