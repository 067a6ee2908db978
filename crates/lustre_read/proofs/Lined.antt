-- Reading a line, and line after line into a table. Assumes nothing.
use mathlib.Core.Path.{◌≡◌, refl, ◌∙◌, sym, ap, subst}
use mathlib.Core.Bool.{true, false}
use mathlib.Core.List.{List, [], ◌∷◌, ◌++◌, append_assoc}
use mathlib.Core.Logic.{⊎_elim}
use Prim.Native.Nat.{ℕ, suc, ◌+◌, ◌*◌, ◌≤◌, ◌<◌}
use native.Mathlib.Omega.{arith}
use native.Mathlib.Nat.{eq-or-lt_of_le, le_of_suc-le-suc}
use native.Mathlib.Numerals.{add-one}
use lib.ListN.{length, get_or, drop, set, length-set}
use lib.Seq.{sets, length-sets, get_or-set_same, get_or-set_other}
use Rattle.lists.specs.Text.{bytes}
use Rattle.lists.specs.Decimal.{is_digit}
use Rattle.lists.specs.Number.{number_at}
use Rattle.lists.proofs.Choice.{false-true}
use Rattle.tables.specs.Table.{equation_at}
use Rattle.limits.specs.Limits.{equation_limit, last_literal, table_room}
use Rattle.std.specs.Prelude.{Option, Some, None}
use Rattle.lustre.specs.Text.{line_rest, line_text, lines}
use Rattle.lustre.specs.Form.{own, letter_a, Letter, slot, render, absent}
use Rattle.lustre.specs.Form.Letter.{is_a, is_b, is_c}
use Rattle.lustre.specs.Form.{Agree, Small, Form, form_count, form_at, form_of, Fits, Plain, NoLine}
use Rattle.lustre.specs.Scan.{Scanned, scan}
use Rattle.lustre.specs.Scan.Scanned.{unlike, scanned}
use Rattle.lustre_read.specs.Inner.{NoEnd, EndAt, end_seen, LineAt, line_seen}
use Rattle.lustre_read.specs.Inner.{stored, LinesAt}
use Rattle.lustre_read.specs.declared.Found.{Found}
use Rattle.lustre.proofs.Scans.{closed, once, small, scans, Seen, sees}
use Rattle.lustre.proofs.Scans.Seen.{unseen, seen}
use Rattle.lustre.proofs.Forms.{form-fine, form-plain, end-form, end-as}
use Rattle.lustre.proofs.Parts.{line-text}
use Rattle.lustre.proofs.Tables.{lines_same}
use Rattle.lustre.proofs.Differ.{unlike-scanned}
use Rattle.tables.specs.declared.Equation.{Equation}

-- What the form r finds at p.
abbrev pub tried : List ℕ → ℕ → Form → Scanned
tried text p r = scan r.text (drop p text) r.settled

-- None of the first f forms is found at p.
abbrev pub NoneBelow : List ℕ → ℕ → ℕ → Type 0
NoneBelow text p f = (g : ℕ) → g < f → unlike ≡ tried text p (form_at g)

pub none_more : (text : List ℕ) (p f : ℕ) (r : Form) → r ≡ form_at f → NoneBelow text p f
    → unlike ≡ tried text p r → NoneBelow text p (f + 1)
none_more text p f r e w h g l =
    let m : suc g ≤ suc f = rw (add-one f) at l in
    ⊎_elim (λ q. h ∙ ap (tried text p) (e ∙ ap form_at (sym q))) (λ q. w g q) (eq-or-lt_of_le (le_of_suc-le-suc m))

-- If no form is found, no equation's text stands there.
pub end_none : (text : List ℕ) (p : ℕ) → NoneBelow text p form_count → NoEnd (drop p text)
end_none text p w e r v h =
    let f = form_at (form_of e) in
    let a = w (form_of e) v.known in
    let b : tried text p f ≡ scanned e r =
    rw (h, end-form e v)
    (scans e v.fits.small f.text r f.settled (form-fine (form_of e) v.known).closes
    v.fits.agrees) in
    unlike-scanned (a ∙ b)

-- If a form is found, the text of an equation that has it stands there.
pub end_found : (text : List ℕ) (p f q : ℕ) (r : Form) (e : Equation) → f < form_count → r ≡ form_at f
    → scanned e (drop q text) ≡ tried text p r → EndAt text p e q
end_found text p f q r e h er g =
    go (tried text p (form_at f)) (g ∙ ap (tried text p) er)
    (sees (form_at f).text (drop p text) (form_at f).settled (form-fine f h).single)
  where
    go : (s : Scanned) → scanned e (drop q text) ≡ s
        → Seen (form_at f).text (drop p text) (form_at f).settled s → EndAt text p e q
    go unlike k unseen = absurd (unlike-scanned (sym k))
    go (scanned m l) k (seen b a c) =
        let em : m ≡ e = cc in
        let el : l ≡ drop q text = cc in
        let w : Fits (form_at f) e = record {
          agrees = rw em at a;
          small = rw em at (c (form-fine f h).settled-small);
        } in
        record { plain = form-plain f e h w; says = b ∙ rw (em, el, end-as f e h w) }

-- What a form's text was, where it is found.
pub scanned-text : (f l r : List ℕ) (e₀ e : Equation) → once f ≡ true → scanned e r ≡ scan f l e₀ → l ≡ render e f ++ r
scanned-text f l r e₀ e o h = go (scan f l e₀) h (sees f l e₀ o)
  where
    go : (s : Scanned) → scanned e r ≡ s → Seen f l e₀ s → l ≡ render e f ++ r
    go unlike h unseen = absurd (unlike-scanned (sym h))
    go (scanned m z) h (seen b _ _) = let p : m ≡ e = cc in let q : z ≡ r = cc in b ∙ rw (p, q)

pub own-small : (i : ℕ) → i ≤ last_literal → Small (own i)
own-small i h = small 0 i 0 0 h (omega arith) (omega arith)

own-agrees : (i : ℕ) (f : List ℕ) → absent letter_a f ≡ false → Agree (own i) (own 0) f
own-agrees i f n = record { kinds = refl; others = others }
  where
    others : (x : ℕ) → Letter x → absent x f ≡ true → slot (own i) x ≡ slot (own 0) x
    others x is_a e = absurd (false-true (sym n ∙ e))
    others x is_b e = refl
    others x is_c e = refl

line-scans : (i : ℕ) (e : Equation) (r : List ℕ) → i ≤ last_literal
    → scan (bytes "fA=") (line_text i e ++ r) (own 0) ≡ scanned (own i) (line_rest e ++ r)
unfolding closed absent is_digit
line-scans i e r h =
    rw (← line-text i e, append_assoc)
    (scans (own i) (own-small i h) (bytes "fA=") (line_rest e ++ r) (own 0) refl (own-agrees i (bytes "fA=") refl))

-- `fN=` is scanned at p from the numbers d.
module _ (text : List ℕ) (p i : ℕ) (few : i < equation_limit) (d : Equation) (is-own : d ≡ own 0) where
  here : (e : Equation) (r : List ℕ) → drop p text ≡ line_text i e ++ r
      → scan (bytes "fA=") (drop p text) d ≡ scanned (own i) (line_rest e ++ r)
  here e r h = rw (is-own, h) (line-scans i e r (omega arith))

  -- No line stands where `fN=` does not,
  pub line_absent : unlike ≡ scan (bytes "fA=") (drop p text) d → NoLine i (drop p text)
  line_absent g e r w h = unlike-scanned (g ∙ here e r h)

  module _ (o : Equation) (q : ℕ) (g : scanned o (drop q text) ≡ scan (bytes "fA=") (drop p text) d) where
    -- nor where N is another number,
    pub line_other : (o.a ≡ i → ⊥) → NoLine i (drop p text)
    line_other n e r w h =
        let a = here e r h in
        let b : o ≡ own i = cc in
        n (ap (λ (x : Equation). x.a) b)

    -- nor where no equation's text follows.
    line-cut : NoEnd (drop q text) → NoLine i (drop p text)
    line-cut n e r w h =
        let a = here e r h in
        n e r w (cc)

    line-found : (e : Equation) (q' : ℕ) → o.a ≡ i → EndAt text q e q' → LineAt text p i e q'
    unfolding render line_text once absent
    line-found e q' n w = record {
      plain = w.plain;
      says =
          scanned-text (bytes "fA=") (drop p text) (drop q text) d o refl g
          ∙ rw (n, w.says) (sym (append_assoc (render (own i) (bytes "fA=")) (line_rest e) (drop q' text)));
    }

    -- What reading an equation's text says of the line.
    pub end_told : (r : Option Found) → o.a ≡ i → end_seen text q r → line_seen text p i r
    end_told None n w = line-cut w
    end_told (Some f) n w = line-found f.numbers f.next n w

-- Stores leave what stands before them.
sets_below : (l vs : List ℕ) (i x : ℕ) → x < i → get_or (sets l i vs) x 0 ≡ get_or l x 0
sets_below l [] i x h = refl
sets_below l (v ∷ vs) i x h =
    sets_below (set l i v) vs (suc i) x (omega arith) ∙ get_or-set_other l i x v 0 (λ e. omega arith)

sets_first : (l vs : List ℕ) (i v : ℕ) → i < length l → get_or (sets l i (v ∷ vs)) i 0 ≡ v
sets_first l vs i v h = sets_below (set l i v) vs (suc i) i (omega arith) ∙ get_or-set_same l i v 0 h

pub stored-length : (u : List ℕ) (i : ℕ) (e : Equation) → length (stored u i e) ≡ length u
stored-length u i e = length-sets u (4 * i) (e.kind ∷ e.a ∷ e.b ∷ e.c ∷ [])

-- An equation stored in a table.
module _ (u : List ℕ) (i : ℕ) (e : Equation) (h : 4 * i + 4 ≤ length u) where
  kept : (j : ℕ) → j < i → equation_at u j ≡ equation_at (stored u i e) j
  kept j g =
      let vs = e.kind ∷ e.a ∷ e.b ∷ e.c ∷ [] in
      rw (
        sets_below u vs (4 * i) (4 * j) (omega arith),
        sets_below u vs (4 * i) (4 * j + 1) (omega arith),
        sets_below u vs (4 * i) (4 * j + 2) (omega arith),
        sets_below u vs (4 * i) (4 * j + 3) (omega arith),
      )

  new-kind : number_at (stored u i e) (4 * i) ≡ e.kind
  new-kind = sets_first u (e.a ∷ e.b ∷ e.c ∷ []) (4 * i) e.kind (omega arith)

  new-a : number_at (stored u i e) (4 * i + 1) ≡ e.a
  new-a =
      let z : 4 * i + 1 ≡ suc (4 * i) = omega arith in
      rw z
      (sets_first (set u (4 * i) e.kind) (e.b ∷ e.c ∷ []) (suc (4 * i)) e.a (rw length-set (omega arith)))

  new-b : number_at (stored u i e) (4 * i + 2) ≡ e.b
  new-b =
      let z : 4 * i + 2 ≡ suc (suc (4 * i)) = omega arith in
      rw z
      (sets_first (set (set u (4 * i) e.kind) (suc (4 * i)) e.a) (e.c ∷ []) (suc (suc (4 * i))) e.b
      (simp length-set (omega arith)))

  new-c : number_at (stored u i e) (4 * i + 3) ≡ e.c
  new-c =
      let z : 4 * i + 3 ≡ suc (suc (suc (4 * i))) = omega arith in
      rw z
      (sets_first (set (set (set u (4 * i) e.kind) (suc (4 * i)) e.a) (suc (suc (4 * i))) e.b) []
      (suc (suc (suc (4 * i)))) e.c (simp length-set (omega arith)))

  new : equation_at (stored u i e) i ≡ e
  new = rw (new-kind, new-a, new-b, new-c)

-- No line yet.
pub lines_none : (text u : List ℕ) (p : ℕ) → LinesAt text p u 0 p
unfolding lines
lines_none text u p = record { few = omega arith; says = refl; plain = λ j h. absurd (omega arith) }

-- One line more.
pub lines_next : {text u : List ℕ} {p i q q' : ℕ} (v : List ℕ) (e : Equation) → LinesAt text p u i q
    → LineAt text q i e q' → i < equation_limit → table_room ≤ length u → v ≡ stored u i e
    → LinesAt text p v (i + 1) q'
unfolding lines
lines_next {text} {u} {p} {i} {q} {q'} v e w l h g ev = rw (ev, add-one i) (record {
  few = omega arith;
  says = w.says ∙ step;
  plain = plain;
})
  where
    room : 4 * i + 4 ≤ length u
    room = omega arith

    before : lines u i ≡ lines (stored u i e) i
    before = lines_same u (stored u i e) i (kept u i e room) i (omega arith)

    line : line_text i e ≡ line_text i (equation_at (stored u i e) i)
    line = ap (line_text i) (sym (new u i e room))

    step : lines u i ++ drop q text
        ≡ lines (stored u i e) i ++ line_text i (equation_at (stored u i e) i) ++ drop q' text
    step =
        ap (λ (x : List ℕ). lines u i ++ x) l.says
        ∙ sym (append_assoc (lines u i) (line_text i e) (drop q' text))
        ∙ ap (λ (x : List ℕ). x ++ line_text i e ++ drop q' text) before
        ∙ ap (λ (x : List ℕ). lines (stored u i e) i ++ x ++ drop q' text) line

    plain : (j : ℕ) → j < suc i → Plain (equation_at (stored u i e) j)
    plain j b =
        ⊎_elim
        (λ y. subst Plain (sym (new u i e room) ∙ ap (equation_at (stored u i e)) (sym y)) l.plain)
        (λ y. subst Plain (kept u i e room j y) (w.plain j y))
        (eq-or-lt_of_le (le_of_suc-le-suc b))
