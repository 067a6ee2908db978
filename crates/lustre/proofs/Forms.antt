-- The forms and the equations: each form is the text of the equations that fit it, every equation of a well-formed
-- table has a form, and two equations with the same text are the same. Assumes nothing.
use mathlib.Core.Path.{◌≡◌, refl, ◌∙◌, sym, subst}
use mathlib.Core.Logic.{⊎_elim}
use mathlib.Core.Bool.{Bool, true, false, cond, not, ◌&&◌}
use mathlib.Core.List.{List, ◌++◌}
use mathlib.Core.List.{append_assoc as assoc}
use Prim.Native.Nat.{ℕ, suc, ◌+◌, ◌≤◌, ◌<◌}
use native.Mathlib.Omega.{arith}
use native.Mathlib.Nat.{eq-or-lt_of_le}
use native.Mathlib.Decide.{ℕ_discrete, dec_lt}
use lib.Dec.{ltb, leb, eqb}
use lib.ListN.{length}
use borrow.Author.Tests.{ltb-true, leb-true, eqb-true, ne_eqb}
use Rattle.lists.specs.Decimal.{is_digit}
use Rattle.lists.proofs.Choice.{false-true}
use Rattle.tables.specs.Kind.{SIGNAL, START, CONSTANT, NOT, AND, OR, BOOLEAN-PRE, COUNT-PRE, CAPPED, IF}
use Rattle.tables.specs.Kind.{COMPARE-LITERAL, COMPARE-PARAMETER, VELOCITY, kind_count}
use Rattle.tables.specs.Table.{all, kind_of, shape_of, is_flow, operand_fits, shape_fits}
use Rattle.limits.specs.Limits.{equation_limit, literal_count, last_literal, truth_count, comparison_count}
use Rattle.tables.specs.declared.Operand.{Operand}
use Rattle.tables.specs.declared.Operand.TheVariants.{Unused, Earlier, Anywhere, Below, Velocity}
use Rattle.tables.proofs.Tests.{and-true, all-at}
use Rattle.tables.proofs.Numbers.{kind_beyond}
use Rattle.lustre.specs.Text.{value_text, line_rest}
use Rattle.tables.specs.Table.{equation}
use Rattle.lustre.specs.Form.{letter_a, letter_b, letter_c, Letter, is_a, is_b, is_c}
use Rattle.lustre.specs.Form.{slot, render, absent}
use Rattle.lustre.specs.Form.{Agree, Small, Form, form_width, forms, form_count, form_at}
use Rattle.lustre.specs.Form.{Fits, first_form, form_number, form_of, Plain}
use Rattle.lustre.specs.Scan.{scanned, scan}
use Rattle.lustre.proofs.Scans.{closed, once, small, scans, apart, never}
use Rattle.tables.specs.declared.Equation.{Equation}

-- A fact for each number from i up to n, as a list of proofs.
data Each (P : ℕ → Type 0) (n : ℕ) : ℕ → Type 0 where
  end : Each P n n
  ◌also◌ : {i : ℕ} → P i → Each P n (suc i) → Each P n i

infixr 40 ◌also◌
each : {P : ℕ → Type 0} {n i : ℕ} → Each P n i → (x : ℕ) → i ≤ x → x < n → P x
each end x h g = absurd (omega arith)
each {P} (p also w) x h g = ⊎_elim (λ q. subst P q p) (λ q. each w x q g) (eq-or-lt_of_le h)

-- What every form has, as a test that computes: a short text, numbers that end where they should, no letter twice, and
-- a digit for each number that it settles.
abbrev settles : Equation → Bool
settles e = ltb e.a 10 && (ltb e.b 10 && ltb e.c 10)

abbrev form_fine : ℕ → Bool
form_fine f =
    leb (length (form_at f).text) form_width
    && (closed (form_at f).text && (once (form_at f).text && settles (form_at f).settled))

forms-fine : all form_fine form_count ≡ true
unfolding all form_at forms closed once absent is_digit
forms-fine = refl

pub record Fine (f : Form) : Type 0 where
  pub room : length f.text ≤ form_width
  pub closes : closed f.text ≡ true
  pub single : once f.text ≡ true
  pub settled-small : Small f.settled

pub form-fine : (f : ℕ) → f < form_count → Fine (form_at f)
form-fine f h =
    let p = and-true (leb (length (form_at f).text) form_width) _ (all-at form_fine form_count forms-fine f h) in
    let q = and-true (closed (form_at f).text) _ p.1 in
    let r = and-true (once (form_at f).text) _ q.1 in
    let e = (form_at f).settled in
    let s = and-true (ltb e.a 10) _ r.1 in
    let t = and-true (ltb e.b 10) _ s.1 in
    let ha = ltb-true e.a 10 s.0 in
    let hb = ltb-true e.b 10 t.0 in
    let hc = ltb-true e.c 10 t.1 in
    record {
      room = leb-true (length (form_at f).text) form_width p.0;
      closes = q.0;
      single = r.0;
      settled-small = small e.kind e.a e.b e.c (omega arith) (omega arith) (omega arith);
    }

-- No two forms share a text.
abbrev apart_from : ℕ → ℕ → Bool
apart_from f g = cond (eqb f g) true (apart (form_at f).text (form_at g).text)

no_sharing : all (λ f. all (apart_from f) form_count) form_count ≡ true
unfolding all form_at forms apart is_digit
no_sharing = refl

forms-apart : (f g : ℕ) → f < form_count → g < form_count → (f ≡ g → ⊥) → apart (form_at f).text (form_at g).text ≡ true
forms-apart f g hf hg d =
    let p = all-at (apart_from f) form_count (all-at (λ f. all (apart_from f) form_count) form_count no_sharing f hf) g
    hg in
    rw (ne_eqb f g d) at p

-- A form is the one of each equation that agrees with it, and gives its text.
record Given (f : ℕ) (e : Equation) : Type 0 where
  form : form_of e ≡ f
  text : line_rest e ≡ render e (form_at f).text

abbrev Gives : ℕ → Type 0
Gives f = (e : Equation) → Agree e (form_at f).settled (form_at f).text → Given f e

-- A number that the form settles.
module _ {e e₀ : Equation} {f : List ℕ} (w : Agree e e₀ f) where
  a-settled : absent letter_a f ≡ true → e.a ≡ e₀.a
  a-settled h = w.others letter_a is_a h

  b-settled : absent letter_b f ≡ true → e.b ≡ e₀.b
  b-settled h = w.others letter_b is_b h

  c-settled : absent letter_c f ≡ true → e.c ≡ e₀.c
  c-settled h = w.others letter_c is_c h

of-form : (f : ℕ) → Gives f → Gives f
of-form f p = p

-- In the order of the forms. Forms of one kind are told apart by a number that they settle.
each-gives : Each Gives form_count 0
unfolding form_at forms absent kind_of form_number line_rest value_text render
each-gives =
    of-form 0 (λ e w. rw w.kinds (record { form = refl; text = refl }))
    also of-form 1 (λ e w. rw w.kinds (record { form = refl; text = refl }))
    also of-form 2 (λ e w. rw (w.kinds, a-settled w refl) (record { form = refl; text = refl }))
    also of-form 3 (λ e w. rw (w.kinds, a-settled w refl) (record { form = refl; text = refl }))
    also of-form 4 (λ e w. rw w.kinds (record { form = refl; text = refl }))
    also of-form 5 (λ e w. rw w.kinds (record { form = refl; text = rw (assoc, assoc) }))
    also of-form 6 (λ e w. rw w.kinds (record { form = refl; text = rw (assoc, assoc) }))
    also of-form 7 (λ e w. rw (w.kinds, c-settled w refl) (record { form = refl; text = rw assoc }))
    also of-form 8 (λ e w. rw (w.kinds, c-settled w refl) (record { form = refl; text = rw assoc }))
    also of-form 9 (λ e w. rw w.kinds (record { form = refl; text = rw assoc }))
    also of-form 10 (λ e w. rw w.kinds (record { form = refl; text = rw (assoc, assoc, assoc) }))
    also of-form 11 (λ e w. rw w.kinds (record { form = refl; text = rw (assoc, assoc, assoc) }))
    also of-form 12 (λ e w. rw (w.kinds, b-settled w refl) (record { form = refl; text = rw (assoc, assoc) }))
    also of-form 13 (λ e w. rw (w.kinds, b-settled w refl) (record { form = refl; text = rw (assoc, assoc) }))
    also of-form 14 (λ e w. rw (w.kinds, b-settled w refl) (record { form = refl; text = rw (assoc, assoc) }))
    also of-form 15 (λ e w. rw (w.kinds, b-settled w refl) (record { form = refl; text = rw (assoc, assoc) }))
    also of-form 16 (λ e w. rw (w.kinds, b-settled w refl) (record { form = refl; text = rw (assoc, assoc) }))
    also of-form 17 (λ e w. rw (w.kinds, b-settled w refl) (record { form = refl; text = rw (assoc, assoc, assoc) }))
    also of-form 18 (λ e w. rw (w.kinds, b-settled w refl) (record { form = refl; text = rw (assoc, assoc, assoc) }))
    also of-form 19 (λ e w. rw (w.kinds, b-settled w refl) (record { form = refl; text = rw (assoc, assoc, assoc) }))
    also of-form 20 (λ e w. rw (w.kinds, b-settled w refl) (record { form = refl; text = rw (assoc, assoc, assoc) }))
    also of-form 21 (λ e w. rw (w.kinds, b-settled w refl) (record { form = refl; text = rw (assoc, assoc, assoc) }))
    also of-form 22 (λ e w. rw (w.kinds, a-settled w refl) (record { form = refl; text = refl }))
    also of-form 23 (λ e w. rw (w.kinds, a-settled w refl) (record { form = refl; text = refl }))
    also of-form 24 (λ e w. rw (w.kinds, a-settled w refl) (record { form = refl; text = refl }))
    also of-form 25 (λ e w. rw (w.kinds, a-settled w refl) (record { form = refl; text = refl }))
    also of-form 26 (λ e w. rw (w.kinds, a-settled w refl) (record { form = refl; text = refl }))
    also end

gives : (f : ℕ) → f < form_count → Gives f
gives f h = each each-gives f (omega arith) h

-- An equation that fits a form has that form.
pub form-plain : (f : ℕ) (e : Equation) → f < form_count → Fits (form_at f) e → Plain e
form-plain f e h w =
    let n = (gives f h e w.agrees).form in
    record { known = rw n h; fits = rw n w }

-- The text of an equation after `fN=` is its form's.
pub end-form : (e : Equation) → Plain e → line_rest e ≡ render e (form_at (form_of e)).text
end-form e w = (gives (form_of e) w.known e w.fits.agrees).text

pub end-as : (f : ℕ) (e : Equation) → f < form_count → Fits (form_at f) e → line_rest e ≡ render e (form_at f).text
end-as f e h w = (gives f h e w.agrees).text

-- What a kind's row says of a number, without the table, where no velocity is above the highest literal.
abbrev Admits : Operand → ℕ → Type 0
Admits Unused x = x ≡ 0
Admits (Earlier s) x = x < equation_limit
Admits (Anywhere s) x = x < equation_limit
Admits (Below m) x = x < m
Admits Velocity x = x < literal_count

flow-admitted : (t : List ℕ) (m x : ℕ) (b : Bool) → m ≤ equation_limit → (ltb x m && b) ≡ true → x < equation_limit
flow-admitted t m x b h e = omega (arith, ltb-true x m (and-true (ltb x m) b e).0)

admitted : (velocities : ℕ) (t : List ℕ) (n i : ℕ) (o : Operand) (x : ℕ) → velocities ≤ literal_count
    → n ≤ equation_limit
    → i ≤ equation_limit → operand_fits velocities t n i o x ≡ true → Admits o x
unfolding operand_fits is_flow
admitted velocities t n i Unused x hv hn hi e = eqb-true x 0 e
admitted velocities t n i (Earlier s) x hv hn hi e = flow-admitted t i x _ hi e
admitted velocities t n i (Anywhere s) x hv hn hi e = flow-admitted t n x _ hn e
admitted velocities t n i (Below m) x hv hn hi e = ltb-true x m e
admitted velocities t n i Velocity x hv hn hi e = omega (arith, ltb-true x velocities e)

-- Where a letter stands nowhere in the form, the equation has the number that the form settles.
abbrev Keeps : Bool → ℕ → ℕ → Type 0
Keeps true x y = x ≡ y
Keeps false x y = Unit {0}

kept : (b : Bool) {x y : ℕ} → Keeps b x y → b ≡ true → x ≡ y
kept true k e = k
kept false k e = absurd (false-true e)

keeps : (b : Bool) {x y : ℕ} → x ≡ y → Keeps b x y
keeps true e = e
keeps false e = tt

free : (b : Bool) (x y : ℕ) → not b ≡ true → Keeps b x y
free true x y e = absurd (false-true e)
free false x y e = tt

-- An equation has form n of its kind if it has the numbers that the form settles.
having : (k n a b c : ℕ) →
    let f = form_at (first_form k + n) in
    k ≡ f.settled.kind
    → Keeps (absent letter_a f.text) a f.settled.a
    → Keeps (absent letter_b f.text) b f.settled.b
    → Keeps (absent letter_c f.text) c f.settled.c
    → (first_form k + n < form_count) × (a ≤ last_literal) × (b ≤ last_literal) × (c ≤ last_literal)
    → Plain (equation k a b c)
having k n a b c hk ka kb kc h = form-plain (first_form k + n) (equation k a b c) h.0 (record {
  agrees = record { kinds = hk; others = λ x i. others x i };
  small = small k a b c h.1 h.2 h.3;
})
  where
    text : List ℕ
    text = (form_at (first_form k + n)).text

    others : (x : ℕ) → Letter x → absent x text ≡ true
        → slot (equation k a b c) x ≡ slot (form_at (first_form k + n)).settled x
    others x is_a e = kept (absent letter_a text) ka e
    others x is_b e = kept (absent letter_b text) kb e
    others x is_c e = kept (absent letter_c text) kc e

-- Every equation that keeps the rules of its kind has a form.
abbrev Formed : ℕ → Type 0
Formed k =
    (a b c : ℕ) → Admits (shape_of (kind_of k)).a a → Admits (shape_of (kind_of k)).b b
    → Admits (shape_of (kind_of k)).c c
    → Plain (equation k a b c)

of-kind : (k : ℕ) → Formed k → Formed k
of-kind k p = p

-- A constant and a boolean memory have two forms,
constants : (b c : ℕ) → b ≡ 0 → c ≡ 0 → Each (λ a. Plain (equation CONSTANT a b c)) truth_count 0
unfolding form_at forms absent
constants b c q r =
    having CONSTANT 0 0 b c refl refl q r (omega arith)
    also having CONSTANT 1 1 b c refl refl q r (omega arith)
    also end

pres : (a b : ℕ) → a < equation_limit → b ≡ 0 → Each (λ c. Plain (equation BOOLEAN-PRE a b c)) truth_count 0
unfolding form_at forms absent
pres a b p q =
    having BOOLEAN-PRE 0 a b 0 refl tt q refl (omega arith)
    also having BOOLEAN-PRE 1 a b 1 refl tt q refl (omega arith)
    also end

-- a test of the velocity has five,
tests : (b c : ℕ) → b < literal_count → c ≡ 0 → Each (λ a. Plain (equation VELOCITY a b c)) comparison_count 0
unfolding form_at forms absent
tests b c q r =
    having VELOCITY 0 0 b c refl refl tt r (omega arith)
    also having VELOCITY 1 1 b c refl refl tt r (omega arith)
    also having VELOCITY 2 2 b c refl refl tt r (omega arith)
    also having VELOCITY 3 3 b c refl refl tt r (omega arith)
    also having VELOCITY 4 4 b c refl refl tt r (omega arith)
    also end

-- and a comparison of a count has five: they settle its kind and its operator, and have the letters of the other two
-- numbers.
abbrev comparing : ℕ → ℕ → Bool
comparing k b =
    let f = form_at (first_form k + b) in
    ltb (first_form k + b) form_count
    && (eqb k f.settled.kind
    && (eqb b f.settled.b && (not (absent letter_a f.text) && not (absent letter_c f.text))))

compared : (k : ℕ) → all (comparing k) comparison_count ≡ true
    → (a b c : ℕ) → a < equation_limit → b < comparison_count → c < literal_count → Plain (equation k a b c)
compared k t a b c p q r =
    let f = form_at (first_form k + b) in
    let known = and-true (ltb (first_form k + b) form_count) _ (all-at (comparing k) comparison_count t b q) in
    let kind = and-true (eqb k f.settled.kind) _ known.1 in
    let op = and-true (eqb b f.settled.b) _ kind.1 in
    let letters = and-true (not (absent letter_a f.text)) _ op.1 in
    let below = ltb-true (first_form k + b) form_count known.0 in
    having k b a b c (eqb-true k f.settled.kind kind.0)
    (free (absent letter_a f.text) a f.settled.a letters.0)
    (keeps (absent letter_b f.text) (eqb-true b f.settled.b op.0))
    (free (absent letter_c f.text) c f.settled.c letters.1)
    (below, omega arith, omega arith, omega arith)

literals : all (comparing COMPARE-LITERAL) comparison_count ≡ true
unfolding all form_at forms absent
literals = refl

parameters : all (comparing COMPARE-PARAMETER) comparison_count ≡ true
unfolding all form_at forms absent
parameters = refl

each-formed : Each Formed kind_count 0
unfolding form_at forms absent kind_of shape_of
each-formed =
    of-kind SIGNAL (λ a b c p q r. having SIGNAL 0 a b c refl tt q r (omega arith))
    also of-kind START (λ a b c p q r. having START 0 a b c refl p q r (omega arith))
    also of-kind CONSTANT (λ a b c p q r. each (constants b c q r) a (omega arith) p)
    also of-kind NOT (λ a b c p q r. having NOT 0 a b c refl tt q r (omega arith))
    also of-kind AND (λ a b c p q r. having AND 0 a b c refl tt tt r (omega arith))
    also of-kind OR (λ a b c p q r. having OR 0 a b c refl tt tt r (omega arith))
    also of-kind BOOLEAN-PRE (λ a b c p q r. each (pres a b p q) c (omega arith) r)
    also of-kind COUNT-PRE (λ a b c p q r. having COUNT-PRE 0 a b c refl tt q r (omega arith))
    also of-kind CAPPED (λ a b c p q r. having CAPPED 0 a b c refl tt tt r (omega arith))
    also of-kind IF (λ a b c p q r. having IF 0 a b c refl tt tt r (omega arith))
    also of-kind COMPARE-LITERAL (compared COMPARE-LITERAL literals)
    also of-kind COMPARE-PARAMETER (λ a b c p q r. compared COMPARE-PARAMETER parameters a b c p q (omega arith))
    also of-kind VELOCITY (λ a b c p q r. each (tests b c q r) a (omega arith) p)
    also end

no_kind : (k a : ℕ) → kind_count ≤ k → Admits (shape_of (kind_of k)).a a → ⊥
unfolding shape_of
no_kind k a h p = let z = rw (kind_beyond k h) at p in omega (arith, z)

pub fitting-plain : (velocities : ℕ) (t : List ℕ) (n i : ℕ) (e : Equation) → velocities ≤ literal_count
    → n ≤ equation_limit → i ≤ equation_limit → shape_fits velocities t n i (shape_of (kind_of e.kind)) e ≡ true
    → Plain e
unfolding shape_fits
fitting-plain velocities t n i e hv hn hi h =
    let s = shape_of (kind_of e.kind) in
    let p = and-true (operand_fits velocities t n i s.a e.a) _ h in
    let q = and-true (operand_fits velocities t n i s.b e.b) _ p.1 in
    let a = admitted velocities t n i s.a e.a hv hn hi p.0 in
    let b = admitted velocities t n i s.b e.b hv hn hi q.0 in
    let c = admitted velocities t n i s.c e.c hv hn hi q.1 in
    elim (dec_lt e.kind kind_count) [
      | yes k ↦ each each-formed e.kind (omega arith) k e.a e.b e.c a b c
      | no k ↦ absurd (no_kind e.kind e.a (omega arith) a)
    ]

-- Two equations whose texts stand at the front of one text are the same, and so is what follows them.
pub one_end : (e e' : Equation) (l r : List ℕ) → Plain e → Plain e' → line_rest e ++ l ≡ line_rest e' ++ r
    → (e ≡ e') × (l ≡ r)
one_end e e' l r w w' h = go (ℕ_discrete (form_of e) (form_of e'))
  where
    scans-back : (d : Equation) (k : List ℕ) → Plain d
        → scan (form_at (form_of d)).text (line_rest d ++ k) (form_at (form_of d)).settled
        ≡ scanned d k
    scans-back d k p =
        let f = form-fine (form_of d) p.known in
        rw (end-form d p) (scans d p.fits.small (form_at (form_of d)).text k _ f.closes p.fits.agrees)

    rendered : render e (form_at (form_of e)).text ++ l ≡ render e' (form_at (form_of e')).text ++ r
    rendered = rw (← end-form e w, ← end-form e' w') h

    go : Dec (form_of e ≡ form_of e') → (e ≡ e') × (l ≡ r)
    go (yes p) =
        let a = scans-back e l w in
        let b = scans-back e' r w' in
        let c : scan (form_at (form_of e)).text (line_rest e ++ l) (form_at (form_of e)).settled
        ≡ scan (form_at (form_of e')).text (line_rest e' ++ r) (form_at (form_of e')).settled =
        rw (p, h) in
        let d : scanned e l ≡ scanned e' r = sym a ∙ c ∙ b in
        (cc, cc)
    go (no p) = absurd
        (never e e' w.fits.small w'.fits.small (form_at (form_of e)).text
        (form_at (form_of e')).text l r
        (form-fine (form_of e) w.known).closes (form-fine (form_of e') w'.known).closes
        (forms-apart (form_of e) (form_of e') w.known w'.known p) rendered)
