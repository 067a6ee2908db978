-- Forms and their texts: what is written is scanned, what is scanned was written, and forms that are apart share no
-- text. Assumes nothing.
use mathlib.Core.Path.{◌≡◌, refl, ◌∙◌, sym, ap}
use mathlib.Core.Bool.{Bool, true, false, cond, not, ◌&&◌}
use mathlib.Core.List.{List, [], ◌∷◌, ◌++◌, append_assoc}
use Prim.Native.Nat.{ℕ, ◌≤◌}
use native.Mathlib.Omega.{arith}
use lib.Dec.{leb, eqb}
use borrow.Author.Tests.{leb-true, eq-eqb, eqb-true, eqb-false, not-true}
use Rattle.lists.specs.Decimal.{Numeral, is_digit, numeral}
use Rattle.lists.specs.Decimal.Numeral.{is, above, missing}
use Rattle.lists.proofs.Choice.{false-true}
use Rattle.limits.specs.Limits.{last_literal}
use Rattle.tables.proofs.Tests.{and-true}
use Rattle.lustre.specs.Numerals.{number_text}
use Rattle.tables.specs.Table.{equation}
use Rattle.lustre.specs.Form.{letter_a, letter_b, letter_c, letter?, Letter, is_a, is_b, is_c}
use Rattle.lustre.specs.Form.{slot, put, render, absent, Agree, Small}
use Rattle.lustre.specs.Scan.{Scanned, unlike, scanned, after_number, after_byte, scan}
use Rattle.lustre.proofs.Numerals.{stops, reads-back, Stood, stood, higher, nothing, number-stood}
use Rattle.lustre.proofs.Numerals.{same_number_lem, no-clash}
use Rattle.tables.specs.declared.Equation.{Equation}

-- The letters.
pub letter : (x : ℕ) → letter? x ≡ true → Letter x
letter x h =
    let both = and-true (leb letter_a x) _ h in
    go (leb-true letter_a x both.0) (leb-true x letter_c both.1) (eqb x letter_a) (eqb x letter_b) refl refl
  where
    go : letter_a ≤ x → x ≤ letter_c → (b c : Bool) → eqb x letter_a ≡ b → eqb x letter_b ≡ c → Letter x
    go g l true c p q = rw (eqb-true x letter_a p) is_a
    go g l false true p q = rw (eqb-true x letter_b q) is_b
    go g l false false p q =
        let n = eqb-false x letter_a p in
        let m = eqb-false x letter_b q in
        let z : x ≡ letter_c = omega arith in
        rw z is_c

put_same : (e : Equation) {x : ℕ} (v : ℕ) → Letter x → slot (put e x v) x ≡ v
put_same e v is_a = refl
put_same e v is_b = refl
put_same e v is_c = refl

put_other : (e : Equation) {x y : ℕ} (v : ℕ) → Letter x → Letter y → eqb x y ≡ false → slot (put e y v) x ≡ slot e x
put_other e v is_a is_a h = absurd (false-true (sym h))
put_other e v is_a is_b h = refl
put_other e v is_a is_c h = refl
put_other e v is_b is_a h = refl
put_other e v is_b is_b h = absurd (false-true (sym h))
put_other e v is_b is_c h = refl
put_other e v is_c is_a h = refl
put_other e v is_c is_b h = refl
put_other e v is_c is_c h = absurd (false-true (sym h))

put-kind : (e : Equation) {x : ℕ} (v : ℕ) → Letter x → (put e x v).kind ≡ e.kind
put-kind e v is_a = refl
put-kind e v is_b = refl
put-kind e v is_c = refl

-- Equations are equal by their kinds and the numbers at the three letters.
pub equations-same : (e e' : Equation) → e.kind ≡ e'.kind → ((x : ℕ) → Letter x → slot e x ≡ slot e' x) → e ≡ e'
equations-same e e' k h =
    let a = h letter_a is_a in
    let b = h letter_b is_b in
    let c = h letter_c is_c in
    let p : equation e.kind e.a e.b e.c ≡ equation e'.kind e'.a e'.b e'.c = rw (k, a, b, c) in
    p

pub small : (k a b c : ℕ) → a ≤ last_literal → b ≤ last_literal → c ≤ last_literal → Small (equation k a b c)
small k a b c ha hb hc x = go (eqb x letter_a) (eqb x letter_b)
  where
    go : (p q : Bool) → cond p a (cond q b c) ≤ last_literal
    go true q = ha
    go false true = hb
    go false false = hc

small_put : (e : Equation) {x : ℕ} (v : ℕ) → Letter x → v ≤ last_literal → Small e → Small (put e x v)
small_put e v is_a h s = small e.kind v e.b e.c h (s letter_b) (s letter_c)
small_put e v is_b h s = small e.kind e.a v e.c (s letter_a) h (s letter_c)
small_put e v is_c h s = small e.kind e.a e.b v (s letter_a) (s letter_b) h

-- A form's text begins with a byte that ends a number.
abbrev pub opens : List ℕ → Bool
opens [] = false
opens (x ∷ f) = not (letter? x) && not (is_digit x)

-- After each letter stands a byte that ends a number.
unfoldable pub closed : List ℕ → Bool
closed [] = true
closed (x ∷ f) = cond (letter? x) (opens f) true && closed f

-- No letter stands twice.
unfoldable pub once : List ℕ → Bool
once [] = true
once (x ∷ f) = cond (letter? x) (absent x f) true && once f

opens-stops : (e : Equation) (f l : List ℕ) → opens f ≡ true → stops (render e f ++ l) ≡ true
unfolding render
opens-stops e [] l h = absurd (false-true h)
opens-stops e (x ∷ f) l h =
    let p = and-true (not (letter? x)) _ h in
    rw (not-true (letter? x) p.0) p.1

-- The equation agrees with what the scan has so far, once a letter's number is put in.
agree-put : (e e₀ : Equation) {x : ℕ} (f : List ℕ) → Letter x → Agree e e₀ (x ∷ f) → Agree e (put e₀ x (slot e x)) f
unfolding absent
agree-put e e₀ {x} f i a = record {
  kinds = a.kinds ∙ sym (put-kind e₀ (slot e x) i);
  others = λ y j h. go y j h (eqb y x) refl;
}
  where
    go : (y : ℕ) → Letter y → absent y f ≡ true → (b : Bool) → eqb y x ≡ b → slot e y ≡ slot (put e₀ x (slot e x)) y
    go y j h true p =
        let q = eqb-true y x p in
        ap (slot e) q ∙ sym (put_same e₀ (slot e x) i) ∙ ap (slot (put e₀ x (slot e x))) (sym q)
    go y j h false p = a.others y j (rw (p, h)) ∙ sym (put_other e₀ (slot e x) j i p)

-- A byte that is no letter settles nothing.
agree-byte : (e e₀ : Equation) (x : ℕ) (f : List ℕ) → letter? x ≡ false → Agree e e₀ (x ∷ f) → Agree e e₀ f
unfolding absent
agree-byte e e₀ x f n a = record { kinds = a.kinds; others = λ y j h. a.others y j (rw (other y j) h) }
  where
    lettered : (y : ℕ) → Letter y → letter? y ≡ true
    lettered y is_a = refl
    lettered y is_b = refl
    lettered y is_c = refl

    other : (y : ℕ) → Letter y → eqb y x ≡ false
    other y j = go (eqb y x) refl
      where
        go : (b : Bool) → eqb y x ≡ b → eqb y x ≡ false
        go true p =
            let q = ap letter? (eqb-true y x p) in
            let l = lettered y j in
            absurd (false-true (sym n ∙ sym q ∙ l))
        go false p = p

-- What is written is scanned.
pub scans : (e : Equation) → Small e → (f l : List ℕ) (e₀ : Equation) → closed f ≡ true → Agree e e₀ f
    → scan f (render e f ++ l) e₀ ≡ scanned e l
unfolding scan render closed absent
scans e s [] l e₀ h a =
    ap (λ (d : Equation). scanned d l) (sym (equations-same e e₀ a.kinds (λ x i. a.others x i refl)))
scans e s (x ∷ f) l e₀ h a =
    let p = and-true (cond (letter? x) (opens f) true) _ h in
    go (letter? x) refl p.0
    (λ i. scans e s f l (put e₀ x (slot e x)) p.1 (agree-put e e₀ f i a))
    (λ n. scans e s f l e₀ p.1 (agree-byte e e₀ x f n a))
  where
    go : (b : Bool) → letter? x ≡ b → cond b (opens f) true ≡ true
        → (Letter x → scan f (render e f ++ l) (put e₀ x (slot e x)) ≡ scanned e l)
        → (letter? x ≡ false → scan f (render e f ++ l) e₀ ≡ scanned e l)
        → scan (x ∷ f) (render e (x ∷ f) ++ l) e₀ ≡ scanned e l
    go true p q k m =
        rw (p, append_assoc, reads-back last_literal (slot e x) (render e f ++ l) (s x) (opens-stops e f l q))
        (k (letter x p))
    go false p q k m = rw (p, eq-eqb x x refl) (m p)

-- What is scanned was written, and agrees with what the scan began with.
pub data Seen (f l : List ℕ) (e₀ : Equation) : Scanned → Type 0 where
  unseen : Seen f l e₀ unlike
  seen : {e : Equation} {r : List ℕ} → l ≡ render e f ++ r → Agree e e₀ f → (Small e₀ → Small e)
      → Seen f l e₀ (scanned e r)

agree_refl : (e : Equation) (f : List ℕ) → Agree e e f
agree_refl e f = record { kinds = refl; others = λ x i h. refl }

-- A number, and then a text that was scanned.
seen-number : (x v : ℕ) (f l r : List ℕ) (e₀ : Equation) (c : Scanned) → letter? x ≡ true → absent x f ≡ true
    → v ≤ last_literal → l ≡ number_text v ++ r → Seen f r (put e₀ x v) c → Seen (x ∷ f) l e₀ c
unfolding render absent
seen-number x v f l r e₀ unlike h s b w unseen = unseen
seen-number x v f l r e₀ (scanned e z) h s b w (seen m o g) =
    let i = letter x h in
    let same : slot e x ≡ v = o.others x i s ∙ put_same e₀ v i in
    seen {e = e} {r = z}
    (w ∙ rw (h, same, append_assoc) (ap (λ (k : List ℕ). number_text v ++ k) m))
    (record {
      kinds = o.kinds ∙ put-kind e₀ v i;
      others = λ y j a.
          let d = and-true (not (eqb y x)) _ a in
          o.others y j d.1 ∙ put_other e₀ v j i (not-true (eqb y x) d.0);
    })
    (λ k. g (small_put e₀ v i b k))

-- A byte, and then a text that was scanned.
seen-byte : (x : ℕ) (f r : List ℕ) (e₀ : Equation) (c : Scanned) → letter? x ≡ false → Seen f r e₀ c
    → Seen (x ∷ f) (x ∷ r) e₀ c
unfolding render absent
seen-byte x f r e₀ unlike h unseen = unseen
seen-byte x f r e₀ (scanned e z) h (seen m o g) =
    seen {e = e} {r = z}
    (rw h (ap (λ (k : List ℕ). x ∷ k) m))
    (record { kinds = o.kinds; others = λ y j a. o.others y j (and-true (not (eqb y x)) _ a).1 })
    g

after-number : (x : ℕ) (f l : List ℕ) (e₀ : Equation) (n : Numeral) → letter? x ≡ true → absent x f ≡ true
    → Stood last_literal l n
    → ((r : List ℕ) (v : ℕ) → Seen f r (put e₀ x v) (scan f r (put e₀ x v)))
    → Seen (x ∷ f) l e₀ (after_number n (λ v r. scan f r (put e₀ x v)))
after-number x f l e₀ missing p s nothing k = unseen
after-number x f l e₀ (above r) p s higher k = unseen
after-number x f l e₀ (is v r) p s (stood w b) k =
    seen-number x v f l r e₀ (scan f r (put e₀ x v)) p s b w (k r v)

after-byte : (x : ℕ) (f l : List ℕ) (e₀ : Equation) → letter? x ≡ false → ((r : List ℕ) → Seen f r e₀ (scan f r e₀))
    → Seen (x ∷ f) l e₀ (after_byte x l (λ r. scan f r e₀))
after-byte x f [] e₀ p k = unseen
after-byte x f (y ∷ l) e₀ p k = go (eqb x y) refl
  where
    go : (b : Bool) → eqb x y ≡ b → Seen (x ∷ f) (y ∷ l) e₀ (cond b (scan f l e₀) unlike)
    go true e = rw (← eqb-true x y e) (seen-byte x f l e₀ (scan f l e₀) p (k l))
    go false e = unseen

pub sees : (f l : List ℕ) (e₀ : Equation) → once f ≡ true → Seen f l e₀ (scan f l e₀)
unfolding scan once render
sees [] l e₀ h = seen refl (agree_refl e₀ []) (λ s. s)
sees (x ∷ f) l e₀ h =
    let p = and-true (cond (letter? x) (absent x f) true) _ h in
    go (letter? x) refl p.0 (λ r v. sees f r (put e₀ x v) p.1) (λ r. sees f r e₀ p.1)
  where
    go : (b : Bool) → letter? x ≡ b → cond b (absent x f) true ≡ true
        → ((r : List ℕ) (v : ℕ) → Seen f r (put e₀ x v) (scan f r (put e₀ x v)))
        → ((r : List ℕ) → Seen f r e₀ (scan f r e₀))
        → Seen (x ∷ f) l e₀
        (cond b (after_number (numeral last_literal l) (λ v r. scan f r (put e₀ x v)))
        (after_byte x l (λ r. scan f r e₀)))
    go true p q k m = after-number x f l e₀ (numeral last_literal l) p q (number-stood last_literal l) k
    go false p q k m = after-byte x f l e₀ p m

-- Two forms that share no text: the first place where they differ shows it.
unfoldable pub apart : List ℕ → List ℕ → Bool
apart [] g = false
apart (x ∷ f) [] = false
apart (x ∷ f) (y ∷ g) =
    cond (letter? x) (cond (letter? y) (apart f g) (not (is_digit y)))
    (cond (letter? y) (not (is_digit x)) (cond (eqb x y) (apart f g) true))

pub never : (e e' : Equation) → Small e → Small e' → (f g l r : List ℕ) → closed f ≡ true → closed g ≡ true
    → apart f g ≡ true → render e f ++ l ≡ render e' g ++ r → ⊥
unfolding render closed apart
never e e' s s' [] g l r p q a m = false-true a
never e e' s s' (x ∷ f) [] l r p q a m = false-true a
never e e' s s' (x ∷ f) (y ∷ g) l r p q a m =
    let p' = and-true (cond (letter? x) (opens f) true) _ p in
    let q' = and-true (cond (letter? y) (opens g) true) _ q in
    go (letter? x) (letter? y) (eqb x y) refl p'.0 q'.0 a m (never e e' s s' f g l r p'.1 q'.1)
  where
    go : (b c d : Bool) → eqb x y ≡ d → cond b (opens f) true ≡ true → cond c (opens g) true ≡ true
        → cond b (cond c (apart f g) (not (is_digit y))) (cond c (not (is_digit x)) (cond d (apart f g) true)) ≡ true
        → (cond b (number_text (slot e x)) (x ∷ []) ++ render e f) ++ l
        ≡ (cond c (number_text (slot e' y)) (y ∷ []) ++ render e' g) ++ r
        → (apart f g ≡ true → render e f ++ l ≡ render e' g ++ r → ⊥) → ⊥
    go true true d j o o' k m' n =
        n k
        (same_number_lem last_literal (slot e x) (slot e' y) (render e f ++ l) (render e' g ++ r) (s x) (s' y)
        (opens-stops e f l o) (opens-stops e' g r o') (simp append_assoc at m')).1
    go true false d j o o' k m' n =
        no-clash last_literal (slot e x) (render e f ++ l) y (render e' g ++ r) (s x) (opens-stops e f l o) k
        (simp append_assoc at m')
    go false true d j o o' k m' n =
        no-clash last_literal (slot e' y) (render e' g ++ r) x (render e f ++ l) (s' y) (opens-stops e' g r o') k
        (sym (simp append_assoc at m'))
    go false false true j o o' k m' n = n k (cc)
    go false false false j o o' k m' n = eqb-false x y j (cc)
