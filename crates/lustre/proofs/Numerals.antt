-- Decimal numbers: what is written is read back, and what is read was written. Assumes nothing.
use mathlib.Core.Path.{◌≡◌, refl, ◌∙◌, sym, ap}
use mathlib.Core.Bool.{Bool, true, false, cond, not}
use mathlib.Core.List.{List, [], ◌∷◌, ◌++◌, append_assoc}
use Prim.Native.Nat.{ℕ, zero, suc, ◌+◌, ◌*◌, ◌-◌, ◌/◌, ◌%◌, ◌≤◌, ◌<◌, ◌^◌}
use native.Mathlib.Omega.{arith}
use native.Mathlib.Nat.{div-lt_iff_lt-mul, pow-suc}
use lib.Dec.{ltb, leb, eqb}
use lib.ListN.{length, length-append}
use borrow.Author.Tests.{lt-ltb, le-ltb, ltb-true, ltb-false, le-leb, leb-true, ne_eqb, eqb-true, eqb-false, not-true}
use Rattle.lists.specs.Decimal.{Numeral, is_digit, digit, settled, digits_after, numeral}
use Rattle.lists.specs.Decimal.Numeral.{is, above, missing}
use Rattle.lists.proofs.Decimals.{digit-range}
use Rattle.lists.proofs.Choice.{chosen, false-true}
use Rattle.lustre.specs.Numerals.{digits, number_text}
use Rattle.lustre.proofs.Differ.{is-missing}

-- Any k that is large enough gives the same digits.
digits_same : (k m x : ℕ) → x ≤ k → x ≤ m → digits k x ≡ digits m x
unfolding digits
digits_same zero zero x p q = refl
digits_same zero (suc m) x p q = rw (lt-ltb x 10 (omega arith))
digits_same (suc k) zero x p q = rw (lt-ltb x 10 (omega arith))
digits_same (suc k) (suc m) x p q = go (ltb x 10) refl (λ h. digits_same k m (x / 10) (omega arith) (omega arith))
  where
    go : (b : Bool) → ltb x 10 ≡ b → (10 ≤ x → digits k (x / 10) ≡ digits m (x / 10))
        → digits (suc k) x ≡ digits (suc m) x
    go true e h = rw e
    go false e h = rw (e, h (ltb-false x 10 e))

-- One digit,
pub digits-one : (x : ℕ) → x < 10 → number_text x ≡ digit x ∷ []
unfolding number_text digits
digits-one zero h = refl
digits-one (suc x) h = rw (lt-ltb (suc x) 10 h)

-- or the last digit after the others.
pub digits_more : (x : ℕ) → 10 ≤ x → number_text x ≡ number_text (x / 10) ++ (digit (x % 10) ∷ [])
unfolding number_text digits
digits_more zero h = absurd (omega arith)
digits_more (suc x) h =
    rw (le-ltb (suc x) 10 h)
    (ap (λ (l : List ℕ). l ++ (digit (suc x % 10) ∷ []))
    (digits_same x (suc x / 10) (suc x / 10) (omega arith) (omega arith)))

-- One digit more.
digits-next : (x d : ℕ) → 0 < x → d < 10 → number_text (x * 10 + d) ≡ number_text x ++ (digit d ∷ [])
digits-next x d h g =
    let p : (x * 10 + d) / 10 ≡ x = omega arith in
    let q : (x * 10 + d) % 10 ≡ d = omega arith in
    digits_more (x * 10 + d) (omega arith) ∙ rw (p, q)

-- A number of at most k + 1 digits has a text of at most k + 1 bytes.
length-bounded : (k x : ℕ) → x < 10 ^ suc k → length (number_text x) ≤ suc k
length-bounded zero x h = rw (digits-one x (omega arith)) (omega arith)
length-bounded (suc k) x h =
    go (ltb x 10) refl
    (length-bounded k (x / 10) ((div-lt_iff_lt-mul (omega arith)).1 (rw (pow-suc 10 (suc k)) at h)))
  where
    go : (b : Bool) → ltb x 10 ≡ b → length (number_text (x / 10)) ≤ suc k → length (number_text x) ≤ suc (suc k)
    go true e g = rw (digits-one x (ltb-true x 10 e)) (omega arith)
    go false e g = rw (digits_more x (ltb-false x 10 e), length-append) (omega arith)

-- A number of 32 bits has at most ten digits.
pub digits-short : (x : ℕ) → x < 4294967296 → length (number_text x) ≤ 10
digits-short x h = length-bounded 9 x (omega arith)

digit-yes : (d : ℕ) → d < 10 → is_digit (digit d) ≡ true
unfolding is_digit
digit-yes d h = rw (le-leb 48 (48 + d) (omega arith), le-leb (48 + d) 57 (omega arith))

digit-back : (d : ℕ) → digit d - 48 ≡ d
digit-back d = omega arith

-- One digit more is read.
digit-read : (max x d : ℕ) (l : List ℕ) → d < 10 → digits_after max x (digit d ∷ l) ≡ digits_after max (x * 10 + d) l
unfolding digits_after
digit-read max x d l h = rw (digit-yes d h, digit-back d)

-- The first digit, which is not 0, is read.
first_read : (max x : ℕ) (l : List ℕ) → 0 < x → x < 10 → numeral max (digit x ∷ l) ≡ digits_after max x l
unfolding numeral
first_read max x l p h = rw (ne_eqb (48 + x) 48 (λ e. omega arith), digit-yes x h, digit-back x)

-- The digits that were written are read, and reading goes on after them.
digits-read : (k max x : ℕ) (l : List ℕ) → 0 < x → x ≤ k → numeral max (number_text x ++ l) ≡ digits_after max x l
digits-read zero max x l p h = absurd (omega arith)
digits-read (suc k) max x l p h =
    go (ltb x 10) refl (λ g. digits-read k max (x / 10) (digit (x % 10) ∷ l) (omega arith) (omega arith))
  where
    go : (b : Bool) → ltb x 10 ≡ b
        → (10 ≤ x
        → numeral max (number_text (x / 10) ++ (digit (x % 10) ∷ l)) ≡ digits_after max (x / 10) (digit (x % 10) ∷ l))
        → numeral max (number_text x ++ l) ≡ digits_after max x l
    go true e g = let one = ltb-true x 10 e in rw (digits-one x one) (first_read max x l p one)
    go false e g =
        let more = ltb-false x 10 e in
        let z : x / 10 * 10 + x % 10 ≡ x = omega arith in
        rw (digits_more x more, append_assoc) (g more ∙ digit-read max (x / 10) (x % 10) l (omega arith) ∙ rw z)

-- No digit stands at the front.
abbrev pub stops : List ℕ → Bool
stops [] = true
stops (d ∷ l) = not (is_digit d)

stopped : (max x : ℕ) (l : List ℕ) → stops l ≡ true → digits_after max x l ≡ settled max x l
unfolding digits_after
stopped max x [] h = refl
stopped max x (d ∷ l) h = rw (not-true (is_digit d) h)

-- A number that was written is read, and nothing after it.
pub reads-back : (max x : ℕ) (l : List ℕ) → x ≤ max → stops l ≡ true → numeral max (number_text x ++ l) ≡ is x l
unfolding numeral number_text digits
reads-back max zero l h s = refl
reads-back max (suc x) l h s =
    digits-read (suc x) max (suc x) l (omega arith) (omega arith) ∙ stopped max (suc x) l s ∙ rw (le-leb (suc x) max h)

-- A number that is read was written.
pub data Stood (max : ℕ) (l : List ℕ) : Numeral → Type 0 where
  stood : {y : ℕ} {r : List ℕ} → l ≡ number_text y ++ r → y ≤ max → Stood max l (is y r)
  higher : {r : List ℕ} → Stood max l (above r)
  nothing : Stood max l missing

settled-stood : (max x : ℕ) (l : List ℕ) → Stood max (number_text x ++ l) (settled max x l)
settled-stood max x l =
    chosen (Stood max (number_text x ++ l)) (leb x max) (λ e. stood refl (leb-true x max e)) (λ e. higher)

digits-stood : (max x : ℕ) (l : List ℕ) → 0 < x → Stood max (number_text x ++ l) (digits_after max x l)
unfolding digits_after
digits-stood max x [] p = settled-stood max x []
digits-stood max x (d ∷ l) p = go (is_digit d) refl (digits-stood max (x * 10 + (d - 48)) l (omega arith))
  where
    go : (b : Bool) → is_digit d ≡ b
        → Stood max (number_text (x * 10 + (d - 48)) ++ l) (digits_after max (x * 10 + (d - 48)) l)
        → Stood max (number_text x ++ (d ∷ l))
        (cond b (digits_after max (x * 10 + (d - 48)) l) (settled max x (d ∷ l)))
    go false e w = settled-stood max x (d ∷ l)
    go true e w =
        let range = digit-range d e in
        let z : 48 + (d - 48) ≡ d = omega arith in
        let same : number_text (x * 10 + (d - 48)) ++ l ≡ number_text x ++ (d ∷ l) =
        rw (digits-next x (d - 48) p (omega arith), append_assoc, z) in
        rw same at w

zero-stood : (max d : ℕ) (l : List ℕ) → d ≡ 48 → Stood max (d ∷ l) (is 0 l)
unfolding number_text digits
zero-stood max d l e = rw e (stood {y = 0} refl (omega arith))

pub number-stood : (max : ℕ) (l : List ℕ) → Stood max l (numeral max l)
unfolding numeral
number-stood max [] = nothing
number-stood max (d ∷ l) = go (eqb d 48) (is_digit d) refl refl
  where
    go : (b c : Bool) → eqb d 48 ≡ b → is_digit d ≡ c
        → Stood max (d ∷ l) (cond b (is 0 l) (cond c (digits_after max (d - 48) l) missing))
    go true c e f = zero-stood max d l (eqb-true d 48 e)
    go false false e f = nothing
    go false true e f =
        let range = digit-range d f in
        let other = eqb-false d 48 e in
        let z : 48 + (d - 48) ≡ d = omega arith in
        let same : number_text (d - 48) ++ l ≡ d ∷ l = rw (digits-one (d - 48) (omega arith), z) in
        rw same at (digits-stood max (d - 48) l (omega arith))

-- Two numbers at the front of one text are the same, and so is what follows them.
pub same_number_lem : (max v w : ℕ) (l r : List ℕ) → v ≤ max → w ≤ max → stops l ≡ true → stops r ≡ true
    → number_text v ++ l ≡ number_text w ++ r → (v ≡ w) × (l ≡ r)
same_number_lem max v w l r h g s t e =
    let a : is v l ≡ is w r = sym (reads-back max v l h s) ∙ ap (numeral max) e ∙ reads-back max w r g t in
    (cc, cc)

no_number : (max x : ℕ) (l : List ℕ) → not (is_digit x) ≡ true → numeral max (x ∷ l) ≡ missing
unfolding numeral is_digit
no_number max x l h =
    let other : x ≡ 48 → ⊥ = λ e. false-true (rw e at h) in
    rw (ne_eqb x 48 other, not-true (is_digit x) h)

-- A number's text does not begin with a byte that is no digit.
pub no-clash : (max v : ℕ) (l : List ℕ) (x : ℕ) (r : List ℕ) → v ≤ max → stops l ≡ true → not (is_digit x) ≡ true
    → number_text v ++ l ≡ x ∷ r → ⊥
no-clash max v l x r h s n e =
    is-missing (sym (reads-back max v l h s) ∙ ap (numeral max) e ∙ no_number max x r n)
