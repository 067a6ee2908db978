-- Laws that pin the interval meaning: what it is on a single tick, that a lead which is false stays false as the
-- interval grows (SPEC 3.9), that `lag` with n = 0 means what it means with n = 1, and what `lag` asks of one tick more
-- (SPEC 4.11). Assumes nothing.
use mathlib.Core.Path.{◌≡◌, refl, sym, ap, ◌∙◌}
use mathlib.Core.Bool.{Bool, true, false, ◌&&◌, ◌||◌, cond, false≢true, and-eq-true_iff, or-true}
use mathlib.Core.Logic.{◌↔◌, ⊎_elim}
use Prim.Native.Nat.{ℕ, zero, suc, ◌-◌, ◌≤◌, ◌<◌}
use native.Mathlib.Omega.{arith}
use native.Mathlib.Nat.{le_refl, eq-or-lt_of_le}
use native.Mathlib.Decide.{dec_le, dec_lt}
use lib.Dec.{leb, ltb}
use borrow.Author.Tests.{leb-true, ltb-true, le-leb, lt-leb, lt-ltb, le-ltb, eq-eqb}
use Rattle.traces.specs.Trace.{Trace, truth}
use Rattle.traces.specs.Compare.{compares}
use Rattle.traces.specs.declared.Op.{Op}
use Rattle.traces.specs.declared.Op.TheVariants.{AtMost as le, Below as lt, Equal as eq, Above as gt, AtLeast as ge}
use Rattle.formulas.specs.Formula.{Num, Prop, Formula}
use Rattle.formulas.specs.Formula.Num.{literal}
use Rattle.formulas.specs.Formula.Test.{begin, end, point, held, kept}
use Rattle.formulas.specs.Formula.Count.{sum, age}
use Rattle.formulas.specs.Formula.Formula.{test, len, count, lag, neg, and, or, then}
use Rattle.formulas.specs.Tree.{Tree, lead, upper}
use Rattle.formulas.specs.Meaning.{value, each, tally, streak, lagged, at, meaning}
use Rattle.formulas.specs.Laws.{InARow}
use Rattle.formulas.specs.Names.{num_names, names_parameter}
use Rattle.formulas.proofs.Formulas.{raw_p, raw}
use Rattle.formulas.proofs.Laws.{in_a_row, lag-iff}
use Rattle.formulas.proofs.Named.{Unchanging, named-left, named-right, value_same}

-- ---- on a single tick

-- One if x, else none: x as a number.
as_number : (x : Bool) → cond x 1 0 ≡ truth x
as_number true = refl
as_number false = refl

-- Of at most one number in a row up to b, b itself.
single-streak : (p : ℕ → Bool) (b : ℕ) → streak p b 0 ≡ truth (p b)
single-streak p zero = as_number (p zero)
single-streak p (suc b) = as_number (p (suc b))

module _ (trace : Trace) (p : Prop) (b : ℕ) where
  -- The interval b to b has no tick before its end,
  empty : b - b ≡ 0
  empty = omega arith

  -- so `kept` is true,
  pub kept-single : meaning trace (test kept p) b b ≡ true
  kept-single = rw empty

  -- `held` is false,
  pub held-single : meaning trace (test held p) b b ≡ false
  held-single = rw (le-ltb b b (le_refl b))

  -- `begin`, `end` and `point` are P at the tick,
  pub begin-single : meaning trace (test begin p) b b ≡ at trace p b
  begin-single = refl

  pub end-single : meaning trace (test end p) b b ≡ at trace p b
  end-single = refl

  pub point-single : meaning trace (test point p) b b ≡ at trace p b
  point-single = rw (eq-eqb b b refl)

  module _ (o : Op) (n : Num) where
    -- `len` and `sum` are 0,
    pub len-single : meaning trace (len o n) b b ≡ compares o 0 (value n (trace b))
    len-single = rw empty

    pub sum-single : meaning trace (count sum p o n) b b ≡ compares o 0 (value n (trace b))
    sum-single = rw empty

    -- and `age` is 1 or 0.
    pub age-single : meaning trace (count age p o n) b b ≡ compares o (truth (at trace p b)) (value n (trace b))
    age-single = rw (empty, single-streak (at trace p) b)

  -- In `lag` nothing is due: it is true.
  pub lag-single : (n : Num) (q : Prop) → meaning trace (lag p n q) b b ≡ true
  lag-single n q = rw empty

-- ---- leads

-- One number more: if each of them has p, then each without the last;
each-less : (p : ℕ → Bool) (i n : ℕ) → each p i (suc n) ≡ true → each p i n ≡ true
each-less p i zero h = refl
each-less p i (suc n) h =
    let x = (and-eq-true_iff (p i) (each p (suc i) (suc n))).0 h in
    (and-eq-true_iff (p i) (each p (suc i) n)).1 (x.0, each-less p (suc i) n x.1)

-- and no fewer have p than without the last.
tally-more : (p : ℕ → Bool) (i n : ℕ) → tally p i n ≤ tally p i (suc n)
tally-more p i zero = omega arith
tally-more p i (suc n) = go (p i) (tally p (suc i) n) (tally p (suc i) (suc n)) (tally-more p (suc i) n)
  where
    go : (x : Bool) (a b : ℕ) → a ≤ b → cond x (suc a) a ≤ cond x (suc b) b
    go true a b h = omega arith
    go false a b h = h

-- What `<=` or `<` says of a count it says of a smaller one.
compares-less : (o : Op) (x y n : ℕ) → upper o ≡ true → x ≤ y → compares o y n ≡ true → compares o x n ≡ true
compares-less le x y n u h e = le-leb x n (omega (arith, leb-true y n e))
compares-less lt x y n u h e = lt-ltb x n (omega (arith, ltb-true y n e))
compares-less eq x y n u h e = absurd (false≢true u)
compares-less gt x y n u h e = absurd (false≢true u)
compares-less ge x y n u h e = absurd (false≢true u)

-- Where a gives a' and b gives b', a or b gives a' or b'.
either : (a b a' b' : Bool) → (a ≡ true → a' ≡ true) → (b ≡ true → b' ≡ true) → a || b ≡ true → a' || b' ≡ true
either true b a' b' p q e = ap (λ (x : Bool). x || b') (p refl)
either false b a' b' p q e = ap (λ (x : Bool). a' || x) (q e) ∙ or-true a'

module _ (trace : Trace) where
  -- One tick more is one number more.
  later : (b e : ℕ) → b ≤ e → suc e - b ≡ suc (e - b)
  later b e h = omega arith

  -- SPEC 3.9: a lead that is true on b to e + 1 is true on b to e, where the parameters that it names do not change.
  pub lead-falls : (f : Formula) → Unchanging trace (names_parameter (raw f)) → lead (raw f) ≡ true →
      (b e : ℕ) → b ≤ e → meaning trace f b (suc e) ≡ true → meaning trace f b e ≡ true
  lead-falls (test begin p) same l b e h m = m
  lead-falls (test end p) same l b e h m = absurd (false≢true l)
  lead-falls (test point p) same l b e h m = absurd (false≢true l)
  lead-falls (test held p) same l b e h m = absurd (false≢true l)
  lead-falls (test kept p) same l b e h m = each-less (at trace p) b (e - b) (rw (later b e h) at m)
  lead-falls (len o n) same l b e h m =
      let unchanged = value_same trace n same (suc e) e in
      compares-less o (e - b) (suc e - b) (value n (trace e)) l (omega arith) (rw unchanged at m)
  lead-falls (count sum p o n) same l b e h m =
      let unchanged = value_same trace n (named-right (names_parameter (raw_p p)) _ same) (suc e) e in
      compares-less o (tally (at trace p) b (e - b)) (tally (at trace p) b (suc (e - b))) (value n (trace e)) l
      (tally-more (at trace p) b (e - b)) (rw (later b e h, unchanged) at m)
  lead-falls (count age p o n) same l b e h m = absurd (false≢true l)
  lead-falls (lag p n q) same l b e h m =
      let others = named-right (names_parameter (raw_p p)) _ same in
      let unchanged = value_same trace n (named-left (num_names n) (names_parameter (raw_p q)) others) (suc e) e in
      let longer = (lag-iff (at trace p) (value n (trace (suc e))) (at trace q) b (suc e)).0 m in
      (lag-iff (at trace p) (value n (trace e)) (at trace q) b e).1
      (λ i j l m u far. longer i j l m (omega arith) (omega (arith, unchanged)))
  lead-falls (neg f) same l b e h m = absurd (false≢true l)
  lead-falls (and f g) same l b e h m =
      let k = (and-eq-true_iff (lead (raw f)) (lead (raw g))).0 l in
      let x = (and-eq-true_iff (meaning trace f b (suc e)) (meaning trace g b (suc e))).0 m in
      (and-eq-true_iff (meaning trace f b e) (meaning trace g b e)).1 (
        lead-falls f (named-left _ _ same) k.0 b e h x.0,
        lead-falls g (named-right (names_parameter (raw f)) _ same) k.1 b e h x.1,
      )
  lead-falls (or f g) same l b e h m =
      let k = (and-eq-true_iff (lead (raw f)) (lead (raw g))).0 l in
      either (meaning trace f b (suc e)) (meaning trace g b (suc e)) (meaning trace f b e) (meaning trace g b e)
      (lead-falls f (named-left _ _ same) k.0 b e h)
      (lead-falls g (named-right (names_parameter (raw f)) _ same) k.1 b e h) m
  lead-falls (then f g) same l b e h m = absurd (false≢true l)

-- ---- `lag`

-- Two truth values that are true together are the same.
same_truth : (x y : Bool) → (x ≡ true) ↔ (y ≡ true) → x ≡ y
same_truth true y h = sym (h.0 refl)
same_truth false true h = h.1 refl
same_truth false false h = refl

-- SPEC 4.11: with n = 0 and with n = 1 it is two trees
pub lag-two : (p q : Tree) → ¬ (Tree.lag p (literal 0) q ≡ Tree.lag p (literal 1) q)
lag-two p q e = let n : ◌≡◌ {A = ℕ} 0 1 = cc in absurd (omega arith)

-- with one meaning, be n a literal or a parameter: i < j are 1 apart or more.
pub lag-nought : (trace : Trace) (p q : Prop) (n m : Num) (b e : ℕ) → value n (trace e) ≡ 0 → value m (trace e) ≡ 1 →
    meaning trace (lag p n q) b e ≡ meaning trace (lag p m q) b e
lag-nought trace p q n m b e none one =
    let with_none = lag-iff (at trace p) 0 (at trace q) b e in
    let with-one = lag-iff (at trace p) 1 (at trace q) b e in
    rw (none, one)
    (same_truth _ _ (
      λ h. with-one.1 (λ i j l m u far. with_none.0 h i j l m u (omega arith)),
      λ h. with_none.1 (λ i j l m u far. with-one.0 h i j l m u (omega arith)),
    ))

-- Of a run of r ticks of P up to one tick ago: it is shorter than n, or there is none, or x.
asked-iff : (r n : ℕ) (x : Bool) → ((ltb r n || leb r 0) || x ≡ true) ↔ (n ≤ r → 0 < r → x ≡ true)
asked-iff r n x = elim (dec_lt r n) [
  | yes short ↦ (λ e far some. absurd (omega arith), λ h. rw (lt-ltb r n short))
  | no far ↦ elim (dec_le r 0) [
    | yes none ↦ (λ e far some. absurd (omega arith), λ h. rw (le-ltb r n (omega arith), le-leb r 0 none))
    | no some ↦
        let long = le-ltb r n (omega arith) in
        let there = lt-leb r 0 (omega arith) in
        (λ e far some. rw (long, there) at e, λ h. rw (long, there) (h (omega arith) (omega arith)))
  ]
]

module _ (p : ℕ → Bool) (n : ℕ) (q : ℕ → Bool) (b e : ℕ) (h : b ≤ e) where
  -- P's run up to e.
  abbrev r : ℕ
  r = streak p e (e - b)

  run : InARow (λ i. p i ≡ true) b e r
  run = in_a_row p b e (e - b) (omega arith)

  -- P from i on up to e is no longer than the run.
  within-run : (i : ℕ) → b ≤ i → i ≤ e → ((k : ℕ) → i ≤ k → k < suc e → p k ≡ true) → suc e - i ≤ r
  within-run i l u on = elim (dec_le (suc e - i) r) [
    | yes short ↦ short
    | no far ↦
        absurd (run.no_more (e - r) (omega arith) (omega arith) (on (e - r) (omega arith) (omega arith)))
  ]

  -- One tick more: Q is asked for at it if the run up to e is n ticks or more, and a tick at least.
  pub lagged-next : lagged p n q b (suc e) ≡ lagged p n q b e && ((ltb r n || leb r 0) || q (suc e))
  lagged-next =
      same_truth _ _ (
        λ m.
            let longer = (lag-iff p n q b (suc e)).0 m in
            both.1 (
              (lag-iff p n q b e).1 (λ i j l k u. longer i j l k (omega arith)),
              (asked-iff r n (q (suc e))).1
                  (λ far some. longer (suc e - r) (suc e) (omega (arith, run.none_before)) (omega arith) (omega arith)
                  (omega (arith, run.none_before)) (λ k u v. run.have k (omega arith) (omega arith))),
            ),
        λ m. (lag-iff p n q b (suc e)).1 (follows (both.0 m).0 (both.0 m).1),
      )
    where
      last : Bool
      last = (ltb r n || leb r 0) || q (suc e)

      both : (lagged p n q b e && last ≡ true) ↔ ((lagged p n q b e ≡ true) × (last ≡ true))
      both = and-eq-true_iff (lagged p n q b e) last

      follows : lagged p n q b e ≡ true → last ≡ true → (i j : ℕ) → b ≤ i → i < j → j ≤ suc e → n ≤ j - i →
          ((k : ℕ) → i ≤ k → k < j → p k ≡ true) → q j ≡ true
      follows before now i j l m u far on =
          ⊎_elim
          (λ (s : j ≡ suc e).
          let whole = within-run i l (omega arith) (rw s at on) in
          rw s ((asked-iff r n (q (suc e))).0 now (omega arith) (omega arith)))
          (λ (s : j < suc e). (lag-iff p n q b e).0 before i j l m (omega arith) far on)
          (eq-or-lt_of_le u)
