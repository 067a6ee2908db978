-- The statement of packing settles by itself the packed table, the answer and the second table. Let two tables be
-- packed from one, or from two lists with the same first n equations: the operands of these are below n, so what cannot
-- be told apart among them is the same in both lists. The last two equations of both packed tables stand for the given
-- table's last two. Where an equation of each stands for the same given equation, so do their operands, as only one
-- equation represents a given operand. So what an equation that the last two reach stands for, an equation of the other
-- table stands for too. Both tables keep the order of the given one, so these two equations have the same place, and
-- then the same numbers. Assumes nothing.
use mathlib.Core.Path.{◌≡◌, refl, ◌∙◌, sym, ap, ap₂, subst, subst₂}
use mathlib.Core.Bool.{Bool, true, ◌&&◌}
use mathlib.Core.List.{List, [], ◌∷◌, ◌++◌, append-nil}
use mathlib.Core.Logic.{⊎_elim}
use Prim.Native.Nat.{ℕ, zero, suc, ◌+◌, ◌*◌, ◌≤◌, ◌<◌}
use native.Mathlib.Omega.{arith}
use native.Mathlib.Nat.{eq-or-lt_of_le, min-le_left}
use native.Mathlib.Decide.{dec_lt, ℕ_discrete}
use lib.Dec.{ltb}
use lib.ListN.{length, take, drop, take-append-drop, length-take, drop_of_length-le}
use borrow.Author.Tests.{eqb-true, ltb-true, lt-ltb}
use Rattle.lists.specs.Number.{number_at}
use Rattle.lists.proofs.Buffers.{drop_more}
use Rattle.lists.proofs.Choice.{false-true}
use Rattle.tables.specs.Table.{equation_at, equation_fits, checked, started_of, verdict_of}
use Rattle.tables.specs.declared.Operand.{Operand}
use Rattle.tables.specs.declared.Operand.TheVariants.{Unused, Earlier, Anywhere, Below, Velocity}
use Rattle.tables.proofs.Tests.{and-true, all-at}
use Rattle.tables.proofs.Checks.{checked-fitting, failed-passed}
use Rattle.packing.specs.Operands.{refers, uses}
use Rattle.packing.specs.Laws.{Agree, Alike, Merged, Represents, Reached, Packs, Packed, PackAnswer}
use Rattle.packing.specs.Laws.Reached.{last, through}
use Rattle.packing.specs.Laws.PackAnswer.{not-checked, no_room, packed}
use Rattle.packing.proofs.Keys.{alike-below, uses-cases}
use Rattle.packing.proofs.Bisimulation.{alike_self, alike-common, alike-converse, alike-weaken, alike-named}
use Rattle.std.specs.Prelude.{Ok}
use Rattle.tables.specs.declared.Equation.{Equation}

-- ---- alike equations

-- An operand of an equation is related to an operand of any that is alike to it.
module _ (R : ℕ → ℕ → Type 0) (i : ℕ) where
  refers-related : (o : Operand) (x y : ℕ) → Agree R o x y → refers o x i ≡ true → (z : ℕ) × R i z
  unfolding Agree refers
  refers-related Unused x y h e = absurd (false-true e)
  refers-related (Earlier s) x y h e = (y, subst (λ w. R w y) (eqb-true x i e) h)
  refers-related (Anywhere s) x y h e = (y, subst (λ w. R w y) (eqb-true x i e) h)
  refers-related (Below m) x y h e = absurd (false-true e)
  refers-related Velocity x y h e = absurd (false-true e)

  uses-related : (d e : Equation) → Alike R d e → uses d i ≡ true → (z : ℕ) × R i z
  uses-related d e h =
      uses-cases d i (refers-related _ _ _ h.a) (refers-related _ _ _ h.b) (refers-related _ _ _ h.c)

-- Equations that are alike by equality are equal.
alike-equal : (d e : Equation) → Alike (λ x y. x ≡ y) d e → d ≡ e
alike-equal d e h = alike-named (λ x. x) d e h ∙ sym (alike-named (λ x. x) e e (alike_self e))

-- ---- lists with the same first equations

-- Both are one number below n.
abbrev Within : ℕ → ℕ → ℕ → Type 0
Within n x y = (y < n) × (x ≡ y)

-- The operands of an equation are below n.
abbrev OperandsBelow : ℕ → Equation → Type 0
OperandsBelow n e = Alike (Within n) e e

-- So it is with the equations of a table that passes the check.
operands-below : (velocities : ℕ) (t : List ℕ) (n : ℕ) → checked velocities t n ≡ Ok tt → (x : ℕ) → x < n
    → OperandsBelow n (equation_at t x)
operands-below velocities t n passed x l =
    let e = equation_at t x in
    let fit = all-at (equation_fits velocities t n) n (checked-fitting velocities t n passed).equations x l in
    alike-below velocities t n x x (omega arith) (omega arith) (λ y z. y ≡ z) (Within n) (λ y z u v q. (v, q)) e e
    fit fit (alike_self e)

-- Alike equations, the operands of one below m and those of the other below n, are alike by the relation restricted to
-- such numbers.
alike-within : (R : ℕ → ℕ → Type 0) (m n : ℕ) (d e : Equation) → OperandsBelow m d → OperandsBelow n e
    → Alike R d e → Alike (λ x y. (x < m) × (y < n) × R x y) d e
alike-within R m n d e u v h =
    let left = alike-common R (Within m) (λ y x. (x < m) × R x y)
    (λ x y z r q. (q.0, subst (λ w. R w y) q.1 r)) d e d h u in
    alike-common (λ y x. (x < m) × R x y) (Within n) (λ x y. (x < m) × (y < n) × R x y)
    (λ y x z r q. (r.0, q.0, subst (R x) q.1 r.1)) e d e left v

-- Lists s and t have the same first n equations, and both pass the check.
record SameFirst (velocities : ℕ) (s t : List ℕ) (n : ℕ) : Type 0 where
  passed : checked velocities s n ≡ Ok tt
  passed' : checked velocities t n ≡ Ok tt
  same : (x : ℕ) → x < n → equation_at s x ≡ equation_at t x

-- The two can be exchanged.
first-converse : {velocities : ℕ} {s t : List ℕ} {n : ℕ} → SameFirst velocities s t n → SameFirst velocities t s n
first-converse S = record { passed = S.passed'; passed' = S.passed; same = λ x l. sym (S.same x l) }

-- Equations below n that cannot be told apart in s cannot in t, by the relation in s, restricted to numbers below n,
merged-same : {velocities : ℕ} {s t : List ℕ} {n : ℕ} → SameFirst velocities s t n → (i j : ℕ) → i < n → j < n
    → Merged s i j → Merged t i j
merged-same {velocities} {s} {t} {n} S i j u v h =
    record { related = related; alike = alike; both = holds i j u v h.both }
  where
    related : ℕ → ℕ → Bool
    related x y = ltb x n && (ltb y n && h.related x y)

    Related : ℕ → ℕ → Type 0
    Related x y = related x y ≡ true

    holds : (x y : ℕ) → x < n → y < n → h.related x y ≡ true → Related x y
    holds x y l l' r = rw (lt-ltb x n l, lt-ltb y n l', r)

    alike : (x y : ℕ) → Related x y → Alike Related (equation_at t x) (equation_at t y)
    alike x y r =
        let p = and-true (ltb x n) _ r in
        let q = and-true (ltb y n) _ p.1 in
        let l = ltb-true x n p.0 in
        let l' = ltb-true y n q.0 in
        let d = equation_at s x in
        let e = equation_at s y in
        let operands = operands-below velocities s n S.passed in
        let below = alike-within (λ a b. h.related a b ≡ true) n n d e (operands x l) (operands y l')
        (h.alike x y q.1) in
        subst₂ (Alike Related) (S.same x l) (S.same y l')
        (alike-weaken _ Related (λ a b w. holds a b w.0 w.1 w.2) d e below)

-- so what represents equation i in s represents it in t.
represents-same : {velocities : ℕ} {s t : List ℕ} {n : ℕ} → SameFirst velocities s t n → (r i : ℕ) → r < n → i < n
    → Represents s n r i → Represents t n r i
represents-same S r i u v h =
    record {
      merged = merged-same S r i u v h.merged;
      first = λ j l m. h.first j l (merged-same (first-converse S) j i l v m);
    }

-- ---- one packed table

-- Only one equation represents equation i.
one-represents : (t : List ℕ) (n r r' i : ℕ) → r < n → r' < n → Represents t n r i → Represents t n r' i → r ≡ r'
one-represents t n r r' i u u' h h' = omega (arith, h.first r' u' h'.merged, h'.first r u h.merged)

-- A packed table t' of a list s with the first n equations of t.
module _ {velocities : ℕ} {s t : List ℕ} {n : ℕ} {t' : List ℕ} {n' : ℕ} (S : SameFirst velocities s t n)
    (P : Packs s n t' n') where
  -- Operand y of the packed table is one of its equations, and stands for operand i of the given one.
  record StandsFor (i y : ℕ) : Type 0 where
    below : y < n'
    first : Represents t n (P.from y) i

  -- So it is with the operands of each equation.
  operands-stand : (x : ℕ) → x < n' → Alike StandsFor (equation_at t (P.from x)) (equation_at t' x)
  operands-stand x l =
      let d = equation_at t' x in
      let e = equation_at s (P.from x) in
      let u = P.below x l in
      let below = alike-within (λ y i. Represents s n (P.from y) i) n' n d e
      (operands-below velocities t' n' (P.passes velocities S.passed) x l)
      (operands-below velocities s n S.passed (P.from x) u) (P.stands x l) in
      rw (← S.same (P.from x) u)
      (alike-converse _ StandsFor
      (λ y i h. record {
        below = h.0;
        first = represents-same S (P.from y) i (P.below y h.0) h.1 h.2;
      }) d e below)

  -- Equations stand in the order of the given equations that they stand for.
  from_le : (x y : ℕ) → x ≤ y → y < n' → P.from x ≤ P.from y
  from_le x y l u =
      ⊎_elim (λ e. rw e (omega arith)) (λ v. omega (arith, P.rising x y v u)) (eq-or-lt_of_le l)

-- ---- two packed tables

module _ {velocities : ℕ} {s s' t : List ℕ} {n : ℕ} {t' : List ℕ} {n' : ℕ} {t'' : List ℕ} {n'' : ℕ}
    (S : SameFirst velocities s t n) (S' : SameFirst velocities s' t n) (P : Packs s n t' n')
    (Q : Packs s' n t'' n'') where
  -- Equation x of the first and equation y of the second stand for the same given equation.
  record Same (x y : ℕ) : Type 0 where
    below : x < n'
    below' : y < n''
    origin : P.from x ≡ Q.from y

  -- Then they are alike, and their operands too stand for the same given equations.
  same_alike : (x y : ℕ) → Same x y → Alike Same (equation_at t' x) (equation_at t'' y)
  same_alike x y h =
      alike-common (StandsFor S P) (StandsFor S' Q) Same
      (λ i a b p q. record {
        below = p.below;
        below' = q.below;
        origin = one-represents t n (P.from a) (Q.from b) i (P.below a p.below) (Q.below b q.below)
            p.first q.first;
      }) (equation_at t (P.from x)) (equation_at t' x) (equation_at t'' y) (operands-stand S P x h.below)
      (rw h.origin (operands-stand S' Q y h.below'))

  -- For each equation that the last two of the first reach, the second has one that stands for the same,
  reached-same : {x : ℕ} → Reached t' n' x → (y : ℕ) × Same x y
  reached-same (last x l h) =
      let two = (checked-fitting velocities t'' n'' (Q.passes velocities S'.passed)).closed in
      elim (ℕ_discrete x (started_of n')) [
        | yes e ↦ with-origin (started_of n'') (omega arith) (ap P.from e ∙ P.started ∙ sym Q.started)
        | no e ↦ with-origin (verdict_of n'') (omega arith)
            (ap P.from (omega arith) ∙ P.verdict ∙ sym Q.verdict)
      ]
    where
      with-origin : (y : ℕ) → y < n'' → P.from x ≡ Q.from y → (z : ℕ) × Same x z
      with-origin y u e = (y, record { below = l; below' = u; origin = e })
  reached-same (through x j l r u) =
      let p = reached-same r in uses-related Same x _ _ (same_alike j p.0 p.1) u

  -- and not at an earlier place: it has one for each equation before, in the same order.
  same-le : (x y : ℕ) → Same x y → x ≤ y
  same-le zero y h = omega arith
  same-le (suc x) y h =
      let p = reached-same (P.reached x (omega (arith, h.below))) in
      let before = same-le x p.0 p.1 in
      let rises = P.rising x (suc x) (omega arith) h.below in
      elim (dec_lt p.0 y) [
        | yes l ↦ omega arith
        | no l ↦ absurd
            (omega (arith, from_le S' Q y p.0 (omega arith) p.1.below', p.1.origin, h.origin))
      ]

  -- So the second table has no fewer equations.
  no-fewer : n' ≤ n''
  no-fewer =
      elim (dec_lt n'' n') [
        | yes l ↦ let p = reached-same (P.reached n'' l) in
            absurd (omega (arith, same-le n'' p.0 p.1, p.1.below'))
        | no l ↦ omega arith
      ]

-- SPEC 16.1: a packed table is one, with one n and each equation the same, whatever numbers the given list has behind
-- its n equations.
pub one-packed : (velocities : ℕ) (t s : List ℕ) (n : ℕ) (t' : List ℕ) (n' : ℕ) (t'' : List ℕ) (n'' : ℕ)
    → checked velocities t n ≡ Ok tt → checked velocities s n ≡ Ok tt
    → ((i : ℕ) → i < n → equation_at t i ≡ equation_at s i) → Packs t n t' n' → Packs s n t'' n''
    → (n' ≡ n'') × ((x : ℕ) → x < n' → equation_at t' x ≡ equation_at t'' x)
one-packed velocities t s n t' n' t'' n'' passed passed' same P Q =
    (omega (arith, no-fewer T S P Q, no-fewer S T Q P), equations)
  where
    T : SameFirst velocities t t n
    T = record { passed = passed; passed' = passed; same = λ i l. refl }

    S : SameFirst velocities s t n
    S = record { passed = passed'; passed' = passed; same = λ i l. sym (same i l) }

    -- Equations of both that stand for the same one have the same place.
    place : (x y : ℕ) → Same T S P Q x y → x ≡ y
    place x y h =
        let back : Same S T Q P y x = record { below = h.below'; below' = h.below; origin = sym h.origin } in
        omega (arith, same-le T S P Q x y h, same-le S T Q P y x back)

    equations : (x : ℕ) → x < n' → equation_at t' x ≡ equation_at t'' x
    equations x l =
        let p = reached-same T S P Q (P.reached x l) in
        let d = equation_at t' x in
        let e = equation_at t'' p.0 in
        alike-equal d e
        (alike-weaken (Same T S P Q) (λ a b. a ≡ b) place d e (same_alike T S P Q x p.0 p.1))
        ∙ ap (equation_at t'') (sym (place x p.0 p.1))

-- ---- one answer

-- The four numbers of an equation, and others behind them.
abbrev followed : Equation → List ℕ → List ℕ
followed e rest = e.kind ∷ e.a ∷ e.b ∷ e.c ∷ rest

-- From the place of equation k on stand its numbers, and behind them what stands from the next equation's place on,
equation-followed : (s : List ℕ) (k : ℕ) → 4 * suc k ≤ length s
    → drop (4 * k) s ≡ followed (equation_at s k) (drop (4 * suc k) s)
equation-followed s k l =
    rw (
      next (4 * k) (4 * k + 1) (omega arith) (omega arith),
      next (4 * k + 1) (4 * k + 2) (omega arith) (omega arith),
      next (4 * k + 2) (4 * k + 3) (omega arith) (omega arith),
      next (4 * k + 3) (4 * suc k) (omega arith) (omega arith),
    )
  where
    next : (i j : ℕ) → i + 1 ≡ j → i < length s → drop i s ≡ number_at s i ∷ drop j s
    next i j e u = rw (← e) (drop_more s i u)

-- so tables with the same first k equations and the same numbers behind these are equal.
tables-same : (k : ℕ) (s s' : List ℕ) → 4 * k ≤ length s → 4 * k ≤ length s'
    → ((x : ℕ) → x < k → equation_at s x ≡ equation_at s' x) → drop (4 * k) s ≡ drop (4 * k) s' → s ≡ s'
tables-same zero s s' l l' same behind = behind
tables-same (suc k) s s' l l' same behind =
    tables-same k s s' (omega arith) (omega arith) (λ x u. same x (omega arith))
    (equation-followed s k l ∙ ap₂ followed (same k (omega arith)) behind ∙ sym (equation-followed s' k l'))

-- Two packed tables of lists with the same first n equations have the same numbers.
pub one-front : (velocities : ℕ) (t s : List ℕ) (n n' : ℕ) (after : List ℕ) (n'' : ℕ) (after' : List ℕ)
    → checked velocities t n ≡ Ok tt → checked velocities s n ≡ Ok tt
    → ((i : ℕ) → i < n → equation_at t i ≡ equation_at s i)
    → ((rest : List ℕ) → Packs t n (take (4 * n') after ++ rest) n')
    → ((rest : List ℕ) → Packs s n (take (4 * n'') after' ++ rest) n'')
    → (n' ≡ n'') × (take (4 * n') after ≡ take (4 * n'') after')
one-front velocities t s n n' after n'' after' passed passed' same h h' =
    let u = take (4 * n') after in
    let v = take (4 * n'') after' in
    let P : Packs t n u n' = rw (append-nil u) at (h []) in
    let Q : Packs s n v n'' = rw (append-nil v) at (h' []) in
    let one = one-packed velocities t s n u n' v n'' passed passed' same P Q in
    let long = (checked-fitting velocities u n' (P.passes velocities passed)).whole in
    let whole = (checked-fitting velocities v n'' (Q.passes velocities passed')).whole in
    let end : drop (4 * n') v ≡ [] = rw one.0 (ends n'' after') in
    let numbers = tables-same n' u v long (omega (arith, one.0)) one.1 (ends n' after ∙ sym end) in
    (one.0, numbers)
  where
    ends : (k : ℕ) (u : List ℕ) → drop (4 * k) (take (4 * k) u) ≡ []
    ends k u = drop_of_length-le (take (4 * k) u) {i = 4 * k} (rw (length-take (4 * k) u) (min-le_left _ _))

-- Two packed tables with the same numbers, put into one second table, leave the same there: the numbers behind them are
-- kept.
one-second : (before : List ℕ) (n' : ℕ) (after : List ℕ) (n'' : ℕ) (after' : List ℕ)
    → drop (4 * n') after ≡ drop (4 * n') before → drop (4 * n'') after' ≡ drop (4 * n'') before
    → (n' ≡ n'') × (take (4 * n') after ≡ take (4 * n'') after')
    → ◌≡◌ {A = Packed} (Ok n') (Ok n'') × (after ≡ after')
one-second before n' after n'' after' behind behind' one =
    let kept = behind ∙ ap (λ k. drop (4 * k) before) one.0 ∙ sym behind' in
    let same = sym (take-append-drop (4 * n') after) ∙ ap₂ ◌++◌ one.1 kept ∙ take-append-drop (4 * n'') after' in
    (ap Ok one.0, same)

-- SPEC 8.8: packing a table into a second one has one answer, and leaves one second table.
pub one_answer : {velocities : ℕ} {t : List ℕ} {n : ℕ} {before : List ℕ} {r r' : Packed} {after after' : List ℕ}
    → PackAnswer velocities t n before r after → PackAnswer velocities t n before r' after'
    → (r ≡ r') × (after ≡ after')
one_answer (not-checked e) (not-checked e') = (cc, refl)
one_answer (not-checked e) (no_room p l) = absurd (failed-passed (sym e ∙ p))
one_answer (not-checked e) (packed p l s b h) = absurd (failed-passed (sym e ∙ p))
one_answer (no_room p l) (not-checked e) = absurd (failed-passed (sym e ∙ p))
one_answer (no_room p l) (no_room p' l') = (refl, refl)
one_answer (no_room p l) (packed p' l' s b h) = absurd (omega arith)
one_answer (packed p l s b h) (not-checked e) = absurd (failed-passed (sym e ∙ p))
one_answer (packed p l s b h) (no_room p' l') = absurd (omega arith)
one_answer (packed p l s b h) (packed p' l' s' b' h') =
    one-second _ _ _ _ _ b b' (one-front _ _ _ _ _ _ _ _ p p' (λ i u. refl) h h')
