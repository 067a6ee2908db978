-- The equations of a packed table, for any classes and marks that are settled, and for any list that has them at its
-- front, whatever stands behind. Each comes from a kept equation of the given table, and its operands stand for the
-- classes of the operands there. The other laws follow from that: the table passes the check, it has no more memories,
-- no two of its equations but the last two are equal, and its flows are those of the given table. Assumes nothing.
use mathlib.Core.Path.{◌≡◌, refl, ◌∙◌, sym, ap, subst}
use mathlib.Core.Bool.{Bool, true, false}
use mathlib.Core.List.{List, ◌++◌, append-nil}
use mathlib.Core.Logic.{inl, ⊎_elim}
use Prim.Native.Nat.{ℕ, zero, suc, ◌+◌, ◌*◌, ◌-◌, ◌≤◌, ◌<◌}
use native.Mathlib.Omega.{arith}
use native.Mathlib.Decide.{ℕ_discrete, dec_lt}
use lib.Dec.{ltb}
use lib.ListN.{length, length-append, get_or-append}
use lib.Seq.{get_or-append-add}
use borrow.Author.Tests.{eq-eqb, lt-ltb, le-ltb, le-leb}
use Rattle.traces.specs.Trace.{Trace}
use Rattle.lists.specs.Number.{number_at}
use Rattle.tables.specs.Table.{all, equation_at, equation_fits, kind_at, kind_of, shape_of, is_flow}
use Rattle.tables.specs.Table.{operand_fits}
use Rattle.tables.specs.Table.{shape_fits, equations_fit, checked, is_memory, memories}
use Rattle.tables.specs.Table.{closing_count, started_of, verdict_of, closes}
use Rattle.tables.specs.declared.Sort.{Sort}
use Rattle.tables.specs.declared.Operand.{Operand}
use Rattle.tables.specs.declared.Operand.TheVariants.{Unused, Earlier, Anywhere, Below, Velocity}
use Rattle.tables.proofs.Tests.{and-true, all-at, all_of}
use Rattle.tables.proofs.Checks.{checked-fitting, passed-both, long-enough}
use Rattle.flows.specs.Flow.{answer_of}
use Rattle.flows.specs.Lustre.{Solves}
use Rattle.flows.proofs.Ranges.{flow-below}
use Rattle.packing.specs.Search.{first, count}
use Rattle.packing.specs.Operands.{refers}
use Rattle.packing.specs.Pack.{renamed_number, renamed, key_at, new_name, numbers, packed_below}
use Rattle.packing.specs.Laws.{Agree, Alike, LiteralsBelow}
use Rattle.packing.proofs.Searches.{told, first_found, count_none, count-more, count_same, count-step, count-le}
use Rattle.packing.proofs.Searches.{count-below, count-rises, count-onto, count-fewer}
use Rattle.packing.proofs.Keys.{equation-same, both-fit, key-alike, alike-key, uses-a, uses-b, uses-c}
use Rattle.packing.proofs.Classes.{Classes, classed, class-fixed}
use Rattle.packing.proofs.Marking.{Marks}
use Rattle.packing.proofs.Bisimulation.{alike-common, alike-converse, renamed-alike, flows-alike}
use Rattle.std.specs.Prelude.{Ok}
use Rattle.std.specs.Prelude.{Some}
use Rattle.tables.specs.declared.Kind.TheVariants.{CompareLiteral}
use Rattle.tables.specs.declared.Equation.{Equation}

-- ---- where the equations come from

-- Of n equations, those that pass m are kept.
module _ (m : ℕ → Bool) (n : ℕ) where
  -- The kept equation before which x others are kept.
  unfoldable pub origin : ℕ → ℕ
  origin x = first (λ i. ltb x (count m (suc i))) n

  -- A kept equation is the one of its number.
  origin-at : (i : ℕ) → i < n → m i ≡ true → origin (count m i) ≡ i
  unfolding origin
  origin-at i l e =
      first_found (λ j. ltb (count m i) (count m (suc j))) n i (omega arith)
      (λ j u. le-ltb (count m i) (count m (suc j)) (count-rises m i (suc j) u))
      (inl (lt-ltb (count m i) (count m (suc i)) (omega (arith, count-more m i e))))

  -- Where at least x + 1 are kept, it is one of the n, it is kept, and x are kept before it.
  pub record Origin (x : ℕ) : Type 0 where
    pub below : origin x < n
    pub kept : m (origin x) ≡ true
    pub place : count m (origin x) ≡ x

  pub origin-of : (x : ℕ) → x < count m n → Origin x
  origin-of x l =
      let p = count-onto m n x l in
      let e : p.0 ≡ origin x = sym (origin-at p.0 p.1 p.2) ∙ ap origin p.3 in
      record { below = rw e at p.1; kept = rw e at p.2; place = rw e at p.3 }

  -- A later one comes from a later one.
  pub origin-rises : (x y : ℕ) → x < y → y < count m n → origin x < origin y
  origin-rises x y l u =
      let p = origin-of x (omega arith) in
      let q = origin-of y u in
      elim (dec_lt (origin x) (origin y)) [
        | yes v ↦ v
        | no v ↦ absurd (omega (arith, count-rises m (origin x) (origin y) (omega arith), p.place, q.place))
      ]

-- Where k numbers from i on all pass, each counts.
pub count-run : (f : ℕ → Bool) (i k : ℕ) → ((j : ℕ) → i ≤ j → j < i + k → f j ≡ true)
    → count f (i + k) ≡ count f i + k
count-run f i zero h = let z : i + 0 ≡ i = omega arith in rw z (omega arith)
count-run f i (suc k) h =
    let z : i + suc k ≡ suc (i + k) = omega arith in
    let before = count-run f i k (λ j u v. h j u (omega arith)) in
    rw z (omega (arith, count-more f (i + k) (h (i + k) (omega arith) (omega arith)), before))

-- ---- the numbers of the packed table

-- An equation of a list is that of the list with others behind it,
at_front : (l r : List ℕ) (x : ℕ) → 4 * x + 3 < length l → equation_at (l ++ r) x ≡ equation_at l x
at_front l r x h =
    equation-same _ _ (at (4 * x) (omega arith)) (at (4 * x + 1) (omega arith)) (at (4 * x + 2) (omega arith))
    (at (4 * x + 3) h)
  where
    at : (y : ℕ) → y < length l → number_at (l ++ r) y ≡ number_at l y
    at y u = get_or-append l r 0 y u

-- and the one right behind a list of x equations is the first of the numbers behind.
at-end : (l r : List ℕ) (x : ℕ) → length l ≡ 4 * x → equation_at (l ++ r) x ≡ equation_at r 0
at-end l r x h =
    equation-same _ _ (at 0 (4 * x) (omega arith)) (at 1 (4 * x + 1) (omega arith)) (at 2 (4 * x + 2) (omega arith))
    (at 3 (4 * x + 3) (omega arith))
  where
    at : (y z : ℕ) → z ≡ length l + y → number_at (l ++ r) z ≡ number_at r y
    at y z e = rw e (get_or-append-add l r y 0)

module _ (t : List ℕ) (c : ℕ → ℕ) (m : ℕ → Bool) where
  abbrev renamed_at : ℕ → Equation
  renamed_at i = renamed (new_name t c m) (equation_at t i)

  -- A kept equation adds its four numbers, another none.
  pub kept_more : (i : ℕ) → m i ≡ true
      → packed_below t c m (suc i) ≡ packed_below t c m i ++ numbers t c m (renamed (new_name t c m) (equation_at t i))
  unfolding packed_below
  kept_more i e = rw e

  pub kept_same : (i : ℕ) → m i ≡ false → packed_below t c m (suc i) ≡ packed_below t c m i
  unfolding packed_below
  kept_same i e = rw e (append-nil (packed_below t c m i))

  -- So there are four for each that is kept,
  pub length-packed : (i : ℕ) → length (packed_below t c m i) ≡ 4 * count m i
  unfolding packed_below
  length-packed zero = omega (arith, count_none m)
  length-packed (suc i) =
      let before = length-packed i in
      ⊎_elim
      (λ e. ap length (kept_more i e)
      ∙ omega (arith, before, count-more m i e, length-append (packed_below t c m i) (numbers t c m (renamed_at i))))
      (λ e. ap length (kept_same i e) ∙ omega (arith, before, count_same m i e)) (told (m i))

  -- and equation `count m i` of the packed table is equation i, renamed.
  packed-at : (k i : ℕ) → i < k → m i ≡ true → equation_at (packed_below t c m k) (count m i) ≡ renamed_at i
  unfolding packed_below
  packed-at zero i l e = absurd (omega arith)
  packed-at (suc k) i l e =
      elim (ℕ_discrete i k) [
        | yes q ↦ rw (q, kept_more k (rw q at e))
            (at-end (packed_below t c m k) (numbers t c m (renamed_at k)) (count m k) (length-packed k))
        | no q ↦ at_front (packed_below t c m k) _ (count m i)
            (omega (arith, length-packed k, count-below m k i e (omega arith)))
            ∙ packed-at k i (omega arith) e
      ]

-- The equations of t fit, the classes c and the marks m are settled, and the list `result` has the packed equations at
-- its front.
pub record PackedFront (velocities : ℕ) (t : List ℕ) (n : ℕ) (c : ℕ → ℕ) (m : ℕ → Bool) (result : List ℕ) : Type 0 where
  pub fit : all (equation_fits velocities t n) n ≡ true
  pub classes : Classes t n c
  pub marks : Marks t n c m
  pub long : 4 * count m n ≤ length result
  pub at : (i : ℕ) → i < n → m i ≡ true
      → equation_at result (count m i) ≡ renamed (new_name t c m) (equation_at t i)

-- So it is with the packed table and any numbers behind it.
pub packed-front : (velocities : ℕ) (t : List ℕ) (n : ℕ) (c : ℕ → ℕ) (m : ℕ → Bool)
    → all (equation_fits velocities t n) n ≡ true → Classes t n c → Marks t n c m
    → (rest : List ℕ) → PackedFront velocities t n c m (packed_below t c m n ++ rest)
packed-front velocities t n c m fit C M rest =
    let front = packed_below t c m n in
    let size = length-packed t c m n in
    record {
      fit = fit;
      classes = C;
      marks = M;
      long = omega (arith, size, length-append front rest);
      at = λ i l e. at_front front rest (count m i) (omega (arith, size, count-below m n i e l))
          ∙ packed-at t c m n i l e;
    }

-- ---- its laws

-- Equation i of n has a class that is kept.
abbrev ClassKept : ℕ → (ℕ → ℕ) → (ℕ → Bool) → ℕ → Type 0
ClassKept n c m i = (i < n) × (m (c i) ≡ true)

-- Operand y of the packed table stands for the class of operand i of the given one.
pub record Stands (n : ℕ) (c : ℕ → ℕ) (m : ℕ → Bool) (y i : ℕ) : Type 0 where
  pub below : y < count m n
  pub given : i < n
  pub class : origin m n y ≡ c i

-- The memories are a count.
memories-count : (t : List ℕ) (n : ℕ) → memories t n ≡ count (λ i. is_memory (kind_at t i)) n
unfolding count
memories-count t zero = refl
memories-count t (suc n) = rw (memories-count t n)

module _ {velocities : ℕ} {t : List ℕ} {n : ℕ} {c : ℕ → ℕ} {m : ℕ → Bool} {result : List ℕ}
    (P : PackedFront velocities t n c m result) where
  abbrev size : ℕ
  size = count m n

  abbrev from : ℕ → ℕ
  from = origin m n

  fit_at : (i : ℕ) → i < n → equation_fits velocities t n i ≡ true
  fit_at = all-at (equation_fits velocities t n) n P.fit

  -- The class of each operand of a kept equation is kept.
  operand-kept : (j : ℕ) → j < n → (o : Operand) (x : ℕ) → operand_fits velocities t n j o x ≡ true
      → ((y : ℕ) → y < n → refers o (renamed_number c o x) y ≡ true → m y ≡ true)
      → Agree (λ y z. ClassKept n c m y) o x x
  unfolding operand_fits Agree refers renamed_number
  operand-kept j l Unused x f k = refl
  operand-kept j l (Earlier s) x f k =
      let u = flow-below t j s x f in
      let v = P.classes.least x (omega arith) in
      (omega arith, k (c x) (omega arith) (eq-eqb (c x) (c x) refl))
  operand-kept j l (Anywhere s) x f k =
      let u = flow-below t n s x f in
      let v = P.classes.least x u in
      (u, k (c x) (omega arith) (eq-eqb (c x) (c x) refl))
  operand-kept j l (Below q) x f k = refl
  operand-kept j l Velocity x f k = refl

  operands-kept : (j : ℕ) → j < n → m j ≡ true → Alike (λ y z. ClassKept n c m y) (equation_at t j) (equation_at t j)
  unfolding renamed
  operands-kept j l e =
      let d = equation_at t j in
      let f = both-fit velocities t n j j d d refl (fit_at j l) (fit_at j l) in
      let k = P.marks.closed j l e in
      record {
        kind = refl;
        a = operand-kept j l _ d.a f.a.0 (λ y u v. k y u (uses-a (key_at t c j) y v));
        b = operand-kept j l _ d.b f.b.0 (λ y u v. k y u (uses-b (key_at t c j) y v));
        c = operand-kept j l _ d.c f.c.0 (λ y u v. k y u (uses-c (key_at t c j) y v));
      }

  -- So the operands of equation x stand for the classes of those of the equation that it comes from,
  name-stands : (i : ℕ) → ClassKept n c m i → Stands n c m (new_name t c m i) i
  name-stands i h =
      let u = P.classes.least i h.0 in
      record {
        below = count-below m n (c i) h.1 (omega (arith, h.0));
        given = h.0;
        class = origin-at m n (c i) (omega (arith, h.0)) h.1;
      }

  pub stands : (x : ℕ) → x < count m n → Alike (Stands n c m) (equation_at result x) (equation_at t (origin m n x))
  stands x l =
      let o = origin-of m n x l in
      let d = equation_at t (from x) in
      let e : equation_at result x ≡ renamed (new_name t c m) d =
      rw o.place at (P.at (from x) o.below o.kept) in
      subst (λ (w : Equation). Alike (Stands n c m) w d) (sym e)
      (renamed-alike (new_name t c m) (λ y z. ClassKept n c m y) (Stands n c m) name-stands d
      (operands-kept (from x) o.below o.kept))

  -- and it has the same kind.
  kind-from : (x : ℕ) → x < size → kind_at result x ≡ kind_at t (from x)
  kind-from x l = ap kind_of (stands x l).kind

  -- ---- it passes the check

  -- A class has the kind of its equations.
  class-kind : (i : ℕ) → i < n → kind_at t (c i) ≡ kind_at t i
  class-kind i l = ap kind_of (key-alike c (equation_at t (c i)) (equation_at t i) (P.classes.key i l)).kind

  -- Its operands have the sorts of those that they stand for,
  stands-flow : (k k' y i : ℕ) (s : Sort) → Stands n c m y i → y < k' → is_flow t k s i ≡ true
      → is_flow result k' s y ≡ true
  unfolding is_flow
  stands-flow k k' y i s h l f =
      let kind : kind_at result y ≡ kind_at t i =
      kind-from y h.below ∙ ap (kind_at t) h.class ∙ class-kind i h.given in
      rw (lt-ltb y k' l, kind) (and-true (ltb i k) _ f).1

  -- and stand before where those do, so each of its equations fits,
  number_fits : (x : ℕ) → x < size → (o : Operand) (y i : ℕ) → Agree (Stands n c m) o y i
      → operand_fits velocities t n (from x) o i ≡ true → operand_fits velocities result size x o y ≡ true
  unfolding Agree operand_fits
  number_fits x l Unused y i h f = rw h f
  number_fits x l (Earlier s) y i h f =
      let p = origin-of m n x l in
      let q = origin-of m n y h.below in
      let u = flow-below t (from x) s i f in
      let v = P.classes.least i h.given in
      let w = count-below m (from x) (from y) q.kept (omega (arith, h.class)) in
      stands-flow (from x) x y i s h (omega (arith, p.place, q.place)) f
  number_fits x l (Anywhere s) y i h f = stands-flow n size y i s h h.below f
  number_fits x l (Below q) y i h f = rw h f
  number_fits x l Velocity y i h f = rw h f

  equation-fits : (x : ℕ) → x < size → equation_fits velocities result size x ≡ true
  unfolding shape_fits
  equation-fits x l =
      let d = equation_at t (from x) in
      let h = stands x l in
      let fits = fit_at (from x) (origin-of m n x l).below in
      let f = both-fit velocities t n (from x) (from x) d d refl fits fits in
      rw (
        number_fits x l _ _ d.a h.a (rw h.kind f.a.0),
        number_fits x l _ _ d.b h.b (rw h.kind f.b.0),
        number_fits x l _ _ d.c h.c (rw h.kind f.c.0),
      )

  pub all_fit : all (equation_fits velocities result (count m n)) (count m n) ≡ true
  all_fit = all_of (equation_fits velocities result size) size equation-fits

  -- Its last two come from the given table's last two,
  last-count : (k : ℕ) → k ≤ closing_count → k ≤ n → size ≡ count m (n - k) + k
  last-count k u v =
      let z : n - k + k ≡ n = omega arith in
      rw z at (count-run m (n - k) k (λ j p q. P.marks.last j (omega arith)))

  from_last : (k : ℕ) → 0 < k → k ≤ closing_count → k ≤ n → from (size - k) ≡ n - k
  from_last k l u v =
      let z : size - k ≡ count m (n - k) = omega (arith, last-count k u v) in
      ap from z ∙ origin-at m n (n - k) (omega arith) (P.marks.last (n - k) (omega arith))

  -- so it closes as that one does.
  module _ (two : closing_count ≤ n) where
    two-too : closing_count ≤ count m n
    two-too = omega (arith, last-count closing_count (omega arith) two)

    pub from-started : origin m n (started_of (count m n)) ≡ started_of n
    from-started = from_last closing_count (omega arith) (omega arith) two

    pub from-verdict : origin m n (verdict_of (count m n)) ≡ verdict_of n
    from-verdict = from_last 1 (omega arith) (omega arith) (omega arith)

    closes-same : closes result size ≡ closes t n
    unfolding closes
    closes-same =
        let more = two-too in
        let started = kind-from (started_of size) (omega arith) ∙ ap (kind_at t) from-started in
        let verdict = kind-from (verdict_of size) (omega arith) ∙ ap (kind_at t) from-verdict in
        rw (le-leb closing_count n two, le-leb closing_count size more, started, verdict)

  pub passes : checked velocities t n ≡ Ok tt → checked velocities result (count m n) ≡ Ok tt
  unfolding equations_fit
  passes e =
      let f = checked-fitting velocities t n e in
      let closed = (and-true (all (equation_fits velocities t n) n) _ (passed-both velocities t n e).1).1 in
      long-enough velocities result size (omega (arith, two-too f.closed)) (omega (arith, count-le m n, f.few))
      P.long true true all_fit (closes-same f.closed ∙ closed)

  -- Its literals are the given ones.
  literal-same : (x : ℕ) → x < size → kind_at result x ≡ (Some CompareLiteral)
      → (equation_at result x).c ≡ (equation_at t (from x)).c
  unfolding Agree shape_of
  literal-same x l e =
      let h : Agree (Stands n c m) (shape_of (Some CompareLiteral)).c (equation_at result x).c (equation_at t (from x)).c =
      rw e at (stands x l).c in
      h

  pub literals : (k : ℕ) → LiteralsBelow t n k → LiteralsBelow result (count m n) k
  literals k low x l e =
      rw (literal-same x l e) (low (from x) (origin-of m n x l).below (sym (kind-from x l) ∙ e))

  -- Its memories are not more.
  pub fewer-memories : memories result (count m n) ≤ memories t n
  fewer-memories =
      rw (memories-count t n, memories-count result size)
      (count-fewer (λ i. is_memory (kind_at t i)) (λ i. is_memory (kind_at result i)) m n
      (λ i l e. ap is_memory (kind-from (count m i) (count-below m n i e l) ∙ ap (kind_at t) (origin-at m n i l e))))

  -- ---- no two but the last two are equal

  -- The given table's last two become the last two,
  pub last-two : (i : ℕ) → n ≤ i + closing_count → count m n ≤ count m i + closing_count
  last-two i l =
      omega (arith, count-rises m (suc (suc i)) n (omega arith), (count-step m i).1, (count-step m (suc i)).1)

  -- so each other comes from a class.
  pub from-class : (x : ℕ) → x + closing_count < count m n → c (origin m n x) ≡ origin m n x
  from-class x l =
      let o = origin-of m n x (omega arith) in
      ⊎_elim (λ q. absurd (omega (arith, last-two (from x) q, o.place))) (λ q. q)
      (P.marks.class (from x) o.below o.kept)

  -- Equal equations come from equations with the same key, and so of one class.
  same_class : (x y : ℕ) → x < size → y < size → equation_at result x ≡ equation_at result y → c (from x) ≡ c (from y)
  same_class x y u v e =
      let d = equation_at t (from x) in
      let d' = equation_at t (from y) in
      P.classes.one (from x) (from y) (origin-of m n x u).below (origin-of m n y v).below
      (alike-key c d d'
      (alike-common (Stands n c m) (Stands n c m) (λ a b. c a ≡ c b) (λ z a b p q. sym p.class ∙ q.class)
      (equation_at result x) d d' (stands x u)
      (subst (λ (w : Equation). Alike (Stands n c m) w d') (sym e) (stands y v))))

  pub distinct : (x y : ℕ) → x + closing_count < count m n → y + closing_count < count m n
      → equation_at result x ≡ equation_at result y → x ≡ y
  distinct x y u v e =
      let p = origin-of m n x (omega arith) in
      let q = origin-of m n y (omega arith) in
      let same = sym (from-class x u) ∙ same_class x y (omega arith) (omega arith) e ∙ from-class y v in
      sym p.place ∙ ap (count m) same ∙ q.place

  -- ---- its flows

  -- Equation i of the given table is of the class that equation x comes from: such equations are alike,
  OneClass : ℕ → ℕ → Type 0
  OneClass i x = c i ≡ c (from x)

  class-alike : (i x : ℕ) → i < n → x < size → OneClass i x → Alike OneClass (equation_at t i) (equation_at result x)
  unfolding OneClass
  class-alike i x u v r =
      let d = equation_at t (from x) in
      let o = origin-of m n x v in
      alike-common (λ b a. c b ≡ c a) (λ b y. Stands n c m y b) OneClass
      (λ b a y p h. sym p ∙ sym (class-fixed t n c P.classes b h.given) ∙ ap c (sym h.class))
      d (equation_at t i) (equation_at result x)
      (key-alike c d (equation_at t i) (classed t n c P.classes (from x) i o.below u (sym r)))
      (alike-converse (Stands n c m) (λ b y. Stands n c m y b) (λ y b h. h) (equation_at result x) d (stands x v))

  -- so its flows are those of the equations that they come from,
  module _ (cap : ℕ) (trace : Trace) (f g : ℕ → ℕ → ℕ) (F : Solves cap t n trace f)
      (G : Solves cap result (count m n) trace g) (k : ℕ) where
    pub flows-from : (x : ℕ) → x < count m n → f k (origin m n x) ≡ g k x
    unfolding OneClass
    flows-from x l =
        flows-alike cap velocities t result n size P.fit all_fit trace f g F G OneClass class-alike k (from x) x
        (origin-of m n x l).below l refl

    -- and both tables answer the same.
    pub answer-from : closing_count ≤ n → answer_of n (f k) ≡ answer_of (count m n) (g k)
    unfolding answer_of
    answer-from two =
        let more = two-too two in
        rw (
          ← flows-from (started_of size) (omega arith),
          ← flows-from (verdict_of size) (omega arith),
          from-started two,
          from-verdict two,
        )
