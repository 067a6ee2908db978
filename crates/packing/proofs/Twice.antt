-- Packing a packed table gives it again, whatever stands behind it: each operand is its own class, and the last two
-- reach each equation, so all are kept as they stand. Assumes nothing.
use mathlib.Core.Path.{◌≡◌, refl, ◌∙◌, sym, ap, ap₂, subst}
use mathlib.Core.Bool.{Bool, true, false, cond}
use mathlib.Core.List.{List, ◌∷◌, ◌++◌}
use Prim.Native.Nat.{ℕ, zero, suc, ◌+◌, ◌*◌, ◌≤◌, ◌<◌}
use native.Mathlib.Omega.{arith}
use native.Mathlib.Nat.{zero-add}
use native.Mathlib.Decide.{dec_lt}
use lib.Dec.{leb}
use lib.ListN.{length, take, drop}
use lib.Seq.{take-add, take-append_seam}
use Rattle.limits.specs.Limits.{table_room}
use Rattle.lists.specs.Number.{number_at}
use Rattle.lists.proofs.Buffers.{drop_more}
use Rattle.tables.specs.Table.{equation_at, checked}
use Rattle.packing.specs.Search.{count}
use Rattle.packing.specs.Operands.{uses}
use Rattle.packing.specs.Pack.{renamed, rounds, classes, kept, new_name, numbers, packed_below, packed}
use Rattle.packing.specs.Pack.{packed_count}
use Rattle.packing.specs.Packing.{packing, packing_if, after_pack, after_packing}
use Rattle.packing.specs.Laws.{Alike, Reached}
use Rattle.packing.specs.Laws.Reached.{last, through}
use Rattle.packing.proofs.Searches.{count_none}
use Rattle.packing.proofs.Keys.{key-alike, alike-key}
use Rattle.packing.proofs.Classes.{pass_same, Classes, classed, class-fixed, classes-settled, classes-fit}
use Rattle.packing.proofs.Classes.{fixed-finer}
use Rattle.packing.proofs.Marking.{Marks, marks-fit}
use Rattle.packing.proofs.Bisimulation.{alike-common, alike-converse, alike-named}
use Rattle.packing.proofs.Result.{origin, origin-of, origin-rises, count-run}
use Rattle.packing.proofs.Result.{kept_more, length-packed, Stands, PackedFront, stands, all_fit}
use Rattle.packing.proofs.Packs.{front, packs, room-decides}
use Rattle.std.specs.Prelude.{Ok, Err}
use Rattle.limits.specs.declared.Refusal.TheVariants.{ShortTable}
use Rattle.tables.specs.declared.Equation.{Equation}

-- The numbers of equation k stand behind those of the first k.
four-numbers : (s : List ℕ) (c : ℕ → ℕ) (m : ℕ → Bool) (k : ℕ) → 4 * suc k ≤ length s
    → take (4 * suc k) s ≡ take (4 * k) s ++ numbers s c m (equation_at s k)
four-numbers s c m k l =
    let z : 4 * suc k ≡ 4 * k + 4 = omega arith in
    ap (λ (i : ℕ). take i s) z ∙ take-add (4 * k) 4 s
    ∙ rw (
      next (4 * k) (4 * k + 1) (omega arith) (omega arith),
      next (4 * k + 1) (4 * k + 2) (omega arith) (omega arith),
      next (4 * k + 2) (4 * k + 3) (omega arith) (omega arith),
      next (4 * k + 3) (4 * k + 4) (omega arith) (omega arith),
    )
  where
    next : (i j : ℕ) → i + 1 ≡ j → i < length s → drop i s ≡ number_at s i ∷ drop j s
    next i j e u = rw (← e) (drop_more s i u)

-- If each of the first k equations is kept as it stands, packing these gives their numbers.
packed-whole : (s : List ℕ) (c : ℕ → ℕ) (m : ℕ → Bool) (k : ℕ) → 4 * k ≤ length s → ((x : ℕ) → x < k → m x ≡ true)
    → ((x : ℕ) → x < k → renamed (new_name s c m) (equation_at s x) ≡ equation_at s x)
    → packed_below s c m k ≡ take (4 * k) s
unfolding packed_below
packed-whole s c m zero l all-kept own = refl
packed-whole s c m (suc k) l all-kept own =
    kept_more s c m k (all-kept k (omega arith))
    ∙ ap₂ (λ (x : List ℕ) (e : Equation). x ++ numbers s c m e)
    (packed-whole s c m k (omega arith) (λ x u. all-kept x (omega arith)) (λ x u. own x (omega arith)))
    (own k (omega arith))
    ∙ sym (four-numbers s c m k l)

-- The table s that is packed from t, with any numbers behind it.
module _ (velocities : ℕ) (t : List ℕ) (n : ℕ) (passed : checked velocities t n ≡ Ok tt) (rest : List ℕ) where
  abbrev c : ℕ → ℕ
  c = classes t n

  abbrev m : ℕ → Bool
  m = kept t n

  abbrev s : List ℕ
  s = packed t n ++ rest

  abbrev size : ℕ
  size = packed_count t n

  abbrev from : ℕ → ℕ
  from = origin m n

  P : PackedFront velocities t n c m s
  P = front velocities t n passed rest

  -- Its own classes and marks.
  abbrev c' : ℕ → ℕ
  c' = classes s size

  abbrev m' : ℕ → Bool
  m' = kept s size

  C' : Classes s size c'
  C' = classes-fit velocities s size (all_fit P)

  M' : Marks s size c' m'
  M' = marks-fit velocities s size c' (all_fit P) C'

  -- Each round gives an operand of t and the equation that stands for its class in s one class,
  stands-round : (k y i : ℕ) → Stands n c m y i → rounds t k (from y) ≡ rounds t k i
  stands-round k y i h =
      let u = P.classes.least i h.given in
      ap (rounds t k) h.class
      ∙ fixed-finer velocities t n P.fit c (classes-settled velocities t n P.fit) k (c i) i
      (omega (arith, h.given)) h.given
      (class-fixed t n c P.classes i h.given)

  -- so equations of one class of s come from equations of one class of t.
  from-round : (k x y : ℕ) → x < size → y < size → c' x ≡ c' y → rounds t k (from x) ≡ rounds t k (from y)
  unfolding rounds
  from-round zero x y u v e = refl
  from-round (suc k) x y u v e =
      let r = rounds t k in
      let d = equation_at t (from x) in
      let keys = key-alike c' (equation_at s x) (equation_at s y) (classed s size c' C' x y u v e) in
      let half : Alike (λ b i. b < size → r (from b) ≡ r i) (equation_at s y) d =
      alike-common (λ a b. c' a ≡ c' b) (Stands n c m) (λ b i. b < size → r (from b) ≡ r i)
      (λ a b i q h l. from-round k b a l h.below (sym q) ∙ stands-round k a i h)
      (equation_at s x) (equation_at s y) d keys (stands P x u) in
      pass_same t r (from x) (from y)
      (alike-key r d (equation_at t (from y))
      (alike-common (λ b i. b < size → r (from b) ≡ r i) (Stands n c m) (λ i j. r i ≡ r j)
      (λ b i j q h. sym (q h.below) ∙ stands-round k b j h) (equation_at s y) d (equation_at t (from y)) half
      (stands P y v)))

  -- An equation that comes from a class is its own class,
  own-class : (x : ℕ) → x < size → c (from x) ≡ from x → c' x ≡ x
  own-class x l e =
      let u = C'.least x l in
      let o = origin-of m n (c' x) (omega arith) in
      let v = P.classes.least (from (c' x)) o.below in
      let same = from-round (n * n) (c' x) x (omega arith) l (class-fixed s size c' C' x l) ∙ e in
      elim (dec_lt (c' x) x) [
        | yes w ↦ absurd (omega (arith, origin-rises m n (c' x) x w l, same))
        | no w ↦ omega arith
      ]

  -- and each operand comes from a class. So a renaming that keeps what is its own class keeps each equation.
  module _ (f : ℕ → ℕ) (keeps : (z : ℕ) → z < size → c' z ≡ z → f z ≡ z) where
    operand-kept : (i y z : ℕ) → Stands n c m y i → Stands n c m z i → y ≡ f z
    operand-kept i y z p q =
        let a = origin-of m n y p.below in
        let b = origin-of m n z q.below in
        let class : c (from z) ≡ from z = rw q.class (class-fixed t n c P.classes i q.given) in
        sym a.place ∙ ap (count m) (p.class ∙ sym q.class) ∙ b.place
        ∙ sym (keeps z q.below (own-class z q.below class))

    equation-kept : (x : ℕ) → x < size → renamed f (equation_at s x) ≡ equation_at s x
    equation-kept x l =
        let d = equation_at t (from x) in
        let e = equation_at s x in
        let h = alike-converse (Stands n c m) (λ i y. Stands n c m y i) (λ y i w. w) e d (stands P x l) in
        sym (alike-named f e e
        (alike-common (λ i y. Stands n c m y i) (λ i y. Stands n c m y i) (λ y z. y ≡ f z) operand-kept d e e h h))

  -- The key of an equation is the equation itself, so what the last two reach is marked: all.
  reached-kept : {x : ℕ} → Reached s size x → (x < size) × (m' x ≡ true)
  reached-kept (last i l h) = (l, M'.last i h)
  reached-kept (through i j l r u) =
      let p = reached-kept r in
      let key = equation-kept c' (λ z v e. e) j p.0 in
      (l, M'.closed j p.0 p.1 i l (subst (λ (e : Equation). uses e i ≡ true) (sym key) u))

  all-kept : (x : ℕ) → x < size → m' x ≡ true
  all-kept x l = (reached-kept ((packs velocities t n passed rest).reached x l)).1

  -- Each is kept at its place, and so are their numbers.
  count-all : (k : ℕ) → k ≤ size → count m' k ≡ k
  count-all k l =
      sym (ap (count m') (zero-add k)) ∙ count-run m' 0 k (λ j u v. all-kept j (omega arith))
      ∙ omega (arith, count_none m')

  pub twice-count : packed_count (packed t n ++ rest) (packed_count t n) ≡ packed_count t n
  twice-count = count-all size (omega arith)

  pub twice-packed : packed (packed t n ++ rest) (packed_count t n) ≡ packed t n
  twice-packed =
      packed-whole s c' m' size P.long all-kept
      (equation-kept (new_name s c' m') (λ z l e. ap (count m') e ∙ count-all z (omega arith)))
      ∙ ap (λ (k : ℕ). take k s) (sym (length-packed t c m n)) ∙ take-append_seam (packed t n) rest

  -- SPEC 8.8: packing the packed table does what packing the given one does, so where the second table has room it
  -- gives the packed table again.
  pub twice : (second : List ℕ) → packing velocities (packed t n ++ rest) (packed_count t n) second
      ≡ packing velocities t n second
  unfolding packing after_packing
  twice second =
      rw (
        room-decides velocities s size second ((packs velocities t n passed rest).passes velocities passed) _ refl,
        room-decides velocities t n second passed _ refl,
      ) (either (leb table_room (length second)))
    where
      either : (b : Bool)
          → packing_if (cond b (Ok tt) (Err ShortTable)) s size second
          ≡ packing_if (cond b (Ok tt) (Err ShortTable)) t n second
      either true =
          ap₂ (λ (k : ℕ) (p : List ℕ). after_pack (Ok k) (p ++ drop (4 * k) second)) twice-count twice-packed
      either false = refl
