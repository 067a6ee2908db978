-- The equations of every proposition and of every formula fit. Assumes nothing.
use mathlib.Core.Bool.{Bool, true, ◌&&◌, ◌||◌, or-true, and-eq-true_iff}
use mathlib.Core.List.{List, [], ◌∷◌, ◌++◌}
use mathlib.Core.Path.{◌≡◌, refl}
use Prim.Native.Nat.{ℕ, ◌≤◌}
use native.Mathlib.Omega.{arith}
use borrow.Author.Tests.{eq-eqb}
use Rattle.formulas.specs.Formula.{Num, Prop, Formula}
use Rattle.formulas.specs.Formula.Prop.{constant, signal, velocity, neg_p, and_p, or_p}
use Rattle.formulas.specs.Formula.Test.{begin, end, point, held, kept}
use Rattle.formulas.specs.Formula.Count.{sum, age}
use Rattle.formulas.specs.Formula.Formula.{test, len, count, lag, neg, and, or, then}
use Rattle.formulas.specs.Bounds.{bounded, num_bound}
use Rattle.formulas.specs.Raw.{raw_p, raw}
use Rattle.tables.specs.Table.{equation, kind_of, shape_of, same_sort}
use Rattle.tables.specs.Kind.{VELOCITY}
use Rattle.limits.specs.Limits.{literal_count}
use Rattle.tables.specs.declared.Sort.TheVariants.{Boolean}
use Rattle.scheme.specs.Scheme.{◌⊕◌, Node, and_node, or_node}
use Rattle.scheme.specs.Emit.{Block, place_after, own_flow, emit_p, emit, named_by_p, named_by, join-block}
use Rattle.scheme.specs.Emit.{not-es, and-es, or-es, tests_p, tests_of, next_test_p, next_test}
use Rattle.scheme.specs.Emit.{begin-es, point-es, kept-es, held-es, sum-es, age-es, run-es, fine-es, always-es}
use Rattle.scheme.specs.Emit.{lead-end-es, then-es, after_run, after_fine}
use Rattle.scheme.proofs.Places.{after-append, after-later, Each, each_left, each_right, each-join}
use Rattle.scheme.proofs.Roles.{Before, later, Fits, KindAt}
use Rattle.scheme.proofs.Rows.{Fine, here, constant-fine, not-fine, and-fine, or-fine}
use Rattle.scheme.proofs.Rows.{begin-fine, point-fine, kept_fine, held-fine, len-fine, sum-fine, age-fine}
use Rattle.scheme.proofs.Rows.{always-fine, run-fine, due-fine, lead-end-fine, rest-fine}
use Rattle.tables.specs.declared.Equation.{Equation}

-- In a table t of N equations:
module _ (velocities : ℕ) (t : List ℕ) (N : ℕ) where
  -- The table has the kinds of these equations from place o on.
  abbrev pub Kinded : ℕ → List Equation → Type 0
  Kinded = Each (KindAt t)

  -- The equations fit, and the flow v is a boolean of theirs or before them.
  abbrev pub AllFine : ℕ → List Equation → ℕ → Type 0
  AllFine o es v = Fine velocities t N o es (place_after o es) v

  -- ---- equations one after the other

  left : (xs ys : List Equation) (o : ℕ) → Kinded o (xs ++ ys) → Kinded o xs
  left = each_left (KindAt t)

  right : (xs ys : List Equation) (o : ℕ) → Kinded o (xs ++ ys) → Kinded (place_after o xs) ys
  right = each_right (KindAt t)

  pub follow : (xs ys : List Equation) (o v : ℕ) → Each (Fits velocities t N) o xs → AllFine (place_after o xs) ys v
      → AllFine o (xs ++ ys) v
  follow xs ys o v h g = (each-join (Fits velocities t N) xs ys o h g.0, rw (after-append xs ys o) g.1)

  -- If there is room for all of them, there is for the first ones and for the others.
  room-left : (xs ys : List Equation) (o : ℕ) → place_after o (xs ++ ys) ≤ N → place_after o xs ≤ N
  room-left xs ys o h = omega (arith, rw (after-append xs ys o) at h, after-later ys (place_after o xs))

  room-right : (xs ys : List Equation) (o : ℕ) → place_after o (xs ++ ys) ≤ N → place_after (place_after o xs) ys ≤ N
  room-right xs ys o h = rw (after-append xs ys o) at h

  -- Equations that fit and give A, and others after them that fit once A is given.
  in-turn : {A : Type 0} (xs ys : List Equation) (o v : ℕ) → place_after o (xs ++ ys) ≤ N → Kinded o (xs ++ ys)
      → (place_after o xs ≤ N → Kinded o xs → Each (Fits velocities t N) o xs × A)
      → (A → place_after (place_after o xs) ys ≤ N → Kinded (place_after o xs) ys → AllFine (place_after o xs) ys v)
      → AllFine o (xs ++ ys) v
  in-turn xs ys o v room kinds first rest =
      let h = first (room-left xs ys o room) (left xs ys o kinds) in
      follow xs ys o v h.0 (rest h.1 (room-right xs ys o room) (right xs ys o kinds))

  -- A block that fits, negated,
  negated-fine : (o : ℕ) (x : Block) → let row : List Equation = not-es (place_after o x.es) x.out in
      place_after o (x.es ++ row) ≤ N → Kinded o (x.es ++ row) → AllFine o x.es x.out
      → AllFine o (x.es ++ row) (place_after o x.es)
  negated-fine o x room kinds fine =
      let o' : ℕ = place_after o x.es in
      in-turn x.es (not-es o' x.out) o o' room kinds (λ room kinds. fine) (λ bx. not-fine velocities t N o' bx)

  -- and two blocks that fit, joined by a row that fits.
  abbrev Joins : (ℕ → ℕ → ℕ → List Equation) → Node → Type 0
  Joins join d =
      (o : ℕ) (x y : Block) → place_after o (join-block join d o x y).es ≤ N → Kinded o (join-block join d o x y).es
      → AllFine o x.es x.out → AllFine (place_after o x.es) y.es y.out
      → AllFine o (join-block join d o x y).es (join-block join d o x y).out

  module _ (join : ℕ → ℕ → ℕ → List Equation) (d : Node)
      (row_fine : (o a b : ℕ) → Before t o Boolean a → Before t o Boolean b → place_after o (join o a b) ≤ N
      → Kinded o (join o a b) → AllFine o (join o a b) (own_flow o d.result)) where
    joined-fine : Joins join d
    joined-fine o x y room kinds h g =
        let o' : ℕ = place_after o x.es in
        let o'' : ℕ = place_after o' y.es in
        let row : List Equation = join o'' x.out y.out in
        let v : ℕ = own_flow o'' d.result in
        in-turn x.es (y.es ++ row) o v room kinds (λ room kinds. h)
        (λ bx room kinds. in-turn y.es row o' v room kinds (λ room kinds. g)
        (row_fine o'' x.out y.out (later bx (after-later y.es o'))))

  join-and : Joins and-es and_node
  join-and = joined-fine and-es and_node (λ o a b ba bb. and-fine velocities t N o ba bb)

  join-or : Joins or-es or_node
  join-or = joined-fine or-es or_node (λ o a b ba bb. or-fine velocities t N o ba bb)

  module _ (flow_of : ℕ → ℕ) where
    -- ---- propositions

    -- The flow of each named signal is a boolean before place o.
    abbrev pub Named : (ℕ → Bool) → ℕ → Type 0
    Named named o = (j : ℕ) → named j ≡ true → Before t o Boolean (flow_of j)

    -- What stands before place o of the leaves: the flows of the signals that they name, and their tests, from place u
    -- on.
    pub record Leaves (names : ℕ → Bool) (tests : List Equation) (u o : ℕ) : Type 0 where
      pub named : Named names o
      pub kinds : Kinded u tests
      pub early : place_after u tests ≤ o

    -- The leaves of either of two parts; the second of them stands later, and so do its tests.
    leaves-left : {u o : ℕ} (x y : ℕ → Bool) (xs ys : List Equation) → Leaves (λ j. x j || y j) (xs ++ ys) u o
        → Leaves x xs u o
    leaves-left {u} {o} x y xs ys h =
        record {
          named = λ j e. h.named j (rw e);
          kinds = left xs ys u h.kinds;
          early = omega (arith, rw (after-append xs ys u) at h.early, after-later ys (place_after u xs));
        }

    leaves-right : {u o o' : ℕ} (x y : ℕ → Bool) (xs ys : List Equation) → Leaves (λ j. x j || y j) (xs ++ ys) u o
        → o ≤ o' → Leaves y ys (place_after u xs) o'
    leaves-right {u} x y xs ys h far =
        record {
          named = λ j e. later (h.named j (rw e (or-true (x j)))) far;
          kinds = right xs ys u h.kinds;
          early = omega (arith, rw (after-append xs ys u) at h.early);
        }

    -- The test of one leaf.
    test-fine : {names : ℕ → Bool} {a b u o : ℕ} → Leaves names (equation VELOCITY a b 0 ∷ []) u o
        → Before t o Boolean u
    unfolding kind_of shape_of same_sort
    test-fine {u = u} {o} h = later (here velocities t N o u VELOCITY h.kinds.0 refl) h.early

    -- The equations of a proposition from place o on fit.
    abbrev PropFine : Prop → ℕ → ℕ → Type 0
    PropFine p u o =
        Leaves (named_by_p p) (tests_p p) u o → place_after o (emit_p flow_of p u o).es ≤ N
        → Kinded o (emit_p flow_of p u o).es → AllFine o (emit_p flow_of p u o).es (emit_p flow_of p u o).out

    -- Two propositions that are joined by `&` or `|`.
    both-fine : (join : ℕ → ℕ → ℕ → List Equation) (d : Node) → Joins join d → (p q : Prop) (u o : ℕ) →
        let x : Block = emit_p flow_of p u o in
        let o' : ℕ = place_after o x.es in
        let y : Block = emit_p flow_of q (next_test_p u p) o' in
        PropFine p u o → PropFine q (next_test_p u p) o'
        → Leaves (λ j. named_by_p p j || named_by_p q j) (tests_p p ++ tests_p q) u o
        → place_after o (join-block join d o x y).es ≤ N → Kinded o (join-block join d o x y).es
        → AllFine o (join-block join d o x y).es (join-block join d o x y).out
    both-fine join d joins p q u o p-fine q-fine leaves room kinds =
        let x : Block = emit_p flow_of p u o in
        let o' : ℕ = place_after o x.es in
        let y : Block = emit_p flow_of q (next_test_p u p) o' in
        let leaves-p = leaves-left (named_by_p p) (named_by_p q) (tests_p p) (tests_p q) leaves in
        let leaves-q = leaves-right (named_by_p p) (named_by_p q) (tests_p p) (tests_p q) leaves (after-later x.es o) in
        joins o x y room kinds
        (p-fine leaves-p (room-left x.es _ o room) (left x.es _ o kinds))
        (q-fine leaves-q (room-left y.es _ o' (room-right x.es _ o room))
        (left y.es _ o' (right x.es _ o kinds)))

    prop-fine : (p : Prop) (u o : ℕ) → PropFine p u o
    prop-fine (constant c) u o leaves room kinds = constant-fine velocities t N o c room kinds
    prop-fine (signal j) u o leaves room kinds = (tt, leaves.named j (eq-eqb j j refl))
    prop-fine (velocity op n) u o leaves room kinds = (tt, test-fine leaves)
    prop-fine (neg_p p) u o leaves room kinds =
        let x : Block = emit_p flow_of p u o in
        negated-fine o x room kinds (prop-fine p u o leaves (room-left x.es _ o room) (left x.es _ o kinds))
    prop-fine (and_p p q) u o leaves room kinds =
        both-fine and-es and_node join-and p q u o (prop-fine p u o) (prop-fine q _ _) leaves room kinds
    prop-fine (or_p p q) u o leaves room kinds =
        both-fine or-es or_node join-or p q u o (prop-fine p u o) (prop-fine q _ _) leaves room kinds

    -- ---- what is given of a formula, and of its parts

    -- Of equations es from place o on, with the start flow s and its negation n: the formula's numbers are bounded,
    -- the signals that it names, its tests, s and n stand before, the table has the kinds of es and room for them.
    pub record Given (bounds : Bool) (names : ℕ → Bool) (tests : List Equation) (s n u o : ℕ) (es : List Equation)
        : Type 0 where
      pub bound : bounds ≡ true
      pub leaves : Leaves names tests u o
      pub start : Before t o Boolean s
      pub negation : Before t o Boolean n
      pub kinds : Kinded o es
      pub room : place_after o es ≤ N

    abbrev pub GivenOf : ℕ → Formula → ℕ → ℕ → ℕ → ℕ → Type 0
    GivenOf cap f s n u o =
        Given (bounded cap velocities (raw f)) (named_by f) (tests_of f) s n u o (emit flow_of f s n u o).es

    -- An atom, from the rows that follow its proposition's equations.
    with-prop : {bounds : Bool} {s n u o : ℕ} (rows : ℕ → ℕ → List Equation) (j : ℕ) (p : Prop) →
        let x : Block = emit_p flow_of p u o in
        let o' : ℕ = place_after o x.es in
        (Before t o' Boolean s → Before t o' Boolean n → Before t o' Boolean x.out
        → place_after o' (rows o' x.out) ≤ N → Kinded o' (rows o' x.out) → AllFine o' (rows o' x.out) (o' ⊕ j))
        → Given bounds (named_by_p p) (tests_p p) s n u o (x.es ++ rows o' x.out)
        → AllFine o (x.es ++ rows o' x.out) (o' ⊕ j)
    with-prop {u = u} {o} rows j p rows-fine given =
        let x : Block = emit_p flow_of p u o in
        let o' : ℕ = place_after o x.es in
        let far : o ≤ o' = after-later x.es o in
        in-turn x.es (rows o' x.out) o (o' ⊕ j) given.room given.kinds (prop-fine p u o given.leaves)
        (rows-fine (later given.start far) (later given.negation far))

    -- The formula under a `!`.
    under-not : {bounds : Bool} {names : ℕ → Bool} {tests : List Equation} {s n u o : ℕ} (xs ys : List Equation)
        → Given bounds names tests s n u o (xs ++ ys) → Given bounds names tests s n u o xs
    under-not {o = o} xs ys given =
        record {
          bound = given.bound;
          leaves = given.leaves;
          start = given.start;
          negation = given.negation;
          kinds = left xs ys o given.kinds;
          room = room-left xs ys o given.room;
        }

    module _ (cap : ℕ) where
      -- Two formulas that are joined by `&` or `|`.
      both : (f g : Formula) {s n u o : ℕ} (row : List Equation) →
          let x : Block = emit flow_of f s n u o in
          let o' : ℕ = place_after o x.es in
          Given (bounded cap velocities (raw f) && bounded cap velocities (raw g)) (λ j. named_by f j || named_by g j)
          (tests_of f ++ tests_of g) s n u o (x.es ++ ((emit flow_of g s n (next_test u f) o').es ++ row))
          → GivenOf cap f s n u o × GivenOf cap g s n (next_test u f) o'
      both f g {s} {n} {u} {o} row given =
          let x : Block = emit flow_of f s n u o in
          let o' : ℕ = place_after o x.es in
          let y : Block = emit flow_of g s n (next_test u f) o' in
          let bound = (and-eq-true_iff (bounded cap velocities (raw f)) _).0 given.bound in
          let far : o ≤ o' = after-later x.es o in (
            record {
              bound = bound.0;
              leaves = leaves-left (named_by f) (named_by g) (tests_of f) (tests_of g) given.leaves;
              start = given.start;
              negation = given.negation;
              kinds = left x.es _ o given.kinds;
              room = room-left x.es _ o given.room;
            },
            record {
              bound = bound.1;
              leaves = leaves-right (named_by f) (named_by g) (tests_of f) (tests_of g) given.leaves far;
              start = later given.start far;
              negation = later given.negation far;
              kinds = left y.es row o' (right x.es _ o given.kinds);
              room = room-left y.es row o' (room-right x.es _ o given.room);
            },
          )

      -- A `then`, from its lead and from its second part, which is given once the end of the lead fits.
      then-fine : (l f : Formula) {s n u o : ℕ} →
          let x : Block = emit flow_of l s n u o in
          let o' : ℕ = place_after o x.es in
          let y : Block = emit flow_of f (o' ⊕ 3) (o' ⊕ 4) (next_test u l) (o' ⊕ 5) in
          (GivenOf cap l s n u o → AllFine o x.es x.out)
          → (GivenOf cap f (o' ⊕ 3) (o' ⊕ 4) (next_test u l) (o' ⊕ 5) → AllFine (o' ⊕ 5) y.es y.out)
          → GivenOf cap (then l f) s n u o
          → AllFine o (emit flow_of (then l f) s n u o).es (emit flow_of (then l f) s n u o).out
      then-fine l f {s} {n} {u} {o} lead-fine second-fine given =
          let x : Block = emit flow_of l s n u o in
          let o' : ℕ = place_after o x.es in
          let y : Block = emit flow_of f (o' ⊕ 3) (o' ⊕ 4) (next_test u l) (o' ⊕ 5) in
          let o'' : ℕ = place_after (o' ⊕ 5) y.es in
          let ending : List Equation = lead-end-es n o' x.out in
          let rest : List Equation = then-es n o'' (o' ⊕ 3) y.out in
          let bound = (and-eq-true_iff (bounded cap velocities (raw l)) _).0 given.bound in
          let far : o ≤ o' = after-later x.es o in
          let farther : o' ⊕ 5 ≤ o'' = after-later y.es (o' ⊕ 5) in
          let v : ℕ = o'' ⊕ 3 in
          in-turn x.es (ending ++ (y.es ++ rest)) o v given.room given.kinds
          (λ room kinds. lead-fine (record {
            bound = bound.0;
            leaves = leaves-left (named_by l) (named_by f) (tests_of l) (tests_of f) given.leaves;
            start = given.start;
            negation = given.negation;
            kinds = kinds;
            room = room;
          }))
          (λ bl room kinds. in-turn ending (y.es ++ rest) o' v room kinds
          (lead-end-fine velocities t N o' (later given.negation far) bl)
          (λ be room kinds. in-turn y.es rest (o' ⊕ 5) v room kinds
          (λ room kinds. second-fine (record {
            bound = bound.1;
            leaves = leaves-right (named_by l) (named_by f) (tests_of l) (tests_of f) given.leaves (omega arith);
            start = be.0;
            negation = be.1;
            kinds = kinds;
            room = room;
          }))
          (λ bf. rest-fine velocities t N o'' (later given.negation (omega arith)) (later be.0 farther) bf)))

      -- A `lag`: its P, the run of it, its Q, that Q holds if it is due, and that this was always so.
      lag-fine : cap ≤ literal_count → (p : Prop) (c : Num) (q : Prop) {s n u o : ℕ}
          → GivenOf cap (lag p c q) s n u o
          → AllFine o (emit flow_of (lag p c q) s n u o).es (emit flow_of (lag p c q) s n u o).out
      lag-fine low p c q {s} {n} {u} {o} given =
          let x : Block = emit_p flow_of p u o in
          let o' : ℕ = place_after o x.es in
          let y : Block = emit_p flow_of q (next_test_p u p) (after_run o') in
          let o'' : ℕ = place_after (after_run o') y.es in
          let run : List Equation = run-es n o' x.out in
          let due : List Equation = fine-es c o'' (o' ⊕ 1) y.out in
          let always : List Equation = always-es s (after_fine o'') (o'' ⊕ 3) in
          let v : ℕ = o'' ⊕ 6 in
          let far : o ≤ o' = after-later x.es o in
          let farther : after_run o' ≤ o'' = after-later y.es (after_run o') in
          let at-q : o ≤ after_run o' = omega arith in
          let at-end : o ≤ after_fine o'' = omega arith in
          let others = ((and-eq-true_iff (bounded cap velocities (raw_p p)) _).0 given.bound).1 in
          let bound = ((and-eq-true_iff (num_bound cap velocities c) (bounded cap velocities (raw_p q))).0 others).0 in
          let leaves-p = leaves-left (named_by_p p) (named_by_p q) (tests_p p) (tests_p q) given.leaves in
          let leaves-q = leaves-right (named_by_p p) (named_by_p q) (tests_p p) (tests_p q) given.leaves at-q in
          in-turn x.es (run ++ (y.es ++ (due ++ always))) o v given.room given.kinds
          (prop-fine p u o leaves-p)
          (λ bp room kinds. in-turn run (y.es ++ (due ++ always)) o' v room kinds
          (run-fine velocities t N o' (later given.negation far) bp)
          (λ br room kinds. in-turn y.es (due ++ always) (after_run o') v room kinds
          (prop-fine q (next_test_p u p) (after_run o') leaves-q)
          (λ bq room kinds. in-turn due always o'' v room kinds
          (due-fine velocities t N o'' (later br farther) bq cap low c bound)
          (λ bd. always-fine velocities t N (after_fine o'')
          (later given.start at-end) (later given.negation at-end) bd))))

      -- ---- formulas

      module _ (low : cap ≤ literal_count) where
        pub fine : (f : Formula) (s n u o : ℕ) → GivenOf cap f s n u o
            → AllFine o (emit flow_of f s n u o).es (emit flow_of f s n u o).out
        fine (test begin p) s n u o given =
            with-prop (begin-es s n) 3 p (λ bs bn bp. begin-fine velocities t N _ bs bn bp) given
        fine (test end p) s n u o given = prop-fine p u o given.leaves given.room given.kinds
        fine (test point p) s n u o given =
            with-prop (point-es s) 0 p (λ bs bn bp. point-fine velocities t N _ bs bn bp) given
        fine (test held p) s n u o given =
            with-prop (held-es s n) 3 p (λ bs bn bp. held-fine velocities t N _ bs bn bp) given
        fine (test kept p) s n u o given =
            with-prop (kept-es s) 1 p (λ bs bn bp. kept_fine velocities t N _ bs bn bp) given
        fine (len op x) s n u o given =
            len-fine velocities t N o given.start given.negation given.start cap low op x given.bound
            given.room given.kinds
        fine (count sum p op x) s n u o given =
            let bound = ((and-eq-true_iff (bounded cap velocities (raw_p p)) _).0 given.bound).1 in
            with-prop (sum-es n op x) 3 p (λ bs bn bp. sum-fine velocities t N _ bs bn bp cap low op x bound) given
        fine (count age p op x) s n u o given =
            let bound = ((and-eq-true_iff (bounded cap velocities (raw_p p)) _).0 given.bound).1 in
            with-prop (age-es n op x) 4 p (λ bs bn bp. age-fine velocities t N _ bs bn bp cap low op x bound) given
        fine (lag p x q) s n u o given = lag-fine low p x q given
        fine (neg f) s n u o given =
            let x : Block = emit flow_of f s n u o in
            negated-fine o x given.room given.kinds (fine f s n u o (under-not x.es _ given))
        fine (and f g) s n u o given =
            let x : Block = emit flow_of f s n u o in
            let o' : ℕ = place_after o x.es in
            let (first, second) = both f g _ given in
            join-and o x (emit flow_of g s n (next_test u f) o') given.room given.kinds
            (fine f s n u o first) (fine g s n (next_test u f) o' second)
        fine (or f g) s n u o given =
            let x : Block = emit flow_of f s n u o in
            let o' : ℕ = place_after o x.es in
            let (first, second) = both f g _ given in
            join-or o x (emit flow_of g s n (next_test u f) o') given.room given.kinds
            (fine f s n u o first) (fine g s n (next_test u f) o' second)
        fine (then l f) s n u o given = then-fine l f (fine l s n u o) (fine f _ _ _ _) given
