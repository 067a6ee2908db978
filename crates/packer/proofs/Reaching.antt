-- The marks of the equations that are kept, as the program finds them: it marks each equation once, in a list of those
-- found, and goes through that list. What is marked is kept (`Sound`); what has been passed in the list has the classes
-- of its operands marked (`Reaching`); so at the end of the list the marks are those of SPEC 16.3. Assumes nothing.
use mathlib.Core.Path.{◌≡◌, refl, ◌∙◌, sym, ap}
use mathlib.Core.Bool.{Bool, true, false}
use mathlib.Core.List.{List}
use mathlib.Core.Logic.{◌⊎◌, inl, inr, ⊎_elim}
use Prim.Native.Nat.{ℕ, zero, suc, ◌+◌, ◌-◌, ◌≤◌, ◌<◌}
use native.Mathlib.Omega.{arith}
use native.Mathlib.Decide.{ℕ_discrete}
use lib.Dec.{eqb}
use lib.ListN.{length, set, length-set}
use lib.Seq.{get_or-set_same, get_or-set_other}
use borrow.Author.Tests.{eqb-true, eq-eqb, ne_eqb}
use Rattle.lists.specs.Number.{number_at}
use Rattle.lists.proofs.Choice.{chosen}
use Rattle.traces.specs.Trace.{truth}
use Rattle.tables.specs.Table.{equation_at, all, operand_fits, equation_fits, closing_count}
use Rattle.tables.specs.declared.Operand.{Operand}
use Rattle.tables.specs.declared.Operand.TheVariants.{Unused, Earlier, Anywhere, Below, Velocity}
use Rattle.tables.proofs.Tests.{all-at}
use Rattle.flows.proofs.Ranges.{flow-below}
use Rattle.packing.specs.Search.{count}
use Rattle.packing.specs.Operands.{shape_in, refers, uses}
use Rattle.packing.specs.Pack.{renamed_number, renamed, key_at, classes, kept}
use Rattle.packing.proofs.Searches.{told, not-both, count-more, count_same, count-le}
use Rattle.packing.proofs.Keys.{both-fit, uses-a, uses-b, uses-c, uses-cases}
use Rattle.packing.proofs.Classes.{Classes, classes-fit}
use Rattle.packing.proofs.Marking.{Marks, marks-fit, marks-are}
use Rattle.packer.specs.Round.{cleared}
use Rattle.packer.specs.Mark.{Marking, marking, unmarked, pushed, visited, visited_a, visited_b, expanded}
use Rattle.packer.specs.Mark.{Push, Visit, Expand, Named, Markable}
use Rattle.packer.specs.Place.{filled}
use Rattle.packer.proofs.Filled.{filled_is}
use Rattle.packer.proofs.Cleared.{length-cleared, cleared_at, cleared-beyond, cleared-set}
use Rattle.tables.specs.declared.Equation.{Equation}

-- Counts of two tests that agree below k, and of two that differ at one number only.
count-agree : (f g : ℕ → Bool) (k : ℕ) → ((i : ℕ) → i < k → f i ≡ g i) → count f k ≡ count g k
unfolding count
count-agree f g zero h = refl
count-agree f g (suc k) h = rw (h k (omega arith), count-agree f g k (λ i l. h i (omega arith)))

module _ (f g : ℕ → Bool) (x : ℕ) (yes-f : f x ≡ true) (no-g : g x ≡ false)
    (same : (i : ℕ) → (i ≡ x → ⊥) → f i ≡ g i) where
  count_less : (k : ℕ) → x < k → count f k ≡ suc (count g k)
  count_less zero l = absurd (omega arith)
  count_less (suc k) l =
      elim (ℕ_discrete x k) [
        | yes q ↦ count-more f k (rw q at yes-f)
            ∙ ap suc (count-agree f g k (λ i u. same i (λ (r : i ≡ x). omega arith)))
            ∙ ap suc (sym (count_same g k (rw q at no-g)))
        | no q ↦ let before = count_less k (omega arith) in
            let e = same k (λ (r : k ≡ x). q (sym r)) in
            ⊎_elim
            (λ u. count-more f k u ∙ ap suc (before ∙ sym (count-more g k (sym e ∙ u))))
            (λ u. count_same f k u ∙ before ∙ ap suc (sym (count_same g k (sym e ∙ u)))) (told (f k))
      ]

-- Equation i is marked, is one of those with K, and stands at a place of the list.
pub record Kept (K : ℕ → Bool) (w : Marking) (i : ℕ) : Type 0 where
  pub mark : number_at w.marks i ≡ 1
  pub is : K i ≡ true
  pub at : ℕ
  pub low : at < w.size
  pub here : number_at w.found at ≡ i

-- What is marked and found in w is so in w'.
pub record Grown (w w' : Marking) : Type 0 where
  pub size : w.size ≤ w'.size
  pub found : (p : ℕ) → p < w.size → number_at w'.found p ≡ number_at w.found p
  pub marks : (i : ℕ) → number_at w.marks i ≡ 1 → number_at w'.marks i ≡ 1

pub grown-none : (w : Marking) → Grown w w
grown-none w = record { size = omega arith; found = λ p l. refl; marks = λ i e. e }

pub grown-on : {w w' w'' : Marking} → Grown w w' → Grown w' w'' → Grown w w''
grown-on G H =
    record {
      size = omega (arith, G.size, H.size);
      found = λ p l. H.found p (omega (arith, G.size)) ∙ G.found p l;
      marks = λ i e. H.marks i (G.marks i e);
    }

-- n equations, of which those with K are kept, and the marks m and the list f that the program was lent.
module _ (n : ℕ) (K : ℕ → Bool) (m f : List ℕ) where
  -- Each equation is not marked, or it is kept and found. The list has what is marked, and no more than that. All
  -- numbers past n are kept.
  pub record Sound (w : Marking) : Type 0 where
    pub long : length w.marks ≡ length m
    pub room : n ≤ length w.found
    pub few : w.size + count (unmarked w.marks) n ≤ n
    pub rest : (i : ℕ) → n ≤ i → number_at w.marks i ≡ number_at m i
    pub spare : cleared n w.found ≡ cleared n f
    pub each : (i : ℕ) → i < n → (number_at w.marks i ≡ 0) ⊎ Kept K w i
    pub listed : (p : ℕ) → p < w.size → (number_at w.found p < n) × (number_at w.marks (number_at w.found p) ≡ 1)

  -- What marking equation x leaves.
  pub record Pushed (w w' : Marking) (x : ℕ) : Type 0 where
    pub sound : Sound w'
    pub grown : Grown w w'
    pub marked : number_at w'.marks x ≡ 1

  module _ (w : Marking) (x : ℕ) (S : Sound w) (l : x < n) (whole : n ≤ length m) where
    abbrev more : Marking
    more = marking (set w.marks x 1) (set w.found w.size x) (w.size + 1)

    -- Where x is not marked, fewer than n are found.
    one_less_lem : unmarked w.marks x ≡ true
        → count (unmarked w.marks) n ≡ suc (count (unmarked more.marks) n)
    one_less_lem e =
        count_less (unmarked w.marks) (unmarked more.marks) x e
        (ne_eqb _ 0 (λ q. let z : ◌≡◌ {A = ℕ} 1 0 = sym (get_or-set_same w.marks x 1 0 (omega (arith, S.long))) ∙ q in
        omega arith))
        (λ i u. rw (get_or-set_other w.marks x i 1 0 u)) n l

    size_below : unmarked w.marks x ≡ true → w.size < n
    size_below e = omega (arith, one_less_lem e, S.few)

    pub push-room : Push w x
    push-room = (
      omega (arith, S.long),
      λ e. omega (arith, size_below e, S.room),
    )

    -- It is marked now, or it was.
    module _ (k : K x ≡ true) where
      module _ (e : unmarked w.marks x ≡ true) where
        marked-now : number_at more.marks x ≡ 1
        marked-now = get_or-set_same w.marks x 1 0 (omega (arith, S.long))

        other : (i : ℕ) → (i ≡ x → ⊥) → number_at more.marks i ≡ number_at w.marks i
        other i u = get_or-set_other w.marks x i 1 0 u

        found-now : number_at more.found w.size ≡ x
        found-now = get_or-set_same w.found w.size x 0 (push-room.1 e)

        found_before : (p : ℕ) → p < w.size → number_at more.found p ≡ number_at w.found p
        found_before p u = get_or-set_other w.found w.size p x 0 (λ (q : p ≡ w.size). omega arith)

        still : (i : ℕ) → number_at w.marks i ≡ 1 → number_at more.marks i ≡ 1
        still i h = elim (ℕ_discrete i x) [ yes q ↦ rw q marked-now | no q ↦ other i q ∙ h ]

        more-each : (i : ℕ) → i < n → (number_at more.marks i ≡ 0) ⊎ Kept K more i
        more-each i u =
            elim (ℕ_discrete i x) [
              | yes q ↦ inr (record {
                mark = rw q marked-now;
                is = rw q k;
                at = w.size;
                low = omega arith;
                here = rw q found-now;
              })
              | no q ↦ ⊎_elim (λ h. inl (other i q ∙ h))
                  (λ h. inr (record {
                    mark = other i q ∙ h.mark;
                    is = h.is;
                    at = h.at;
                    low = omega (arith, h.low);
                    here = found_before h.at h.low ∙ h.here;
                  })) (S.each i u)
            ]

        more-listed : (p : ℕ) → p < w.size + 1
            → (number_at more.found p < n) × (number_at more.marks (number_at more.found p) ≡ 1)
        more-listed p u =
            elim (ℕ_discrete p w.size) [
              | yes q ↦ rw (q, found-now) (l, marked-now)
              | no q ↦ let h = S.listed p (omega arith) in
                  rw (found_before p (omega arith)) (h.0, still (number_at w.found p) h.1)
            ]

        push-more : Pushed w more x
        push-more =
            record {
              sound = record {
                long = rw length-set S.long;
                room = rw length-set S.room;
                few = omega (arith, one_less_lem e, S.few);
                rest = λ i u. other i (λ (q : i ≡ x). omega arith) ∙ S.rest i u;
                spare = cleared-set n w.found w.size x (size_below e) ∙ S.spare;
                each = more-each;
                listed = more-listed;
              };
              grown = record { size = omega arith; found = found_before; marks = still };
              marked = marked-now;
            }

      push-none : unmarked w.marks x ≡ false → Pushed w w x
      push-none e =
          record {
            sound = S;
            grown = grown-none w;
            marked = ⊎_elim (λ h. absurd (not-both (unmarked w.marks x) (eq-eqb _ 0 h) e)) (λ h. h.mark)
                (S.each x l);
          }

      pub push_kept : Pushed w (pushed w x) x
      unfolding pushed
      push_kept = chosen (λ (w' : Marking). Pushed w w' x) (unmarked w.marks x) push-more push-none

-- The loop, over the marks m and the list f that the program was lent: the first `done` of the list are passed.
pub record Reaching (t : List ℕ) (n : ℕ) (m f : List ℕ) (w : Marking) (done : ℕ) : Type 0 where
  pub sound : Sound n (kept t n) m f w
  pub passed : done ≤ w.size
  pub last : (i : ℕ) → i < n → n ≤ i + closing_count → number_at w.marks i ≡ 1
  pub closed : (p : ℕ) → p < done → (z : ℕ) → z < n
      → uses (key_at t (classes t n) (number_at w.found p)) z ≡ true → number_at w.marks z ≡ 1

-- The same of a table t whose first n equations fit, with their classes in the list l.
module _ (t : List ℕ) (n : ℕ) (l m f : List ℕ) (G : Markable t n l m) where
  names : Named t n l
  names = G.names

  velocities : ℕ
  velocities = G.fitted.velocities

  fit : all (equation_fits velocities t n) n ≡ true
  unfolding velocities
  fit = G.fitted.equations

  whole : n ≤ length m
  whole = G.room

  abbrev c : ℕ → ℕ
  c = classes t n

  C : Classes t n c
  C = classes-fit velocities t n fit

  M : Marks t n c (kept t n)
  M = marks-fit velocities t n c fit C

  abbrev Good : Marking → Type 0
  Good w = Sound n (kept t n) m f w

  -- The numbers z that P names are marked in w', which comes after w.
  record Marked (w w' : Marking) (P : ℕ → Type 0) : Type 0 where
    sound : Good w'
    grown : Grown w w'
    marked : (z : ℕ) → z < n → P z → number_at w'.marks z ≡ 1

  -- The class of an operand y is marked.
  module _ (w : Marking) (S : Good w) (y : ℕ) (u : y < n) (k : kept t n (c y) ≡ true) where
    class-below : number_at l y < n
    class-below = let h = C.least y u in rw (names y u) (omega arith)

    class-room : (y < length l) × Push w (number_at l y)
    class-room = (omega (arith, G.named), push-room n (kept t n) m f w (number_at l y) S class-below whole)

    class-marked : (P : ℕ → Type 0) → ((z : ℕ) → P z → c y ≡ z) → Marked w (pushed w (number_at l y)) P
    class-marked P is =
        let h = push_kept n (kept t n) m f w (number_at l y) S class-below whole (rw (names y u) k) in
        record {
          sound = h.sound;
          grown = h.grown;
          marked = λ z v p. rw (← is z p, ← names y u) h.marked;
        }

  none-marked : (w : Marking) → Good w → (P : ℕ → Type 0) → ((z : ℕ) → P z → ⊥) → Marked w w P
  none-marked w S P never =
      record { sound = S; grown = grown-none w; marked = λ z v p. absurd (never z p) }

  -- A number y of equation j, whose row asks for o, is visited.
  abbrev Refers : Operand → ℕ → ℕ → Type 0
  Refers o y z = refers o (renamed_number c o y) z ≡ true

  module _ (j : ℕ) (u : j < n) where
    visit-fits : (w : Marking) → Good w → (o : Operand) (y : ℕ) → operand_fits velocities t n j o y ≡ true
        → ((z : ℕ) → z < n → Refers o y z → kept t n z ≡ true)
        → Visit l w o y × Marked w (visited (number_at l) w o y) (Refers o y)
    unfolding Visit visited operand_fits refers renamed_number
    visit-fits w S Unused y f k = (tt, none-marked w S _ (λ z p. not-both false p refl))
    visit-fits w S (Earlier s) y f k =
        let v = flow-below t j s y f in
        let h = C.least y (omega arith) in
        let q = k (c y) (omega arith) (eq-eqb (c y) (c y) refl) in
        (class-room w S y (omega arith) q, class-marked w S y (omega arith) q _ (λ z p. eqb-true (c y) z p))
    visit-fits w S (Anywhere s) y f k =
        let v = flow-below t n s y f in
        let h = C.least y v in
        let q = k (c y) (omega arith) (eq-eqb (c y) (c y) refl) in
        (class-room w S y v q, class-marked w S y v q _ (λ z p. eqb-true (c y) z p))
    visit-fits w S (Below b) y f k = (tt, none-marked w S _ (λ z p. not-both false p refl))
    visit-fits w S Velocity y f k = (tt, none-marked w S _ (λ z p. not-both false p refl))

    -- All operands of equation j, which is kept, are visited in turn.
    module _ (w : Marking) (S : Good w) (k : kept t n j ≡ true) where
      abbrev e : Equation
      e = equation_at t j

      abbrev operands : ℕ → Type 0
      operands z = uses (key_at t c j) z ≡ true

      all-kept : (z : ℕ) → z < n → operands z → kept t n z ≡ true
      all-kept = M.closed j u k

      fits : equation_fits velocities t n j ≡ true
      fits = all-at (equation_fits velocities t n) n fit j u

      expand-fits : Expand t j l w × Marked w (expanded (number_at l) w e) operands
      unfolding renamed
      expand-fits =
          let f = both-fit velocities t n j j e e refl fits fits in
          let a = visit-fits w S (shape_in e).a e.a f.a.0
          (λ z v r. all-kept z v (uses-a (key_at t c j) z r)) in
          let b = visit-fits (visited_a (number_at l) w e) a.1.sound (shape_in e).b e.b f.b.0
          (λ z v r. all-kept z v (uses-b (key_at t c j) z r)) in
          let d = visit-fits (visited_b (number_at l) w e) b.1.sound (shape_in e).c e.c f.c.0
          (λ z v r. all-kept z v (uses-c (key_at t c j) z r)) in
          let two = grown-on b.1.grown d.1.grown in (
            record { whole = omega (arith, G.fitted.whole); a = a.0; b = b.0; c = d.0 },
            record {
              sound = d.1.sound;
              grown = grown-on a.1.grown two;
              marked = λ z v p. uses-cases (key_at t c j) z (λ r. two.marks z (a.1.marked z v r))
                  (λ r. d.1.grown.marks z (b.1.marked z v r)) (λ r. d.1.marked z v r) p;
            },
          )

  -- A marked equation is kept.
  marked-kept : (w : Marking) → Good w → (i : ℕ) → i < n → number_at w.marks i ≡ 1 → kept t n i ≡ true
  marked-kept w S i u e =
      ⊎_elim (λ h. absurd (let z : ◌≡◌ {A = ℕ} 1 0 = sym e ∙ h in omega arith)) (λ h. h.is) (S.each i u)

  module _ (w : Marking) (done : ℕ) (R : Reaching t n m f w done) (u : done < w.size) where
    abbrev next : ℕ
    next = number_at w.found done

    next-kept : (next < n) × (kept t n next ≡ true)
    next-kept =
        let h = R.sound.listed done u in
        (h.0, marked-kept w R.sound next h.0 h.1)

    pub reach-room : Expand t next l w
    reach-room = (expand-fits next next-kept.0 w R.sound next-kept.1).0

    one-passed : Reaching t n m f (expanded (number_at l) w (equation_at t next)) (done + 1)
    one-passed =
        let h = (expand-fits next next-kept.0 w R.sound next-kept.1).1 in
        let g = h.grown in
        record {
          sound = h.sound;
          passed = omega (arith, g.size);
          last = λ i v q. g.marks i (R.last i v q);
          closed = λ p v z x q.
              let e = g.found p (omega arith) in
              let q' : uses (key_at t c (number_at w.found p)) z ≡ true = rw e at q in
              elim (ℕ_discrete p done) [
                | yes s ↦ h.marked z x (rw s at q')
                | no s ↦ g.marks z (R.closed p (omega arith) z x q')
              ];
        }

    pub reach-more : {w' : Marking} → w' ≡ expanded (number_at l) w (equation_at t next)
        → Reaching t n m f w' (done + 1)
    reach-more e = rw e one-passed

  -- Past the end of the list the marks are those of the equations that are kept.
  module _ (w : Marking) (done : ℕ) (R : Reaching t n m f w done) (u : w.size ≤ done) where
    abbrev one : ℕ → Bool
    one i = eqb (number_at w.marks i) 1

    one-closed : (j : ℕ) → j < n → one j ≡ true → (x : ℕ) → x < n → uses (key_at t c j) x ≡ true → one x ≡ true
    one-closed j v e x h q =
        ⊎_elim
        (λ z. absurd (let y : ◌≡◌ {A = ℕ} 1 0 = sym (eqb-true (number_at w.marks j) 1 e) ∙ z in omega arith))
        (λ k. eq-eqb _ 1 (R.closed k.at (omega (arith, k.low)) x h (rw k.here q))) (R.sound.each j v)

    one_kept : (i : ℕ) → i < n → one i ≡ kept t n i
    one_kept =
        marks-are t n c one (λ i v q. eq-eqb _ 1 (R.last i v q)) one-closed
        (λ i v e. marked-kept w R.sound i v (eqb-true (number_at w.marks i) 1 e))

    pub reach-all : w.marks ≡ filled (λ i. truth (kept t n i)) n m
    reach-all =
        let S = R.sound in
        filled_is (λ i. truth (kept t n i)) n m w.marks whole S.long
        (λ i v. ⊎_elim (λ z. z ∙ rw (← one_kept i v, z)) (λ k. k.mark ∙ rw k.is) (S.each i v)) S.rest

  -- The start: nothing is marked, then the last two are.
  module _ (room : n ≤ length f) where
    two : closing_count ≤ n
    two = G.two

    abbrev none : Marking
    none = marking (cleared n m) f 0

    none-good : Good none
    none-good =
        record {
          long = length-cleared n m whole;
          room = room;
          few = omega (arith, count-le (unmarked (cleared n m)) n);
          rest = cleared-beyond n m;
          spare = refl;
          each = λ i u. inl (cleared_at n m i u);
          listed = λ p u. absurd (omega arith);
        }

    -- The verdict's equation,
    abbrev verdict : Marking
    verdict = pushed none (n - 1)

    verdict-pushed : Pushed n (kept t n) m f none verdict (n - 1)
    verdict-pushed =
        push_kept n (kept t n) m f none (n - 1) none-good (omega (arith, two)) whole
        (M.last (n - 1) (omega (arith, two)))

    verdict-room : Push none (n - 1)
    verdict-room = push-room n (kept t n) m f none (n - 1) none-good (omega (arith, two)) whole

    -- and the started flow's.
    abbrev started : Marking
    started = pushed verdict (n - closing_count)

    started-room : Push verdict (n - closing_count)
    started-room =
        push-room n (kept t n) m f verdict (n - closing_count) verdict-pushed.sound (omega (arith, two)) whole

    reach-none : Reaching t n m f started 0
    reach-none =
        let h = push_kept n (kept t n) m f verdict (n - closing_count) verdict-pushed.sound (omega (arith, two)) whole
        (M.last (n - closing_count) (omega (arith, two))) in
        record {
          sound = h.sound;
          passed = omega arith;
          last = λ i u q. elim (ℕ_discrete i (n - closing_count)) [
            | yes e ↦ rw e h.marked
            | no e ↦ let e' : i ≡ n - 1 = omega (arith, two) in rw e' (h.grown.marks (n - 1) verdict-pushed.marked)
          ];
          closed = λ p u. absurd (omega arith);
        }

    -- The same by what the three calls leave: `clear` the marks m', `push` u, and `push` z.
    module _ {m' : List ℕ} (is-clear : m' ≡ cleared n m) where
      module _ {u : Marking} (is-verdict : u ≡ pushed (marking m' f 0) (n - 1)) where
        pub push-started : Push u (n - closing_count)
        push-started = rw (is-verdict, is-clear) started-room

        pub reach-begun : {z : Marking} → z ≡ pushed u (n - closing_count) → Reaching t n m f z 0
        reach-begun is-started = rw (is-started, is-verdict, is-clear) reach-none
