-- SPEC 12.8: how many memories an observer has, exactly. They are counted over its blocks of equations, node by node,
-- and so over the table. Assumes nothing.
use mathlib.Core.Bool.{Bool, true, false, cond}
use mathlib.Core.List.{List, [], ◌∷◌, ◌++◌}
use mathlib.Core.Path.{◌≡◌, refl, ap, ◌∙◌}
use Prim.Native.Nat.{ℕ, zero, suc, ◌+◌}
use native.Mathlib.Omega.{arith}
use lib.ListN.{length}
use Rattle.traces.specs.Trace.{truth}
use Rattle.formulas.specs.Formula.{Num, Prop, Formula}
use Rattle.formulas.specs.Formula.Num.{literal, parameter}
use Rattle.formulas.specs.Formula.Prop.{constant, signal, velocity, neg_p, and_p, or_p}
use Rattle.formulas.specs.Formula.Test.{begin, end, point, held, kept}
use Rattle.formulas.specs.Formula.Count.{sum, age}
use Rattle.formulas.specs.Formula.Formula.{test, len, count, lag, neg, and, or, then}
use Rattle.formulas.specs.Arena.{num_kind}
use Rattle.formulas.specs.Tree.{memories_of, rule_memories}
use Rattle.formulas.specs.Raw.{raw}
use Rattle.limits.specs.Limits.{signal_count}
use Rattle.tables.specs.Kind.{SIGNAL, BOOLEAN-PRE, COUNT-PRE}
use Rattle.tables.specs.Table.{kind_of, kind_at, is_memory}
use Rattle.scheme.specs.Scheme.{◌⊕◌, comparison_of}
use Rattle.tables.specs.Table.{equation}
use Rattle.scheme.specs.Emit.{place_after, emit_p, emit, named_by, flow_in, signals-es, header, whole-es, body}
use Rattle.scheme.specs.Emit.{observer, start_flow, negated_flow, start-es, numbers_of, after_run, tests_p, tests_of}
use Rattle.scheme.specs.Emit.{next_test_p, next_test, test_place, head_place}
use Rattle.tables.specs.Table.{memories}
use Rattle.scheme.proofs.Places.{four-more}
use Rattle.tables.specs.declared.Equation.{Equation}

-- ---- counted over equations

-- A memory counts 1.
abbrev is_one : Equation → ℕ
is_one e = truth (is_memory (kind_of e.kind))

abbrev counted : List Equation → ℕ
counted [] = 0
counted (e ∷ es) = is_one e + counted es

counted-append : (xs ys : List Equation) → counted (xs ++ ys) ≡ counted xs + counted ys
counted-append [] ys = omega arith
counted-append (e ∷ xs) ys = rw (counted-append xs ys) (omega arith)

counted-signals : (named : ℕ → Bool) (m j : ℕ) → counted (signals-es named j m) ≡ 0
unfolding kind_of is_memory
counted-signals named zero j = refl
counted-signals named (suc m) j = with_first (named j) (counted-signals named m (suc j))
  where
    with_first : (x : Bool) → counted (signals-es named (suc j) m) ≡ 0
        → counted (cond x (equation SIGNAL j 0 0 ∷ signals-es named (suc j) m) (signals-es named (suc j) m)) ≡ 0
    with_first true h = omega arith
    with_first false h = h

-- A comparison is no memory.
compare-none : (x : Num) → truth (is_memory (kind_of (comparison_of (num_kind x)))) ≡ 0
unfolding kind_of is_memory
compare-none (literal n) = refl
compare-none (parameter j) = refl

-- No test is one.
counted-both : (xs ys : List Equation) → counted xs ≡ 0 → counted ys ≡ 0 → counted (xs ++ ys) ≡ 0
counted-both xs ys p q = simp (counted-append, p, q)

counted-tests_p : (p : Prop) → counted (tests_p p) ≡ 0
unfolding kind_of is_memory
counted-tests_p (constant c) = refl
counted-tests_p (signal j) = refl
counted-tests_p (velocity op n) = refl
counted-tests_p (neg_p p) = counted-tests_p p
counted-tests_p (and_p p q) = counted-both (tests_p p) (tests_p q) (counted-tests_p p) (counted-tests_p q)
counted-tests_p (or_p p q) = counted-both (tests_p p) (tests_p q) (counted-tests_p p) (counted-tests_p q)

counted-tests : (f : Formula) → counted (tests_of f) ≡ 0
counted-tests (test k p) = counted-tests_p p
counted-tests (len op x) = refl
counted-tests (count k p op x) = counted-tests_p p
counted-tests (lag p x q) = counted-both (tests_p p) (tests_p q) (counted-tests_p p) (counted-tests_p q)
counted-tests (neg f) = counted-tests f
counted-tests (and f g) = counted-both (tests_of f) (tests_of g) (counted-tests f) (counted-tests g)
counted-tests (or f g) = counted-both (tests_of f) (tests_of g) (counted-tests f) (counted-tests g)
counted-tests (then l f) = counted-both (tests_of l) (tests_of f) (counted-tests l) (counted-tests f)

module _ (flow_of : ℕ → ℕ) where
  counted-prop : (p : Prop) (u o : ℕ) → counted (emit_p flow_of p u o).es ≡ 0
  unfolding kind_of is_memory
  counted-prop (constant c) u o = refl
  counted-prop (signal j) u o = refl
  counted-prop (velocity op n) u o = refl
  counted-prop (neg_p p) u o = simp (counted-append, counted-prop p u o)
  counted-prop (and_p p q) u o = simp
      (counted-append, counted-prop p u o, counted-prop q (next_test_p u p) (place_after o (emit_p flow_of p u o).es))
  counted-prop (or_p p q) u o = simp
      (counted-append, counted-prop p u o, counted-prop q (next_test_p u p) (place_after o (emit_p flow_of p u o).es))

  counted-formula : (f : Formula) (s n u o : ℕ) → counted (emit flow_of f s n u o).es ≡ memories_of (raw f)
  unfolding kind_of is_memory
  counted-formula (test begin p) s n u o = simp (counted-append, counted-prop p u o)
  counted-formula (test end p) s n u o = counted-prop p u o
  counted-formula (test point p) s n u o = simp (counted-append, counted-prop p u o)
  counted-formula (test held p) s n u o = simp (counted-append, counted-prop p u o)
  counted-formula (test kept p) s n u o = simp (counted-append, counted-prop p u o)
  counted-formula (len op x) s n u o = simp (compare-none x)
  counted-formula (count sum p op x) s n u o = simp (counted-append, counted-prop p u o, compare-none x)
  counted-formula (count age p op x) s n u o = simp (counted-append, counted-prop p u o, compare-none x)
  counted-formula (lag p x q) s n u o =
      let o' : ℕ = place_after o (emit_p flow_of p u o).es in
      simp (counted-append, counted-prop p u o, counted-prop q (next_test_p u p) (after_run o'), compare-none x)
  counted-formula (neg f) s n u o = simp (counted-append, counted-formula f s n u o) (omega arith)
  counted-formula (and f g) s n u o =
      let o' : ℕ = place_after o (emit flow_of f s n u o).es in
      simp (counted-append, counted-formula f s n u o, counted-formula g s n (next_test u f) o') (omega arith)
  counted-formula (or f g) s n u o =
      let o' : ℕ = place_after o (emit flow_of f s n u o).es in
      simp (counted-append, counted-formula f s n u o, counted-formula g s n (next_test u f) o') (omega arith)
  counted-formula (then l f) s n u o =
      let o' : ℕ = place_after o (emit flow_of l s n u o).es in
      let first = counted-formula l s n u o in
      let second = counted-formula f (o' ⊕ 3) (o' ⊕ 4) (next_test u l) (o' ⊕ 5) in
      simp (counted-append, first, second) (omega arith)

-- ---- the memories of a `lag`: one of a count, and one of a boolean

-- The kinds of the memories among equations, in their order.
abbrev memory_kinds : List Equation → List ℕ
memory_kinds [] = []
memory_kinds (e ∷ es) = cond (is_memory (kind_of e.kind)) (e.kind ∷ memory_kinds es) (memory_kinds es)

kinds-append : (xs ys : List Equation) → memory_kinds (xs ++ ys) ≡ memory_kinds xs ++ memory_kinds ys
kinds-append [] ys = refl
kinds-append (e ∷ xs) ys = with_first (is_memory (kind_of e.kind)) (kinds-append xs ys)
  where
    with_first : (x : Bool) → memory_kinds (xs ++ ys) ≡ memory_kinds xs ++ memory_kinds ys
        → cond x (e.kind ∷ memory_kinds (xs ++ ys)) (memory_kinds (xs ++ ys))
        ≡ cond x (e.kind ∷ memory_kinds xs) (memory_kinds xs) ++ memory_kinds ys
    with_first true h = ap (λ (l : List ℕ). e.kind ∷ l) h
    with_first false h = h

none-kinds : (es : List Equation) → counted es ≡ 0 → memory_kinds es ≡ []
none-kinds [] h = refl
none-kinds (e ∷ es) h = with_first (is_memory (kind_of e.kind)) h (none-kinds es)
  where
    with_first : (x : Bool) → truth x + counted es ≡ 0 → (counted es ≡ 0 → memory_kinds es ≡ [])
        → cond x (e.kind ∷ memory_kinds es) (memory_kinds es) ≡ []
    with_first true h others = absurd (omega arith)
    with_first false h others = others (omega arith)

module _ (flow_of : ℕ → ℕ) where
  prop-kinds : (p : Prop) (u o : ℕ) → memory_kinds (emit_p flow_of p u o).es ≡ []
  prop-kinds p u o = none-kinds (emit_p flow_of p u o).es (counted-prop flow_of p u o)

  pub lag-kinds : (p : Prop) (x : Num) (q : Prop) (s n u o : ℕ)
      → memory_kinds (emit flow_of (lag p x q) s n u o).es ≡ COUNT-PRE ∷ BOOLEAN-PRE ∷ []
  unfolding kind_of is_memory
  lag-kinds p (literal c) q s n u o =
      let o' : ℕ = place_after o (emit_p flow_of p u o).es in
      simp (kinds-append, prop-kinds p u o, prop-kinds q (next_test_p u p) (after_run o'))
  lag-kinds p (parameter j) q s n u o =
      let o' : ℕ = place_after o (emit_p flow_of p u o).es in
      simp (kinds-append, prop-kinds p u o, prop-kinds q (next_test_p u p) (after_run o'))

-- ---- counted over an observer

counted-header : (named : ℕ → Bool) (m : ℕ) → counted
    (start-es ++ signals-es named 0 m) ≡ 0
unfolding kind_of is_memory
counted-header named m = omega (arith, counted-signals named m 0)

counted-four : (xs ts ys zs : List Equation) (k : ℕ) → counted xs ≡ 0 → counted ts ≡ 0 → counted ys ≡ k
    → counted zs ≡ 1 → counted (xs ++ (ts ++ (ys ++ zs))) ≡ k + 1
counted-four xs ts ys zs k p h q r = simp counted-append (omega arith)

counted-observer : (f : Formula) → counted (observer f) ≡ rule_memories (raw f)
unfolding kind_of is_memory
counted-observer f =
    let whole : List Equation = whole-es start_flow (place_after (head_place f) (body f).es) (body f).out in
    counted-four (header (named_by f)) (tests_of f) (body f).es whole (memories_of (raw f))
    (counted-header (named_by f) signal_count) (counted-tests f)
    (counted-formula (flow_in (named_by f)) f start_flow negated_flow (test_place f) (head_place f)) refl

-- ---- counted over the table

-- A table with one more equation in front.
memories-more : (e : Equation) (t : List ℕ) (n : ℕ)
    → memories (e.kind ∷ e.a ∷ e.b ∷ e.c ∷ t) (suc n) ≡ is_one e + memories t n
memories-more e t zero = one (is_memory (kind_of e.kind))
  where
    one : (x : Bool) → cond x (suc 0) 0 ≡ truth x + 0
    one true = refl
    one false = refl
memories-more e t (suc n) = rw four-more (one_more (is_memory (kind_at t n)) (memories-more e t n))
  where
    t' : List ℕ
    t' = e.kind ∷ e.a ∷ e.b ∷ e.c ∷ t

    one_more : (x : Bool) → memories t' (suc n) ≡ is_one e + memories t n
        → cond x (suc (memories t' (suc n))) (memories t' (suc n))
        ≡ is_one e + cond x (suc (memories t n)) (memories t n)
    one_more true h = omega arith
    one_more false h = h

memories-counted : (es : List Equation) (junk : List ℕ) → memories (numbers_of es ++ junk) (length es) ≡ counted es
memories-counted [] junk = refl
memories-counted (e ∷ es) junk =
    memories-more e (numbers_of es ++ junk) (length es) ∙ ap (λ (k : ℕ). is_one e + k) (memories-counted es junk)

-- Exactly so many memories has the observer of f.
pub memories-exactly : (f : Formula) (junk : List ℕ)
    → memories (numbers_of (observer f) ++ junk) (length (observer f)) ≡ rule_memories (raw f)
memories-exactly f junk = memories-counted (observer f) junk ∙ counted-observer f
