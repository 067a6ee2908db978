-- An arena taken by fours: its chunks are its records. Then the loops over the chunks, which enter the records and put
-- their tests. Assumes nothing.
use mathlib.Core.Bool.{Bool, true, false, cond}
use mathlib.Core.List.{List, [], ◌∷◌, ◌++◌, map, append-nil}
use mathlib.Core.Path.{◌≡◌, refl, sym, ap, ◌∙◌}
use Prim.Native.Nat.{ℕ, suc, ◌+◌, ◌*◌, ◌/◌, ◌≤◌, ◌<◌}
use native.Mathlib.Omega.{arith}
use lib.Dec.{eqb}
use lib.ListN.{take, length, get_or}
use Rattle.std.specs.List.{fold, flat_map}
use Rattle.std.specs.Simd.{first_chunks}
use Rattle.std.proofs.lemmas.List.{take_all, take_more}
use Rattle.std.proofs.lemmas.List.Folds.{fold-map, flat_map-map}
use Rattle.std.proofs.lemmas.List.Concat.{flat_map-append}
use Rattle.formulas.specs.Arena.{VELOCITY}
use Rattle.tables.specs.Kind as tables
use Rattle.tables.specs.Table.{equation}
use Rattle.scheme.specs.Scheme.{widest}
use Rattle.scheme.specs.Emit.{place_after, negated_flow}
use Rattle.emitter.specs.Machine.{State, state, step, run, record_in, records, whole, test_of}
use Rattle.emitter.specs.Machine.{tests_in}
use Rattle.emitter.specs.Contract.{Entered, Ran, Put, Tested, state_of}
use Rattle.emitter.specs.declared.Record.{Record}
use Rattle.emitter.specs.declared.Place.{Place}
use Rattle.std.proofs.lemmas.List.Sums.{fold_more}
use Rattle.emitter.proofs.Equations.{put-none, put-after}
use Rattle.tables.specs.declared.Equation.{Equation}

-- ---- chunks

chunks-are : (l : List ℕ) → map record_in (first_chunks 4 (length l / 4) l) ≡ records l
unfolding records
chunks-are [] = refl
chunks-are (k ∷ []) = refl
chunks-are (k ∷ a ∷ []) = refl
chunks-are (k ∷ a ∷ b ∷ []) = refl
chunks-are (k ∷ a ∷ b ∷ c ∷ l) =
    let one : length (k ∷ a ∷ b ∷ c ∷ l) / 4 ≡ suc (length l / 4) = omega arith in
    rw one (ap (λ rs. record_in (k ∷ a ∷ b ∷ c ∷ []) ∷ rs) (chunks-are l))

-- A fold over all chunks is one over the records.
pub folded : {S : Type 0} (f : S → Record → S) (s : S) (l : List ℕ) (items : List (List ℕ)) (i : ℕ)
    → items ≡ first_chunks 4 (length l / 4) l → length items ≤ i
    → fold (λ s c. f s (record_in c)) s (take i items) ≡ fold f s (records l)
folded f s l items i e h =
    rw (take_all i items h, e) (sym (fold-map f record_in s (first_chunks 4 (length l / 4) l)) ∙ ap (fold f s) (chunks-are l))

-- ---- entering

-- The first i chunks are entered: the equations before theirs end at o, and the tests stand from u on.
pub record Entering (items : List (List ℕ)) (places t₀ : List ℕ) (u o : ℕ) (t stack : List ℕ) (m : Place) (i : ℕ)
    : Type 0 where
  pub stands : state_of t stack m
      ≡ fold (λ s c. step places (record_in c) s) (state t₀ o u negated_flow []) (take i items)
  pub near : m.next ≤ o + widest * i
  pub tested : m.tests ≤ u + i
  pub low : length stack ≤ i

pub entering-none : (items : List (List ℕ)) (places t : List ℕ) (u o : ℕ) (stack : List ℕ) → stack ≡ []
    → Entering items places t u o t stack (record { next = o; tests = u; negated = negated_flow }) 0
entering-none items places t u o stack e =
    record { stands = rw e; near = omega arith; tested = omega arith; low = omega (arith, ap length e) }

pub entering-one : {items : List (List ℕ)} {places t₀ : List ℕ} {u o : ℕ} {t stack : List ℕ} {m : Place} {i : ℕ}
    {x : Record} {t' stack' : List ℕ} {m' : Place} → Entering items places t₀ u o t stack m i → i < length items
    → x ≡ record_in (get_or items i []) → Entered places x t stack m t' stack' m'
    → Entering items places t₀ u o t' stack' m' (i + 1)
entering-one {items} {places} {t₀} {u} {o} {i = i} g h e-x d =
    let enter : State → List ℕ → State = λ s c. step places (record_in c) s in
    record {
      stands =
          rw (e-x, g.stands) at d.stands
          ∙ sym (fold_more enter (state t₀ o u negated_flow []) items i [] h);
      near = omega (arith, g.near, d.near);
      tested = omega (arith, g.tested, d.tested);
      low = omega (arith, g.low, d.low);
    }

-- All are, and the whole rule's node.
pub entering-all : {arena : List ℕ} {items : List (List ℕ)} {places t₀ : List ℕ} {u o : ℕ} {t stack : List ℕ}
    {m : Place} {i : ℕ} {t' stack' : List ℕ} {m' : Place} → Entering items places t₀ u o t stack m i
    → items ≡ first_chunks 4 (length arena / 4) arena → length items ≤ i → i ≤ length arena / 4
    → Entered places whole t stack m t' stack' m' → Ran arena places t₀ u o t' m'.next
unfolding run
entering-all {arena} {items} {places} {t₀} {u} {o} {i = i} g e h few d =
    let all = rw (g.stands, folded (λ s r. step places r s) (state t₀ o u negated_flow []) arena items i e h) at d.stands in
    record {
      table = ap (λ (s : State). s.table) all;
      many = ap (λ (s : State). s.next) all;
      few = omega (arith, g.near, d.near);
    }

-- ---- the tests

-- A record has one test at most.
test-near : (x : Record) (o : ℕ) → place_after o (test_of x) ≤ o + 1
test-near x o = at_most (eqb x.kind VELOCITY)
  where
    at_most : (b : Bool) → place_after o (cond b (equation tables.VELOCITY x.a x.b 0 ∷ []) []) ≤ o + 1
    at_most true = omega arith
    at_most false = omega arith

-- The tests of the first i chunks are put from place o₀ on, one for each at most.
abbrev chunk_test : List ℕ → List Equation
chunk_test c = test_of (record_in c)

pub record Testing (items : List (List ℕ)) (t₀ : List ℕ) (o₀ : ℕ) (t : List ℕ) (o i : ℕ) : Type 0 where
  pub put : Put (flat_map chunk_test (take i items)) t₀ o₀ t o
  pub few : o ≤ o₀ + i

pub testing-none : (items : List (List ℕ)) (t : List ℕ) (o : ℕ) → Testing items t o t o 0
testing-none items t o =
    record { put = put-none t o; few = omega arith }

pub testing-one : {items : List (List ℕ)} {t₀ : List ℕ} {o₀ : ℕ} {t : List ℕ} {o i : ℕ} {x : Record} {t' : List ℕ}
    {o' : ℕ} → Testing items t₀ o₀ t o i → i < length items → x ≡ record_in (get_or items i [])
    → Put (test_of x) t o t' o' → Testing items t₀ o₀ t' o' (i + 1)
testing-one {items} {i = i} {x} g h e-x d =
    let here : flat_map chunk_test (take (i + 1) items) ≡ flat_map chunk_test (take i items) ++ test_of x =
    rw (take_more items i [] h, flat_map-append chunk_test (take i items) (get_or items i [] ∷ []), e-x)
    (ap (λ (l : List Equation). flat_map chunk_test (take i items) ++ l) (append-nil (chunk_test (get_or items i [])))) in
    record { put = rw here (put-after g.put d); few = omega (arith, test-near x, d.next, g.few) }

pub testing-all : {arena : List ℕ} {items : List (List ℕ)} {t₀ : List ℕ} {o₀ : ℕ} {t : List ℕ} {o i : ℕ}
    → Testing items t₀ o₀ t o i → items ≡ first_chunks 4 (length arena / 4) arena → length items ≤ i
    → i ≤ length arena / 4 → Tested arena t₀ o₀ t o
unfolding tests_in
testing-all {arena} {items} {t₀} {o₀} {t} {o} {i} g e h few =
    let all : flat_map chunk_test (take i items) ≡ tests_in arena =
    rw (take_all i items h, e)
    (sym (flat_map-map test_of record_in (first_chunks 4 (length arena / 4) arena))
    ∙ ap (flat_map test_of) (chunks-are arena)) in
    record { put = rw all at g.put; few = omega (arith, g.few) }
