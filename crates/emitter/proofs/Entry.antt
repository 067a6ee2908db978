-- The first numbers of an array as a stack, the values of a record, and one record entered. Assumes nothing.
use mathlib.Core.List.{List, ◌∷◌}
use mathlib.Core.Path.{◌≡◌, refl, ap, ◌∙◌}
use Prim.Native.Nat.{ℕ, zero, suc, ◌+◌, ◌-◌, ◌≤◌, ◌<◌}
use native.Mathlib.Nat.{zero-sub, sub-zero, suc-sub-suc}
use native.Mathlib.Numerals.{add-one}
use native.Mathlib.Omega.{arith}
use lib.ListN.{set, drop, length, length-drop}
use lib.Seq.{get_or-set_same, get_or-set_other}
use denote.Enum.Declared.{tag_of}
use Rattle.lists.specs.Number.{number_at}
use Rattle.scheme.specs.Scheme.{Node, node_of, Values, value_named, filled}
use Rattle.scheme.proofs.Offsets.{⊕-add}
use Rattle.scheme.proofs.ByKind.{rows_few, tests-few}
use Rattle.node_table.specs.Table.{scheme_name}
use Rattle.node_table.specs.contracts.Name.{the_type}
use Rattle.node_table.specs.declared.Name.{Name}
use Rattle.node_table.specs.declared.Name.TheVariants.{Nought, Negated, Start, Last, Previous, Signal, Tested, A, C}
use Rattle.node_table.specs.declared.Name.TheVariants.{First, Second, Third, Fourth, Fifth}
use Rattle.emitter.proofs.Equations.{after-filled}
use Rattle.emitter.specs.Machine.{stacked, value_list, values_at, applied, step}
use Rattle.emitter.specs.Contract.{Put, Entered}
use Rattle.emitter.specs.declared.Place.{Place}
use Rattle.emitter.specs.declared.Record.{Record}

-- ---- reading

-- The operand that lies i below the last of h, where there is one,
pub operand_in : (l : List ℕ) (h i : ℕ) → i < h → number_at l (h - i - 1) ≡ number_at (stacked l h) i
unfolding stacked
operand_in l zero i e = absurd (omega arith)
operand_in l (suc h) zero e = let z : suc h - 0 - 1 ≡ h = omega arith in rw z
operand_in l (suc h) (suc i) e =
    let z : suc h - suc i - 1 ≡ h - i - 1 = omega arith in
    rw z (operand_in l h i (omega arith))

-- and where there is none.
pub operand-out : (l : List ℕ) (h i : ℕ) → h ≤ i → 0 ≡ number_at (stacked l h) i
unfolding stacked
operand-out l zero i e = refl
operand-out l (suc h) zero e = absurd (omega arith)
operand-out l (suc h) (suc i) e = operand-out l h i (omega arith)

-- ---- taking off and putting on

-- A number stored at the height or above is not on the stack.
stacked-above : (l : List ℕ) (h i v : ℕ) → h ≤ i → stacked (set l i v) h ≡ stacked l h
unfolding stacked
stacked-above l zero i v e = refl
stacked-above l (suc h) i v e =
    let other : h ≡ i → ⊥ = λ z. omega arith in
    rw (get_or-set_other l i h v 0 other, stacked-above l h i v (omega arith))

stacked-drop : (l : List ℕ) (h t : ℕ) → stacked l (h - t) ≡ drop t (stacked l h)
unfolding stacked
stacked-drop l h zero = rw sub-zero
stacked-drop l zero (suc t) = rw zero-sub
stacked-drop l (suc h) (suc t) = rw suc-sub-suc (stacked-drop l h t)

-- t operands come off, v goes on.
pub stacked-next : (l : List ℕ) (h t v : ℕ) → h < length l
    → stacked (set l (h - t) v) (h - t + 1) ≡ v ∷ drop t (stacked l h)
unfolding stacked
stacked-next l h t v e =
    let low : h - t < length l = omega arith in
    let top : ℕ = h - t in
    rw
    (add-one top, get_or-set_same l top v 0 low, stacked-above l top top v (omega arith), stacked-drop l h t)

-- The stack holds no more than its height.
pub stacked-length : (l : List ℕ) (h : ℕ) → length (stacked l h) ≡ h
unfolding stacked
stacked-length l zero = refl
stacked-length l (suc h) = ap suc (stacked-length l h)

-- ---- values

pub named_is : (v : Values) (l : List ℕ) (n : Name) → l ≡ value_list v
    → number_at l (tag_of the_type n) ≡ value_named v (scheme_name n)
named_is v l Nought e = rw e
named_is v l Negated e = rw e
named_is v l Start e = rw e
named_is v l Last e = rw e
named_is v l Previous e = rw e
named_is v l Signal e = rw e
named_is v l Tested e = rw e
named_is v l A e = rw e
named_is v l C e = rw e
named_is v l First e = rw e
named_is v l Second e = rw e
named_is v l Third e = rw e
named_is v l Fourth e = rw e
named_is v l Fifth e = rw e

-- ---- one record, whose node's rows are put and whose result is on the stack

pub entered : {places : List ℕ} {x : Record} {t stack : List ℕ} {m : Place} {d : Node} {v : Values} {t' : List ℕ}
    {next : ℕ} {stack' : List ℕ} → d ≡ node_of x.kind
    → v ≡ values_at places m.next m.tests m.negated stack x → Put (filled v d.rows) t m.next t' next
    → stack' ≡ value_named v d.result ∷ drop d.takes stack
    → Entered places x t stack m t' stack'
    (record { next = next; tests = m.tests + d.tests; negated = value_named v d.negated })
unfolding step applied
entered {places} {x} {t} {stack} {m} {d} {v} {t'} {next} {stack'} e-d e-v put e-stack =
    let few = rows_few x.kind in
    let few-tests = tests-few x.kind in
    let rows : length d.rows ≡ length (node_of x.kind).rows = ap (λ (n : Node). length n.rows) e-d in
    let tests : d.tests ≡ (node_of x.kind).tests = ap (λ (n : Node). n.tests) e-d in
    let far = put.next ∙ after-filled v d.rows m.next in
    record {
      stands = rw (← e-d, ← e-v, put.table, far, e-stack, ⊕-add m.tests d.tests);
      near = omega (arith, far, ⊕-add m.next (length d.rows));
      tested = omega arith;
      low = omega (arith, ap length e-stack, length-drop d.takes stack);
    }
