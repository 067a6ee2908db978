-- The nodes by the kinds of records: none has more than `widest` rows, and none more than one test. Assumes nothing.
use mathlib.Core.Bool.{true}
use mathlib.Core.Path.{◌≡◌, refl}
use Prim.Native.Nat.{ℕ, ◌≤◌}
use native.Mathlib.Decide.{dec_lt}
use native.Mathlib.Omega.{arith}
use lib.Dec.{leb}
use lib.ListN.{length, get_or-eq_default}
use borrow.Author.Tests.{leb-true}
use Rattle.tables.specs.Table.{all}
use Rattle.tables.proofs.Tests.{all-at}
use Rattle.scheme.specs.Scheme.{widest, node_list, node_count, Node, no_node, node_of}

-- What a computation over all kinds says of a number of each node.
at_most : (number : Node → ℕ) (m : ℕ) → all (λ k. leb (number (node_of k)) m) node_count ≡ true → number no_node ≤ m
    → (k : ℕ) → number (node_of k) ≤ m
unfolding node_of
at_most number m test none k = elim (dec_lt k node_count) [
  | yes h ↦ leb-true _ _ (all-at (λ j. leb (number (node_of j)) m) node_count test k h)
  | no h ↦
      let past : node_count ≤ k = omega arith in
      rw (get_or-eq_default node_list no_node past) none
]

pub rows_few : (k : ℕ) → length (node_of k).rows ≤ widest
unfolding all node_of
rows_few = at_most (λ d. length d.rows) widest refl (omega arith)

pub tests-few : (k : ℕ) → (node_of k).tests ≤ 1
unfolding all node_of
tests-few = at_most (λ d. d.tests) 1 refl (omega arith)
