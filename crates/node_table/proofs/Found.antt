-- The node of a kind stands at its place of the table. Assumes nothing.
use mathlib.Core.List.{List, [], ◌∷◌, ◌++◌, map}
use mathlib.Core.Path.{◌≡◌, refl, sym, ap, ◌∙◌}
use Prim.Native.Nat.{ℕ, zero, suc, ◌≤◌, min}
use native.Mathlib.Omega.{arith}
use native.Mathlib.Decide.{dec_lt}
use lib.ListN.{length, get_or, get_or-eq_default, length-map}
use Rattle.std.proofs.lemmas.List.{get_or-map}
use Rattle.scheme.specs.Scheme.{Node as SchemeNode, node_list, no_node, node_count, node_of}
use Rattle.node_table.specs.Table.{scheme_node, node_table}
use Rattle.node_table.specs.declared.Node.{Node}

with_none : (l : List SchemeNode) (k : ℕ) → get_or (l ++ (no_node ∷ [])) k no_node ≡ get_or l k no_node
with_none [] zero = refl
with_none [] (suc k) = refl
with_none (d ∷ l) zero = refl
with_none (d ∷ l) (suc k) = with_none l k

none : (k : ℕ) → node_count ≤ k → node_of k ≡ no_node
unfolding node_of
none k h = get_or-eq_default node_list no_node h

at_least : (k i : ℕ) → i ≡ min k node_count → node_of i ≡ node_of k
at_least k i e = elim (dec_lt k node_count) [
  | yes low ↦ (let here : i ≡ k = omega arith in ap node_of here)
  | no high ↦ none i (omega arith) ∙ sym (none k (omega arith))
]

pub node-found : (t : List Node) (k i : ℕ) (x : Node) → map scheme_node t ≡ node_table → i ≡ min k node_count
    → scheme_node (get_or t i x) ≡ node_of k
unfolding node_table
node-found t k i x e-t e-i =
    let long : length t ≡ length (node_list ++ (no_node ∷ [])) = sym (length-map t scheme_node) ∙ ap length e-t in
    sym (get_or-map scheme_node t i x no_node (omega arith))
    ∙ ap (λ (l : List SchemeNode). get_or l i no_node) e-t
    ∙ unfold node_of in with_none node_list i
    ∙ at_least k i e-i
