-- `parser::velocity` meets its contract: three words, each of its class, and then one record. Assumes nothing.
use mathlib.Core.Bool.{true}
use mathlib.Core.List.{List}
use mathlib.Core.Path.{◌≡◌, sym, ap, ap₂, ◌∙◌}
use Prim.Native.Nat.{ℕ, ◌+◌}
use borrow.Author.Tests.{eq-eqb}
use Rattle.traces.specs.Compare.{op_number}
use Rattle.formulas.specs.Arena.{row}
use Rattle.formulas.specs.Arena
use Rattle.formulas.specs.Tree.Tree.{velocity}
use Rattle.words.specs.Word.{VEL, is_op, is_velocity}
use Rattle.grammar.specs.Grammar.{op_word, velocity_word}
use Rattle.grammar.specs.Parse.{word}
use Rattle.grammar.proofs.Position.{op-pos, velocity-pos}
use Rattle.grammar.proofs.Words.{op-number}
use Rattle.facts.specs.Facts.{leaf_facts}
use Rattle.facts.specs.declared.Facts.{Facts}
use Rattle.parser.specs.Contract.{ParsesVelocity, Pushed}
use Rattle.parser.specs.Contract.{parsed}
use Rattle.parser.proofs.Stored.{to-tree, reads-to, pushed, stored-as}
use Rattle.parser.proofs.velocity.Goals as goal

-- All words are there, and the record has what they stand for.
a_test : {ws : List ℕ} {i : ℕ} {before : List ℕ} {top : ℕ} {after : List ℕ} {a b e : ℕ} {f : Facts}
    → word ws i ≡ VEL → is_op (word ws (i + 1)) ≡ true → is_velocity (word ws (i + 2)) ≡ true
    → a ≡ op_number (op_word (word ws (i + 1))) → b ≡ velocity_word (word ws (i + 2))
    → Pushed before top Arena.VELOCITY a b 0 e after → f ≡ leaf_facts
    → ParsesVelocity ws i before top (parsed (i + 3) e f) after
a_test {ws} {i} w o n ea eb u facts =
    reads-to (to-tree (velocity (op_word (word ws (i + 1))) (velocity_word (word ws (i + 2))))
    (simp (eq-eqb _ _ w, o, n))
    (stored-as (ap₂ (λ (x y : ℕ). row Arena.VELOCITY x y 0) ea eb) (pushed u)) facts)

-- The words are those of a velocity test, so that neither number is below its base,
pub overflow_sub-o : goal.overflow_sub-o
overflow_sub-o c = op-pos _ (sym c.is_op.ensures ∙ c.if-not-is_op.false)

pub overflow_sub-n : goal.overflow_sub-n
overflow_sub-n c = velocity-pos _ (sym c.is_velocity.ensures ∙ c.if-not-is_velocity.false)

-- and the record stands for them.
pub returns : goal.returns
returns c =
    let o = c.number_at-o in
    let n = c.number_at-n in
    let is-op : is_op o.result ≡ true = sym c.is_op.ensures ∙ c.if-not-is_op.false in
    let is-literal : is_velocity n.result ≡ true = sym c.is_velocity.ensures ∙ c.if-not-is_velocity.false in
    a_test (sym c.number_at.ensures ∙ c.if-number_at-ne-VEL.false) (ap is_op (sym o.ensures) ∙ is-op)
    (ap is_velocity (sym n.ensures) ∙ is-literal)
    (sym (op-number o.result is-op) ∙ ap (λ (x : ℕ). op_number (op_word x)) o.ensures)
    (ap velocity_word n.ensures) c.push.ensures c.leaf_facts.ensures
