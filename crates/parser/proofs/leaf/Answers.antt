-- One record, where the word is a signal or a bit. Such a word leaves room for it.
use mathlib.Core.Bool.{true}
use mathlib.Core.Path.{◌≡◌, sym, ap, ◌∙◌}
use Prim.Native.Nat.{ℕ}
use native.Mathlib.Omega.{arith}
use Rattle.traces.specs.Trace.{truth}
use Rattle.formulas.specs.Arena.{row, CONSTANT}
use Rattle.formulas.specs.Tree.Tree.{constant}
use Rattle.words.specs.Word.{is_bit, is_signal}
use Rattle.grammar.specs.Grammar.{bit_word}
use Rattle.grammar.specs.Parse.{word}
use Rattle.grammar.proofs.Position.{signal-pos, bit-pos}
use Rattle.grammar.proofs.Words.{bit-truth}
use Rattle.parser.proofs.Stored.{to-tree, reads-to, pushed, stored-as, past_first, fits-push}
use Rattle.parser.proofs.leaf.Goals as goal

pub overflow_sub-w : goal.overflow_sub-w
overflow_sub-w c = signal-pos _ (sym c.is_signal.ensures ∙ c.if-is_signal.true)

pub push-requires : goal.push-requires
push-requires c =
    let some = signal-pos _ (sym c.is_signal.ensures ∙ c.if-is_signal.true) in
    fits-push 0 (past_first c.requires (sym c.number_at-w.ensures) (omega (arith, some)))

pub overflow_sub-w-then-is_bit : goal.overflow_sub-w-then-is_bit
overflow_sub-w-then-is_bit c = bit-pos _ (sym c.is_bit.ensures ∙ c.if-is_bit.true)

pub push-requires-then-is_bit : goal.push-requires-then-is_bit
push-requires-then-is_bit c =
    let some = bit-pos _ (sym c.is_bit.ensures ∙ c.if-is_bit.true) in
    fits-push 0 (past_first c.requires (sym c.number_at-w.ensures) (omega (arith, some)))

pub returns-then-is_bit : goal.returns-then-is_bit
returns-then-is_bit c =
    let w = c.number_at-w in
    let is-bit : is_bit w.result ≡ true = sym c.is_bit.ensures ∙ c.if-is_bit.true in
    let s = ap is_signal (sym w.ensures) ∙ sym c.is_signal.ensures ∙ c.if-is_signal.false in
    let b = ap is_bit (sym w.ensures) ∙ is-bit in
    let same = ap (λ (x : ℕ). truth (bit_word x)) (sym w.ensures) ∙ bit-truth w.result is-bit in
    reads-to (to-tree (constant (bit_word (word c.args.ws.now c.args.at))) (simp (s, b))
    (stored-as (ap (λ (x : ℕ). row CONSTANT x 0 0) (sym same)) (pushed c.push-then-is_bit.ensures))
    c.leaf_facts-then-is_bit.ensures)
