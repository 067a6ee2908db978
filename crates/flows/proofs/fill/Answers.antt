-- One turn: the value that is made of the flows in the buffer is stored after them.
use Rattle.std.proofs.Common.{◌≡◌, sym, ap, ◌∙◌, ℕ, ◌+◌, ◌<◌, List, ◌++◌, length, take, drop}
use native.Mathlib.Omega.{arith}
use lib.ListN.{set}
use lib.Seq.{take_at}
use Rattle.traces.specs.declared.Tick.{Tick}
use Rattle.flows.specs.Flow.{value_at, flows}
use Rattle.flows.proofs.Buffers.{flows-none, flows-store, length-flows}
use Rattle.flows.proofs.fill.Goals as goal

turn : (cap : ℕ) (t : List ℕ) (k : Tick) (state values₀ values : List ℕ) (i x : ℕ) → i < length values₀
    → values ≡ flows cap t k state i ++ drop i values₀ → x ≡ value_at cap t k state (take i values) i
    → set values i x ≡ flows cap t k state (i + 1) ++ drop (i + 1) values₀
turn cap t k state values₀ values i x h inv e =
    let fs = flows cap t k state i in
    let before : take i values ≡ fs = ap (take i) inv ∙ take_at fs (drop i values₀) i (length-flows cap t k state i) in
    ap (λ (l : List ℕ). set l i x) inv
    ∙ flows-store cap t k state i x values₀ h (e ∙ ap (λ (l : List ℕ). value_at cap t k state l i) before)

pub loop-i-init : goal.loop-i-init
loop-i-init c =
    let none = flows-none c.args.cap c.args.table.numbers.now c.args.tick c.args.state.now in
    ap (λ (l : List ℕ). l ++ c.args.values.now) (sym none)

pub loop-i-preserved : goal.loop-i-preserved
loop-i-preserved c = turn _ _ _ _ _ _ _ _ (omega arith) c.loop-i.invariant (rw c.equation.ensures at c.value.ensures)
