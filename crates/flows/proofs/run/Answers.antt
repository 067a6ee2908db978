-- The flows, then the state, then the answer.
use Rattle.std.proofs.Common.{◌≡◌, ap, ◌∙◌, ℕ, List, ◌++◌, take, drop, Ok}
use lib.Seq.{take_at}
use Rattle.traces.specs.declared.Tick.{Tick}
use Rattle.lists.specs.Number.{number_at}
use Rattle.flows.specs.Flow.{flows, answer_of, next_state}
use Rattle.flows.specs.Step.{after_step, after_tick}
use Rattle.flows.proofs.Buffers.{length-flows}
use Rattle.flows.proofs.run.Goals as goal

whole : (cap : ℕ) (t : List ℕ) (n : ℕ) (k : Tick) (state₀ values₀ state values : List ℕ) (v : ℕ)
    → values ≡ flows cap t k state₀ n ++ drop n values₀ → state ≡ next_state t (take n values) n state₀
    → v ≡ answer_of n (number_at (take n values))
    → after_step (Ok v) state values ≡ after_tick cap t n state₀ values₀ k
unfolding after_tick
whole cap t n k state₀ values₀ state values v ev es ea =
    let fs = flows cap t k state₀ n in
    let first : take n values ≡ fs = ap (take n) ev ∙ take_at fs (drop n values₀) n (length-flows cap t k state₀ n) in
    rw (ea, es, first, ev)

pub returns : goal.returns
returns c = whole _ _ _ _ _ _ _ _ _ c.fill.ensures c.advance.ensures c.answer_of.ensures
