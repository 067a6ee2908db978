-- Bytes handed to one write after another, from the front on. Assumes nothing.
use mathlib.Core.Path.{◌≡◌, ◌∙◌, ap}
use mathlib.Core.Bool.{Bool, true, false}
use mathlib.Core.List.{List}
use Prim.Native.Nat.{ℕ, ◌+◌, ◌-◌, ◌≤◌, ◌<◌}
use native.Mathlib.Omega.{arith}
use lib.ListN.{length, take, drop, length-drop}
use lib.Seq.{length-take-le, drop-drop}
use Rattle.feeder.proofs.Moving.{drop-take}
use Rattle.streams.specs.Calls.{Wrote}
use Rattle.towerwatch.specs.Turns.{Handed}

-- Of the first n bytes of out, all before `from` have been taken: what comes of the others comes of all.
pub record Taken (out : List ℕ) (n at from : ℕ) : Type 0 where
  pub within : from ≤ n
  pub leads : (done : Bool) → Handed (at + from) (take (n - from) (drop from out)) done → Handed at (take n out) done

module _ {out : List ℕ} {n at from : ℕ} (t : Taken out n at from) where
  pub taken-all : n ≤ from → Handed at (take n out) true
  taken-all h =
      let e : n - from ≡ 0 = omega (arith, h) in
      t.leads true (rw e Handed.all)

  module _ (h : n ≤ length out) {k : ℕ} (w : Wrote (at + from) (take (n - from) (drop from out)) k) where
    rest-length : length (take (n - from) (drop from out)) ≡ n - from
    rest-length = length-take-le (n - from) (drop from out) (omega (arith, h, length-drop from out))

    -- A write took k bytes more: no more than there are,
    pub taken-room : from + k ≤ n
    taken-room = omega (arith, w.took, rest-length, t.within)

    -- and the next one begins after them;
    pub taken_more : 0 < k → Taken out n at (from + k)
    taken_more p =
        let place : at + from + k ≡ at + (from + k) = omega arith in
        let count : n - from - k ≡ n - (from + k) = omega arith in
        let rest : drop k (take (n - from) (drop from out)) ≡ take (n - (from + k)) (drop (from + k) out) =
        drop-take k (n - from) (drop from out)
        ∙ ap (λ (i : ℕ). take i (drop k (drop from out))) count
        ∙ ap (take (n - (from + k))) (drop-drop k from out) in
        record {
          within = taken-room;
          leads = λ done x. t.leads done (Handed.some w p (rw (place, rest) x));
        }

    -- or it took none.
    pub taken-stuck : from < n → k ≡ 0 → Handed at (take n out) false
    taken-stuck l e = t.leads false (Handed.none (rw e at w) (omega (arith, l, rest-length)))
