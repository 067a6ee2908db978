-- Each atom's rows give its meaning, from the latest start on: by induction on the ticks since that start.
-- Assumes nothing.
use mathlib.Core.Bool.{Bool, true, false, not, ◌&&◌, or-false}
use mathlib.Core.List.{[], ◌∷◌}
use mathlib.Core.Path.{◌≡◌, sym, ap, ◌∙◌}
use Prim.Native.Nat.{ℕ, zero, suc, ◌<◌, min}
use native.Mathlib.Nat.{min-zero}
use Rattle.traces.specs.Trace.{Trace, parameter_at}
use Rattle.traces.specs.Compare.{op_number, compares}
use Rattle.traces.specs.declared.Op.{Op}
use Rattle.traces.proofs.Laws.{op-number}
use Rattle.formulas.specs.Formula.{Num}
use Rattle.formulas.specs.Formula.Num.{literal, parameter}
use Rattle.formulas.specs.Meaning.{value, each, tally, streak}
use Rattle.formulas.specs.Arena.{num_kind, num_value}
use Rattle.tables.specs.Table.{kind_of}
use Rattle.scheme.specs.Scheme.{◌⊕◌, comparison_of}
use Rattle.tables.specs.Table.{equation}
use Rattle.scheme.specs.Emit.{begin-es, point-es, kept-es, held-es, len-es, sum-es, run-es}
use Rattle.scheme.proofs.Offsets.{longer, each_last, tally-last, streak-single}
use Rattle.scheme.proofs.Local.{on, Stand}
use Rattle.scheme.proofs.Caps.{compares-held, increased-held, restarted-held, first-held}

-- s at tick b and at none of the d ticks after it: b is the latest start at b ⊕ d.
abbrev pub Since : (ℕ → Bool) → ℕ → ℕ → Type 0
Since s b zero = s b ≡ true
Since s b (suc d) = Since s b d × (s (suc (b ⊕ d)) ≡ false)

module _ (cap : ℕ) (trace : Trace) (flow : ℕ → ℕ → ℕ) where
  -- The start flow s and its negation n.
  module _ (s n : ℕ) (negated : (k : ℕ) → on flow n k ≡ not (on flow s k)) where
    -- The flow p, which says at every tick what q says.
    module _ (o p : ℕ) (q : ℕ → Bool) (says : (k : ℕ) → on flow p k ≡ q k) where
      pub kept-is : Stand cap trace flow o (kept-es s o p) → (b d : ℕ) → Since (on flow s) b d
          → on flow (o ⊕ 1) (b ⊕ d) ≡ each q b d
      unfolding kind_of
      kept-is h b zero since = rw (h.1.0 b, since)
      kept-is h b (suc d) since =
          let memory = h.0.1 (b ⊕ d) in
          let kept = h.1.0 (suc (b ⊕ d)) in
          let next = h.1.1.0 (b ⊕ d) in
          rw (kept, since.1, memory, next, kept-is h b d since.0, says (b ⊕ d)) (sym (each_last q b d))

      pub held-is : Stand cap trace flow o (held-es s n o p) → (b d : ℕ) → Since (on flow s) b d
          → on flow (o ⊕ 3) (b ⊕ d) ≡ longer d && each q b d
      unfolding kind_of
      held-is h b zero since = rw (h.1.1.1.0 b, negated b, since)
      held-is h b (suc d) since =
          let memory = h.0.1 (b ⊕ d) in
          let next = h.1.1.0 (b ⊕ d) in
          let held = h.1.1.1.0 (suc (b ⊕ d)) in
          let kept = kept-is (h.0, (h.1.0, (h.1.1.0, tt))) b d since.0 in
          rw (held, negated (suc (b ⊕ d)), since.1, memory, next, kept, says (b ⊕ d)) (sym (each_last q b d))

      pub begin-is : Stand cap trace flow o (begin-es s n o p) → (b d : ℕ) → Since (on flow s) b d
          → on flow (o ⊕ 3) (b ⊕ d) ≡ q b
      unfolding kind_of
      begin-is h b zero since =
          let now = h.1.0 b in
          let before = h.1.1.0 b in
          let begun = h.1.1.1.0 b in
          rw (begun, now, before, negated b, since, says b) (or-false (q b))
      begin-is h b (suc d) since =
          let memory = h.0.1 (b ⊕ d) in
          let now = h.1.0 (suc (b ⊕ d)) in
          let before = h.1.1.0 (suc (b ⊕ d)) in
          let begun = h.1.1.1.0 (suc (b ⊕ d)) in
          rw (begun, now, before, negated (suc (b ⊕ d)), since.1, memory) (begin-is h b d since.0)

      pub point-is : Stand cap trace flow o (point-es s o p) → (b d : ℕ) → Since (on flow s) b d
          → on flow o (b ⊕ d) ≡ not (longer d) && q b
      unfolding kind_of
      point-is h b zero since = rw (h.0 b, since, says b)
      point-is h b (suc d) since = rw (h.0 (suc (b ⊕ d)), since.1)

      pub sum_is : (op : Op) (x : Num) → Stand cap trace flow o (sum-es n op x o p)
          → (b d : ℕ) → Since (on flow s) b d → flow (b ⊕ d) (o ⊕ 1) ≡ min cap (tally q b d)
      unfolding kind_of
      sum_is op x h b zero since = rw (h.1.0 b, negated b, since) (sym (min-zero cap))
      sum_is op x h b (suc d) since =
          let memory = h.0.1 (b ⊕ d) in
          let counted = h.1.0 (suc (b ⊕ d)) in
          let next = h.1.1.0 (b ⊕ d) in
          let ago = sum_is op x h b d since.0 in
          rw (counted, negated (suc (b ⊕ d)), since.1, memory, next, says (b ⊕ d), ago)
          (increased-held cap (tally q b d) (q (b ⊕ d)) ∙ ap (min cap) (sym (tally-last q b d)))

      -- The run up to now, of `age` and of `lag`.
      pub run_is : Stand cap trace flow o (run-es n o p) → (b d : ℕ) → Since (on flow s) b d
          → flow (b ⊕ d) (o ⊕ 3) ≡ min cap (streak q (b ⊕ d) d)
      unfolding kind_of
      run_is h b zero since =
          let before = h.1.0 b in
          let more = h.1.1.0 b in
          let counted = h.1.1.1.0 b in
          rw (counted, more, before, negated b, since, says b, streak-single) (first-held cap (q b))
      run_is h b (suc d) since =
          let memory = h.0.1 (b ⊕ d) in
          let before = h.1.0 (suc (b ⊕ d)) in
          let more = h.1.1.0 (suc (b ⊕ d)) in
          let counted = h.1.1.1.0 (suc (b ⊕ d)) in
          let ago = run_is h b d since.0 in
          rw (counted, more, before, negated (suc (b ⊕ d)), since.1, memory, says (suc (b ⊕ d)), ago)
          (restarted-held cap (streak q (b ⊕ d) d) (q (suc (b ⊕ d))))

    pub len_is : (o : ℕ) (op : Op) (x : Num) → Stand cap trace flow o (len-es n o op x)
        → (b d : ℕ) → Since (on flow s) b d → flow (b ⊕ d) (o ⊕ 2) ≡ min cap d
    unfolding kind_of
    len_is o op x h b zero since = rw (h.1.1.0 b, negated b, since) (sym (min-zero cap))
    len_is o op x h b (suc d) since =
        let memory = h.0.1 (b ⊕ d) in
        let more = h.1.0 (suc (b ⊕ d)) in
        let counted = h.1.1.0 (suc (b ⊕ d)) in
        rw (counted, more, negated (suc (b ⊕ d)), since.1, memory, len_is o op x h b d since.0)
        (increased-held cap d true)

  -- The comparison of a held count with an x that is below the cap.
  pub compare-is : (i a : ℕ) (op : Op) (x : Num)
      → Stand cap trace flow i (equation (comparison_of (num_kind x)) a (op_number op) (num_value x) ∷ [])
      → (k c : ℕ) → value x (trace k) < cap → flow k a ≡ min cap c → on flow i k ≡ compares op c (value x (trace k))
  unfolding kind_of
  compare-is i a op (literal n) h k c small e = rw (h.0 k, op-number, e) (compares-held cap op c n small)
  compare-is i a op (parameter j) h k c small e =
      rw (h.0 k, op-number, e) (compares-held cap op c (parameter_at (trace k) j) small)
