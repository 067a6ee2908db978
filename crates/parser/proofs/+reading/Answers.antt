-- The answers of the members, each by what Steps and Chains have for that turn of its code; what a call with a lower
-- measure ensures says what it took, or that it lost.
use mathlib.Core.Bool.{Bool, true}
use mathlib.Core.List.{List}
use mathlib.Core.Path.{◌≡◌, refl, sym, ap, ◌∙◌}
use Prim.Native.Nat.{ℕ, ◌+◌}
use native.Mathlib.Omega.{arith}
use Rattle.words.specs.Word
use Rattle.words.specs.Word.{is_signal, is_num, is_test, is_count}
use Rattle.grammar.specs.Parse.{word, join_of}
use Rattle.grammar.specs.Parse.Goal.{go_b}
use Rattle.grammar.proofs.Position.{span, inside, test-pos, count-pos, signal-pos, num_pos}
use Rattle.grammar.proofs.Complete.{stop-join}
use Rattle.facts.specs.Facts.{atom_facts}
use Rattle.facts.specs.declared.Facts.{Facts}
use Rattle.parser.specs.Contract.{Room, Pushed}
use Rattle.parser.proofs.Chains
use Rattle.parser.proofs.Chains.{chain-C, chain-D}
use Rattle.parser.proofs.Steps
use Rattle.parser.proofs.Steps.{round, between}
use Rattle.parser.proofs.Stored.{Took, Space, took, lost, fails, few-nodes, stored_on, pushed, room, space, opening}
use Rattle.parser.proofs.Stored.{skip, spared, past_first, past_word, past-tree, past-outside, past-between, past-push}
use Rattle.parser.proofs.Stored.{fits-push, fits-tree}
use Rattle.parser.proofs.+reading.Goals as goal

-- ---- an atom

pub atom-prop-requires : goal.atom-prop-requires
atom-prop-requires t c =
    let some = test-pos _ (sym c.is_test.ensures ∙ c.if-is_test.true) in
    let s = past_first c.requires (sym c.number_at-k.ensures) (omega (arith, some)) in
    (omega (arith, c.decreases), opening s (omega arith))

pub atom-returns-in_err-p : goal.atom-returns-in_err-p
atom-returns-in_err-p t c =
    let test : is_test c.number_at-k.result ≡ true = sym c.is_test.ensures ∙ c.if-is_test.true in
    rw c.from_residual.ensures
    (fails _ (Steps.test-is _ _ (ap is_test (sym c.number_at-k.ensures) ∙ test)) (lost c.prop.ensures c.in_err-p.was))

pub atom-overflow_sub-k : goal.atom-overflow_sub-k
atom-overflow_sub-k t c = test-pos _ (sym c.is_test.ensures ∙ c.if-is_test.true)

pub atom-push-requires : goal.atom-push-requires
atom-push-requires t c =
    let some = test-pos _ (sym c.is_test.ensures ∙ c.if-is_test.true) in
    let s = past_first c.requires (sym c.number_at-k.ensures) (omega (arith, some)) in
    fits-tree 0 s (took c.prop.ensures (λ a m h. span (h (omega arith))) c.in_ok-p.was).part

pub atom-returns-then-is_test : goal.atom-returns-then-is_test
atom-returns-then-is_test t c =
    let test : is_test c.number_at-k.result ≡ true = sym c.is_test.ensures ∙ c.if-is_test.true in
    Steps.A-test (ap is_test (sym c.number_at-k.ensures) ∙ test)
    (took c.prop.ensures (λ a m h. span (h (omega arith))) c.in_ok-p.was) c.number_at-k.ensures c.push.ensures
    (c.atom_facts.ensures ∙ ap atom_facts c.is_lead_test.ensures)

pub atom-returns-then-k-eq-LEN : goal.atom-returns-then-k-eq-LEN
atom-returns-then-k-eq-LEN t c = Steps.A_len (sym c.number_at-k.ensures ∙ c.if-k-eq-LEN.true) c.comparison.ensures

pub atom-prop-requires-then-is_count : goal.atom-prop-requires-then-is_count
atom-prop-requires-then-is_count t c =
    let some = count-pos _ (sym c.is_count.ensures ∙ c.if-is_count.true) in
    let s = past_first c.requires (sym c.number_at-k.ensures) (omega (arith, some)) in
    (omega (arith, c.decreases), opening s (omega arith))

pub atom-returns-in_err-p-2 : goal.atom-returns-in_err-p-2
atom-returns-in_err-p-2 t c =
    let count : is_count c.number_at-k.result ≡ true = sym c.is_count.ensures ∙ c.if-is_count.true in
    rw c.from_residual-in_err-p-2.ensures
    (fails _ (Steps.count-is _ _ (ap is_count (sym c.number_at-k.ensures) ∙ count))
    (lost c.prop-then-is_count.ensures c.in_err-p-2.was))

pub atom-overflow_sub-kind : goal.atom-overflow_sub-kind
atom-overflow_sub-kind t c = count-pos _ (sym c.is_count.ensures ∙ c.if-is_count.true)

pub atom-comparison-requires-then-is_count : goal.atom-comparison-requires-then-is_count
atom-comparison-requires-then-is_count t c =
    let some = count-pos _ (sym c.is_count.ensures ∙ c.if-is_count.true) in
    let first = past_first c.requires (sym c.number_at-k.ensures) (omega (arith, some)) in
    let s =
    past-tree first (took c.prop-then-is_count.ensures (λ a m h. span (h (omega arith))) c.in_ok-p-2.was).part in
    (omega arith, fits-push 0 s)

pub atom-returns-then-is_count : goal.atom-returns-then-is_count
atom-returns-then-is_count t c =
    let count : is_count c.number_at-k.result ≡ true = sym c.is_count.ensures ∙ c.if-is_count.true in
    Steps.A-count (ap is_count (sym c.number_at-k.ensures) ∙ count)
    (took c.prop-then-is_count.ensures (λ a m h. span (h (omega arith))) c.in_ok-p-2.was) c.number_at-k.ensures
    c.is_lead_count.ensures c.comparison-then-is_count.ensures

pub atom-returns : goal.atom-returns
atom-returns t c =
    let w = sym c.number_at-k.ensures in
    Steps.A-none (ap is_test w ∙ sym c.is_test.ensures ∙ c.if-is_test.false)
    (λ e. c.if-k-eq-LEN.false (c.number_at-k.ensures ∙ e))
    (ap is_count w ∙ sym c.is_count.ensures ∙ c.if-is_count.false)
    (λ e. c.if-k-eq-LAG.false (c.number_at-k.ensures ∙ e))

-- ---- `chop` and an F

pub chop-push-requires : goal.chop-push-requires
chop-push-requires t c =
    let s = past_first c.requires.0.room c.requires.0.first (omega arith) in
    fits-tree 0 s (took c.read_f.ensures (λ a m h. span h) c.in_ok-f.was).part

pub chop-chop_facts-requires : goal.chop-chop_facts-requires
chop-chop_facts-requires t c =
    let tree = took c.read_f.ensures (λ a m h. span h) c.in_ok-f.was in
    (c.requires.1, few-nodes c.requires.0.room.few tree.part)

pub chop-returns : goal.chop-returns
chop-returns t c =
    let tree = took c.read_f.ensures (λ a m h. span h) c.in_ok-f.was in
    Steps.joined tree (stored_on tree.part.stored (pushed c.push.ensures)) c.chop_facts.ensures

-- ---- `exists` and a U

pub exists-returns-then-not-is_signal : goal.exists-returns-then-not-is_signal
exists-returns-then-not-is_signal t c =
    Steps.no-signal refl c.requires.first
    (ap is_signal (sym c.number_at-w.ensures) ∙ sym c.is_signal.ensures ∙ c.if-not-is_signal.true)

pub exists-read_u-requires : goal.exists-read_u-requires
exists-read_u-requires t c =
    let s = past_first c.requires.room c.requires.first (omega arith) in
    let some = signal-pos _ (sym c.is_signal.ensures ∙ c.if-not-is_signal.false) in
    let l = inside c.args.ws.now (c.args.at + 1) (omega (arith, some, c.number_at-w.ensures)) in
    (omega (arith, c.decreases, l), room (skip s (omega arith) (omega (arith, l))))

pub exists-returns-in_err-u : goal.exists-returns-in_err-u
exists-returns-in_err-u t c =
    rw c.from_residual.ensures
    (Steps.exists-no refl c.requires.first
    (ap is_signal (sym c.number_at-w.ensures) ∙ sym c.is_signal.ensures ∙ c.if-not-is_signal.false)
    (lost c.read_u.ensures c.in_err-u.was))

pub exists-overflow_sub-w : goal.exists-overflow_sub-w
exists-overflow_sub-w t c = signal-pos _ (sym c.is_signal.ensures ∙ c.if-not-is_signal.false)

pub exists-push-requires : goal.exists-push-requires
exists-push-requires t c =
    let s = past_first c.requires.room c.requires.first (omega arith) in
    let some = signal-pos _ (sym c.is_signal.ensures ∙ c.if-not-is_signal.false) in
    let l = inside c.args.ws.now (c.args.at + 1) (omega (arith, some, c.number_at-w.ensures)) in
    fits-tree 0 (skip s (omega arith) (omega (arith, l))) (took c.read_u.ensures (λ a m h. span h) c.in_ok-u.was).part

pub exists-returns : goal.exists-returns
exists-returns t c =
    Steps.U-exists refl c.requires.first
    (ap is_signal (sym c.number_at-w.ensures) ∙ sym c.is_signal.ensures ∙ c.if-not-is_signal.false)
    (took c.read_u.ensures (λ a m h. span h) c.in_ok-u.was) c.number_at-w.ensures c.push.ensures
    c.exists_facts.ensures

-- ---- `lag`: P, n and Q

-- The room behind the P and the n, after a record.
past-n : {ws : List ℕ} {i : ℕ} {arena : List ℕ} {top n e k a b z r : ℕ} {f : Facts} {mid after : List ℕ}
    → Room ws i arena top → word ws i ≡ Word.LAG → Took (go_b Word.SQUARE Word.COMMA) ws (i + 1) arena top n e f mid
    → is_num (word ws n) ≡ true → Pushed mid e k a b z r after → Space 12 ws (n + 1) after r
past-n {ws} {n = n} room w p is run =
    past_word (past-push 8 (past-between (past_first room w (omega arith)) p (omega arith)) run)
    (inside ws n (omega (arith, num_pos (word ws n) is)))

pub lag-returns-in_err-p : goal.lag-returns-in_err-p
lag-returns-in_err-p t c =
    rw c.from_residual.ensures (fails _ (Steps.lag-is _ _ c.requires.first) (lost c.prop.ensures c.in_err-p.was))

pub lag-returns-then-not-is_num : goal.lag-returns-then-not-is_num
lag-returns-then-not-is_num t c =
    Steps.lag-no-n _ c.requires.first (took c.prop.ensures (λ a m h. span (h (omega arith))) c.in_ok-p.was)
    (ap is_num (sym c.number_at-n.ensures) ∙ sym c.is_num.ensures ∙ c.if-not-is_num.true)

pub lag-push-run-requires : goal.lag-push-run-requires
lag-push-run-requires t c =
    let s = past_first c.requires.room c.requires.first (omega arith) in
    fits-push 8
    (past-between s (took c.prop.ensures (λ a m h. span (h (omega arith))) c.in_ok-p.was) (omega arith))

pub lag-overflow_add-p : goal.lag-overflow_add-p
lag-overflow_add-p t c =
    let p = took c.prop.ensures (λ a m h. span (h (omega arith))) c.in_ok-p.was in
    let is = ap is_num (sym c.number_at-n.ensures) ∙ sym c.is_num.ensures ∙ c.if-not-is_num.false in
    let s = past-n c.requires.room c.requires.first p is c.push-run.ensures in
    omega (arith, s.few, s.within)

pub lag-prop-requires-2 : goal.lag-prop-requires-2
lag-prop-requires-2 t c =
    let p = took c.prop.ensures (λ a m h. span (h (omega arith))) c.in_ok-p.was in
    let is = ap is_num (sym c.number_at-n.ensures) ∙ sym c.is_num.ensures ∙ c.if-not-is_num.false in
    let s = past-n c.requires.room c.requires.first p is c.push-run.ensures in
    (omega (arith, c.decreases, p.part.spans, s.within), opening s (omega arith))

pub lag-returns-in_err-q : goal.lag-returns-in_err-q
lag-returns-in_err-q t c =
    rw c.from_residual-in_err-q.ensures
    (Steps.lag-no-q _ c.requires.first (took c.prop.ensures (λ a m h. span (h (omega arith))) c.in_ok-p.was)
    (ap is_num (sym c.number_at-n.ensures) ∙ sym c.is_num.ensures ∙ c.if-not-is_num.false)
    (lost c.prop-2.ensures c.in_err-q.was))

pub lag-push-fine-requires : goal.lag-push-fine-requires
lag-push-fine-requires t c =
    let p = took c.prop.ensures (λ a m h. span (h (omega arith))) c.in_ok-p.was in
    let is = ap is_num (sym c.number_at-n.ensures) ∙ sym c.is_num.ensures ∙ c.if-not-is_num.false in
    let s = past-n c.requires.room c.requires.first p is c.push-run.ensures in
    let q = took c.prop-2.ensures (λ a m h. span (h (omega arith))) c.in_ok-q.was in
    fits-push 16 (past-between s q (omega arith))

pub lag-push-requires : goal.lag-push-requires
lag-push-requires t c =
    let p = took c.prop.ensures (λ a m h. span (h (omega arith))) c.in_ok-p.was in
    let is = ap is_num (sym c.number_at-n.ensures) ∙ sym c.is_num.ensures ∙ c.if-not-is_num.false in
    let s = past-n c.requires.room c.requires.first p is c.push-run.ensures in
    let q = took c.prop-2.ensures (λ a m h. span (h (omega arith))) c.in_ok-q.was in
    fits-push 12 (past-push 16 (past-between s q (omega arith)) c.push-fine.ensures)

pub lag-returns : goal.lag-returns
lag-returns t c =
    Steps.A-lag _ c.requires.first (took c.prop.ensures (λ a m h. span (h (omega arith))) c.in_ok-p.was)
    (ap is_num (sym c.number_at-n.ensures) ∙ sym c.is_num.ensures ∙ c.if-not-is_num.false) c.push-run.ensures
    (took c.prop-2.ensures (λ a m h. span (h (omega arith))) c.in_ok-q.was) c.number_at-n.ensures c.num_kind.ensures
    c.num_value.ensures c.push-fine.ensures c.push.ensures c.atom_facts.ensures

-- ---- `!` and a U

pub not-returns-in_err-u : goal.not-returns-in_err-u
not-returns-in_err-u t c =
    rw c.from_residual.ensures (Steps.not-no c.requires.first (lost c.read_u.ensures c.in_err-u.was))

pub not-push-requires : goal.not-push-requires
not-push-requires t c =
    let s = past_first c.requires.room c.requires.first (omega arith) in
    fits-tree 0 s (took c.read_u.ensures (λ a m h. span h) c.in_ok-u.was).part

pub not-not_facts-requires : goal.not-not_facts-requires
not-not_facts-requires t c =
    few-nodes c.requires.room.few (took c.read_u.ensures (λ a m h. span h) c.in_ok-u.was).part

pub not-returns : goal.not-returns
not-returns t c =
    Steps.U-not c.requires.first (took c.read_u.ensures (λ a m h. span h) c.in_ok-u.was) c.push.ensures
    c.not_facts.ensures

-- ---- a P between two words

pub prop-returns-then-number_at-before : goal.prop-returns-then-number_at-before
prop-returns-then-number_at-before t c = Steps.B-no (λ e. c.if-number_at-before.true (c.number_at.ensures ∙ e))

pub prop-returns-in_err-f : goal.prop-returns-in_err-f
prop-returns-in_err-f t c =
    rw c.from_residual.ensures
    (Steps.bracket-no (between _ _) (sym c.number_at.ensures ∙ c.if-number_at-before.false)
    (lost c.read_f.ensures c.in_err-f.was))

pub prop-returns-then-number_at-after : goal.prop-returns-then-number_at-after
prop-returns-then-number_at-after t c =
    Steps.bracket-open (between _ _) (sym c.number_at.ensures ∙ c.if-number_at-before.false)
    (took c.read_f.ensures (λ a m h. span h) c.in_ok-f.was)
    (λ e. c.if-number_at-after.true (c.number_at-2.ensures ∙ e))

pub prop-overflow_add-result : goal.prop-overflow_add-result
prop-overflow_add-result t c =
    let s = (took c.read_f.ensures (λ a m h. span h) c.in_ok-f.was).part.spans in
    omega (arith, c.requires.room.few, s.within)

pub prop-returns : goal.prop-returns
prop-returns t c =
    Steps.bracket-closed (between _ _) (sym c.number_at.ensures ∙ c.if-number_at-before.false)
    (took c.read_f.ensures (λ a m h. span h) c.in_ok-f.was)
    (sym c.number_at-2.ensures ∙ c.if-number_at-after.false)

-- ---- C and D

pub read_c-returns-in_err-c : goal.read_c-returns-in_err-c
read_c-returns-in_err-c t c =
    rw c.from_residual.ensures (Chains.none (chain-C c.args.inside) (lost c.read_u.ensures c.in_err-c.was))

pub read_c-loop-arena-init : goal.read_c-loop-arena-init
read_c-loop-arena-init t c =
    Chains.first (chain-C c.args.inside) (took c.read_u.ensures (λ a m h. span h) c.in_ok-c.was)

pub read_c-returns-in_err-u : goal.read_c-returns-in_err-u
read_c-returns-in_err-u t c =
    rw c.from_residual-in_err-u.ensures
    (Chains.missing (chain-C c.args.inside) c.loop-arena.invariant (sym c.number_at.ensures ∙ c.loop-arena-test.true)
    (lost c.read_u-in-loop-arena.ensures c.in_err-u.was))

pub read_c-push-requires : goal.read_c-push-requires
read_c-push-requires t c =
    let s = Chains.joined (chain-C c.args.inside) c.requires c.loop-arena.invariant
    (sym c.number_at.ensures ∙ c.loop-arena-test.true) in
    fits-tree 0 s (took c.read_u-in-loop-arena.ensures (λ a m h. span h) c.in_ok-u.was).part

pub read_c-join_facts-requires : goal.read_c-join_facts-requires
read_c-join_facts-requires t c =
    let part = took c.read_u-in-loop-arena.ensures (λ a m h. span h) c.in_ok-u.was in
    (few-nodes c.requires.few c.loop-arena.invariant.part, few-nodes c.requires.few part.part)

pub read_c-loop-arena-smaller : goal.read_c-loop-arena-smaller
read_c-loop-arena-smaller t c =
    let s = (took c.read_u-in-loop-arena.ensures (λ a m h. span h) c.in_ok-u.was).part.spans in
    omega (arith, s.moves, s.within)

pub read_c-loop-arena-preserved : goal.read_c-loop-arena-preserved
read_c-loop-arena-preserved t c =
    Chains.more (chain-C c.args.inside) c.loop-arena.invariant (sym c.number_at.ensures ∙ c.loop-arena-test.true)
    (took c.read_u-in-loop-arena.ensures (λ a m h. span h) c.in_ok-u.was) c.push.ensures c.join_facts.ensures

pub read_c-returns : goal.read_c-returns
read_c-returns t c =
    Chains.done (chain-C c.args.inside) c.loop-arena.invariant
    (λ e. c.loop-arena-test.false (c.number_at.ensures ∙ e))

pub read_d-returns-in_err-d : goal.read_d-returns-in_err-d
read_d-returns-in_err-d t c =
    rw c.from_residual.ensures (Chains.none (chain-D c.args.inside) (lost c.read_c.ensures c.in_err-d.was))

pub read_d-loop-arena-init : goal.read_d-loop-arena-init
read_d-loop-arena-init t c =
    Chains.first (chain-D c.args.inside) (took c.read_c.ensures (λ a m h. span h) c.in_ok-d.was)

pub read_d-returns-in_err-c : goal.read_d-returns-in_err-c
read_d-returns-in_err-c t c =
    rw c.from_residual-in_err-c.ensures
    (Chains.missing (chain-D c.args.inside) c.loop-arena.invariant (sym c.number_at.ensures ∙ c.loop-arena-test.true)
    (lost c.read_c-in-loop-arena.ensures c.in_err-c.was))

pub read_d-push-requires : goal.read_d-push-requires
read_d-push-requires t c =
    let s = Chains.joined (chain-D c.args.inside) c.requires c.loop-arena.invariant
    (sym c.number_at.ensures ∙ c.loop-arena-test.true) in
    fits-tree 0 s (took c.read_c-in-loop-arena.ensures (λ a m h. span h) c.in_ok-c.was).part

pub read_d-join_facts-requires : goal.read_d-join_facts-requires
read_d-join_facts-requires t c =
    let part = took c.read_c-in-loop-arena.ensures (λ a m h. span h) c.in_ok-c.was in
    (few-nodes c.requires.few c.loop-arena.invariant.part, few-nodes c.requires.few part.part)

pub read_d-loop-arena-smaller : goal.read_d-loop-arena-smaller
read_d-loop-arena-smaller t c =
    let s = (took c.read_c-in-loop-arena.ensures (λ a m h. span h) c.in_ok-c.was).part.spans in
    omega (arith, s.moves, s.within)

pub read_d-loop-arena-preserved : goal.read_d-loop-arena-preserved
read_d-loop-arena-preserved t c =
    Chains.more (chain-D c.args.inside) c.loop-arena.invariant (sym c.number_at.ensures ∙ c.loop-arena-test.true)
    (took c.read_c-in-loop-arena.ensures (λ a m h. span h) c.in_ok-c.was) c.push.ensures c.join_facts.ensures

pub read_d-returns : goal.read_d-returns
read_d-returns t c =
    Chains.done (chain-D c.args.inside) c.loop-arena.invariant
    (λ e. c.loop-arena-test.false (c.number_at.ensures ∙ e))

-- ---- F

pub read_f-returns-in_err-d : goal.read_f-returns-in_err-d
read_f-returns-in_err-d t c = rw c.from_residual.ensures (Steps.F-no (lost c.read_d.ensures c.in_err-d.was))

pub read_f-returns-then-inside : goal.read_f-returns-then-inside
read_f-returns-then-inside t c =
    Steps.F-one (took c.read_d.ensures (λ a m h. span h) c.in_ok-d.was)
    (ap (λ (x : Bool). join_of x (word c.args.ws.now c.in_ok-d.d.at)) c.if-inside.true)

pub read_f-then-requires : goal.read_f-then-requires
read_f-then-requires t c =
    let tree = took c.read_d.ensures (λ a m h. span h) c.in_ok-d.was in
    let s = past-outside c.requires tree c.if-inside.false in
    let more : Room c.args.ws.now c.in_ok-d.d.at c.read_d.new.arena (c.in_ok-d.d.top + 8) =
    record { few = s.few; within = s.within; fits = s.fits } in (
      omega (arith, c.decreases, tree.part.spans),
      (record { room = more; first = sym c.number_at.ensures ∙ c.in-23.is }, few-nodes c.requires.few tree.part),
    )

pub read_f-chop-requires : goal.read_f-chop-requires
read_f-chop-requires t c =
    let tree = took c.read_d.ensures (λ a m h. span h) c.in_ok-d.was in (
      omega (arith, c.decreases, tree.part.spans),
      (
        record {
          room = room (past-tree (space c.requires) tree.part);
          first = sym c.number_at.ensures ∙ c.in-24.is;
        },
        few-nodes c.requires.few tree.part,
      ),
    )

pub read_f-returns-in-23 : goal.read_f-returns-in-23
read_f-returns-in-23 t c =
    Steps.F-then (took c.read_d.ensures (λ a m h. span h) c.in_ok-d.was) c.if-inside.false
    (sym c.number_at.ensures ∙ c.in-23.is) c.then.ensures

pub read_f-returns-in-24 : goal.read_f-returns-in-24
read_f-returns-in-24 t c =
    Steps.F-chop (took c.read_d.ensures (λ a m h. span h) c.in_ok-d.was) c.if-inside.false
    (sym c.number_at.ensures ∙ c.in-24.is) c.chop.ensures

pub read_f-returns-in_default : goal.read_f-returns-in_default
read_f-returns-in_default t c =
    Steps.F-one (took c.read_d.ensures (λ a m h. span h) c.in_ok-d.was)
    (stop-join c.args.inside _ (λ e. omega (arith, c.number_at.ensures)) (λ e. omega (arith, c.number_at.ensures)))

-- ---- U

pub read_u-returns-in_default : goal.read_u-returns-in_default
read_u-returns-in_default t c =
    Steps.U-leaf (λ e. omega (arith, c.number_at.ensures)) (λ e. omega (arith, c.number_at.ensures))
    c.if-inside.true c.leaf.ensures

pub read_u-returns-in_default-2 : goal.read_u-returns-in_default-2
read_u-returns-in_default-2 t c =
    Steps.U-atom (λ e. omega (arith, c.number_at.ensures)) (λ e. omega (arith, c.number_at.ensures))
    c.if-inside.false (λ e. omega (arith, c.number_at.ensures)) c.atom.ensures

pub round-returns-in_err-f : goal.round-returns-in_err-f
round-returns-in_err-f t c =
    rw c.from_residual.ensures
    (Steps.bracket-no (round c.args.inside) c.requires.first (lost c.read_f.ensures c.in_err-f.was))

pub round-returns-then-number_at-ne-ROUND_END : goal.round-returns-then-number_at-ne-ROUND_END
round-returns-then-number_at-ne-ROUND_END t c =
    Steps.bracket-open (round c.args.inside) c.requires.first (took c.read_f.ensures (λ a m h. span h) c.in_ok-f.was)
    (λ e. c.if-number_at-ne-ROUND_END.true (c.number_at.ensures ∙ e))

pub round-returns : goal.round-returns
round-returns t c =
    Steps.bracket-closed (round c.args.inside) c.requires.first
    (took c.read_f.ensures (λ a m h. span h) c.in_ok-f.was)
    (sym c.number_at.ensures ∙ c.if-number_at-ne-ROUND_END.false)

-- ---- `then` and an F

pub then-push-requires : goal.then-push-requires
then-push-requires t c =
    let first = spared 8 (past_first c.requires.0.room c.requires.0.first (omega arith)) in
    let s = past-push 8 first c.push-mark.ensures in
    fits-tree 4 s (took c.read_f.ensures (λ a m h. span h) c.in_ok-f.was).part

pub then-then_facts-requires : goal.then-then_facts-requires
then-then_facts-requires t c =
    let tree = took c.read_f.ensures (λ a m h. span h) c.in_ok-f.was in
    (c.requires.1, few-nodes c.requires.0.room.few tree.part)

pub then-returns : goal.then-returns
then-returns t c =
    let tree = took c.read_f.ensures (λ a m h. span h) c.in_ok-f.was in
    Steps.joined tree
    (stored_on (pushed c.push-mark.ensures) (stored_on tree.part.stored (pushed c.push.ensures)))
    c.then_facts.ensures
