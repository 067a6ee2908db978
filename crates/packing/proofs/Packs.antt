-- The laws of packing as specs/Laws.antt states them: the packed table, whatever stands behind it, packs the given one
-- (SPEC 16.1), and packing answers and leaves what SPEC 8.8 says. Assumes nothing.
use mathlib.Core.Path.{◌≡◌, refl, ◌∙◌, sym, ap, subst}
use mathlib.Core.Bool.{Bool, true, false, cond}
use mathlib.Core.List.{List, [], ◌∷◌, ◌++◌}
use Prim.Native.Nat.{ℕ, ◌*◌, ◌≤◌, ◌<◌}
use native.Mathlib.Omega.{arith}
use native.Mathlib.Decide.{dec_le}
use lib.Dec.{leb}
use lib.ListN.{length, take, drop, length-append, length-drop}
use lib.Seq.{take-append_seam, drop-append_seam}
use borrow.Author.Tests.{le-leb, lt-leb}
use Rattle.limits.specs.Limits.{table_room}
use Rattle.tables.specs.Table.{all, equation_at, equation_fits, Checked, checked, closing_count}
use Rattle.tables.proofs.Checks.{checked-fitting, passed-both, refused-table}
use Rattle.traces.specs.Trace.{Trace}
use Rattle.flows.specs.Flow.{answer_of}
use Rattle.flows.specs.Run.{Call, steps, from_fresh, answered}
use Rattle.flows.specs.Lustre.{Solves}
use Rattle.flows.proofs.Lists.{runs-as-lustre}
use Rattle.packing.specs.Search.{count}
use Rattle.packing.specs.Operands.{uses}
use Rattle.packing.specs.Pack.{classes, kept, packed, packed_count}
use Rattle.packing.specs.Packing.{pack_checked, packing_if, packing, after_packing}
use Rattle.packing.specs.Laws.{Alike, Represents, Reached, NoneRefused, SameTicks, Packs, PackAnswer}
use Rattle.packing.specs.Laws.Reached.{last, through}
use Rattle.packing.specs.Laws.PackAnswer.{not-checked, no_room, packed as is-packed}
use Rattle.packing.proofs.Searches.{count-le, count-below}
use Rattle.packing.proofs.Keys.{uses-on}
use Rattle.packing.proofs.Classes.{classes-fit, represents}
use Rattle.packing.proofs.Marking.{marks-fit, marks-induct}
use Rattle.packing.proofs.Bisimulation.{alike-weaken}
use Rattle.packing.proofs.Result.{origin, origin-of, origin-rises, length-packed, PackedFront, packed-front}
use Rattle.packing.proofs.Result.{Stands, stands, from-started, from-verdict, passes, literals, fewer-memories}
use Rattle.packing.proofs.Result.{last-two, from-class, distinct, answer-from}
use Rattle.packing.proofs.Answers.{taken-passed, same-ticks, answers-same}
use Rattle.std.specs.Prelude.{Ok, Err}
use Rattle.limits.specs.declared.Refusal.TheVariants.{ShortTable}
use Rattle.tables.specs.declared.Equation.{Equation}

-- The packed equations of a table that passes the check stand at the front of the packed table.
pub front : (velocities : ℕ) (t : List ℕ) (n : ℕ) → checked velocities t n ≡ Ok tt → (rest : List ℕ)
    → PackedFront velocities t n (classes t n) (kept t n) (packed t n ++ rest)
front velocities t n passed rest =
    let fit = (checked-fitting velocities t n passed).equations in
    let C = classes-fit velocities t n fit in
    packed-front velocities t n (classes t n) (kept t n) fit C (marks-fit velocities t n (classes t n) fit C) rest

-- Such a table, and the packed table with any numbers behind it.
module _ (velocities : ℕ) (t : List ℕ) (n : ℕ) (passed : checked velocities t n ≡ Ok tt) (rest : List ℕ) where
  abbrev c : ℕ → ℕ
  c = classes t n

  abbrev m : ℕ → Bool
  m = kept t n

  abbrev t' : List ℕ
  t' = packed t n ++ rest

  abbrev n' : ℕ
  n' = packed_count t n

  abbrev from : ℕ → ℕ
  from = origin m n

  first : PackedFront velocities t n (classes t n) (kept t n) (packed t n ++ rest)
  first = front velocities t n passed rest

  fit : all (equation_fits velocities t n) n ≡ true
  fit = (checked-fitting velocities t n passed).equations

  two : closing_count ≤ n
  two = (checked-fitting velocities t n passed).closed

  -- Each operand is what stands for the first equation that cannot be told from the given operand.
  stands-first : (x : ℕ) → x < n'
      → Alike (λ y i. Represents t n (from y) i) (equation_at t' x) (equation_at t (from x))
  stands-first x l =
      alike-weaken (Stands n c m) (λ y i. Represents t n (from y) i)
      (λ y i h. rw h.class (represents velocities t n fit i h.given)) (equation_at t' x) (equation_at t (from x))
      (stands first x l)

  -- Each equation is reached: what comes from an operand is an operand of what comes from the equation.
  kept-reached : (i : ℕ) → i < n → m i ≡ true → Reached t' n' (count m i)
  kept-reached =
      marks-induct t n c (λ i. Reached t' n' (count m i))
      (λ i l h. last (count m i) (count-below m n i (first.marks.last i h) l) (last-two first i h))
      (λ j i u v e r h. through (count m i) (count m j) (count-below m n i (first.marks.closed j u e i v h) v) r
      (subst (λ (d : Equation). uses d (count m i) ≡ true) (sym (first.at j u e))
      (uses-on c (count m) (equation_at t j) i h)))

  all-reached : (x : ℕ) → x < n' → Reached t' n' x
  all-reached x l =
      let o = origin-of m n x l in
      subst (Reached t' n') o.place (kept-reached (from x) o.below o.kept)

  -- Both say the same at each tick of each trace, and so on every list of calls.
  says_same : (cap : ℕ) (trace : Trace) (f g : ℕ → ℕ → ℕ) → Solves cap t n trace f → Solves cap t' n' trace g
      → (k : ℕ) → answer_of n (f k) ≡ answer_of n' (g k)
  says_same cap trace f g F G k = answer-from first cap trace f g F G k two

  -- With whatever number of velocities the given table passes the check, the packed one does,
  packed-passes : (velocities' : ℕ) → checked velocities' t n ≡ Ok tt → checked velocities' t' n' ≡ Ok tt
  packed-passes velocities' e = passes (front velocities' t n e rest) e

  -- and where the given one refuses no step, it passes the check, or there is none.
  module _ (cap velocities' : ℕ) (old old' : List ℕ) (room : n ≤ length old) (room' : n' ≤ length old') where
    abbrev RefusesNone : List Call → Type 0
    RefusesNone calls = NoneRefused (answered (from_fresh cap velocities' t n old calls))

    own-values : (calls calls' : List Call) → SameTicks n' calls calls' → RefusesNone calls
        → answered (from_fresh cap velocities' t' n' old' calls') ≡ answered (from_fresh cap velocities' t n old calls)
    unfolding steps
    own-values [] [] s h = refl
    own-values [] (y ∷ ys) s h = absurd s
    own-values (x ∷ xs) ys s h =
        let e = taken-passed cap velocities' t n _ x xs h in
        answers-same cap velocities' t t' n n' (runs-as-lustre cap velocities' t n e)
        (runs-as-lustre cap velocities' t' n' (packed-passes velocities' e)) (says_same cap) old old' room room'
        (x ∷ xs) ys s h

    same-values : (calls : List Call) → RefusesNone calls → SameTicks n' calls calls
    same-values [] h = tt
    same-values (x ∷ xs) h =
        let e = taken-passed cap velocities' t n _ x xs h in
        same-ticks cap velocities' t n n' (count-le m n) (runs-as-lustre cap velocities' t n e) old room (x ∷ xs) h

  -- SPEC 16.1 to SPEC 16.5: the packed table packs the given one.
  pub packs : Packs t n (packed t n ++ rest) (packed_count t n)
  packs =
      record {
        passes = packed-passes;
        limits = literals first;
        from = from;
        below = λ x l. (origin-of m n x l).below;
        stands = stands-first;
        started = from-started first two;
        verdict = from-verdict first two;
        lowest = λ x l. subst (λ (r : ℕ). Represents t n r (from x)) (from-class first x l)
            (represents velocities t n fit (from x) (origin-of m n x (omega arith)).below);
        distinct = distinct first;
        reached = all-reached;
        rising = origin-rises m n;
        shorter = count-le m n;
        answers = λ cap w old old' room room' calls h. own-values cap w old old' room room' calls calls
            (same-values cap w old old' room room' calls h) h;
        own-values = own-values;
        flows = says_same;
        memories = fewer-memories first;
      }

module _ (velocities : ℕ) (t : List ℕ) (n : ℕ) (before : List ℕ) where
  -- Where the table passes the check, the room of the second table decides.
  pub room-decides : checked velocities t n ≡ Ok tt → (b : Bool) → leb table_room (length before) ≡ b
      → pack_checked velocities t n before ≡ cond b (Ok tt) (Err ShortTable)
  unfolding pack_checked
  room-decides passed b e = let both = passed-both velocities t n passed in rw (both.0, both.1, e)

  -- What packing owes where c is what its tests say.
  AnswersAs : Checked → Type 0
  AnswersAs c = PackAnswer velocities t n before (packing_if c t n before).answer (packing_if c t n before).second

  -- Where all pass, the packed table stands at the front, and what stood behind is kept.
  packs-in : checked velocities t n ≡ Ok tt → table_room ≤ length before → AnswersAs (Ok tt)
  unfolding AnswersAs after_packing
  packs-in passed room =
      let p = packed t n in
      let n' = packed_count t n in
      let q = drop (4 * n') before in
      let size = length-packed t (classes t n) (kept t n) n in
      let few = (checked-fitting velocities t n passed).few in
      let less = count-le (kept t n) n in
      let first = ap (λ (k : ℕ). take k (p ++ q)) (sym size) ∙ take-append_seam p q in
      is-packed {n' = n'} {after = p ++ q} passed room
      (omega (arith, size, few, less, length-append p q, length-drop (4 * n') before))
      (ap (λ (k : ℕ). drop k (p ++ q)) (sym size) ∙ drop-append_seam p q)
      (λ rest. rw first (packs velocities t n passed rest))

  -- SPEC 8.8: packing answers what it owes, and leaves it in the second table.
  pub pack-answers : (
      let after = packing velocities t n before in
      PackAnswer velocities t n before after.answer after.second)
  unfolding packing AnswersAs pack_checked
  pack-answers = go (checked velocities t n) refl
    where
      go : (c : Checked) → checked velocities t n ≡ c → AnswersAs (pack_checked velocities t n before)
      go (Ok tt) e =
          elim (dec_le table_room (length before)) [
            | yes l ↦ rw (room-decides e true (le-leb table_room (length before) l)) (packs-in e l)
            | no l ↦ let less : length before < table_room = omega arith in
                rw (room-decides e false (lt-leb table_room (length before) less)) (no_room e less)
          ]
      go (Err r) e = rw (refused-table velocities t n r _ e) (not-checked e)
