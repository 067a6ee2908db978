-- What an answer with records, or with a refusal, says of the outcome, and what it leaves at the front of the arena.
-- Assumes nothing.
use mathlib.Core.Path.{◌≡◌, refl, sym, ap, ◌∙◌, subst}
use mathlib.Core.List.{List}
use Prim.Native.Nat.{ℕ, ◌+◌, ◌≤◌}
use native.Mathlib.Omega.{arith}
use lib.ListN.{length, take, drop}
use lib.Seq.{sets-eq, take_at}
use Rattle.limits.specs.Limits.{arena_limit}
use Rattle.limits.specs.Context.{standard_context}
use Rattle.limits.specs.declared.Context.{Context}
use Rattle.words.specs.Contract.{Ranged}
use Rattle.words.proofs.Bounds.{standard-ranged}
use Rattle.formulas.specs.Tree.{Tree, nodes}
use Rattle.formulas.specs.Arena.{flat}
use Rattle.rules.specs.Reading.{Outcome}
use Rattle.rules.specs.Reading.Outcome.{refused, rule}
use Rattle.rules.specs.Contract.{answer_of}
use Rattle.rules.specs.Computed.{rule_of, side_of}
use Rattle.rules.specs.Laid.{Readable, Laid, records_of}
use Rattle.rules.specs.declared.Records.{Records}
use Rattle.rules.proofs.Decided.{refused-rule}
use Rattle.std.specs.Prelude.{Result, Ok, Err}
use Rattle.limits.specs.declared.Refusal.{Refusal}

-- A refused outcome asks nothing of the arena.
pub laid-refused : {o : Outcome} {before after : List ℕ} (k : Refusal) → o ≡ refused k → Laid o before (Err k) after
laid-refused k e =
    record {
      result = ap records_of (sym e);
      filled = λ t f. cc;
      small = λ t f. absurd (refused-rule (sym e ∙ f));
    }

-- In the context of the specification a tree can be read, and what is read there is read in that context.
module _ {context : Context} (e : context ≡ standard_context) where
  pub readable : {arena : List ℕ} → arena_limit ≤ length arena → Readable context arena
  readable h = record { ranged = subst Ranged (sym e) standard-ranged; room = h }

  pub standard-laid : (text : List ℕ) {before : List ℕ} {r : Result Records Refusal} {after : List ℕ}
      → Laid (rule_of context text) before r after → Laid (rule_of standard_context text) before r after
  standard-laid text {before} {r} {after} h =
      subst (λ (x : Context). Laid (rule_of x text) before r after) e h

  pub standard-side : (ps text : List ℕ) {before : List ℕ} {r : Result Records Refusal} {after : List ℕ}
      → Laid (side_of ps (rule_of context text)) before r after
      → Laid (side_of ps (rule_of standard_context text)) before r after
  standard-side ps text {before} {r} {after} h =
      subst (λ (x : Context). Laid (side_of ps (rule_of x text)) before r after) e h

-- An answer with records is not one with a refusal.
pub no-records : {k : Refusal} {p : Records} → Err k ≡ Ok p → ⊥
no-records q = cc

-- The tree behind an answer with records.
record Tree-of (o : Outcome) (p : Records) : Type 0 where
  pub tree : Tree
  pub is : o ≡ rule tree
  pub size : p.size ≡ length (flat tree)
  pub count : p.nodes ≡ nodes tree

-- A tree that was read, its n numbers at the front of the arena.
pub record Front (o : Outcome) (n : ℕ) (arena : List ℕ) : Type 0 where
  pub tree : Tree
  pub is : o ≡ rule tree
  pub fits : n ≤ arena_limit
  pub front : take n arena ≡ flat tree

module _ {o : Outcome} {before : List ℕ} {r : Result Records Refusal} {after : List ℕ} (h : Laid o before r after) where
  tree_of : {p : Records} → r ≡ Ok p → Tree-of o p
  tree_of {p} q = go o refl
    where
      go : (x : Outcome) → o ≡ x → Tree-of o p
      go (refused m) e = absurd (no-records (sym (h.result ∙ ap records_of e) ∙ q))
      go (rule t) e =
          let given : Records = record { size = length (flat t); nodes = nodes t } in
          let both : Ok given ≡ Ok p = sym (h.result ∙ ap records_of e) ∙ q in
          let same : p ≡ given = cc in
          record {
            tree = t;
            is = e;
            size = ap (λ (x : Records). x.size) same;
            count = ap (λ (x : Records). x.nodes) same;
          }

  -- An answer with records leaves them at the front,
  pub front_of : arena_limit ≤ length before → {p : Records} → r ≡ Ok p → Front o p.size after
  front_of room {p} q =
      let t = tree_of q in
      let size = t.size in
      let small = h.small t.tree t.is in
      record {
        tree = t.tree;
        is = t.is;
        fits = omega arith;
        front =
            ap (take p.size) (h.filled t.tree t.is ∙ sets-eq (flat t.tree) before 0 (omega arith))
            ∙ take_at (flat t.tree) (drop (0 + length (flat t.tree)) before) p.size (sym size);
      }

  -- and one with a refusal has the outcome's.
  pub refused_as : {k : Refusal} → r ≡ Err k → o ≡ refused k
  refused_as {k} q = go o refl
    where
      go : (x : Outcome) → o ≡ x → o ≡ refused k
      go (refused m) p =
          let both : Err m ≡ Err k = sym (h.result ∙ ap records_of p) ∙ q in
          let same : m ≡ k = cc in
          p ∙ ap refused same
      go (rule t) p = absurd (no-records (sym q ∙ h.result ∙ ap records_of p))

  -- So the answer of reading a rule.
  pub answer-refused : {k : Refusal} → r ≡ Err k → Err k ≡ answer_of o
  answer-refused q = sym (ap answer_of (refused_as q))

  pub answer-rule : {p : Records} → r ≡ Ok p → Ok p.nodes ≡ answer_of o
  answer-rule q = let t = tree_of q in ap Ok t.count ∙ sym (ap answer_of t.is)
