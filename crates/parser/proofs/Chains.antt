-- D and C: parts that one word joins, grouped from the left. One set of lemmas over the word, the kind of its records
-- and the goals, for each turn of the code of `read_d` and of `read_c`. Assumes nothing.
use mathlib.Core.Bool.{Bool}
use mathlib.Core.List.{List, ◌++◌}
use mathlib.Core.Path.{◌≡◌, refl, sym, ap, ap₂, ◌∙◌}
use Prim.Native.Nat.{ℕ, ◌+◌, ◌≤◌}
use native.Mathlib.Omega.{arith}
use lib.ListN.{length, length-append}
use Rattle.formulas.specs.Tree.{Tree, nodes}
use Rattle.formulas.specs.Tree.Tree.{and, or}
use Rattle.formulas.specs.Arena
use Rattle.formulas.specs.Arena.{row, flat}
use Rattle.words.specs.Word
use Rattle.grammar.specs.Parse.{Goal, word, read, bind}
use Rattle.grammar.specs.Parse.Result.{no-rule, ok}
use Rattle.grammar.specs.Parse.Goal.{go_d, go_ds, go_c, go_cs, go_u}
use Rattle.grammar.proofs.Position.{inside}
use Rattle.grammar.proofs.Sound.{read-eq}
use Rattle.grammar.proofs.Complete.{then-on, stop_d, stop_c, turn_d, turn_c}
use Rattle.facts.specs.Facts.{facts_of, join_facts}
use Rattle.facts.specs.declared.Facts.{Facts}
use Rattle.parser.specs.Contract.{parsed, Parses, Room, Pushed}
use Rattle.std.specs.Prelude.{None}
use Rattle.parser.proofs.Stored.{Took, PartsRead, Space, pushed, stored-as, stored_on, says, fails}
use Rattle.parser.proofs.Stored.{space, past_word, past-tree}

-- The goal g reads parts `sub` that the word op joins to trees `f a b`, with records of the kind `node`; `k a` is what
-- is to be read after the tree a.
pub record Chain (g : Goal) (k : Tree → Goal) (sub : Goal) (f : Tree → Tree → Tree) (op node : ℕ) : Type 0 where
  pub real : 1 ≤ op
  pub flats : (a b : Tree) → flat (f a b) ≡ flat a ++ (flat b ++ row node 0 0 0)
  pub facts : (a b : Tree) → facts_of (f a b) ≡ join_facts (facts_of a) (facts_of b)
  pub begins : (ws : List ℕ) (i : ℕ) → read ws g i ≡ bind (read ws sub i) (λ a j. read ws (k a) j)
  pub turns : (ws : List ℕ) (a : Tree) (m : ℕ) → word ws m ≡ op →
      read ws (k a) m ≡ bind (read ws sub (m + 1)) (λ b j. read ws (k (f a b)) j)
  pub stops : (ws : List ℕ) (a : Tree) (m : ℕ) → (word ws m ≡ op → ⊥) → read ws (k a) m ≡ ok a m

pub chain-D : (l : Bool) → Chain (go_d l) (go_ds l) (go_c l) or Word.OR Arena.OR
chain-D l =
    record {
      real = omega arith;
      flats = λ a b. refl;
      facts = λ a b. refl;
      begins = λ ws i. read-eq ws (go_d l) i;
      turns = λ ws. turn_d ws l;
      stops = λ ws. stop_d ws l;
    }

pub chain-C : (l : Bool) → Chain (go_c l) (go_cs l) (go_u l) and Word.AND Arena.AND
chain-C l =
    record {
      real = omega arith;
      flats = λ a b. refl;
      facts = λ a b. refl;
      begins = λ ws i. read-eq ws (go_c l) i;
      turns = λ ws. turn_c ws l;
      stops = λ ws. stop_c ws l;
    }

module _ {g : Goal} {k : Tree → Goal} {sub : Goal} {f : Tree → Tree → Tree} {op node : ℕ}
    (z : Chain g k sub f op node) where
  -- The word that joins leaves room for a record after the parts so far.
  pub joined : {ws : List ℕ} {i : ℕ} {before : List ℕ} {top n e : ℕ} {x : Facts} {mid : List ℕ} →
      Room ws i before top → PartsRead g k ws i before top n e x mid → word ws n ≡ op → Space 4 ws (n + 1) mid e
  joined {ws} {n = n} room h w = past_word (past-tree (space room) h.part) (inside ws n (omega (arith, z.real)))

  module _ {ws : List ℕ} {i : ℕ} {before : List ℕ} {top : ℕ} {after : List ℕ} where
    -- The first part, if there is one,
    pub none : read ws sub i ≡ no-rule → Parses g ws i before top None after
    none e = fails _ (z.begins ws i) e

    pub first : {n e : ℕ} {x : Facts} → Took sub ws i before top n e x after →
        PartsRead g k ws i before top n e x after
    first h = record { part = h.part; is = z.begins ws i ∙ then-on _ h.is }

    -- no further part,
    pub done : {n e : ℕ} {x : Facts} → PartsRead g k ws i before top n e x after → (word ws n ≡ op → ⊥) →
        Parses g ws i before top (parsed n e x) after
    done {n} h w =
        let a = h.part in
        says a.tree (h.is ∙ z.stops ws a.tree n w) a.stored a.known

    module _ {n e : ℕ} {x : Facts} {mid : List ℕ} (h : PartsRead g k ws i before top n e x mid)
        (w : word ws n ≡ op) where
      -- one that is not there,
      pub missing : read ws sub (n + 1) ≡ no-rule → Parses g ws i before top None after
      missing e = fails _ (h.is ∙ z.turns ws h.part.tree n w) e

      -- and one more.
      pub more : {m e' p : ℕ} {x' x'' : Facts} {mid' : List ℕ} → Took sub ws (n + 1) mid e m e' x' mid' →
          Pushed mid' e' node 0 0 0 p after → x'' ≡ join_facts x x' → PartsRead g k ws i before top m p x'' after
      more h' u facts =
          let a = h.part.tree in
          let b = h'.part.tree in
          let s = h.part.spans in
          let s' = h'.part.spans in
          let size : length (flat (f a b)) ≡ length (flat a) + length (flat b) + 4 =
          ap length (z.flats a b) ∙ simp length-append (omega arith) in
          let count : nodes (f a b) ≡ nodes a + nodes b + 1 = ap (λ (y : Facts). y.nodes) (z.facts a b) in
          let all = stored_on h.part.stored (stored_on h'.part.stored (pushed u)) in
          record {
            part = record {
              tree = f a b;
              stored = stored-as (sym (z.flats a b)) all;
              known = facts ∙ ap₂ join_facts h.part.known h'.part.known ∙ sym (z.facts a b);
              spans = record { moves = omega arith; within = s'.within; small = omega arith; few = omega arith };
            };
            is = h.is ∙ z.turns ws a n w ∙ then-on _ h'.is;
          }
