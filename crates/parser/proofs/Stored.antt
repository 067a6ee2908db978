-- What a parse function has read and stored, in the terms of grammar's specs/Parse.antt; what it has to say of its
-- answer; and the room that is left in the arena. Assumes nothing.
use mathlib.Core.Bool.{Bool, false}
use mathlib.Core.List.{List, [], ◌++◌}
use mathlib.Core.Path.{◌≡◌, refl, sym, ap, ap₂, ◌∙◌, subst}
use Prim.Native.Nat.{ℕ, ◌+◌, ◌-◌, ◌*◌, ◌≤◌, ◌<◌}
use native.Mathlib.Nat.{add-zero}
use native.Mathlib.Omega.{arith}
use lib.ListN.{length, length-append}
use lib.Seq.{sets, length-sets}
use Rattle.limits.specs.Limits.{word_limit}
use Rattle.lists.proofs.Buffers.{sets-append}
use Rattle.formulas.specs.Tree.{Tree}
use Rattle.formulas.specs.Arena.{row, flat}
use Rattle.grammar.specs.Grammar.{Symbol}
use Rattle.grammar.specs.Grammar.Symbol.{D}
use Rattle.grammar.specs.Parse.{Result, Goal, word, read, bind}
use Rattle.grammar.specs.Parse.Goal.{go_d, go_b}
use Rattle.grammar.specs.Parse.Result.{no-rule, ok}
use Rattle.grammar.proofs.Position.{DerivesAt, Span, sized, inside}
use Rattle.grammar.proofs.Sound.{Holds, read-holds}
use Rattle.facts.specs.Facts.{facts_of}
use Rattle.facts.specs.declared.Facts.{Facts}
use Rattle.parser.specs.Contract.{parsed, parsed_of, Parses, ParsesBy, Room, Opening, Pushed}
use Rattle.parser.specs.declared.Parsed.{Parsed}
use Rattle.std.specs.Prelude.{Option, None, Some}

-- ---- numbers in the arena

-- The numbers xs stand from top up to e, and all else is kept.
pub record Stored (before : List ℕ) (top : ℕ) (xs : List ℕ) (e : ℕ) (after : List ℕ) : Type 0 where
  pub end : e ≡ top + length xs
  pub filled : after ≡ sets before top xs

-- No numbers are stored by doing nothing,
pub stored-none : {arena : List ℕ} {top : ℕ} → Stored arena top [] top arena
stored-none = record { end = sym (add-zero _); filled = refl }

-- a record by pushing it,
pub pushed : {before : List ℕ} {top k a b c e : ℕ} {after : List ℕ} →
    Pushed before top k a b c e after → Stored before top (row k a b c) e after
pushed h = record { end = h.end; filled = h.filled }

-- the same numbers under another name,
pub stored-as : {before : List ℕ} {top : ℕ} {xs ys : List ℕ} {e : ℕ} {after : List ℕ} →
    xs ≡ ys → Stored before top xs e after → Stored before top ys e after
stored-as {before} {top} {e = e} {after} q h = subst (λ (zs : List ℕ). Stored before top zs e after) q h

-- and two lists one after the other.
pub stored_on : {before : List ℕ} {top : ℕ} {xs : List ℕ} {e : ℕ} {mid ys : List ℕ} {e' : ℕ} {after : List ℕ} →
    Stored before top xs e mid → Stored mid e ys e' after → Stored before top (xs ++ ys) e' after
stored_on {before} {top} {xs} {ys = ys} h h' =
    record {
      end = simp length-append (omega (arith, h.end, h'.end));
      filled =
          h'.filled
          ∙ ap₂ (λ (o : List ℕ) (m : ℕ). sets o m ys) h.filled h.end
          ∙ sets-append before top xs ys;
    }

-- The arena's length stays.
stored-length : {before : List ℕ} {top : ℕ} {xs : List ℕ} {e : ℕ} {after : List ℕ} →
    Stored before top xs e after → length after ≡ length before
stored-length {before} {top} {xs} h = ap length h.filled ∙ length-sets before top xs

-- ---- what a call says

-- A tree that was read from i up to n: its records, from top up to e, and its facts.
pub record Part (ws : List ℕ) (i : ℕ) (before : List ℕ) (top n e : ℕ) (f : Facts) (after : List ℕ) : Type 0 where
  pub tree : Tree
  pub stored : Stored before top (flat tree) e after
  pub known : f ≡ facts_of tree
  pub spans : Span ws i tree n

-- A call that gave a tree.
pub record Took (g : Goal) (ws : List ℕ) (i : ℕ) (before : List ℕ) (top n e : ℕ) (f : Facts) (after : List ℕ) :
    Type 0 where
  pub part : Part ws i before top n e f after
  pub is : read ws g i ≡ ok part.tree n

-- The parts that a loop has read, as one tree: what is to be read is what is to be read after it.
pub record PartsRead (g : Goal) (k : Tree → Goal) (ws : List ℕ) (i : ℕ) (before : List ℕ) (top n e : ℕ) (f : Facts)
    (after : List ℕ) : Type 0 where
  pub part : Part ws i before top n e f after
  pub is : read ws g i ≡ read ws (k part.tree) n

-- An answer with a tree is not the one without.
no-tree-at : {p : Parsed} → None ≡ Some p → ⊥
no-tree-at q = cc

module _ {g : Goal} {ws : List ℕ} {i : ℕ} {before : List ℕ} {top : ℕ} {r : Option Parsed} {after : List ℕ} where
  -- What a result says of the answer.
  answers : {x : Result} → Parses g ws i before top r after → read ws g i ≡ x → parsed_of x top ≡ r
  answers h p = sym (h.result ∙ ap (λ (y : Result). parsed_of y top) p)

  -- A call took what its answer says; the reading of the goal spans what it took.
  pub took : {p : Parsed} → Parses g ws i before top r after →
      ((t : Tree) (j : ℕ) → Holds ws g i t j → Span ws i t j) → r ≡ Some p →
      Took g ws i before top p.at p.top p.facts after
  took {p} h span q = go (read ws g i) refl
    where
      go : (x : Result) → read ws g i ≡ x → Took g ws i before top p.at p.top p.facts after
      go no-rule e = absurd (no-tree-at (answers h e ∙ q))
      go (ok t j) e =
          let given : Parsed = record { at = j; top = top + length (flat t); facts = facts_of t } in
          let both : Some given ≡ Some p = answers h e ∙ q in
          let same : given ≡ p = cc in
          let is : read ws g i ≡ ok t p.at = e ∙ ap (λ (x : Parsed). ok t x.at) same in
          record {
            part = record {
              tree = t;
              stored = record { end = sym (ap (λ (x : Parsed). x.top) same); filled = h.filled t j e };
              known = sym (ap (λ (x : Parsed). x.facts) same);
              spans = span t p.at (read-holds ws g i t p.at is);
            };
            is = is;
          }

  -- A call that gave none read none.
  pub lost : Parses g ws i before top r after → r ≡ None → read ws g i ≡ no-rule
  lost h q = go (read ws g i) refl
    where
      go : (x : Result) → read ws g i ≡ x → read ws g i ≡ no-rule
      go no-rule p = p
      go (ok t j) p =
          let b : parsed j (top + length (flat t)) (facts_of t) ≡ None = answers h p ∙ q in
          cc

-- ---- what a return has to say

-- What the answer r and the arena say of a result x, as in `Parses` and in `ParsesBy`.
pub record ParsesTo (x : Result) (before : List ℕ) (top : ℕ) (r : Option Parsed) (after : List ℕ) : Type 0 where
  pub result : r ≡ parsed_of x top
  pub filled : (t : Tree) (j : ℕ) → x ≡ ok t j → after ≡ sets before top (flat t)

module _ {x : Result} {before : List ℕ} {top : ℕ} {after : List ℕ} where
  -- A tree that is read, stored and known,
  pub to-tree : {n e : ℕ} {f : Facts} (t : Tree) → x ≡ ok t n → Stored before top (flat t) e after → f ≡ facts_of t →
      ParsesTo x before top (parsed n e f) after
  to-tree {n} t is stored known =
      record {
        result = ap₂ (parsed n) stored.end known ∙ ap (λ (y : Result). parsed_of y top) (sym is);
        filled = λ t' j q.
            let same : t ≡ t' = cc in
            stored.filled ∙ ap (λ (u : Tree). sets before top (flat u)) same;
      }

  -- or none;
  pub to_none : x ≡ no-rule → ParsesTo x before top None after
  to_none is =
      record {
        result = ap (λ (y : Result). parsed_of y top) (sym is);
        filled = λ t j q. cc;
      }

  -- and the same of another result that is equal.
  pub to_same : {y : Result} {r : Option Parsed} → x ≡ y → ParsesTo y before top r after → ParsesTo x before top r after
  to_same {r = r} q h = subst (λ (z : Result). ParsesTo z before top r after) (sym q) h

-- In the terms of the contracts: of what a definition reads,
pub reads-to : {reads : List ℕ → ℕ → Result} {ws : List ℕ} {i : ℕ} {before : List ℕ} {top : ℕ} {r : Option Parsed}
    {after : List ℕ} → ParsesTo (reads ws i) before top r after → ParsesBy reads ws i before top r after
reads-to h = record { result = h.result; filled = h.filled }

module _ {g : Goal} {ws : List ℕ} {i : ℕ} {before : List ℕ} {top : ℕ} {after : List ℕ} where
  -- and of a goal.
  pub parses : {r : Option Parsed} → ParsesTo (read ws g i) before top r after → Parses g ws i before top r after
  parses h = record { result = h.result; filled = h.filled }

  pub says : {n e : ℕ} {f : Facts} (t : Tree) → read ws g i ≡ ok t n → Stored before top (flat t) e after →
      f ≡ facts_of t → Parses g ws i before top (parsed n e f) after
  says t is stored known = parses (to-tree t is stored known)

  pub says-no : read ws g i ≡ no-rule → Parses g ws i before top None after
  says-no is = parses (to_none is)

  -- None is read where what is read first is not there.
  pub fails : {s : Result} (f : Tree → ℕ → Result) → read ws g i ≡ bind s f → s ≡ no-rule →
      Parses g ws i before top None after
  fails f e l = says-no (e ∙ ap (λ (x : Result). bind x f) l)

-- ---- room

-- As `Room`, with some numbers to spare.
pub record Space (spare : ℕ) (ws : List ℕ) (i : ℕ) (arena : List ℕ) (top : ℕ) : Type 0 where
  pub few : length ws ≤ word_limit
  pub within : i ≤ length ws
  pub fits : top + spare + 4 * (length ws - i) ≤ length arena

module _ {ws : List ℕ} {i : ℕ} {arena : List ℕ} {top : ℕ} where
  pub space : Room ws i arena top → Space 0 ws i arena top
  space h = record { few = h.few; within = h.within; fits = omega (arith, h.fits) }

  pub room : {spare : ℕ} → Space spare ws i arena top → Room ws i arena top
  room h = record { few = h.few; within = h.within; fits = omega (arith, h.fits) }

  -- The same for a P between two words.
  pub opening : {spare left : ℕ} → Space spare ws i arena top → 0 < left → Opening left ws i arena top
  opening h l = record { room = room h; opens = l }

  -- Room from a higher place on is room to spare.
  pub spared : {spare : ℕ} (more : ℕ) → Space spare ws i arena (top + more) → Space (spare + more) ws i arena top
  spared more h = record { few = h.few; within = h.within; fits = omega (arith, h.fits) }

  -- A word that stands there leaves a record more to spare,
  pub past_word : {spare : ℕ} → Space spare ws i arena top → i < length ws → Space (spare + 4) ws (i + 1) arena top
  past_word h l = record { few = h.few; within = omega arith; fits = omega (arith, h.fits) }

  -- as does one that is known by its number at a parse function's start,
  pub past_first : {w : ℕ} → Room ws i arena top → word ws i ≡ w → 1 ≤ w → Space 4 ws (i + 1) arena top
  past_first h e l = past_word (space h) (inside ws i (omega arith))

  -- words that are passed over leave no less,
  pub skip : {spare n : ℕ} → Space spare ws i arena top → i ≤ n → n ≤ length ws → Space spare ws n arena top
  skip h m l = record { few = h.few; within = l; fits = omega (arith, h.fits) }

  -- nor does a tree that is read,
  pub past-tree : {spare n e : ℕ} {f : Facts} {after : List ℕ} →
      Space spare ws i arena top → Part ws i arena top n e f after → Space spare ws n after e
  past-tree h p =
      let s = p.spans in
      let l = stored-length p.stored in
      record { few = h.few; within = s.within; fits = omega (arith, h.fits, p.stored.end) }

  -- what is read outside square brackets leaves two records more:
  past-sized : {spare n e : ℕ} {f : Facts} {after : List ℕ} {c : Symbol} →
      Space spare ws i arena top → (p : Part ws i arena top n e f after) → DerivesAt ws false c i p.tree n →
      Space (spare + 8) ws n after e
  past-sized h p outside =
      let s = p.spans in
      let size = stored-length p.stored in
      record { few = h.few; within = s.within; fits = omega (arith, h.fits, p.stored.end, sized outside) }

  -- a D,
  pub past-outside : {l : Bool} {n e : ℕ} {f : Facts} {after : List ℕ} →
      Room ws i arena top → Took (go_d l) ws i arena top n e f after → l ≡ false → Space 8 ws n after e
  past-outside {l} {n} h p q =
      let t = p.part.tree in
      let outside = subst (λ (x : Bool). DerivesAt ws x D i t n) q (read-holds ws (go_d l) i t n p.is) in
      past-sized (space h) p.part outside

  -- and a P between two words,
  pub past-between : {spare left right n e : ℕ} {f : Facts} {after : List ℕ} →
      Space spare ws i arena top → Took (go_b left right) ws i arena top n e f after → 0 < right →
      Space (spare + 8) ws n after e
  past-between h p r = past-sized h p.part (read-holds ws (go_b _ _) i _ _ p.is r)

  -- and a record that is pushed takes four numbers,
  pub past-push : (spare : ℕ) {k a b c e : ℕ} {after : List ℕ} →
      Space (spare + 4) ws i arena top → Pushed arena top k a b c e after → Space spare ws i after e
  past-push spare h p =
      let l = stored-length (pushed p) in
      record { few = h.few; within = h.within; fits = omega (arith, h.fits, p.end) }

  -- for which there is room,
  pub fits-push : (spare : ℕ) → Space (spare + 4) ws i arena top → top + 4 ≤ length arena
  fits-push spare h = omega (arith, h.fits)

  -- also after a tree.
  pub fits-tree : (spare : ℕ) {n e : ℕ} {f : Facts} {after : List ℕ} →
      Space (spare + 4) ws i arena top → Part ws i arena top n e f after → e + 4 ≤ length after
  fits-tree spare h p = let s = past-tree h p in omega (arith, s.fits)

module _ {ws : List ℕ} {i : ℕ} {before : List ℕ} {top n e : ℕ} {f : Facts} {after : List ℕ} where
  -- The nodes of what was read are few,
  pub few-nodes : length ws ≤ word_limit → Part ws i before top n e f after → f.nodes ≤ word_limit
  few-nodes w p =
      let s = p.spans in
      let k = ap (λ (x : Facts). x.nodes) p.known in
      omega arith

  -- and the arena is as long as before.
  pub same_size : Part ws i before top n e f after → length after ≡ length before
  same_size p = stored-length p.stored
