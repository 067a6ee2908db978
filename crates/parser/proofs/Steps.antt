-- F, brackets, U and atoms: one lemma for each turn of the code of the parse functions; where an atom's P is missing,
-- `fails` of Stored does. Assumes nothing.
use mathlib.Core.Bool.{Bool, true, false, ◌&&◌, cond}
use mathlib.Core.List.{List, ◌++◌}
use mathlib.Core.Path.{◌≡◌, refl, sym, ap, ap₂, ◌∙◌, subst}
use Prim.Native.Nat.{ℕ, ◌+◌, ◌-◌}
use lib.ListN.{length}
use lib.Seq.{sets}
use borrow.Author.Tests.{ne_eqb}
use Rattle.traces.specs.Compare.{op_number}
use Rattle.traces.specs.declared.Op.{Op}
use Rattle.traces.specs.declared.Op.TheVariants.{Below as lt}
use Rattle.formulas.specs.Formula.{Num}
use Rattle.formulas.specs.Tree.{Tree, upper, lead_test, lead_count}
use Rattle.formulas.specs.Tree.Tree.{neg, then, chop, exists, test, len, count, lag}
use Rattle.formulas.specs.Arena
use Rattle.formulas.specs.Arena.{row, flat, num_kind, num_value}
use Rattle.words.specs.Word
use Rattle.words.specs.Word.{is_signal, is_num, is_test, is_count}
use Rattle.grammar.specs.Grammar.{signal_word, op_word, num_word, test_word, count_word}
use Rattle.grammar.specs.Parse.{Result, Goal, word, read, bind, join_of, unit_of}
use Rattle.grammar.specs.Parse.{step_b, step_exists, step_lag, comparison_at, with_comparison, closed, go_square}
use Rattle.grammar.specs.Parse.Result.{no-rule, ok}
use Rattle.grammar.specs.Parse.Goal.{go_f, go_d, go_u, go_a, go_b}
use Rattle.grammar.specs.Parse.Join.{join-then, join-chop, join-none}
use Rattle.grammar.specs.Parse.Unit.{unit-not, unit-round, unit-leaf, unit-exists, unit-atom}
use Rattle.grammar.specs.Parse.Atom.{atom-test, atom-len, atom-count, atom-lag, atom-none}
use Rattle.grammar.proofs.Sound.{read-eq}
use Rattle.grammar.proofs.Complete.{then-on, U-at, A-at, B-at, F-at, closed_at}
use Rattle.grammar.proofs.Complete.{test-atom, len-atom, count-atom, lag-atom}
use Rattle.grammar.proofs.Words.{test-number, count-number}
use Rattle.facts.specs.Facts.{facts_of, atom_facts, neg_facts, then_facts, chop_facts, exists_facts}
use Rattle.facts.specs.declared.Facts.{Facts}
use Rattle.parser.specs.Contract.{parsed, joined_of, comparison_record}
use Rattle.parser.specs.Contract.{Parses, ParsesJoined, ParsesThen, ParsesChop, Pushed}
use Rattle.parser.specs.Contract.{ParsesLeaf, ParsesComparison}
use Rattle.parser.specs.declared.Parsed.{Parsed}
use Rattle.std.specs.Prelude.{Option, None}
use Rattle.parser.proofs.Stored.{Stored, Took, stored-none, pushed, stored-as, stored_on}
use Rattle.parser.proofs.Stored.{to_same, parses, says, says-no, fails}

-- ---- reading by the word at hand

module _ (ws : List ℕ) where
  -- A D before `then` or `chop`, outside square brackets,
  then_is : {l : Bool} (i : ℕ) {a : Tree} {n : ℕ} → read ws (go_d l) i ≡ ok a n → l ≡ false → word ws n ≡ Word.THEN →
      read ws (go_f l) i ≡ bind (read ws (go_f false) (n + 1)) (λ b m. ok (then a b) m)
  then_is {l} i h out w = F-at ws l i join-then h (ap₂ join_of out w)

  chop-is : {l : Bool} (i : ℕ) {a : Tree} {n : ℕ} → read ws (go_d l) i ≡ ok a n → l ≡ false → word ws n ≡ Word.CHOP →
      read ws (go_f l) i ≡ bind (read ws (go_f false) (n + 1)) (λ b m. ok (chop a b) m)
  chop-is {l} i h out w = F-at ws l i join-chop h (ap₂ join_of out w)

  -- a U that begins with `!` or `exists`,
  not_is : (l : Bool) (i : ℕ) → word ws i ≡ Word.NOT →
      read ws (go_u l) i ≡ bind (read ws (go_u l) (i + 1)) (λ t j. ok (neg t) j)
  not_is l i w = U-at ws l i unit-not (ap (unit_of l) w)

  exists-is : {l : Bool} (i : ℕ) {b : Bool} → l ≡ false → word ws i ≡ Word.EXISTS → is_signal (word ws (i + 1)) ≡ b →
      read ws (go_u l) i ≡ step_exists ws (read ws) b i
  exists-is {l} i out w s =
      U-at ws l i unit-exists (ap₂ unit_of out w) ∙ ap (λ (x : Bool). step_exists ws (read ws) x i) s

  -- an atom with square brackets,
  pub test-is : (i : ℕ) → is_test (word ws i) ≡ true →
      read ws go_a i ≡ bind (read ws go_square (i + 1)) (λ p j. ok (test (test_word (word ws i)) p) j)
  test-is i k = A-at ws i atom-test (test-atom (word ws i) k)

  pub count-is : (i : ℕ) → is_count (word ws i) ≡ true →
      read ws go_a i ≡ bind (read ws go_square (i + 1)) (λ p j. with_comparison ws (count (count_word (word ws i)) p) j)
  count-is i k = A-at ws i atom-count (count-atom (word ws i) k)

  pub lag-is : (i : ℕ) → word ws i ≡ Word.LAG →
      read ws go_a i ≡ bind (read ws (go_b Word.SQUARE Word.COMMA) (i + 1))
      (λ p j. step_lag ws (read ws) p (is_num (word ws j)) j)
  lag-is i w = A-at ws i atom-lag (lag-atom (word ws i) w)

  -- and a bracket that is not closed.
  not-closed : (w : ℕ) (t : Tree) (j : ℕ) → (word ws j ≡ w → ⊥) → closed ws w t j ≡ no-rule
  not-closed w t j e = ap (λ (x : Bool). cond x (ok t (j + 1)) no-rule) (ne_eqb _ _ e)

-- ---- F (SPEC 3.1)

module _ {l : Bool} {ws : List ℕ} {i : ℕ} {before : List ℕ} {top : ℕ} {after : List ℕ} where
  pub F-no : read ws (go_d l) i ≡ no-rule → Parses (go_f l) ws i before top None after
  F-no e = fails _ (read-eq ws (go_f l) i) e

  pub F-one : {n e : ℕ} {f : Facts} → Took (go_d l) ws i before top n e f after → join_of l (word ws n) ≡ join-none →
      Parses (go_f l) ws i before top (parsed n e f) after
  F-one h w = let a = h.part in says a.tree (F-at ws l i join-none h.is w) a.stored a.known

  module _ {n e : ℕ} {f : Facts} {mid : List ℕ} (h : Took (go_d l) ws i before top n e f mid) where
    -- A D and an F that a word joins.
    F-joined : {known : Facts → Facts} {first last : List ℕ} {r : Option Parsed} (tree : Tree → Tree) →
        read ws (go_f l) i ≡ bind (read ws (go_f false) (n + 1)) (λ b m. ok (tree b) m) →
        ((b : Tree) → flat (tree b) ≡ flat h.part.tree ++ (first ++ (flat b ++ last))) →
        ((b : Tree) → facts_of (tree b) ≡ known (facts_of b)) →
        ParsesJoined known first last ws n mid e r after → Parses (go_f l) ws i before top r after
    F-joined {known} {first} {last} {r} tree is flats facts g = go (read ws (go_f false) (n + 1)) refl
      where
        given : {x : Result} → read ws (go_f false) (n + 1) ≡ x → joined_of known first last e x ≡ r
        given p = sym (g.result ∙ ap (joined_of known first last e) p)

        go : (x : Result) → read ws (go_f false) (n + 1) ≡ x → Parses (go_f l) ws i before top r after
        go no-rule p =
            subst (λ (y : Option Parsed). Parses (go_f l) ws i before top y after) (given p) (fails _ is p)
        go (ok b m) p =
            let rest : Stored mid e (first ++ (flat b ++ last)) (e + length (first ++ (flat b ++ last))) after =
            record { end = refl; filled = g.filled b m p } in
            subst (λ (y : Option Parsed). Parses (go_f l) ws i before top y after) (given p)
            (says (tree b) (is ∙ then-on _ p) (stored-as (sym (flats b)) (stored_on h.part.stored rest))
            (sym (facts b)))

    module _ {r : Option Parsed} (out : l ≡ false) where
      pub F-then : word ws n ≡ Word.THEN → ParsesThen f ws n mid e r after → Parses (go_f l) ws i before top r after
      F-then w g =
          F-joined (then h.part.tree) (then_is ws i h.is out w) (λ b. refl)
          (λ b. ap (λ (x : Facts). then_facts x (facts_of b)) (sym h.part.known)) g

      pub F-chop : word ws n ≡ Word.CHOP → ParsesChop f ws n mid e r after → Parses (go_f l) ws i before top r after
      F-chop w g =
          F-joined (chop h.part.tree) (chop-is ws i h.is out w) (λ b. refl)
          (λ b. ap (λ (x : Facts). chop_facts x (facts_of b)) (sym h.part.known)) g

-- The F after `then` or `chop`: none, or one whose records stand between others.
module _ {known : Facts → Facts} {first last ws : List ℕ} {j : ℕ} {before : List ℕ} {top : ℕ} {after : List ℕ} where
  pub joined-no : read ws (go_f false) (j + 1) ≡ no-rule → ParsesJoined known first last ws j before top None after
  joined-no e =
      record {
        result = ap (joined_of known first last top) (sym e);
        filled = λ t m q. cc;
      }

  pub joined : {from m e p : ℕ} {f f' : Facts} {start mid : List ℕ}
      (h : Took (go_f false) ws (j + 1) start from m e f mid) →
      Stored before top (first ++ (flat h.part.tree ++ last)) p after → f' ≡ known f →
      ParsesJoined known first last ws j before top (parsed m p f') after
  joined {m = m} h stored facts =
      record {
        result =
            ap₂ (parsed m) stored.end (facts ∙ ap known h.part.known)
            ∙ ap (joined_of known first last top) (sym h.is);
        filled = λ t m' q.
            let same : h.part.tree ≡ t = cc in
            stored.filled ∙ ap (λ (u : Tree). sets before top (first ++ (flat u ++ last))) same;
      }

-- ---- brackets

-- What stands between the words left and right is read as the goal `sub`.
pub record Bracket (g sub : Goal) (left right : ℕ) : Type 0 where
  pub opens : (ws : List ℕ) (i : ℕ) → word ws i ≡ left → read ws g i ≡ bind (read ws sub (i + 1)) (closed ws right)

pub round : (l : Bool) → Bracket (go_u l) (go_f l) Word.ROUND Word.ROUND-END
round l = record { opens = λ ws i w. U-at ws l i unit-round (ap (unit_of l) w) }

pub between : (left right : ℕ) → Bracket (go_b left right) (go_f true) left right
between left right = record { opens = λ ws i w. B-at ws left right i w }

module _ {g sub : Goal} {left right : ℕ} (z : Bracket g sub left right) where
  module _ {ws : List ℕ} {i : ℕ} {before : List ℕ} {top : ℕ} {after : List ℕ} (w : word ws i ≡ left) where
    pub bracket-no : read ws sub (i + 1) ≡ no-rule → Parses g ws i before top None after
    bracket-no e = fails _ (z.opens ws i w) e

    module _ {n e : ℕ} {f : Facts} (h : Took sub ws (i + 1) before top n e f after) where
      pub bracket-open : (word ws n ≡ right → ⊥) → Parses g ws i before top None after
      bracket-open v = says-no (z.opens ws i w ∙ then-on _ h.is ∙ not-closed ws right h.part.tree n v)

      pub bracket-closed : word ws n ≡ right → Parses g ws i before top (parsed (n + 1) e f) after
      bracket-closed v =
          let a = h.part in
          says a.tree (z.opens ws i w ∙ then-on _ h.is ∙ closed_at ws right a.tree n v)
          a.stored a.known

-- The first of the two words is not there.
pub B-no : {left right : ℕ} {ws : List ℕ} {i : ℕ} {before : List ℕ} {top : ℕ} {after : List ℕ} →
    (word ws i ≡ left → ⊥) → Parses (go_b left right) ws i before top None after
B-no {left} {right} {ws} {i} w =
    says-no (read-eq ws (go_b left right) i ∙ ap (λ (x : Bool). step_b ws (read ws) x right i) (ne_eqb _ _ w))

-- ---- U (SPEC 3.4), and a leaf

module _ {l : Bool} {ws : List ℕ} {i : ℕ} {before : List ℕ} {top : ℕ} {after : List ℕ} where
  module _ (w : word ws i ≡ Word.NOT) where
    pub not-no : read ws (go_u l) (i + 1) ≡ no-rule → Parses (go_u l) ws i before top None after
    not-no e = fails _ (not_is ws l i w) e

    pub U-not : {n e p : ℕ} {f f' : Facts} {mid : List ℕ} → Took (go_u l) ws (i + 1) before top n e f mid →
        Pushed mid e Arena.NOT 0 0 0 p after → f' ≡ neg_facts f → Parses (go_u l) ws i before top (parsed n p f') after
    U-not h u facts =
        let a = h.part in
        says (neg a.tree) (not_is ws l i w ∙ then-on _ h.is) (stored_on a.stored (pushed u))
        (facts ∙ ap neg_facts a.known)

  module _ (out : l ≡ false) (w : word ws i ≡ Word.EXISTS) where
    pub no-signal : is_signal (word ws (i + 1)) ≡ false → Parses (go_u l) ws i before top None after
    no-signal s = says-no (exists-is ws i out w s)

    module _ (s : is_signal (word ws (i + 1)) ≡ true) where
      pub exists-no : read ws (go_u false) (i + 2) ≡ no-rule → Parses (go_u l) ws i before top None after
      exists-no e = fails _ (exists-is ws i out w s) e

      pub U-exists : {n e p x : ℕ} {f f' : Facts} {mid : List ℕ} → Took (go_u false) ws (i + 2) before top n e f mid →
          x ≡ word ws (i + 1) → Pushed mid e Arena.EXISTS (x - Word.SIGNAL) 0 0 p after → f' ≡ exists_facts f →
          Parses (go_u l) ws i before top (parsed n p f') after
      U-exists h v u facts =
          let a = h.part in
          let last = stored-as (ap (λ (y : ℕ). row Arena.EXISTS (signal_word y) 0 0) v) (pushed u) in
          says (exists (signal_word (word ws (i + 1))) a.tree) (exists-is ws i out w s ∙ then-on _ h.is)
          (stored_on a.stored last) (facts ∙ ap exists_facts a.known)

  module _ (no-not : word ws i ≡ Word.NOT → ⊥) (no-round : word ws i ≡ Word.ROUND → ⊥) where
    pub U-leaf : {r : Option Parsed} → l ≡ true → ParsesLeaf ws i before top r after →
        Parses (go_u l) ws i before top r after
    U-leaf ins h =
        parses (to_same (U-at ws l i unit-leaf (simp (ne_eqb _ _ no-not, ne_eqb _ _ no-round, ins)))
        (record { result = h.result; filled = h.filled }))

    pub U-atom : {r : Option Parsed} → l ≡ false → (word ws i ≡ Word.EXISTS → ⊥) → Parses go_a ws i before top r after →
        Parses (go_u l) ws i before top r after
    U-atom out no-exists h =
        let class : unit_of l (word ws i) ≡ unit-atom =
        simp (ne_eqb _ _ no-not, ne_eqb _ _ no-round, out, ne_eqb _ _ no-exists) in
        parses (to_same (U-at ws l i unit-atom class) (record { result = h.result; filled = h.filled }))

-- ---- atoms

module _ {ws : List ℕ} {i : ℕ} {before : List ℕ} {top : ℕ} {after : List ℕ} where
  module _ (k : is_test (word ws i) ≡ true) where
    pub A-test : {n e p x : ℕ} {f f' : Facts} {mid : List ℕ} → Took go_square ws (i + 1) before top n e f mid →
        x ≡ word ws i → Pushed mid e (Arena.TEST + (x - Word.BEGIN)) 0 0 0 p after →
        f' ≡ atom_facts (lead_test (test_word x)) → Parses go_a ws i before top (parsed n p f') after
    A-test h v u facts =
        let a = h.part in
        let kind = ap (λ (y : ℕ). y - Word.BEGIN) v ∙ sym (test-number (word ws i) k) in
        let last = stored-as (ap (λ (y : ℕ). row (Arena.TEST + y) 0 0 0) kind) (pushed u) in
        says (test (test_word (word ws i)) a.tree) (test-is ws i k ∙ then-on _ h.is)
        (stored_on a.stored last) (facts ∙ ap (λ (y : ℕ). atom_facts (lead_test (test_word y))) v)

  -- op n ends an atom whose numbers so far are xs.
  A-compared : {xs : List ℕ} {j e k : ℕ} {r : Option Parsed} {mid : List ℕ} {lead : Bool} (tree : Op → Num → Tree) →
      read ws go_a i ≡ with_comparison ws tree j → Stored before top xs e mid →
      ParsesComparison ws j mid e k lead r after →
      ((o : Op) (n : Num) → flat (tree o n) ≡ xs ++ comparison_record k o n) →
      ((o : Op) (n : Num) → facts_of (tree o n) ≡ atom_facts (lead && upper o)) → Parses go_a ws i before top r after
  A-compared {xs} {j} {e} {k} {r} {mid} {lead} tree is stored h flats facts =
      go (op_word (word ws j)) (num_word (word ws (j + 1))) (comparison_at ws j) is h.result h.filled
    where
      go : (o : Op) (n : Num) (x : Bool) → read ws go_a i ≡ cond x (ok (tree o n) (j + 2)) no-rule →
          r ≡ cond x (parsed (j + 2) (e + 4) (atom_facts (lead && upper o))) None →
          (x ≡ true → after ≡ sets mid e (comparison_record k o n)) →
          Parses go_a ws i before top r after
      go o n true is given filled =
          let last : Stored mid e (comparison_record k o n) (e + 4) after =
          record { end = refl; filled = filled refl } in
          subst (λ (y : Option Parsed). Parses go_a ws i before top y after) (sym given)
          (says (tree o n) is (stored-as (sym (flats o n)) (stored_on stored last)) (sym (facts o n)))
      go o n false is given filled =
          subst (λ (y : Option Parsed). Parses go_a ws i before top y after) (sym given) (says-no is)

  pub A_len : {r : Option Parsed} → word ws i ≡ Word.LEN →
      ParsesComparison ws (i + 1) before top Arena.LEN true r after → Parses go_a ws i before top r after
  A_len w h =
      A-compared len (A-at ws i atom-len (len-atom (word ws i) w)) stored-none h (λ o n. refl) (λ o n. refl)

  module _ (k : is_count (word ws i) ≡ true) where
    pub A-count : {n e x : ℕ} {f : Facts} {r : Option Parsed} {mid : List ℕ} {lead : Bool} →
        Took go_square ws (i + 1) before top n e f mid → x ≡ word ws i → lead ≡ lead_count (count_word x) →
        ParsesComparison ws n mid e (Arena.COUNT + (x - Word.SUM)) lead r after → Parses go_a ws i before top r after
    A-count h v led c =
        let p = h.part.tree in
        let kind = ap (λ (y : ℕ). y - Word.SUM) v ∙ sym (count-number (word ws i) k) in
        let led' = led ∙ ap (λ (y : ℕ). lead_count (count_word y)) v in
        A-compared (count (count_word (word ws i)) p) (count-is ws i k ∙ then-on _ h.is) h.part.stored c
        (λ o n. ap (λ (y : ℕ). flat p ++ row (Arena.COUNT + y) (op_number o) (num_kind n) (num_value n)) (sym kind))
        (λ o n. ap (λ (y : Bool). atom_facts (y && upper o)) (sym led'))

  -- Any other word.
  pub A-none : is_test (word ws i) ≡ false → (word ws i ≡ Word.LEN → ⊥) → is_count (word ws i) ≡ false →
      (word ws i ≡ Word.LAG → ⊥) → Parses go_a ws i before top None after
  A-none a b c d = says-no (A-at ws i atom-none (simp (a, ne_eqb _ _ b, c, ne_eqb _ _ d)))

-- A `lag` at i: its P, then n, then its Q.
module _ {ws : List ℕ} (i : ℕ) {before : List ℕ} {top : ℕ} (w : word ws i ≡ Word.LAG) {n e : ℕ} {f : Facts}
    {first : List ℕ} (h : Took (go_b Word.SQUARE Word.COMMA) ws (i + 1) before top n e f first) where
  -- What is read after P.
  after-p : {b : Bool} → is_num (word ws n) ≡ b → read ws go_a i ≡ step_lag ws (read ws) h.part.tree b n
  after-p k =
      lag-is ws i w ∙ then-on _ h.is ∙ ap (λ (x : Bool). step_lag ws (read ws) h.part.tree x n) k

  module _ {after : List ℕ} where
    pub lag-no-n : is_num (word ws n) ≡ false → Parses go_a ws i before top None after
    lag-no-n k = says-no (after-p k)

    module _ (k : is_num (word ws n) ≡ true) where
      pub lag-no-q : read ws (go_b Word.COMMA Word.SQUARE-END) (n + 1) ≡ no-rule →
          Parses go_a ws i before top None after
      lag-no-q l = fails _ (after-p k) l

      pub A-lag : {r m u v p x a b : ℕ} {g f' : Facts} {second third fourth : List ℕ} →
          Pushed first e Arena.RUN 0 0 0 r second →
          Took (go_b Word.COMMA Word.SQUARE-END) ws (n + 1) second r m u g third → x ≡ word ws n →
          a ≡ num_kind (num_word x) → b ≡ num_value (num_word x) →
          Pushed third u Arena.FINE (op_number lt) a b v fourth → Pushed fourth v Arena.ALWAYS 0 0 0 p after →
          f' ≡ atom_facts true → Parses go_a ws i before top (parsed m p f') after
      A-lag run q is kind value fine always facts =
          let fine-row = ap₂ (λ (s t : ℕ). row Arena.FINE (op_number lt) s t)
          (kind ∙ ap (λ (z : ℕ). num_kind (num_word z)) is) (value ∙ ap (λ (z : ℕ). num_value (num_word z)) is) in
          let last = stored_on (stored-as fine-row (pushed fine)) (pushed always) in
          says (lag h.part.tree (num_word (word ws n)) q.part.tree) (after-p k ∙ then-on _ q.is)
          (stored_on h.part.stored (stored_on (pushed run) (stored_on q.part.stored last))) facts
