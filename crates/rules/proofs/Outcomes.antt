-- From the answers of the splitter and the parser to the outcome of reading. Assumes nothing.
use mathlib.Core.Bool.{Bool, true, false, cond}
use mathlib.Core.Path.{◌≡◌, refl, sym, ap, ap₂, ◌∙◌, subst}
use mathlib.Core.List.{List}
use mathlib.Core.Option.{none, some}
use Prim.Native.Nat.{ℕ, ◌+◌, ◌≤◌}
use native.Mathlib.Nat.{zero-add}
use native.Mathlib.Omega.{arith}
use lib.ListN.{length, take, drop}
use lib.Seq.{sets, sets-eq, take_at}
use borrow.Author.Tests.{eq-eqb, ne_eqb}
use Rattle.limits.specs.Limits.{word_limit, arena_limit}
use Rattle.limits.specs.declared.Context.{Context}
use Rattle.words.specs.Split.{Out, split_of}
use Rattle.words.specs.Split.Out.{made}
use Rattle.words.specs.Contract.{split_answer, Splits}
use Rattle.words.specs.Contract.{Split}
use Rattle.formulas.specs.Tree.{Tree}
use Rattle.formulas.specs.Arena.{flat}
use Rattle.grammar.specs.Fragment.{beyond}
use Rattle.grammar.specs.Parse as Parse
use Rattle.grammar.specs.Parse.{read, tree_of, ended}
use Rattle.grammar.specs.Parse.Result.{no-rule, ok}
use Rattle.grammar.specs.Parse.Goal.{go_f}
use Rattle.grammar.proofs.Theorems.{tree-rule, rule-size}
use Rattle.facts.specs.declared.Facts.{Facts}
use Rattle.parser.proofs.Stored.{Took}
use Rattle.rules.specs.Limits.{beyond_limits}
use Rattle.rules.specs.Computed.{rule_of, of_words}
use Rattle.rules.specs.Reading.Outcome.{refused, rule}
use Rattle.rules.specs.Laid.{Laid, records_of}
use Rattle.rules.specs.declared.Records.{Records}
use Rattle.rules.proofs.Decided
use Rattle.std.specs.Prelude.{Result, Ok, Err}
use Rattle.limits.specs.declared.Refusal.{Refusal}
use Rattle.limits.specs.declared.Refusal.TheVariants.{BeyondFragment, NoLead}

-- ---- the parser's answer

module _ (ws : List ℕ) where
  tree_is : {x : Parse.Result} → read ws (go_f false) 0 ≡ x → tree_of ws ≡ ended ws x
  unfolding tree_of
  tree_is e = ap (ended ws) e

  -- No tree was read, or one that ends before the last word.
  pub lost-tree : read ws (go_f false) 0 ≡ no-rule → tree_of ws ≡ none
  lost-tree e = tree_is e

  pub part-tree : {t : Tree} {j : ℕ} → read ws (go_f false) 0 ≡ ok t j → (j ≡ length ws → ⊥) → tree_of ws ≡ none
  part-tree {t} e n = tree_is e ∙ ap (λ (b : Bool). cond b (some t) none) (ne_eqb _ _ n)

-- The answer with that many numbers and nodes.
abbrev laid : ℕ → ℕ → Result Records Refusal
laid n k = Ok (record { size = n; nodes = k })

-- A tree was read to the last word, and its records stand from 0 up to `top`.
module _ {ws before : List ℕ} {next top : ℕ} {facts : Facts} {after : List ℕ}
    (h : Took (go_f false) ws 0 before 0 next top facts after)
    (few : length ws ≤ word_limit) (in-limits : beyond_limits ws ≡ false) (whole : next ≡ length ws) where
  whole-tree : tree_of ws ≡ some h.part.tree
  whole-tree = tree_is ws h.is ∙ ap (λ (b : Bool). cond b (some h.part.tree) none) (eq-eqb _ _ whole)

  pub beyond-words : beyond ws ≡ true → of_words (made ws) ≡ refused BeyondFragment
  beyond-words f = Decided.beyond-words ws in-limits whole-tree f

  lead-words : {l : Bool} → beyond ws ≡ false → facts.leads ≡ l →
      of_words (made ws) ≡ cond l (rule h.part.tree) (refused NoLead)
  lead-words f g =
      Decided.lead-words ws in-limits whole-tree f (sym (ap (λ (x : Facts). x.leads) h.part.known) ∙ g)

  pub no-lead-words : beyond ws ≡ false → facts.leads ≡ false → of_words (made ws) ≡ refused NoLead
  no-lead-words f g = lead-words f g

  pub laid-rule : beyond ws ≡ false → facts.leads ≡ true →
      Laid (of_words (made ws)) before (Ok (record { size = top; nodes = facts.nodes })) after
  laid-rule f g =
      let t = h.part.tree in
      let stored = h.part.stored in
      let is-rule : of_words (made ws) ≡ rule t = lead-words f g in
      let size = rule-size ws t (tree-rule ws t whole-tree) in
      record {
        result =
            ap₂ laid (stored.end ∙ zero-add _) (ap (λ (x : Facts). x.nodes) h.part.known)
            ∙ ap records_of (sym is-rule);
        filled = λ u q. let same : t ≡ u = cc in stored.filled ∙ ap (λ (v : Tree). sets before 0 (flat v)) same;
        small = λ u q.
            let same : t ≡ u = cc in
            subst (λ (v : Tree). length (flat v) ≤ arena_limit) same (omega arith);
      }

-- ---- the splitter's answer

-- An answer with words is not one with a refusal.
no_words : {k : Refusal} {n : ℕ} → Err k ≡ Ok n → ⊥
no_words q = cc

-- The words that were made, in the buffer.
pub record Made (context : Context) (text before : List ℕ) (n : ℕ) (after : List ℕ) : Type 0 where
  pub ws : List ℕ
  pub is : split_of context text ≡ made ws
  pub count : n ≡ length ws
  pub few : n ≤ word_limit
  pub filled : after ≡ sets before 0 ws

module _ {context : Context} {text before : List ℕ} {r : Split} {after : List ℕ}
    (h : Splits context text before r after) where
  pub made_of : {n : ℕ} → r ≡ Ok n → Made context text before n after
  made_of {n} q = go (split_of context text) refl
    where
      go : (x : Out) → split_of context text ≡ x → Made context text before n after
      go (Out.refused k) p = absurd (no_words (sym (h.result ∙ ap split_answer p) ∙ q))
      go (made ws) p =
          let b : Ok (length ws) ≡ Ok n = sym (h.result ∙ ap split_answer p) ∙ q in
          let c : n ≡ length ws = cc in
          record { ws = ws; is = p; count = c; few = omega (arith, h.few ws p); filled = h.filled ws p }

  pub refused-of : {k : Refusal} → r ≡ Err k → rule_of context text ≡ refused k
  unfolding rule_of
  refused-of {k} q = go (split_of context text) refl
    where
      go : (x : Out) → split_of context text ≡ x → of_words (split_of context text) ≡ refused k
      go (Out.refused m) p =
          let both : Err m ≡ Err k = sym (h.result ∙ ap split_answer p) ∙ q in
          let same : m ≡ k = cc in
          ap of_words p ∙ ap refused same
      go (made ws) p = absurd (no_words (sym q ∙ h.result ∙ ap split_answer p))

module _ {context : Context} {text before : List ℕ} {n : ℕ} {after : List ℕ} (h : Made context text before n after)
    (room : word_limit ≤ length before) where
  -- the words are the buffer's first n numbers
  front : take n after ≡ h.ws
  front =
      ap (take n) (h.filled ∙ sets-eq h.ws before 0 (omega (arith, h.few, h.count)))
      ∙ take_at h.ws (drop (0 + length h.ws) before) n (sym h.count)

  pub of-front : of_words (made (take n after)) ≡ rule_of context text
  unfolding rule_of
  of-front = ap (λ (x : List ℕ). of_words (made x)) front ∙ ap of_words (sym h.is)
