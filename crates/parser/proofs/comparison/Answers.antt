-- Both words are of their class, and then one record stands for them.
use mathlib.Core.Bool.{Bool, true, ◌&&◌, cond}
use mathlib.Core.List.{List}
use mathlib.Core.Path.{◌≡◌, sym, ap, ap₂, ◌∙◌}
use Prim.Native.Nat.{ℕ, ◌+◌}
use lib.Seq.{sets}
use Rattle.std.specs.Prelude.{None}
use Rattle.traces.specs.Compare.{op_number}
use Rattle.formulas.specs.Tree.{upper}
use Rattle.formulas.specs.Arena.{row, num_kind, num_value}
use Rattle.words.specs.Word.{is_op, is_num}
use Rattle.grammar.specs.Grammar.{op_word, num_word}
use Rattle.grammar.specs.Parse.{comparison_at, word}
use Rattle.grammar.proofs.Position.{op-pos}
use Rattle.grammar.proofs.Words.{op-number}
use Rattle.facts.specs.Facts.{atom_facts}
use Rattle.facts.specs.declared.Facts.{Facts}
use Rattle.parser.specs.Contract.{parsed, ParsesComparison, Pushed}
use Rattle.parser.proofs.comparison.Goals as goal
use Rattle.parser.proofs.comparison.Goals.{then-lead, else-lead}

-- Where both words are of their class, the record has what the words o and n stand for.
compared : {ws : List ℕ} {j : ℕ} {before : List ℕ} {top k : ℕ} {lead : Bool} {after : List ℕ} {a b c e : ℕ} {f : Facts}
    → comparison_at ws j ≡ true
    → a ≡ op_number (op_word (word ws j)) → b ≡ num_kind (num_word (word ws (j + 1)))
    → c ≡ num_value (num_word (word ws (j + 1))) → Pushed before top k a b c e after
    → f ≡ atom_facts (lead && upper (op_word (word ws j)))
    → ParsesComparison ws j before top k lead (parsed (j + 2) e f) after
compared {ws} {j} {before} {top} {k} {lead} {b = b} {c} is ea eb ec pushed facts =
    let o = op_word (word ws j) in
    record {
      result =
          ap₂ (parsed (j + 2)) pushed.end facts
          ∙ ap (λ (x : Bool). cond x (parsed (j + 2) (top + 4) (atom_facts (lead && upper o))) None) (sym is);
      filled = λ q. pushed.filled
          ∙ ap (sets before top) (ap (λ (x : ℕ). row k x b c) ea ∙ ap₂ (row k (op_number o)) eb ec);
    }

pub overflow_sub-o : goal.overflow_sub-o
overflow_sub-o c = op-pos _ (sym c.is_op.ensures ∙ c.if-not-is_op.false)

pub returns : goal.returns
returns c =
    let o = c.number_at-o in
    let n = c.number_at-n in
    let is-op : is_op o.result ≡ true = sym c.is_op.ensures ∙ c.if-not-is_op.false in
    let is-num : is_num n.result ≡ true = sym c.is_num.ensures ∙ c.if-not-is_num.false in
    let lead : c.if-lead.atom_facts ≡ (c.args.lead && upper (op_word o.result)) =
    elim c.if-lead.branch [
      | then-lead w ↦ simp (w.atom_facts-is, w.is_upper.ensures, w.if-lead.true)
      | else-lead w ↦ simp (w.atom_facts-is, w.if-lead.false)
    ]
    in
    compared (ap₂ ◌&&◌ (ap is_op (sym o.ensures) ∙ is-op) (ap is_num (sym n.ensures) ∙ is-num))
    (sym (op-number o.result is-op) ∙ ap (λ (x : ℕ). op_number (op_word x)) o.ensures)
    (c.num_kind.ensures ∙ ap (λ (x : ℕ). num_kind (num_word x)) n.ensures)
    (c.num_value.ensures ∙ ap (λ (x : ℕ). num_value (num_word x)) n.ensures) c.push.ensures
    (c.atom_facts.ensures
    ∙ ap atom_facts (lead ∙ ap (λ (x : ℕ). c.args.lead && upper (op_word x)) o.ensures))
