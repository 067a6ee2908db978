-- What the limits, the parser's answer, the fragment and the leads decide is the outcome.
use Rattle.std.proofs.Common.{◌≡◌, sym, ◌∙◌, true, false, Bool, Some, None, List, ℕ, eqb, arith}
use Rattle.std.specs.List.{list_any}
use borrow.Author.Tests.{not-true, not-false}
use Rattle.std.proofs.lemmas.Result.{err_from_is_err_and}
use Rattle.limits.specs.declared.Refusal.TheVariants.{NoRule, BeyondFragment, NoLead}
use Rattle.words.specs.Word.{CHOP, EXISTS}
use Rattle.grammar.specs.Fragment.{beyond}
use Rattle.grammar.proofs.Position.{span}
use Rattle.parser.proofs.Stored.{took, lost}
use Rattle.rules.specs.Limits.{beyond_limits}
use Rattle.rules.proofs.Decided.{tree-words}
use Rattle.rules.proofs.Laid.{laid-refused}
use Rattle.rules.proofs.Outcomes.{lost-tree, part-tree, beyond-words, no-lead-words, laid-rule}
use Rattle.rules.proofs.Passes.{in_limits, has_word_any}
use Rattle.rules.proofs.read_words.Goals as goal
use Rattle.rules.proofs.read_words.Goals.{then-contains-via-then-contains}
use Rattle.rules.proofs.read_words.Goals.{then-contains-via-else-contains+then-contains-2}

pub returns-in_err-rule : goal.returns-in_err-rule
returns-in_err-rule c =
    let p = err_from_is_err_and c.from_residual-in_err-rule.result c.from_residual-in_err-rule.ensures.1 in
    let within : beyond_limits c.args.ws.now ≡ false = in_limits _ c.in_ok-check_limits.ensures in
    let none : c.read_f.result ≡ None = grind arith in
    let why : c.in_err-rule.field-0.0 ≡ NoRule = grind arith in
    rw (p.1, p.2, why)
    (laid-refused NoRule (tree-words c.args.ws.now within (lost-tree c.args.ws.now (lost c.read_f.ensures none))))

pub returns-then-rule-ws : goal.returns-then-rule-ws
returns-then-rule-ws c =
    let within : beyond_limits c.args.ws.now ≡ false = in_limits _ c.in_ok-check_limits.ensures in
    let some : c.read_f.result ≡ Some c.in_ok-rule.rule = grind arith in
    let tree = took c.read_f.ensures (λ a m h. span h) some in
    laid-refused NoRule (tree-words c.args.ws.now within (part-tree c.args.ws.now tree.is c.if-rule-ws.true))

pub returns-then-contains : goal.returns-then-contains
returns-then-contains c =
    let within : beyond_limits c.args.ws.now ≡ false = in_limits _ c.in_ok-check_limits.ensures in
    let some : c.read_f.result ≡ Some c.in_ok-rule.rule = grind arith in
    let tree = took c.read_f.ensures (λ a m h. span h) some in
    let outside : beyond c.args.ws.now ≡ true =
    elim c.then-contains.branch [
      | then-contains-via-then-contains w ↦
          simp (← (has_word_any CHOP c.args.ws.now), sym c.contains.ensures.value ∙ w.if-contains.true)
      | then-contains-via-else-contains+then-contains-2 w ↦
          simp (
            ← (has_word_any CHOP c.args.ws.now),
            sym c.contains.ensures.value ∙ w.if-contains.false,
            ← (has_word_any EXISTS c.args.ws.now),
            sym w.contains-else-contains.ensures.value ∙ w.if-contains-2.true,
          )
    ]
    in
    laid-refused BeyondFragment (beyond-words tree (omega arith) within c.if-rule-ws.false outside)

-- Neither word is there.
inside : (ws : List ℕ) {x y : Bool} → x ≡ list_any (λ z. eqb z CHOP) ws → x ≡ false
    → y ≡ list_any (λ z. eqb z EXISTS) ws → y ≡ false → beyond ws ≡ false
inside ws e f e' f' = simp (← (has_word_any CHOP ws), ← (has_word_any EXISTS ws), sym e ∙ f, sym e' ∙ f')

pub returns-then-not-rule : goal.returns-then-not-rule
returns-then-not-rule c =
    let within : beyond_limits c.args.ws.now ≡ false = in_limits _ c.in_ok-check_limits.ensures in
    let some : c.read_f.result ≡ Some c.in_ok-rule.rule = grind arith in
    let tree = took c.read_f.ensures (λ a m h. span h) some in
    let in-fragment = inside c.args.ws.now c.contains.ensures.value c.if-contains.false
    c.contains-else-contains.ensures.value c.if-contains-2.false in
    laid-refused NoLead
    (no-lead-words tree (omega arith) within c.if-rule-ws.false in-fragment (not-true _ c.if-not-rule.true))

pub returns : goal.returns
returns c =
    let within : beyond_limits c.args.ws.now ≡ false = in_limits _ c.in_ok-check_limits.ensures in
    let some : c.read_f.result ≡ Some c.in_ok-rule.rule = grind arith in
    let tree = took c.read_f.ensures (λ a m h. span h) some in
    let in-fragment = inside c.args.ws.now c.contains.ensures.value c.if-contains.false
    c.contains-else-contains.ensures.value c.if-contains-2.false in
    laid-rule tree (omega arith) within c.if-rule-ws.false in-fragment (not-false _ c.if-not-rule.false)
