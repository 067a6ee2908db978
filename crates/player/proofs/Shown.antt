-- Every card shows what is printed for it (`shown`), and nothing else (`one-output`): what a card shows is what is
-- printed, case by case (`lines-printed`), and every card shows something (Showing.antt). Assumes nothing.
use mathlib.Core.Path.{◌≡◌, refl, ◌∙◌, sym, subst}
use mathlib.Core.Bool.{false}
use mathlib.Core.List.{List, ◌∷◌, ◌++◌}
use Prim.Native.Nat.{ℕ, ◌+◌, ◌≤◌, ◌<◌}
use native.Mathlib.Omega.{arith}
use lib.ListN.{length, replicate, length-replicate}
use borrow.Author.Tests.{lt-leb}
use Rattle.std.specs.Prelude.{Some}
use Rattle.formulas.specs.Formula.{Formula}
use Rattle.formulas.specs.Tree.{Tree}
use Rattle.limits.specs.Limits.{parameter_count, text_limit, line_limit, equation_limit, table_room}
use Rattle.limits.specs.Context.{standard_context}
use Rattle.limits.specs.declared.Context.{Context}
use Rattle.limits.specs.declared.Refusal.{Refusal}
use Rattle.words.specs.Contract.{Ranged}
use Rattle.words.proofs.Bounds.{standard-ranged}
use Rattle.flows.specs.Step.{freshened}
use Rattle.rules.specs.Reading.{HasOutcome}
use Rattle.rules.specs.Computed.{rule_of}
use Rattle.rules.specs.Reading.Outcome.{rule, refused}
use Rattle.rules.proofs.Theorems.{computed, has-formula}
use Rattle.observers.proofs.Demand.{refused-compiled}
use Rattle.cards.specs.Heads.{IsEdition, edition_line, rule_head}
use Rattle.cards.specs.Numbers.{has_prefix, parameters_of, count_of}
use Rattle.cards.specs.Lines.{over_long, cut}
use Rattle.cards.specs.Says.{stage_at, first_stage, line_says}
use Rattle.cards.specs.declared.Phase.TheVariants as P
use Rattle.cards.specs.declared.Stage.{Stage}
use Rattle.cards.proofs.Editions.{edition-of}
use Rattle.cards.proofs.Sized.{parameters-low, parameters-short, count-short}
use Rattle.player.specs.Card.{World, world_in, watch_of, Effect, effect_of, over_world, rule_made, played, lined}
use Rattle.player.specs.Card.{owed, prints, printed}
use Rattle.player.specs.Output.{output_bytes}
use Rattle.player.specs.Meant.{Meant}
use Rattle.player.specs.Shows.{LinesShow, Shows}
use Rattle.player.specs.Shows.LinesShow.{edition-fails, parameters-fail, rule-fails, count-fails}
use Rattle.player.specs.Shows.LinesShow.{rule-refused, verdicts}
use Rattle.player.specs.declared.Output.TheVariants as O
use Rattle.player.proofs.Printing.{last-owed}
use Rattle.player.proofs.Closing.{fails-owed, edition-refuses, parameters-refuse, rule-refuses, count-refuses}
use Rattle.player.proofs.Meant.{Compile, compile, rule-short, ticks-meant}
use Rattle.player.proofs.Showing.{lines-show}

-- ---- the four first lines

abbrev silent : World → Effect
silent w = effect_of O.Quiet w

-- A line that prints nothing.
silent-owed : (w : World) {w' : World} (l : List ℕ) (ls : List (List ℕ)) (tail : List ℕ) → lined w l ≡ silent w'
    → owed w (l ∷ ls) tail ≡ owed w' ls tail
unfolding owed output_bytes
silent-owed w l ls tail e = rw e

module _ (context : Context) (table c v : List ℕ) where
  -- Before the rule's line, with the lent arrays as they are,
  abbrev early : Stage → List ℕ → World
  early k ps = world_in context (watch_of k 0) ps table c v

  -- After it, with the rule's table and its fresh state.
  abbrev ruled : {text : List ℕ} {f : Formula} → Compile context text table f → Stage → List ℕ → World
  ruled o k ps =
      let fresh = (freshened context.velocities o.table o.n c).state in
      world_in context (watch_of k o.n) ps o.table fresh v

  module _ (e : ℕ) where
    edition-lined : (ps : List ℕ) → IsEdition e
        → lined (early first_stage ps) (edition_line e) ≡ silent (early (stage_at P.Parameters e 0) ps)
    unfolding lined played line_says
    edition-lined ps one = rw (edition-of one)

    parameters-lined : (old ps l : List ℕ) → parameters_of l ≡ Some ps
        → lined (early (stage_at P.Parameters e 0) old) l ≡ silent (early (stage_at P.Rule e 0) ps)
    unfolding lined played line_says
    parameters-lined old ps l q = rw (lt-leb line_limit (length l) (parameters-short l ps q), q)

    rule-lined : {text : List ℕ} {f : Formula} (o : Compile context text table f) (ps : List ℕ)
        → length text ≤ text_limit → equation_limit ≤ length c
        → lined (early (stage_at P.Rule e 0) ps) (rule_head ++ text) ≡ silent (ruled o (stage_at P.Count e 0) ps)
    unfolding lined played line_says rule_made has_prefix
    rule-lined {text} o ps h room =
        let short : length (rule_head ++ text) < line_limit = omega arith in
        rw (
          lt-leb line_limit (length (rule_head ++ text)) short,
          o.is,
          o.observes.fresh c (omega (arith, o.few)),
        )

    refused-lined : (ps text : List ℕ) (k : Refusal) → over_long (rule_head ++ text) ≡ false
        → rule_of context text ≡ refused k
        → lined (early (stage_at P.Rule e 0) ps) (rule_head ++ text)
        ≡ effect_of (O.Refused k) (over_world (early (stage_at P.Rule e 0) ps))
    unfolding lined played line_says rule_made has_prefix
    refused-lined ps text k h q = rw (h, ← (refused-compiled context text table q))

    count-lined : {text : List ℕ} {f : Formula} (o : Compile context text table f) (ps l : List ℕ) (k : ℕ)
        → count_of l ≡ Some k
        → lined (ruled o (stage_at P.Count e 0) ps) l ≡ silent (ruled o (stage_at P.Ticks e k) ps)
    unfolding lined played line_says
    count-lined o ps l k q = rw (lt-leb line_limit (length l) (count-short l k q), q)

-- ---- what is shown is printed

-- From any lent arrays that are long enough: the lines after the first, after the second, and after a third that is a
-- rule.
module _ {context : Context} (ranged : Ranged context) (old table c v : List ℕ)
    (room : table_room ≤ length table) (room-c : equation_limit ≤ length c) (room-v : equation_limit ≤ length v)
    (tail : List ℕ) where
  module _ {e : ℕ} (one : IsEdition e) where
    after_first : (ls : List (List ℕ)) → owed (early context table c v first_stage old) (edition_line e ∷ ls) tail
        ≡ owed (early context table c v (stage_at P.Parameters e 0) old) ls tail
    after_first ls = silent-owed _ (edition_line e) ls tail (edition-lined context table c v e old one)

    after-second : (second ps : List ℕ) (ls : List (List ℕ)) → parameters_of second ≡ Some ps
        → owed (early context table c v first_stage old) (edition_line e ∷ second ∷ ls) tail
        ≡ owed (early context table c v (stage_at P.Rule e 0) ps) ls tail
    after-second second ps ls q =
        after_first (second ∷ ls) ∙ silent-owed _ second ls tail (parameters-lined context table c v e old ps second q)

    after-third : (second ps text : List ℕ) {t : Tree} {f : Formula} (o : Compile context text table f)
        (ls : List (List ℕ)) → parameters_of second ≡ Some ps → HasOutcome context text (rule t)
        → owed (early context table c v first_stage old) (edition_line e ∷ second ∷ (rule_head ++ text) ∷ ls) tail
        ≡ owed (ruled context table c v o (stage_at P.Count e 0) ps) ls tail
    after-third second ps text {t} o ls q r =
        after-second second ps ((rule_head ++ text) ∷ ls) q
        ∙ silent-owed _ (rule_head ++ text) ls tail
        (rule-lined context table c v e o ps (rule-short context text t (computed context text r)) room-c)

  -- Each case of what is shown.
  lines-printed : {ls : List (List ℕ)} {out : List ℕ} → LinesShow context tail ls out
      → owed (early context table c v first_stage old) ls tail ≡ out
  lines-printed (edition-fails h) = fails-owed _ (edition-refuses context.velocities) h tail
  lines-printed (parameters-fail {e} {ls} one h) =
      after_first one ls ∙ fails-owed _ (parameters-refuse context.velocities e) h tail
  lines-printed (rule-fails {e} {second} {ps} {ls} one q h) =
      after-second one second ps ls q ∙ fails-owed _ (rule-refuses context.velocities e) h tail
  lines-printed (count-fails {e} {second} {ps} {text} {t} {ls} one q r h) =
      let is = computed context text r in
      let f = has-formula context text t is in
      after-third one second ps text (compile ranged text table t is room f.0 f.1) ls q r
      ∙ fails-owed _ (count-refuses context.velocities e) h tail
  lines-printed (rule-refused {e} {second} {ps} {text} {k} {ls} one q short r) =
      after-second one second ps ((rule_head ++ text) ∷ ls) q
      ∙ last-owed _ _ (rule_head ++ text) ls tail (O.Refused k)
      (refused-lined context table c v e ps text k short (computed context text r)) refl
  lines-printed (
      verdicts {e} {second} {ps} {text} {fourth} {t} {f} {ls} {rest} {ks} {left} one q r is count lines closes
      ) =
      let o = compile ranged text table t (computed context text r) room f is in
      let fits-c : o.n ≤ length c = omega (arith, o.few) in
      let fits-v : o.n ≤ length v = omega (arith, o.few) in
      after-third one second ps text o (fourth ∷ (ls ++ rest)) q r
      ∙ silent-owed _ fourth (ls ++ rest) tail (count-lined context table c v e o ps fourth (length ks + left) count)
      ∙ ticks-meant ranged.some o.observes (parameters-low second ps q) lines closes c v fits-c fits-v

long : (m : ℕ) → m ≤ length {A = ℕ} (replicate m 0)
long m = omega (arith, length-replicate {A = ℕ} m 0)

-- A card prints what it shows, so what it shows is one.
pub shown-printed : (card : List ℕ) {out : List ℕ} → Shows card out → printed card ≡ out
unfolding printed prints
shown-printed card h =
    lines-printed standard-ranged (replicate parameter_count 0) (replicate table_room 0) (replicate equation_limit 0)
    (replicate equation_limit 0) (long table_room) (long equation_limit) (long equation_limit) (cut card).tail h

pub one-output : (card out out' : List ℕ) → Shows card out → Shows card out' → out ≡ out'
one-output card out out' h h' = sym (shown-printed card h) ∙ shown-printed card h'

-- Every card shows what is printed for it.
pub shown : (card : List ℕ) → Shows card (printed card)
shown card =
    let h = lines-show standard_context (cut card).tail (cut card).whole in
    subst (λ (out : List ℕ). Shows card out) (sym (shown-printed card h.1)) h.1

-- The statement of specs/Meant.antt.
pub meant : (card : List ℕ) → Meant card
meant card = record { shown = shown card; only = λ out h. sym (shown-printed card h) }
