-- What a card prints, top down: its lines, its rule's outcome and the interval meaning, with no table, state or step.
-- Definitions only.
use Rattle.std.specs.Prelude.{true, false, List, [], ◌∷◌, ◌++◌, Some, None, ◌≡◌, ℕ, zero, suc, ◌+◌, length}
use Rattle.std.proofs.Math.Option.{some}
use Rattle.limits.specs.declared.Refusal.{Refusal}
use Rattle.limits.specs.Context.{standard_context}
use Rattle.limits.specs.declared.Context.{Context}
use Rattle.traces.specs.declared.Tick.{Tick}
use Rattle.traces.specs.Trace.{tick_of}
use Rattle.formulas.specs.Formula.{Formula}
use Rattle.formulas.specs.Meaning.{verdict}
use Rattle.formulas.specs.Tree.{Tree, formula_of}
use Rattle.agreement.specs.Agreement.{trace_of_ticks}
use Rattle.rules.specs.Reading.{HasOutcome}
use Rattle.rules.specs.Reading.Outcome.{rule, refused}
use Rattle.cards.specs.Heads.{IsEdition, edition_line, rule_head}
use Rattle.cards.specs.Numbers.{parameters_of, count_of}
use Rattle.cards.specs.Ticks.{tick_line}
use Rattle.cards.specs.Lines.{over_long, cut}
use Rattle.cards.specs.Heads.{head_refusal, tick_refusal}
use Rattle.cards.specs.declared.TickLine.{TickLine}
use Rattle.player.specs.Output.{output_bytes}
use Rattle.player.specs.declared.Output.{Output}
use Rattle.player.specs.declared.Output.TheVariants as O

-- ---- lines that are not as they have to be

-- Not the line of SPEC 10.2, of SPEC 10.3, of SPEC 10.4, of SPEC 10.5, of SPEC 10.6.
abbrev pub NoEdition : List ℕ → Type 0
NoEdition l = (e : ℕ) → IsEdition e → l ≡ edition_line e → ⊥

abbrev pub NoParameters : List ℕ → Type 0
NoParameters l = parameters_of l ≡ None

abbrev pub NoRule : List ℕ → Type 0
NoRule l = (text : List ℕ) → l ≡ rule_head ++ text → ⊥

abbrev pub NoCount : List ℕ → Type 0
NoCount l = count_of l ≡ None

abbrev pub NoTick : ℕ → ℕ → List ℕ → Type 0
NoTick velocities e l = tick_line velocities e l ≡ None

-- SPEC 10.7: the first of these lines fails, Broken being what makes it a broken one.
pub data Fails (Broken : List ℕ → Type 0) : List (List ℕ) → Type 0 where
  broken : {l : List ℕ} {ls : List (List ℕ)} → Broken l → Fails Broken (l ∷ ls)
  missing : Fails Broken []
  over-long : {l : List ℕ} {ls : List (List ℕ)} → over_long l ≡ true → Fails Broken (l ∷ ls)

-- ---- the tick lines

-- These lines say these ticks, in the edition e and with the parameters ps.
pub data TickLines (velocities e : ℕ) (ps : List ℕ) : List (List ℕ) → List Tick → Type 0 where
  none : TickLines velocities e ps [] []
  more : {l : List ℕ} {ls : List (List ℕ)} {t : TickLine} {ks : List Tick}
      → tick_line velocities e l ≡ Some t → TickLines velocities e ps ls ks
      → TickLines velocities e ps (l ∷ ls) (tick_of t.start t.signals t.velocity ps ∷ ks)

-- How a card ends after some tick lines: so many ticks are left, then come these lines and these bytes with no line
-- end, and this is printed for them.
pub data Closes (velocities e : ℕ) : ℕ → List (List ℕ) → List ℕ → Output → Type 0 where
  whole : Closes velocities e zero [] [] O.Quiet
  -- SPEC 10.8: a byte behind the last tick, with a line end after it or not.
  line_after : {l : List ℕ} {ls : List (List ℕ)} {tail : List ℕ}
      → Closes velocities e zero (l ∷ ls) tail (O.Refused tick_refusal)
  bytes_after : {b : ℕ} {tail : List ℕ} → Closes velocities e zero [] (b ∷ tail) (O.Refused tick_refusal)
  -- SPEC 10.7: a tick line fails.
  tick-fails : {left : ℕ} {ls : List (List ℕ)} {tail : List ℕ} → Fails (NoTick velocities e) ls
      → Closes velocities e (suc left) ls tail (O.Refused tick_refusal)

-- SPEC 10.10: a line for each tick from the one numbered i on, v j being the verdict of the tick numbered j.
unfoldable pub verdict_lines : (ℕ → ℕ) → ℕ → List Tick → List ℕ
verdict_lines v i [] = []
verdict_lines v i (k ∷ ks) = output_bytes (O.Verdict (v i)) ++ verdict_lines v (suc i) ks

-- ---- the card

-- SPEC 10.10: the line of a refusal; nothing comes after it.
abbrev pub refusal_line : Refusal → List ℕ
refusal_line k = output_bytes (O.Refused k)

-- What is printed for these lines and then these bytes with no line end. Each case has all lines before the one that it
-- is about as they have to be (SPEC 10.9): the first is that of an edition e. The rule and the tick lines are read in
-- this context.
pub data LinesShow (context : Context) (tail : List ℕ) : List (List ℕ) → List ℕ → Type 0 where
  -- SPEC 10.7: one of the four first lines fails, the first, the second,
  edition-fails : {ls : List (List ℕ)} → Fails NoEdition ls → LinesShow context tail ls (refusal_line head_refusal)
  parameters-fail : {e : ℕ} {ls : List (List ℕ)} → IsEdition e → Fails NoParameters ls
      → LinesShow context tail (edition_line e ∷ ls) (refusal_line head_refusal)
  -- the third,
  rule-fails : {e : ℕ} {second ps : List ℕ} {ls : List (List ℕ)} → IsEdition e → parameters_of second ≡ Some ps
      → Fails NoRule ls → LinesShow context tail (edition_line e ∷ second ∷ ls) (refusal_line head_refusal)
  -- and the fourth, after a text that is a rule.
  count-fails : {e : ℕ} {second ps text : List ℕ} {t : Tree} {ls : List (List ℕ)} → IsEdition e
      → parameters_of second ≡ Some ps → HasOutcome context text (rule t) → Fails NoCount ls
      → LinesShow context tail (edition_line e ∷ second ∷ (rule_head ++ text) ∷ ls) (refusal_line head_refusal)
  -- SPEC 10.9: the rule is refused, at its line and by its number.
  rule-refused : {e : ℕ} {second ps text : List ℕ} {k : Refusal} {ls : List (List ℕ)} → IsEdition e
      → parameters_of second ≡ Some ps → over_long (rule_head ++ text) ≡ false → HasOutcome context text (refused k)
      → LinesShow context tail (edition_line e ∷ second ∷ (rule_head ++ text) ∷ ls) (refusal_line k)
  -- SPEC 10.10: the verdict of the rule's formula by the interval meaning (SPEC 4.10), for the ticks up to the last or
  -- up to a refusal.
  verdicts : {e : ℕ} {second ps text fourth : List ℕ} {t : Tree} {f : Formula} {ls rest : List (List ℕ)}
      {ks : List Tick} {left : ℕ} {o : Output} → IsEdition e → parameters_of second ≡ Some ps
      → HasOutcome context text (rule t) → formula_of t ≡ some f → count_of fourth ≡ Some (length ks + left)
      → TickLines context.velocities e ps ls ks → Closes context.velocities e left rest tail o
      → LinesShow context tail (edition_line e ∷ second ∷ (rule_head ++ text) ∷ fourth ∷ (ls ++ rest))
      (verdict_lines (verdict (trace_of_ticks ps ks) f) 0 ks ++ output_bytes o)

-- What a card shows, from its bytes on, in the context of the specification.
abbrev pub Shows : List ℕ → List ℕ → Type 0
Shows card out = LinesShow standard_context (cut card).tail (cut card).whole out
