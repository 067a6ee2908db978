-- What the trial runs P1 to P13 (formulas, specs/Trials.antt) show of reading. Definitions only.
use mathlib.Core.Path.{_≡_}
use mathlib.Core.Option.{some}
use Rattle·limits.specs.Context.{standardContext}
use Rattle·lists.specs.Text.{bytes}
use Rattle·formulas.specs.Tree.{Tree, nodes, ruleMemories, formulaOf}
use Rattle·formulas.specs.Trials.{Trial, meant}
use Rattle·rules·specs.specs.Computed.{ruleOf}
use Rattle·rules·specs.specs.Reading.Outcome.{rule}

-- A row holds: its text is read as a rule with that many nodes and memories, whose formula is the row's, and the
-- meaning of the formula gives these verdicts.
pub record RowHolds (r : Trial) : Type 0 where
  pub tree : Tree
  pub is-read : ruleOf standardContext (bytes (r .text)) ≡ rule tree
  pub counts : nodes tree ≡ r .nodes
  pub remembers : ruleMemories tree ≡ r .memories
  pub is-formula : formulaOf tree ≡ some (r .formula)
  pub gives : meant r ≡ r .verdicts
