-- What the parse functions answer and leave in the arena. Definitions only.
use Rattle.std.specs.Prelude.{Bool, true, false, ◌&&◌, cond, ◌≡◌, List, [], ◌++◌, ℕ, ◌+◌, ◌-◌, ◌*◌, ◌≤◌, ◌<◌, length}
use Rattle.std.specs.Prelude.{Option, Some, None}
use Rattle.std.proofs.lemmas.List.Edits.{sets}
use Rattle.limits.specs.Limits.{word_limit}
use Rattle.traces.specs.Compare.{op_number}
use Rattle.traces.specs.declared.Op.{Op}
use Rattle.formulas.specs.Formula.{Num}
use Rattle.formulas.specs.Tree.{Tree, upper}
use Rattle.formulas.specs.Arena
use Rattle.formulas.specs.Arena.{row, flat, num_kind, num_value}
use Rattle.grammar.specs.Grammar.{op_word, num_word}
use Rattle.grammar.specs.Parse.{Result, Goal, read, word, velocity_at, leaf_at, comparison_at}
use Rattle.grammar.specs.Parse.Result.{no-rule, ok}
use Rattle.grammar.specs.Parse.Goal.{go_f}
use Rattle.facts.specs.Facts.{facts_of, atom_facts, then_facts, chop_facts}
use Rattle.facts.specs.declared.Facts.{Facts}
use Rattle.parser.specs.declared.Parsed.{Parsed}

-- What a parse function answers where it reads a tree.
abbrev pub parsed : ℕ → ℕ → Facts → Option Parsed
parsed j e f = Some (record { at = j; top = e; facts = f })

-- The answer for a result, with the tree's records from `top` on.
abbrev pub parsed_of : Result → ℕ → Option Parsed
parsed_of no-rule top = None
parsed_of (ok t j) top = parsed j (top + length (flat t)) (facts_of t)

-- A parse function reads goal g from position i: the answer r, and the arena before and after. Where a tree was read,
-- its records stand from `top` on and all else is kept; where none was, nothing is said of the arena.
pub record Parses (g : Goal) (ws : List ℕ) (i : ℕ) (before : List ℕ) (top : ℕ) (r : Option Parsed) (after : List ℕ) :
    Type 0 where
  pub result : r ≡ parsed_of (read ws g i) top
  pub filled : (t : Tree) (j : ℕ) → read ws g i ≡ ok t j → after ≡ sets before top (flat t)

-- The answer for a tree that a D begins and an F ends: records before and after those of the F stand from `top` on, and
-- the tree's facts are known by those of the F.
abbrev pub joined_of : (Facts → Facts) → List ℕ → List ℕ → ℕ → Result → Option Parsed
joined_of known first last top no-rule = None
joined_of known first last top (ok t m) = parsed m (top + length (first ++ (flat t ++ last))) (known (facts_of t))

-- The word at position j joins a D to an F, which is read; `before` has the D's records up to `top`.
pub record ParsesJoined (known : Facts → Facts) (first last : List ℕ) (ws : List ℕ) (j : ℕ) (before : List ℕ) (top : ℕ)
    (r : Option Parsed) (after : List ℕ) : Type 0 where
  pub result : r ≡ joined_of known first last top (read ws (go_f false) (j + 1))
  pub filled : (t : Tree) (m : ℕ) → read ws (go_f false) (j + 1) ≡ ok t m →
      after ≡ sets before top (first ++ (flat t ++ last))

-- The word is `then`, or `chop`; the D's facts are a.
abbrev pub ParsesThen : Facts → List ℕ → ℕ → List ℕ → ℕ → Option Parsed → List ℕ → Type 0
ParsesThen a = ParsesJoined (then_facts a) (row Arena.LEAD-END 0 0 0) (row Arena.THEN 0 0 0)

abbrev pub ParsesChop : Facts → List ℕ → ℕ → List ℕ → ℕ → Option Parsed → List ℕ → Type 0
ParsesChop a = ParsesJoined (chop_facts a) [] (row Arena.CHOP 0 0 0)

-- What a parse function is lent: few words, a position among them, and room for a record a word.
pub record Room (ws : List ℕ) (i : ℕ) (arena : List ℕ) (top : ℕ) : Type 0 where
  pub few : length ws ≤ word_limit
  pub within : i ≤ length ws
  pub fits : top + 4 * (length ws - i) ≤ length arena

-- The same where the word at the position is known.
pub record Begun (w : ℕ) (ws : List ℕ) (i : ℕ) (arena : List ℕ) (top : ℕ) : Type 0 where
  pub room : Room ws i arena top
  pub first : word ws i ≡ w

-- The same for a P between two words, of which the first is not 0, the word past the end.
pub record Opening (before : ℕ) (ws : List ℕ) (i : ℕ) (arena : List ℕ) (top : ℕ) : Type 0 where
  pub room : Room ws i arena top
  pub opens : 0 < before

-- One record stored at `top`.
pub record Pushed (before : List ℕ) (top k a b c : ℕ) (r : ℕ) (after : List ℕ) : Type 0 where
  pub end : r ≡ top + 4
  pub filled : after ≡ sets before top (row k a b c)

-- What `reads` has at position i is read.
pub record ParsesBy (reads : List ℕ → ℕ → Result) (ws : List ℕ) (i : ℕ) (before : List ℕ) (top : ℕ) (r : Option Parsed)
    (after : List ℕ) : Type 0 where
  pub result : r ≡ parsed_of (reads ws i) top
  pub filled : (t : Tree) (j : ℕ) → reads ws i ≡ ok t j → after ≡ sets before top (flat t)

-- A velocity test at position i.
abbrev pub ParsesVelocity : List ℕ → ℕ → List ℕ → ℕ → Option Parsed → List ℕ → Type 0
ParsesVelocity = ParsesBy velocity_at

-- `0`, `1`, a signal or a velocity test at position i.
abbrev pub ParsesLeaf : List ℕ → ℕ → List ℕ → ℕ → Option Parsed → List ℕ → Type 0
ParsesLeaf = ParsesBy leaf_at

-- The record of kind k that ends with the comparison o and the number n.
abbrev pub comparison_record : ℕ → Op → Num → List ℕ
comparison_record k o n = row k (op_number o) (num_kind n) (num_value n)

-- A comparison and n at position j as the end of an atom's record of kind k; lead says whether a comparison that a lead
-- may have (SPEC 3.9) makes the atom one.
pub record ParsesComparison (ws : List ℕ) (j : ℕ) (before : List ℕ) (top k : ℕ) (lead : Bool) (r : Option Parsed)
    (after : List ℕ) : Type 0 where
  pub result : r ≡ cond (comparison_at ws j)
      (parsed (j + 2) (top + 4) (atom_facts (lead && upper (op_word (word ws j))))) None
  pub filled : comparison_at ws j ≡ true →
      after ≡ sets before top (comparison_record k (op_word (word ws j)) (num_word (word ws (j + 1))))
