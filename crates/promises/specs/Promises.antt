-- What towerwatch promises, from the top. Each operation's contract says that what it was given, what it answers and
-- what it leaves stand in one of the relations named below; the records say what is proved of these relations. What is
-- named here and the files that this one builds on have no parser of the grammar in them (words and the lines of cards
-- are read by short definitions on their bytes), no choice of equations but for the three that close a compiled table
-- (SPEC 12.7) and how many are memories (SPEC 12.8), and nothing that only inner functions of the code compute.
-- Definitions only; proofs/Kept.antt proves all of it.
--
--   read_rule      Told           rules/specs/Contract.antt         a text and the answer
--   same_rule      SameAnswer     rules/specs/Same.antt             two texts with their parameters, and the answer
--   compile_rule   Compiles       observers/specs/Demand.antt       a text, the answer, the table before and after
--   fresh_state    freshened      flows/specs/Step.antt             all of it as one equation
--   step           stepped        flows/specs/Step.antt             all of it as one equation
--   pack           PackAnswer     packing/specs/Laws.antt           a table, the answer, the second before and after
--   write_lustre   write_effect    lustre/specs/Write.antt           all of it as one equation
--   read_lustre    AfterRead      lustre/specs/Read.antt            a text, the answer, the table before and after
--   towerwatch     Shows          player/specs/Shows.antt           a card and what is printed
use Rattle.std.specs.Prelude.{true, List, [], ◌∷◌, ◌++◌, map, ◌↔◌, ◌⊎◌, ◌≡◌, ℕ, ◌+◌, ◌*◌, ◌≤◌, ◌<◌, length, take, drop}
use Rattle.std.specs.Prelude.{Ok, Err}
use Rattle.std.proofs.Math.Option.{some}
use Rattle.limits.specs.Limits.{standard_cap, literal_count, parameter_count, table_room, rule_equations}
use Rattle.limits.specs.Refusal.{number}
use Rattle.limits.specs.declared.Context.{Context}
use Rattle.limits.specs.declared.Refusal.{Refusal}
use Rattle.limits.specs.declared.Refusal.TheVariants.{ShortTable}
use Rattle.traces.specs.Trace.{Trace, parameter_at}
use Rattle.traces.specs.Parameters.{run_with}
use Rattle.traces.specs.Compare.{op_of, compares, Compared}
use Rattle.traces.specs.declared.Op.TheVariants.{AtMost, Below, Equal, Above, AtLeast}
use Rattle.traces.specs.declared.Tick.{Tick}
use Rattle.formulas.specs.Formula.{Formula, Prop}
use Rattle.formulas.specs.Tree.{Tree, formula_of}
use Rattle.formulas.specs.Meaning.{at, meaning, verdict}
use Rattle.formulas.specs.Names.{names_parameter}
use Rattle.formulas.specs.Laws.{Means}
use Rattle.words.specs.Word.{PARAMETER}
use Rattle.grammar.specs.Fragment.{has_word}
use Rattle.rules.specs.Reading.{Admitted, Outcome, HasOutcome}
use Rattle.rules.specs.Reading.Outcome.{rule, refused}
use Rattle.rules.specs.Contract.{Read, Told}
use Rattle.rules.specs.Same.{Within, Same, SameValues, SameAnswer, SameRule}
use Rattle.tables.specs.Table.{kind_of, checked}
use Rattle.tables.specs.declared.Equation.{Equation}
use Rattle.flows.specs.Flow.{value_of}
use Rattle.flows.specs.Lustre.{RunsAsLustre}
use Rattle.flows.specs.Run.{Call, call_with, from_fresh, answered}
use Rattle.agreement.specs.Agreement.{Closing, ExactMemories, FewMemories, Observes}
use Rattle.observers.specs.Demand.{Compiled, Compiles}
use Rattle.packing.specs.Laws.{Packs, Packed, PackAnswer}
use Rattle.lustre.specs.Write.{after_write, write_effect}
use Rattle.lustre.specs.Read.{Loaded, AfterRead}
use Rattle.player.specs.Shows.{Shows}

-- SPEC 12.2 (demand 2), its part on texts: which of them are rules, and that each of these has one tree. It holds in
-- every context.
pub record Reading (context : Context) : Type 0 where
  -- The first by the form of `HasOutcome`; that reading has this outcome and no other is `one-outcome`.
  pub exactly : (text : List ℕ) (t : Tree) → HasOutcome context text (rule t) ↔ Admitted context text t
  -- SPEC 12.1 (demand 1): every text is a rule or has a refusal, and one of them.
  pub some-outcome : (text : List ℕ) → (x : Outcome) × HasOutcome context text x
  pub one-outcome : (text : List ℕ) (x y : Outcome) → HasOutcome context text x → HasOutcome context text y → x ≡ y
  -- A refusal is 1 to 8, so that 0 can stand for none.
  pub numbered : (text : List ℕ) (k : Refusal) → HasOutcome context text (refused k)
      → (1 ≤ number k) × (number k ≤ 8)
  -- What is read has a formula, and so a meaning.
  pub formula : (text : List ℕ) (t : Tree) → HasOutcome context text (rule t) → (f : Formula) × (formula_of t ≡ some f)
  -- SPEC 3.11: its tree names the parameters whose words (SPEC 2.6) stand in the text, and no others.
  pub names : (text : List ℕ) (t : Tree) (a : Admitted context text t) (j : ℕ) → j < parameter_count
      → names_parameter t j ≡ has_word (PARAMETER + j) a.ws
  -- The contract of reading settles the answer (SPEC 12.4).
  pub one_answer : (text : List ℕ) (r r' : Read) → Told context text r → Told context text r' → r ≡ r'

-- The interval meaning has the clauses SPEC 4.1 to SPEC 4.11, each as a law, and what has these laws is the meaning.
pub record Meaning (trace : Trace) : Type 1 where
  pub clauses : Means trace (λ p i. at trace p i ≡ true) (λ f b e. meaning trace f b e ≡ true) (verdict trace)
  pub only : (At : Prop → ℕ → Type 0) (On : Formula → ℕ → ℕ → Type 0) (v : Formula → ℕ → ℕ) → Means trace At On v
      → (f : Formula) (e : ℕ) → v f e ≡ verdict trace f e

-- SPEC 5.3: v is 1 exactly where P holds, and 0 exactly where it does not.
abbrev pub Whether : Type 0 → ℕ → Type 0
Whether P v = ((v ≡ 1) ↔ P) × ((v ≡ 0) ↔ (¬ P))

-- SPEC 1.3: what each comparison says of two whole numbers, and so of any two of 32 bits; which comparison each number
-- stands for. `traces::holds`, the one place in the code that compares by operator, answers by `compares`, and
-- `traces::op_of` by `op_of`.
pub record Comparing : Type 0 where
  pub at_most : (x y : ℕ) → (compares AtMost x y ≡ true) ↔ (x ≤ y)
  pub below : (x y : ℕ) → (compares Below x y ≡ true) ↔ (x < y)
  pub equal : (x y : ℕ) → (compares Equal x y ≡ true) ↔ (x ≡ y)
  pub above : (x y : ℕ) → (compares Above x y ≡ true) ↔ (y < x)
  pub at_least : (x y : ℕ) → (compares AtLeast x y ≡ true) ↔ (y ≤ x)
  pub numbers : map op_of (0 ∷ 1 ∷ 2 ∷ 3 ∷ 4 ∷ []) ≡ AtMost ∷ Below ∷ Equal ∷ Above ∷ AtLeast ∷ []
  pub beyond : (k : ℕ) → 4 < k → op_of k ≡ AtLeast
  -- SPEC 5.3: an equation of kind 10 says whether its count compares so with the literal, one of kind 11 whether it
  -- does with the parameter's value.
  pub literal : (cap : ℕ) (k : Tick) (flow : ℕ → ℕ) (cell : ℕ) (e : Equation)
      → Whether (Compared (op_of e.b) (flow e.a) e.c) (value_of cap k flow cell (kind_of 10) e)
  pub parameter : (cap : ℕ) (k : Tick) (flow : ℕ → ℕ) (cell : ℕ) (e : Equation)
      → Whether (Compared (op_of e.b) (flow e.a) (parameter_at k e.c))
      (value_of cap k flow cell (kind_of 11) e)
  -- One of kind 12 says whether the tick's velocity compares so with the literal.
  pub velocity : (cap : ℕ) (k : Tick) (flow : ℕ → ℕ) (cell : ℕ) (e : Equation)
      → Whether (Compared (op_of e.a) k.velocity e.b) (value_of cap k flow cell (kind_of 12) e)

-- SPEC 12.2 (demand 2), its part on runs of a table: SPEC 6.4, with counts up to the cap (SPEC 5.2).
abbrev pub Running : ℕ → Type 0
Running velocities =
    (t : List ℕ) (n : ℕ) → checked velocities t n ≡ Ok tt → RunsAsLustre standard_cap velocities t n

-- SPEC 12.3 (demand 3). A text with a refusal gets that, a rule with too short a table 9 (SPEC 7.9), and both leave the
-- table as it was. A rule is compiled where there is room, and then the n equations at the front of the table, whatever
-- stands after them, observe its formula, and exactly so many of them are memories as SPEC 12.8 says of the tree, so
-- that the bound of SPEC 12.3 holds. No rule has more equations than SPEC 12.6 says, and the last three are those of
-- SPEC 12.7.
pub record Compiling (context : Context) : Type 0 where
  pub refuses : {text before after : List ℕ} {r : Compiled} {k : Refusal} → Compiles context text before r after
      → HasOutcome context text (refused k) → (r ≡ Err k) × (after ≡ before)
  pub no_room : {text before after : List ℕ} {r : Compiled} {t : Tree} → Compiles context text before r after
      → HasOutcome context text (rule t) → length before < table_room → (r ≡ Err ShortTable) × (after ≡ before)
  pub compiles : {text before after : List ℕ} {r : Compiled} {t : Tree} → Compiles context text before r after
      → HasOutcome context text (rule t) → table_room ≤ length before → (n : ℕ) × (r ≡ Ok n)
  pub few : {text before after : List ℕ} {n : ℕ} → Compiles context text before (Ok n) after → n ≤ rule_equations
  pub closes : {text before after : List ℕ} {n : ℕ} → Compiles context text before (Ok n) after → Closing after n
  pub exact-memories : {text before after : List ℕ} {n : ℕ} {t : Tree}
      → Compiles context text before (Ok n) after → HasOutcome context text (rule t)
      → (rest : List ℕ) → ExactMemories (take (4 * n) after ++ rest) n t
  pub few-memories : {text before after : List ℕ} {n : ℕ} {t : Tree} → Compiles context text before (Ok n) after
      → HasOutcome context text (rule t) → (rest : List ℕ) → FewMemories (take (4 * n) after ++ rest) n t
  pub observes : {text before after : List ℕ} {n : ℕ} {t : Tree} {f : Formula}
      → Compiles context text before (Ok n) after → HasOutcome context text (rule t) → formula_of t ≡ some f
      → (rest : List ℕ) → Observes standard_cap context.velocities (take (4 * n) after ++ rest) n f

-- SPEC 8.3: comparing two texts, each with its parameters.
pub record SameRules (context : Context) : Type 0 where
  -- SPEC 12.1 (demand 1): any two have an answer, and one (SPEC 12.4).
  pub some-answer : (a ps b qs : List ℕ) → (r : Same) × SameAnswer context a ps b qs r
  pub one_answer : (a ps b qs : List ℕ) (r r' : Same) → SameAnswer context a ps b qs r → SameAnswer context a ps b qs r'
      → r ≡ r'
  -- A refusal is 1 to 8, or 13, so that 0 can stand for none.
  pub numbered : (a ps b qs : List ℕ) (k : Refusal) → SameAnswer context a ps b qs (Err k)
      → ((1 ≤ number k) × (number k ≤ 8)) ⊎ (number k ≡ 13)
  -- It is yes exactly if both are rules with one tree, the parameters are admitted, and those that the tree names have
  -- the same values.
  pub exactly : (a ps b qs : List ℕ)
      → SameRule context a ps b qs
      ↔ ((t : Tree) × HasOutcome context a (rule t) × HasOutcome context b (rule t) × Within ps × Within qs
      × SameValues t ps qs)
  -- To be the same rule is an equivalence on rules with admitted parameters.
  pub reflexive : (a ps : List ℕ) (t : Tree) → HasOutcome context a (rule t) → Within ps → SameRule context a ps a ps
  pub symmetric : (a ps b qs : List ℕ) → SameRule context a ps b qs → SameRule context b qs a ps
  pub transitive : (a ps b qs c rs : List ℕ) → SameRule context a ps b qs → SameRule context b qs c rs
      → SameRule context a ps c rs
  -- At every tick of every trace both have the same verdict, each with its own parameters.
  pub same-verdict : (a ps b qs : List ℕ) → SameRule context a ps b qs → (t u : Tree) → HasOutcome context a (rule t)
      → HasOutcome context b (rule u) → (f g : Formula) → formula_of t ≡ some f → formula_of u ≡ some g
      → (trace : Trace) (e : ℕ) → verdict (run_with ps trace) f e ≡ verdict (run_with qs trace) g e
  -- Two tables of as many equations, compiled of the one and of the other: over every list of calls from the fresh
  -- state, refused ones (by 12 or 19) included, the steps answer the same, each side with its own parameters. That
  -- `compile_rule` leaves the same equations of both is `same_tables` (observers, proofs/SameRule.antt).
  pub same-answers : {a ps b qs before before' t u : List ℕ} {n : ℕ} → SameRule context a ps b qs
      → Compiles context a before (Ok n) t → Compiles context b before' (Ok n) u
      → (rest rest' old old' : List ℕ) → n ≤ length old → n ≤ length old' → (calls : List Call)
      → let velocities = context.velocities in
      answered (from_fresh standard_cap velocities (take (4 * n) t ++ rest) n old (map (call_with ps) calls))
      ≡ answered (from_fresh standard_cap velocities (take (4 * n) u ++ rest') n old' (map (call_with qs) calls))

-- SPEC 16.1 (packing). A table with a refusal of 10 or 11 gets that, one that passes with too short a second table 9
-- (SPEC 7.9), and both leave the second table as it was. Else the n' equations at the front of the second table,
-- whatever stands after them, are the given table's, packed.
pub record Packing (velocities : ℕ) : Type 0 where
  pub refuses : {t before after : List ℕ} {n : ℕ} {k : Refusal} {r : Packed} → PackAnswer velocities t n before r after
      → checked velocities t n ≡ Err k → (r ≡ Err k) × (after ≡ before)
  pub no_room : {t before after : List ℕ} {n : ℕ} {r : Packed} → PackAnswer velocities t n before r after
      → checked velocities t n ≡ Ok tt → length before < table_room → (r ≡ Err ShortTable) × (after ≡ before)
  pub serves : {t before after : List ℕ} {n : ℕ} {r : Packed} → PackAnswer velocities t n before r after
      → checked velocities t n ≡ Ok tt → table_room ≤ length before → (n' : ℕ) × (r ≡ Ok n')
  pub packs : {t before after : List ℕ} {n n' : ℕ} → PackAnswer velocities t n before (Ok n') after
      → (rest : List ℕ) → Packs t n (take (4 * n') after ++ rest) n'
  -- The contract settles the answer and the second table (SPEC 12.4), so there is one packed table of a table
  -- (SPEC 16.4),
  pub one_answer : {t before after after' : List ℕ} {n : ℕ} {r r' : Packed}
      → PackAnswer velocities t n before r after → PackAnswer velocities t n before r' after'
      → (r ≡ r') × (after ≡ after')
  -- whatever stands behind the given table's numbers (SPEC 5.6) and in the second table, where both are packed,
  pub behind : {t s before after before' after' : List ℕ} {n n' n'' : ℕ} → take (4 * n) t ≡ take (4 * n) s
      → PackAnswer velocities t n before (Ok n') after
      → PackAnswer velocities s n before' (Ok n'') after'
      → (n' ≡ n'') × (take (4 * n') after ≡ take (4 * n'') after')
  -- and packing the packed table gives it again.
  pub twice : {t before after before' after' : List ℕ} {n n' : ℕ} {r : Packed}
      → PackAnswer velocities t n before (Ok n') after → (rest : List ℕ) → table_room ≤ length before'
      → PackAnswer velocities (take (4 * n') after ++ rest) n' before' r after'
      → (r ≡ Ok n') × (after' ≡ take (4 * n') after ++ drop (4 * n') before')

-- SPEC 12.2 (demand 2), its part on Lustre text: writing and reading undo each other.
pub record RoundTrips (velocities : ℕ) : Type 0 where
  pub table : (t : List ℕ) (n l : ℕ) (buffer before after : List ℕ) (r : Loaded)
      → (write_effect velocities t n buffer).answer ≡ Ok l → table_room ≤ length before
      → AfterRead velocities (take l (write_effect velocities t n buffer).buffer) before r after
      → (r ≡ Ok n) × (after ≡ take (4 * n) t ++ drop (4 * n) before)
  pub text : (text before after buffer : List ℕ) (n : ℕ) → AfterRead velocities text before (Ok n) after
      → length text ≤ length buffer
      → write_effect velocities after n buffer ≡ after_write (Ok (length text)) (text ++ drop (length text) buffer)
  -- The contract of reading settles the answer and the table (SPEC 12.4).
  pub one_answer : (text before after after' : List ℕ) (r r' : Loaded) → AfterRead velocities text before r after
      → AfterRead velocities text before r' after' → (r ≡ r') × (after ≡ after')

-- Cards (SPEC 11.1): every card shows something, and one thing.
pub record Cards : Type 0 where
  pub some-output : (card : List ℕ) → (out : List ℕ) × Shows card out
  pub one-output : (card out out' : List ℕ) → Shows card out → Shows card out' → out ≡ out'

-- All of it. SPEC 12.1 (demand 1): that each call gets its result or its first refusal, and with a refusal keeps what
-- it was lent, is in the relations named above; that they settle the answer, in the parts here that say that it is one.
-- The operations have `velocity_count` velocities, and what is proved of them holds for other numbers too; cards are
-- the program's, in the context of the specification.
pub record Promises : Type 1 where
  pub reading : (context : Context) → Reading context
  pub meaning : (trace : Trace) → Meaning trace
  pub comparing : Comparing
  pub running : (velocities : ℕ) → Running velocities
  pub compiling : (context : Context) → Compiling context
  pub same-rules : (context : Context) → SameRules context
  pub packing : (velocities : ℕ) → Packing velocities
  pub round-trips : (velocities : ℕ) → velocities ≤ literal_count → RoundTrips velocities
  pub cards : Cards
