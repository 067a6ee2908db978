-- What the contracts of the pass say. `Emitted` is the one that other crates cite. Definitions only.
use Rattle.std.specs.Prelude.{List, ◌≡◌, ℕ, ◌+◌, ◌*◌, ◌≤◌, ◌<◌, length}
use Rattle.std.proofs.lemmas.List.Edits.{sets}
use Rattle.formulas.specs.Formula.{Formula}
use Rattle.formulas.specs.Arena.{flat}
use Rattle.formulas.specs.Raw.{raw}
use Rattle.limits.specs.Limits.{arena_limit, equation_limit, record_limit, signal_count}
use Rattle.scheme.specs.Emit.{place_after, header_count, observer, numbers_of}
use Rattle.scheme.specs.Scheme.{widest}
use Rattle.emitter.specs.Machine.{stack_size, State, state, with_equations, step, ran, header_of, headed, tests_in}
use Rattle.emitter.specs.declared.Place.{Place}
use Rattle.emitter.specs.declared.Record.{Record}
use Rattle.tables.specs.declared.Equation.{Equation}

-- The records of the formula f gave its observer: r equations, from the front of the table on. A number past the
-- table's end is dropped, and every number of the table after the equations is kept.
pub record Emitted (arena t t' : List ℕ) (r : ℕ) : Type 0 where
  pub many : (f : Formula) → arena ≡ flat (raw f) → r ≡ length (observer f)
  pub written : (f : Formula) → arena ≡ flat (raw f) → t' ≡ sets t 0 (numbers_of (observer f))
  -- SPEC 5.6: as many as a table can have, of any records.
  pub few : r ≤ equation_limit

-- ---- inside the pass

-- There is room for one more node.
pub record PassRoom (m : Place) (stack : List ℕ) : Type 0 where
  pub near : m.next ≤ equation_limit
  pub tested : m.tests ≤ equation_limit
  pub low : length stack < stack_size

-- Where the pass stands, as the machine's state.
abbrev pub state_of : List ℕ → List ℕ → Place → State
state_of t stack m = state t m.next m.tests m.negated stack

-- One record was entered.
pub record Entered (places : List ℕ) (x : Record) (t stack : List ℕ) (m : Place) (t' stack' : List ℕ) (m' : Place)
    : Type 0 where
  pub stands : state_of t' stack' m' ≡ step places x (state_of t stack m)
  pub near : m'.next ≤ m.next + widest
  pub tested : m'.tests ≤ m.tests + 1
  pub low : length stack' ≤ length stack + 1

-- The records are few, and so are the equations before theirs, which end at o: the tests stand from u on.
pub record Begun (arena : List ℕ) (u o : ℕ) : Type 0 where
  pub short : length arena ≤ arena_limit
  pub tested : u ≤ header_count + signal_count
  pub near : o ≤ header_count + signal_count + record_limit

-- All records were entered, and the whole rule's node after them.
pub record Ran (arena places t : List ℕ) (u o : ℕ) (t' : List ℕ) (r : ℕ) : Type 0 where
  pub table : t' ≡ (ran arena places t u o).table
  pub many : r ≡ (ran arena places t u o).next
  pub few : 4 * r ≤ 4 * o + widest * (length arena + 4)

-- The header's equations are in the table, and the marks gave way to the signals' places.
pub record Headed (t named t' named' : List ℕ) (r : ℕ) : Type 0 where
  pub stands : header_of t' named' r ≡ headed t named
  pub few : r ≤ header_count + signal_count

-- The equations es are in the table from place o on, and r is the place after them.
pub record Put (es : List Equation) (t : List ℕ) (o : ℕ) (t' : List ℕ) (r : ℕ) : Type 0 where
  pub table : t' ≡ with_equations t o es
  pub next : r ≡ place_after o es

-- So are the tests of all records, one for each at most.
pub record Tested (arena t : List ℕ) (o : ℕ) (t' : List ℕ) (r : ℕ) : Type 0 where
  pub put : Put (tests_in arena) t o t' r
  pub few : 4 * r ≤ 4 * o + length arena
