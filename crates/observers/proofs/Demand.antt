-- SPEC 12.3 (demand 3) from the text's bytes to the verdicts: the observer of a rule that is read observes its formula.
-- Assumes nothing.
use mathlib.Core.Bool.{Bool, true, cond}
use mathlib.Core.List.{List, ◌++◌}
use mathlib.Core.Option.{Option, some}
use mathlib.Core.Path.{◌≡◌, refl, sym, ap, ap₂, ◌∙◌, subst, subst₂}
use Prim.Native.Nat.{ℕ, ◌*◌, ◌≤◌, ◌<◌}
use native.Mathlib.Omega.{arith}
use lib.ListN.{length, take, drop}
use lib.Seq.{sets, length-sets, take_at, drop_at}
use borrow.Author.Tests.{lt-ltb, le-ltb}
use Rattle.words.specs.Contract.{Ranged}
use Rattle.words.proofs.Bounds.{words-few}
use Rattle.formulas.specs.Formula.{Formula}
use Rattle.formulas.specs.Tree.{Tree, leads, formula_of}
use Rattle.formulas.specs.Arena.{flat}
use Rattle.formulas.specs.Bounds.{bounded}
use Rattle.formulas.specs.Raw.{raw}
use Rattle.formulas.proofs.Formulas.{formula-raw}
use Rattle.grammar.proofs.Theorems.{rule-size}
use Rattle.limits.specs.Limits.{arena_limit, literal_count, standard_cap, table_room, rule_equations}
use Rattle.limits.specs.declared.Context.{Context}
use Rattle.limits.specs.declared.Refusal.{Refusal}
use Rattle.scheme.specs.Emit.{observer, numbers_of}
use Rattle.agreement.specs.Agreement.{Closing, ExactMemories, Observes}
use Rattle.agreement.proofs.Theorem.{observes, closing}
use Rattle.emitter.specs.Contract.{Emitted}
use Rattle.scheme.proofs.Memories.{memories-exactly}
use Rattle.scheme.proofs.Sizes.{observer-size}
use Rattle.emitter.proofs.Size.{observer-front}
use Rattle.scheme.proofs.Places.{length-numbers}
use Rattle.rules.specs.Reading.{Outcome, HasOutcome}
use Rattle.rules.specs.Reading.Outcome.{refused, rule}
use Rattle.rules.specs.Computed.{rule_of}
use Rattle.rules.proofs.Theorems.{has-outcome, accepted, has-formula, has-bounds}
use Rattle.observers.specs.Compile.{after_compile, compiled, of_outcome, observer_of, stored}
use Rattle.observers.specs.Demand.{Compiles}
use Rattle.observers.specs.Demand.Compiles.{observed}
use Rattle.observers.proofs.Widest.{rule-equations}
use Rattle.std.specs.Prelude.{Ok, Err}
use Rattle.limits.specs.declared.Refusal.TheVariants.{ShortTable}
use Rattle.tables.specs.declared.Equation.{Equation}

-- What is known of a rule that is read: its formula, and what the observer theorem asks of it.
pub record Known (context : Context) (t : Tree) : Type 0 where
  pub formula : Formula
  pub is : formula_of t ≡ some formula
  pub tree : t ≡ raw formula
  pub led : leads t ≡ true
  pub bound : bounded literal_count context.velocities t ≡ true
  pub small : length (flat t) ≤ arena_limit

pub known : (context : Context) → Ranged context → (text : List ℕ) (t : Tree) → rule_of context text ≡ rule t
    → Known context t
known context ranged text t e =
    let a = (accepted context text t).0 e in
    let f = has-formula context text t e in
    let few = words-few context text a.ws a.words in
    record {
      formula = f.0;
      is = f.1;
      tree = formula-raw t f.0 f.1;
      led = a.lead;
      bound = has-bounds context ranged text t e;
      small = omega (arith, rule-size a.ws t a.grammar);
    }

module _ {context : Context} {t : Tree} (k : Known context t) where
  led-raw : leads (raw k.formula) ≡ true
  led-raw = subst (λ (u : Tree). leads u ≡ true) k.tree k.led

  bound-raw : bounded literal_count context.velocities (raw k.formula) ≡ true
  bound-raw = subst (λ (u : Tree). bounded literal_count context.velocities u ≡ true) k.tree k.bound

  pub small-raw : length (flat (raw k.formula)) ≤ arena_limit
  small-raw = subst (λ (u : Tree). length (flat u) ≤ arena_limit) k.tree k.small

  -- Whatever stands after them, the observer's equations observe the formula.
  pub observes-rule : (junk : List ℕ)
      → Observes standard_cap context.velocities (numbers_of (observer k.formula) ++ junk)
      (length (observer k.formula)) k.formula
  observes-rule junk =
      observes standard_cap context.velocities (omega arith) k.formula led-raw bound-raw small-raw junk

  -- So they close.
  pub closes-rule : (junk : List ℕ)
      → Closing (numbers_of (observer k.formula) ++ junk) (length (observer k.formula))
  closes-rule junk = closing standard_cap context.velocities (omega arith) k.formula bound-raw junk

  -- So many of them are memories.
  pub remembers-rule : (junk : List ℕ)
      → ExactMemories (numbers_of (observer k.formula) ++ junk) (length (observer k.formula)) t
  remembers-rule junk =
      let f = k.formula in
      subst (λ (u : Tree). ExactMemories (numbers_of (observer f) ++ junk) (length (observer f)) u) (sym k.tree)
      (memories-exactly f junk)

-- ---- the effect of compiling

-- The outcome that is computed is the text's.
pub has-rule : {context : Context} {text : List ℕ} {x : Outcome} → rule_of context text ≡ x → HasOutcome context text x
has-rule {context} {text} e = subst (HasOutcome context text) e (has-outcome context text)

module _ (context : Context) (text before : List ℕ) where
  -- A text that is refused.
  pub refused-compiled : {r : Refusal} → rule_of context text ≡ refused r
      → after_compile (Err r) before ≡ compiled context text before
  unfolding compiled
  refused-compiled e = sym (ap (λ (o : Outcome). of_outcome o before) e)

  module _ (t : Tree) (e : rule_of context text ≡ rule t) where
    -- Too short a table.
    pub short-compiled : length before < table_room
        → after_compile (Err ShortTable) before ≡ compiled context text before
    unfolding compiled
    short-compiled h =
        sym (ap (λ (o : Outcome). of_outcome o before) e
        ∙ ap (λ (b : Bool). cond b (after_compile (Err ShortTable) before) (stored (observer_of (formula_of t)) before))
        (lt-ltb _ _ h))

    -- Long enough a table, with the observer es of the formula f at its front.
    module _ (f : Formula) (is : formula_of t ≡ some f) (room : table_room ≤ length before) where
      pub room-compiled : (es : List Equation) → observer f ≡ es → stored es before ≡ compiled context text before
      unfolding compiled
      room-compiled es same =
          ap (λ (x : List Equation). stored x before) (sym same)
          ∙ sym (ap (λ (o : Outcome). of_outcome o before) e
          ∙ ap (λ (b : Bool). cond b (after_compile (Err ShortTable) before)
          (stored (observer_of (formula_of t)) before)) (le-ltb _ _ room)
          ∙ ap (λ (x : Option Formula). stored (observer_of x) before) is)

      pub room-compiles : (es : List Equation) → length es ≤ rule_equations
          → sets before 0 (numbers_of es) ≡ numbers_of es ++ drop (4 * length es) before
          → ((rest : List ℕ) → Observes standard_cap context.velocities (numbers_of es ++ rest) (length es) f)
          → ((rest : List ℕ) → ExactMemories (numbers_of es ++ rest) (length es) t)
          → ((rest : List ℕ) → Closing (numbers_of es ++ rest) (length es))
          → Compiles context text before (Ok (length es)) (sets before 0 (numbers_of es))
      room-compiles es few front h exact ends =
          let size = 4 * length es in
          let others = drop size before in
          let taken : take size (sets before 0 (numbers_of es)) ≡ numbers_of es =
          ap (take size) front ∙ take_at (numbers_of es) others size (length-numbers es) in
          observed {n = length es} {after = sets before 0 (numbers_of es)} {t = t} {f = f} (has-rule e) is room
          (omega arith) (length-sets before 0 (numbers_of es))
          (ap (drop size) front ∙ drop_at (numbers_of es) others size (length-numbers es))
          (λ rest. subst (λ (l : List ℕ). Observes standard_cap context.velocities (l ++ rest) (length es) f)
          (sym taken) (h rest))
          (λ rest. subst (λ (l : List ℕ). ExactMemories (l ++ rest) (length es) t) (sym taken) (exact rest))
          (subst (λ (l : List ℕ). Closing l (length es)) (sym front) (ends others))

-- What the pass over the tree's records left is what compiling is to leave.
pub emitted-rule : (context : Context) → Ranged context → (text before : List ℕ) (t : Tree)
    → rule_of context text ≡ rule t → table_room ≤ length before
    → (arena : List ℕ) (r : ℕ) (after : List ℕ) → arena ≡ flat t → Emitted arena before after r
    → (after_compile (Ok r) after ≡ compiled context text before)
    × Compiles context text before (Ok r) after
emitted-rule context ranged text before t e room arena r after same h =
    let k = known context ranged text t e in
    let f = k.formula in
    let records : arena ≡ flat (raw f) = same ∙ ap flat k.tree in
    let many = h.many f records in
    let written = h.written f records in (
      ap₂ (λ (n : ℕ) (l : List ℕ). after_compile (Ok n) l) many written
          ∙ room-compiled context text before t e f k.is room (observer f) refl,
      subst₂ (λ (n : ℕ) (l : List ℕ). Compiles context text before (Ok n) l) (sym many) (sym written)
          (room-compiles context text before t e f k.is room (observer f)
          (rule-equations context text t f ((accepted context text t).0 e) k.is)
          (observer-front f before (observer-size f (small-raw k)) room)
          (observes-rule k) (remembers-rule k) (closes-rule k)),
    )
