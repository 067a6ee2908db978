-- What the tick lines of a card print: the verdicts of its rule's interval meaning, a line for each tick, and then what
-- the card's end has. A text that is a rule compiles to a table that observes its formula. Assumes nothing.
use mathlib.Core.Path.{◌≡◌, refl, ◌∙◌, sym, ap, subst}
use mathlib.Core.Bool.{Bool, true, false, cond, ◌||◌}
use mathlib.Core.List.{List, [], ◌∷◌, ◌++◌, append_assoc}
use mathlib.Core.Option.{some}
use Prim.Native.Nat.{ℕ, suc, ◌+◌, ◌-◌, ◌*◌, ◌≤◌, ◌<◌}
use native.Mathlib.Omega.{arith}
use lib.Dec.{ltb, eqb}
use lib.ListN.{length, get_or, drop, length-append}
use lib.Seq.{sets}
use borrow.Author.Tests.{le-leb, lt-ltb, ltb-false}
use Rattle.traces.specs.declared.Tick.{Tick}
use Rattle.words.specs.Split.{Out, split_of}
use Rattle.words.proofs.Splitting.{refused-made}
use Rattle.words.specs.Contract.{Ranged}
use Rattle.words.specs.Split.Out.{made}
use Rattle.formulas.specs.Formula.{Formula}
use Rattle.formulas.specs.Meaning.{verdict}
use Rattle.formulas.specs.Tree.{Tree, formula_of}
use Rattle.limits.specs.Limits.{parameter_count, standard_cap, text_limit, equation_limit, table_room}
use Rattle.limits.specs.declared.Context.{Context}
use Rattle.flows.specs.Step.{Stepped, AfterStep, freshened, stepped, step_checked, stepped_if, after_tick as tick_after}
use Rattle.flows.specs.Run.{Call, steps, answered, call_checked}
use Rattle.flows.proofs.Expected.{admitted as admitted_ticks, expected}
use Rattle.tables.specs.Table.{Checked}
use Rattle.tables.proofs.Tests.{all_of}
use Rattle.flows.proofs.Buffers.{length-flows}
use Rattle.scheme.specs.Emit.{observer, numbers_of}
use Rattle.agreement.proofs.Answers.{answers-are}
use Rattle.agreement.specs.Agreement.{Observes, SameParameters, trace_of_ticks}
use Rattle.agreement.specs.Agreement.SameParameters.{none as same_None, more as same_more}
use Rattle.scheme.proofs.Sizes.{observer-size}
use Rattle.emitter.proofs.Size.{observer-front}
use Rattle.rules.specs.Computed.{rule_of}
use Rattle.rules.specs.Reading.Outcome.{rule}
use Rattle.rules.proofs.Theorems.{accepted}
use Rattle.observers.specs.Compile.{after_compile, compiled}
use Rattle.observers.proofs.Demand.{Known, known, small-raw, observes-rule, room-compiled}
use Rattle.cards.proofs.Ticks.{ticked}
use Rattle.cards.specs.Says.{stage_at}
use Rattle.cards.specs.declared.Phase.TheVariants as P
use Rattle.traces.specs.Trace.{tick_of}
use Rattle.traces.specs.Parameters.{parameter_fits, parameters_fit}
use Rattle.player.specs.Card.{world_in, watch_of, Effect, owed}
use Rattle.player.specs.Output.{output_bytes}
use Rattle.player.specs.Shows.{TickLines, Closes, verdict_lines}
use Rattle.player.specs.Shows.TickLines.{none as no_lines, more as more-lines}
use Rattle.player.specs.declared.Output.{Output}
use Rattle.player.specs.declared.Output.TheVariants as O
use Rattle.player.proofs.Playing.{saying, tick-lined}
use Rattle.player.proofs.Closing.{closes-owed}
use Rattle.std.specs.Prelude.{Ok, Err}
use Rattle.limits.specs.declared.Refusal.TheVariants.{TextSize}
use Rattle.tables.specs.declared.Equation.{Equation}

-- ---- the calls that a card's ticks make

-- The verdicts from the tick numbered i on.
unfoldable verdicts_from : (ℕ → ℕ) → ℕ → List Tick → List Stepped
verdicts_from vd i [] = []
verdicts_from vd i (k ∷ ks) = Ok (vd i) ∷ verdicts_from vd (suc i) ks

-- Each of the ticks has a velocity below their number.
abbrev AllBelow : ℕ → List Tick → Type 0
AllBelow velocities [] = Unit {0}
AllBelow velocities (k ∷ ks) = (k.velocity < velocities) × AllBelow velocities ks

module _ (cap velocities : ℕ) (t : List ℕ) (n : ℕ) where
  -- Each tick is given the values that the one before left.
  unfoldable calls_of : List ℕ → List ℕ → List Tick → List Call
  calls_of c v [] = []
  calls_of c v (k ∷ ks) =
      let a = stepped cap velocities t n c v k in
      record { tick = k; values = v } ∷ calls_of a.state a.values ks

  -- A step leaves room in the values.
  if-room : (c v : List ℕ) (k : Tick) (q : Checked) → n ≤ length v → n ≤ length (stepped_if q cap t n c v k).values
  unfolding tick_after
  if-room c v k (Ok tt) h = simp length-append (omega (arith, length-flows cap t k c n))
  if-room c v k (Err r) h = h

  step_room : (c v : List ℕ) (k : Tick) → n ≤ length v → n ≤ length (stepped cap velocities t n c v k).values
  unfolding stepped
  step_room c v k h = if-room c v k (step_checked cap velocities t n c v k) h

  module _ (ps : List ℕ) (low : (j : ℕ) → get_or ps j 0 < cap) where
    -- A call with room, these parameters and one of the velocities is admitted.
    admitted : (v : List ℕ) (k : Tick) → n ≤ length v → k.parameters ≡ ps → k.velocity < velocities
        → call_checked cap velocities n v k ≡ Ok tt
    unfolding call_checked parameter_fits
    admitted v k h e u =
        let fit : parameters_fit cap k.parameters ≡ true =
        all_of (parameter_fits cap k.parameters) parameter_count
        (λ i l. lt-ltb (get_or k.parameters i 0) cap (rw e (low i))) in
        rw (le-leb _ _ h, fit, lt-ltb _ _ u)

    -- So all of these calls are: their ticks are ks, and a verdict is expected of each.
    calls-ticks : (ks : List Tick) (c v : List ℕ) → n ≤ length v → SameParameters ps ks
        → AllBelow velocities ks → admitted_ticks cap velocities n (calls_of c v ks) ≡ ks
    unfolding admitted_ticks calls_of
    calls-ticks [] c v h s u = refl
    calls-ticks (k ∷ ks) c v h (same_more e s) u =
        let a = stepped cap velocities t n c v k in
        rw (admitted v k h e u.0, calls-ticks ks a.state _ (step_room c v k h) s u.1)

    calls-expected : (vd : ℕ → ℕ) (i : ℕ) (ks : List Tick) (c v : List ℕ) → n ≤ length v → SameParameters ps ks
        → AllBelow velocities ks → expected cap velocities n vd i (calls_of c v ks) ≡ verdicts_from vd i ks
    unfolding expected calls_of verdicts_from
    calls-expected vd i [] c v h s u = refl
    calls-expected vd i (k ∷ ks) c v h (same_more e s) u =
        let a = stepped cap velocities t n c v k in
        rw (admitted v k h e u.0, calls-expected vd (suc i) ks a.state _ (step_room c v k h) s u.1)

    -- The answers to them are the verdicts of a formula that the table observes.
    module _ {f : Formula} (o : Observes cap velocities t n f) (old : List ℕ) (room : n ≤ length old) where
      abbrev fresh : List ℕ
      fresh = (freshened velocities t n old).state

      calls-meant : (ks : List Tick) (v : List ℕ) → n ≤ length v → SameParameters ps ks → AllBelow velocities ks
          → answered (steps cap velocities t n fresh (calls_of fresh v ks))
          ≡ verdicts_from (verdict (trace_of_ticks ps ks) f) 0 ks
      calls-meant ks v h s u =
          let same = calls-ticks ks fresh v h s u in
          answers-are o old room (calls_of fresh v ks) ps (rw same s)
          ∙ ap (λ (l : List Tick). expected cap velocities n (verdict (trace_of_ticks ps l) f) 0 (calls_of fresh v ks))
          same
          ∙ calls-expected (verdict (trace_of_ticks ps ks) f) 0 ks fresh v h s u

-- ---- the tick lines

same-parameters : {velocities e : ℕ} {ps : List ℕ} {ls : List (List ℕ)} {ks : List Tick}
    → TickLines velocities e ps ls ks → SameParameters ps ks
same-parameters no_lines = same_None
same-parameters (more-lines e r) = same_more refl (same-parameters r)

all-below : {velocities e : ℕ} {ps : List ℕ} {ls : List (List ℕ)} {ks : List Tick} → 0 < velocities
    → TickLines velocities e ps ls ks → AllBelow velocities ks
all-below h no_lines = tt
all-below {velocities} {e} h (more-lines {l} said r) = ((ticked velocities e l said).low h, all-below h r)

heads : {x y : Stepped} {xs ys : List Stepped} → x ∷ xs ≡ y ∷ ys → x ≡ y
heads e = cc

tails : {x y : Stepped} {xs ys : List Stepped} → x ∷ xs ≡ y ∷ ys → xs ≡ ys
tails e = cc

module _ (context : Context) (e : ℕ) (ps t : List ℕ) (n : ℕ) where
  -- How many velocities there are.
  abbrev velocities : ℕ
  velocities = context.velocities

  -- What the first call of a list answers, and the others.
  module _ (c v : List ℕ) (k : Tick) (ks : List Tick) (vd : ℕ → ℕ) (i : ℕ)
      (q : answered (steps standard_cap velocities t n c (calls_of standard_cap velocities t n c v (k ∷ ks)))
      ≡ verdicts_from vd i (k ∷ ks)) where
    abbrev one : AfterStep
    one = stepped standard_cap velocities t n c v k

    first-answer : one.answer ≡ Ok (vd i)
    unfolding steps calls_of verdicts_from
    first-answer = heads q

    other-answers : answered
        (steps standard_cap velocities t n one.state
        (calls_of standard_cap velocities t n one.state one.values ks))
        ≡ verdicts_from vd (suc i) ks
    unfolding steps calls_of verdicts_from
    other-answers = tails q

  -- The tick lines print what the calls answer, where these answers are verdicts, and then the card ends.
  ticks-owed : {ls rest : List (List ℕ)} {ks : List Tick} {left : ℕ} {tail : List ℕ} {o : Output}
      → TickLines velocities e ps ls ks → Closes velocities e left rest tail o
      → (vd : ℕ → ℕ) (i : ℕ) (c v : List ℕ)
      → answered (steps standard_cap velocities t n c (calls_of standard_cap velocities t n c v ks))
      ≡ verdicts_from vd i ks
      → owed (world_in context (watch_of (stage_at P.Ticks e (length ks + left)) n) ps t c v) (ls ++ rest) tail
      ≡ verdict_lines vd i ks ++ output_bytes o
  unfolding owed verdict_lines
  ticks-owed {rest = rest} {left = left} {tail} no_lines h vd i c v q =
      let none : length {A = Tick} [] + left ≡ left = omega arith in
      ap (λ (m : ℕ). owed (world_in context (watch_of (stage_at P.Ticks e m) n) ps t c v) rest tail) none
      ∙ closes-owed context h n ps t c v
  ticks-owed {rest = rest} {left = left} {tail} {o}
      (more-lines {l} {ls} {t = m} {ks} said r) h vd i c v q =
      let k = tick_of m.start m.signals m.velocity ps in
      let a = stepped standard_cap velocities t n c v k in
      let less : suc (length ks) + left - 1 ≡ length ks + left = omega arith in
      let w = watch_of (stage_at P.Ticks e (suc (length ks) + left)) n in
      let here =
      tick-lined context ps t w l m (vd i) c v a refl (omega arith) said refl
      (first-answer c v k ks vd i q)
      ∙ ap (λ (m : ℕ). saying context ps t (watch_of (stage_at P.Ticks e m) n) (vd i) a.state a.values) less in
      ap (λ (y : Effect). output_bytes y.output ++ owed y.world (ls ++ rest) tail) here
      ∙ ap (λ (z : List ℕ). output_bytes (O.Verdict (vd i)) ++ z)
      (ticks-owed r h vd (suc i) a.state a.values (other-answers c v k ks vd i q))
      ∙ sym (append_assoc (output_bytes (O.Verdict (vd i))) (verdict_lines vd (suc i) ks) (output_bytes o))

-- From the fresh state of a table that observes a formula, these are the formula's verdicts.
module _ {context : Context} (some : 0 < context.velocities) {t ps : List ℕ} {n : ℕ} {f : Formula}
    (h : Observes standard_cap context.velocities t n f) (low : (j : ℕ) → get_or ps j 0 < standard_cap) where
  pub ticks-meant : {e : ℕ} {ls rest : List (List ℕ)} {ks : List Tick} {left : ℕ} {tail : List ℕ} {o : Output}
      → TickLines context.velocities e ps ls ks → Closes context.velocities e left rest tail o → (old v : List ℕ)
      → n ≤ length old → n ≤ length v
      → owed
      (world_in context (watch_of (stage_at P.Ticks e (length ks + left)) n) ps t
      (freshened context.velocities t n old).state v)
      (ls ++ rest) tail
      ≡ verdict_lines (verdict (trace_of_ticks ps ks) f) 0 ks ++ output_bytes o
  ticks-meant {e = e} {ks = ks} lines closes old v room-c room-v =
      ticks-owed context e ps t n lines closes (verdict (trace_of_ticks ps ks) f) 0
      (freshened context.velocities t n old).state v
      (calls-meant standard_cap context.velocities t n ps low h old room-c ks v room-v (same-parameters lines)
      (all-below some lines))

-- ---- the rule

-- A text that is a rule has at most 2,048 bytes.
not-long : (a b : Bool) (x : Out) (ws : List ℕ) → cond (a || b) (Out.refused TextSize) x ≡ made ws → b ≡ false
not-long true b x ws e = absurd (refused-made e)
not-long false true x ws e = absurd (refused-made e)
not-long false false x ws e = refl

split-short : (context : Context) (text ws : List ℕ) → split_of context text ≡ made ws → length text ≤ text_limit
unfolding split_of
split-short context text ws e = ltb-false _ _ (not-long (eqb (length text) 0) (ltb text_limit (length text)) _ ws e)

pub rule-short : (context : Context) (text : List ℕ) (t : Tree) → rule_of context text ≡ rule t
    → length text ≤ text_limit
rule-short context text t e = let a = (accepted context text t).0 e in split-short context text a.ws a.words

-- Compiling the text gives a table that observes the formula.
pub record Compile (context : Context) (text before : List ℕ) (f : Formula) : Type 0 where
  pub n : ℕ
  pub table : List ℕ
  pub is : compiled context text before ≡ after_compile (Ok n) table
  pub few : n ≤ equation_limit
  pub observes : Observes standard_cap context.velocities table n f

module _ {context : Context} (ranged : Ranged context) (text before : List ℕ) (t : Tree)
    (e : rule_of context text ≡ rule t) (room : table_room ≤ length before) where
  of-observer : (f : Formula) → formula_of t ≡ some f → (es : List Equation) → observer f ≡ es
      → sets before 0 (numbers_of es) ≡ numbers_of es ++ drop (4 * length es) before → length es ≤ equation_limit
      → Observes standard_cap context.velocities (numbers_of es ++ drop (4 * length es) before) (length es) f
      → Compile context text before f
  of-observer f is es same front few h =
      record {
        n = length es;
        table = sets before 0 (numbers_of es);
        is = sym (room-compiled context text before t e f is room es same);
        few = few;
        observes = subst (λ (l : List ℕ). Observes standard_cap context.velocities l (length es) f) (sym front) h;
      }

  of-known : (k : Known context t) → Compile context text before k.formula
  of-known k =
      let f = k.formula in
      of-observer f k.is (observer f) refl
      (observer-front f before (observer-size f (small-raw k)) room) (observer-size f (small-raw k))
      (observes-rule k (drop (4 * length (observer f)) before))

  same-formula : {f g : Formula} → formula_of t ≡ some f → formula_of t ≡ some g → f ≡ g
  same-formula p q = cc

  pub compile : (f : Formula) → formula_of t ≡ some f → Compile context text before f
  compile f is =
      let k = known context ranged text t e in
      subst (λ (g : Formula). Compile context text before g) (same-formula k.is is) (of-known k)
