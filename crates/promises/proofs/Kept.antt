-- The promises of specs/Promises.antt, from the theorems of the crates. Assumes nothing.
use mathlib.Core.Bool.{Bool, true, false, false≢true}
use mathlib.Core.List.{List, ◌++◌}
use mathlib.Core.Logic.{◌↔◌}
use mathlib.Core.Option.{Option, some}
use mathlib.Core.Path.{◌≡◌, refl, sym, ap, subst, subst₂, ◌∙◌}
use Prim.Native.Nat.{ℕ, ◌*◌, ◌≤◌, ◌<◌}
use native.Mathlib.Omega.{arith}
use lib.ListN.{length, take}
use Rattle.limits.specs.Limits.{standard_cap, table_room, rule_equations}
use Rattle.limits.specs.declared.Context.{Context}
use Rattle.limits.specs.declared.Refusal.{Refusal}
use Rattle.limits.specs.declared.Refusal.TheVariants.{ShortTable}
use Rattle.traces.specs.Trace.{truth, parameter_at}
use Rattle.traces.specs.Compare.{op_of}
use Rattle.traces.specs.declared.Op.TheVariants.{AtMost, Below, Equal, Above, AtLeast}
use Rattle.traces.proofs.Laws.{op-last, compared}
use Rattle.formulas.specs.Formula.{Formula}
use Rattle.formulas.specs.Tree.{Tree, formula_of}
use Rattle.formulas.proofs.Laws.{means}
use Rattle.formulas.proofs.Only.{only-verdict}
use Rattle.grammar.proofs.Theorems.{rule-names}
use Rattle.rules.specs.Reading.{HasOutcome}
use Rattle.rules.specs.Reading.Outcome.{rule, refused}
use Rattle.rules.specs.Reading.HasOutcome.{is-rule}
use Rattle.rules.specs.Computed.{rule_of}
use Rattle.rules.specs.Contract.{answer_of}
use Rattle.rules.proofs.Theorems.{has-outcome, computed, one-outcome, numbered, accepted, has-formula}
use Rattle.rules.specs.Computed.{comparison}
use Rattle.rules.specs.Same.{Within, SameValues, SameRule}
use Rattle.rules.specs.Same.HasSide.{within}
use Rattle.rules.specs.Same.SameAnswer.{one-rule as yes}
use Rattle.rules.proofs.Sides.{side-rule}
use Rattle.rules.proofs.Sameness.{same_answer}
use Rattle.rules.proofs.SameRule.{one_answer, same-tree, not-refused, yes-rule, reflexive, symmetric, transitive}
use Rattle.rules.proofs.SameRule.{same-meaning, numbered-answer}
use Rattle.tables.specs.Table.{Checked, kind_of, checked}
use Rattle.tables.proofs.Checks.{failed-passed}
use Rattle.flows.specs.Flow.{value_of}
use Rattle.flows.proofs.Lists.{runs-as-lustre}
use Rattle.agreement.specs.Agreement.{Closing, ExactMemories, FewMemories, Observes}
use Rattle.agreement.proofs.Memories.{few-memories}
use Rattle.observers.specs.Demand.{Compiles}
use Rattle.observers.specs.Demand.Compiles.{not-read, no_room, observed}
use Rattle.observers.specs.Demand.{Compiled}
use Rattle.observers.proofs.SameRule.{refused-equations, same-answers}
use Rattle.packing.specs.Laws.{Packs, Packed, PackAnswer}
use Rattle.packing.specs.Laws.PackAnswer.{not-checked, no_room as no_second, packed}
use Rattle.packing.proofs.One.{one_answer as one-packing}
use Rattle.packing.proofs.Again.{refused-packed, again, behind}
use Rattle.lustre.proofs.Theorems as lustre
use Rattle.player.specs.Card.{printed}
use Rattle.player.proofs.Shown.{shown, one-output}
use Rattle.promises.specs.Promises.{Reading, Whether, Comparing, SameRules}
use Rattle.promises.specs.Promises.{Promises}
use Rattle.std.specs.Prelude.{Ok, Err}

reading : (context : Context) → Reading context
reading context =
    record {
      exactly = λ text t. (λ h. (accepted context text t).0 (computed context text h), is-rule);
      some-outcome = λ text. (rule_of context text, has-outcome context text);
      one-outcome = λ text x y. one-outcome context text x y;
      numbered = numbered context;
      formula = λ text t h. has-formula context text t (computed context text h);
      names = λ text t a. rule-names a.ws t a.grammar;
      one_answer = λ text r r' h k.
          h.answer
          ∙ ap answer_of (one-outcome context text h.outcome k.outcome h.has k.has)
          ∙ sym k.answer;
    }

-- Where two texts are the same rule, one tree is read of both, and what is asked of the parameters holds.
one-rule : {context : Context} {a ps b qs : List ℕ} → SameRule context a ps b qs
    → (t : Tree) × HasOutcome context a (rule t) × HasOutcome context b (rule t) × Within ps × Within qs
    × SameValues t ps qs
one-rule h =
    let s = yes-rule h refl in
    let first = side-rule s.first in
    let second = side-rule s.second in
    (s.tree, first.0, second.0, first.1, second.1, s.values)

same-rules : (context : Context) → SameRules context
same-rules context =
    record {
      some-answer = λ a ps b qs. (comparison context a ps b qs, same_answer context a ps b qs _ refl);
      one_answer = λ a ps b qs r r' h k. one_answer h k;
      numbered = λ a ps b qs k h. numbered-answer context h refl;
      exactly = λ a ps b qs. (
        one-rule,
        λ (t, h, k, w, w', v). yes (within h w) (within k w') v,
      );
      reflexive = reflexive context;
      symmetric = symmetric context;
      transitive = transitive context;
      same-verdict = λ a ps b qs h t u e k f g is is' trace i.
          (same-meaning context a ps b qs h t u e k f g is is' trace 0 i).1;
      same-answers = λ h c k. same-answers context _ _ _ _ h _ _ _ _ _ c k;
    }

-- A truth value as a number.
whether : {P : Type 0} (b : Bool) → (b ≡ true) ↔ P → Whether P (truth b)
whether true h = ((λ e. h.0 refl, λ p. refl), (λ e. absurd (omega arith), λ no. absurd (no (h.0 refl))))
whether false h =
    ((λ e. absurd (omega arith), λ p. absurd (false≢true (h.1 p))), (λ e p. false≢true (h.1 p), λ no. refl))

comparing : Comparing
unfolding value_of kind_of
comparing =
    record {
      at_most = compared AtMost;
      below = compared Below;
      equal = compared Equal;
      above = compared Above;
      at_least = compared AtLeast;
      numbers = refl;
      beyond = λ k h. op-last k (omega arith);
      literal = λ cap k flow cell e. whether _ (compared (op_of e.b) (flow e.a) e.c);
      parameter = λ cap k flow cell e. whether _ (compared (op_of e.b) (flow e.a) (parameter_at k e.c));
      velocity = λ cap k flow cell e. whether _ (compared (op_of e.a) k.velocity e.b);
    }

-- What compiling gives for a refused text, for a rule and too short a table,
refused-text : {context : Context} {text before after : List ℕ} {r : Compiled} {k : Refusal}
    → Compiles context text before r after
    → HasOutcome context text (refused k) → (r ≡ Err k) × (after ≡ before)
refused-text {context} {text} (not-read e) h = (ap Err (refusal-of (one-outcome context text _ _ e h)), refl)
  where
    refusal-of : {m k : Refusal} → refused m ≡ refused k → m ≡ k
    refusal-of e = cc
refused-text (no_room e l) h = absurd (not-refused e h)
refused-text (observed e is l few same kept o exact ends) h = absurd (not-refused e h)

short-table : {context : Context} {text before after : List ℕ} {r : Compiled} {t : Tree}
    → Compiles context text before r after
    → HasOutcome context text (rule t) → length before < table_room → (r ≡ Err ShortTable) × (after ≡ before)
short-table (not-read e) h low = absurd (not-refused h e)
short-table (no_room e l) h low = (refl, refl)
short-table (observed e is l few same kept o exact ends) h low = absurd (omega arith)

-- and for a rule where there is room.
compiled-rule : {context : Context} {text before after : List ℕ} {r : Compiled} {t : Tree}
    → Compiles context text before r after
    → HasOutcome context text (rule t) → table_room ≤ length before → (n : ℕ) × (r ≡ Ok n)
compiled-rule (not-read e) h room = absurd (not-refused h e)
compiled-rule (no_room e l) h room = absurd (omega arith)
compiled-rule (observed {n} e is l few same kept o exact ends) h room = (n, refl)

few-equations : {context : Context} {text before after : List ℕ} {r : Compiled} {n : ℕ}
    → Compiles context text before r after → r ≡ Ok n
    → n ≤ rule_equations
few-equations (not-read e) q = absurd (refused-equations q)
few-equations (no_room e l) q = absurd (refused-equations q)
few-equations {n = n} (observed {n = m} e is l few same kept o exact ends) q = let number : m ≡ n = cc in omega arith

closing : {context : Context} {text before after : List ℕ} {r : Compiled} {n : ℕ}
    → Compiles context text before r after → r ≡ Ok n
    → Closing after n
closing (not-read e) q = absurd (refused-equations q)
closing (no_room e l) q = absurd (refused-equations q)
closing {after = after} (observed e is l few same kept o exact ends) q = subst (Closing after) (cc) ends

-- A text has one tree, and the table so many memories as that tree asks for;
remembering : {context : Context} {text before after : List ℕ} {r : Compiled} {n : ℕ} {t : Tree}
    → Compiles context text before r after
    → r ≡ Ok n → HasOutcome context text (rule t) → (rest : List ℕ)
    → ExactMemories (take (4 * n) after ++ rest) n t
remembering (not-read e) q h rest = absurd (refused-equations q)
remembering (no_room e l) q h rest = absurd (refused-equations q)
remembering {after = after} {n = n} {t} (observed {n = m} {t = u} e is l few same kept o exact ends) q h rest =
    let number : m ≡ n = cc in
    subst₂ (λ (k : ℕ) (v : Tree). ExactMemories (take (4 * k) after ++ rest) k v) number (same-tree e h) (exact rest)

-- so the bound on them holds.
remembering-few : {context : Context} {text before after : List ℕ} {n : ℕ} {t : Tree}
    → Compiles context text before (Ok n) after
    → HasOutcome context text (rule t) → (rest : List ℕ) → FewMemories (take (4 * n) after ++ rest) n t
remembering-few {after = after} {n} {t} c h rest =
    few-memories (take (4 * n) after ++ rest) n t (remembering c refl h rest)

-- And the tree has one formula.
one-formula : {x y : Option Formula} {f g : Formula} → x ≡ some f → y ≡ some g → x ≡ y → f ≡ g
one-formula p q e = cc

observed-rule : {context : Context} {text before after : List ℕ} {r : Compiled} {n : ℕ} {t : Tree} {f : Formula}
    → Compiles context text before r after → r ≡ Ok n → HasOutcome context text (rule t) → formula_of t ≡ some f
    → (rest : List ℕ) → Observes standard_cap context.velocities (take (4 * n) after ++ rest) n f
observed-rule (not-read e) q h is rest = absurd (not-refused h e)
observed-rule (no_room e l) q h is rest = absurd (refused-equations q)
observed-rule {context} {after = after} {n = n} {t} {f}
    (observed {n = m} {f = g} e is-g l few same kept o exact ends) q h is rest =
    let number : m ≡ n = cc in
    let formula : g ≡ f = one-formula is-g is (ap formula_of (same-tree e h)) in
    subst₂ (λ (k : ℕ) (x : Formula). Observes standard_cap context.velocities (take (4 * k) after ++ rest) k x)
    number formula (o rest)

-- What packing gives for a table that fails its check, for one that passes and too short a second table,
refused-table : {velocities : ℕ} {t before after : List ℕ} {n : ℕ} {k : Refusal} {r : Packed}
    → PackAnswer velocities t n before r after → checked velocities t n ≡ Err k
    → (r ≡ Err k) × (after ≡ before)
refused-table (not-checked e) h = (ap Err (number_of (sym e ∙ h)), refl)
  where
    number_of : {m k : Refusal} → ◌≡◌ {A = Checked} (Err m) (Err k) → m ≡ k
    number_of e = cc
refused-table (no_second e l) h = absurd (failed-passed (sym h ∙ e))
refused-table (packed e l long same p) h = absurd (failed-passed (sym h ∙ e))

short-second : {velocities : ℕ} {t before after : List ℕ} {n : ℕ} {r : Packed}
    → PackAnswer velocities t n before r after → checked velocities t n ≡ Ok tt
    → length before < table_room → (r ≡ Err ShortTable) × (after ≡ before)
short-second (not-checked e) h low = absurd (failed-passed (sym e ∙ h))
short-second (no_second e l) h low = (refl, refl)
short-second (packed e l long same p) h low = absurd (omega arith)

-- and for one that passes where there is room.
served-table : {velocities : ℕ} {t before after : List ℕ} {n : ℕ} {r : Packed}
    → PackAnswer velocities t n before r after → checked velocities t n ≡ Ok tt
    → table_room ≤ length before → (n' : ℕ) × (r ≡ Ok n')
served-table (not-checked e) h room = absurd (failed-passed (sym e ∙ h))
served-table (no_second e l) h room = absurd (omega arith)
served-table (packed {n'} e l long same p) h room = (n', refl)

packed-front : {velocities : ℕ} {t before after : List ℕ} {n n' : ℕ} {r : Packed}
    → PackAnswer velocities t n before r after → r ≡ Ok n'
    → (rest : List ℕ) → Packs t n (take (4 * n') after ++ rest) n'
packed-front (not-checked e) q rest = absurd (refused-packed q)
packed-front (no_second e l) q rest = absurd (refused-packed q)
packed-front {t = t} {after = after} {n} {n'} (packed {n' = m} e l long same p) q rest =
    let number : m ≡ n' = cc in
    subst (λ (k : ℕ). Packs t n (take (4 * k) after ++ rest) k) number (p rest)

pub kept : Promises
kept =
    record {
      reading = reading;
      meaning = λ trace. record { clauses = means trace; only = λ At On v laws. only-verdict trace At On v laws };
      comparing = comparing;
      running = λ velocities t n e. runs-as-lustre standard_cap velocities t n e;
      compiling = λ context. record {
        refuses = refused-text;
        no_room = short-table;
        compiles = compiled-rule;
        few = λ c. few-equations c refl;
        closes = λ c. closing c refl;
        exact-memories = λ c h rest. remembering c refl h rest;
        few-memories = λ c h rest. remembering-few c h rest;
        observes = λ c h is rest. observed-rule c refl h is rest;
      };
      same-rules = same-rules;
      packing = λ velocities. record {
        refuses = refused-table;
        no_room = short-second;
        serves = served-table;
        packs = λ h. packed-front h refl;
        one_answer = one-packing;
        behind = λ e h k. behind _ _ _ _ _ _ _ _ _ _ e h k;
        twice = λ h rest room k. again _ _ _ _ _ _ h rest _ _ _ room k;
      };
      round-trips = λ velocities low. record {
        table = λ t n l buffer before after r.
            lustre.read-of-written velocities t n l buffer before r after low;
        text = λ text before after buffer n. lustre.written-of-read velocities text before buffer n after;
        one_answer = λ text before after after' r r'.
            lustre.one_answer velocities text before r r' after after' low;
      };
      cards = record {
        some-output = λ card. (printed card, shown card);
        one-output = λ card out out'. one-output card out out';
      };
    }
