-- Every list of lines shows something (`LinesShow`), found by walking the four first lines and then the tick lines:
-- each is as it has to be, or it fails. Assumes nothing.
use mathlib.Core.Path.{◌≡◌, refl, ◌∙◌, sym, ap, subst}
use mathlib.Core.Bool.{Bool, true, false}
use mathlib.Core.List.{List, [], ◌∷◌, ◌++◌}
use Prim.Native.Nat.{ℕ, zero, suc, ◌+◌}
use native.Mathlib.Omega.{arith}
use lib.ListN.{length}
use Rattle.std.specs.Prelude.{Option, Some, None}
use Rattle.limits.specs.declared.Context.{Context}
use Rattle.traces.specs.declared.Tick.{Tick}
use Rattle.traces.specs.Trace.{tick_of}
use Rattle.formulas.specs.Tree.{Tree}
use Rattle.rules.specs.Reading.{Outcome, HasOutcome}
use Rattle.rules.specs.Computed.{rule_of}
use Rattle.rules.specs.Reading.Outcome.{rule, refused}
use Rattle.rules.proofs.Theorems.{has-outcome, computed, has-formula}
use Rattle.cards.specs.Heads.{IsEdition, edition_line, rule_head, after_head}
use Rattle.cards.specs.Numbers.{has_prefix, parameters_of, count_of}
use Rattle.cards.specs.Lines.{over_long}
use Rattle.cards.specs.Says.{edition_of}
use Rattle.cards.specs.Ticks.{tick_line}
use Rattle.cards.specs.declared.TickLine.{TickLine}
use Rattle.cards.proofs.Editions.{edition-is, edition-not}
use Rattle.player.specs.Shows.{TickLines, Closes, LinesShow}
use Rattle.player.specs.Shows.Fails.{broken, missing, over-long}
use Rattle.player.specs.Shows.TickLines.{none as no_lines, more as more-lines}
use Rattle.player.specs.Shows.Closes.{whole, line_after, bytes_after, tick-fails}
use Rattle.player.specs.Shows.LinesShow.{edition-fails, parameters-fail, rule-fails, count-fails}
use Rattle.player.specs.Shows.LinesShow.{rule-refused, verdicts}
use Rattle.player.specs.declared.Output.{Output}
use Rattle.player.proofs.Closing.{rule-is, rule-not}

-- ---- the tick lines

-- Tick lines and how they close, of any lines where so many ticks are left.
record Ticking (velocities e : ℕ) (ps : List ℕ) (m : ℕ) (all : List (List ℕ)) (tail : List ℕ) : Type 0 where
  pub ls : List (List ℕ)
  pub rest : List (List ℕ)
  pub ks : List Tick
  pub left : ℕ
  pub output : Output
  pub lines : TickLines velocities e ps ls ks
  pub closes : Closes velocities e left rest tail output
  pub number : length ks + left ≡ m
  pub these : ls ++ rest ≡ all

module _ (velocities e : ℕ) (ps tail : List ℕ) where
  -- No tick line more, and one more.
  closing : {m : ℕ} {rest : List (List ℕ)} {o : Output} → Closes velocities e m rest tail o
      → Ticking velocities e ps m rest tail
  closing {m} {rest} {o} h =
      record {
        ls = [];
        rest = rest;
        ks = [];
        left = m;
        output = o;
        lines = no_lines;
        closes = h;
        number = omega arith;
        these = refl;
      }

  one_more : {m : ℕ} {t : TickLine} {l : List ℕ} {all : List (List ℕ)} → tick_line velocities e l ≡ Some t
      → Ticking velocities e ps m all tail → Ticking velocities e ps (suc m) (l ∷ all) tail
  one_more {m} {t} {l} said h =
      record {
        ls = l ∷ h.ls;
        rest = h.rest;
        ks = tick_of t.start t.signals t.velocity ps ∷ h.ks;
        left = h.left;
        output = h.output;
        lines = more-lines said h.lines;
        closes = h.closes;
        number = omega (arith, h.number);
        these = ap (λ (x : List (List ℕ)). l ∷ x) h.these;
      }

  -- The bytes after the last tick line.
  ended : (s : List ℕ) → (o : Output) × Closes velocities e zero [] s o
  ended [] = (_, whole)
  ended (b ∷ s) = (_, bytes_after)

  ticking : (m : ℕ) (all : List (List ℕ)) → Ticking velocities e ps m all tail
  ticking zero [] = closing (ended tail).1
  ticking zero (l ∷ ls) = closing line_after
  ticking (suc m) [] = closing (tick-fails missing)
  ticking (suc m) (l ∷ ls) = go (tick_line velocities e l) refl (ticking m ls)
    where
      go : (x : Option TickLine) → tick_line velocities e l ≡ x → Ticking velocities e ps m ls tail
          → Ticking velocities e ps (suc m) (l ∷ ls) tail
      go (Some t) q h = one_more q h
      go None q h = closing (tick-fails (broken q))

-- ---- the four first lines

-- There is something that these lines show.
abbrev pub Something : Context → List ℕ → List (List ℕ) → Type 0
Something context tail ls = (out : List ℕ) × LinesShow context tail ls out

module _ (context : Context) (tail : List ℕ) where
  module _ {e : ℕ} (one : IsEdition e) where
    -- The lines from the fourth on, from the third, from the second, and all.
    module _ {second ps text : List ℕ} {t : Tree} (are-ps : parameters_of second ≡ Some ps)
        (is-rule : HasOutcome context text (rule t)) where
      by_count : (l : List ℕ) (ls : List (List ℕ)) (x : Option ℕ) → count_of l ≡ x
          → Something context tail (edition_line e ∷ second ∷ (rule_head ++ text) ∷ l ∷ ls)
      by_count l ls (Some m) q =
          let h = ticking context.velocities e ps tail m ls in
          let f = has-formula context text t (computed context text is-rule) in
          let count = q ∙ ap Some (sym h.number) in
          subst (λ (x : List (List ℕ)). Something context tail (edition_line e ∷ second ∷ (rule_head ++ text) ∷ l ∷ x))
          h.these
          (_, verdicts one are-ps is-rule f.1 count h.lines h.closes)
      by_count l ls None q = (_, count-fails one are-ps is-rule (broken q))

      from-fourth : (ls : List (List ℕ)) → Something context tail (edition_line e ∷ second ∷ (rule_head ++ text) ∷ ls)
      from-fourth [] = (_, count-fails one are-ps is-rule missing)
      from-fourth (l ∷ ls) = by_count l ls (count_of l) refl

    module _ {second ps : List ℕ} (are-ps : parameters_of second ≡ Some ps) where
      by-outcome : (text : List ℕ) (ls : List (List ℕ)) (x : Outcome) → HasOutcome context text x
          → over_long (rule_head ++ text) ≡ false
          → Something context tail (edition_line e ∷ second ∷ (rule_head ++ text) ∷ ls)
      by-outcome text ls (refused k) h short = (_, rule-refused one are-ps short h)
      by-outcome text ls (rule t) h short = from-fourth are-ps h ls

      by-head : (l : List ℕ) (ls : List (List ℕ)) (b : Bool) → has_prefix rule_head l ≡ b → over_long l ≡ false
          → Something context tail (edition_line e ∷ second ∷ l ∷ ls)
      by-head l ls true q short =
          let text = after_head rule_head l in
          let is = rule-is l q in
          subst (λ (x : List ℕ). Something context tail (edition_line e ∷ second ∷ x ∷ ls)) (sym is)
          (by-outcome text ls (rule_of context text) (has-outcome context text)
          (subst (λ (x : List ℕ). over_long x ≡ false) is short))
      by-head l ls false q short = (_, rule-fails one are-ps (broken (rule-not l q)))

      by_length : (l : List ℕ) (ls : List (List ℕ)) (b : Bool) → over_long l ≡ b
          → Something context tail (edition_line e ∷ second ∷ l ∷ ls)
      by_length l ls true q = (_, rule-fails one are-ps (over-long q))
      by_length l ls false q = by-head l ls (has_prefix rule_head l) refl q

      from-third : (ls : List (List ℕ)) → Something context tail (edition_line e ∷ second ∷ ls)
      from-third [] = (_, rule-fails one are-ps missing)
      from-third (l ∷ ls) = by_length l ls (over_long l) refl

    by-parameters : (l : List ℕ) (ls : List (List ℕ)) (x : Option (List ℕ)) → parameters_of l ≡ x
        → Something context tail (edition_line e ∷ l ∷ ls)
    by-parameters l ls (Some ps) q = from-third q ls
    by-parameters l ls None q = (_, parameters-fail one (broken q))

    from_second : (ls : List (List ℕ)) → Something context tail (edition_line e ∷ ls)
    from_second [] = (_, parameters-fail one missing)
    from_second (l ∷ ls) = by-parameters l ls (parameters_of l) refl

  by-edition : (l : List ℕ) (ls : List (List ℕ)) (x : Option ℕ) → edition_of l ≡ x → Something context tail (l ∷ ls)
  by-edition l ls None q = (_, edition-fails (broken (edition-not l q)))
  by-edition l ls (Some e) q =
      let found = edition-is l e q in
      subst (λ (x : List ℕ). Something context tail (x ∷ ls)) (sym found.1) (from_second found.0 ls)

  pub lines-show : (ls : List (List ℕ)) → Something context tail ls
  lines-show [] = (_, edition-fails missing)
  lines-show (l ∷ ls) = by-edition l ls (edition_of l) refl
