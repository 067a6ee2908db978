-- What is owed where a line fails (`Fails`), and after the last tick line that is fine (`Closes`): each line that fails
-- says its stage's refusal, whether it is broken, missing or over-long. Assumes nothing.
use mathlib.Core.Path.{◌≡◌, refl, ◌∙◌, ap, ap₂, sym}
use mathlib.Core.Bool.{Bool, true, false, cond, false≢true}
use mathlib.Core.List.{List, [], ◌∷◌, ◌++◌}
use Prim.Native.Nat.{ℕ, suc}
use native.Mathlib.Omega.{arith}
use lib.Dec.{eqb}
use lib.ListN.{length, drop}
use borrow.Author.Tests.{eqb-true, ne_eqb}
use Rattle.std.specs.Prelude.{Option, Some, None}
use Rattle.limits.specs.declared.Context.{Context}
use Rattle.limits.specs.declared.Refusal.{Refusal}
use Rattle.cards.specs.Heads.{rule_head, after_head}
use Rattle.cards.specs.Numbers.{has_prefix}
use Rattle.cards.specs.Lines.{over_long}
use Rattle.cards.specs.Heads.{head_refusal, tick_refusal}
use Rattle.cards.specs.Says.{Says, stage_at, first_stage, edition_of, edition_says, parameters_say, count_says}
use Rattle.cards.specs.Says.{broken_by, says_in, line_says, end_says}
use Rattle.cards.specs.Says.Says.{refused}
use Rattle.cards.specs.declared.Phase.TheVariants as P
use Rattle.cards.specs.declared.Stage.{Stage}
use Rattle.cards.proofs.Editions.{edition-is}
use Rattle.player.specs.Card.{World, world_in, velocities_in, watch_of, over_world, played, lined, last_output, owed}
use Rattle.player.specs.Output.{output_bytes}
use Rattle.player.specs.Shows.{NoEdition, NoParameters, NoRule, NoCount, NoTick, Fails, Closes}
use Rattle.player.specs.Shows.Fails.{broken, missing, over-long}
use Rattle.player.specs.Shows.Closes.{whole, line_after, bytes_after, tick-fails}
use Rattle.player.specs.declared.Output.{Output}
use Rattle.player.specs.declared.Output.TheVariants as O
use Rattle.player.proofs.Printing.{last-owed}

-- ---- a line that fails

-- A line that says a refusal is the last one.
refused-owed : (w : World) (r : Refusal) (l : List ℕ) (ls : List (List ℕ)) (tail : List ℕ)
    → line_says (velocities_in w) w.watch.stage l ≡ refused r → owed w (l ∷ ls) tail ≡ output_bytes (O.Refused r)
unfolding lined played
refused-owed w r l ls tail e = last-owed w (over_world w) l ls tail (O.Refused r) (ap (played w) e) refl

-- At this stage broken lines say the refusal r, and so does the end of the input.
pub record Refuses (velocities : ℕ) (k : Stage) (r : Refusal) (Broken : List ℕ → Type 0) : Type 0 where
  pub long : broken_by k.phase ≡ refused r
  pub end : (n : ℕ) → end_says k n ≡ refused r
  pub bad : (l : List ℕ) → Broken l → says_in velocities k.phase k.edition k.left l ≡ refused r

module _ (w : World) {r : Refusal} {Broken : List ℕ → Type 0}
    (h : Refuses (velocities_in w) w.watch.stage r Broken) where
  long-refused : (l : List ℕ) → over_long l ≡ true → line_says (velocities_in w) w.watch.stage l ≡ refused r
  unfolding line_says
  long-refused l e = rw e h.long

  line_refused : (b : Bool) (l : List ℕ) → over_long l ≡ b → Broken l
      → line_says (velocities_in w) w.watch.stage l ≡ refused r
  unfolding line_says
  line_refused true l e f = long-refused l e
  line_refused false l e f = rw e (h.bad l f)

  pub fails-owed : {ls : List (List ℕ)} → Fails Broken ls → (tail : List ℕ) → owed w ls tail
      ≡ output_bytes (O.Refused r)
  unfolding owed
  fails-owed missing tail = ap (λ (s : Says). output_bytes (last_output s)) (h.end (length tail))
  fails-owed (broken {l} {ls} f) tail = refused-owed w r l ls tail (line_refused (over_long l) l refl f)
  fails-owed (over-long {l} {ls} e) tail = refused-owed w r l ls tail (long-refused l e)

-- ---- the five sorts of lines

-- The first line: no edition's line is none by the test.
no-edition : (l : List ℕ) (x : Option ℕ) → edition_of l ≡ x → NoEdition l → x ≡ None
no-edition l None q h = refl
no-edition l (Some e) q h = let found = edition-is l e q in absurd (h e found.0 found.1)

-- The third line: a text that has a prefix is the prefix and what comes after it.
prefix-append : (w s : List ℕ) → has_prefix w s ≡ true → s ≡ w ++ drop (length w) s
unfolding has_prefix
prefix-append [] s e = refl
prefix-append (x ∷ w) [] e = absurd (false≢true e)
prefix-append (x ∷ w) (y ∷ s) e = go (eqb y x) refl e (prefix-append w s)
  where
    go : (b : Bool) → eqb y x ≡ b → cond b (has_prefix w s) false ≡ true
        → (has_prefix w s ≡ true → s ≡ w ++ drop (length w) s) → y ∷ s ≡ x ∷ w ++ drop (length w) s
    go true q p ih = ap₂ ◌∷◌ (eqb-true y x q) (ih p)
    go false q p ih = absurd (false≢true p)

pub rule-is : (l : List ℕ) → has_prefix rule_head l ≡ true → l ≡ rule_head ++ after_head rule_head l
rule-is l e = prefix-append rule_head l e

has-head : (text : List ℕ) → has_prefix rule_head (rule_head ++ text) ≡ true
unfolding has_prefix
has-head text = refl

pub rule-not : (l : List ℕ) → has_prefix rule_head l ≡ false → NoRule l
rule-not l e text q = false≢true (sym e ∙ ap (has_prefix rule_head) q ∙ has-head text)

no-rule : (l : List ℕ) (b : Bool) → has_prefix rule_head l ≡ b → NoRule l → b ≡ false
no-rule l true e h = absurd (h (after_head rule_head l) (rule-is l e))
no-rule l false e h = refl

-- Each sort of line at its stage.
pub edition-refuses : (velocities : ℕ) → Refuses velocities first_stage head_refusal NoEdition
edition-refuses velocities =
    record {
      long = refl;
      end = λ n. refl;
      bad = λ l h. ap edition_says (no-edition l (edition_of l) refl h);
    }

pub parameters-refuse : (velocities e : ℕ) → Refuses velocities (stage_at P.Parameters e 0) head_refusal NoParameters
parameters-refuse velocities e = record { long = refl; end = λ n. refl; bad = λ l h. ap parameters_say h }

pub rule-refuses : (velocities e : ℕ) → Refuses velocities (stage_at P.Rule e 0) head_refusal NoRule
rule-refuses velocities e =
    record { long = refl; end = λ n. refl; bad = λ l h. rw (no-rule l (has_prefix rule_head l) refl h) }

pub count-refuses : (velocities e : ℕ) → Refuses velocities (stage_at P.Count e 0) head_refusal NoCount
count-refuses velocities e = record { long = refl; end = λ n. refl; bad = λ l h. ap count_says h }

-- Something is left.
not_done : (left : ℕ) → eqb (suc left) 0 ≡ false
not_done left = ne_eqb (suc left) 0 (λ z. omega arith)

tick-refuses : (velocities e left : ℕ)
    → Refuses velocities (stage_at P.Ticks e (suc left)) tick_refusal (NoTick velocities e)
tick-refuses velocities e left =
    record {
      long = refl;
      end = λ n. rw (not_done left);
      bad = λ l h. rw (not_done left, h);
    }

-- ---- after the last tick line that is fine

-- Where no tick is left, every line says the refusal.
line-after-says : (velocities e : ℕ) (b : Bool) (l : List ℕ) → over_long l ≡ b
    → line_says velocities (stage_at P.Ticks e 0) l ≡ refused tick_refusal
unfolding line_says
line-after-says velocities e true l q = rw q
line-after-says velocities e false l q = rw q

module _ (context : Context) where
  pub closes-owed : {e left : ℕ} {ls : List (List ℕ)} {tail : List ℕ} {o : Output}
      → Closes context.velocities e left ls tail o → (n : ℕ) (ps t c v : List ℕ)
      → owed (world_in context (watch_of (stage_at P.Ticks e left) n) ps t c v) ls tail ≡ output_bytes o
  unfolding owed
  closes-owed whole n ps t c v = refl
  closes-owed {e = e} (line_after {l} {ls} {tail}) n ps t c v =
      refused-owed _ tick_refusal l ls tail (line-after-says context.velocities e (over_long l) l refl)
  closes-owed (bytes_after {tail = tail}) n ps t c v = rw (not_done (length tail))
  closes-owed {e = e} (tick-fails {left} {tail = tail} h) n ps t c v =
      fails-owed _ (tick-refuses context.velocities e left) h tail
