-- Tick lines at the front of a piece, where no step has a refusal: what such a line does. Assumes nothing.
use mathlib.Core.Path.{◌≡◌, refl, ◌∙◌, sym, ap, subst}
use mathlib.Core.List.{List}
use Prim.Native.Nat.{ℕ, ◌+◌, ◌≤◌, ◌<◌}
use native.Mathlib.Omega.{arith}
use lib.ListN.{length, drop, length-drop}
use borrow.Author.Tests.{lt-ltb}
use Rattle.limits.specs.Limits.{standard_cap}
use Rattle.limits.specs.declared.Context.{Context}
use Rattle.flows.specs.Step.{AfterStep, after_step, step_checked, stepped}
use Rattle.flows.proofs.Lists.{step-on}
use Rattle.lists.specs.Line.{line}
use Rattle.cards.specs.Place.{tick_at}
use Rattle.cards.specs.declared.Phase.TheVariants as P
use Rattle.cards.specs.declared.Found.{Found}
use Rattle.cards.specs.declared.TickLine.{TickLine}
use Rattle.cards.proofs.Front.{First, first-tick}
use Rattle.cards.proofs.Ticks.{ticked}
use Rattle.traces.specs.Trace.{tick_of}
use Rattle.traces.specs.declared.Tick.{Tick}
use Rattle.traces.specs.Parameters.{parameter_fits}
use Rattle.player.specs.Card.{World, world_in, lined}
use Rattle.player.specs.Output.{output_bytes}
use Rattle.player.specs.declared.Output.TheVariants as O
use Rattle.player.specs.declared.Watch.{Watch}
use Rattle.player.proofs.Playing.{saying, one_less, tick-lined}
use Rattle.feeder.specs.Feed.{Admitted, placed}
use Rattle.feeder.proofs.Feeding.{Between, said-room, after_line}
use Rattle.std.specs.Prelude.{false, Some, Ok, Err}
use Rattle.std.specs.Result.{is_err}
use Rattle.tables.specs.Table.{Checked}

module _ (context : Context) (ps t : List ℕ) where
  -- How many velocities there are.
  abbrev velocities : ℕ
  velocities = context.velocities

  -- A step's refusals do not depend on its start and signals, nor on which of the velocities it has.
  any-tick : (n : ℕ) (c v : List ℕ) → step_checked standard_cap velocities t n c v (tick_of 0 0 0 ps) ≡ Ok tt
      → (start signals velocity : ℕ) → velocity < velocities
      → step_checked standard_cap velocities t n c v (tick_of start signals velocity ps) ≡ Ok tt
  unfolding step_checked parameter_fits
  any-tick n c v e start signals velocity low =
      let some : 0 < velocities = omega (arith, low) in
      rw (lt-ltb velocity velocities low) (rw (lt-ltb 0 velocities some) at e)

  -- So a check of the first tick admits each step.
  pub admitted : {w : Watch} {c v : List ℕ} {k : Tick} → w.stage.phase ≡ P.Ticks → k ≡ tick_of 0 0 0 ps
      → step_checked standard_cap velocities t w.n c v k ≡ Ok tt → Admitted (world_in context w ps t c v)
  admitted {w} {c} {v} p e h =
      record {
        phase = p;
        passes = any-tick w.n c v (ap (step_checked standard_cap velocities t w.n c v) (sym e) ∙ h);
      }

  -- Every tick with these parameters passes where they are admitted.
  pub passes_at : {w : Watch} {c v : List ℕ} {k : Tick} {i j u : ℕ} → Admitted (world_in context w ps t c v)
      → u < velocities → k ≡ tick_of i j u ps → step_checked standard_cap velocities t w.n c v k ≡ Ok tt
  passes_at {w} {c} {v} {k} {i} {j} {u} h low e =
      ap (step_checked standard_cap velocities t w.n c v) e ∙ h.passes i j u low

  -- The step of a line at the ticks, where no step has a refusal: the line is at the place p of a piece.
  module _ (some : 0 < velocities) {w : Watch} {c v : List ℕ} {f : Found TickLine} (b : List ℕ) (p : ℕ)
      (k : Admitted (world_in context w ps t c v)) (is-at : Some f ≡ tick_at velocities w.stage.edition b p) where
    abbrev read : TickLine
    read = f.value

    first : First velocities w.stage.edition (drop p b) read
    first = (first-tick velocities w.stage.edition b p is-at).0

    pub velocity-low : read.velocity < velocities
    velocity-low = (ticked velocities w.stage.edition (line (drop p b)) first.tick).low some

    abbrev this : Tick
    this = tick_of read.start read.signals read.velocity ps

    module _ {c' v' : List ℕ} {x : ℕ} {y : Tick} (is : y ≡ this)
        (a : after_step (Ok x) c' v' ≡ stepped standard_cap velocities t w.n c v y) where
      at_tick : after_step (Ok x) c' v' ≡ stepped standard_cap velocities t w.n c v this
      at_tick = a ∙ ap (stepped standard_cap velocities t w.n c v) is

      -- It leaves it so.
      pub admitted-on : Admitted (world_in context (one_less w) ps t c' v')
      admitted-on =
          record {
            phase = k.phase;
            passes = λ start signals velocity low.
                subst
                (λ (y : AfterStep).
                step_checked standard_cap velocities t w.n y.state y.values
                (tick_of start signals velocity ps) ≡ Ok tt)
                (sym at_tick)
                (step-on standard_cap velocities t w.n c v this
                (k.passes read.start read.signals read.velocity velocity-low) (tick_of start signals velocity ps) refl
                low);
          }

      module _ {w₀ : World} {out₀ out : List ℕ} {at : ℕ} (s : Between w₀ b out₀ (world_in context w ps t c v) out p at)
          (more : 0 < w.stage.left) where
        line-apart : p + length (line (drop p b)) ≡ length b → ⊥
        line-apart z = omega (arith, first.whole, length-drop p b)

        does : saying context ps t (one_less w) x c' v' ≡ lined (world_in context w ps t c v) (line (drop p b))
        does =
            let after = after_step (Ok x) c' v' in
            sym
            (tick-lined context ps t w (line (drop p b)) read x c v after k.phase more first.tick (sym at_tick) refl)

        pub verdict-room : at + length (output_bytes (O.Verdict x)) ≤ length out
        verdict-room = said-room s (length (line (drop p b))) refl line-apart does

        pub after-tick : {out' : List ℕ} {at' : ℕ} → at' ≡ at + length (output_bytes (O.Verdict x))
            → out' ≡ placed out at (output_bytes (O.Verdict x))
            → Between w₀ b out₀ (world_in context (one_less w) ps t c' v') out' f.next at'
        after-tick {out'} {at'} e q =
            let end = (first-tick velocities w.stage.edition b p is-at).1 in
            subst (λ (m : ℕ). Between w₀ b out₀ (world_in context (one_less w) ps t c' v') out' m at') (sym end)
            (after_line s (length (line (drop p b))) refl line-apart does e q)

-- A check that has no refusal is passed.
pub no-refusal : (r : Checked) → false ≡ is_err r → r ≡ Ok tt
no-refusal (Ok tt) e = refl
no-refusal (Err r) e = cc
