-- A table's text is short: it has short lines, so a number of 32 bits holds its length. Assumes nothing.
use mathlib.Core.Bool.{Bool, true, false}
use mathlib.Core.List.{List}
use mathlib.Core.Path.{◌≡◌}
use Prim.Native.Nat.{ℕ, zero, suc, ◌*◌, ◌≤◌, ◌<◌}
use native.Mathlib.Omega.{arith}
use lib.ListN.{length, length-append}
use Rattle.lists.specs.Number.{number_at}
use Rattle.limits.specs.Limits.{equation_limit}
use Rattle.traces.specs.Compare.{op_of}
use Rattle.traces.specs.declared.Op.{Op}
use Rattle.traces.specs.declared.Op.TheVariants.{AtMost as le, Below as lt, Equal as eq, Above as gt, AtLeast as ge}
use Rattle.traces.specs.Trace.{nonzero}
use Rattle.tables.specs.Table.{equation_at, kind_of, started_of, verdict_of}
use Rattle.tables.proofs.Checks.{checked-fitting}
use Rattle.tables.specs.Table.{Checked}
use Rattle.lustre.specs.Write.{write_effect, effect_if, write_checked, after_text}
use Rattle.lustre.specs.Sizes.{longest_line, length_limit}
use Rattle.lustre.proofs.Numerals.{digits-short}
use Rattle.lustre.proofs.Theorems.{text-written}
use Rattle.lustre.specs.Text.{truth_text, op_text, value_text, line_rest, line_text, lines, foot, text_of}
use Rattle.lustre.proofs.Differ.{refused-answered}
use Rattle.std.specs.Prelude.{Ok, Err}
use Rattle.std.specs.Prelude.{Option, Some, None}
use Rattle.tables.specs.declared.Kind.TheVariants.{Signal, Start, Constant, Not, And, Or, BooleanPre}
use Rattle.tables.specs.declared.Kind.TheVariants.{CountPre, Capped, If, CompareLiteral, CompareParameter, Velocity}
use Rattle.tables.specs.declared.Equation.{Equation}
use Rattle.tables.specs.declared.Kind.{Kind}

-- The numbers of an equation are of 32 bits.
record Words (e : Equation) : Type 0 where
  pub a : e.a < 4294967296
  pub b : e.b < 4294967296
  pub c : e.c < 4294967296

op-few : (o : Op) → length (op_text o) ≤ 2
op-few le = omega arith
op-few lt = omega arith
op-few eq = omega arith
op-few gt = omega arith
op-few ge = omega arith

truth-few : (x : Bool) → length (truth_text x) ≤ 5
truth-few true = omega arith
truth-few false = omega arith

value-few : (q : Option Kind) (e : Equation) → Words e → length (value_text q e) ≤ 60
unfolding value_text
value-few (Some Signal) e w = simp length-append (omega (arith, digits-short e.a w.a))
value-few (Some Start) e w = omega arith
value-few (Some Constant) e w = omega (arith, truth-few (nonzero e.a))
value-few (Some Not) e w = simp length-append (omega (arith, digits-short e.a w.a))
value-few (Some And) e w = simp length-append (omega (arith, digits-short e.a w.a, digits-short e.b w.b))
value-few (Some Or) e w = simp length-append (omega (arith, digits-short e.a w.a, digits-short e.b w.b))
value-few (Some BooleanPre) e w =
    simp length-append (omega (arith, digits-short e.a w.a, truth-few (nonzero e.c)))
value-few (Some CountPre) e w = simp length-append (omega (arith, digits-short e.a w.a))
value-few (Some Capped) e w = simp length-append (omega (arith, digits-short e.a w.a, digits-short e.b w.b))
value-few (Some If) e w = simp length-append (omega (arith, digits-short e.a w.a, digits-short e.b w.b))
value-few (Some CompareLiteral) e w =
    simp length-append (omega (arith, digits-short e.a w.a, op-few (op_of e.b), digits-short e.c w.c))
value-few (Some CompareParameter) e w =
    simp length-append (omega (arith, digits-short e.a w.a, op-few (op_of e.b), digits-short e.c w.c))
value-few (Some Velocity) e w = simp length-append (omega (arith, op-few (op_of e.a), digits-short e.b w.b))
value-few None e w = omega arith

module _ (t : List ℕ) (small : (i : ℕ) → number_at t i < 4294967296) where
  line-few : (i : ℕ) → i < 4294967296 → length (line_text i (equation_at t i)) ≤ longest_line
  unfolding line_text line_rest
  line-few i h =
      let e = equation_at t i in
      let value = value-few (kind_of e.kind) e (record { a = small _; b = small _; c = small _ }) in
      simp length-append (omega (arith, digits-short i h, value))

  lines-few : (n : ℕ) → n ≤ equation_limit → length (lines t n) ≤ longest_line * n
  unfolding lines
  lines-few zero h = omega arith
  lines-few (suc n) h = simp length-append (omega (arith, lines-few n (omega arith), line-few n (omega arith)))

  -- The whole text.
  pub text-few : (n : ℕ) → n ≤ equation_limit → length (text_of t n) ≤ length_limit
  unfolding text_of foot
  text-few n h =
      let started = digits-short (started_of n) (omega arith) in
      let verdict = digits-short (verdict_of n) (omega arith) in
      simp length-append (omega (arith, lines-few n h))

  -- What a call wrote.
  pub written-few : (velocities n l : ℕ) (buffer : List ℕ) → (write_effect velocities t n buffer).answer ≡ Ok l
      → l ≤ length_limit
  unfolding write_effect after_text
  written-few velocities n l buffer e = go (write_checked velocities t n buffer) e
    where
      few : length (text_of t n) ≤ length_limit
      few = text-few n (checked-fitting velocities t n (text-written velocities t n l buffer e).0).few

      go : (c : Checked) → (effect_if c t n buffer).answer ≡ Ok l → l ≤ length_limit
      go (Ok tt) q = let k : length (text_of t n) ≡ l = cc in omega (arith, few)
      go (Err r) q = absurd (refused-answered q)
