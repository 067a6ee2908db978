-- Values that differ: one law for each type. Assumes nothing.
use mathlib.Core.List.{List}
use mathlib.Core.Path.{◌≡◌}
use Prim.Native.Nat.{ℕ}
use native.Mathlib.Omega.{arith}
use Rattle.lists.specs.Decimal.Numeral.{is, missing}
use Rattle.tables.specs.declared.Equation.{Equation}
use Rattle.lustre.specs.Scan.{unlike, scanned}
use Rattle.std.specs.Prelude.{Ok, Err}
use Rattle.limits.specs.declared.Refusal.{Refusal}

pub is-missing : {v : ℕ} {l : List ℕ} → is v l ≡ missing → ⊥
is-missing e = let z : ◌≡◌ {A = ℕ} 0 1 = cc in omega arith

pub unlike-scanned : {e : Equation} {l : List ℕ} → unlike ≡ scanned e l → ⊥
unlike-scanned e = let z : ◌≡◌ {A = ℕ} 0 1 = cc in omega arith

pub refused-answered : {r : Refusal} {n : ℕ} → Err r ≡ Ok n → ⊥
refused-answered e = let z : ◌≡◌ {A = ℕ} 0 1 = cc in omega arith
