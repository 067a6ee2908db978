-- Small tables, their classes and what packing makes of them, by computation. Each differs from what it would be if a
-- definition merged or kept too much or too little, or renamed what is no operand. Assumes nothing.
use mathlib.Core.Path.{◌≡◌, refl}
use mathlib.Core.List.{List, [], ◌∷◌, ◌++◌, map}
use Prim.Native.Nat.{ℕ, ◌-◌, ◌/◌}
use lib.ListN.{length, replicate}
use Rattle.limits.specs.Limits.{velocity_count}
use Rattle.tables.specs.Table.{all, kind_of, shape_of, same_sort, is_flow, operand_fits, shape_fits, length_fits}
use Rattle.tables.specs.Table.{equations_fit, closes, passed, checked}
use Rattle.packing.specs.Search.{first, some, count}
use Rattle.packing.specs.Operands.{refers, uses}
use Rattle.packing.specs.Pack.{renamed_number, renamed, same_equation, pass, rounds, classes, marks}
use Rattle.packing.specs.Pack.{packed_below}
use Rattle.packing.specs.Packing.{pack_checked, AfterPack, after_pack, after_packing, packing}
use Rattle.limits.specs.declared.Refusal.TheVariants.{ShortTable, EquationCount, BadEquation}
use Rattle.std.specs.Prelude.{Ok, Err}

-- A table and its packed table.
record Row : Type 0 where
  given : List ℕ
  result : List ℕ

abbrev row : List ℕ → List ℕ → Row
row t t' = record { given = t; result = t' }

-- One that packing leaves as it is.
abbrev same : List ℕ → Row
same t = row t t

-- How many equations a list has.
abbrev size : List ℕ → ℕ
size t = length t / 4

-- How many numbers the second table has.
abbrev room : ℕ
room = 48

-- What packing does with the given table, behind which more numbers stand, and a second table of nines.
abbrev packs : Row → AfterPack
packs r = after_packing (r.given ++ replicate 4 9) (size r.given) (replicate room 9)

-- What it is to do: the packed table stands at the front, and behind it the nines are kept.
abbrev expected : Row → AfterPack
expected r = after_pack (Ok (size r.result)) (r.result ++ replicate (room - length r.result) 9)

-- The second fetch of a signal goes, and what uses it uses the first.
-- f0=s5; f1=s5; f2=b; f3=f1 and f2; f4=f3 or f1;
-- f0=s5; f1=b; f2=f0 and f1; f3=f2 or f0;
abbrev fetched_twice : Row
fetched_twice =
    row (0 ∷ 5 ∷ 0 ∷ 0 ∷ 0 ∷ 5 ∷ 0 ∷ 0 ∷ 1 ∷ 0 ∷ 0 ∷ 0 ∷ 4 ∷ 1 ∷ 2 ∷ 0 ∷ 5 ∷ 3 ∷ 1 ∷ 0 ∷ [])
    (0 ∷ 5 ∷ 0 ∷ 0 ∷ 1 ∷ 0 ∷ 0 ∷ 0 ∷ 4 ∷ 0 ∷ 1 ∷ 0 ∷ 5 ∷ 2 ∷ 0 ∷ 0 ∷ [])

-- Two loops of a memory and its negation are one, though no two of their equations have the same numbers.
-- f0=false->pre(f1); f1=not f0; f2=false->pre(f3); f3=not f2; f4=f1 and f3; f5=f0 or f2;
-- f0=false->pre(f1); f1=not f0; f2=f1 and f1; f3=f0 or f0;
abbrev two_loops : Row
two_loops =
    row
    (6 ∷ 1 ∷ 0 ∷ 0 ∷ 3 ∷ 0 ∷ 0 ∷ 0 ∷ 6 ∷ 3 ∷ 0 ∷ 0 ∷ 3 ∷ 2 ∷ 0 ∷ 0 ∷ 4 ∷ 1 ∷ 3 ∷ 0 ∷ 5 ∷ 0 ∷ 2 ∷ 0 ∷ [])
    (6 ∷ 1 ∷ 0 ∷ 0 ∷ 3 ∷ 0 ∷ 0 ∷ 0 ∷ 4 ∷ 1 ∷ 1 ∷ 0 ∷ 5 ∷ 0 ∷ 0 ∷ 0 ∷ [])

-- They stay two if their memories have different first values.
-- f0=false->pre(f1); f1=not f0; f2=true->pre(f3); f3=not f2; f4=f1 and f3; f5=f0 or f2;
abbrev first_values : Row
first_values =
    same
    (6 ∷ 1 ∷ 0 ∷ 0 ∷ 3 ∷ 0 ∷ 0 ∷ 0 ∷ 6 ∷ 3 ∷ 0 ∷ 1 ∷ 3 ∷ 2 ∷ 0 ∷ 0 ∷ 4 ∷ 1 ∷ 3 ∷ 0 ∷ 5 ∷ 0 ∷ 2 ∷ 0 ∷ [])

-- Numbers that are no operands stay, here each 1, where equation 1 becomes equation 0.
-- f0=b; f1=b; f2=s1; f3=true; f4=true->pre(f2); f5=0->pre(f5); f6=f5<1; f7=f5<k1; f8=f1 and f3; f9=f4 or f6;
-- f10=f7 and f8; f11=f9 or f10;
-- f0=b; f1=s1; f2=true; f3=true->pre(f1); f4=0->pre(f4); f5=f4<1; f6=f4<k1; f7=f0 and f2; f8=f3 or f5;
-- f9=f6 and f7; f10=f8 or f9;
abbrev other_numbers : Row
other_numbers =
    row
    (1 ∷ 0 ∷ 0 ∷ 0 ∷ 1 ∷ 0 ∷ 0 ∷ 0 ∷ 0 ∷ 1 ∷ 0 ∷ 0 ∷ 2 ∷ 1 ∷ 0 ∷ 0 ∷ 6 ∷ 2 ∷ 0 ∷ 1 ∷ 7 ∷ 5 ∷ 0 ∷ 0
    ∷ 10 ∷ 5 ∷ 1 ∷ 1 ∷ 11 ∷ 5 ∷ 1 ∷ 1 ∷ 4 ∷ 1 ∷ 3 ∷ 0 ∷ 5 ∷ 4 ∷ 6 ∷ 0 ∷ 4 ∷ 7 ∷ 8 ∷ 0 ∷ 5 ∷ 9 ∷ 10 ∷ 0 ∷ [])
    (1 ∷ 0 ∷ 0 ∷ 0 ∷ 0 ∷ 1 ∷ 0 ∷ 0 ∷ 2 ∷ 1 ∷ 0 ∷ 0 ∷ 6 ∷ 1 ∷ 0 ∷ 1 ∷ 7 ∷ 4 ∷ 0 ∷ 0 ∷ 10 ∷ 4 ∷ 1 ∷ 1
    ∷ 11 ∷ 4 ∷ 1 ∷ 1 ∷ 4 ∷ 0 ∷ 2 ∷ 0 ∷ 5 ∷ 3 ∷ 5 ∷ 0 ∷ 4 ∷ 6 ∷ 7 ∷ 0 ∷ 5 ∷ 8 ∷ 9 ∷ 0 ∷ [])

-- What the last two do not reach goes, also where it uses itself; what they reach only through a memory stays.
-- f0=s3; f1=false->pre(f1); f2=true->pre(f3); f3=s4; f4=not f2; f5=f2 or f4;
-- f0=true->pre(f1); f1=s4; f2=not f0; f3=f0 or f2;
abbrev unreached : Row
unreached =
    row
    (0 ∷ 3 ∷ 0 ∷ 0 ∷ 6 ∷ 1 ∷ 0 ∷ 0 ∷ 6 ∷ 3 ∷ 0 ∷ 1 ∷ 0 ∷ 4 ∷ 0 ∷ 0 ∷ 3 ∷ 2 ∷ 0 ∷ 0 ∷ 5 ∷ 2 ∷ 4 ∷ 0 ∷ [])
    (6 ∷ 1 ∷ 0 ∷ 1 ∷ 0 ∷ 4 ∷ 0 ∷ 0 ∷ 3 ∷ 0 ∷ 0 ∷ 0 ∷ 5 ∷ 0 ∷ 2 ∷ 0 ∷ [])

-- The last two stay where they repeat earlier equations, which they use then,
-- f0=true->pre(f1); f1=not f0; f2=true->pre(f3); f3=not f2;
-- f0=true->pre(f1); f1=not f0; f2=true->pre(f1); f3=not f0;
abbrev repeated : Row
repeated =
    row (6 ∷ 1 ∷ 0 ∷ 1 ∷ 3 ∷ 0 ∷ 0 ∷ 0 ∷ 6 ∷ 3 ∷ 0 ∷ 1 ∷ 3 ∷ 2 ∷ 0 ∷ 0 ∷ [])
    (6 ∷ 1 ∷ 0 ∷ 1 ∷ 3 ∷ 0 ∷ 0 ∷ 0 ∷ 6 ∷ 1 ∷ 0 ∷ 1 ∷ 3 ∷ 0 ∷ 0 ∷ 0 ∷ [])

-- and where they are the same: f0=s5; f1=s5;
abbrev last_same : Row
last_same = same (0 ∷ 5 ∷ 0 ∷ 0 ∷ 0 ∷ 5 ∷ 0 ∷ 0 ∷ [])

-- Equations stay apart that differ in a literal, a comparison or their kind alone,
-- f0=0->pre(f0); f1=f0<0; f2=f0<1; f3=f0>1; f4=f0>k1; f5=f1 and f2; f6=f3 and f4; f7=f5 or f6;
abbrev literals : Row
literals =
    same
    (7 ∷ 0 ∷ 0 ∷ 0 ∷ 10 ∷ 0 ∷ 1 ∷ 0 ∷ 10 ∷ 0 ∷ 1 ∷ 1 ∷ 10 ∷ 0 ∷ 3 ∷ 1 ∷ 11 ∷ 0 ∷ 3 ∷ 1 ∷ 4 ∷ 1 ∷ 2 ∷ 0
    ∷ 4 ∷ 3 ∷ 4 ∷ 0 ∷ 5 ∷ 5 ∷ 6 ∷ 0 ∷ [])

-- or in the order of their operands,
-- f0=s0; f1=s1; f2=f0 and f1; f3=f1 and f0; f4=f0 or f1; f5=f2 and f3; f6=f5 or f4;
abbrev orders : Row
orders =
    same
    (0 ∷ 0 ∷ 0 ∷ 0 ∷ 0 ∷ 1 ∷ 0 ∷ 0 ∷ 4 ∷ 0 ∷ 1 ∷ 0 ∷ 4 ∷ 1 ∷ 0 ∷ 0 ∷ 5 ∷ 0 ∷ 1 ∷ 0 ∷ 4 ∷ 2 ∷ 3 ∷ 0
    ∷ 5 ∷ 5 ∷ 4 ∷ 0 ∷ [])

-- or in an operand's operand, however far.
-- f0=s0; f1=s1; f2=not f0; f3=not f1; f4=not f2; f5=not f3; f6=true->pre(f4); f7=true->pre(f5); f8=not f6; f9=not f7;
-- f10=f8 and f9; f11=f8 or f9;
abbrev far_apart : Row
far_apart =
    same
    (0 ∷ 0 ∷ 0 ∷ 0 ∷ 0 ∷ 1 ∷ 0 ∷ 0 ∷ 3 ∷ 0 ∷ 0 ∷ 0 ∷ 3 ∷ 1 ∷ 0 ∷ 0 ∷ 3 ∷ 2 ∷ 0 ∷ 0 ∷ 3 ∷ 3 ∷ 0 ∷ 0
    ∷ 6 ∷ 4 ∷ 0 ∷ 1 ∷ 6 ∷ 5 ∷ 0 ∷ 1 ∷ 3 ∷ 6 ∷ 0 ∷ 0 ∷ 3 ∷ 7 ∷ 0 ∷ 0 ∷ 4 ∷ 8 ∷ 9 ∷ 0 ∷ 5 ∷ 8 ∷ 9 ∷ 0 ∷ [])

-- Tests of the velocity: those with one comparison and one literal are merged, and those that differ in either stay.
-- Both numbers stay, here 1 and 1, where equation 1 becomes equation 0.
-- f0=b; f1=b; f2=v<1; f3=v<1; f4=v<=1; f5=v<2; f6=f1 and f3; f7=f4 and f5; f8=f6 or f7; f9=f8 and f2;
-- f0=b; f1=v<1; f2=v<=1; f3=v<2; f4=f0 and f1; f5=f2 and f3; f6=f4 or f5; f7=f6 and f1;
abbrev strokes : Row
strokes =
    row
    (1 ∷ 0 ∷ 0 ∷ 0 ∷ 1 ∷ 0 ∷ 0 ∷ 0 ∷ 12 ∷ 1 ∷ 1 ∷ 0 ∷ 12 ∷ 1 ∷ 1 ∷ 0 ∷ 12 ∷ 0 ∷ 1 ∷ 0 ∷ 12 ∷ 1 ∷ 2 ∷ 0
    ∷ 4 ∷ 1 ∷ 3 ∷ 0 ∷ 4 ∷ 4 ∷ 5 ∷ 0 ∷ 5 ∷ 6 ∷ 7 ∷ 0 ∷ 4 ∷ 8 ∷ 2 ∷ 0 ∷ [])
    (1 ∷ 0 ∷ 0 ∷ 0 ∷ 12 ∷ 1 ∷ 1 ∷ 0 ∷ 12 ∷ 0 ∷ 1 ∷ 0 ∷ 12 ∷ 1 ∷ 2 ∷ 0 ∷ 4 ∷ 0 ∷ 1 ∷ 0 ∷ 4 ∷ 2 ∷ 3 ∷ 0
    ∷ 5 ∷ 4 ∷ 5 ∷ 0 ∷ 4 ∷ 6 ∷ 1 ∷ 0 ∷ [])

abbrev rows : List Row
rows =
    fetched_twice ∷ two_loops ∷ first_values ∷ other_numbers ∷ unreached ∷ repeated ∷ last_same ∷ literals ∷ orders
    ∷ far_apart ∷ strokes ∷ []

-- The given tables pass the check.
check-rows : map (λ (r : Row). checked velocity_count r.given (size r.given)) rows ≡ map (λ (r : Row). passed) rows
unfolding checked length_fits equations_fit closes all shape_fits shape_of kind_of operand_fits is_flow same_sort
check-rows = refl

-- Packing does with each what it is to do.
pack-rows : map packs rows ≡ map expected rows
unfolding after_packing first some count renamed_number renamed refers uses same_equation pass rounds marks packed_below
    kind_of shape_of
pack-rows = refl

-- The class of each equation of a row's table.
abbrev classes_of : Row → List ℕ → List ℕ
classes_of r = map (classes r.given (size r.given))

-- The two loops have two classes, and of `other_numbers` only equations 0 and 1 are of one class.
class-rows : classes_of two_loops (0 ∷ 1 ∷ 2 ∷ 3 ∷ 4 ∷ 5 ∷ [])
    ∷ classes_of other_numbers (0 ∷ 1 ∷ 2 ∷ 3 ∷ 4 ∷ 5 ∷ 6 ∷ 7 ∷ 8 ∷ 9 ∷ 10 ∷ 11 ∷ []) ∷ []
    ≡ (0 ∷ 1 ∷ 0 ∷ 1 ∷ 4 ∷ 5 ∷ []) ∷ (0 ∷ 0 ∷ 2 ∷ 3 ∷ 4 ∷ 5 ∷ 6 ∷ 7 ∷ 8 ∷ 9 ∷ 10 ∷ 11 ∷ []) ∷ []
unfolding first renamed_number renamed same_equation pass rounds kind_of shape_of
class-rows = refl

-- No equation, one alone, which closes no table, and too short a second table: refused by 10, 11 and 9 in this order,
-- and the second table is kept.
refused-rows : map (λ n. packing velocity_count fetched_twice.given n (7 ∷ [])) (0 ∷ 1 ∷ 5 ∷ [])
    ≡ map (λ r. after_pack (Err r) (7 ∷ [])) (EquationCount ∷ BadEquation ∷ ShortTable ∷ [])
unfolding packing pack_checked length_fits equations_fit closes all shape_fits shape_of kind_of operand_fits is_flow
    same_sort
refused-rows = refl
