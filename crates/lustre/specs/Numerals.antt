-- Numbers as texts: decimal numerals (SPEC 9.4). Definitions only.
use Rattle.std.specs.Prelude.{cond, List, [], ◌∷◌, ◌++◌, ℕ, zero, suc, ◌/◌, ◌%◌, ltb}
use Rattle.lists.specs.Decimal.{digit}

-- The digits of x, the last one apart, for x up to k.
unfoldable pub digits : ℕ → ℕ → List ℕ
digits zero x = digit x ∷ []
digits (suc k) x = let more = digits k (x / 10) ++ (digit (x % 10) ∷ []) in cond (ltb x 10) (digit x ∷ []) more

-- SPEC 9.4: the digits of a number, the first of them 0 for 0 alone (SPEC 2.8).
unfoldable pub number_text : ℕ → List ℕ
number_text x = digits x x
