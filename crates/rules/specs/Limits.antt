-- How deep a rule may be (SPEC 2.10), and refusal 5. Definitions only.
use Rattle.std.specs.Prelude.{Bool, false, ◌||◌, cond, List, [], ◌∷◌, ℕ, suc, pred, eqb, ltb}
use Rattle.words.specs.Word.{ROUND, ROUND-END, NOT, THEN, CHOP, EXISTS}

-- SPEC 2.10: how many round brackets are open after the word w, of d before it. A closing one where none is open leaves
-- the count at none.
abbrev pub opened : ℕ → ℕ → ℕ
opened d w = cond (eqb w ROUND) (suc d) (cond (eqb w ROUND-END) (pred d) d)

-- SPEC 2.10: how many may be open at a word.
abbrev pub bracket_limit : ℕ
bracket_limit = 16

unfoldable pub deep : ℕ → List ℕ → Bool
deep d [] = false
deep d (w ∷ ws) = ltb bracket_limit (opened d w) || deep (opened d w) ws

-- SPEC 2.10: the four words that are counted,
unfoldable pub counted : ℕ → Bool
counted w = eqb w NOT || (eqb w THEN || (eqb w CHOP || eqb w EXISTS))

-- how many of them there are, all four in one count,
unfoldable pub operator_count : List ℕ → ℕ
operator_count [] = 0
operator_count (w ∷ ws) = cond (counted w) (suc (operator_count ws)) (operator_count ws)

-- and how many there may be.
abbrev pub operator_limit : ℕ
operator_limit = 32

-- SPEC 7.5: one of the two limits is passed.
abbrev pub beyond_limits : List ℕ → Bool
beyond_limits ws = deep 0 ws || ltb operator_limit (operator_count ws)
