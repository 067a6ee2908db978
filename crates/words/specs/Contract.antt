-- What splitting a text asks of its context and of the buffer of words, what it answers, and what it leaves in the
-- buffer. Definitions only.
use Rattle.std.specs.Prelude.{◌≡◌, List, ℕ, ◌+◌, ◌≤◌, ◌<◌, length, Result, Ok, Err}
use Rattle.std.proofs.lemmas.List.Edits.{sets}
use Rattle.limits.specs.Limits.{word_limit}
use Rattle.limits.specs.declared.Context.{Context}
use Rattle.limits.specs.declared.Refusal.{Refusal}
use Rattle.lists.specs.Number.{number_at}
use Rattle.words.specs.Word.{VELOCITY, LITERAL}
use Rattle.words.specs.Split.{class_of, Out, split_of}
use Rattle.words.specs.Split.Out.{refused, made}

-- A context's velocities have words of their own: there is one, and the words of all are below those of other literals
-- (SPEC 2.11).
pub record Ranged (context : Context) : Type 0 where
  pub some : 0 < context.velocities
  pub few : VELOCITY + context.velocities ≤ LITERAL

-- What splitting a text asks: such a context, and a buffer that takes all words that a rule can have.
pub record Splittable (context : Context) (out : List ℕ) : Type 0 where
  pub ranged : Ranged context
  pub room : word_limit ≤ length out

-- What reading the first word of a text asks: such a context, and a first byte, whose class is c.
pub record Begun (context : Context) (text : List ℕ) (c : ℕ) : Type 0 where
  pub ranged : Ranged context
  pub some : 0 < length text
  pub class : c ≡ class_of (number_at text 0)

-- How many words a text has, or the refusal.
abbrev pub Split : Type 0
Split = Result ℕ Refusal

abbrev pub split_answer : Out → Split
split_answer (refused r) = Err r
split_answer (made ws) = Ok (length ws)

-- The answer r for a text, and the buffer as it was lent, out₀, and as it is left, out: at its front stand the words,
-- all else is kept.
pub record Splits (context : Context) (text out₀ : List ℕ) (r : Split) (out : List ℕ) : Type 0 where
  pub result : r ≡ split_answer (split_of context text)
  pub filled : (ws : List ℕ) → split_of context text ≡ made ws → out ≡ sets out₀ 0 ws
  pub few : (ws : List ℕ) → split_of context text ≡ made ws → length ws ≤ word_limit
