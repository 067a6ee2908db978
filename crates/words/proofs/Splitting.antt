-- What is known while a text is split, word by word, and what its answer is. Assumes nothing.
use mathlib.Core.Bool.{Bool, true, false, cond, ◌&&◌}
use mathlib.Core.List.{List, [], ◌∷◌, ◌++◌, reverse-append}
use mathlib.Core.Path.{◌≡◌, refl, sym, ap, ◌∙◌}
use Prim.Native.Nat.{ℕ, ◌+◌, ◌≤◌, ◌<◌}
use native.Mathlib.Nat.{zero-add}
use native.Mathlib.Omega.{arith}
use lib.Dec.{eqb}
use lib.ListN.{length, drop, set, length-append}
use lib.Seq.{sets}
use borrow.Author.Tests.{eq-eqb, ne_eqb}
use Rattle.limits.specs.Limits.{word_limit}
use Rattle.limits.specs.declared.Context.{Context}
use Rattle.limits.specs.declared.Refusal.{Refusal}
use Rattle.lists.specs.Number.{number_at}
use Rattle.lists.proofs.Buffers.{sets-append}
use Rattle.words.specs.Word.{VEL, is_op}
use Rattle.words.specs.Split.{SPACE, class_of, begins, back, awaits_velocity, word_of, add, words}
use Rattle.words.specs.Split.{wrong_size, split_of}
use Rattle.words.specs.Split.Out.{refused, made}
use Rattle.words.specs.Width.{width_of}
use Rattle.words.specs.Contract.{split_answer, Splits}
use Rattle.words.proofs.Widths.{text-past}
use Rattle.words.specs.Split.{Word}
use Rattle.std.specs.Prelude.{Ok, Err}
use Rattle.std.proofs.lemmas.List.{nil_from_length}
use Rattle.limits.specs.declared.Refusal.TheVariants.{TextSize, TooManyWords}

-- Refusal 1, or the words of the whole text.
module _ (context : Context) (text : List ℕ) where
  pub split-size : wrong_size text ≡ true → split_of context text ≡ refused TextSize
  unfolding split_of
  split-size h = simp h

  pub split-words : wrong_size text ≡ false → split_of context text ≡ words context text SPACE []
  unfolding split_of
  split-words h = simp h

-- A refusal is no list of words,
pub refused-made : {r : Refusal} {ws : List ℕ} → refused r ≡ made ws → ⊥
refused-made e = cc

-- so it promises nothing of the buffer.
pub refuses : (context : Context) (text out₀ out : List ℕ) (r : Refusal) → split_of context text ≡ refused r
    → Splits context text out₀ (Err r) out
refuses context text out₀ out r e =
    record {
      result = ap split_answer (sym e);
      filled = λ ws m. absurd (refused-made (sym e ∙ m));
      few = λ ws m. absurd (refused-made (sym e ∙ m));
    }

-- Where no word goes on: the first `count` words are stored, the last two of them are known, and what is left of the
-- text gives the other words.
pub record Splitting (context : Context) (text out₀ out : List ℕ) (before last count : ℕ) (rest : List ℕ) : Type 0 where
  pub ws : List ℕ
  pub goes : words context text SPACE [] ≡ words context rest SPACE ws
  pub counted : count ≡ length ws
  pub few : count ≤ word_limit
  pub stored : out ≡ sets out₀ 0 ws
  pub last-is : last ≡ back 0 ws
  pub before-is : before ≡ back 1 ws

-- The words from the end, with one word more.
back_last : (ws : List ℕ) (w : ℕ) → back 0 (ws ++ w ∷ []) ≡ w
back_last ws w = ap (λ (l : List ℕ). number_at l 0) (reverse-append ws (w ∷ []))

back-before : (ws : List ℕ) (w : ℕ) → back 1 (ws ++ w ∷ []) ≡ back 0 ws
back-before ws w = ap (λ (l : List ℕ). number_at l 1) (reverse-append ws (w ∷ []))

-- The definition at the first byte of what is left.
words-first : (context : Context) (rest ws : List ℕ) → 0 < length rest
    → words context rest SPACE ws
    ≡ let c = class_of (number_at rest 0) in
    let word = word_of context (awaits_velocity ws) c rest in
    let one = add word ws (λ more. words context (drop 1 rest) c more) in
    cond (begins SPACE c) (cond (eqb (length ws) word_limit) (refused TooManyWords) one)
    (words context (drop 1 rest) c ws)
unfolding words
words-first context [] ws h = absurd (omega arith)
words-first context (b ∷ l) ws h = refl

-- What that byte, of class c, does.
module _ {context : Context} {text out₀ out rest : List ℕ} {before last count : ℕ}
    (h : Splitting context text out₀ out before last count rest) (l : 0 < length rest) (c : ℕ)
    (e : c ≡ class_of (number_at rest 0)) where
  -- The word there.
  abbrev word-here : Bool → Word
  word-here awaited = word_of context awaited c rest

  turn : (awaited : Bool) → awaited ≡ (eqb before VEL && is_op last)
      → words context text SPACE []
      ≡ let one = add (word-here awaited) h.ws (λ more. words context (drop 1 rest) c more) in
      cond (begins SPACE c) (cond (eqb count word_limit) (refused TooManyWords) one)
      (words context (drop 1 rest) c h.ws)
  turn awaited a = h.goes ∙ words-first context rest h.ws l ∙ rw (← e, ← h.counted, a, h.before-is, h.last-is)

  pub skips : c ≡ SPACE → Splitting context text out₀ out before last count (drop 1 rest)
  skips b =
      record {
        ws = h.ws;
        goes = turn _ refl ∙ simp b;
        counted = h.counted;
        few = h.few;
        stored = h.stored;
        last-is = h.last-is;
        before-is = h.before-is;
      }

  pub too_many : (c ≡ SPACE → ⊥) → count ≡ word_limit → words context text SPACE [] ≡ refused TooManyWords
  too_many b f = turn _ refl ∙ simp (ne_eqb c SPACE b, eq-eqb count word_limit f)

  -- A word, where there is room for it.
  module _ (awaited : Bool) (a : awaited ≡ (eqb before VEL && is_op last)) (b : c ≡ SPACE → ⊥)
      (f : count ≡ word_limit → ⊥) where
    pub breaks : (r : Refusal) → Err r ≡ word-here awaited → words context text SPACE [] ≡ refused r
    breaks r w = turn awaited a ∙ simp (ne_eqb c SPACE b, ne_eqb count word_limit f, sym w)

    pub adds : (word width : ℕ) → Ok word ≡ word-here awaited → width ≡ width_of c rest
        → Splitting context text out₀ (set out count word) last word (count + 1) (drop width rest)
    adds word width w g =
        record {
          ws = h.ws ++ word ∷ [];
          goes =
              turn awaited a
              ∙ simp (ne_eqb c SPACE b, ne_eqb count word_limit f, sym w) (rw g (text-past context c rest _ l e));
          counted = simp length-append (omega (arith, h.counted));
          few = omega (arith, h.few);
          stored =
              ap (λ (o : List ℕ). set o count word) h.stored
              ∙ ap (λ (n : ℕ). set (sets out₀ 0 h.ws) n word) (h.counted ∙ sym (zero-add _))
              ∙ sets-append out₀ 0 h.ws (word ∷ []);
          last-is = sym (back_last h.ws word);
          before-is = h.last-is ∙ sym (back-before h.ws word);
        }

-- At the end of the text.
module _ {context : Context} {text out₀ out rest : List ℕ} {before last count : ℕ}
    (h : Splitting context text out₀ out before last count rest)
    (by-words : split_of context text ≡ words context text SPACE []) (l : length rest ≡ 0) where
  all_words : split_of context text ≡ made h.ws
  unfolding words
  all_words = by-words ∙ h.goes ∙ ap (λ (r : List ℕ). words context r SPACE h.ws) (nil_from_length rest l)

  same-words : (ws : List ℕ) → split_of context text ≡ made ws → h.ws ≡ ws
  same-words ws m = let both : made h.ws ≡ made ws = sym all_words ∙ m in cc

  pub splitting-done : Splits context text out₀ (Ok count) out
  splitting-done =
      record {
        result = ap Ok h.counted ∙ ap split_answer (sym all_words);
        filled = λ ws m. h.stored ∙ ap (λ (x : List ℕ). sets out₀ 0 x) (same-words ws m);
        few = λ ws m. omega (arith, ap length (same-words ws m), h.counted, h.few);
      }
