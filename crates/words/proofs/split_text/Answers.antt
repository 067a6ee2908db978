-- The first refusal decides. A space leaves the words as they are, and any other byte begins one word more, which takes
-- a byte at least and no more than there are.
use Rattle.std.proofs.Common.{sym, ◌∙◌, refl, length-drop, arith}
use Rattle.std.proofs.lemmas.Result.{err_from_is_err_and}
use borrow.Author.Rules.{part_to_end}
use Rattle.words.proofs.Widths.{width_some, width_fits}
use Rattle.words.proofs.Splitting.{split-size, split-words, refuses, splitting-done, skips, too_many, breaks, adds}
use Rattle.words.proofs.split_text.Goals as goal

pub returns-then-wrong_size : goal.returns-then-wrong_size
returns-then-wrong_size c = refuses _ _ _ _ _ (split-size _ _ (sym c.wrong_size.ensures ∙ c.if-wrong_size.true))

pub loop-rest-preserved-then-c-eq-SPACE : goal.loop-rest-preserved-then-c-eq-SPACE
loop-rest-preserved-then-c-eq-SPACE c =
    rw (part_to_end c.loop-rest.rest.now 1)
    (skips c.loop-rest.invariant (omega arith) c.class-c.result c.class-c.ensures c.if-c-eq-SPACE.true)

pub returns-then-count-eq-WORDS : goal.returns-then-count-eq-WORDS
returns-then-count-eq-WORDS c =
    refuses _ _ _ _ _
    (split-words _ _ (sym c.wrong_size.ensures ∙ c.if-wrong_size.false)
    ∙ too_many c.loop-rest.invariant (omega arith) c.class-c.result c.class-c.ensures c.if-c-eq-SPACE.false
    c.if-count-eq-WORDS.true)

pub returns-in_err-token : goal.returns-in_err-token
returns-in_err-token c =
    let p = err_from_is_err_and c.from_residual.result c.from_residual.ensures.1 in
    rw (p.1, p.2)
    (refuses _ _ _ _ _
    (split-words _ _ (sym c.wrong_size.ensures ∙ c.if-wrong_size.false)
    ∙ breaks c.loop-rest.invariant (omega arith) c.class-c.result c.class-c.ensures _ refl
    c.if-c-eq-SPACE.false c.if-count-eq-WORDS.false _ c.in_err-token.ensures))

pub slice_bounds-rest-count : goal.slice_bounds-rest-count
slice_bounds-rest-count c =
    omega (arith, width_fits c.class-c.result c.loop-rest.rest.now (omega arith), c.in_ok-token.ensures)

pub slice_bounds-rest-start : goal.slice_bounds-rest-start
slice_bounds-rest-start c =
    omega (arith, width_fits c.class-c.result c.loop-rest.rest.now (omega arith), c.in_ok-token.ensures)

pub loop-rest-smaller : goal.loop-rest-smaller
loop-rest-smaller c =
    rw (part_to_end c.loop-rest.rest.now c.in_ok-token.token.width)
    (omega (
      arith,
      width_some c.class-c.result c.loop-rest.rest.now (omega arith) c.class-c.ensures,
      length-drop c.in_ok-token.token.width c.loop-rest.rest.now,
      c.in_ok-token.ensures,
    ))

pub loop-rest-preserved : goal.loop-rest-preserved
loop-rest-preserved c =
    rw (part_to_end c.loop-rest.rest.now c.in_ok-token.token.width)
    (adds c.loop-rest.invariant (omega arith) c.class-c.result c.class-c.ensures _ refl
    c.if-c-eq-SPACE.false c.if-count-eq-WORDS.false _ _ c.in_ok-token.ensures.0 c.in_ok-token.ensures.1)

pub returns : goal.returns
returns c =
    splitting-done c.loop-rest.invariant (split-words _ _ (sym c.wrong_size.ensures ∙ c.if-wrong_size.false))
    (omega arith)
