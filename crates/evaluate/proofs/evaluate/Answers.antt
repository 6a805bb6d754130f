-- `evaluate::evaluate` meets its contract: 19, then 14, then the results.
-- Assumes nothing.
use borrow.Author.Rules.{rules}
use Rattle.std.proofs.lemmas.Result.{err_from_is_err_and}
use Rattle.evaluate_meaning.proofs.Answered.{pixel_uneven}
use Rattle.evaluate.proofs.Judging.{pixel_refused, pixel_no_room, pixel_spot, pixel_done}
use Rattle.evaluate.proofs.evaluate.Goals as goal

pub returns-in_err-h : goal.returns-in_err-h
returns-in_err-h c =
    let p = err_from_is_err_and c.from_residual.result c.from_residual.ensures.1 in
    rw (p.1, p.2) (pixel_refused _ _ _ _ c.in_err-h.field-0.0 c.in_err-h.ensures)

pub returns-then-coordinates-numbers : goal.returns-then-coordinates-numbers
returns-then-coordinates-numbers c = search (rules, pixel_uneven)

pub returns-then-results-outs : goal.returns-then-results-outs
returns-then-results-outs c = pixel_no_room _ _ _ _ _ c.in_ok-h.ensures c.if-coordinates-numbers.false c.if-results-outs.true

pub one-requires : goal.one-requires
one-requires c = pixel_spot _ _ _ _ _ c.in_ok-h.ensures c.if-coordinates-numbers.false c.if-results-outs.false

pub returns : goal.returns
returns c = pixel_done _ _ _ _ _ c.in_ok-h.ensures c.if-coordinates-numbers.false c.if-results-outs.false _ c.one.ensures
