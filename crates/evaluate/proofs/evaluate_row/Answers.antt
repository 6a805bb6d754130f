-- `evaluate::evaluate_row` meets its contract: 19, then 14, then the results of all pixels. What lies far back is named by its place.
-- Assumes nothing.
use borrow.Author.Rules.{rules}
use Rattle.std.proofs.lemmas.Result.{err_from_is_err_and}
use Rattle.evaluate.proofs.Rowing.{row_refused, pixels_fit, row_ready, total_fits, row_parted, row_no_room, row_done}
use Rattle.evaluate.proofs.evaluate_row.Goals as goal

pub returns-in_err-h : goal.returns-in_err-h
returns-in_err-h c =
    let p = err_from_is_err_and c.from_residual.result c.from_residual.ensures.1 in
    rw (p.1, p.2) (row_refused _ _ _ _ c.in_err-h.field-0.0 c.in_err-h.ensures)

pub overflow_mul-count : goal.overflow_mul-count
overflow_mul-count c = pixels_fit c.args.tag.now _ c.args.coordinates.now c.args.results.now _ c.in_ok-h.ensures _ c.pixels_in-count.ensures (search rules)

pub returns-then-count-numbers : goal.returns-then-count-numbers
returns-then-count-numbers c = row_parted _ _ _ _ _ c.in_ok-h.ensures _ c.pixels_in-count.ensures c.if-count-numbers.true

pub returns-then-too_few : goal.returns-then-too_few
returns-then-too_few c = row_no_room _ _ _ _ _ c.in_ok-h.ensures _ c.pixels_in-count.ensures c.if-count-numbers.false _ c.too_few.ensures c.if-too_few.true

pub overflow_mul-total : goal.overflow_mul-total
overflow_mul-total c = total_fits _ _ c.args.coordinates.now c.args.results.now _ c.in_ok-h.ensures _ c.pixels_in-count.ensures c.if-count-numbers.false _ c.too_few.ensures c.if-too_few.false (search rules)

pub all-requires : goal.all-requires
all-requires c = row_ready _ _ _ _ _ c.in_ok-h.ensures _ c.pixels_in-count.ensures c.if-count-numbers.false _ c.too_few.ensures c.if-too_few.false

pub returns : goal.returns
returns c = row_done _ _ _ _ _ c.in_ok-h.ensures _ c.pixels_in-count.ensures c.if-count-numbers.false _ c.too_few.ensures c.if-too_few.false _ c.all.ensures
