-- `evaluate_plain::points` meets its contract.
-- Assumes nothing.
use borrow.Author.Rules.{rules}
use Rattle.evaluate_plain.proofs.Tests.{points-laws, points_fits, step_fits}
use Rattle.evaluate_plain.proofs.+points.Goals as goal

pub returns-then-left-eq0 : goal.returns-then-left-eq0
returns-then-left-eq0 t c = search (rules, points-laws)

pub returns-then-here-lt2 : goal.returns-then-here-lt2
returns-then-here-lt2 t c = search (rules, points-laws)

pub overflow_add-at : goal.overflow_add-at
overflow_add-at t c = search (rules, step_fits)

pub overflow_mul-result : goal.overflow_mul-result
overflow_mul-result t c = search (rules, points_fits)

pub returns : goal.returns
returns t c = search (rules, points-laws)
