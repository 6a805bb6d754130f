-- `evaluate_plain::blended` meets its contract: no product and no sum passes 32 bits, and the quotient is one of 16.
-- Assumes nothing.
use borrow.Author.Rules.{rules}
use Rattle.evaluate_plain.proofs.Values.{blend-laws}
use Rattle.evaluate_meaning.specs.Colour.{blend}
use Rattle.evaluate_plain.proofs.blended.Goals as goal

pub overflow_mul-sum : goal.overflow_mul-sum
overflow_mul-sum c = search (rules, blend-laws)

pub overflow_mul-sum-2 : goal.overflow_mul-sum-2
overflow_mul-sum-2 c = search (rules, blend-laws)

pub overflow_add-sum : goal.overflow_add-sum
overflow_add-sum c = search (rules, blend-laws)

pub overflow_add-result : goal.overflow_add-result
overflow_add-result c = search (rules, blend-laws)

pub overflow_cast-result : goal.overflow_cast-result
overflow_cast-result c = search (rules, blend-laws)

pub returns : goal.returns
unfolding blend
returns c = search rules
