-- `evaluate_plain::passes` meets its contract: each way out is a law of `outside`, and the bytes of all entries fit 64 bits.
-- Assumes nothing.
use borrow.Author.Rules.{rules}
use Rattle.evaluate_plain.proofs.Tests.{outside-fits, outside-laws}
use Rattle.evaluate_plain.proofs.passes.Goals as goal

pub returns-then-points-eq0 : goal.returns-then-points-eq0
returns-then-points-eq0 c = search (rules, outside-laws)

pub returns-then-len-start : goal.returns-then-len-start
returns-then-len-start c = search (rules, outside-laws)

pub overflow_mul-result : goal.overflow_mul-result
overflow_mul-result c = search (rules, outside-fits)

pub overflow_mul-result-2 : goal.overflow_mul-result-2
overflow_mul-result-2 c = search (rules, outside-fits)

pub returns : goal.returns
returns c = search (rules, outside-laws)
