-- `evaluate::corners::mix` meets its contract: a sum of two products that fits 32 bits, rounded without a division by 65535.
-- Assumes nothing.
use borrow.Author.Rules.{rules}
use Rattle.evaluate.proofs.Channels.{mix-fits, mixed}
use Rattle.evaluate.proofs.corners.mix.Goals as goal

pub overflow_mul-t : goal.overflow_mul-t
overflow_mul-t c = search (rules, mix-fits)

pub overflow_mul-t-2 : goal.overflow_mul-t-2
overflow_mul-t-2 c = search (rules, mix-fits)

pub overflow_add-t : goal.overflow_add-t
overflow_add-t c = search (rules, mix-fits)

pub overflow_add-t-2 : goal.overflow_add-t-2
overflow_add-t-2 c = search (rules, mix-fits)

pub overflow_add-result : goal.overflow_add-result
overflow_add-result c = search (rules, mix-fits)

pub overflow_cast-result : goal.overflow_cast-result
overflow_cast-result c = search (rules, mix-fits)

pub returns : goal.returns
returns c = search (rules, mixed)
