-- `evaluate::along` meets its contract: a position of 65535ths of 254 cells fits 32 bits.
-- Assumes nothing.
use borrow.Author.Rules.{rules}
use Rattle.evaluate.proofs.Pixels.{axis-fits, found}
use Rattle.evaluate.proofs.along.Goals as goal

pub overflow_mul-position : goal.overflow_mul-position
overflow_mul-position c = search (rules, axis-fits)

pub overflow_cast-result : goal.overflow_cast-result
overflow_cast-result c = search (rules, axis-fits)

pub overflow_mul-result : goal.overflow_mul-result
overflow_mul-result c = search (rules, axis-fits)

pub returns : goal.returns
returns c = search (rules, found)
