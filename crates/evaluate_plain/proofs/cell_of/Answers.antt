-- `evaluate_plain::cell_of` meets its contract: the cell and the rest are those of the meaning, and lie in the dimension.
-- Assumes nothing.
use borrow.Author.Rules.{rules}
use Rattle.evaluate_plain.proofs.Values.{cell_laws}
use Rattle.evaluate_plain.proofs.cell_of.Goals as goal

pub overflow_mul-position : goal.overflow_mul-position
overflow_mul-position c = search (rules, cell_laws)

pub overflow_cast-result : goal.overflow_cast-result
overflow_cast-result c = search (rules, cell_laws)

pub returns : goal.returns
returns c = search (rules, cell_laws)
