-- `evaluate::dim` meets its contract: a byte of the grid, 0 past the tag.
-- Assumes nothing.
use borrow.Author.Rules.{rules}
use Rattle.evaluate.proofs.Judging.{dim-laws, dim-fits}
use Rattle.evaluate.proofs.dim.Goals as goal

pub returns-then-n-k : goal.returns-then-n-k
returns-then-n-k c = search (rules, dim-laws)

pub overflow_mul-i : goal.overflow_mul-i
overflow_mul-i c = search (rules, dim-fits)

pub overflow_add-i : goal.overflow_add-i
overflow_add-i c = search (rules, dim-fits)

pub returns-then-tag-i : goal.returns-then-tag-i
returns-then-tag-i c = search (rules, dim-laws)

pub returns-then-g-lt2 : goal.returns-then-g-lt2
returns-then-g-lt2 c = search (rules, dim-laws)

pub returns : goal.returns
returns c = search (rules, dim-laws)
