-- `evaluate_plain::corner` meets its contract: the entry is there, so the view answers it, and a byte widened has 16 bits.
-- Assumes nothing.
use borrow.Author.Rules.{rules}
use Rattle.evaluate_plain.proofs.Values.{corner-laws, widened_fits}
use Rattle.evaluate_plain.proofs.corner.Goals as goal

pub returns-in_default : goal.returns-in_default
returns-in_default c = search (rules, corner-laws)

pub overflow_mul-result : goal.overflow_mul-result
overflow_mul-result c = search (rules, widened_fits, c.shared_slice_known-1.given)

pub returns-then-numbers-eq1 : goal.returns-then-numbers-eq1
returns-then-numbers-eq1 c = search (rules, corner-laws)

pub returns : goal.returns
returns c = search (rules, corner-laws)
