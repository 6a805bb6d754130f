-- `exports::smalls::khalyksor_full_range` meets its contract: by whether the flag is 1.
-- Assumes nothing.
use borrow.Author.Tests.{eq-eqb, ne_eqb}
use Rattle.exports.proofs.smalls.khalyksor_full_range.Goals as goal

pub returns-then-range : goal.returns-then-range
returns-then-range c = simp (eq-eqb _ _ c.if-range.true)

pub returns-else-range : goal.returns-else-range
returns-else-range c = simp (ne_eqb _ _ c.if-range.false)
