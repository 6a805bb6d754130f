-- `lines::put` meets its contract: what is left to write makes of the buffer what all the bytes make of it.
-- Assumes nothing.
use borrow.Author.Rules.{rules}
use Rattle.lines.proofs.Writing.{full}
use Rattle.lines.proofs.put.Goals as goal

pub returns-then-out-end : goal.returns-then-out-end
returns-then-out-end c = search (rules, full)
