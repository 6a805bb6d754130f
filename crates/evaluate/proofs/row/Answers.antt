-- `evaluate::row` meets its contract: the pixels that are left, behind those that are written, are all of them.
-- Assumes nothing.
use borrow.Author.Rules.{rules}
use Rattle.evaluate.proofs.Rowing.{row_begins, row_turns, row_ends}
use Rattle.evaluate.proofs.row.Goals as goal

pub loop-k-init : goal.loop-k-init
loop-k-init g c = search (rules, row_begins)

pub loop-k-preserved : goal.loop-k-preserved
loop-k-preserved g c = search (rules, row_turns)

pub returns : goal.returns
returns g c = search (rules, row_ends)
