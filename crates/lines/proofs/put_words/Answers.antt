-- `lines::put_words` meets its contract: what is left to write makes the whole.
-- Assumes nothing.
use borrow.Author.Rules.{rules}
use Rattle.lines.proofs.Laws.{row_turns, row_ends}
use Rattle.lines.proofs.put_words.Goals as goal

pub loop-i-preserved : goal.loop-i-preserved
loop-i-preserved c = search (rules, row_turns)

pub returns : goal.returns
returns c = search (rules, row_ends)
