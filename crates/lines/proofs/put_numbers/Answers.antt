-- `lines::put_numbers` meets its contract: the words are written as the numbers that they are.
-- Assumes nothing.
use Rattle.lines.proofs.Laws.{wrote_numbers}
use Rattle.lines.proofs.put_numbers.Goals as goal

pub returns : goal.returns
returns c = wrote_numbers c.put_row.ensures
