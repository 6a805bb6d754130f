-- `lines::put_number` meets its contract: the byte and the digits behind it are the text.
-- Assumes nothing.
use Rattle.lines.proofs.Laws.{number_wrote}
use borrow.Author.Rules.{rules}
use Rattle.lines.proofs.put_number.Goals as goal

pub returns : goal.returns
returns c = number_wrote c.args.n c.decimal-k.result c.put-next.ensures (search rules) c.decimal-k.ensures.len c.decimal-k.ensures.digits c.put.ensures
