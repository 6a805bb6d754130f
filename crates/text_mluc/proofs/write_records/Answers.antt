-- `text_mluc::write_records` meets its contract: no record is met that is not whole.
-- Assumes nothing.
use borrow.Author.Rules.{rules}
use Rattle.text_mluc.proofs.Records.{write_never}
use Rattle.text_mluc.proofs.write_records.Goals as goal

pub returns-in_default : goal.returns-in_default
returns-in_default c = absurd (search (rules, write_never))
