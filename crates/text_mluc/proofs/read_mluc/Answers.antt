-- `text_mluc::read_mluc` meets its contract: records that are judged whole are written.
-- Assumes nothing.
use borrow.Author.Rules.{rules}
use Rattle.text_mluc.proofs.Laws.{mluc_laws}
use Rattle.text_mluc.proofs.read_mluc.Goals as goal

pub returns-in-Ok : goal.returns-in-Ok
returns-in-Ok c = search (rules, mluc_laws)
