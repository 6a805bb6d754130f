-- `text_mluc::write_all` meets its contract: refused where the slots are too few, and else written.
-- Assumes nothing.
use borrow.Author.Rules.{rules}
use Rattle.text_mluc.proofs.Laws.{mluc_laws}
use Rattle.text_mluc.proofs.write_all.Goals as goal

pub returns-then-slots-n : goal.returns-then-slots-n
returns-then-slots-n c = search (rules, mluc_laws)

pub returns : goal.returns
returns c = search (rules, mluc_laws)
