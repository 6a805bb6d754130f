-- `text::read_kind` meets its contract: the tag is read by its type.
-- Assumes nothing.
use borrow.Author.Rules.{rules}
use Rattle.text.proofs.Laws.{kind_laws}
use Rattle.text.proofs.read_kind.Goals as goal

pub returns-in-Text : goal.returns-in-Text
returns-in-Text c = search (rules, kind_laws)

pub returns-in-Mluc : goal.returns-in-Mluc
returns-in-Mluc c = search (rules, kind_laws)
