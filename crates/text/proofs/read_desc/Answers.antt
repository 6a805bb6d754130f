-- `text::read_desc` meets its contract: both strings are those of the tag.
-- Assumes nothing.
use borrow.Author.Rules.{rules}
use Rattle.text.proofs.Laws.{desc_laws}
use Rattle.text.proofs.read_desc.Goals as goal

pub returns : goal.returns
returns c = search (rules, desc_laws)
