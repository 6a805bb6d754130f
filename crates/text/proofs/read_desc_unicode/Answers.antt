-- `text::read_desc_unicode` meets its contract: without a Unicode string its numbers are 0.
-- Assumes nothing.
use borrow.Author.Rules.{rules}
use Rattle.text.proofs.Laws.{unicode_laws}
use Rattle.text.proofs.read_desc_unicode.Goals as goal

pub returns-then-tag-start : goal.returns-then-tag-start
returns-then-tag-start c = search (rules, unicode_laws)

pub returns-then-n-eq0 : goal.returns-then-n-eq0
returns-then-n-eq0 c = search (rules, unicode_laws)
