-- `answers_lines::put_value` meets its contract: the name and the words are the text.
-- Assumes nothing.
use borrow.Author.Rules.{rules}
use Rattle.answers_lines.proofs.Laws.{value_named, value_plain}
use Rattle.answers_lines.proofs.put_value.Goals as goal

pub returns-then-named : goal.returns-then-named
returns-then-named c = search (rules, value_named)

pub returns : goal.returns
returns c = search (rules, value_plain)
