-- `answers_lines::put_lent` meets its contract: the bar and the words are the text.
-- Assumes nothing.
use borrow.Author.Rules.{rules}
use Rattle.answers_lines.proofs.Laws.{lent_shown, lent_hidden}
use Rattle.answers_lines.proofs.put_lent.Goals as goal

pub returns-then-shown : goal.returns-then-shown
returns-then-shown c = search (rules, lent_shown)

pub returns : goal.returns
returns c = search (rules, lent_hidden)
