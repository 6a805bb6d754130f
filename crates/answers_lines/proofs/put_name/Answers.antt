-- `answers_lines::put_name` meets its contract: the letters are those of the signature.
-- Assumes nothing.
use borrow.Author.Rules.{rules}
use Rattle.answers_lines.proofs.Laws.{name_short, name_long}
use Rattle.answers_lines.proofs.put_name.Goals as goal

pub returns-then-signature-eq32 : goal.returns-then-signature-eq32
returns-then-signature-eq32 c = search (rules, name_short)

pub returns : goal.returns
returns c = search (rules, name_long)
