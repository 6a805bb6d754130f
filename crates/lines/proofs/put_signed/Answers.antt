-- `lines::put_signed` meets its contract: a word from 2^31 on is the number that it lacks to 2^32, below 0.
-- Assumes nothing.
use Rattle.lines.proofs.Laws.{below_half, from_half}
use borrow.Author.Rules.{rules}
use Rattle.lines.proofs.put_signed.Goals as goal

pub returns-then-word-lt2147483648 : goal.returns-then-word-lt2147483648
returns-then-word-lt2147483648 c = search (rules, below_half)

pub returns : goal.returns
returns c = search (rules, from_half)
