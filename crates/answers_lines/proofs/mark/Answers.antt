-- `answers_lines::mark` meets its contract: what is left to store makes of the words the row of marks.
-- Assumes nothing.
use borrow.Author.Rules.{rules}
use mathlib.Core.Path.{refl}
use Rattle.answers_lines.proofs.Laws.{mark_begins, mark_turns, mark_ends}
use Rattle.answers_lines.proofs.mark.Goals as goal

pub loop-i-init : goal.loop-i-init
loop-i-init c = mark_begins _ c.args.words.now refl

pub loop-i-preserved : goal.loop-i-preserved
loop-i-preserved c = search (rules, mark_turns)

pub returns : goal.returns
returns c = search (rules, mark_ends)
