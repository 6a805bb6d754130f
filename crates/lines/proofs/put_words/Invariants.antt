-- `lines::put_words` meets its contract: what is left to write makes the whole.
-- Assumes nothing.
use Rattle.lines.specs.Text.{word_text}
use Rattle.lines.proofs.Laws.{Printing}
use Rattle.lines.proofs.put_words.Given as goal

abbrev pub invariant-loop-i : goal.invariant-loop-i
invariant-loop-i l = Printing (word_text l.from l.to) l.initial.out l.at l.first l.words l.out l.end l.i
