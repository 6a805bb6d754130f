-- `answers_lines::pixel::number_buffer` meets its contract: what is left to store makes of the buffer the row of its numbers.
-- Assumes nothing.
use borrow.Author.Rules.{rules}
use mathlib.Core.Path.{refl}
use Rattle.answers_lines.proofs.Pixels.{number_begins, number_turns, number_ends}
use Rattle.answers_lines.proofs.pixel.number_buffer.Goals as goal

pub loop-i-init : goal.loop-i-init
loop-i-init c = number_begins _ c.args.buffer.now refl

pub loop-i-preserved : goal.loop-i-preserved
loop-i-preserved c = search (rules, number_turns)

pub returns : goal.returns
returns c = search (rules, number_ends)
