-- `answers_lines::pixel::put_buffer` meets its contract: the bar and the numbers are the text.
-- Assumes nothing.
use borrow.Author.Rules.{rules}
use Rattle.answers_lines.proofs.Pixels.{buffer_put}
use Rattle.answers_lines.proofs.pixel.put_buffer.Goals as goal

pub returns : goal.returns
returns c = search (rules, buffer_put)
