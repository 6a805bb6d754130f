-- `answers_lines::pixel::number_buffer` meets its contract: what is left to store makes of the buffer the row of its numbers.
-- Assumes nothing.
use mathlib.Core.Path.{◌≡◌}
use lib.ListN.{length, drop}
use lib.Seq.{sets}
use Rattle.answers_meaning.specs.Pixel.{numbered}
use Rattle.answers_lines.proofs.pixel.number_buffer.Given as goal

abbrev pub invariant-loop-i : goal.invariant-loop-i
invariant-loop-i l = sets l.buffer l.i (drop l.i (numbered (length l.initial.buffer))) ≡ numbered (length l.initial.buffer)
