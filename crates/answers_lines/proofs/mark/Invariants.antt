-- `answers_lines::mark` meets its contract: what is left to store makes of the words the row of marks.
-- Assumes nothing.
use mathlib.Core.Path.{◌≡◌}
use lib.ListN.{length, drop}
use lib.Seq.{sets}
use Rattle.answers_meaning.specs.Line.{marked}
use Rattle.answers_lines.proofs.mark.Given as goal

abbrev pub invariant-loop-i : goal.invariant-loop-i
invariant-loop-i l = sets l.words l.i (drop l.i (marked (length l.initial.words))) ≡ marked (length l.initial.words)
