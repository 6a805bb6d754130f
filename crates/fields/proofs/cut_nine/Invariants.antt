-- `fields::cut_nine`: what is left to store makes of the nine the row of words.
-- Assumes nothing.
use mathlib.Core.Path.{◌≡◌}
use lib.ListN.{length, drop}
use lib.Seq.{sets}
use Rattle.fields.specs.Bytes.{words_at}
use Rattle.fields.proofs.cut_nine.Given as goal

abbrev pub invariant-loop-i : goal.invariant-loop-i
invariant-loop-i l =
    (length l.words ≡ 9) × (sets l.words l.i (drop l.i (words_at l.s l.at.0 9)) ≡ words_at l.s l.at.0 9)
