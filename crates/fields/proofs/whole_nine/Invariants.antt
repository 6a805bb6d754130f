-- `fields::whole_nine`: what is left to store makes of the nine the row of words.
-- Assumes nothing.
use mathlib.Core.Path.{◌≡◌}
use lib.ListN.{length, drop}
use lib.Seq.{sets}
use Rattle.fields.specs.Bytes.{words_at}
use Rattle.fields.proofs.whole_nine.Given as goal

abbrev pub invariant-loop-k : goal.invariant-loop-k
invariant-loop-k l =
    (length l.words ≡ 9) × (sets l.words l.k (drop l.k (words_at l.s l.from 9)) ≡ words_at l.s l.from 9)
