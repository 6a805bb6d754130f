-- `evaluate_plain::value` ends: the coordinates left fall.
-- Assumes nothing.
use lib.ListN.{length}
use Rattle.evaluate_plain.proofs.+value.Given as goal

abbrev pub decreases-value : goal.decreases-value
decreases-value l = length l.coordinates.now
