-- `evaluate_plain::points` ends: the dimensions left fall.
-- Assumes nothing.
use Rattle.evaluate_plain.proofs.+points.Given as goal

abbrev pub decreases-points : goal.decreases-points
decreases-points l = l.left
