-- `lut::nested::next_curve` meets its contract: the sum is raised to a multiple of 4.
-- Assumes nothing.
use mathlib.Core.Path.{refl}
use Rattle.lut_run_meaning.specs.Run.{aligned}
use Rattle.lut.proofs.nested.next_curve.Goals as goal

pub returns : goal.returns
unfolding aligned
returns c = refl
