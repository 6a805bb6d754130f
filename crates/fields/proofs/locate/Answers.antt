-- `fields::locate` meets its contract: each way out is a law of `place_of`.
-- Assumes nothing.
use native.Mathlib.Omega.{arith}
use Rattle.fields.proofs.Located.{place_in, place_past}
use Rattle.fields.proofs.locate.Goals as goal

pub returns-then-size-profile : goal.returns-then-size-profile
returns-then-size-profile c = place_in _ _ _ (omega arith)

pub returns-else-from-profile : goal.returns-else-from-profile
returns-else-from-profile c = place_past _ _ _ (omega arith)
