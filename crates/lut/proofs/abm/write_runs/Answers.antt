-- `lut::abm::write_runs` meets its contract: each run is written in front of its part of the slots, and the parts go back in their place.
-- Assumes nothing.
use native.Mathlib.Omega.{arith}
use mathlib.Core.Path.{refl}
use lib.ListN.{length-take, length-drop}
use Rattle.lut.proofs.PartLaws.{a_read, m_read, b_read, runs_written}
use Rattle.lut.proofs.abm.write_runs.Goals as goal

pub write_run-requires : goal.write_run-requires
write_run-requires c = (c.requires.0, a_read _ _ _ _ c.requires.1 c.requires.2, omega arith)

pub write_run-requires-2 : goal.write_run-requires-2
write_run-requires-2 c = (c.requires.0, m_read _ _ _ _ c.requires.1 c.requires.2, simp (length-take, length-drop) (omega arith))

pub write_run-requires-3 : goal.write_run-requires-3
write_run-requires-3 c = (c.requires.0, b_read _ _ _ _ c.requires.1 c.requires.2, simp (length-take, length-drop) (omega arith))

pub returns : goal.returns
returns c = runs_written c.args.walk c.args.limit c.args.tag.now c.args.runs c.requires.1 c.requires.2 c.args.slots.now c.requires.3 _ c.write_run.ensures _ c.write_run-2.ensures _ refl _ c.write_run-3.ensures
