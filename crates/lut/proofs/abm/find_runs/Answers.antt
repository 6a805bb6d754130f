-- `lut::abm::find_runs` meets its contract: each run starts at its offset and has the curves of its side.
-- Assumes nothing.
use mathlib.Core.Path.{◌∙◌}
use Rattle.lut.proofs.PartLaws.{runs_found}
use Rattle.lut.proofs.abm.find_runs.Goals as goal

pub returns : goal.returns
returns c =
    runs_found c.args.tag.now _ _ _ c.device_channels-device.ensures c.space_channels-space.ensures (c.from.ensures ∙ c.u32_at-a.ensures) (rw c.from.ensures c.run_length.ensures) (c.from-2.ensures ∙ c.u32_at-m.ensures) (rw c.from-2.ensures c.run_length-2.ensures) (c.from-3.ensures ∙ c.u32_at-b.ensures) (rw c.from-3.ensures c.run_length-3.ensures)
