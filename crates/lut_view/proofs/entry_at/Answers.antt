-- `lut_view::entry_at` meets its contract: the entry of the point that the index names is the entry of the index.
-- Assumes nothing.
use mathlib.Core.Path.{refl}
use Rattle.lut_view.proofs.Laws.{entry_nowhere, entry_channel, entry_read}
use Rattle.lut_view.proofs.entry_at.Goals as goal

pub returns-in_err-point : goal.returns-in_err-point
returns-in_err-point c = rw c.from_residual.ensures (entry_nowhere _ _ _ c.args.channel _ c.dimensions-n.ensures _ c.point_at.ensures c.in_err-point.was)

pub returns-then-numbers-channel : goal.returns-then-numbers-channel
returns-then-numbers-channel c = entry_channel _ _ _ c.args.channel _ c.dimensions-n.ensures _ c.point_at.ensures _ c.in_ok-point.was c.if-numbers-channel.true

pub returns : goal.returns
returns c = entry_read _ _ _ c.args.channel _ c.dimensions-n.ensures _ c.point_at.ensures _ c.in_ok-point.was c.if-numbers-channel.false _ (rw (c.from.ensures, c.from-2.ensures, c.from-3.ensures) refl) _ c.entry_by_number.ensures
