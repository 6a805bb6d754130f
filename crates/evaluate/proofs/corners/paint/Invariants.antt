-- `evaluate::corners::paint` meets its contract: the channels that are left, behind those that are written, are all of them.
-- Assumes nothing.
use Prim.Native.Nat.{◌-◌}
use Rattle.evaluate.proofs.Channels.{Painting}
use Rattle.evaluate.proofs.corners.paint.Given as goal

abbrev pub invariant-loop-channel : goal.invariant-loop-channel
invariant-loop-channel l = Painting l.tag l.hop l.at l.x0.up l.x0.rest l.x1.up l.x1.rest l.x2.up l.x2.rest l.x3.up l.x3.rest l.outs l.initial.out l.to l.out l.place l.channel

abbrev pub decreases-loop-channel : goal.decreases-loop-channel
decreases-loop-channel l = l.outs - l.channel
