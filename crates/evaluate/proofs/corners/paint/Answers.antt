-- `evaluate::corners::paint` meets its contract: the channels that are left, behind those that are written, are all of them.
-- Assumes nothing.
use borrow.Author.Rules.{rules}
use Rattle.evaluate.proofs.Channels.{paint_begins, paint_reach, place_fits, paint-fits, paint_less, paint_turns, paint_ends}
use Rattle.evaluate.proofs.corners.paint.Goals as goal

pub loop-channel-init : goal.loop-channel-init
loop-channel-init c = search (rules, paint_begins)

pub overflow_add-to : goal.overflow_add-to
overflow_add-to c = search (rules, paint-fits)

pub some-n-requires : goal.some-n-requires
some-n-requires c = search (rules, paint_reach)

pub overflow_mul-place : goal.overflow_mul-place
overflow_mul-place c = search (rules, paint-fits)

pub overflow_add-place-in-loop-channel : goal.overflow_add-place-in-loop-channel
overflow_add-place-in-loop-channel c = place_fits _ _ _ _ _ _ _ _ _ _ _ _ _ _ _ _ _ c.loop-channel.invariant c.loop-channel-test.true c.requires _ _ c.some-n.ensures c.well_formed.0.0

pub overflow_add-channel : goal.overflow_add-channel
overflow_add-channel c = search (rules, paint-fits)

pub loop-channel-smaller : goal.loop-channel-smaller
loop-channel-smaller c = search (rules, paint_less)

pub loop-channel-preserved : goal.loop-channel-preserved
loop-channel-preserved c = search (rules, paint_turns)

pub returns : goal.returns
returns c = search (rules, paint_ends)
