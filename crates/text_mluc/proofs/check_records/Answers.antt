-- `text_mluc::check_records` meets its contract: what is left to judge ends as the whole does.
-- Assumes nothing.
use native.Mathlib.Omega.{arith}
use Rattle.text_mluc.proofs.Records.{judge_begins, judge_turns, turn_inside}
use Rattle.text_mluc.proofs.check_records.Goals as goal

pub loop-k-init : goal.loop-k-init
loop-k-init c = (omega arith, judge_begins c.args.tag.now c.args.n)

pub loop-k-preserved : goal.loop-k-preserved
loop-k-preserved c = (
  turn_inside c.args.tag.now c.loop-k.k _ c.in_ok-read_record.field-0 c.read_record.ensures c.in_ok-read_record.was,
  judge_turns c.args.tag.now c.args.n c.loop-k.k c.loop-k.invariant.1 c.loop-k-test.true _ c.read_record.ensures c.in_ok-read_record.field-0 c.in_ok-read_record.was,
)
