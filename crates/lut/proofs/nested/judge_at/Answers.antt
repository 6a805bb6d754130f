-- `lut::nested::judge_at` meets its contract: each way out is a law of `entry_at`.
-- Assumes nothing.
use Rattle.lut.proofs.RunLaws.{run_past, run_short, entry-laws}
use borrow.Author.Rules.{rules}
use Rattle.lut.proofs.nested.judge_at.Goals.{then-tag-from-via-then-tag-from, then-tag-from-via-else-tag-from+then-tag-from-lt-CURVE_HEAD}
use Rattle.lut.proofs.nested.judge_at.Goals as goal

pub returns-then-tag-from : goal.returns-then-tag-from
returns-then-tag-from c =
    elim c.then-tag-from.branch [
      | then-tag-from-via-then-tag-from w ↦ run_past _ _ _ _ w.if-tag-from.true
      | then-tag-from-via-else-tag-from+then-tag-from-lt-CURVE_HEAD w ↦ run_short _ _ _ _ w.if-tag-from.false w.if-tag-from-lt-CURVE_HEAD.true
    ]

pub returns : goal.returns
returns c = search (rules, entry-laws)
