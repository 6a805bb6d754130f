-- `lut::nested::check_run` meets its contract: what is left of the run ends as the whole does.
-- Assumes nothing.
use Rattle.lut.proofs.RunLaws.{near, run_start, run_stop, run_again, run_done}
use Rattle.std.proofs.lemmas.Result.{err_from_is_err_and}
use native.Mathlib.Omega.{arith}
use borrow.Author.Rules.{rules}
use Rattle.lut.proofs.nested.check_run.Goals as goal

pub loop-i-init : goal.loop-i-init
loop-i-init c = search (rules, run_start)

pub returns-in_err-consumed : goal.returns-in_err-consumed
returns-in_err-consumed c =
    let p = err_from_is_err_and c.from_residual.result c.from_residual.ensures.1 in
    rw (p.1, p.2) (run_stop _ _ _ _ c.args.run.curves c.loop-i.i _ c.loop-i.invariant (omega arith) _ c.judge_at.ensures _ c.in_err-consumed.was)

pub next_curve-next-requires : goal.next_curve-next-requires
next_curve-next-requires c = near c.args.walk c.args.limit c.args.tag.now _ _ _ c.requires c.judge_at.ensures c.in_ok-consumed.was

pub loop-i-preserved : goal.loop-i-preserved
loop-i-preserved c = search (rules, run_again)

pub returns : goal.returns
returns c = search (rules, run_done)
