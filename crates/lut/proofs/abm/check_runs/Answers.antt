-- `lut::abm::check_runs` meets its contract: each refusal is handed on.
-- Assumes nothing.
use Rattle.std.proofs.lemmas.Result.{err_from_is_err_and}
use Rattle.lut.proofs.PartLaws.{runs_a, runs_m, runs_b}
use Rattle.lut.proofs.abm.check_runs.Goals as goal

pub returns-in_err-check_run : goal.returns-in_err-check_run
returns-in_err-check_run c =
    let p = err_from_is_err_and c.from_residual.result c.from_residual.ensures.1 in
    rw (p.1, p.2) (runs_a c.args.walk c.args.limit _ _ c.requires.1 _ c.check_run.ensures _ c.in_err-check_run.was)

pub returns-in_err-check_run-2 : goal.returns-in_err-check_run-2
returns-in_err-check_run-2 c =
    let p = err_from_is_err_and c.from_residual-in_err-check_run-2.result c.from_residual-in_err-check_run-2.ensures.1 in
    rw (p.1, p.2) (runs_m c.args.walk c.args.limit _ _ c.requires.1 _ c.check_run.ensures _ c.in_ok-check_run.was _ c.check_run-2.ensures _ c.in_err-check_run-2.was)

pub returns : goal.returns
returns c = runs_b c.args.walk c.args.limit _ _ c.requires.1 _ c.check_run.ensures _ c.in_ok-check_run.was _ c.check_run-2.ensures _ _ c.in_ok-check_run-2.was c.check_run-3.ensures
