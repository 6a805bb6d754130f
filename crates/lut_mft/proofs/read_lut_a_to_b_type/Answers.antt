-- `lut_mft::read_lut_a_to_b_type` meets its contract: the matrix stands beside a value.
-- Assumes nothing.
use Rattle.lut_mft.proofs.Laws.{with_matrix_lem, without_matrix}
use Rattle.std.proofs.lemmas.Result.{err_from_is_err_and}
use Rattle.lut_mft.proofs.read_lut_a_to_b_type.Goals as goal

pub returns-in_err-table : goal.returns-in_err-table
returns-in_err-table c =
    let p = err_from_is_err_and c.from_residual.result c.from_residual.ensures.1 in
    rw (p.1, p.2) (without_matrix _ _ c.in_err-table.field-0.0 c.in_err-table.ensures)

pub returns : goal.returns
returns c = with_matrix_lem _ _ _ c.in_ok-table.ensures _ c.nine_at-matrix.ensures
