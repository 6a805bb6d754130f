-- `lut::abm::check_matrix` meets its contract: each way out is a law of `matrix_checked`.
-- Assumes nothing.
use Rattle.lut.proofs.PartLaws.{matrix_past, matrix_there, matrix-laws}
use borrow.Author.Rules.{rules}
use native.Mathlib.Omega.{arith}
use Rattle.lut.proofs.abm.check_matrix.Goals as goal

pub returns-then-at-eq0 : goal.returns-then-at-eq0
returns-then-at-eq0 c = search (rules, matrix-laws)

pub returns-then-tag-from : goal.returns-then-tag-from
returns-then-tag-from c = matrix_past _ _ c.u32_at-at.ensures c.if-at-eq0.false (omega arith)

pub returns : goal.returns
returns c = matrix_there _ _ c.u32_at-at.ensures c.if-at-eq0.false (omega arith)
