-- `curve_line_text::curve_line` meets its contract: the text is that of what was told, or of a bad job.
-- Assumes nothing.
use native.Mathlib.Omega.{arith}
use borrow.Author.Rules.{rules}
use Rattle.curve_line_text.proofs.Laws.{whole_head, line_bad, line_told}
use Rattle.curve_line_text.proofs.curve_line.Goals as goal

pub returns-in_default : goal.returns-in_default
returns-in_default c = line_bad _ c.read_curve_job.ensures c.in_default.is c.put.ensures

pub slice_bounds-khalyksor_read_trc_tag-count : goal.slice_bounds-khalyksor_read_trc_tag-count
slice_bounds-khalyksor_read_trc_tag-count c = omega (arith, whole_head _ c.read_curve_job.ensures c.in-Some.is)

pub slice_bounds-khalyksor_read_trc_tag-start : goal.slice_bounds-khalyksor_read_trc_tag-start
slice_bounds-khalyksor_read_trc_tag-start c = omega (arith, whole_head _ c.read_curve_job.ensures c.in-Some.is)

pub returns : goal.returns
returns c = line_told _ c.read_curve_job.ensures c.in-Some.is (search rules) c.khalyksor_read_trc_tag-status.ensures c.put_exported.ensures
