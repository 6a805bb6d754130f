-- `lut::nested::write_run` meets its contract: what is left to write makes of the slots what the whole run makes of them.
-- Assumes nothing.
use borrow.Author.Rules.{rules}
use Rattle.lut_run_meaning.proofs.Writing.{begins, ends}
use Rattle.lut.proofs.RunLaws.{curve_begins, data_fits, data_counts, slot_there, write_near, write_turn, write_never}
use Rattle.lut.proofs.nested.write_run.Goals as goal

pub loop-i-init : goal.loop-i-init
loop-i-init c = search (rules, begins)

pub slice_bounds-write_curve-count : goal.slice_bounds-write_curve-count
slice_bounds-write_curve-count c = search (rules, curve_begins)

pub slice_bounds-write_curve-start : goal.slice_bounds-write_curve-start
slice_bounds-write_curve-start c = search (rules, curve_begins)

pub overflow_add-from : goal.overflow_add-from
overflow_add-from c = search (rules, data_counts)

pub overflow_cast-from : goal.overflow_cast-from
overflow_cast-from c = search (rules, data_fits)

pub overflow_add-slot : goal.overflow_add-slot
overflow_add-slot c = search (rules, slot_there)

pub offset_bounds-slots-slot : goal.offset_bounds-slots-slot
offset_bounds-slots-slot c = search (rules, slot_there)

pub slice_bounds-write_curve-count-in-loop-i : goal.slice_bounds-write_curve-count-in-loop-i
slice_bounds-write_curve-count-in-loop-i c = search (rules, slot_there)

pub slice_bounds-write_curve-start-in-loop-i : goal.slice_bounds-write_curve-start-in-loop-i
slice_bounds-write_curve-start-in-loop-i c = search (rules, slot_there)

pub slice_bounds-write_curve-end-in-loop-i : goal.slice_bounds-write_curve-end-in-loop-i
slice_bounds-write_curve-end-in-loop-i c = search (rules, slot_there)

pub returns-in_default : goal.returns-in_default
returns-in_default c = absurd (search (rules, write_never))

pub next_curve-next-requires : goal.next_curve-next-requires
next_curve-next-requires c = search (rules, write_near)

pub loop-i-preserved : goal.loop-i-preserved
loop-i-preserved c = search (rules, write_turn)

pub returns : goal.returns
returns c = search (rules, ends)
