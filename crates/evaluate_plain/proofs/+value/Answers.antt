-- `evaluate_plain::value` meets its contract.
-- Assumes nothing.
use borrow.Author.Rules.{rules}
use Rattle.evaluate_plain.proofs.Values.{in_table, two_le, room_low, room_high, value-fits, value-laws}
use Rattle.evaluate_plain.proofs.+value.Goals as goal

pub overflow_mul-point : goal.overflow_mul-point
overflow_mul-point t c = search (rules, value-fits)

pub overflow_add-point : goal.overflow_add-point
overflow_add-point t c = search (rules, value-fits)

pub corner-requires : goal.corner-requires
corner-requires t c = search (rules, in_table)

pub returns-then-coordinates-eq0 : goal.returns-then-coordinates-eq0
returns-then-coordinates-eq0 t c = search (rules, value-laws)

pub cell_of-cell-requires : goal.cell_of-cell-requires
cell_of-cell-requires t c = search (rules, two_le)

pub overflow_mul-lower : goal.overflow_mul-lower
overflow_mul-lower t c = search (rules, value-fits)

pub overflow_add-lower : goal.overflow_add-lower
overflow_add-lower t c = search (rules, value-fits)

pub overflow_add-next : goal.overflow_add-next
overflow_add-next t c = search (rules, value-fits)

pub value-low-requires : goal.value-low-requires
value-low-requires t c = (search rules, room_low _ _ _ _ _ _ c.requires c.if-coordinates-eq0.false _ c.u8_at-points.ensures _ _ _ c.cell_of-cell.ensures)

pub returns-then-cell-eq0 : goal.returns-then-cell-eq0
returns-then-cell-eq0 t c = search (rules, value-laws)

pub overflow_add-lower-2 : goal.overflow_add-lower-2
overflow_add-lower-2 t c = search (rules, value-fits)

pub value-high-requires : goal.value-high-requires
value-high-requires t c = (search rules, room_high _ _ _ _ _ _ c.requires c.if-coordinates-eq0.false _ c.u8_at-points.ensures _ _ _ c.cell_of-cell.ensures c.if-cell-eq0.false)

pub returns : goal.returns
returns t c = search (rules, value-laws)
