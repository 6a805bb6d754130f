-- `answers_lines::entry` meets its contract: the coordinates are there, and each arm is a law of the entry.
-- Assumes nothing.
use borrow.Author.Rules.{rules}
use Rattle.answers_lines.proofs.Laws.{tail_room, entry_at}
use Rattle.answers_lines.proofs.entry.Goals as goal

pub slice_bounds-khalyksor_entry_at-end-in-At : goal.slice_bounds-khalyksor_entry_at-end-in-At
slice_bounds-khalyksor_entry_at-end-in-At c = search (rules, tail_room)

pub returns-in-At : goal.returns-in-At
returns-in-At c = search (rules, entry_at)
