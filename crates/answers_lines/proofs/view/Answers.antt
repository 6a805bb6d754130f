-- `answers_lines::view` meets its contract: a part lies where `locate` found it, and each way out is a law of the view.
-- Assumes nothing.
use borrow.Author.Rules.{rules}
use Rattle.fields.proofs.Located.{begins, starts, ends, counted_part}
use Rattle.answers_lines.proofs.Laws.{view_status, view_lost, view_entry}
use Rattle.answers_lines.proofs.view.Goals as goal

pub returns-then-status-ne-VALUE : goal.returns-then-status-ne-VALUE
returns-then-status-ne-VALUE c = search (rules, view_status)

pub returns-in_default : goal.returns-in_default
returns-in_default c = search (rules, view_lost)

pub slice_bounds-entry-count : goal.slice_bounds-entry-count
slice_bounds-entry-count c = search (rules, begins, starts, ends)

pub slice_bounds-entry-start : goal.slice_bounds-entry-start
slice_bounds-entry-start c = search (rules, begins, starts, ends)

pub slice_bounds-entry-end : goal.slice_bounds-entry-end
slice_bounds-entry-end c = search (rules, begins, starts, ends)

pub returns : goal.returns
returns c = search (rules, view_entry, counted_part)
