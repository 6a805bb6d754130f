-- `answers_lines::answer_reader` meets its contract: the pieces are the line.
-- Assumes nothing.
use mathlib.Core.Path.{sym}
use borrow.Author.Rules.{rules}
use Rattle.answers_lines.proofs.Laws.{told_length, line_ends}
use Rattle.answers_lines.proofs.answer_reader.Goals as goal

pub slice_bounds-put_answer-end : goal.slice_bounds-put_answer-end
slice_bounds-put_answer-end c = sym (told_length c.ask-status.ensures)

pub put_answer-told-requires : goal.put_answer-told-requires
put_answer-told-requires c = search (rules, told_length)

pub returns : goal.returns
returns c = line_ends _ _ _ _ c.ask-status.ensures c.several.ensures c.put_answer-told.ensures c.put_lent-shown.ensures c.put.ensures
