-- `answers_lines::put_answer` meets its contract: each status has its text.
-- Assumes nothing.
use mathlib.Core.Path.{sym}
use lib.Seq.{length-take-le}
use borrow.Author.Rules.{rules}
use Rattle.answers_lines.proofs.Laws.{few_out, answer_value, answer_absent, answer_default, answer_refused}
use Rattle.answers_lines.proofs.put_answer.Goals as goal

pub slice_bounds-put_value-end : goal.slice_bounds-put_value-end
slice_bounds-put_value-end c = sym (length-take-le _ _ (search (rules, few_out)))

pub returns-then-status-eq-VALUE : goal.returns-then-status-eq-VALUE
returns-then-status-eq-VALUE c = search (rules, answer_value)

pub returns-then-status-eq-ABSENT : goal.returns-then-status-eq-ABSENT
returns-then-status-eq-ABSENT c = search (rules, answer_absent)

pub returns-then-status-eq-DEFAULT : goal.returns-then-status-eq-DEFAULT
returns-then-status-eq-DEFAULT c = search (rules, answer_default)

pub returns : goal.returns
returns c = search (rules, answer_refused)
