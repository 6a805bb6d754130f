-- `curve_line_text::put_exported` meets its contract: each status has its text.
-- Assumes nothing.
use borrow.Author.Rules.{rules}
use Rattle.curve_line_text.proofs.Laws.{text_value, text_absent, text_refused}
use Rattle.curve_line_text.proofs.put_exported.Goals as goal

pub returns-in-0 : goal.returns-in-0
returns-in-0 c = text_value _ _ (search rules) c.put-word.ensures c.put_number-first.ensures c.put_words-rest.ensures c.put.ensures

pub returns-in-100 : goal.returns-in-100
returns-in-100 c = search (rules, text_absent)

pub returns-in_default : goal.returns-in_default
returns-in_default c = search (rules, text_refused)
