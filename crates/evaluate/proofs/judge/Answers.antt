-- `evaluate::judge` meets its contract: each test is one of the meaning.
-- Assumes nothing.
use borrow.Author.Rules.{rules}
use mathlib.Core.Path.{sym, ◌∙◌}
use Rattle.evaluate.proofs.Judging.{odd_judged, nowhere_judged, past_judged, table_judged}
use Rattle.evaluate.proofs.judge.Goals as goal

pub returns-then-odd : goal.returns-then-odd
returns-then-odd c = search (rules, odd_judged)

pub returns-then-tag-b : goal.returns-then-tag-b
returns-then-tag-b c = nowhere_judged _ _ _ c.odd.ensures c.if-odd.false c.if-tag-b.true

pub measure-h-requires : goal.measure-h-requires
measure-h-requires c = (sym c.odd.ensures ∙ c.if-odd.false, c.if-tag-b.false)

pub returns-then-past : goal.returns-then-past
returns-then-past c = past_judged _ _ _ c.odd.ensures c.if-odd.false _ c.measure-h.ensures _ c.past.ensures c.if-past.true

pub returns : goal.returns
returns c = table_judged _ _ _ c.odd.ensures c.if-odd.false _ c.measure-h.ensures _ c.past.ensures c.if-past.false
