-- `answers_lines::ask` meets its contract: by the reader that the number names.
-- Assumes nothing.
use native.Mathlib.Omega.{arith}
use mathlib.Core.Path.{◌≡◌}
use mathlib.Core.Logic.{inl, inr}
use borrow.Author.Rules.{rules}
use Rattle.answers_lines.proofs.Laws.{asked_1, asked_2, asked_3, asked_4, asked_5, asked_6, asked_7, asked_8, asked_9, asked_10, asked_11, asked_12, asked_13, asked_none}
use Rattle.answers_lines.proofs.ask.Goals as goal

pub returns-in-Ok-LookupTable : goal.returns-in-Ok-LookupTable
returns-in-Ok-LookupTable c = let e : c.args.job.reader ≡ 1 = rw c.in-Ok-LookupTable.field-0-is at c.in-Ok-LookupTable.ensures in search (rules, asked_1)

pub returns-in-Ok-ToneCurve : goal.returns-in-Ok-ToneCurve
returns-in-Ok-ToneCurve c = let e : c.args.job.reader ≡ 2 = rw c.in-Ok-ToneCurve.field-0-is at c.in-Ok-ToneCurve.ensures in search (rules, asked_2)

pub returns-in-Ok-String : goal.returns-in-Ok-String
returns-in-Ok-String c = let e : c.args.job.reader ≡ 3 = rw c.in-Ok-String.field-0-is at c.in-Ok-String.ensures in search (rules, asked_3)

pub returns-in-Ok-Chad : goal.returns-in-Ok-Chad
returns-in-Ok-Chad c = let e : c.args.job.reader ≡ 4 = rw c.in-Ok-Chad.field-0-is at c.in-Ok-Chad.ensures in search (rules, asked_4)

pub returns-in-Ok-Tech : goal.returns-in-Ok-Tech
returns-in-Ok-Tech c = let e : c.args.job.reader ≡ 5 = rw c.in-Ok-Tech.field-0-is at c.in-Ok-Tech.ensures in search (rules, asked_5)

pub returns-in-Ok-DateTime : goal.returns-in-Ok-DateTime
returns-in-Ok-DateTime c = let e : c.args.job.reader ≡ 6 = rw c.in-Ok-DateTime.field-0-is at c.in-Ok-DateTime.ensures in search (rules, asked_6)

pub returns-in-Ok-Meas : goal.returns-in-Ok-Meas
returns-in-Ok-Meas c = let e : c.args.job.reader ≡ 7 = rw c.in-Ok-Meas.field-0-is at c.in-Ok-Meas.ensures in search (rules, asked_7)

pub returns-in-Ok-View : goal.returns-in-Ok-View
returns-in-Ok-View c = let e : c.args.job.reader ≡ 8 = rw c.in-Ok-View.field-0-is at c.in-Ok-View.ensures in search (rules, asked_8)

pub returns-in-Ok-Xyz : goal.returns-in-Ok-Xyz
returns-in-Ok-Xyz c = let e : c.args.job.reader ≡ 9 = rw c.in-Ok-Xyz.field-0-is at c.in-Ok-Xyz.ensures in search (rules, asked_9)

pub returns-in-Ok-Cicp : goal.returns-in-Ok-Cicp
returns-in-Ok-Cicp c = let e : c.args.job.reader ≡ 10 = rw c.in-Ok-Cicp.field-0-is at c.in-Ok-Cicp.ensures in search (rules, asked_10)

pub returns-in-Ok-LookupTableByBook : goal.returns-in-Ok-LookupTableByBook
returns-in-Ok-LookupTableByBook c = let e : c.args.job.reader ≡ 11 = rw c.in-Ok-LookupTableByBook.field-0-is at c.in-Ok-LookupTableByBook.ensures in search (rules, asked_11)

pub returns-in-Ok-ToneCurveByBook : goal.returns-in-Ok-ToneCurveByBook
returns-in-Ok-ToneCurveByBook c = let e : c.args.job.reader ≡ 12 = rw c.in-Ok-ToneCurveByBook.field-0-is at c.in-Ok-ToneCurveByBook.ensures in search (rules, asked_12)

pub returns-in-Ok-TableView : goal.returns-in-Ok-TableView
returns-in-Ok-TableView c = let e : c.args.job.reader ≡ 13 = rw c.in-Ok-TableView.field-0-is at c.in-Ok-TableView.ensures in search (rules, asked_13)

pub returns-in-Ok-Evaluation : goal.returns-in-Ok-Evaluation
returns-in-Ok-Evaluation c = let e : c.args.job.reader ≡ 14 = rw c.in-Ok-Evaluation.field-0-is at c.in-Ok-Evaluation.ensures in asked_none _ _ _ _ _ _ (inr (omega arith))

pub returns-in-Err : goal.returns-in-Err
returns-in-Err c = asked_none _ _ _ _ _ _ (elim c.in-Err.ensures [ inl h ↦ inl h | inr h ↦ inr (omega arith) ])
