-- `exports::evaluations::khalyksor_evaluate_row` meets its contract: what is told of the evaluation is told of its meaning.
-- Assumes nothing.
use Rattle.export_evaluate.proofs.Telling.{short_lut, row_told}
use borrow.Author.Rules.{rules}
use Rattle.exports.proofs.evaluations.khalyksor_evaluate_row.Goals as goal

pub returns-then-lut : goal.returns-then-lut
returns-then-lut c = search (rules, short_lut)

pub returns : goal.returns
returns c = search (rules, row_told)
