-- `lut_mft::read_numbers` meets its contract: each way out is a law of `numbers_of`.
-- Assumes nothing.
use mathlib.Core.Path.{◌∙◌}
use native.Mathlib.Omega.{arith}
use borrow.Author.Rules.{rules}
use Rattle.lut_mft_meaning.proofs.Inside.{power_most}
use Rattle.lut_mft.proofs.Laws.{numbers_bad, few_channels, points_are, points_over, points_within}
use Rattle.lut_mft.proofs.read_numbers.Goals as goal

pub returns-then-has_bad_numbers : goal.returns-then-has_bad_numbers
returns-then-has_bad_numbers c = search (rules, numbers_bad)

pub pow-points-requires : goal.pow-points-requires
pow-points-requires c =
    let n = few_channels c.args.limit c.args.tag.now _ c.has_bad_numbers.ensures c.if-has_bad_numbers.false _ _ (c.from.ensures ∙ c.u8_at.ensures) (c.from-2.ensures ∙ c.u8_at-inputs.ensures) in
    omega (arith, power_most c.from.result c.from-2.result (omega arith) n)

pub returns-then-limit-from : goal.returns-then-limit-from
returns-then-limit-from c = points_over c.args.limit c.args.tag.now _ c.has_bad_numbers.ensures c.if-has_bad_numbers.false _ _ (c.from.ensures ∙ c.u8_at.ensures) (c.from-2.ensures ∙ c.u8_at-inputs.ensures) _ c.pow-points.ensures (omega arith)

pub find_tables-requires : goal.find_tables-requires
find_tables-requires c = points_are c.args.limit c.args.tag.now _ c.has_bad_numbers.ensures c.if-has_bad_numbers.false _ _ (c.from.ensures ∙ c.u8_at.ensures) (c.from-2.ensures ∙ c.u8_at-inputs.ensures) _ c.pow-points.ensures

pub returns : goal.returns
returns c = points_within c.args.limit c.args.tag.now _ c.has_bad_numbers.ensures c.if-has_bad_numbers.false _ _ (c.from.ensures ∙ c.u8_at.ensures) (c.from-2.ensures ∙ c.u8_at-inputs.ensures) _ c.pow-points.ensures (omega arith) _ c.find_tables.ensures
