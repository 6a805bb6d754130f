-- `text::cut::kept` meets its contract: what is left of fewer is left of all.
-- Assumes nothing.
use native.Mathlib.Omega.{arith}
use mathlib.Core.Path.{◌≡◌, refl, sym, ◌∙◌}
use borrow.Author.Tests.{eqb-true, eqb-false}
use Rattle.text_meaning.proofs.Cutting.{kept_ends, kept_stops, kept_turns}
use Rattle.text.proofs.cut.kept.Goals as goal

pub loop-kept-preserved : goal.loop-kept-preserved
loop-kept-preserved g c =
    let z = eqb-true _ _ (sym c.is_zero.ensures ∙ c.if-is_zero.true) in
    (omega arith, kept_turns (g.U.Units.unit c.args.tag.now c.args.start.0) _ _ c.loop-kept.invariant.1 c.loop-kept-test.true _ refl z)

pub returns-else-is_zero-clause-is : goal.returns-else-is_zero-clause-is
returns-else-is_zero-clause-is g c =
    let z = eqb-false _ _ (sym c.is_zero.ensures ∙ c.if-is_zero.false) in
    kept_stops (g.U.Units.unit c.args.tag.now c.args.start.0) _ _ c.loop-kept.invariant.1 c.loop-kept-test.true _ refl z

pub returns-after-loop-kept-clause-is : goal.returns-after-loop-kept-clause-is
returns-after-loop-kept-clause-is g c =
    let none : c.loop-kept.kept ≡ 0 = omega arith in
    none ∙ kept_ends (g.U.Units.unit c.args.tag.now c.args.start.0) _ _ c.loop-kept.invariant.1 c.loop-kept-test.false
