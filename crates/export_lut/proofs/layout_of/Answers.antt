-- `export_lut::layout_of` meets its contract: each arm is a test of `lut_layout`.
-- Assumes nothing.
use borrow.Author.Tests.{eq-eqb, ne_eqb}
use Rattle.fields.specs.Tag.{signature_of}
use Rattle.export_lut.specs.Layout.{lut_layout}
use Rattle.export_lut.proofs.layout_of.Goals as goal

pub returns-then-first : goal.returns-then-first
unfolding signature_of lut_layout
returns-then-first c = simp (eq-eqb _ _ c.if-first.true)

pub returns-then-first-2 : goal.returns-then-first-2
unfolding signature_of lut_layout
returns-then-first-2 c = simp (ne_eqb _ _ c.if-first.false, eq-eqb _ _ c.if-first-2.true)

pub returns : goal.returns
unfolding signature_of lut_layout
returns c = simp (ne_eqb _ _ c.if-first.false, ne_eqb _ _ c.if-first-2.false)
