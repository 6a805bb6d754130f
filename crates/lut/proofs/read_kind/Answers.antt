-- `lut::read_kind` meets its contract: each way out is a law of `by_type`.
-- Assumes nothing.
use mathlib.Core.Path.{refl}
use Rattle.std.specs.Prelude.{Ok, Err}
use Rattle.lut.proofs.Laws.{handed_on, kind_mft, kind_abm, kind_other}
use borrow.Author.Rules.{rules}
use Rattle.lut.proofs.read_kind.Goals as goal

pub returns-in_err-mft : goal.returns-in_err-mft
returns-in_err-mft c = kind_mft c.args.walk c.args.limit c.args.points c.args.tag.now c.args.slots.now _ c.is_mft.ensures _ c.if-is_mft.true (Err c.in_err-mft.field-0.0) c.in_err-mft.ensures (handed_on _ _ c.from_residual.ensures.1)

pub returns-then-is_mft : goal.returns-then-is_mft
returns-then-is_mft c = kind_mft c.args.walk c.args.limit c.args.points c.args.tag.now c.args.slots.now _ c.is_mft.ensures _ c.if-is_mft.true (Ok c.in_ok-mft.mft) c.in_ok-mft.ensures refl

pub returns-then-is_abm : goal.returns-then-is_abm
returns-then-is_abm c = search (rules, kind_abm)

pub returns : goal.returns
returns c = search (rules, kind_other)
