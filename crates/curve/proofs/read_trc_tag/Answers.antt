-- `curve::read_trc_tag` meets its contract: each way out is a law of `trc_of`, and a part lies where `locate` found it.
-- Assumes nothing.
use borrow.Author.Rules.{rules}
use native.Mathlib.Omega.{arith}
use Rattle.fields.proofs.Located.{begins, starts, ends}
use Rattle.fields.specs.Refusals.{refusal_number}
use Rattle.curve_meaning.specs.Answer.{refused}
use Rattle.curve_meaning.specs.Curve.{trc_of}
use mathlib.Core.Path.{◌≡◌}
use Rattle.curve.proofs.Laws.{trc_past, trc_tag, trc-laws}
use Rattle.curve.proofs.read_trc_tag.Goals as goal

pub returns-in_default : goal.returns-in_default
returns-in_default c = search (rules, trc-laws)

pub returns-then-is_too_small : goal.returns-then-is_too_small
returns-then-is_too_small c = search (rules, trc-laws)

pub overflow_sub-profile : goal.overflow_sub-profile
overflow_sub-profile c = search (rules, begins, starts, ends)

pub returns-in_err-tag : goal.returns-in_err-tag
returns-in_err-tag c =
    let past : refused 11 ≡ trc_of c.args.walk c.args.limit c.args.profile.now c.args.entry.0 c.args.size = trc_past c.args.walk c.args.limit c.args.profile.now _ _ _ c.locate.ensures _ c.in-Some.is _ c.is_too_small.ensures c.if-is_too_small.false _ c.tag_bytes-bytes.ensures _ c.locate-2.ensures c.in_err-tag.ensures.ok_part in
    grind (arith, past)

pub slice_bounds-read_curve-count : goal.slice_bounds-read_curve-count
slice_bounds-read_curve-count c = starts _ _ _ c.locate-2.ensures c.in_ok-tag.ensures.ok_part

pub slice_bounds-read_curve-start : goal.slice_bounds-read_curve-start
slice_bounds-read_curve-start c = search (rules, begins, starts, ends)

pub slice_bounds-read_curve-end : goal.slice_bounds-read_curve-end
slice_bounds-read_curve-end c = search (rules, begins, starts, ends)

pub returns-in_err-read : goal.returns-in_err-read
returns-in_err-read c =
    let found : refused (refusal_number c.in_err-read.field-0.0) ≡ trc_of c.args.walk c.args.limit c.args.profile.now c.args.entry.0 c.args.size = trc_tag c.args.walk c.args.limit c.args.profile.now _ _ _ c.locate.ensures _ c.in-Some.is _ c.is_too_small.ensures c.if-is_too_small.false _ c.tag_bytes-bytes.ensures _ c.locate-2.ensures _ _ c.in_ok-tag.ensures.ok_part c.in_err-read.ensures in
    grind (arith, found)

pub returns : goal.returns
returns c = trc_tag c.args.walk c.args.limit c.args.profile.now _ _ _ c.locate.ensures _ c.in-Some.is _ c.is_too_small.ensures c.if-is_too_small.false _ c.tag_bytes-bytes.ensures _ c.locate-2.ensures _ _ c.in_ok-tag.ensures.ok_part c.in_ok-read.ensures
