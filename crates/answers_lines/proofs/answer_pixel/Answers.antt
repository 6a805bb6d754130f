-- `answers_lines::answer_pixel` meets its contract: a part lies where `locate` found it, and each way out is a law of the line.
-- Assumes nothing.
use mathlib.Core.Path.{sym}
use lib.Seq.{length-take-le}
use borrow.Author.Rules.{rules}
use Rattle.fields.proofs.Located.{begins, starts, ends, counted_part}
use Rattle.answers_meaning.proofs.Room.{room_most}
use Rattle.answers_lines.proofs.Pixels.{count_most, pixel_status, pixel_lost, pixel_ends}
use Rattle.answers_lines.proofs.answer_pixel.Goals as goal

pub returns-then-status-ne-VALUE : goal.returns-then-status-ne-VALUE
returns-then-status-ne-VALUE c = search (rules, pixel_status)

pub returns-in_default : goal.returns-in_default
returns-in_default c = search (rules, pixel_lost)

pub slice_bounds-put_pixel_behind-count : goal.slice_bounds-put_pixel_behind-count
slice_bounds-put_pixel_behind-count c = search (rules, begins, starts, ends)

pub slice_bounds-put_pixel_behind-start : goal.slice_bounds-put_pixel_behind-start
slice_bounds-put_pixel_behind-start c = search (rules, begins, starts, ends)

pub slice_bounds-put_pixel_behind-end : goal.slice_bounds-put_pixel_behind-end
slice_bounds-put_pixel_behind-end c = search (rules, begins, starts, ends)

pub slice_bounds-buffer-end : goal.slice_bounds-buffer-end
slice_bounds-buffer-end c = search (rules, room_most)

pub slice_bounds-put_pixel_behind-end-2 : goal.slice_bounds-put_pixel_behind-end-2
slice_bounds-put_pixel_behind-end-2 c = sym (length-take-le _ _ (search (rules, room_most)))

pub put_pixel_behind-told-requires : goal.put_pixel_behind-told-requires
put_pixel_behind-told-requires c = search (rules, count_most)

pub returns : goal.returns
returns c = pixel_ends c.args.job _ _ _ _ _ c.khalyksor_read_lut_tag-status.ensures _ _ c.if-status-ne-VALUE.false (length-take-le _ _ (search (rules, room_most))) (search (rules, counted_part)) c.put_pixel_behind-told.ensures c.put-2.ensures
