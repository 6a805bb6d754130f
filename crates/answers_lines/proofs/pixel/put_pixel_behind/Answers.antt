-- `answers_lines::pixel::put_pixel_behind` meets its contract: the coordinates are those behind the profile.
-- Assumes nothing.
use mathlib.Core.Path.{sym}
use lib.Seq.{length-take-le}
use borrow.Author.Rules.{rules}
use Rattle.answers_lines.proofs.Pixels.{pixel_behind}
use Rattle.answers_lines.proofs.pixel.put_pixel_behind.Goals as goal

pub slice_bounds-put_pixel-end : goal.slice_bounds-put_pixel-end
slice_bounds-put_pixel-end c = sym (length-take-le _ _ (search rules))

pub returns : goal.returns
returns c = search (rules, pixel_behind)
