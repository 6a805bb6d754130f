-- `answers_lines::pixel::put_results` meets its contract: the pieces are the text.
-- Assumes nothing.
use mathlib.Core.Path.{sym}
use lib.Seq.{length-take-le}
use borrow.Author.Rules.{rules}
use Rattle.answers_lines.proofs.Pixels.{results_put}
use Rattle.answers_lines.proofs.pixel.put_results.Goals as goal

pub slice_bounds-put_short_numbers-end : goal.slice_bounds-put_short_numbers-end
slice_bounds-put_short_numbers-end c = sym (length-take-le _ _ (search rules))

pub returns : goal.returns
returns c = search (rules, results_put)
