-- `answers_lines::pixel::put_pixel` meets its contract: by the status of the evaluation.
-- Assumes nothing.
use borrow.Author.Rules.{rules}
use Rattle.answers_lines.proofs.Pixels.{results_fit, pixel_value, pixel_refused_lem}
use Rattle.answers_lines.proofs.pixel.put_pixel.Goals as goal

pub put_results-told-requires : goal.put_results-told-requires
put_results-told-requires c = results_fit _ _ _ _ _ _ (search rules) c.khalyksor_evaluate-status.ensures _ c.numbers_in-numbers.ensures c.if-status-eq-VALUE.true

pub returns-then-status-eq-VALUE : goal.returns-then-status-eq-VALUE
returns-then-status-eq-VALUE c = pixel_value _ _ _ _ _ _ (search rules) c.khalyksor_evaluate-status.ensures _ _ c.number_buffer.ensures c.numbers_in-numbers.ensures c.if-status-eq-VALUE.true c.put_results-told.ensures c.put_buffer.ensures

pub returns : goal.returns
returns c = pixel_refused_lem _ _ _ _ _ _ (search rules) c.khalyksor_evaluate-status.ensures _ c.number_buffer.ensures c.if-status-eq-VALUE.false c.put-word.ensures c.put_number-told.ensures c.put_buffer-2.ensures
