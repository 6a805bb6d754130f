-- `small_xyz::meas::read_meas_tag` meets its contract: a tag that is not found is answered as by most readers.
-- Assumes nothing.
use borrow.Author.Rules.{rules}
use Rattle.fields.specs.Tag.{signature_of}
use Rattle.small_meaning.specs.Answer.{absent, measurement_numbers}
use Rattle.small_meaning.proofs.Order.{answer_this, answer_unfound}
use Rattle.small_xyz.proofs.Laws.{window_value}
use Rattle.small_xyz.proofs.meas.read_meas_tag.Goals as goal

pub returns-in-Err : goal.returns-in-Err
unfolding signature_of
returns-in-Err c = search (rules, answer_unfound measurement_numbers absent)

pub returns-in-Some : goal.returns-in-Some
unfolding signature_of
returns-in-Some c = search (rules, answer_this, window_value)
