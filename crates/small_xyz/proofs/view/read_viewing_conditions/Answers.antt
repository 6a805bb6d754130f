-- `small_xyz::view::read_viewing_conditions` meets its contract: a tag that is not found is answered as by most readers.
-- Assumes nothing.
use borrow.Author.Rules.{rules}
use Rattle.fields.specs.Tag.{signature_of}
use Rattle.small_meaning.specs.Answer.{absent, viewing_numbers}
use Rattle.small_meaning.specs.Layout.{conditions}
use Rattle.small_meaning.proofs.Order.{answer_fields, answer_unfound}
use Rattle.small_xyz.proofs.view.read_viewing_conditions.Goals as goal

pub returns-in-Err : goal.returns-in-Err
unfolding signature_of
returns-in-Err c = search (rules, answer_unfound viewing_numbers absent)

pub returns-in-Ok : goal.returns-in-Ok
unfolding signature_of
returns-in-Ok c = search (rules, answer_fields conditions)
