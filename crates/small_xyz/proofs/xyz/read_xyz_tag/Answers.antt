-- `small_xyz::xyz::read_xyz_tag` meets its contract: a tag that is not found is answered as by most readers.
-- Assumes nothing.
use borrow.Author.Rules.{rules}
use Rattle.fields.specs.Tag.{signature_of}
use Rattle.small_meaning.specs.Answer.{default, xyz_numbers}
use Rattle.small_meaning.proofs.Order.{answer_unfound}
use Rattle.small_xyz.proofs.xyz.read_xyz_tag.Goals as goal

pub returns-in-Err : goal.returns-in-Err
unfolding signature_of
returns-in-Err c = search (rules, answer_unfound xyz_numbers default)
