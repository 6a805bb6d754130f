-- `small_raw::dtim::read_date_time_tag` meets its contract: a tag that is not found is answered as by most readers, and a profile that holds
-- one has 20 bytes.
-- Assumes nothing.
use mathlib.Core.Path.{sym}
use lib.Seq.{length-take-le}
use borrow.Author.Rules.{rules}
use Rattle.fields.specs.Tag.{signature_of}
use Rattle.small_meaning.specs.Answer.{absent, date_numbers}
use Rattle.small_meaning.proofs.Order.{answer_unfound, covers}
use Rattle.small_raw.proofs.dtim.read_date_time_tag.Goals as goal

pub slice_bounds-bytes_at-end : goal.slice_bounds-bytes_at-end
unfolding signature_of
slice_bounds-bytes_at-end c = sym (length-take-le 20 c.args.profile.now (search (rules, covers)))

pub returns-in-Err : goal.returns-in-Err
unfolding signature_of
returns-in-Err c = search (rules, answer_unfound date_numbers absent)
