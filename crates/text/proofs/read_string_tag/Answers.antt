-- `text::read_string_tag` meets its contract: a tag in the profile is read by its type.
-- Assumes nothing.
use borrow.Author.Rules.{rules}
use Rattle.text_meaning.specs.Text.{string_of}
use Rattle.text.proofs.Laws.{string_laws}
use Rattle.text.proofs.read_string_tag.Goals as goal

pub returns : goal.returns
unfolding string_of
returns c = search (rules, string_laws)
