-- `small_chad::read_chad_tag` meets its contract: what the tag itself is answered with is a law of `chad_matrix_of`.
-- Assumes nothing.
use Rattle.fields.specs.Tag.{signature_of}
use Rattle.small_chad.proofs.Laws.{chad_laws}
use borrow.Author.Rules.{rules}
use Rattle.small_chad.proofs.read_chad_tag.Goals as goal

pub returns-then-u32_at-ne-SF32 : goal.returns-then-u32_at-ne-SF32
unfolding signature_of
returns-then-u32_at-ne-SF32 c = search (rules, chad_laws)

pub returns-then-tag-ne-END : goal.returns-then-tag-ne-END
unfolding signature_of
returns-then-tag-ne-END c = search (rules, chad_laws)

pub returns : goal.returns
unfolding signature_of
returns c = search (rules, chad_laws)
