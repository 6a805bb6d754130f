-- `exports::curves::khalyksor_read_trc_tag` meets its contract: what is told of the reader's result is told of its meaning.
-- Assumes nothing.
use mathlib.Core.Path.{ap, ◌∙◌}
use Rattle.export_curve.specs.Layout.{curve_exported}
use Rattle.export_curve.proofs.Told.{curve_told}
use Rattle.export_words.proofs.Telling.{no_room, with_room}
use borrow.Author.Rules.{rules}
use Rattle.exports.proofs.curves.khalyksor_read_trc_tag.Goals as goal

pub returns-then-out : goal.returns-then-out
returns-then-out c = search (rules, no_room)

pub returns : goal.returns
returns c = with_room _ _ _ _ _ _ c.if-out.false (curve_told _ ∙ ap curve_exported (rw c.walk_of.ensures at c.read_trc_tag-got.ensures)) c.tell.ensures
