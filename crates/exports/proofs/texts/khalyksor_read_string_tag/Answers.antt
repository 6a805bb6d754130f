-- `exports::texts::khalyksor_read_string_tag` meets its contract: what is told of the reader's result is told of its meaning.
-- Assumes nothing.
use mathlib.Core.Path.{ap}
use Rattle.export_text.specs.Layout.{text_exported}
use Rattle.export_words.proofs.Telling.{no_room_slots, with_room_slots}
use borrow.Author.Rules.{rules}
use Rattle.exports.proofs.texts.khalyksor_read_string_tag.Goals as goal

pub returns-then-out : goal.returns-then-out
returns-then-out c = search (rules, no_room_slots)

pub returns : goal.returns
returns c = with_room_slots _ _ _ _ _ _ _ _ _ c.if-out.false (ap text_exported c.read_string_tag-got.ensures.answer_is) c.read_string_tag-got.ensures.slots_are c.tell_text.ensures
