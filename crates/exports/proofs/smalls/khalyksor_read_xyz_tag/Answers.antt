-- `exports::smalls::khalyksor_read_xyz_tag` meets its contract: what is told of the reader's result is told of its meaning.
-- Assumes nothing.
use mathlib.Core.Path.{ap}
use Rattle.export_small.specs.Layout.{small_exported}
use Rattle.export_words.proofs.Telling.{no_room, with_room}
use borrow.Author.Rules.{rules}
use Rattle.exports.proofs.smalls.khalyksor_read_xyz_tag.Goals as goal

pub returns-then-out : goal.returns-then-out
returns-then-out c = search (rules, no_room)

pub returns : goal.returns
returns c = with_room _ _ _ _ _ _ c.if-out.false (ap small_exported c.read_xyz_tag-got.ensures) c.tell_xyz.ensures
