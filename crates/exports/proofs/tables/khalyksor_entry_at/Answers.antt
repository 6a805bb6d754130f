-- `exports::tables::khalyksor_entry_at` meets its contract: what is told of the entry is told of its meaning.
-- Assumes nothing.
use mathlib.Core.Path.{refl, sym, ap, ◌∙◌}
use Rattle.export_lut.specs.Layout.{entry_exported}
use Rattle.export_words.proofs.Telling.{too_few, enough, no_room, with_room}
use borrow.Author.Rules.{rules}
use Rattle.exports.proofs.tables.khalyksor_entry_at.Goals as goal

pub returns-then-out : goal.returns-then-out
returns-then-out c = search (rules, no_room)

pub returns-then-lut : goal.returns-then-lut
returns-then-lut c = with_room _ _ _ _ _ _ c.if-out.false refl (too_few _ _ _ _ c.if-lut.true)

pub returns : goal.returns
returns c = with_room _ _ _ _ _ _ c.if-out.false (ap entry_exported (rw c.numbers_in-numbers.ensures at c.entry_at-got.ensures) ∙ sym (enough _ _ _ c.if-lut.false)) c.tell_entry.ensures
