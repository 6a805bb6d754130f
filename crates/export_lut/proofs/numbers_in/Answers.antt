-- `export_lut::numbers_in` meets its contract: by the type that the first word tells.
-- Assumes nothing.
use borrow.Author.Rules.{rules}
use Rattle.fields.specs.Tag.{signature_of}
use Rattle.export_lut.proofs.Laws.{type-laws}
use Rattle.export_lut.proofs.numbers_in.Goals as goal

pub word_at-first-requires : goal.word_at-first-requires
unfolding signature_of
word_at-first-requires c = search rules

pub mft_numbers-requires : goal.mft_numbers-requires
unfolding signature_of
mft_numbers-requires c = search rules

pub returns-then-first : goal.returns-then-first
unfolding signature_of
returns-then-first c = search (rules, type-laws)

pub mft_numbers-requires-then-first-2 : goal.mft_numbers-requires-then-first-2
unfolding signature_of
mft_numbers-requires-then-first-2 c = search rules

pub returns-then-first-2 : goal.returns-then-first-2
unfolding signature_of
returns-then-first-2 c = search (rules, type-laws)

pub abm_numbers-requires : goal.abm_numbers-requires
unfolding signature_of
abm_numbers-requires c = search rules

pub returns-then-first-3 : goal.returns-then-first-3
unfolding signature_of
returns-then-first-3 c = search (rules, type-laws)

pub abm_numbers-requires-then-first-4 : goal.abm_numbers-requires-then-first-4
unfolding signature_of
abm_numbers-requires-then-first-4 c = search rules

pub returns-then-first-4 : goal.returns-then-first-4
unfolding signature_of
returns-then-first-4 c = search (rules, type-laws)

pub returns : goal.returns
unfolding signature_of
returns c = search (rules, type-laws)
