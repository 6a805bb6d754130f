-- `lut_mft::find_tables` meets its contract: the tables follow each other.
-- Assumes nothing.
use mathlib.Core.Path.{◌∙◌}
use Rattle.lut_mft.proofs.Laws.{tables_short, tables_value}
use Rattle.lut_mft.proofs.find_tables.Goals as goal

pub returns-then-tag-output_start : goal.returns-then-tag-output_start
returns-then-tag-output_start c =
    tables_short _ _ c.requires _ _ _ _ _ _ c.entry_size-entry_size.ensures c.u8_at-inputs.ensures c.u8_at-outputs.ensures (c.from.ensures ∙ c.entries-input_entries.ensures) (c.from-2.ensures ∙ c.entries-output_entries.ensures) (c.from-input_start.ensures ∙ c.tables_start.ensures) _ _ _ c.table_length-input_length.ensures c.table_length-clut_length.ensures c.table_length-output_length.ensures c.if-tag-output_start.true

pub returns : goal.returns
returns c =
    rw (← c.from.ensures, ← c.from-2.ensures) (tables_value _ _ c.requires _ _ _ _ _ _ c.entry_size-entry_size.ensures c.u8_at-inputs.ensures c.u8_at-outputs.ensures (c.from.ensures ∙ c.entries-input_entries.ensures) (c.from-2.ensures ∙ c.entries-output_entries.ensures) (c.from-input_start.ensures ∙ c.tables_start.ensures) _ _ _ c.table_length-input_length.ensures c.table_length-clut_length.ensures c.table_length-output_length.ensures c.if-tag-output_start.false _ c.u8_at.ensures)
