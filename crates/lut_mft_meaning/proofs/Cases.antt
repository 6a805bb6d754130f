-- The worked cases of `mft1` and `mft2` hold, jointly: each is computed.
-- Assumes nothing.
use mathlib.Core.Path.{refl}
use Rattle.icc.specs.Each.{Each}
use Rattle.lut_clut_meaning.specs.Table.{product}
use Rattle.fields.specs.Bytes.{words_at}
use Rattle.fields.specs.Tag.{signature_of}
use Rattle.lut_mft_meaning.specs.Answer.{fields_of, answer_of}
use Rattle.lut_mft_meaning.specs.Cases.{Holds, cases}
use Rattle.lut_mft_meaning.specs.Layout.{is_wide, is_mft, entry_size_of, tables_start, entries_at, colour_table}
use Rattle.lut_mft_meaning.specs.Mft.{outside, bad_entries, bad_channels, bad_numbers, tables_of, numbers_of, mft_of}

pub claim : Each Holds cases
unfolding Each Holds answer_of fields_of mft_of numbers_of tables_of bad_numbers bad_channels bad_entries outside colour_table entries_at tables_start entry_size_of is_mft is_wide product words_at signature_of
claim = (refl, (refl, (refl, (refl, (refl, (refl, (refl, (refl, (refl, (refl, (refl, (refl, (refl, (refl, (refl, (refl, (refl, (refl, (refl, (refl, (refl, (refl, (refl, (refl, (refl, (refl, (refl, tt)))))))))))))))))))))))))))
