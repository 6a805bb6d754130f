-- The worked cases of lookup tables hold, jointly: each is computed.
-- Assumes nothing.
use mathlib.Core.Path.{refl}
use Rattle.icc.specs.Each.{Each}
use Rattle.fields.specs.Bytes.{bytes_at, words_at}
use Rattle.fields.specs.Tag.{signature_of}
use Rattle.fields.specs.Some.{some}
use Rattle.lut_clut_meaning.specs.Clut.{clut_of, grid_checked, data_of, partials}
use Rattle.lut_clut_meaning.specs.Table.{product, point_of}
use Rattle.curve_meaning.specs.Curve.{curve_of, curv_of as curv_of, para_of, divides}
use Rattle.curve_meaning.specs.Layout.{parameter_count}
use Rattle.curve_meaning.specs.Shape.{size_of, step_of, words_of}
use Rattle.lut_mft_meaning.specs.Answer.{fields_of, answer_of}
use Rattle.lut_mft_meaning.specs.Layout.{is_wide, is_mft, entry_size_of, tables_start, entries_at, colour_table}
use Rattle.lut_mft_meaning.specs.Mft.{outside, bad_entries, bad_channels, bad_numbers, tables_of, numbers_of, mft_of}
use Rattle.lut_run_meaning.specs.Run.{aligned, curve_at_offset, run_at, records_of}
use Rattle.lut_meaning.specs.Abm.{abm_of, value_of}
use Rattle.lut_meaning.specs.Cases.{Holds, cases}
use Rattle.lut_meaning.specs.Layout.{present, device_channels, space_channels, a_curves_of, m_curves_of, b_curves_of, records_needed, grid_of, matrix_of, bias_of}
use Rattle.lut_meaning.specs.Lut.{by_type, lut_of}
use Rattle.lut_meaning.specs.Parts.{matrix_checked, table_in, colour_table_of, ended, curves_of}

pub claim : Each Holds cases
unfolding Each Holds lut_of by_type is_mft is_wide answer_of fields_of mft_of numbers_of tables_of bad_numbers bad_channels bad_entries outside colour_table entries_at tables_start entry_size_of abm_of value_of table_in colour_table_of clut_of grid_checked data_of some partials product point_of curves_of matrix_checked ended present device_channels space_channels a_curves_of m_curves_of b_curves_of records_needed grid_of matrix_of bias_of bytes_at words_at run_at curve_at_offset aligned records_of curve_of curv_of para_of divides parameter_count size_of step_of words_of signature_of
claim = ((refl, refl), ((refl, refl), ((refl, refl), ((refl, refl), ((refl, refl), ((refl, refl), ((refl, refl), ((refl, refl), ((refl, refl), ((refl, refl), ((refl, refl), ((refl, refl), ((refl, refl), ((refl, refl), ((refl, refl), ((refl, refl), ((refl, refl), ((refl, refl), ((refl, refl), ((refl, refl), ((refl, refl), ((refl, refl), ((refl, refl), ((refl, refl), tt))))))))))))))))))))))))
