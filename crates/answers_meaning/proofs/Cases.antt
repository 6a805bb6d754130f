-- The cases of the program `answers` hold, jointly: each line is computed.
-- Assumes nothing.
use mathlib.Core.Path.{refl}
use Rattle.icc.specs.Each.{Each}
use Rattle.fields.specs.Bytes.{bytes_at, words_at}
use Rattle.fields.specs.Tag.{signature_of}
use Rattle.fields.specs.Some.{some}
use Rattle.lut_clut_meaning.specs.Clut.{partials, grid_checked, data_of, clut_of}
use Rattle.lut_clut_meaning.specs.Table.{product, in_grid, point_of}
use Rattle.curve_meaning.specs.Answer.{answer_of as curveAnswer}
use Rattle.curve_meaning.specs.Curve.{trc_of, curve_of, curv_of, para_of, divides}
use Rattle.curve_meaning.specs.Layout.{parameter_count}
use Rattle.curve_meaning.specs.Shape.{size_of, step_of, words_of}
use Rattle.lut_run_meaning.specs.Run.{aligned, curve_at_offset as curve_at, run_at, records_of}
use Rattle.lut_mft_meaning.specs.Answer.{fields_of, answer_of as mftAnswer}
use Rattle.lut_mft_meaning.specs.Layout.{is_wide, is_mft, entry_size_of, tables_start, entries_at, colour_table}
use Rattle.lut_mft_meaning.specs.Mft.{outside, bad_entries, bad_channels, bad_numbers, tables_of, numbers_of, mft_of}
use Rattle.lut_meaning.specs.Abm.{value_of, abm_of}
use Rattle.lut_meaning.specs.Layout.{present, device_channels, space_channels, a_curves_of, m_curves_of, b_curves_of, records_needed, grid_of, matrix_of as abmMatrix, bias_of}
use Rattle.lut_meaning.specs.Lut.{by_type, lut_of}
use Rattle.lut_meaning.specs.Parts.{matrix_checked, table_in, colour_table_of, ended, curves_of}
use Rattle.text_meaning.specs.Cut.{byte_of, unit_of, kept_of}
use Rattle.text_meaning.specs.Mluc.{even, record_at, records_from, records_asked, records_in, words_in}
use Rattle.text_meaning.specs.Text.{text_of, unicode_of, desc_of, slotted_of, mluc_of, by_type as stringByType, string_of}
use Rattle.lut_view_meaning.specs.View.{grid_from, entry_from, entry_of}
use Rattle.evaluate_meaning.specs.Colour.{cell_of, rest_of, blend, between, colour_of, sample_at, corner_of, colours_from}
use Rattle.evaluate_meaning.specs.Evaluate.{odd_numbers, outside as pixel·outside, no_table, pixel_answer, pixel_after}
use Rattle.small_meaning.specs.Layout.{nine_numbers, signature_in, date_bytes, measurement, conditions, first_xyz, code_points}
use Rattle.small_meaning.specs.Order.{found_of, answer_to}
use Rattle.small_meaning.specs.Small.{chad_matrix_of, chad_of, window_of, triple_of}
use Rattle.lines.specs.Text.{digits_of, decimal, number, numeral, row_from, numbers, word_text}
use Rattle.export_lut.specs.Layout.{lut_layout, numbers_in}
use Rattle.export_text.specs.Layout.{string_layout}
use Rattle.answers_jobs.specs.Stream.{bytes_behind, pixel_in, index_in, tail_of}
use Rattle.answers_meaning.specs.Cases.{Holds, printed, cases}
use Rattle.answers_meaning.specs.Line.{marked_from, entry_exported_at, view_exported, exported_of, words_after, layout_for, line_of}
use Rattle.answers_meaning.specs.Pixel.{numbered_from, pixel_text, pixel_line}
use Rattle.answers_meaning.specs.Text.{refused_text, name_text, words_text, exported_text, lent_text}

pub claim : Each Holds cases
unfolding Each Holds printed curveAnswer trc_of curve_of curv_of para_of divides parameter_count size_of step_of words_of aligned curve_at run_at records_of abm_of value_of table_in colour_table_of curves_of matrix_checked ended present device_channels space_channels a_curves_of m_curves_of b_curves_of records_needed grid_of abmMatrix bias_of string_of stringByType text_of unicode_of desc_of slotted_of mluc_of records_in records_asked records_from record_at even words_in kept_of byte_of unit_of window_of triple_of signature_in date_bytes measurement conditions first_xyz code_points lent_text line_of exported_of words_after layout_for entry_exported_at view_exported name_text words_text exported_text lut_layout numbers_in string_layout row_from word_text bytes_at marked_from bytes_behind pixel_in index_in tail_of pixel_line pixel_text numbered_from pixel_answer pixel_after no_table odd_numbers pixel·outside colours_from colour_of cell_of rest_of between blend sample_at corner_of refused_text numbers numeral number decimal digits_of found_of answer_to chad_of chad_matrix_of nine_numbers lut_of by_type is_mft is_wide mft_of numbers_of bad_numbers bad_entries bad_channels outside tables_of fields_of mftAnswer entry_size_of tables_start entries_at colour_table some partials grid_checked data_of clut_of product entry_of entry_from grid_from in_grid point_of words_at signature_of
claim = (refl, (refl, (refl, (refl, (refl, (refl, (refl, (refl, (refl, (refl, (refl, (refl, (refl, (refl, (refl, (refl, (refl, (refl, (refl, (refl, (refl, (refl, (refl, (refl, (refl, (refl, (refl, (refl, (refl, (refl, (refl, (refl, (refl, (refl, (refl, (refl, (refl, (refl, (refl, (refl, (refl, (refl, (refl, tt)))))))))))))))))))))))))))))))))))))))))))
