-- The worked cases hold, jointly: each is computed.
-- Assumes nothing.
use mathlib.Core.Path.{◌≡◌, refl}
use mathlib.Core.List.{[]}
use Rattle.icc.specs.Each.{Each}
use Rattle.fields.specs.Bytes.{bytes_at, words_at}
use Rattle.fields.specs.Tag.{signature_of}
use Rattle.fields.specs.Some.{some}
use Rattle.lut_clut_meaning.specs.Cases.{cube, numbers_in}
use Rattle.lut_clut_meaning.specs.Clut.{clut_of, grid_checked, data_of, partials}
use Rattle.lut_clut_meaning.specs.Table.{product, point_of}
use Rattle.curve_meaning.specs.Answer.{answer_of}
use Rattle.curve_meaning.specs.Cases.{signed_parameters}
use Rattle.curve_meaning.specs.Curve.{trc_of, curve_of, curv_of, para_of, divides}
use Rattle.curve_meaning.specs.Layout.{parameter_count}
use Rattle.curve_meaning.specs.declared.Walk.TheVariants.{Crate}
use Rattle.curve_meaning.specs.Shape.{size_of, step_of, words_of}
use Rattle.lut_mft_meaning.specs.Layout.{is_wide, is_mft}
use Rattle.lut_run_meaning.specs.Run.{aligned, curve_at_offset, run_at, records_of}
use Rattle.lut_meaning.specs.Abm.{abm_of, value_of}
use Rattle.lut_meaning.specs.Layout.{present, device_channels, space_channels, a_curves_of, m_curves_of, b_curves_of, records_needed, grid_of, matrix_of, bias_of}
use Rattle.lut_meaning.specs.Lut.{by_type, lut_of}
use Rattle.lut_meaning.specs.Parts.{matrix_checked, table_in, colour_table_of, ended, curves_of}
use Rattle.text_meaning.specs.Mluc.{even, record_at, records_from, records_asked, records_in, words_in}
use Rattle.text_meaning.specs.Text.{slotted_of, mluc_of, by_type as stringByType, string_of}
use Rattle.lut_view_meaning.specs.View.{numbers_of}
use Rattle.demands.specs.Readers.{lut, meaning}
use Rattle.demands.specs.Cases.{Holds, call, with_table, book_answer, book_two_slots, cases}

-- those of the book walk, which break wrong readers
pub record BookWalk : Type 0 where
  pub answer : Holds book_answer
  pub two_slots : Holds book_two_slots

pub book_walk : BookWalk
unfolding Holds lut_of by_type is_mft is_wide abm_of value_of table_in colour_table_of product curves_of matrix_checked ended present device_channels space_channels a_curves_of m_curves_of b_curves_of records_needed grid_of matrix_of bias_of bytes_at words_at run_at curve_at_offset aligned records_of curve_of curv_of para_of divides parameter_count size_of step_of words_of signature_of
book_walk = record { answer = refl; two_slots = (refl, refl) }

-- the numbers of the colour table of `with_table`, 2 by 2 by 2 points with three outputs: they break an evaluator that refuses all
pub cube_numbers : numbers_of (meaning (lut Crate) (call (with_table 3 3 cube) 76 [])).state ≡ record { start = record { 0 = 52 }; entry_size = 1; inputs = 3; outputs = 3; grid_at = record { 0 = 32 }; grid_step = 1 }
unfolding lut_of by_type is_mft is_wide abm_of value_of table_in colour_table_of clut_of grid_checked data_of some partials product curves_of matrix_checked ended present device_channels space_channels a_curves_of m_curves_of b_curves_of records_needed run_at signature_of
cube_numbers = refl

pub claim : Each Holds cases
unfolding Each Holds signed_parameters numbers_in trc_of answer_of lut_of by_type is_mft is_wide abm_of value_of table_in colour_table_of clut_of grid_checked data_of some partials product point_of curves_of matrix_checked ended present device_channels space_channels a_curves_of m_curves_of b_curves_of records_needed grid_of matrix_of bias_of bytes_at words_at run_at curve_at_offset aligned records_of curve_of curv_of para_of divides parameter_count size_of step_of words_of string_of stringByType slotted_of mluc_of records_in records_asked records_from record_at even words_in signature_of
claim =
    (refl, (refl, ((refl, refl), ((refl, refl), ((refl, refl), (refl, (refl, ((refl, refl), ((refl, refl), (refl, (refl, (book_walk.answer, (refl, ((refl, refl), (book_walk.two_slots, (refl, ((refl, refl), ((refl, refl), (refl, (refl, tt))))))))))))))))))))
