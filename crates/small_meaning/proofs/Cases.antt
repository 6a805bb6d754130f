-- The cases of the small readers hold, jointly: each is computed.
-- Assumes nothing.
use mathlib.Core.Path.{refl}
use Rattle.icc.specs.Each.{Each}
use Rattle.fields.specs.Bytes.{bytes_at, words_at}
use Rattle.fields.specs.Tag.{signature_of}
use Rattle.small_meaning.specs.Cases.{Holds, cases}
use Rattle.small_meaning.specs.Layout.{nine_numbers, signature_in, date_bytes, measurement, conditions, first_xyz, code_points}
use Rattle.small_meaning.specs.Order.{found_of, answer_to}
use Rattle.small_meaning.specs.Small.{chad_matrix_of, chad_of, window_of, triple_of}

pub claim : Each Holds cases
unfolding Each Holds found_of answer_to chad_of chad_matrix_of window_of triple_of nine_numbers signature_in date_bytes measurement conditions first_xyz code_points bytes_at words_at signature_of
claim = (refl, (refl, (refl, (refl, (refl, (refl, (refl, (refl, (refl, (refl, (refl, (refl, (refl, (refl, (refl, (refl, (refl, (refl, (refl, (refl, (refl, (refl, (refl, (refl, (refl, (refl, (refl, (refl, (refl, (refl, (refl, (refl, (refl, (refl, (refl, (refl, (refl, (refl, (refl, (refl, (refl, tt)))))))))))))))))))))))))))))))))))))))))
