-- The worked cases of the tone curve hold, jointly: each is computed.
-- Assumes nothing.
use mathlib.Core.Path.{refl}
use Rattle.icc.specs.Each.{Each}
use Rattle.fields.specs.Bytes.{words_at}
use Rattle.fields.specs.Tag.{signature_of}
use Rattle.curve_meaning.specs.Answer.{answer_of, step_checked, slot_with, in_slot}
use Rattle.curve_meaning.specs.Cases.{Holds, signed_parameters, cases}
use Rattle.curve_meaning.specs.Curve.{trc_of, curve_of, curv_of, para_of, divides}
use Rattle.curve_meaning.specs.Layout.{parameter_count}
use Rattle.curve_meaning.specs.Shape.{table_shape, size_of, step_of, words_of}

pub claim : Each Holds cases
unfolding table_shape trc_of answer_of step_checked slot_with in_slot words_of step_of size_of curve_of curv_of para_of divides parameter_count words_at signature_of Each Holds signed_parameters
claim = (refl, (refl, (refl, (refl, (refl, (refl, (refl, (refl, (refl, (refl, (refl, (refl, (refl, (refl, (refl, (refl, (refl, (refl, (refl, (refl, (refl, (refl, (refl, (refl, (refl, (refl, (refl, (refl, (refl, (refl, (refl, (refl, (refl, (refl, ((refl, refl), ((refl, refl), ((refl, refl), tt)))))))))))))))))))))))))))))))))))))
