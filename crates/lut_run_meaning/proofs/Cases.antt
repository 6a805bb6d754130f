-- The worked cases of a run hold, jointly: each is computed.
-- Assumes nothing.
use mathlib.Core.Path.{refl}
use Rattle.icc.specs.Each.{Each}
use Rattle.fields.specs.Bytes.{words_at}
use Rattle.fields.specs.Tag.{signature_of}
use Rattle.curve_meaning.specs.Curve.{curve_of, curv_of, para_of, divides}
use Rattle.curve_meaning.specs.Layout.{parameter_count}
use Rattle.curve_meaning.specs.Shape.{size_of, step_of, words_of}
use Rattle.lut_run_meaning.specs.Cases.{Holds, cases}
use Rattle.lut_run_meaning.specs.Run.{aligned, curve_at_offset, run_at, records_of}

pub claim : Each Holds cases
unfolding Each Holds run_at curve_at_offset aligned records_of curve_of curv_of para_of divides parameter_count size_of step_of words_of words_at signature_of
claim = (refl, (refl, (refl, (refl, (refl, (refl, (refl, (refl, (refl, (refl, (refl, ((refl, refl), tt))))))))))))
