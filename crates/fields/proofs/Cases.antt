-- The worked cases of what every reader stands on hold, jointly: each is computed.
-- Assumes nothing.
use mathlib.Core.Path.{refl}
use Rattle.icc.specs.Each.{Each}
use Rattle.fields.specs.Bytes.{bytes_at, words_at}
use Rattle.fields.specs.Cases.{Holds, cases}
use Rattle.fields.specs.Place.{place_of}
use Rattle.fields.specs.Tag.{signature_of, kind_in, kind_of}

pub claim : Each Holds cases
unfolding Each Holds bytes_at words_at place_of kind_of kind_in signature_of
claim = ((refl, refl), ((refl, refl), ((refl, refl), ((refl, refl), ((refl, refl), ((refl, refl), (refl, (refl, (refl, (refl, (refl, ((refl, refl), ((refl, refl), ((refl, refl), ((refl, refl), ((refl, refl), ((refl, refl), ((refl, refl), ((refl, refl), ((refl, refl), ((refl, refl), ((refl, refl), ((refl, refl), ((refl, refl), ((refl, refl), ((refl, refl), ((refl, refl), ((refl, refl), (refl, (refl, (refl, (refl, (refl, (refl, (refl, (refl, tt))))))))))))))))))))))))))))))))))))
