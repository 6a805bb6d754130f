-- The worked cases of text hold, jointly: each is computed.
-- Assumes nothing.
use mathlib.Core.Path.{refl}
use Rattle.icc.specs.Each.{Each}
use Rattle.fields.specs.Tag.{signature_of}
use Rattle.text_meaning.specs.Cases.{Holds, cases}
use Rattle.text_meaning.specs.Cut.{byte_of, unit_of, kept_of}
use Rattle.text_meaning.specs.Mluc.{even, record_at, records_from, records_asked, records_in, words_in}
use Rattle.text_meaning.specs.Text.{text_of, unicode_of, desc_of, slotted_of, mluc_of, by_type, string_of}

pub claim : Each Holds cases
unfolding string_of by_type text_of unicode_of desc_of slotted_of mluc_of records_in records_asked records_from record_at even words_in kept_of byte_of unit_of signature_of Each Holds
claim = ((refl, refl), ((refl, refl), ((refl, refl), ((refl, refl), ((refl, refl), ((refl, refl), ((refl, refl), ((refl, refl), ((refl, refl), ((refl, refl), ((refl, refl), ((refl, refl), ((refl, refl), ((refl, refl), ((refl, refl), ((refl, refl), ((refl, refl), ((refl, refl), ((refl, refl), ((refl, refl), ((refl, refl), ((refl, refl), ((refl, refl), ((refl, refl), ((refl, refl), ((refl, refl), ((refl, refl), ((refl, refl), ((refl, refl), ((refl, refl), ((refl, refl), ((refl, refl), ((refl, refl), ((refl, refl), tt))))))))))))))))))))))))))))))))))
