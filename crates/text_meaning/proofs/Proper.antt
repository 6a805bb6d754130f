-- What conformance asks of text is met: the tag of each type in the worked cases is one that the standards write, so it speaks of something.
-- Assumes nothing.
use Prim.Native.Nat.{ℕ}
use native.Mathlib.Omega.{arith}
use mathlib.Core.Path.{◌≡◌, refl}
use mathlib.Core.List.{List, [], ◌∷◌}
use lib.ListN.{replicate}
use Rattle.icc.specs.Each.{Each}
use Rattle.icc.specs.Numbers.{each16}
use Rattle.icc.specs.Text.{Ascii, terminated, text_type, ascii_part, unicode_part, script_part, characters, unicode_string, IsUnicode, Description, text_description_type, IsDescription, Localized, record_element, record_elements, localized_head, LocalizedTag}
use Rattle.text_meaning.specs.Cases.{word, mluc_tag, english, full_text, full_desc, full_mluc}
use Rattle.text_meaning.specs.Standard.{Asked}

abbrev abc : List ℕ
abc = 0x41 ∷ 0x42 ∷ 0x43 ∷ []

abc_ascii : Ascii abc
unfolding Each
abc_ascii = ((omega arith, omega arith), ((omega arith, omega arith), ((omega arith, omega arith), tt)))

pub text_proper : Ascii abc × (full_text ≡ text_type 0x01020304 (terminated abc))
unfolding text_type
text_proper = (abc_ascii, refl)

abbrev described : Description
described = record { ascii = abc; language = 0x05060708; unicode = characters (0x0944 ∷ 0x0A45 ∷ []); script_code = 0x0B0C; script_count = 13; script = replicate 67 14 }

pub desc_proper : IsDescription described × (full_desc ≡ text_description_type 0x01020304 described)
unfolding Each IsUnicode text_description_type ascii_part unicode_part script_part unicode_string each16
desc_proper = (
  record {
    ascii = abc_ascii;
    ascii_count_lem = omega arith;
    language = omega arith;
    unicode = ((omega arith, omega arith), ((omega arith, omega arith), tt));
    unicode_count_lem = omega arith;
    script = refl;
  },
  refl,
)

abbrev en_us : Localized
en_us = record { language = 0x656E; country = 0x5553; bytes = 6; offset = 44; units = 0x0743 ∷ 0x0844 ∷ 0x0945 ∷ [] }

abbrev de_at : Localized
de_at = record { language = 0x6465; country = 0x4154; bytes = 4; offset = 40; units = 0x0541 ∷ 0x0642 ∷ [] }

unfoldable pub localized : LocalizedTag full_mluc
unfolding localized_head record_elements record_element Each each16
localized =
    record {
      reserved = 0x01020304;
      records = en_us ∷ de_at ∷ [];
      begins = record { behind = 5 ∷ 0x41 ∷ 6 ∷ 0x42 ∷ 7 ∷ 0x43 ∷ 8 ∷ 0x44 ∷ 9 ∷ 0x45 ∷ []; is = refl };
      strings = (
        record { units = (omega arith, (omega arith, (omega arith, tt))); bytes = refl; in_tag = omega arith; stands = record { behind = []; is = refl } },
        (
          record {
            units = (omega arith, (omega arith, tt));
            bytes = refl;
            in_tag = omega arith;
            stands = record { behind = 7 ∷ 0x43 ∷ 8 ∷ 0x44 ∷ 9 ∷ 0x45 ∷ []; is = refl };
          },
          tt,
        ),
      );
    }

pub mluc_proper : Asked localized
unfolding localized Each
mluc_proper =
    record {
      some_record = omega arith;
      count_fits = omega arith;
      fit = (record { language = omega arith; country = omega arith; bytes = omega arith; offset = omega arith }, (record { language = omega arith; country = omega arith; bytes = omega arith; offset = omega arith }, tt));
    }

-- and the smallest: a record, and no string
abbrev nothing : Localized
nothing = record { language = 0x656E; country = 0x5553; bytes = 0; offset = 28; units = [] }

unfoldable pub smallest : LocalizedTag (mluc_tag (word 1) (english (word 0) (word 28)))
unfolding localized_head record_elements record_element Each each16
smallest =
    record {
      reserved = 0;
      records = nothing ∷ [];
      begins = record { behind = []; is = refl };
      strings = (record { units = tt; bytes = refl; in_tag = omega arith; stands = record { behind = []; is = refl } }, tt);
    }

pub smallest_proper : Asked smallest
unfolding smallest Each
smallest_proper =
    record { some_record = omega arith; count_fits = omega arith; fit = (record { language = omega arith; country = omega arith; bytes = omega arith; offset = omega arith }, tt) }
