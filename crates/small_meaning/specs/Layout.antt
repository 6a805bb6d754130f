-- How ICC.1:2022 lays out the types of the small readers. `t` is the element's bytes. Each begins with its signature, and bytes 4 to 7
-- are reserved, 0. A number is 4 bytes, an XYZNumber three numbers.
--
--   s15Fixed16ArrayType, 'sf32'      signatureType, 'sig '           dateTimeType, 'dtim'
--    8 on     the numbers             8 to 11  the signature          8 to 19  the date and time, a dateTimeNumber
--
--   measurementType, 'meas'          viewingConditionsType, 'view'   XYZType, 'XYZ '
--    8 to 11  standard observer       8 to 19  illuminant, XYZ        8 on     the XYZNumbers
--   12 to 23  backing, XYZ           20 to 31  surround, XYZ
--   24 to 27  geometry               32 to 35  illuminant type       cicpType, 'cicp'
--   28 to 31  flare                                                   8  colour primaries
--   32 to 35  standard illuminant                                     9  transfer characteristics
--                                                                    10  matrix coefficients
--                                                                    11  video full range flag
use Rattle.std.specs.Prelude.{ℕ, Bool, List, [], ◌∷◌, eqb}
use Rattle.fields.specs.Bytes.{u32_at, bytes_at, words_at}

-- the nine numbers of a chromatic adaptation matrix
unfoldable pub nine_numbers : List ℕ → List ℕ
nine_numbers t = words_at t 8 9

unfoldable pub signature_in : List ℕ → List ℕ
signature_in t = u32_at t 8 ∷ []

unfoldable pub date_bytes : List ℕ → List ℕ
date_bytes t = bytes_at t 8 12

unfoldable pub measurement : List ℕ → List ℕ
measurement t = words_at t 8 7

unfoldable pub conditions : List ℕ → List ℕ
conditions t = words_at t 8 7

unfoldable pub first_xyz : List ℕ → List ℕ
first_xyz t = words_at t 8 3

unfoldable pub code_points : List ℕ → List ℕ
code_points t = bytes_at t 8 4

-- what the flag says
abbrev pub full_range : ℕ → Bool
full_range flag = eqb flag 1
