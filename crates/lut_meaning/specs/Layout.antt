-- How ICC.1:2022 lays out lutAToBType (10.12) and lutBToAType (10.13). `t` is the tag's bytes.
--
--    0 to  3  'mAB ' or 'mBA '
--    4 to  7  reserved, 0
--    8        input channels
--    9        output channels
--   10 to 11  reserved, 0
--   12 to 15  offset of the B curves
--   16 to 19  offset of the matrix
--   20 to 23  offset of the M curves
--   24 to 27  offset of the CLUT
--   28 to 31  offset of the A curves
--
-- Offsets count from the tag's first byte; an element whose offset is 0 is not there.
use Rattle.std.specs.Prelude.{ℕ, ◌+◌, Bool, cond, List, [], ◌∷◌, eqb, get_or, replicate}
use Rattle.fields.specs.Bytes.{u32_at, bytes_at, words_at}
use Rattle.fields.specs.Tag.{signature_of}
use Rattle.fields.specs.declared.Kind.TheVariants.{Mab}

-- towards the connection space, 'mAB ', or away from it, 'mBA '
abbrev pub to_pcs_of : List ℕ → Bool
to_pcs_of t = eqb (u32_at t 0) (signature_of Mab)

abbrev pub inputs : List ℕ → ℕ
inputs t = get_or t 8 0

abbrev pub outputs : List ℕ → ℕ
outputs t = get_or t 9 0

abbrev pub b_offset : List ℕ → ℕ
b_offset t = u32_at t 12

abbrev pub matrix_offset : List ℕ → ℕ
matrix_offset t = u32_at t 16

abbrev pub m_offset : List ℕ → ℕ
m_offset t = u32_at t 20

abbrev pub clut_offset : List ℕ → ℕ
clut_offset t = u32_at t 24

abbrev pub a_offset : List ℕ → ℕ
a_offset t = u32_at t 28

-- the curves of a run: none where its offset is 0
unfoldable pub present : ℕ → ℕ → ℕ
present offset n = cond (eqb offset 0) 0 n

-- A curves stand on the device's side, M and B curves on the connection space's
unfoldable pub device_channels : List ℕ → ℕ
device_channels t = cond (to_pcs_of t) (inputs t) (outputs t)

unfoldable pub space_channels : List ℕ → ℕ
space_channels t = cond (to_pcs_of t) (outputs t) (inputs t)

unfoldable pub a_curves_of : List ℕ → ℕ
a_curves_of t = present (a_offset t) (device_channels t)

unfoldable pub m_curves_of : List ℕ → ℕ
m_curves_of t = present (m_offset t) (space_channels t)

unfoldable pub b_curves_of : List ℕ → ℕ
b_curves_of t = present (b_offset t) (space_channels t)

-- how many records a tag needs, from its first 32 bytes
unfoldable pub records_needed : List ℕ → ℕ
records_needed t = a_curves_of t + m_curves_of t + b_curves_of t

-- the matrix, nine numbers, and behind it three bias numbers, all of four bytes; a matrix that is not there is the identity
abbrev pub matrix_bytes : ℕ
matrix_bytes = 48

abbrev pub bias_from : ℕ
bias_from = 36

abbrev pub identity : List ℕ
identity = 65536 ∷ 0 ∷ 0 ∷ 0 ∷ 65536 ∷ 0 ∷ 0 ∷ 0 ∷ 65536 ∷ []

unfoldable pub matrix_of : List ℕ → List ℕ
matrix_of t = cond (eqb (matrix_offset t) 0) identity (words_at t (matrix_offset t) 9)

unfoldable pub bias_of : List ℕ → List ℕ
bias_of t = cond (eqb (matrix_offset t) 0) (replicate 3 0) (words_at t (matrix_offset t + bias_from) 3)

-- the sixteen grid bytes as they stand, zeros without a CLUT
unfoldable pub grid_of : List ℕ → List ℕ
grid_of t = cond (eqb (clut_offset t) 0) (replicate 16 0) (bytes_at t (clut_offset t) 16)
