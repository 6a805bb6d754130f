-- How ICC.1:2022 lays out a tone curve: curveType (10.6) and parametricCurveType (10.18). `t` is the curve's bytes.
--
--   curveType                              parametricCurveType
--    0 to  3  'curv'                        0 to  3  'para'
--    4 to  7  reserved, 0                   4 to  7  reserved, 0
--    8 to 11  count of entries              8 to  9  function type
--   12 on     the entries, 2 bytes each    10 to 11  reserved, 0
--                                          12 on     the parameters, 4 bytes each
use Rattle.std.specs.Prelude.{ℕ, ◌+◌, ◌*◌, List, [], ◌∷◌, get_or}
use Rattle.fields.specs.Bytes.{u16_at, u32_at, words_at}

-- where the entries or the parameters begin
abbrev pub data_start : ℕ
data_start = 12

-- curveType: how many entries follow, and how far n of them reach
abbrev pub entry_count : List ℕ → ℕ
entry_count t = u32_at t 8

abbrev pub entries_end : ℕ → ℕ
entries_end n = data_start + 2 * n

-- parametricCurveType: the function, how many parameters one of a type has (g; g a b; g a b c; g a b c d; g a b c d e f), how far n of
-- them reach, and which they are
abbrev pub function_type : List ℕ → ℕ
function_type t = u16_at t 8

abbrev pub row : List ℕ
row = 1 ∷ 3 ∷ 4 ∷ 5 ∷ 7 ∷ []

unfoldable pub parameter_count : ℕ → ℕ
parameter_count type = get_or row type 0

abbrev pub parameters_end : ℕ → ℕ
parameters_end n = data_start + 4 * n

abbrev pub parameters_at : List ℕ → ℕ → List ℕ
parameters_at t n = words_at t data_start n

abbrev pub parameters : List ℕ → List ℕ
parameters t = parameters_at t (parameter_count (function_type t))
