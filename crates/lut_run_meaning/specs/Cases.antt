-- The worked cases of a run: the curves that a walk meets from an offset on, how the run ends, and the records.
use Rattle.std.specs.Prelude.{ℕ, ◌≡◌, List, [], ◌∷◌, ◌++◌, map}
use Rattle.curve_meaning.specs.Cases.{curv, para, none}
use Rattle.curve_meaning.specs.Shape.{empty, table, para as function}
use Rattle.curve_meaning.specs.declared.Walk.{Walk}
use Rattle.curve_meaning.specs.declared.Walk.TheVariants.{Crate, Book}
use Rattle.lut_run_meaning.specs.Run.{Placed, RunEnd, whole, stopped, placed, run_at, records_of, end_of, data_end}

pub data Case : Type 0 where
  -- walk, limit, tag, offset and number of curves, and the curves that are met and the end
  meets : Walk → ℕ → List ℕ → ℕ → ℕ → List Placed → RunEnd → Case
  -- curves, and their records one behind the other
  records : List Placed → List ℕ → Case
  -- curves, and the first byte behind each, by its place and by its record
  ends : List Placed → List ℕ → Case

unfoldable pub Holds : Case → Type 0
Holds (meets walk limit t at n cs e) = run_at walk limit t at n ≡ record { curves = cs; end = e }
Holds (records cs words) = records_of cs ≡ words
Holds (ends cs places) = (map end_of cs ≡ places) × (map (λ c. data_end (records_of (c ∷ []))) cs ≡ places)

-- a table of one entry, 258: 14 bytes, and two bytes up to the next multiple of 4
abbrev pub single : List ℕ
single = curv ++ (0 ∷ 0 ∷ 0 ∷ 1 ∷ 1 ∷ 2 ∷ 9 ∷ 9 ∷ [])

-- a function of type 1 with 5, 6 and 7: 24 bytes
abbrev pub gamma : List ℕ
gamma = para ++ (0 ∷ 1 ∷ 0 ∷ 0 ∷ 0 ∷ 0 ∷ 0 ∷ 5 ∷ 0 ∷ 0 ∷ 0 ∷ 6 ∷ 0 ∷ 0 ∷ 0 ∷ 7 ∷ [])

-- an empty curve at 4, the table at 16, the function at 32 and an empty curve at 56, up to 68
abbrev pub tag : List ℕ
tag = (9 ∷ 9 ∷ 9 ∷ 9 ∷ []) ++ none ++ single ++ gamma ++ none

-- an empty curve at 1, and one at 16, up to 28
abbrev pub odd : List ℕ
odd = (9 ∷ []) ++ none ++ (9 ∷ 9 ∷ 9 ∷ []) ++ none

-- the table, the function, and the empty curve behind it
abbrev pub three : List Placed
three = placed 16 (table 1) ∷ placed 32 (function 1 (5 ∷ 6 ∷ 7 ∷ [])) ∷ placed 56 empty ∷ []

abbrev pub cases : List Case
cases =
    -- three different curves, on either walk; behind the table of 14 bytes the next starts at the next multiple of 4
    meets Crate 1 tag 16 3 three whole ∷
    meets Book 1 tag 16 3 three whole ∷
    -- an empty first curve: the crate walk stays at it, and the book walk steps over it
    meets Crate 1 tag 4 3 (placed 4 empty ∷ placed 4 empty ∷ placed 4 empty ∷ []) whole ∷
    meets Book 1 tag 4 4 (placed 4 empty ∷ three) whole ∷
    -- at an offset that is no multiple of 4 the first curve is read as it stands, and both walks raise what follows: the crate walk to
    -- byte 4, where no curve is
    meets Crate 1 odd 1 2 (placed 1 empty ∷ []) (stopped 9 4) ∷
    meets Book 1 odd 1 2 (placed 1 empty ∷ placed 16 empty ∷ []) whole ∷
    -- the fourth would start at the tag's end; so would the first here; a run of no curves makes no check
    meets Book 1 tag 16 4 three (stopped 2 68) ∷
    meets Book 1 tag 57 1 [] (stopped 2 57) ∷
    meets Crate 1 [] 57 0 [] whole ∷
    -- a refusal of a curve ends the run: its entries are over the limit
    meets Book 0 tag 4 3 (placed 4 empty ∷ []) (stopped 10 16) ∷
    -- a record has the start of its curve's data
    records three (
    (1 ∷ 28 ∷ 1 ∷ 0 ∷ 0 ∷ 0 ∷ 0 ∷ 0 ∷ 0 ∷ 0 ∷ [])
    ++ (3 ∷ 44 ∷ 3 ∷ 5 ∷ 6 ∷ 7 ∷ 0 ∷ 0 ∷ 0 ∷ 0 ∷ [])
    ++ (0 ∷ 68 ∷ 0 ∷ 0 ∷ 0 ∷ 0 ∷ 0 ∷ 0 ∷ 0 ∷ 0 ∷ [])) ∷
    ends three (30 ∷ 56 ∷ 68 ∷ []) ∷
    []
