-- The worked cases of the small readers: of each a tag with a different byte in every field, and each of its other answers.
use Rattle.std.specs.Prelude.{ℕ, ◌≡◌, Bool, true, false, List, [], ◌∷◌, ◌++◌, take}
use Rattle.small_meaning.specs.Answer.{Answer, value, default, absent, refused}
use Rattle.small_meaning.specs.Layout.{full_range}
use Rattle.small_meaning.specs.Small.{chad_of, sig_of, date_of, meas_of, view_of, xyz_of, cicp_of}

-- a reader, a profile, and the answer to an offset and a size; or a flag, and whether it says full range
pub data Case : Type 0 where
  gives : (List ℕ → ℕ → ℕ → Answer) → List ℕ → ℕ → ℕ → Answer → Case
  says : ℕ → Bool → Case

unfoldable pub Holds : Case → Type 0
Holds (gives reader profile entry size a) = reader profile entry size ≡ a
Holds (says flag full) = full_range flag ≡ full

-- four bytes of a profile, and behind them a tag: four letters, four reserved bytes and the rest
abbrev pub profile_of : ℕ → ℕ → ℕ → ℕ → List ℕ → List ℕ
profile_of a b c d rest = 0xF0 ∷ 0xF1 ∷ 0xF2 ∷ 0xF3 ∷ a ∷ b ∷ c ∷ d ∷ 0xE0 ∷ 0xE1 ∷ 0xE2 ∷ 0xE3 ∷ rest

-- the bytes 1 to 4, to 12, to 28 and to 36
abbrev pub bytes_to4 : List ℕ
bytes_to4 = 1 ∷ 2 ∷ 3 ∷ 4 ∷ []

abbrev pub bytes_to12 : List ℕ
bytes_to12 = bytes_to4 ++ (5 ∷ 6 ∷ 7 ∷ 8 ∷ 9 ∷ 10 ∷ 11 ∷ 12 ∷ [])

abbrev pub bytes_to28 : List ℕ
bytes_to28 = bytes_to12 ++ (13 ∷ 14 ∷ 15 ∷ 16 ∷ 17 ∷ 18 ∷ 19 ∷ 20 ∷ 21 ∷ 22 ∷ 23 ∷ 24 ∷ 25 ∷ 26 ∷ 27 ∷ 28 ∷ [])

abbrev pub bytes_to36 : List ℕ
bytes_to36 = bytes_to28 ++ (29 ∷ 30 ∷ 31 ∷ 32 ∷ 33 ∷ 34 ∷ 35 ∷ 36 ∷ [])

-- the numbers of 28 and of 36 of them
abbrev pub seven_words : List ℕ
seven_words = 0x01020304 ∷ 0x05060708 ∷ 0x090A0B0C ∷ 0x0D0E0F10 ∷ 0x11121314 ∷ 0x15161718 ∷ 0x191A1B1C ∷ []

abbrev pub nine_words : List ℕ
nine_words = seven_words ++ (0x1D1E1F20 ∷ 0x21222324 ∷ [])

-- a profile of each type with its tag at 4; the first has 4 bytes behind the tag
abbrev pub chad : List ℕ
chad = profile_of 0x73 0x66 0x33 0x32 (bytes_to36 ++ bytes_to4)

abbrev pub sig : List ℕ
sig = profile_of 0x73 0x69 0x67 0x20 bytes_to4

abbrev pub dtim : List ℕ
dtim = profile_of 0x64 0x74 0x69 0x6d bytes_to12

abbrev pub meas : List ℕ
meas = profile_of 0x6d 0x65 0x61 0x73 bytes_to28

abbrev pub view : List ℕ
view = profile_of 0x76 0x69 0x65 0x77 bytes_to28

abbrev pub xyz : List ℕ
xyz = profile_of 0x58 0x59 0x5a 0x20 bytes_to12

abbrev pub cicp : List ℕ
cicp = profile_of 0x63 0x69 0x63 0x70 bytes_to4

-- at 3 stands a tag of another type
abbrev pub cases : List Case
cases =
    -- `chad`: only 44 bytes are a value
    gives chad_of chad 4 44 (value nine_words) ∷
    gives chad_of chad 4 43 absent ∷
    gives chad_of chad 4 45 (refused 17) ∷
    gives chad_of chad 4 46 (refused 17) ∷
    gives chad_of chad 4 47 (refused 17) ∷
    gives chad_of chad 4 48 absent ∷
    gives chad_of chad 4 49 (refused 1) ∷
    gives chad_of chad 3 44 (refused 17) ∷
    -- under 8 bytes it is absent where 8 are left
    gives chad_of chad 44 7 absent ∷
    gives chad_of chad 45 7 (refused 1) ∷
    -- `sig `: one under 12 bytes is refusal 2 even past the profile
    gives sig_of sig 4 12 (value (0x01020304 ∷ [])) ∷
    gives sig_of sig 4 13 (refused 1) ∷
    gives sig_of [] 4 11 (refused 2) ∷
    gives sig_of sig 3 12 absent ∷
    -- `dtim`: the bytes 8 to 19 of the profile, not of the tag
    gives date_of dtim 4 20 (value (0xE0 ∷ 0xE1 ∷ 0xE2 ∷ 0xE3 ∷ 1 ∷ 2 ∷ 3 ∷ 4 ∷ 5 ∷ 6 ∷ 7 ∷ 8 ∷ [])) ∷
    gives date_of dtim 4 19 absent ∷
    gives date_of dtim 4 21 (refused 1) ∷
    gives date_of dtim 3 20 absent ∷
    -- `meas`: from 12 bytes on 36 are read
    gives meas_of meas 4 36 (value seven_words) ∷
    gives meas_of meas 4 12 (value seven_words) ∷
    gives meas_of meas 4 11 absent ∷
    gives meas_of meas 4 37 (refused 1) ∷
    gives meas_of (take 39 meas) 4 12 (refused 1) ∷
    gives meas_of meas 3 36 absent ∷
    -- `view`: the declared end is not looked at
    gives view_of view 4 36 (value seven_words) ∷
    gives view_of view 4 0xFFFFFFFF (value seven_words) ∷
    gives view_of view 4 35 absent ∷
    gives view_of (take 39 view) 4 36 (refused 1) ∷
    gives view_of view 3 36 absent ∷
    -- `XYZ `: too short for a tag, or of another type, it is answered by the default
    gives xyz_of xyz 4 20 (value (0x01020304 ∷ 0x05060708 ∷ 0x090A0B0C ∷ [])) ∷
    gives xyz_of xyz 4 11 default ∷
    gives xyz_of xyz 3 20 default ∷
    gives xyz_of xyz 4 12 (refused 2) ∷
    gives xyz_of xyz 4 19 (refused 2) ∷
    gives xyz_of xyz 4 21 (refused 1) ∷
    -- `cicp`
    gives cicp_of cicp 4 12 (value bytes_to4) ∷
    gives cicp_of cicp 4 11 absent ∷
    gives cicp_of cicp 4 13 (refused 1) ∷
    gives cicp_of cicp 3 12 absent ∷
    -- a flag other than 1 is not full range
    says 1 true ∷
    says 2 false ∷
    []
