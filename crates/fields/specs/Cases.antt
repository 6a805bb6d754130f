-- The worked cases of what every reader stands on: numbers in a list of bytes, signs, kinds of tag, places, sizes, and the numbers of the house.
use Rattle.std.specs.Prelude.{ℕ, ◌≡◌, List, [], ◌∷◌, map, ℤ, pos, negsuc, Option, Some, None}
use Rattle.fields.specs.Bytes.{number, u16_at, u32_at, bytes_at, words_at, signed}
use Rattle.fields.specs.House.{house_limits}
use Rattle.fields.specs.Place.{place_of, tag_at, counted_size}
use Rattle.fields.specs.Refusals.{refusal_number}
use Rattle.fields.specs.Tag.{signature_of, kind_of}
use Rattle.fields.specs.declared.Kind.{Kind}
use Rattle.fields.specs.declared.Kind.TheVariants.{Curv, Para, Mft1, Mft2, Mab, Mba, Mluc, Desc, Text, Xyz, Sf32, Meas, View, Cicp, Sig, Dtim, Other}
use Rattle.fields.specs.declared.Limits.{Limits}
use Rattle.fields.specs.declared.Place.{Place}
use Rattle.fields.specs.declared.Refusal.{Refusal}
use Rattle.fields.specs.declared.Refusal.TheVariants.{PastProfile, TagTooShort, OtherLut, GridOverflow, GridZero, GridTooLarge, GridDimension, EntrySize, OtherCurve, TooManyEntries, CurveRunsOut, FunctionType, ZeroDivision, TooFewSlots, BadTable, GridOverLimit, BadChad}

-- five bytes
abbrev pub five : List ℕ
five = 0x12 ∷ 0x34 ∷ 0x56 ∷ 0x78 ∷ 0x9A ∷ []

pub data Case : Type 0 where
  -- an offset, and the numbers of 16 and of 32 bits there, of those five bytes
  reads : ℕ → ℕ → ℕ → Case
  -- an offset and a count, and so many bytes, and so many numbers of 32 bits
  bytes : ℕ → ℕ → List ℕ → Case
  words : ℕ → ℕ → List ℕ → Case
  -- a word, and the signed number
  signs : ℕ → ℤ → Case
  -- four letters, and the kind of tag
  names : ℕ → ℕ → ℕ → ℕ → Kind → Case
  -- the length of a profile, an offset and an end, and the place
  lies : ℕ → ℕ → ℕ → Option Place → Case
  -- an offset and an end, and the bytes of that tag
  holds : ℕ → ℕ → List ℕ → Case
  -- a size, and what it counts as
  counts : ℕ → ℕ → Case
  -- refusals, and their numbers
  numbers : List Refusal → List ℕ → Case
  -- the defaults
  defaults : Limits → Case

unfoldable pub Holds : Case → Type 0
Holds (reads at half whole) = (u16_at five at ≡ half) × (u32_at five at ≡ whole)
Holds (bytes at n ns) = bytes_at five at n ≡ ns
Holds (words at n ns) = words_at five at n ≡ ns
Holds (signs w z) = signed w ≡ z
Holds (names a b c d k) = (kind_of (number a b c d) ≡ k) × (number a b c d ≡ signature_of k)
Holds (lies n entry end p) = place_of n entry end ≡ p
Holds (holds entry end ns) = tag_at five entry end ≡ ns
Holds (counts size n) = counted_size size ≡ n
Holds (numbers rs ns) = map refusal_number rs ≡ ns
Holds (defaults l) = house_limits ≡ l

abbrev pub refusals : List Refusal
refusals =
    PastProfile ∷ TagTooShort ∷ OtherLut ∷ GridOverflow ∷ GridZero ∷ GridTooLarge ∷ GridDimension ∷ EntrySize ∷ OtherCurve ∷ TooManyEntries ∷ CurveRunsOut ∷ FunctionType ∷ ZeroDivision ∷ TooFewSlots ∷ BadTable ∷ GridOverLimit ∷ BadChad ∷ []

abbrev pub cases : List Case
cases =
    -- the first byte weighs most, and a byte past the end counts as 0
    reads 0 0x1234 0x12345678 ∷
    reads 1 0x3456 0x3456789A ∷
    reads 2 0x5678 0x56789A00 ∷
    reads 3 0x789A 0x789A0000 ∷
    reads 4 0x9A00 0x9A000000 ∷
    reads 5 0 0 ∷
    bytes 3 3 (0x78 ∷ 0x9A ∷ 0 ∷ []) ∷
    words 0 2 (0x12345678 ∷ 0x9A000000 ∷ []) ∷
    -- two's complement
    signs 0x7FFFFFFF (pos 2147483647) ∷
    signs 0x80000000 (negsuc 2147483647) ∷
    signs 0xFFFFFFFF (negsuc 0) ∷
    -- each kind by the letters of its signature, and a kind that no signature has
    names 0x63 0x75 0x72 0x76 Curv ∷
    names 0x70 0x61 0x72 0x61 Para ∷
    names 0x6d 0x66 0x74 0x31 Mft1 ∷
    names 0x6d 0x66 0x74 0x32 Mft2 ∷
    names 0x6d 0x41 0x42 0x20 Mab ∷
    names 0x6d 0x42 0x41 0x20 Mba ∷
    names 0x6d 0x6c 0x75 0x63 Mluc ∷
    names 0x64 0x65 0x73 0x63 Desc ∷
    names 0x74 0x65 0x78 0x74 Text ∷
    names 0x58 0x59 0x5a 0x20 Xyz ∷
    names 0x73 0x66 0x33 0x32 Sf32 ∷
    names 0x6d 0x65 0x61 0x73 Meas ∷
    names 0x76 0x69 0x65 0x77 View ∷
    names 0x63 0x69 0x63 0x70 Cicp ∷
    names 0x73 0x69 0x67 0x20 Sig ∷
    names 0x64 0x74 0x69 0x6d Dtim ∷
    names 0 0 0 0 Other ∷
    -- a tag may end where the profile does
    lies 10 3 7 (Some record { start = 3; end = 10 }) ∷
    lies 10 3 8 None ∷
    lies 10 11 0 None ∷
    holds 1 3 (0x34 ∷ 0x56 ∷ 0x78 ∷ []) ∷
    -- a size of 0 counts as 12
    counts 0 12 ∷
    counts 1 1 ∷
    numbers refusals (1 ∷ 2 ∷ 3 ∷ 4 ∷ 5 ∷ 6 ∷ 7 ∷ 8 ∷ 9 ∷ 10 ∷ 11 ∷ 12 ∷ 13 ∷ 14 ∷ 15 ∷ 16 ∷ 17 ∷ []) ∷
    defaults record { entries = 4096; points = 1000000 } ∷
    []
