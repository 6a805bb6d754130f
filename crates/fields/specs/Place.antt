-- Where a tag lies in its profile.
use Rattle.std.specs.Prelude.{ℕ, ◌+◌, cond, List, leb, eqb, take, drop, Option, Some, None}
use Rattle.fields.specs.House.{tag_size}
use Rattle.fields.specs.declared.Place.{Place}

-- of a profile of n bytes: the tag at `entry` up to its offset `end`, if the profile reaches so far
unfoldable pub place_of : ℕ → ℕ → ℕ → Option Place
place_of n entry end = cond (leb (entry + end) n) (Some record { start = entry; end = entry + end }) None

-- the bytes of that tag
abbrev pub tag_at : List ℕ → ℕ → ℕ → List ℕ
tag_at profile entry end = take end (drop entry profile)

-- a size of 0 counts as the shortest tag's, in lookup tables and text
abbrev pub counted_size : ℕ → ℕ
counted_size size = cond (eqb size 0) tag_size size

-- the bytes of a tag of that size
abbrev pub counted_tag : List ℕ → ℕ → ℕ → List ℕ
counted_tag profile entry size = tag_at profile entry (counted_size size)
