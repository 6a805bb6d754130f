-- Fixed numbers of the house.
use Rattle.std.specs.Prelude.{ℕ}
use Rattle.fields.specs.declared.Limits.{Limits}

-- the shortest tag
abbrev pub tag_size : ℕ
tag_size = 12

-- the default limit of a tone curve's entries
abbrev pub house_entries : ℕ
house_entries = 4096

-- the default limit of an `mft1` or `mft2` table's grid points
abbrev pub house_points : ℕ
house_points = 1000000

-- both
abbrev pub house_limits : Limits
house_limits = record { entries = house_entries; points = house_points }
