-- The version of the boundary: 2.1.
use Rattle.std.specs.Prelude.{ℕ, ◌+◌, ◌*◌}

abbrev pub version : ℕ
version = 2 * 0x1_0000 + 1
