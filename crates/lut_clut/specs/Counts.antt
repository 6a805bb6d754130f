-- What the code knows of a grid on the way to its table.
use Rattle.std.specs.Prelude.{ℕ, ◌+◌, ◌*◌, ◌≤◌, ◌≡◌, cond, List, length, Option, Some, None}
use Rattle.lut_clut_meaning.specs.Answer.{Answer, answer_of}
use Rattle.lut_clut_meaning.specs.Clut.{overflows, most_entries, table_at, data_of}
use Rattle.lut_clut_meaning.specs.Table.{product}
use Rattle.lut_clut.specs.declared.Counts.{Counts}

-- the points of a grid and the entries on it, unless a partial product passes 32 bits
unfoldable pub counts_of : List ℕ → ℕ → Option Counts
counts_of grid outputs = cond (overflows grid outputs) None (Some record { points = product grid; entries = product grid * outputs })

-- what is known once the entries are counted: the bytes in front of them are there, and they are not too many
pub record Counted (t : List ℕ) (at entries : ℕ) : Type 0 where
  pub header : at + 20 ≤ length t
  pub few : entries ≤ most_entries

-- an answer is that of the data of any table there with so many points and entries
unfoldable pub DataRead : List ℕ → ℕ → Counts → Answer → Type 0
DataRead t at counts a =
    (grid : List ℕ) (outputs : ℕ) → counts.points ≡ product grid → counts.entries ≡ product grid * outputs → a ≡ answer_of (data_of t (table_at t at grid outputs))
