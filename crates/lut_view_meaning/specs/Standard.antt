-- The colours of a lookup table as the standard writes them (crate `icc`), and what a view of it shows. Nothing here goes by the view's own
-- layout.
use Rattle.std.specs.Prelude.{ℕ, ◌<◌, ◌≡◌, List, get_or}
use Rattle.icc.specs.Elements.{numbers, ClutAt, no_clut, the_clut}
use Rattle.icc.specs.Grid.{InGrid, Coloured}
use Rattle.lut_view_meaning.specs.Answer.{Answer, value, absent}

-- numbers that are the colours of a grid are shown so: at each point, for each output channel, its number in the point's colour
abbrev pub ShowsColours : (shown : List ℕ → ℕ → Answer) (grid : List ℕ) (outputs : ℕ) (ns : List ℕ) → Type 0
ShowsColours shown grid outputs ns =
    (colour : List ℕ → List ℕ) → Coloured grid outputs ns colour
    → (point : List ℕ) (channel : ℕ) → InGrid grid point → channel < outputs
    → shown point channel ≡ value (get_or (colour point) channel 0)

-- of a CLUT that is there its colours are shown, of one that is not nothing
unfoldable pub ShowsClut : {t : List ℕ} {offset inputs outputs : ℕ}
    → (shown : List ℕ → ℕ → Answer)
    → ClutAt t offset inputs outputs
    → Type 0
ShowsClut shown (no_clut e) = (point : List ℕ) (channel : ℕ) → shown point channel ≡ absent
ShowsClut {t} {offset} {inputs} {outputs} shown (the_clut n c s z) = ShowsColours shown c.grid outputs (numbers c.entries)
