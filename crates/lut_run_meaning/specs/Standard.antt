-- A run of curves as the standard writes it (crate `icc`), and what this library answers.
use Rattle.std.specs.Prelude.{ℕ, ◌+◌, ◌*◌, ◌<◌, ◌≡◌, List, [], ◌∷◌, ◌++◌, map, get_or}
use Rattle.icc.specs.Each.{Each}
use Rattle.icc.specs.Elements.{PlacedCurve, CurvesFrom}
use Rattle.curve_meaning.specs.Shape.{empty, record_words}
use Rattle.curve_meaning.specs.Standard.{shape_of, CurveFits, record_told}
use Rattle.curve_meaning.specs.declared.Walk.{Walk}
use Rattle.curve_meaning.specs.declared.Walk.TheVariants.{Crate, Book}
use Rattle.lut_run_meaning.specs.Run.{Placed, placed}

-- a curve that the standard writes at an offset is answered as its shape there
abbrev pub seen_of : PlacedCurve → Placed
seen_of c = placed c.offset (shape_of c.curve)

abbrev pub AllFit : ℕ → List PlacedCurve → Type 0
AllFit limit cs = Each (λ c. CurveFits limit c.curve) cs

-- the walk steps over each curve but the last: the book walk does; the crate walk does where none of them is empty
unfoldable pub Passes : Walk → List Placed → Type 0
Passes Book cs = Unit
Passes Crate [] = Unit
Passes Crate (c ∷ []) = Unit
Passes Crate (c ∷ d ∷ cs) = (c.shape ≡ empty → ⊥) × Passes Crate (d ∷ cs)

-- the tag has curves from the offset on that are answered by these
pub record Standing (limit : ℕ) (t : List ℕ) (offset : ℕ) (ps : List Placed) : Type 0 where
  pub curves : List PlacedCurve
  pub stand : CurvesFrom t offset curves
  pub fit : AllFit limit curves
  pub seen : ps ≡ map seen_of curves

-- the records of curves, one behind the other: the data of each start 12 bytes behind its offset
unfoldable pub records_told : List PlacedCurve → List ℕ
records_told [] = []
records_told (c ∷ cs) = record_told (c.offset + 12) c.curve ++ records_told cs

-- by their records in the slots, none but the last of n curves from the i-th on is empty: kind 0
abbrev pub NoneEmpty : (slots : List ℕ) (i n : ℕ) → Type 0
NoneEmpty slots i n = (k : ℕ) → k + 1 < n → get_or slots ((i + k) * record_words) 0 ≡ 0 → ⊥
