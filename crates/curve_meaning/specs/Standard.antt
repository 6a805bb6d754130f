-- A curve as the standard writes it (crate `icc`), what this library asks of one besides, and what it answers. Nothing here goes by the reader's
-- own layout.
use Rattle.std.specs.Prelude.{ℕ, zero, suc, ◌+◌, ◌≤◌, ◌≡◌, List, [], ◌∷◌, ◌++◌, length, take, drop}
use Rattle.icc.specs.Curves.{Curve, sampled, parametric, curve_element, type0, type1, type2, type3, type4, encoded, parameters, Defined}
use Rattle.icc.specs.Numbers.{Is32, Each32}
use Rattle.fields.specs.House.{tag_size}
use Rattle.curve_meaning.specs.Shape.{Shape, empty, table, para}
use Rattle.curve_meaning.specs.declared.Walk.{Walk}
use Rattle.curve_meaning.specs.declared.Walk.TheVariants.{Crate, Book}

-- the shape that answers a curve. A table of one entry is an exponent by the standard
unfoldable pub shape_of : Curve → Shape
shape_of (sampled reserved []) = empty
shape_of (sampled reserved (e ∷ es)) = table (length (e ∷ es))
shape_of (parametric reserved reserved2 f) = para (encoded f) (parameters f)

-- numbers of 32 bits, no more entries than the limit, and no division by 0
unfoldable pub CurveFits : ℕ → Curve → Type 0
CurveFits limit (sampled reserved entries) = Is32 (length entries) × (length entries ≤ limit)
CurveFits limit (parametric reserved reserved2 f) = Each32 (parameters f) × Defined f

-- the bytes t begin with a curve that is answered by the shape
pub record BeginsCurve (limit : ℕ) (t : List ℕ) (s : Shape) : Type 0 where
  pub curve : Curve
  pub rest : List ℕ
  pub shape_is : s ≡ shape_of curve
  pub fits : CurveFits limit curve
  pub is : t ≡ curve_element curve ++ rest

-- the words of a record: kind, where the data start, how many there are, and g a b c d e f, unused ones 0
unfoldable pub record_told : (start : ℕ) → Curve → List ℕ
record_told start (sampled reserved []) = 0 ∷ start ∷ 0 ∷ 0 ∷ 0 ∷ 0 ∷ 0 ∷ 0 ∷ 0 ∷ 0 ∷ []
record_told start (sampled reserved (e ∷ es)) = 1 ∷ start ∷ length (e ∷ es) ∷ 0 ∷ 0 ∷ 0 ∷ 0 ∷ 0 ∷ 0 ∷ 0 ∷ []
record_told start (parametric reserved reserved2 (type0 g)) = 2 ∷ start ∷ 1 ∷ g ∷ 0 ∷ 0 ∷ 0 ∷ 0 ∷ 0 ∷ 0 ∷ []
record_told start (parametric reserved reserved2 (type1 g a b)) = 3 ∷ start ∷ 3 ∷ g ∷ a ∷ b ∷ 0 ∷ 0 ∷ 0 ∷ 0 ∷ []
record_told start (parametric reserved reserved2 (type2 g a b c)) = 4 ∷ start ∷ 4 ∷ g ∷ a ∷ b ∷ c ∷ 0 ∷ 0 ∷ 0 ∷ []
record_told start (parametric reserved reserved2 (type3 g a b c d)) = 5 ∷ start ∷ 5 ∷ g ∷ a ∷ b ∷ c ∷ d ∷ 0 ∷ 0 ∷ []
record_told start (parametric reserved reserved2 (type4 g a b c d e f)) = 6 ∷ start ∷ 7 ∷ g ∷ a ∷ b ∷ c ∷ d ∷ e ∷ f ∷ []

-- how far a walk goes on behind a curve: by the bytes that are written; but the crate walk stays where there is no entry
unfoldable pub step_told : Walk → Curve → ℕ
step_told Book c = length (curve_element c)
step_told Crate (sampled reserved []) = 0
step_told Crate (sampled reserved (e ∷ es)) = length (curve_element (sampled reserved (e ∷ es)))
step_told Crate (parametric reserved reserved2 f) = length (curve_element (parametric reserved reserved2 f))

-- the tag of a profile has these bytes: as many as the size says, or where it is 0 all up to the profile's end
unfoldable pub Tag : (profile : List ℕ) (entry size : ℕ) (t : List ℕ) → Type 0
Tag profile entry zero t = drop entry profile ≡ t
Tag profile entry (suc n) t = (take (suc n) (drop entry profile) ≡ t) × (entry + suc n ≤ length profile)

-- the tag begins with a curve that is told so
pub record Lone (walk : Walk) (limit : ℕ) (profile : List ℕ) (entry size : ℕ) (ws : List ℕ) (consumed : ℕ) : Type 0 where
  pub curve : Curve
  pub rest : List ℕ
  pub fits : CurveFits limit curve
  pub words_are : ws ≡ record_told tag_size curve
  pub consumed_is : consumed ≡ step_told walk curve
  pub stands : Tag profile entry size (curve_element curve ++ rest)
