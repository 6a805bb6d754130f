-- The elements of the small readers as the standard writes them (crate `icc`), and what is answered: the numbers of an answer by the names of the
-- standard, and what it is to conform. Nothing here goes by the readers' own layout.
use Rattle.std.specs.Prelude.{ℕ, ◌+◌, ◌≤◌, ◌≡◌, List, [], ◌∷◌, ◌++◌, length, take, drop}
use Rattle.icc.specs.Numbers.{Bytes}
use Rattle.icc.specs.Small.{XYZNumber, DateTime, date_time_number, Measurement, ViewingConditions, Cicp, s15_fixed16_array_type, date_time_type, xyz_type}
use Rattle.small_meaning.specs.Answer.{Answer, value}

abbrev pub signature_told : ℕ → List ℕ
signature_told signature = signature ∷ []

abbrev pub xyz_told : XYZNumber → List ℕ
xyz_told n = n.X ∷ n.Y ∷ n.Z ∷ []

-- of an array of XYZNumbers the first is answered
pub record SomeXyz : Type 0 where
  pub first : XYZNumber
  pub others : List XYZNumber

abbrev pub some_xyz_type : ℕ → SomeXyz → List ℕ
some_xyz_type reserved x = xyz_type reserved (x.first ∷ x.others)

abbrev pub first_told : SomeXyz → List ℕ
first_told x = xyz_told x.first

abbrev pub measurement_told : Measurement → List ℕ
measurement_told m = m.observer ∷ m.backing.X ∷ m.backing.Y ∷ m.backing.Z ∷ m.geometry ∷ m.flare ∷ m.illuminant ∷ []

abbrev pub view_told : ViewingConditions → List ℕ
view_told v = v.illuminant.X ∷ v.illuminant.Y ∷ v.illuminant.Z ∷ v.surround.X ∷ v.surround.Y ∷ v.surround.Z ∷ v.type ∷ []

abbrev pub cicp_told : Cicp → List ℕ
cicp_told c = c.primaries ∷ c.transfer ∷ c.matrix ∷ c.range ∷ []

module _ {A : Type 0} (element : ℕ → A → List ℕ) (told : A → List ℕ) where
  -- the tag of a profile begins with an element that is answered so
  pub record BeginsElement (p : List ℕ) (entry size : ℕ) (ws : List ℕ) : Type 0 where
    pub inside : entry + size ≤ length p
    pub reserved : ℕ
    pub said : A
    pub rest : List ℕ
    pub answer_is : ws ≡ told said
    pub is : take size (drop entry p) ≡ element reserved said ++ rest

module _ {A : Type 0} (reader : List ℕ → ℕ → ℕ → Answer) (element : ℕ → A → List ℕ) (told : A → List ℕ) where
  -- a tag that begins with what the standard writes is answered with what was written
  abbrev pub WrittenRead : (A → Type 0) → Type 0
  WrittenRead Fits =
      (p : List ℕ) (entry size reserved : ℕ) (x : A) (rest : List ℕ) → Fits x → entry + size ≤ length p → take size (drop entry p) ≡ element reserved x ++ rest → reader p entry size ≡ value (told x)

  -- and what is answered with a value is a tag that begins so
  abbrev pub ReadWritten : (List ℕ → ℕ → ℕ → Type 0) → Type 0
  ReadWritten Asked =
      (p : List ℕ) (entry size : ℕ) (ws : List ℕ) → Bytes p → Asked p entry size → reader p entry size ≡ value ws → BeginsElement element told p entry size ws

-- `chad`: the tag is nine numbers of s15Fixed16ArrayType and nothing else
pub record BeginsNine (p : List ℕ) (entry size : ℕ) (ws : List ℕ) : Type 0 where
  pub inside : entry + size ≤ length p
  pub count_is : length ws ≡ 9
  pub reserved : ℕ
  pub is : take size (drop entry p) ≡ s15_fixed16_array_type reserved ws

-- `dtim`: the tag is a dateTimeType, and the answer the dateTimeNumber that a tag at the front of the profile would have
pub record BeginsDate (p : List ℕ) (entry size : ℕ) (ws : List ℕ) : Type 0 where
  pub inside : entry + size ≤ length p
  pub reserved : ℕ
  pub in_tag : DateTime
  pub rest : List ℕ
  pub is : take size (drop entry p) ≡ date_time_type reserved in_tag ++ rest
  pub in_front_lem : DateTime
  pub front_is : drop 8 (take 20 p) ≡ date_time_number in_front_lem
  pub answer_is : ws ≡ date_time_number in_front_lem
