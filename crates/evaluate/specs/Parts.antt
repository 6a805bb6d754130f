-- What the parts of the evaluator say of a table and of a pixel.
use Rattle.std.specs.Prelude.{ℕ, ◌+◌, ◌-◌, ◌*◌, ◌/◌, ◌%◌, ◌^◌, ◌<◌, ◌≤◌, ◌≡◌, true, false, cond, Result, Ok, Err, List, length, get_or, ltb}
use Rattle.fields.specs.declared.Refusal.{Refusal}
use Rattle.fields.specs.declared.Refusal.TheVariants.{NoColourTable}
use Rattle.lut_view_meaning.specs.declared.TableNumbers.{TableNumbers}
use Rattle.evaluate_meaning.specs.Evaluate.{odd_numbers, no_table}
use Rattle.evaluate_parts.specs.Tests.{lift_of}
use Rattle.evaluate.specs.declared.Axis.{Axis}
use Rattle.evaluate.specs.declared.Dimension.{Dimension}
use Rattle.evaluate.specs.declared.Shape.{Shape}

-- ---- a table

-- the points of a dimension, the last one being 0: 1 where there is none, and 0 where it is below 2
unfoldable pub dim_of : List ℕ → ℕ → ℕ → ℕ → ℕ → ℕ
dim_of t at step n k =
    cond (ltb k n) (cond (ltb (get_or t (at + (n - 1 - k) * step) 0) 2) 0 (get_or t (at + (n - 1 - k) * step) 0)) 1

-- dimension k of a table, the last one being 0
abbrev pub dimension : Shape → ℕ → Dimension
dimension h k = get_or h.dimensions k record { points = 0; stride = 0 }

-- the dimensions, the last one first, and the bytes from point to point in each; 0 bytes in all where a dimension is below 2
pub record Shaped (t : List ℕ) (at step n width : ℕ) (h : Shape) : Type 0 where
  pub is0 : (dimension h 0).points ≡ dim_of t at step n 0
  pub is1 : (dimension h 1).points ≡ dim_of t at step n 1
  pub is2 : (dimension h 2).points ≡ dim_of t at step n 2
  pub is3 : (dimension h 3).points ≡ dim_of t at step n 3
  pub low0 : (dimension h 0).points < 256
  pub low1 : (dimension h 1).points < 256
  pub low2 : (dimension h 2).points < 256
  pub low3 : (dimension h 3).points < 256
  pub far0 : (dimension h 0).stride ≡ width
  pub far1 : (dimension h 1).stride ≡ (dimension h 0).stride * (dimension h 0).points
  pub far2 : (dimension h 2).stride ≡ (dimension h 1).stride * (dimension h 1).points
  pub far3 : (dimension h 3).stride ≡ (dimension h 2).stride * (dimension h 2).points
  pub all : h.bytes ≡ (dimension h 3).stride * (dimension h 3).points
  pub near0 : (dimension h 0).stride ≤ 2 ^ 33
  pub near1 : (dimension h 1).stride ≤ 2 ^ 33
  pub near2 : (dimension h 2).stride ≤ 2 ^ 33
  pub near3 : (dimension h 3).stride ≤ 2 ^ 33

-- the shape of the table that numbers tell of
pub record ShapeIs (t : List ℕ) (b : TableNumbers) (h : Shape) : Type 0 where
  pub shaped : Shaped t b.grid_at.0 b.grid_step b.inputs (b.outputs * b.entry_size) h
  pub is_start : h.start ≡ b.start.0
  pub is_hop : h.hop + 1 ≡ b.entry_size

unfoldable pub ShapeOf : List ℕ → TableNumbers → Shape → Type 0
ShapeOf t b h = ShapeIs t b h

-- a table that was judged
pub record JudgedSo (t : List ℕ) (b : TableNumbers) (h : Shape) : Type 0 where
  pub even : odd_numbers b ≡ false
  pub shape : ShapeIs t b h
  pub solid : h.bytes ≡ 0 → ⊥
  pub inside : b.start.0 + h.bytes ≤ length t
  pub there : no_table t b ≡ false

unfoldable pub Judged : List ℕ → TableNumbers → Shape → Type 0
Judged t b h = JudgedSo t b h

-- the refusal of numbers that name no table
pub record Tableless (t : List ℕ) (b : TableNumbers) (why : Refusal) : Type 0 where
  pub is_why : why ≡ NoColourTable
  pub none : no_table t b ≡ true

-- what judging answers
abbrev pub JudgedAs : List ℕ → TableNumbers → Result Shape Refusal → Type 0
JudgedAs t b (Ok h) = Judged t b h
JudgedAs t b (Err why) = Tableless t b why

-- ---- a pixel

-- coordinate k of the n from i on, the last one being 0; 0 where there is none
unfoldable pub pick_of : List ℕ → ℕ → ℕ → ℕ → ℕ
pick_of xs i n k = cond (ltb k n) (get_or xs (i + (n - 1 - k)) 0) 0

-- what is asked of a dimension, and what is found of a coordinate x there: the bytes to its cell, from there to the upper neighbour, and the rest
pub record AxisIn (xs : List ℕ) (i n g stride : ℕ) : Type 0 where
  pub coords : i + n ≤ length xs
  pub some : 1 ≤ g
  pub g8 : g < 256
  pub near : stride ≤ 2 ^ 33

pub record AxisIs (x g stride off up rest : ℕ) : Type 0 where
  pub is_off : off ≡ x * (g - 1) / 65535 * stride
  pub is_up : up ≡ lift_of (x * (g - 1) % 65535) stride
  pub is_rest : rest ≡ x * (g - 1) % 65535
  pub x16 : x < 65536

unfoldable pub AxisOf : List ℕ → ℕ → ℕ → ℕ → ℕ → ℕ → Axis → Type 0
AxisOf xs i n k g stride a = AxisIs (pick_of xs i n k) g stride a.off a.up a.rest

-- a judged table, the coordinates of a pixel from i on, and room for its results from `to` on
pub record Spot (t : List ℕ) (b : TableNumbers) (h : Shape) (xs : List ℕ) (i : ℕ) (words : List ℕ) (to : ℕ) : Type 0 where
  pub judged : Judged t b h
  pub coords : i + b.inputs ≤ length xs
  pub room : to + b.outputs ≤ length words

-- so many inputs and three outputs, or any numbers of both
pub record Three (n inputs outputs : ℕ) : Type 0 where
  pub inputs_are : inputs ≡ n
  pub outputs_are : outputs ≡ 3

abbrev pub Any : ℕ → ℕ → Type 0
Any inputs outputs = Unit {0}

-- ---- a row

pub record Row (t : List ℕ) (b : TableNumbers) (h : Shape) (xs : List ℕ) (count : ℕ) (words : List ℕ) : Type 0 where
  pub judged : Judged t b h
  pub coords : length xs ≡ count * b.inputs
  pub room : count * b.outputs ≤ length words
