-- One pixel: the dimensions of a table that was judged, the places of its corners, and that their blends are the colour.
-- Assumes nothing.
use Prim.Native.Nat.{ℕ, zero, suc, ◌+◌, ◌-◌, ◌*◌, ◌/◌, ◌%◌, ◌^◌, ◌≤◌, ◌<◌}
use native.Mathlib.Omega.{arith}
use native.Mathlib.Nat.{mul-le-mul}
use mathlib.Core.Path.{◌≡◌, refl, sym, ap, ◌∙◌}
use mathlib.Core.Bool.{Bool, true, false, cond}
use mathlib.Core.List.{List, []}
use lib.ListN.{length, get_or, drop, length-drop}
use lib.Seq.{sets, get_or-drop}
use mir.Syntax.{w32, w64}
use mir.Val.{Fits}
use borrow.Author.Tests.{lt-ltb, le-ltb}
use Rattle.fields.specs.Some.{some}
use Rattle.lut_clut_meaning.specs.Clut.{is_flat}
use Rattle.lut_clut_meaning.specs.Table.{product, point_of}
use Rattle.lut_view_meaning.specs.View.{grid_from, table_by}
use Rattle.lut_view_meaning.specs.declared.TableNumbers.{TableNumbers}
use Rattle.evaluate_meaning.specs.Colour.{cell_of, colour_of, sample_at, corner_of, colours_from, colour}
use Rattle.evaluate_meaning.specs.Evaluate.{odd_numbers}
use Rattle.evaluate_meaning.proofs.Behind.{value_of, value_whole}
use Rattle.evaluate_meaning.proofs.Cells.{position_most, cell_in}
use Rattle.evaluate_meaning.proofs.Grid.{dimensions}
use Rattle.evaluate_meaning.proofs.Odd.{Even, even}
use Rattle.evaluate.specs.Corners.{line_of, plane_of, cube_of, four_of, channels_of, Reach}
use Rattle.evaluate_parts.specs.Tests.{lift_of}
use Rattle.evaluate.specs.Parts.{pick_of, dimension, Shaped, JudgedSo, Judged, AxisIn, AxisIs, AxisOf, Spot, Three}
use Rattle.evaluate.specs.declared.Axis.{Axis}
use Rattle.evaluate.specs.declared.Shape.{Shape}
use Rattle.evaluate.proofs.Axed.{Axed, entry_at, part, Stage, none_left, next, stride_next, no_axis}

-- ---- a product that is not 0

left_some : (a b c : ℕ) → c ≡ a * b → (c ≡ 0 → ⊥) → a ≡ 0 → ⊥
left_some a b c e z q = z (e ∙ rw q (omega arith))

right_some : (a b c : ℕ) → c ≡ a * b → (c ≡ 0 → ⊥) → b ≡ 0 → ⊥
right_some a b c e z q = z (e ∙ rw q (omega arith))

exact : (v : Bool) (s P : ℕ) → s ≡ cond v 0 P → (s ≡ 0 → ⊥) → s ≡ P
exact true s P e z = absurd (z e)
exact false s P e z = e

-- ---- the strides of a table

module _ (t : List ℕ) (at step n width : ℕ) (h : Shape) (d : Shaped t at step n width h) where
  part_none : part t at step n 0 ≡ []
  unfolding grid_from
  part_none = let e : n - (n - 0) ≡ 0 = omega arith in rw e

  bytes0 : (dimension h 0).stride ≡ cond (some is_flat (part t at step n 0)) 0 (product (part t at step n 0) * width)
  unfolding some product
  bytes0 = rw part_none (let e : (dimension h 0).stride ≡ width = d.far0 in omega arith)

  bytes1 : (dimension h 1).stride ≡ cond (some is_flat (part t at step n 1)) 0 (product (part t at step n 1) * width)
  bytes1 = d.far1 ∙ stride_next t at step n width 0 (dimension h 0).stride (dimension h 0).points bytes0 d.is0

  bytes2 : (dimension h 2).stride ≡ cond (some is_flat (part t at step n 2)) 0 (product (part t at step n 2) * width)
  bytes2 = d.far2 ∙ stride_next t at step n width 1 (dimension h 1).stride (dimension h 1).points bytes1 d.is1

  bytes3 : (dimension h 3).stride ≡ cond (some is_flat (part t at step n 3)) 0 (product (part t at step n 3) * width)
  bytes3 = d.far3 ∙ stride_next t at step n width 2 (dimension h 2).stride (dimension h 2).points bytes2 d.is2

  module _ (f : n ≤ 4) where
    part_all : part t at step n 4 ≡ grid_from t at step n
    part_all =
        let e : n - 4 ≡ 0 = omega arith in
        let a : at + 0 * step ≡ at = omega arith in
        let b : n - 0 ≡ n = omega arith in
        rw (e, a, b)

    -- the bytes of all entries, 0 where a dimension is below 2
    pub bytes_all : h.bytes ≡ cond (some is_flat (grid_from t at step n)) 0 (product (grid_from t at step n) * width)
    bytes_all = rw part_all at (d.all ∙ stride_next t at step n width 3 (dimension h 3).stride (dimension h 3).points bytes3 d.is3)

    module _ (z : h.bytes ≡ 0 → ⊥) where
      pub some3 : (dimension h 3).points ≡ 0 → ⊥
      some3 = right_some (dimension h 3).stride (dimension h 3).points h.bytes d.all z

      s3_some : (dimension h 3).stride ≡ 0 → ⊥
      s3_some = left_some (dimension h 3).stride (dimension h 3).points h.bytes d.all z

      pub some2 : (dimension h 2).points ≡ 0 → ⊥
      some2 = right_some (dimension h 2).stride (dimension h 2).points (dimension h 3).stride d.far3 s3_some

      s2_some : (dimension h 2).stride ≡ 0 → ⊥
      s2_some = left_some (dimension h 2).stride (dimension h 2).points (dimension h 3).stride d.far3 s3_some

      pub some1 : (dimension h 1).points ≡ 0 → ⊥
      some1 = right_some (dimension h 1).stride (dimension h 1).points (dimension h 2).stride d.far2 s2_some

      s1_some : (dimension h 1).stride ≡ 0 → ⊥
      s1_some = left_some (dimension h 1).stride (dimension h 1).points (dimension h 2).stride d.far2 s2_some

      pub some0 : (dimension h 0).points ≡ 0 → ⊥
      some0 = right_some (dimension h 0).stride (dimension h 0).points (dimension h 1).stride d.far1 s1_some

      s0_some : (dimension h 0).stride ≡ 0 → ⊥
      s0_some = left_some (dimension h 0).stride (dimension h 0).points (dimension h 1).stride d.far1 s1_some

      module _ (xs : List ℕ) (q : n ≤ length xs) (x0 x1 x2 x3 o0 o1 o2 o3 u0 u1 u2 u3 r0 r1 r2 r3 : ℕ)
          (p0 : 0 < n → x0 ≡ get_or xs (n - 1 - 0) 0) (p1 : 1 < n → x1 ≡ get_or xs (n - 1 - 1) 0) (p2 : 2 < n → x2 ≡ get_or xs (n - 1 - 2) 0) (p3 : 3 < n → x3 ≡ get_or xs (n - 1 - 3) 0)
          (w0 : AxisIs x0 (dimension h 0).points (dimension h 0).stride o0 u0 r0) (w1 : AxisIs x1 (dimension h 1).points (dimension h 1).stride o1 u1 r1) (w2 : AxisIs x2 (dimension h 2).points (dimension h 2).stride o2 u2 r2) (w3 : AxisIs x3 (dimension h 3).points (dimension h 3).stride o3 u3 r3) where
        stage0 : Stage t at step n xs width 0 0 0 (λ size pl. sample_at t pl size)
        stage0 = rw part_none (none_left t (drop (n - 0) xs) width)

        stage1 : Stage t at step n xs width 1 (0 + o0) (0 + u0) (λ size pl. line_of t size pl u0 r0)
        unfolding line_of
        stage1 = next t at step n xs width 0 0 0 (λ size pl. sample_at t pl size) stage0 (dimension h 0).points x0 (dimension h 0).stride o0 u0 r0 d.is0 some0 p0 q (exact (some is_flat (part t at step n 0)) (dimension h 0).stride (product (part t at step n 0) * width) bytes0 s0_some) w0

        stage2 : Stage t at step n xs width 2 (0 + o0 + o1) (0 + u0 + u1) (λ size pl. plane_of t size pl u0 r0 u1 r1)
        unfolding plane_of
        stage2 = next t at step n xs width 1 (0 + o0) (0 + u0) (λ size pl. line_of t size pl u0 r0) stage1 (dimension h 1).points x1 (dimension h 1).stride o1 u1 r1 d.is1 some1 p1 q (exact (some is_flat (part t at step n 1)) (dimension h 1).stride (product (part t at step n 1) * width) bytes1 s1_some) w1

        stage3 : Stage t at step n xs width 3 (0 + o0 + o1 + o2) (0 + u0 + u1 + u2) (λ size pl. cube_of t size pl u0 r0 u1 r1 u2 r2)
        unfolding cube_of
        stage3 = next t at step n xs width 2 (0 + o0 + o1) (0 + u0 + u1) (λ size pl. plane_of t size pl u0 r0 u1 r1) stage2 (dimension h 2).points x2 (dimension h 2).stride o2 u2 r2 d.is2 some2 p2 q (exact (some is_flat (part t at step n 2)) (dimension h 2).stride (product (part t at step n 2) * width) bytes2 s2_some) w2

        stage4 : Stage t at step n xs width 4 (0 + o0 + o1 + o2 + o3) (0 + u0 + u1 + u2 + u3) (λ size pl. four_of t size pl u0 r0 u1 r1 u2 r2 u3 r3)
        unfolding four_of
        stage4 = next t at step n xs width 3 (0 + o0 + o1 + o2) (0 + u0 + u1 + u2) (λ size pl. cube_of t size pl u0 r0 u1 r1 u2 r2) stage3 (dimension h 3).points x3 (dimension h 3).stride o3 u3 r3 d.is3 some3 p3 q (exact (some is_flat (part t at step n 3)) (dimension h 3).stride (product (part t at step n 3) * width) bytes3 s3_some) w3

        pub whole : Axed t (grid_from t at step n) xs width (0 + o0 + o1 + o2 + o3) (0 + u0 + u1 + u2 + u3) (λ size pl. four_of t size pl u0 r0 u1 r1 u2 r2 u3 r3)
        whole = let e : n - 4 ≡ 0 = omega arith in rw (part_all, e) at stage4

-- ---- a coordinate

module _ (xs : List ℕ) (i n k : ℕ) where
  pub pick_none : n ≤ k → 0 ≡ pick_of xs i n k
  unfolding pick_of
  pick_none l = rw (le-ltb k n l)

  pub pick_some : k < n → (x : ℕ) → x ≡ get_or xs (i + (n - 1 - k)) 0 → x ≡ pick_of xs i n k
  unfolding pick_of
  pick_some l x e = rw (lt-ltb k n l, ← e)

  pick_at : k < n → pick_of xs i n k ≡ get_or (drop i xs) (n - 1 - k) 0
  unfolding pick_of
  pick_at l = rw (lt-ltb k n l) (sym (get_or-drop i xs (n - 1 - k) 0))

pub ruleset pick-laws = (pick_none, pick_some)

module _ (xs : List ℕ) (i n g stride : ℕ) (a : AxisIn xs i n g stride) (x : ℕ) (m : x < 65536) where
  cell_most : x * (g - 1) / 65535 ≤ 255
  unfolding cell_of
  cell_most = omega (arith, cell_in g x m a.some, a.g8)

  way : x * (g - 1) / 65535 * stride ≤ 255 * 2 ^ 33
  way = mul-le-mul cell_most a.near

  pub position_fits : Fits w32 (x * (g - 1))
  position_fits = record { fits = omega (arith, position_most g x m, a.g8) }

  pub cell_fits : Fits w64 (x * (g - 1) / 65535)
  cell_fits = record { fits = omega (arith, cell_most) }

  pub way_fits : Fits w64 (x * (g - 1) / 65535 * stride)
  way_fits = record { fits = omega (arith, way) }

  pub found : (k : ℕ) → x ≡ pick_of xs i n k → (u : ℕ) → u ≡ lift_of (x * (g - 1) % 65535) stride
      → AxisOf xs i n k g stride record { off = x * (g - 1) / 65535 * stride; up = u; rest = x * (g - 1) % 65535 }
  unfolding AxisOf
  found k p u e = rw (← p) record { is_off = refl; is_up = e; is_rest = refl; x16 = m }

pub ruleset axis-fits = (position_fits, cell_fits, way_fits)

some_one : (g : ℕ) → (g ≡ 0 → ⊥) → 1 ≤ g
some_one zero z = absurd (z refl)
some_one (suc g) z = omega arith

-- ---- a pixel of a table

pub is_even : (t : List ℕ) (b : TableNumbers) (h : Shape) → Judged t b h → odd_numbers b ≡ false
unfolding Judged
is_even t b h y = y.even

abbrev none : Axis
none = record { off = 0; up = 0; rest = 0 }

none_of : (xs : List ℕ) (i n k g stride : ℕ) → n ≤ k → AxisOf xs i n k g stride none
unfolding AxisOf
none_of xs i n k g stride l = rw (← pick_none xs i n k l) (no_axis g stride)

module _ (t : List ℕ) (b : TableNumbers) (h : Shape) (xs : List ℕ) (i : ℕ) (words : List ℕ) (to : ℕ) (y : Spot t b h xs i words to) where
  so : JudgedSo t b h
  unfolding Judged
  so = y.judged

  shaped : Shaped t b.grid_at.0 b.grid_step b.inputs (b.outputs * b.entry_size) h
  shaped = so.shape.shaped

  numbers : Even b
  numbers = even b so.even

  n_few : b.inputs ≤ 4
  n_few = numbers.few_inputs

  pub axis_in0 : AxisIn xs i b.inputs (dimension h 0).points (dimension h 0).stride
  axis_in0 = record { coords = y.coords; some = some_one (dimension h 0).points (some0 t b.grid_at.0 b.grid_step b.inputs (b.outputs * b.entry_size) h shaped n_few so.solid); g8 = shaped.low0; near = shaped.near0 }

  pub axis_in1 : AxisIn xs i b.inputs (dimension h 1).points (dimension h 1).stride
  axis_in1 = record { coords = y.coords; some = some_one (dimension h 1).points (some1 t b.grid_at.0 b.grid_step b.inputs (b.outputs * b.entry_size) h shaped n_few so.solid); g8 = shaped.low1; near = shaped.near1 }

  pub axis_in2 : AxisIn xs i b.inputs (dimension h 2).points (dimension h 2).stride
  axis_in2 = record { coords = y.coords; some = some_one (dimension h 2).points (some2 t b.grid_at.0 b.grid_step b.inputs (b.outputs * b.entry_size) h shaped n_few so.solid); g8 = shaped.low2; near = shaped.near2 }

  pub axis_in3 : AxisIn xs i b.inputs (dimension h 3).points (dimension h 3).stride
  axis_in3 = record { coords = y.coords; some = some_one (dimension h 3).points (some3 t b.grid_at.0 b.grid_step b.inputs (b.outputs * b.entry_size) h shaped n_few so.solid); g8 = shaped.low3; near = shaped.near3 }

  pub hop_small : h.hop ≤ 1
  hop_small = omega (arith, numbers.size_most, so.shape.is_hop)

  grid_is : grid_from t b.grid_at.0 b.grid_step b.inputs ≡ (table_by t b).grid
  grid_is = sym (dimensions t b n_few)

  module _ (n : ℕ) (ins : b.inputs ≡ n) (a0 a1 a2 a3 : Axis) (w0 : AxisOf xs i n 0 (dimension h 0).points (dimension h 0).stride a0) (w1 : AxisOf xs i n 1 (dimension h 1).points (dimension h 1).stride a1)
      (w2 : AxisOf xs i n 2 (dimension h 2).points (dimension h 2).stride a2) (w3 : AxisOf xs i n 3 (dimension h 3).points (dimension h 3).stride a3) where
    picked : (k : ℕ) → k < b.inputs → pick_of xs i n k ≡ get_or (drop i xs) (b.inputs - 1 - k) 0
    picked k l = rw (← ins) (pick_at xs i b.inputs k l)

    axed : Axed t (grid_from t b.grid_at.0 b.grid_step b.inputs) (drop i xs) (b.outputs * b.entry_size)
        (0 + a0.off + a1.off + a2.off + a3.off) (0 + a0.up + a1.up + a2.up + a3.up) (λ size pl. four_of t size pl a0.up a0.rest a1.up a1.rest a2.up a2.rest a3.up a3.rest)
    unfolding AxisOf
    axed =
        let long : b.inputs ≤ length (drop i xs) = omega (arith, length-drop i xs, y.coords) in
        whole t b.grid_at.0 b.grid_step b.inputs (b.outputs * b.entry_size) h shaped n_few so.solid (drop i xs) long
        (pick_of xs i n 0) (pick_of xs i n 1) (pick_of xs i n 2) (pick_of xs i n 3) a0.off a1.off a2.off a3.off a0.up a1.up a2.up a3.up a0.rest a1.rest a2.rest a3.rest
        (picked 0) (picked 1) (picked 2) (picked 3) w0 w1 w2 w3

    bytes_are : h.bytes ≡ product (grid_from t b.grid_at.0 b.grid_step b.inputs) * (b.outputs * b.entry_size)
    bytes_are =
        exact (some is_flat (grid_from t b.grid_at.0 b.grid_step b.inputs)) h.bytes (product (grid_from t b.grid_at.0 b.grid_step b.inputs) * (b.outputs * b.entry_size))
        (bytes_all t b.grid_at.0 b.grid_step b.inputs (b.outputs * b.entry_size) h shaped n_few) so.solid

    inside : h.start + a0.off + a1.off + a2.off + a3.off + a0.up + a1.up + a2.up + a3.up + b.outputs * (h.hop + 1) ≤ length t
    inside = rw so.shape.is_hop (omega (arith, axed.reach, bytes_are, so.inside, so.shape.is_start))

    abbrev at : ℕ
    at = h.start + a0.off + a1.off + a2.off + a3.off

    each : (ch k pl : ℕ) → pl ≡ at + ch * (h.hop + 1)
        → channels_of t (h.hop + 1) pl a0.up a0.rest a1.up a1.rest a2.up a2.rest a3.up a3.rest k ≡ colours_from t (table_by t b) (drop i xs) ch k
    unfolding channels_of colours_from corner_of
    each ch zero pl e = refl
    each ch (suc k) pl e =
        let size : ℕ = h.hop + 1 in
        let gs : List ℕ = grid_from t b.grid_at.0 b.grid_step b.inputs in
        let n' : pl + size ≡ at + (ch + 1) * size = omega arith in
        let f : pl ≡ h.start + ch * size + 0 * (product gs * (b.outputs * b.entry_size)) + (0 + a0.off + a1.off + a2.off + a3.off) = omega arith in
        let first : four_of t size pl a0.up a0.rest a1.up a1.rest a2.up a2.rest a3.up a3.rest ≡ value_of (entry_at t (h.start + ch * size) (b.outputs * b.entry_size) size) gs (drop i xs) 0 =
        rw f (sym (axed.same size (h.start + ch * size) 0)) in
        let entry : (j : List ℕ) → sample_at t (h.start + ch * size + point_of gs j * (b.outputs * b.entry_size)) size ≡ corner_of t (table_by t b) ch j = λ j.
        (let p : h.start + ch * size + point_of gs j * (b.outputs * b.entry_size) ≡ b.start.0 + (point_of gs j * b.outputs + ch) * b.entry_size =
        rw (so.shape.is_start, so.shape.is_hop) (omega arith) in
        rw (p, so.shape.is_hop, grid_is)) in
        let colour-is : value_of (entry_at t (h.start + ch * size) (b.outputs * b.entry_size) size) gs (drop i xs) 0 ≡ colour_of (corner_of t (table_by t b) ch) (table_by t b).grid (drop i xs) =
        value_whole (entry_at t (h.start + ch * size) (b.outputs * b.entry_size) size) gs (drop i xs) (corner_of t (table_by t b) ch) entry ∙ ap (λ (g : List ℕ). colour_of (corner_of t (table_by t b) ch) g (drop i xs)) grid_is in
        rw (first ∙ colour-is, each (ch + 1) k (pl + size) n')

    coloured : channels_of t (h.hop + 1) at a0.up a0.rest a1.up a1.rest a2.up a2.rest a3.up a3.rest b.outputs ≡ colour t (table_by t b) (drop i xs)
    coloured = each 0 b.outputs at (omega arith)

    -- the place fits, the corners lie in the tag, and what is written is the colour
    place_in : length t < 2 ^ 64 → at < 2 ^ 64
    place_in l = omega (arith, inside)

    reach_all : (pl : ℕ) → pl ≡ at → Reach t h.hop pl a0.up a1.up a2.up a3.up b.outputs words to
    reach_all pl e =
        record {
          inside = rw e inside;
          room = y.room;
          any = numbers.output;
          small = hop_small;
        }

    written_all : (pl : ℕ) → pl ≡ at → (k : ℕ) → b.outputs ≡ k → (after : List ℕ) → after ≡ sets words to (channels_of t (h.hop + 1) pl a0.up a0.rest a1.up a1.rest a2.up a2.rest a3.up a3.rest k)
        → after ≡ sets words to (colour t (table_by t b) (drop i xs))
    written_all pl e k o after g = (rw (e, ← o) at g) ∙ ap (sets words to) coloured

-- ---- the laws of the code: any table

module _ (t : List ℕ) (b : TableNumbers) (h : Shape) (xs : List ℕ) (i : ℕ) (words : List ℕ) (to : ℕ) (y : Spot t b h xs i words to) (a0 a1 a2 a3 : Axis)
    (w0 : AxisOf xs i b.inputs 0 (dimension h 0).points (dimension h 0).stride a0) (w1 : AxisOf xs i b.inputs 1 (dimension h 1).points (dimension h 1).stride a1) (w2 : AxisOf xs i b.inputs 2 (dimension h 2).points (dimension h 2).stride a2) (w3 : AxisOf xs i b.inputs 3 (dimension h 3).points (dimension h 3).stride a3) where
  pub any_place : length t < 2 ^ 64 → h.start + a0.off + a1.off + a2.off + a3.off < 2 ^ 64
  any_place = place_in t b h xs i words to y b.inputs refl a0 a1 a2 a3 w0 w1 w2 w3

  module _ (pl : ℕ) (e : pl ≡ h.start + a0.off + a1.off + a2.off + a3.off) where
    pub any_reach : Reach t h.hop pl a0.up a1.up a2.up a3.up b.outputs words to
    any_reach = reach_all t b h xs i words to y b.inputs refl a0 a1 a2 a3 w0 w1 w2 w3 pl e

    pub any_written : (after : List ℕ) → after ≡ sets words to (channels_of t (h.hop + 1) pl a0.up a0.rest a1.up a1.rest a2.up a2.rest a3.up a3.rest b.outputs)
        → after ≡ sets words to (colour t (table_by t b) (drop i xs))
    any_written = written_all t b h xs i words to y b.inputs refl a0 a1 a2 a3 w0 w1 w2 w3 pl e b.outputs refl

-- ---- three outputs, and as many inputs as the code says

module _ (t : List ℕ) (b : TableNumbers) (h : Shape) (xs : List ℕ) (i : ℕ) (words : List ℕ) (to n : ℕ) (y : Spot t b h xs i words to) (m : Three n b.inputs b.outputs) where
  pub three_in0 : AxisIn xs i n (dimension h 0).points (dimension h 0).stride
  three_in0 = rw (← m.inputs_are) (axis_in0 t b h xs i words to y)

  pub three_in1 : AxisIn xs i n (dimension h 1).points (dimension h 1).stride
  three_in1 = rw (← m.inputs_are) (axis_in1 t b h xs i words to y)

  pub three_in2 : AxisIn xs i n (dimension h 2).points (dimension h 2).stride
  three_in2 = rw (← m.inputs_are) (axis_in2 t b h xs i words to y)

  pub three_in3 : AxisIn xs i n (dimension h 3).points (dimension h 3).stride
  three_in3 = rw (← m.inputs_are) (axis_in3 t b h xs i words to y)

  pub three_hop : h.hop ≤ 1
  three_hop = hop_small t b h xs i words to y

  pub three_room : to + 3 ≤ length words
  three_room = rw (← m.outputs_are) y.room

  module _ (a0 a1 a2 a3 : Axis) (w0 : AxisOf xs i n 0 (dimension h 0).points (dimension h 0).stride a0) (w1 : AxisOf xs i n 1 (dimension h 1).points (dimension h 1).stride a1) (w2 : AxisOf xs i n 2 (dimension h 2).points (dimension h 2).stride a2) (w3 : AxisOf xs i n 3 (dimension h 3).points (dimension h 3).stride a3) where
    in_three : h.start + a0.off + a1.off + a2.off + a3.off + a0.up + a1.up + a2.up + a3.up + 3 * (h.hop + 1) ≤ length t
    in_three = rw m.outputs_are at (inside t b h xs i words to y n m.inputs_are a0 a1 a2 a3 w0 w1 w2 w3)

    pub place4 : length t < 2 ^ 64 → h.start + a0.off + a1.off + a2.off + a3.off < 2 ^ 64
    place4 = place_in t b h xs i words to y n m.inputs_are a0 a1 a2 a3 w0 w1 w2 w3

    module _ (pl : ℕ) (e : pl ≡ h.start + a0.off + a1.off + a2.off + a3.off) where
      pub reach4 : pl + a0.up + a1.up + a2.up + a3.up + 3 * (h.hop + 1) ≤ length t
      reach4 = rw e in_three

      pub written4 : (after : List ℕ) → after ≡ sets words to (channels_of t (h.hop + 1) pl a0.up a0.rest a1.up a1.rest a2.up a2.rest a3.up a3.rest 3)
          → after ≡ sets words to (colour t (table_by t b) (drop i xs))
      written4 = written_all t b h xs i words to y n m.inputs_are a0 a1 a2 a3 w0 w1 w2 w3 pl e 3 m.outputs_are

module _ (t : List ℕ) (b : TableNumbers) (h : Shape) (xs : List ℕ) (i : ℕ) (words : List ℕ) (to : ℕ) where
  module _ (y : Spot t b h xs i words to) (m : Three 3 b.inputs b.outputs) (a0 a1 a2 : Axis) (w0 : AxisOf xs i 3 0 (dimension h 0).points (dimension h 0).stride a0) (w1 : AxisOf xs i 3 1 (dimension h 1).points (dimension h 1).stride a1) (w2 : AxisOf xs i 3 2 (dimension h 2).points (dimension h 2).stride a2) where
    n3 : AxisOf xs i 3 3 (dimension h 3).points (dimension h 3).stride none
    n3 = none_of xs i 3 3 (dimension h 3).points (dimension h 3).stride (omega arith)

    pub place3 : length t < 2 ^ 64 → h.start + a0.off + a1.off + a2.off + 0 < 2 ^ 64
    place3 = place4 t b h xs i words to 3 y m a0 a1 a2 none w0 w1 w2 n3

    module _ (pl : ℕ) (e : pl ≡ h.start + a0.off + a1.off + a2.off + 0) where
      pub reach3 : pl + a0.up + a1.up + a2.up + 3 * (h.hop + 1) ≤ length t
      reach3 = omega (arith, reach4 t b h xs i words to 3 y m a0 a1 a2 none w0 w1 w2 n3 pl e)

      pub written3 : (after : List ℕ) → after ≡ sets words to (channels_of t (h.hop + 1) pl a0.up a0.rest a1.up a1.rest a2.up a2.rest 0 0 3)
          → after ≡ sets words to (colour t (table_by t b) (drop i xs))
      written3 = written4 t b h xs i words to 3 y m a0 a1 a2 none w0 w1 w2 n3 pl e

  module _ (y : Spot t b h xs i words to) (m : Three 2 b.inputs b.outputs) (a0 a1 : Axis) (w0 : AxisOf xs i 2 0 (dimension h 0).points (dimension h 0).stride a0) (w1 : AxisOf xs i 2 1 (dimension h 1).points (dimension h 1).stride a1) where
    n2 : (k : ℕ) (g stride : ℕ) → 2 ≤ k → AxisOf xs i 2 k g stride none
    n2 k g stride l = none_of xs i 2 k g stride l

    pub place2 : length t < 2 ^ 64 → h.start + a0.off + a1.off + 0 + 0 < 2 ^ 64
    place2 = place4 t b h xs i words to 2 y m a0 a1 none none w0 w1 (n2 2 (dimension h 2).points (dimension h 2).stride (omega arith)) (n2 3 (dimension h 3).points (dimension h 3).stride (omega arith))

    module _ (pl : ℕ) (e : pl ≡ h.start + a0.off + a1.off + 0 + 0) where
      pub reach2 : pl + a0.up + a1.up + 3 * (h.hop + 1) ≤ length t
      reach2 = omega (arith, reach4 t b h xs i words to 2 y m a0 a1 none none w0 w1 (n2 2 (dimension h 2).points (dimension h 2).stride (omega arith)) (n2 3 (dimension h 3).points (dimension h 3).stride (omega arith)) pl e)

      pub written2 : (after : List ℕ) → after ≡ sets words to (channels_of t (h.hop + 1) pl a0.up a0.rest a1.up a1.rest 0 0 0 0 3)
          → after ≡ sets words to (colour t (table_by t b) (drop i xs))
      written2 = written4 t b h xs i words to 2 y m a0 a1 none none w0 w1 (n2 2 (dimension h 2).points (dimension h 2).stride (omega arith)) (n2 3 (dimension h 3).points (dimension h 3).stride (omega arith)) pl e

  module _ (y : Spot t b h xs i words to) (m : Three 1 b.inputs b.outputs) (a0 : Axis) (w0 : AxisOf xs i 1 0 (dimension h 0).points (dimension h 0).stride a0) where
    n1 : (k : ℕ) (g stride : ℕ) → 1 ≤ k → AxisOf xs i 1 k g stride none
    n1 k g stride l = none_of xs i 1 k g stride l

    pub place1 : length t < 2 ^ 64 → h.start + a0.off + 0 + 0 + 0 < 2 ^ 64
    place1 = place4 t b h xs i words to 1 y m a0 none none none w0 (n1 1 (dimension h 1).points (dimension h 1).stride (omega arith)) (n1 2 (dimension h 2).points (dimension h 2).stride (omega arith)) (n1 3 (dimension h 3).points (dimension h 3).stride (omega arith))

    module _ (pl : ℕ) (e : pl ≡ h.start + a0.off + 0 + 0 + 0) where
      pub reach1 : pl + a0.up + 3 * (h.hop + 1) ≤ length t
      reach1 = omega (arith, reach4 t b h xs i words to 1 y m a0 none none none w0 (n1 1 (dimension h 1).points (dimension h 1).stride (omega arith)) (n1 2 (dimension h 2).points (dimension h 2).stride (omega arith)) (n1 3 (dimension h 3).points (dimension h 3).stride (omega arith)) pl e)

      pub written1 : (after : List ℕ) → after ≡ sets words to (channels_of t (h.hop + 1) pl a0.up a0.rest 0 0 0 0 0 0 3)
          → after ≡ sets words to (colour t (table_by t b) (drop i xs))
      written1 = written4 t b h xs i words to 1 y m a0 none none none w0 (n1 1 (dimension h 1).points (dimension h 1).stride (omega arith)) (n1 2 (dimension h 2).points (dimension h 2).stride (omega arith)) (n1 3 (dimension h 3).points (dimension h 3).stride (omega arith)) pl e

pub ruleset axis-in = (axis_in0, axis_in1, axis_in2, axis_in3)

pub ruleset three_in = (three_in0, three_in1, three_in2, three_in3)

pub ruleset three-asks = (three_hop, three_room, reach1, reach2, reach3, reach4)
