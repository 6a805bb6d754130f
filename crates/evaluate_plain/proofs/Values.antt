-- One coordinate, one blend, one entry, and the colour behind a point, a dimension at a time: the cell lies in the grid, what is left lies in
-- the tag, and the two halves blend.
-- Assumes nothing.
use Prim.Native.Nat.{ℕ, ◌+◌, ◌-◌, ◌*◌, ◌/◌, ◌%◌, ◌^◌, ◌≤◌, ◌<◌}
use native.Mathlib.Omega.{arith}
use native.Mathlib.Nat.{mul-le-mul_left, mul-le-mul_right}
use mathlib.Core.Path.{◌≡◌, refl, sym, ap, ◌∙◌}
use mathlib.Core.Bool.{false}
use mathlib.Core.List.{List, [], ◌∷◌}
use lib.ListN.{length, get_or, take, drop, length-drop}
use lib.Seq.{drop-cons, take_all}
use mir.Syntax.{w8, w16, w32, w64}
use mir.Val.{Fits}
use borrow.Author.Tests.{eq-eqb, ne_eqb, le-ltb}
use Rattle.fields.specs.Some.{some}
use Rattle.fields.proofs.Never.{never}
use Rattle.lut_clut_meaning.specs.Clut.{is_flat}
use Rattle.lut_clut_meaning.specs.Table.{product}
use Rattle.lut_view_meaning.specs.Answer.{value, absent, in_numbers as entryNumbers}
use Rattle.std.specs.Prelude.{Option, Some, None}
use Rattle.lut_view_meaning.specs.View.{stored_at, entry_from, table_by}
use Rattle.lut_view_meaning.specs.declared.TableNumbers.{TableNumbers}
use Rattle.evaluate_meaning.specs.Colour.{cell_of, rest_of, blend, between, colour_of, sample_at, corner_of}
use Rattle.evaluate_meaning.proofs.Behind as Behind
use Rattle.evaluate_meaning.proofs.Blend.{sum_small, blend_small}
use Rattle.evaluate_meaning.proofs.Cells.{position_most, cell_in, cell_next}
use Rattle.evaluate_meaning.proofs.Grid.{first_solid, others_solid, solid_product}
use Rattle.evaluate_plain.specs.Parts.{Placed, sample_of, InTable, grid_for, behind, value_of, Room}
use Rattle.evaluate_plain.proofs.Tests.{grid_none, grid_more, step_fits}

-- ---- a coordinate in a dimension

module _ (g x : ℕ) (m : x < 65536) where
  pub position_fits : g < 256 → Fits w32 (x * (g - 1))
  position_fits b = record { fits = omega (arith, position_most g x m) }

  pub lower_wide : g < 256 → Fits w64 (x * (g - 1) / 65535)
  lower_wide b = record { fits = omega (arith, position_most g x m) }

  pub placed : 2 ≤ g → Placed g x (x * (g - 1) / 65535) (x * (g - 1) % 65535)
  unfolding cell_of rest_of
  placed l =
      let k : 1 ≤ g = omega arith in
      record { at_point = refl; behind_it = refl; below = cell_in g x m k; next_below = cell_next g x m k }

pub ruleset cell_laws = (position_fits, lower_wide, placed)

-- ---- two neighbours and a rest

module _ (low high rest : ℕ) (a : low < 65536) (b : high < 65536) (l : rest < 65536) where
  sum_most : low * (65535 - rest) + high * rest ≤ 65535 * 65535
  sum_most = sum_small low high rest a b (omega arith)

  pub low_fits : Fits w32 (low * (65535 - rest))
  low_fits = record { fits = omega (arith, sum_most) }

  pub high_fits : Fits w32 (high * rest)
  high_fits = record { fits = omega (arith, sum_most) }

  pub sum_fits : Fits w32 (low * (65535 - rest) + high * rest)
  sum_fits = record { fits = omega (arith, sum_most) }

  pub rounded_fits : Fits w32 (low * (65535 - rest) + high * rest + 32767)
  rounded_fits = record { fits = omega (arith, sum_most) }

  pub blend_fits : Fits w16 ((low * (65535 - rest) + high * rest + 32767) / 65535)
  unfolding blend
  blend_fits = record { fits = blend_small low high rest a b (omega arith) }

pub ruleset blend-laws = (low_fits, high_fits, sum_fits, rounded_fits, blend_fits)

-- ---- one entry

-- as it is stored
abbrev stored_of : List ℕ → TableNumbers → ℕ → ℕ
stored_of t n number = stored_at t (n.start.0 + number * n.entry_size) n.entry_size

module _ (t : List ℕ) (n : TableNumbers) (number : ℕ) (i : InTable t n number) (r : Option ℕ) (e : entryNumbers r ≡ entry_from t n.start.0 n.entry_size number) where
  there : entryNumbers r ≡ value (stored_of t n number)
  unfolding entry_from
  there = e ∙ simp (le-ltb _ _ i.least, le-ltb _ _ i.most, le-ltb _ _ i.inside)

  pub corner_never : r ≡ None → 0 ≡ sample_of t n number
  corner_never f = let w : absent ≡ value (stored_of t n number) = rw f at there in never cc

  module _ (v : ℕ) (f : r ≡ Some v) where
    is_stored : v ≡ stored_of t n number
    is_stored = let w : value v ≡ value (stored_of t n number) = rw f at there in cc

    pub corner_byte : n.entry_size ≡ 1 → v * 257 ≡ sample_of t n number
    unfolding sample_at
    corner_byte s = rw (is_stored, eq-eqb _ _ s)

    pub corner_two : (n.entry_size ≡ 1 → ⊥) → v ≡ sample_of t n number
    unfolding sample_at
    corner_two s = is_stored ∙ rw (ne_eqb _ _ s)

    pub widened_fits : n.entry_size ≡ 1 → ((k : ℕ) → Fits w8 (get_or t k 0)) → Fits w16 (v * 257)
    widened_fits s k =
        let w : v ≡ get_or t (n.start.0 + number * n.entry_size) 0 = is_stored ∙ rw (eq-eqb _ _ s) in
        record { fits = omega (arith, (k (n.start.0 + number * n.entry_size)).fits) }

pub ruleset corner-laws = (corner_never, corner_byte, corner_two)

-- ---- the colour behind a point

module _ (t : List ℕ) (n : TableNumbers) (channel : ℕ) where
  -- what stands at a point
  abbrev entry : ℕ → ℕ
  entry p = sample_of t n (p * n.outputs + channel)

  value_none : (xs : List ℕ) (p : ℕ) → value_of t n [] xs p channel ≡ entry p
  unfolding value_of behind Behind.value_of Behind.behind
  value_none = Behind.value_none entry

  value_more : (g : ℕ) (gs : List ℕ) (x : ℕ) (xs : List ℕ) (p : ℕ) → value_of t n (g ∷ gs) (x ∷ xs) p channel ≡ between (value_of t n gs xs (p * g + cell_of g x) channel) (value_of t n gs xs (p * g + cell_of g x + 1) channel) (rest_of g x)
  unfolding value_of behind Behind.value_of Behind.behind
  value_more = Behind.value_more entry

  -- the table behind no point is the table
  pub value_whole : (xs : List ℕ) → value_of t n (table_by t n).grid xs 0 channel ≡ colour_of (corner_of t (table_by t n) channel) (table_by t n).grid xs
  unfolding value_of behind Behind.value_of Behind.behind corner_of
  value_whole xs = Behind.value_whole entry (table_by t n).grid xs (corner_of t (table_by t n) channel) (λ i. refl)

-- all coordinates but the first, as the code has them
abbrev others : List ℕ → List ℕ
others xs = take (length xs - 1) (drop 1 xs)

others_drop : (xs : List ℕ) → others xs ≡ drop 1 xs
others_drop xs = take_all (length xs - 1) (drop 1 xs) (omega (arith, length-drop 1 xs))

others_length : (xs : List ℕ) → length (others xs) ≡ length xs - 1
others_length xs = ap length (others_drop xs) ∙ length-drop 1 xs

-- behind the next grid byte: the dimensions, the colour, and the room for it
abbrev grid_behind : List ℕ → TableNumbers → ℕ → List ℕ → List ℕ
grid_behind t n at xs = grid_for t n (at + n.grid_step) (others xs)

abbrev value_behind : List ℕ → TableNumbers → ℕ → List ℕ → ℕ → ℕ → ℕ
value_behind t n at xs p channel = value_of t n (grid_behind t n at xs) (others xs) p channel

abbrev RoomBehind : List ℕ → TableNumbers → ℕ → List ℕ → ℕ → ℕ → Type 0
RoomBehind t n at xs p channel = Room t n (at + n.grid_step) (others xs) p channel

at_least : (a b : ℕ) → 1 ≤ b → a ≤ a * b
at_least a b h = omega (arith, mul-le-mul_left a h)

-- a point is below the bytes of the tag
point_in : (t : List ℕ) (n : TableNumbers) (at : ℕ) (xs : List ℕ) (p channel : ℕ) → Room t n at xs p channel → p + 1 ≤ length t
point_in t n at xs p channel room =
    let P : ℕ = product (grid_for t n at xs) in
    let o : 1 ≤ n.outputs = omega (arith, room.low) in
    let a : p + 1 ≤ (p + 1) * P = at_least (p + 1) P (solid_product (grid_for t n at xs) room.solid) in
    let b : (p + 1) * P ≤ (p + 1) * P * n.outputs = at_least ((p + 1) * P) n.outputs o in
    omega (arith, at_least ((p + 1) * P * n.outputs) n.entry_size room.least, room.inside)

module _ (t : List ℕ) (n : TableNumbers) (at : ℕ) (xs : List ℕ) (p channel : ℕ) (room : Room t n at xs p channel) where
  module _ (z : length xs ≡ 0) where
    no_grid : grid_for t n at xs ≡ []
    no_grid = grid_none t at n.grid_step (length xs) z

    last_in : n.start.0 + ((p * n.outputs + channel) * n.entry_size + n.entry_size) ≤ length t
    unfolding product
    last_in =
        let i : n.start.0 + (p + 1) * 1 * n.outputs * n.entry_size ≤ length t = rw no_grid at room.inside in
        let k : p * n.outputs + channel + 1 ≤ (p + 1) * 1 * n.outputs = omega (arith, room.low) in
        omega (arith, mul-le-mul_right n.entry_size k)

    pub in_table : InTable t n (p * n.outputs + channel)
    in_table = record { least = room.least; most = room.most; inside = last_in }

    number_in : p * n.outputs + channel ≤ length t
    number_in = omega (arith, last_in, at_least (p * n.outputs + channel) n.entry_size room.least)

    pub row_fits : length t * 1 < 2 ^ 63 → Fits w64 (p * n.outputs)
    row_fits l = record { fits = omega (arith, number_in) }

    pub number_fits : length t * 1 < 2 ^ 63 → Fits w64 (p * n.outputs + channel)
    number_fits l = record { fits = omega (arith, number_in) }

    pub value_last : (a : ℕ) → a ≡ sample_of t n (p * n.outputs + channel) → a ≡ value_of t n (grid_for t n at xs) xs p channel
    value_last a q = rw (no_grid, value_none t n channel xs p) q

  module _ (z : length xs ≡ 0 → ⊥) (g : ℕ) (e : g ≡ get_or t at 0) where
    more_grid : grid_for t n at xs ≡ g ∷ grid_behind t n at xs
    more_grid = rw (others_length xs) (grid_more t at n.grid_step (length xs) g z e)

    solid : some is_flat (g ∷ grid_behind t n at xs) ≡ false
    solid = rw more_grid at room.solid

    pub two_le : 2 ≤ g
    two_le = first_solid g _ solid

    next_room : (q : ℕ) → q + 1 ≤ (p + 1) * g → RoomBehind t n at xs q channel
    unfolding product
    next_room q h =
        let P : ℕ = product (grid_behind t n at xs) in
        let i : n.start.0 + (p + 1) * (g * P) * n.outputs * n.entry_size ≤ length t = rw more_grid at room.inside in
        let a : (q + 1) * P ≤ (p + 1) * g * P = mul-le-mul_right P h in
        let b : (q + 1) * P * n.outputs ≤ (p + 1) * g * P * n.outputs = mul-le-mul_right n.outputs a in
        record {
          least = room.least;
          most = room.most;
          solid = others_solid g _ solid;
          inside = omega (arith, mul-le-mul_right n.entry_size b);
          low = room.low;
        }

    pub next_fits : length t * 1 < 2 ^ 63 → n.grid_step < 256 → Fits w64 (at + n.grid_step)
    next_fits l s = step_fits t at n.grid_step g e two_le l s

    module _ (x c r : ℕ) (k : Placed g x c r) where
      pub room_low : RoomBehind t n at xs (p * g + c) channel
      room_low = next_room (p * g + c) (omega (arith, k.below))

      pub room_high : (r ≡ 0 → ⊥) → RoomBehind t n at xs (p * g + c + 1) channel
      room_high h = next_room (p * g + c + 1) (omega (arith, k.next_below h))

      lower_in : p * g + c + 1 ≤ length t
      lower_in = point_in t n (at + n.grid_step) (others xs) (p * g + c) channel room_low

      module _ (l : length t * 1 < 2 ^ 63) where
        pub product_fits : Fits w64 (p * g)
        product_fits = record { fits = omega (arith, lower_in) }

        pub lower_fits : Fits w64 (p * g + c)
        lower_fits = record { fits = omega (arith, lower_in) }

        pub upper_fits : Fits w64 (p * g + c + 1)
        upper_fits = record { fits = omega (arith, lower_in) }

    -- the colour is that behind the lower point, or the blend of those behind the two
    module _ (c r : ℕ) (k : Placed g (get_or xs 0 0) c r) where
      split : value_of t n (grid_for t n at xs) xs p channel ≡ between (value_behind t n at xs (p * g + c) channel) (value_behind t n at xs (p * g + c + 1) channel) r
      split =
          let some_left : 0 < length xs = omega arith in
          let apart : xs ≡ get_or xs 0 0 ∷ others xs = drop-cons xs 0 0 some_left ∙ rw (others_drop xs) in
          rw (more_grid, k.at_point, k.behind_it)
          (ap (λ (l : List ℕ). value_of t n (g ∷ grid_behind t n at xs) l p channel) apart
          ∙ value_more t n channel g (grid_behind t n at xs) (get_or xs 0 0) (others xs) p)

      module _ (low : ℕ) (v : low ≡ value_behind t n at xs (p * g + c) channel) where
        pub value_low : r ≡ 0 → low ≡ value_of t n (grid_for t n at xs) xs p channel
        unfolding between
        value_low h = v ∙ sym (split ∙ rw (eq-eqb _ _ h))

        pub value_mix : (r ≡ 0 → ⊥) → (high : ℕ) → high ≡ value_behind t n at xs (p * g + c + 1) channel → (a : ℕ) → a ≡ blend low high r → a ≡ value_of t n (grid_for t n at xs) xs p channel
        unfolding between
        value_mix h high w a q = q ∙ sym (split ∙ rw (ne_eqb _ _ h, ← v, ← w))

pub ruleset value-fits = (row_fits, number_fits, product_fits, lower_fits, upper_fits, next_fits)

pub ruleset value-laws = (value_last, value_low, value_mix)
