-- The loop over the pixels of a row: what is left to write makes of the buffer what the whole makes of it as it was. Then the answers for a row.
-- Assumes nothing.
use Prim.Native.Nat.{ℕ, zero, suc, ◌+◌, ◌-◌, ◌*◌, ◌/◌, ◌%◌, ◌^◌, ◌≤◌, ◌<◌}
use native.Mathlib.Omega.{arith}
use native.Mathlib.Nat.{mul-le-mul_right, sub-zero}
use mathlib.Core.Path.{◌≡◌, refl, sym, ap, ◌∙◌}
use mathlib.Core.Bool.{Bool, true, false}
use mathlib.Core.List.{List, [], ◌∷◌, ◌++◌}
use lib.Dec.{ltb}
use lib.ListN.{length, take, drop}
use lib.Seq.{sets, length-sets, drop-drop}
use mir.Syntax.{w64}
use mir.Val.{Fits}
use borrow.Author.Tests.{ltb-true, ltb-false}
use Rattle.std.specs.Prelude.{Ok, Err}
use Rattle.fields.specs.declared.Refusal.{Refusal}
use Rattle.fields.specs.declared.Refusal.TheVariants.{NoColourTable, TooFewSlots}
use Rattle.lut_view_meaning.specs.View.{table_by}
use Rattle.lut_view_meaning.specs.declared.TableNumbers.{TableNumbers}
use Rattle.evaluate_meaning.specs.Colour.{cell_of, colour_of, corner_of, colours_from, colour}
use Rattle.evaluate_meaning.specs.Evaluate.{odd_numbers, no_table, colours_of, RowEvaluated}
use Rattle.evaluate_meaning.proofs.Answered.{row_uneven, row_tableless, row_short, row_value}
use Rattle.evaluate_meaning.proofs.Bounds.{length_colours}
use Rattle.evaluate_meaning.proofs.Grid.{as_many}
use Rattle.evaluate_meaning.proofs.Odd.{Even, even}
use Rattle.evaluate_parts.specs.Tests.{past_of, count_of}
use Rattle.evaluate_parts.proofs.Laws.{count_is, count_fits, none_left, some_left}
use Rattle.evaluate.specs.Parts.{ShapeOf, Judged, Tableless, Spot, Row}
use Rattle.evaluate.specs.declared.Shape.{Shape}
use Rattle.evaluate.proofs.Channels.{sets_append}
use Rattle.evaluate.proofs.Judging.{is_there}
use Rattle.evaluate.proofs.Pixels.{is_even}

-- ---- coordinates behind a pixel's own change nothing

colour_take : (table : List ℕ → ℕ) (gs xs : List ℕ) → colour_of table gs (take (length gs) xs) ≡ colour_of table gs xs
unfolding colour_of
colour_take table [] xs = refl
colour_take table (g ∷ gs) [] = refl
colour_take table (g ∷ gs) (x ∷ xs) = rw (colour_take (λ i. table (cell_of g x ∷ i)) gs xs, colour_take (λ i. table ((cell_of g x + 1) ∷ i)) gs xs)

module _ (t : List ℕ) (b : TableNumbers) (e : b.inputs ≤ 4) (xs : List ℕ) where
  colours_take : (ch k : ℕ) → colours_from t (table_by t b) (take b.inputs xs) ch k ≡ colours_from t (table_by t b) xs ch k
  unfolding colours_from
  colours_take ch zero = refl
  colours_take ch (suc k) =
      let first : colour_of (corner_of t (table_by t b) ch) (table_by t b).grid (take b.inputs xs) ≡ colour_of (corner_of t (table_by t b) ch) (table_by t b).grid xs =
      ap (λ (m : ℕ). colour_of (corner_of t (table_by t b) ch) (table_by t b).grid (take m xs)) (sym (as_many t b e)) ∙ colour_take (corner_of t (table_by t b) ch) (table_by t b).grid xs in
      rw (first, colours_take (ch + 1) k)

-- ---- the loop

pub record Rowing (t : List ℕ) (b : TableNumbers) (xs : List ℕ) (count : ℕ) (words₀ words : List ℕ) (k : ℕ) : Type 0 where
  pub long : length words ≡ length words₀
  pub left : sets words (k * b.outputs) (colours_of t b (drop (k * b.inputs) xs) (count - k)) ≡ sets words₀ 0 (colours_of t b xs count)

module _ (t : List ℕ) (b : TableNumbers) (h : Shape) (xs : List ℕ) (count : ℕ) (words₀ : List ℕ) (y : Row t b h xs count words₀) where
  pub row_begins : Rowing t b xs count words₀ words₀ 0
  row_begins =
      let i : 0 * b.inputs ≡ 0 = omega arith in
      let o : 0 * b.outputs ≡ 0 = omega arith in
      record { long = refl; left = rw (sub-zero, i, o) }

  module _ (words : List ℕ) (k : ℕ) (w : Rowing t b xs count words₀ words k) where
    module _ (l : k < count) where
      coords_in : k * b.inputs + b.inputs ≤ length xs
      coords_in = let a : k + 1 ≤ count = omega arith in omega (arith, mul-le-mul_right b.inputs a, y.coords)

      room_in : k * b.outputs + b.outputs ≤ length words
      room_in = let a : k + 1 ≤ count = omega arith in omega (arith, mul-le-mul_right b.outputs a, y.room, w.long)

      pub row_spot : Spot t b h xs (k * b.inputs) words (k * b.outputs)
      row_spot = record { judged = y.judged; coords = coords_in; room = room_in }

      pub i_fits : length xs < 2 ^ 64 → Fits w64 (k * b.inputs)
      i_fits m = record { fits = omega (arith, coords_in) }

      pub o_fits : length words₀ < 2 ^ 64 → Fits w64 (k * b.outputs)
      o_fits m = record { fits = omega (arith, room_in, w.long) }

      pub row_turns : (after : List ℕ) → after ≡ sets words (k * b.outputs) (colour t (table_by t b) (drop (k * b.inputs) xs)) → Rowing t b xs count words₀ after (k + 1)
      unfolding colours_of
      row_turns after e =
          let i : ℕ = k * b.inputs in
          let o : ℕ = k * b.outputs in
          let c : count - k ≡ suc (count - (k + 1)) = omega arith in
          let vs : List ℕ = colour t (table_by t b) (drop i xs) in
          let rest : List ℕ = colours_of t b (drop (i + b.inputs) xs) (count - (k + 1)) in
          let j : (k + 1) * b.inputs ≡ i + b.inputs = omega arith in
          let m : length vs ≡ b.outputs = length_colours t (table_by t b) (drop i xs) 0 b.outputs in
          let a : (k + 1) * b.outputs ≡ o + length vs = omega (arith, m) in
          let f : sets words o (colour t (table_by t b) (take b.inputs (drop i xs)) ++ colours_of t b (drop b.inputs (drop i xs)) (count - (k + 1))) ≡ sets words₀ 0 (colours_of t b xs count) = rw c at w.left in
          let g : sets words o (vs ++ rest) ≡ sets words₀ 0 (colours_of t b xs count) = rw (colours_take t b (even b (is_even t b h y.judged)).few_inputs (drop i xs) 0 b.outputs, drop-drop b.inputs i xs) at f in
          record {
            long = ap length e ∙ length-sets words o vs ∙ w.long;
            left = rw (a, j, e) (sym (sets_append vs rest words o) ∙ g);
          }

    pub row_ends : count ≤ k → words ≡ sets words₀ 0 (colours_of t b xs count)
    unfolding colours_of
    row_ends l = let z : count - k ≡ 0 = omega arith in rw z at w.left

-- ---- the answers for a row

module _ (t : List ℕ) (b : TableNumbers) (xs words : List ℕ) where
  pub row_refused : (why : Refusal) → Tableless t b why → RowEvaluated t b xs words (Err why) words
  row_refused why k = rw k.is_why (row_tableless t b xs words k.none)

  module _ (h : Shape) (table : Judged t b h) (count : ℕ) (c : count ≡ count_of (length xs) b.inputs) where
    there : no_table t b ≡ false
    there = is_there t b h table

    numbers : Even b
    numbers = even b (is_even t b h table)

    pub pixels_fit : length xs < 2 ^ 64 → Fits w64 (count * b.inputs)
    pixels_fit = count_fits (length xs) b.inputs numbers.input numbers.few_inputs count c

    pub row_parted : (count * b.inputs ≡ length xs → ⊥) → RowEvaluated t b xs words (Err NoColourTable) words
    row_parted z = row_uneven t b xs words (some_left (length xs) b.inputs numbers.input numbers.few_inputs count c z)

    module _ (m : count * b.inputs ≡ length xs) (z : Bool) (y : z ≡ ltb (length words) (count * b.outputs)) where
      pixels : count ≡ length xs / b.inputs
      pixels = count_is (length xs) b.inputs numbers.input numbers.few_inputs count c

      parted : length xs % b.inputs ≡ 0
      parted = none_left (length xs) b.inputs numbers.input numbers.few_inputs count c m

      pub row_no_room : z ≡ true → RowEvaluated t b xs words (Err TooFewSlots) words
      row_no_room f =
          let l : length words < count * b.outputs = ltb-true (length words) (count * b.outputs) (sym y ∙ f) in
          row_short t b xs words there parted (rw pixels at l)

      module _ (f : z ≡ false) where
        room : count * b.outputs ≤ length words
        room = ltb-false (length words) (count * b.outputs) (sym y ∙ f)

        pub row_ready : Row t b h xs count words
        row_ready = record { judged = table; coords = sym m; room = room }

        pub total_fits : length words < 2 ^ 64 → Fits w64 (count * b.outputs)
        total_fits s = record { fits = omega (arith, room) }

        pub row_done : (after : List ℕ) → after ≡ sets words 0 (colours_of t b xs count) → RowEvaluated t b xs words (Ok (count * b.outputs)) after
        row_done after p =
            let l : length xs / b.inputs * b.outputs ≤ length words = rw pixels at room in
            rw pixels (row_value t b xs words there parted l after (rw pixels at p))
