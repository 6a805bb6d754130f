-- Bytes appended behind a tag in which a colour table is there: the table stays, and every colour. So no answer changes but 19, and no
-- result. A grid byte of 2 or more stands in the tag, and a pixel of 16-bit coordinates is made of entries of the table, which lie there
-- too.
-- Assumes nothing.
use Prim.Native.Nat.{ℕ, zero, suc, ◌+◌, ◌*◌, ◌%◌, ◌≤◌, ◌<◌, min}
use native.Mathlib.Omega.{arith}
use mathlib.Core.Path.{◌≡◌, refl}
use mathlib.Core.Bool.{Bool, true, false, cond, ◌||◌, not}
use mathlib.Core.List.{List, [], ◌∷◌, ◌++◌}
use mathlib.Core.Logic.{◌⊎◌, inl, inr}
use lib.Dec.{ltb, eqb}
use lib.ListN.{length, get_or, take, drop, length-append, get_or-append, get_or-eq_default}
use borrow.Author.Tests.{ltb-true, ltb-false, lt-ltb, eqb-false}
use Rattle.icc.specs.Each.{Each}
use Rattle.icc.specs.Numbers.{Each16}
use Rattle.fields.specs.Refusals.{no_colour_table}
use Rattle.fields.specs.Some.{some}
use Rattle.fields.proofs.Append.{u16_append}
use Rattle.lut_clut_meaning.specs.Clut.{is_flat}
use Rattle.lut_clut_meaning.specs.Table.{Table, in_grid, entry_number}
use Rattle.lut_clut_meaning.proofs.Grid.{entry_below}
use Rattle.lut_view_meaning.specs.View.{grid_from, table_by}
use Rattle.lut_view_meaning.specs.declared.TableNumbers.{TableNumbers}
use Rattle.evaluate_meaning.specs.Answer.{Answer, refused}
use Rattle.evaluate_meaning.specs.Colour.{cell_of, rest_of, blend, between, colour_of, sample_at, corner_of, colours_from, colour}
use Rattle.evaluate_meaning.specs.Evaluate.{no_table, written, pixel_answer, pixel_after, colours_of, pixels_of, row_answer, row_after}
use Rattle.evaluate_meaning.proofs.Cells.{cell_in, cell_next}
use Rattle.evaluate_meaning.proofs.Grid.{first_solid, others_solid}
use Rattle.evaluate_meaning.proofs.Room.{room_answer}
use Rattle.evaluate_meaning.proofs.There.{There, is_there, none_missing}

-- ---- the grid

-- a byte of 2 or more stands in the tag: past its end all is 0
stands : (t : List ℕ) (i : ℕ) → 2 ≤ get_or t i 0 → i < length t
stands t i l = by (ltb i (length t)) refl
  where
    by : (b : Bool) → ltb i (length t) ≡ b → i < length t
    by true e = ltb-true i (length t) e
    by false e = let z = get_or-eq_default t 0 (ltb-false i (length t) e) in absurd (omega (arith, z))

grid_stays : (t q : List ℕ) (at step n : ℕ) → some is_flat (grid_from t at step n) ≡ false → grid_from (t ++ q) at step n ≡ grid_from t at step n
unfolding grid_from
grid_stays t q at step zero h = refl
grid_stays t q at step (suc n) h =
    let g : ℕ = get_or t at 0 in
    let others : List ℕ = grid_from t (at + step) step n in
    rw (get_or-append t q 0 at (stands t at (first_solid g others h)), grid_stays t q (at + step) step n (others_solid g others h))

-- ---- a colour is made of entries of the table

between_same : (low low' high high' rest : ℕ) → low ≡ low' → ((rest ≡ 0 → ⊥) → high ≡ high') → between low high rest ≡ between low' high' rest
unfolding between
between_same low low' high high' rest e f = by (eqb rest 0) refl
  where
    by : (b : Bool) → eqb rest 0 ≡ b → cond b low (blend low high rest) ≡ cond b low' (blend low' high' rest)
    by true z = e
    by false z = rw (e, f (eqb-false rest 0 z))

-- two tables with the same entries at every index in the grid
colour_same : (gs xs : List ℕ) (table table' : List ℕ → ℕ) → some is_flat gs ≡ false → Each16 xs → ((index : List ℕ) → in_grid gs index ≡ true → table index ≡ table' index) → colour_of table gs xs ≡ colour_of table' gs xs
unfolding Each in_grid colour_of
colour_same [] xs table table' h low same = same [] refl
colour_same (g ∷ gs) [] table table' h low same = refl
colour_same (g ∷ gs) (x ∷ xs) table table' h low same =
    let one : 1 ≤ g = omega (arith, first_solid g gs h) in
    let at : (c : ℕ) → c < g → colour_of (λ i. table (c ∷ i)) gs xs ≡ colour_of (λ i. table' (c ∷ i)) gs xs =
    λ c l. colour_same gs xs (λ i. table (c ∷ i)) (λ i. table' (c ∷ i)) (others_solid g gs h) low.1 (λ i v. same (c ∷ i) (rw (lt-ltb c g l) v)) in
    between_same _ _ _ _ (rest_of g x) (at (cell_of g x) (cell_in g x low.0 one)) (λ z. at (cell_of g x + 1) (cell_next g x low.0 one z))

-- ---- the entries

sample_stays : (t q : List ℕ) (at size : ℕ) → 1 ≤ size → size ≤ 2 → at + size ≤ length t → sample_at (t ++ q) at size ≡ sample_at t at size
unfolding sample_at
sample_stays t q at (suc zero) least most l = rw (get_or-append t q 0 at (omega arith))
sample_stays t q at (suc (suc zero)) least most l = u16_append t q at l
sample_stays t q at zero least most l = absurd (omega arith)
sample_stays t q at (suc (suc (suc n))) least most l = absurd (omega arith)

-- ---- pixels of a row

each_take : (n : ℕ) (l : List ℕ) → Each16 l → Each16 (take n l)
unfolding Each
each_take zero l e = tt
each_take (suc n) [] e = tt
each_take (suc n) (x ∷ l) e = (e.0, each_take n l e.1)

each_drop : (n : ℕ) (l : List ℕ) → Each16 l → Each16 (drop n l)
unfolding Each
each_drop zero l e = e
each_drop (suc n) [] e = tt
each_drop (suc n) (x ∷ l) e = each_drop n l e.1

module _ (t q : List ℕ) (n : TableNumbers) (there : no_table t n ≡ false) where
  abbrev table : Table
  table = table_by t n

  w : There t n
  w = is_there t n there

  same_grid : grid_from (t ++ q) n.grid_at.0 n.grid_step (min n.inputs 16) ≡ table.grid
  same_grid = grid_stays t q n.grid_at.0 n.grid_step (min n.inputs 16) w.solid

  pub table_stays : table_by (t ++ q) n ≡ table
  table_stays = rw same_grid

  pub still_there : no_table (t ++ q) n ≡ false
  still_there =
      none_missing (t ++ q) n
      record {
        numbers = w.numbers;
        solid = rw same_grid w.solid;
        in_tag = rw same_grid (omega (arith, w.in_tag, length-append t q));
      }

  corner_stays : (channel : ℕ) → channel < n.outputs → (index : List ℕ) → in_grid table.grid index ≡ true → corner_of (t ++ q) table channel index ≡ corner_of t table channel index
  unfolding corner_of
  corner_stays channel low index valid =
      sample_stays t q (table.start + entry_number table index channel * table.size) table.size w.numbers.size_least w.numbers.size_most (omega (arith, entry_below table index channel valid low, w.in_tag))

  module _ (xs : List ℕ) (low : Each16 xs) where
    colours_stay : (channel k : ℕ) → channel + k ≤ n.outputs → colours_from (t ++ q) table xs channel k ≡ colours_from t table xs channel k
    unfolding colours_from
    colours_stay channel zero l = refl
    colours_stay channel (suc k) l =
        rw (colour_same table.grid xs (corner_of (t ++ q) table channel) (corner_of t table channel) w.solid low (corner_stays channel (omega arith)), colours_stay (channel + 1) k (omega arith))

    pub colour_stays : colour (t ++ q) (table_by (t ++ q) n) xs ≡ colour t table xs
    colour_stays = rw table_stays (colours_stay 0 n.outputs (omega arith))

  pub row_stays : (k : ℕ) (xs : List ℕ) → Each16 xs → colours_of (t ++ q) n xs k ≡ colours_of t n xs k
  unfolding colours_of
  row_stays zero xs low = refl
  row_stays (suc k) xs low =
      rw (colour_stays (take n.inputs xs) (each_take n.inputs xs low), row_stays k (drop n.inputs xs) (each_drop n.inputs xs low))

-- ---- the calls

-- an answer 19, or the same answer and the same words
abbrev pub Stays : Answer → Answer → List ℕ → List ℕ → Type 0
Stays a b words words' = (a ≡ refused no_colour_table) ⊎ ((b ≡ a) × (words' ≡ words))

stays : (none none' odd : Bool) (k : ℕ) (results results' words : List ℕ) → (none ≡ false → none' ≡ false) → (none ≡ false → results' ≡ results) → Stays (room_answer (none || odd) k (length words)) (room_answer (none' || odd) k (length words)) (written (room_answer (none || odd) k (length words)) results words) (written (room_answer (none' || odd) k (length words)) results' words)
stays true none' odd k results results' words f g = inl refl
stays false none' odd k results results' words f g = rw (f refl, g refl) (inr (refl, refl))

module _ (t q : List ℕ) (n : TableNumbers) (xs words : List ℕ) (low : Each16 xs) where
  pub pixel_grows : Stays (pixel_answer t n xs (length words)) (pixel_answer (t ++ q) n xs (length words)) (pixel_after t n xs words) (pixel_after (t ++ q) n xs words)
  unfolding pixel_answer pixel_after
  pixel_grows =
      stays (no_table t n) (no_table (t ++ q) n) (not (eqb (length xs) n.inputs)) n.outputs (colour t (table_by t n) xs) (colour (t ++ q) (table_by (t ++ q) n) xs) words (still_there t q n) (λ h. colour_stays t q n h xs low)

  pub row_grows : Stays (row_answer t n xs (length words)) (row_answer (t ++ q) n xs (length words)) (row_after t n xs words) (row_after (t ++ q) n xs words)
  unfolding row_answer row_after
  row_grows =
      stays (no_table t n) (no_table (t ++ q) n) (not (eqb (length xs % n.inputs) 0)) (pixels_of n xs * n.outputs) (colours_of t n xs (pixels_of n xs)) (colours_of (t ++ q) n xs (pixels_of n xs)) words (still_there t q n) (λ h. row_stays t q n h (pixels_of n xs) xs low)
