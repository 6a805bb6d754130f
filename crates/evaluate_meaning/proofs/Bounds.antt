-- A colour lies between the least and the greatest corner used, once for all dimensions: whatever a blend keeps of its neighbours, a colour
-- keeps of the corners used.
-- Assumes nothing.
use Prim.Native.Nat.{ℕ, zero, suc, ◌+◌, ◌≤◌, ◌<◌, min, max}
use native.Mathlib.Omega.{arith}
use native.Mathlib.Nat.{min-le_left, min-le_right, le-max_left, le-max_right, le_refl, le_trans, add-zero, zero-add}
use mathlib.Core.Path.{◌≡◌, refl}
use mathlib.Core.Bool.{Bool, true, false, cond}
use mathlib.Core.List.{List, [], ◌∷◌, map}
use lib.Dec.{eqb}
use lib.ListN.{length, get_or}
use Rattle.icc.specs.Each.{Each}
use Rattle.lut_clut_meaning.specs.Table.{Table}
use Rattle.evaluate_meaning.specs.Colour.{cell_of, rest_of, blend, between, colour_of, corner_of, colours_from, colour}
use Rattle.evaluate_meaning.specs.Corners.{corners_of, least, greatest}
use Rattle.evaluate_meaning.proofs.Blend.{blend_least, blend_greatest}
use Rattle.evaluate_meaning.proofs.Lists.{each_more, each_pair, each_mapped, each_first, each_last, unless_each}

pub rest_small : (g x : ℕ) → rest_of g x ≤ 65535
unfolding rest_of
rest_small g x = omega arith

-- ---- what a blend keeps, a colour keeps

module _ (R : ℕ → ℕ → Type 0) (kept : (low high low' high' r : ℕ) → r ≤ 65535 → R low low' → R high high' → R (blend low high r) (blend low' high' r)) where
  chosen : (b : Bool) (low high low' high' r : ℕ) → r ≤ 65535 → R low low' → (b ≡ false → R high high') → R (cond b low (blend low high r)) (cond b low' (blend low' high' r))
  chosen true low high low' high' r l p q = p
  chosen false low high low' high' r l p q = kept low high low' high' r l p (q refl)

  -- of two tables, where it holds at each corner used
  pub related : (table table' : List ℕ → ℕ) (gs xs : List ℕ) → length xs ≡ length gs
      → Each (λ i. R (table i) (table' i)) (corners_of gs xs) → R (colour_of table gs xs) (colour_of table' gs xs)
  unfolding colour_of corners_of Each between
  related table table' [] xs n e = e.0
  related table table' (g ∷ gs) [] n e = absurd (omega arith)
  related table table' (g ∷ gs) (x ∷ xs) n e =
      let m : length xs ≡ length gs = omega arith in
      let P : List ℕ → Type 0 = λ i. R (table i) (table' i) in
      let none : Bool = eqb (rest_of g x) 0 in
      let low : List ℕ → List ℕ = ◌∷◌ (cell_of g x) in
      let high : List ℕ → List ℕ = ◌∷◌ (cell_of g x + 1) in
      let lower : List (List ℕ) = map low (corners_of gs xs) in
      let upper : List (List ℕ) = map high (corners_of gs xs) in
      chosen none _ _ _ _ (rest_of g x) (rest_small g x)
      (related (λ i. table (low i)) (λ i. table' (low i)) gs xs m (each_mapped P low (corners_of gs xs) (each_first P lower (cond none [] upper) e)))
      (λ z. related (λ i. table (high i)) (λ i. table' (high i)) gs xs m
      (each_mapped P high (corners_of gs xs) (unless_each P none upper (each_last P lower (cond none [] upper) e) z)))

-- ---- bounds of the corners used are bounds of the colour

abbrev pub Within : ℕ → ℕ → ℕ → Type 0
Within least most v = (least ≤ v) × (v ≤ most)

pub bounded : (least most : ℕ) (table : List ℕ → ℕ) (gs xs : List ℕ) → length xs ≡ length gs
    → Each (λ i. Within least most (table i)) (corners_of gs xs) → Within least most (colour_of table gs xs)
bounded least most table =
    related (λ v _. Within least most v) (λ low high low' high' r l p q. (blend_least low high r l least p.0 q.0, blend_greatest low high r l most p.1 q.1)) table table

-- ---- the least and the greatest

least_all : (l : List ℕ) → Each (λ v. least l ≤ v) l
unfolding Each least
least_all [] = tt
least_all (x ∷ []) = (le_refl x, tt)
least_all (x ∷ (y ∷ l)) =
    (min-le_left x (least (y ∷ l)), each_more (λ v. least (y ∷ l) ≤ v) (λ v. min x (least (y ∷ l)) ≤ v) (λ v h. le_trans (min-le_right x (least (y ∷ l))) h) (y ∷ l) (least_all (y ∷ l)))

greatest_all : (l : List ℕ) → Each (λ v. v ≤ greatest l) l
unfolding Each greatest
greatest_all [] = tt
greatest_all (x ∷ l) =
    (le-max_left x (greatest l), each_more (λ v. v ≤ greatest l) (λ v. v ≤ max x (greatest l)) (λ v h. le_trans h (le-max_right x (greatest l))) l (greatest_all l))

pub between_corners : (table : List ℕ → ℕ) (gs xs : List ℕ) → length xs ≡ length gs
    → Within (least (map table (corners_of gs xs))) (greatest (map table (corners_of gs xs))) (colour_of table gs xs)
between_corners table gs xs n =
    let vs : List ℕ = map table (corners_of gs xs) in
    bounded (least vs) (greatest vs) table gs xs n
    (each_mapped (Within (least vs) (greatest vs)) table (corners_of gs xs) (each_pair (λ v. least vs ≤ v) (λ v. v ≤ greatest vs) vs (least_all vs) (greatest_all vs)))

-- ---- the results of a pixel, one by one

pub length_colours : (t : List ℕ) (table : Table) (xs : List ℕ) (channel n : ℕ) → length (colours_from t table xs channel n) ≡ n
unfolding colours_from
length_colours t table xs channel zero = refl
length_colours t table xs channel (suc n) = rw (length_colours t table xs (channel + 1) n)

pub colour_at : (t : List ℕ) (table : Table) (xs : List ℕ) (channel n k : ℕ) → k < n
    → get_or (colours_from t table xs channel n) k 0 ≡ colour_of (corner_of t table (channel + k)) table.grid xs
unfolding colours_from
colour_at t table xs channel zero k l = absurd (omega arith)
colour_at t table xs channel (suc n) zero l = rw add-zero
colour_at t table xs channel (suc n) (suc k) l = let next : channel + suc k ≡ channel + 1 + k = omega arith in rw next (colour_at t table xs (channel + 1) n k (omega arith))

pub result_between : (t : List ℕ) (table : Table) (xs : List ℕ) (k : ℕ) → length xs ≡ length table.grid → k < table.outputs
    → Within (least (map (corner_of t table k) (corners_of table.grid xs))) (greatest (map (corner_of t table k) (corners_of table.grid xs))) (get_or (colour t table xs) k 0)
result_between t table xs k n l = rw (colour_at t table xs 0 table.outputs k l, zero-add) (between_corners (corner_of t table k) table.grid xs n)
