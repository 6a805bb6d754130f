-- Colours that are known without a blend: on a point of the grid the entry there, and of equal corners their value; and greater corners give
-- no smaller colour, nor does a greater coordinate where the entries rise along its axis.
-- Assumes nothing.
use Prim.Native.Nat.{ℕ, zero, suc, ◌+◌, ◌-◌, ◌*◌, ◌≤◌, ◌<◌}
use native.Mathlib.Omega.{arith}
use native.Mathlib.Nat.{mul-le-mul_right, le_refl, le_trans}
use mathlib.Core.Path.{◌≡◌, refl, sym, ap}
use mathlib.Core.Bool.{Bool, true, false}
use mathlib.Core.List.{List, [], ◌∷◌}
use lib.Dec.{ltb}
use lib.ListN.{length}
use borrow.Author.Tests.{eq-eqb, ltb-true, ltb-false}
use Rattle.icc.specs.Each.{Each}
use Rattle.evaluate_meaning.specs.Colour.{cell_of, rest_of, blend, between, colour_of}
use Rattle.evaluate_meaning.specs.Corners.{corners_of, OnGrid}
use Rattle.evaluate_meaning.proofs.Blend.{blend_least, blend_greatest, blend_same, blend_none, between_blend, blend_monotone, blend_rises}
use Rattle.evaluate_meaning.proofs.Bounds.{rest_small, related}
use Rattle.evaluate_meaning.proofs.Cells.{cell_in, cell_next}
use Rattle.evaluate_meaning.proofs.Lists.{each_any}

pub on_grid : (table : List ℕ → ℕ) (gs xs index : List ℕ) → OnGrid gs xs index → colour_of table gs xs ≡ table index
unfolding colour_of OnGrid between
on_grid table [] xs index e = ap table (sym e)
on_grid table (g ∷ gs) [] index e = absurd e
on_grid table (g ∷ gs) (x ∷ xs) [] e = absurd e
on_grid table (g ∷ gs) (x ∷ xs) (c ∷ index) e = rw (eq-eqb (rest_of g x) 0 e.0, e.1) (on_grid (λ i. table (c ∷ i)) gs xs index e.2)

-- ---- of the corners used alone: two tables that agree there, one value, and no smaller ones

module _ (table : List ℕ → ℕ) (gs xs : List ℕ) (n : length xs ≡ length gs) where
  pub same_corners : (table' : List ℕ → ℕ) → Each (λ i. table i ≡ table' i) (corners_of gs xs) → colour_of table gs xs ≡ colour_of table' gs xs
  same_corners table' = related ◌≡◌ (λ low high low' high' r l p q. rw (p, q)) table table' gs xs n

  pub constant : (v : ℕ) → Each (λ i. table i ≡ v) (corners_of gs xs) → colour_of table gs xs ≡ v
  constant v = related (λ a _. a ≡ v) (λ low high low' high' r l p q. rw (p, q) (blend_same v r l)) table table gs xs n

  pub mono_tables : (table' : List ℕ → ℕ) → Each (λ i. table i ≤ table' i) (corners_of gs xs) → colour_of table gs xs ≤ colour_of table' gs xs
  mono_tables table' = related ◌≤◌ (λ low high low' high' r l p q. blend_monotone low high low' high' r p q) table table' gs xs n

-- so a table that is one value everywhere gives it
pub constant_table : (v : ℕ) (gs xs : List ℕ) → length xs ≡ length gs → colour_of (λ _. v) gs xs ≡ v
constant_table v gs xs n = constant (λ _. v) gs xs n v (each_any (λ _. v ≡ v) (λ _. refl) (corners_of gs xs))

-- ---- along the first axis, where no entry is greater than its upper neighbour

module _ (table : List ℕ → ℕ) (g : ℕ) (gs xs : List ℕ) (n : length xs ≡ length gs) (ordered : (c : ℕ) → c + 1 < g → (i : List ℕ) → table (c ∷ i) ≤ table ((c + 1) ∷ i)) where
  -- the colour with the first index held
  unfoldable half : ℕ → ℕ
  half c = colour_of (λ i. table (c ∷ i)) gs xs

  step : (c : ℕ) → c + 1 < g → half c ≤ half (c + 1)
  unfolding half
  step c l = mono_tables (λ i. table (c ∷ i)) gs xs n (λ i. table ((c + 1) ∷ i)) (each_any (λ i. table (c ∷ i) ≤ table ((c + 1) ∷ i)) (ordered c l) (corners_of gs xs))

  climb : (c k : ℕ) → c + k < g → half c ≤ half (c + k)
  climb c zero l = let e : c + 0 ≡ c = omega arith in rw e (le_refl (half c))
  climb c (suc k) l = let e : c + suc k ≡ c + k + 1 = omega arith in rw e (le_trans (climb c k (omega arith)) (step (c + k) (omega arith)))

  halves : (x : ℕ) → colour_of table (g ∷ gs) (x ∷ xs) ≡ blend (half (cell_of g x)) (half (cell_of g x + 1)) (rest_of g x)
  unfolding colour_of half
  halves x = between_blend (half (cell_of g x)) (half (cell_of g x + 1)) (rest_of g x)

  module _ (some : 1 ≤ g) where
    -- a blend is no less than its lower neighbour, and no more than its upper one if there is one
    low_end : (x r : ℕ) → x < 65536 → rest_of g x ≡ r → half (cell_of g x) ≤ blend (half (cell_of g x)) (half (cell_of g x + 1)) r
    low_end x zero w e = rw (blend_none (half (cell_of g x)) (half (cell_of g x + 1))) (le_refl (half (cell_of g x)))
    low_end x (suc r) w e =
        let c : ℕ = cell_of g x in
        blend_least (half c) (half (c + 1)) (suc r) (omega (arith, rest_small g x)) (half c) (le_refl (half c)) (step c (cell_next g x w some (λ z. omega arith)))

    high_end : (x : ℕ) → cell_of g x + 1 < g → blend (half (cell_of g x)) (half (cell_of g x + 1)) (rest_of g x) ≤ half (cell_of g x + 1)
    high_end x l = blend_greatest _ _ (rest_of g x) (rest_small g x) (half (cell_of g x + 1)) (step (cell_of g x) l) (le_refl (half (cell_of g x + 1)))

    module _ (x x' : ℕ) (l : x ≤ x') (w : x' < 65536) where
      further : x * (g - 1) ≤ x' * (g - 1)
      further = mul-le-mul_right (g - 1) l

      no_earlier : cell_of g x ≤ cell_of g x'
      unfolding cell_of
      no_earlier = omega (arith, further)

      same_cell : (r' : ℕ) → rest_of g x' ≡ r' → cell_of g x ≡ cell_of g x'
          → blend (half (cell_of g x)) (half (cell_of g x + 1)) (rest_of g x) ≤ blend (half (cell_of g x')) (half (cell_of g x' + 1)) r'
      unfolding cell_of rest_of
      same_cell zero e c = let z : rest_of g x ≡ 0 = omega (arith, further) in rw (c, z) (le_refl (blend (half (cell_of g x')) (half (cell_of g x' + 1)) 0))
      same_cell (suc r') e c =
          rw c (blend_rises (half (cell_of g x')) (half (cell_of g x' + 1)) (rest_of g x) (suc r') (step (cell_of g x') (cell_next g x' w some (λ z. omega arith))) (omega (arith, further)) (omega (arith, rest_small g x')))

      later_cell : cell_of g x < cell_of g x' → colour_of table (g ∷ gs) (x ∷ xs) ≤ colour_of table (g ∷ gs) (x' ∷ xs)
      later_cell b =
          let c : ℕ = cell_of g x + 1 in
          let up : c + (cell_of g x' - c) ≡ cell_of g x' = omega arith in
          let in_grid_lem : cell_of g x' < g = cell_in g x' w some in
          let risen : half c ≤ half (cell_of g x') = rw up at (climb c (cell_of g x' - c) (omega arith)) in
          rw (halves x, halves x') (le_trans (high_end x (omega arith)) (le_trans risen (low_end x' (rest_of g x') w refl)))

      pub rises : colour_of table (g ∷ gs) (x ∷ xs) ≤ colour_of table (g ∷ gs) (x' ∷ xs)
      rises = by (ltb (cell_of g x) (cell_of g x')) refl
        where
          by : (b : Bool) → ltb (cell_of g x) (cell_of g x') ≡ b → colour_of table (g ∷ gs) (x ∷ xs) ≤ colour_of table (g ∷ gs) (x' ∷ xs)
          by true e = later_cell (ltb-true (cell_of g x) (cell_of g x') e)
          by false e = rw (halves x, halves x') (same_cell (rest_of g x') refl (omega (arith, no_earlier, ltb-false (cell_of g x) (cell_of g x') e)))
