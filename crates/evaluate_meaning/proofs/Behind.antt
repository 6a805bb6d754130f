-- The colour behind a grid point of the dimensions before, a dimension at a time, by what stands at each point of all.
-- Assumes nothing.
use Prim.Native.Nat.{ℕ, ◌+◌, ◌*◌}
use native.Mathlib.Omega.{arith}
use mathlib.Core.Path.{◌≡◌, ap, fun_ext}
use mathlib.Core.List.{List, [], ◌∷◌}
use Rattle.lut_clut_meaning.specs.Table.{product, point_of}
use Rattle.evaluate_meaning.specs.Colour.{cell_of, rest_of, between, colour_of}

module _ (entry : ℕ → ℕ) where
  -- the table of the dimensions gs behind point p, and its colour
  unfoldable pub behind : List ℕ → ℕ → List ℕ → ℕ
  behind gs p index = entry (p * product gs + point_of gs index)

  unfoldable pub value_of : List ℕ → List ℕ → ℕ → ℕ
  value_of gs xs p = colour_of (behind gs p) gs xs

  -- behind no point it is that of the whole table, told in any way
  pub value_whole : (gs xs : List ℕ) (table : List ℕ → ℕ) → ((i : List ℕ) → entry (point_of gs i) ≡ table i) → value_of gs xs 0 ≡ colour_of table gs xs
  unfolding value_of behind
  value_whole gs xs table h =
      ap (λ (f : List ℕ → ℕ). colour_of f gs xs) (fun_ext (λ i.
      let e : 0 * product gs + point_of gs i ≡ point_of gs i = omega arith in
      rw e (h i)))

  pub value_none : (xs : List ℕ) (p : ℕ) → value_of [] xs p ≡ entry p
  unfolding value_of colour_of behind product point_of
  value_none xs p = let e : p * 1 + 0 ≡ p = omega arith in rw e

  behind_next : (g : ℕ) (gs : List ℕ) (p c : ℕ) (i : List ℕ) → behind (g ∷ gs) p (c ∷ i) ≡ behind gs (p * g + c) i
  unfolding behind product point_of
  behind_next g gs p c i =
      let e : p * (g * product gs) + (c * product gs + point_of gs i) ≡ (p * g + c) * product gs + point_of gs i = omega arith in
      rw e

  half : (g : ℕ) (gs xs : List ℕ) (p c : ℕ) → colour_of (λ i. behind (g ∷ gs) p (c ∷ i)) gs xs ≡ value_of gs xs (p * g + c)
  unfolding value_of
  half g gs xs p c = ap (λ (f : List ℕ → ℕ). colour_of f gs xs) (fun_ext (behind_next g gs p c))

  pub value_more : (g : ℕ) (gs : List ℕ) (x : ℕ) (xs : List ℕ) (p : ℕ) → value_of (g ∷ gs) (x ∷ xs) p
      ≡ between (value_of gs xs (p * g + cell_of g x)) (value_of gs xs (p * g + cell_of g x + 1)) (rest_of g x)
  unfolding value_of colour_of
  value_more g gs x xs p =
      let e : p * g + cell_of g x + 1 ≡ p * g + (cell_of g x + 1) = omega arith in
      rw (e, ← half g gs xs p (cell_of g x), ← half g gs xs p (cell_of g x + 1))
