-- The points of a grid by number: a valid index names one below the points, the last is one less than the points, and so an entry's
-- bytes lie in the table's data. Nothing here asks where a table comes from.
-- Assumes nothing.
use Prim.Native.Nat.{ℕ, zero, suc, ◌+◌, ◌*◌, ◌^◌, ◌≤◌, ◌<◌}
use native.Mathlib.Omega.{arith}
use native.Mathlib.Nat.{mul-le-mul_right, pow-zero, pow-succ'}
use mathlib.Core.Path.{◌≡◌, refl, sym}
use mathlib.Core.Bool.{Bool, true, false, ◌&&◌, false≢true}
use mathlib.Core.List.{List, [], ◌∷◌}
use lib.Dec.{ltb}
use lib.ListN.{replicate}
use borrow.Author.Tests.{ltb-true}
use Rattle.lut_clut_meaning.specs.Table.{Table, product, points_of, entries_of, length_of, in_grid, point_of, last_of, entry_number}

-- no factor of a product that is not 0 is 0
pub factors : (p q : ℕ) → 1 ≤ p * q → (1 ≤ p) × (1 ≤ q)
factors zero q h = absurd (omega arith)
factors (suc p) zero h = absurd (omega arith)
factors (suc p) (suc q) h = (omega arith, omega arith)

-- as many points in each dimension
pub power_is : (n g : ℕ) → product (replicate n g) ≡ g ^ n
unfolding product
power_is zero g = sym (pow-zero g)
power_is (suc n) g = rw (power_is n g) (sym (pow-succ' g n))

-- ---- a valid index

-- x of g, and y of n: the number x * n + y is below g * n
pub below : (x g n y : ℕ) → x < g → y < n → x * n + y < g * n
below x g n y l m = omega (arith, mul-le-mul_right n l)

pub point_below : (gs xs : List ℕ) → in_grid gs xs ≡ true → point_of gs xs < product gs
unfolding in_grid product point_of
point_below [] [] v = omega arith
point_below [] (x ∷ xs) v = absurd (false≢true v)
point_below (g ∷ gs) [] v = absurd (false≢true v)
point_below (g ∷ gs) (x ∷ xs) v = by (point_below gs xs) (ltb x g) refl v
  where
    by : (in_grid gs xs ≡ true → point_of gs xs < product gs) → (b : Bool) → ltb x g ≡ b → b && in_grid gs xs ≡ true → x * product gs + point_of gs xs < g * product gs
    by rest true e w = below x g (product gs) (point_of gs xs) (ltb-true x g e) (rest w)
    by rest false e w = absurd (false≢true w)

module _ (table : Table) (index : List ℕ) (channel : ℕ) (valid : in_grid table.grid index ≡ true) (low : channel < table.outputs) where
  pub number_below : entry_number table index channel < entries_of table
  number_below = below (point_of table.grid index) (points_of table) table.outputs channel (point_below table.grid index valid) low

  -- the entry's bytes lie in the data
  pub entry_below : entry_number table index channel * table.size + table.size ≤ length_of table
  entry_below = omega (arith, mul-le-mul_right table.size number_below)

-- ---- the last point

pub last_is : (gs : List ℕ) → 1 ≤ product gs → last_of gs + 1 ≡ product gs
unfolding point_of product
last_is [] h = refl
last_is (zero ∷ gs) h = absurd (omega arith)
last_is (suc k ∷ gs) h = let w : last_of gs + 1 ≡ product gs = last_is gs (factors (suc k) (product gs) h).1 in omega arith
