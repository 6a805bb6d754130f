-- The blend of two neighbours: it lies between them, equal neighbours stay, rest 0 is the lower one, it rises with either neighbour and with
-- the rest, and it can be rounded without a division by 65535.
-- Assumes nothing.
use Prim.Native.Nat.{ℕ, zero, suc, ◌+◌, ◌-◌, ◌*◌, ◌/◌, ◌≤◌, ◌<◌}
use native.Mathlib.Omega.{arith}
use native.Mathlib.Nat.{mul-le-mul_left, mul-le-mul_right, mul-add}
use mathlib.Core.Path.{◌≡◌, sym, ◌∙◌}
use borrow.Author.Tests.{ne_eqb}
use Rattle.evaluate_meaning.specs.Colour.{blend, between}

-- the two shares of a value make 65535 times it
pub shares : (v r : ℕ) → r ≤ 65535 → v * (65535 - r) + v * r ≡ v * 65535
shares v r l = sym (mul-add v (65535 - r) r) ∙ (let whole : 65535 - r + r ≡ 65535 = omega arith in rw whole)

module _ (low high r : ℕ) (l : r ≤ 65535) where
  pub blend_least : (v : ℕ) → v ≤ low → v ≤ high → v ≤ blend low high r
  unfolding blend
  blend_least v a b = omega (arith, shares v r l, mul-le-mul_right (65535 - r) a, mul-le-mul_right r b)

  pub blend_greatest : (v : ℕ) → low ≤ v → high ≤ v → blend low high r ≤ v
  unfolding blend
  blend_greatest v a b = omega (arith, shares v r l, mul-le-mul_right (65535 - r) a, mul-le-mul_right r b)

-- equal neighbours give their value
pub blend_same : (v r : ℕ) → r ≤ 65535 → blend v v r ≡ v
unfolding blend
blend_same v r l = omega (arith, shares v r l)

-- rest 0 gives the lower neighbour, whatever the upper one is
pub blend_none : (low high : ℕ) → blend low high 0 ≡ low
unfolding blend
blend_none low high = omega arith

-- so the blend alone is right at each rest
pub between_blend : (low high r : ℕ) → between low high r ≡ blend low high r
unfolding between
between_blend low high zero = sym (blend_none low high)
between_blend low high (suc r) = rw (ne_eqb (suc r) 0 (λ e. omega arith))

-- ---- greater neighbours, and a greater rest

pub blend_monotone : (low high low' high' r : ℕ) → low ≤ low' → high ≤ high' → blend low high r ≤ blend low' high' r
unfolding blend
blend_monotone low high low' high' r a b = omega (arith, mul-le-mul_right (65535 - r) a, mul-le-mul_right r b)

pub blend_rises : (low high r r' : ℕ) → low ≤ high → r ≤ r' → r' ≤ 65535 → blend low high r ≤ blend low high r'
unfolding blend
blend_rises low high r r' a b l =
    let short : r ≤ 65535 = omega arith in
    let up : ℕ = high - low in
    let is : high ≡ low + up = omega arith in
    rw is (omega (arith, shares low r short, shares low r' l, mul-le-mul_left up b))

-- ---- 16 bits stay 16 bits, and 65536 will do for the division

module _ (low high r : ℕ) (a : low < 65536) (b : high < 65536) (l : r ≤ 65535) where
  pub sum_small : low * (65535 - r) + high * r ≤ 65535 * 65535
  sum_small =
      let a' : low ≤ 65535 = omega arith in
      let b' : high ≤ 65535 = omega arith in
      omega (arith, shares 65535 r l, mul-le-mul_right (65535 - r) a', mul-le-mul_right r b')

  pub blend_small : blend low high r < 65536
  unfolding blend
  blend_small = omega (arith, sum_small)

pub nearest : (v : ℕ) → v ≤ 65535 * 65535 → (v + 32768 + (v + 32768) / 65536) / 65536 ≡ (v + 32767) / 65535
nearest v l = omega arith
