-- The pixels of a row, of 1 to 4 coordinates each, counted without a division by a number that is not known.
-- Assumes nothing.
use Prim.Native.Nat.{ℕ, ◌*◌, ◌/◌, ◌%◌, ◌^◌, ◌≤◌, ◌<◌}
use native.Mathlib.Omega.{arith}
use native.Mathlib.Nat.{div-add-mod'}
use mathlib.Core.Path.{◌≡◌, sym, ap, ◌∙◌}
use mir.Syntax.{w64}
use mir.Val.{Fits}
use borrow.Author.Tests.{le-ltb}
use Rattle.evaluate_parts.specs.Tests.{count_of}

-- ---- how many pixels

module _ (len n : ℕ) where
  counted : 1 ≤ n → n ≤ 4 → len / n ≡ count_of len n
  unfolding count_of
  counted l m = rw (le-ltb n 1 l, le-ltb 4 n m)

-- ---- whole pixels

module _ (len n : ℕ) (l : 1 ≤ n) (m : n ≤ 4) (count : ℕ) (c : count ≡ count_of len n) where
  pub count_is : count ≡ len / n
  count_is = c ∙ sym (counted len n l m)

  pub count_fits : len < 2 ^ 64 → Fits w64 (count * n)
  count_fits b = record { fits = omega (arith, div-add-mod' len n, ap (λ (k : ℕ). k * n) count_is) }

  pub none_left : count * n ≡ len → len % n ≡ 0
  none_left e = omega (arith, div-add-mod' len n, ap (λ (k : ℕ). k * n) count_is)

  pub some_left : (count * n ≡ len → ⊥) → len % n ≡ 0 → ⊥
  some_left z e = z (omega (arith, div-add-mod' len n, ap (λ (k : ℕ). k * n) count_is))
