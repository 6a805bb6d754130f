-- The fewest digits that hold a number are its decimal text.
-- Assumes nothing.
use Prim.Native.Nat.{ℕ, zero, suc, ◌+◌, ◌-◌, ◌*◌, ◌/◌, ◌%◌, ◌^◌, ◌≤◌, ◌<◌}
use native.Mathlib.Nat.{pow-suc, one-le-pow, pow-le-pow_right, mod-lt, div-lt_iff_lt-mul, le-div_iff_mul-le}
use native.Mathlib.Omega.{arith}
use mathlib.Core.Path.{◌≡◌, refl, ap, ◌∙◌}
use mathlib.Core.List.{List, [], ◌∷◌, ◌++◌}
use mathlib.Core.Bool.{Bool, true, false}
use lib.Dec.{leb}
use borrow.Author.Tests.{lt-ltb, le-ltb, leb-true, leb-false}
use Rattle.io.specs.Digits.{hex_digit_ascii, last_digits, IsDigitCount}
use Rattle.lines.specs.Text.{digits_of, decimal}

last : (n : ℕ) → hex_digit_ascii (n % 10) ≡ 48 + n % 10
last n = rw (lt-ltb (n % 10) 10 (mod-lt n (omega arith)))

-- without its last digit a number has one digit fewer
fewer : (n k : ℕ) → IsDigitCount 10 1 n (suc (suc k)) → IsDigitCount 10 1 (n / 10) (suc k)
fewer n k f =
    let whole : suc (suc k) - 1 ≡ suc k = omega arith in
    let part : suc k - 1 ≡ k = omega arith in (
      omega arith,
      (div-lt_iff_lt-mul {k = 10} {x = n} {y = 10 ^ suc k} (omega arith)).1 (rw pow-suc at f.1),
      λ h. rw part ((le-div_iff_mul-le {k = 10} {x = 10 ^ k} {y = n} (omega arith)).1 (rw (whole, pow-suc) at (f.2 (omega arith)))),
    )

-- a number of two digits or more is 10 or more
two_digits : (n k : ℕ) → IsDigitCount 10 1 n (suc (suc k)) → 10 ≤ n
two_digits n k f =
    let whole : suc (suc k) - 1 ≡ suc k = omega arith in
    let h : 10 ^ k * 10 ≤ n = rw (whole, pow-suc) at (f.2 (omega arith)) in
    omega (arith, one-le-pow k 10 (omega arith))

spelt : (k most n : ℕ) → k ≤ most → IsDigitCount 10 1 n k → last_digits 10 k n ≡ digits_of most n
unfolding digits_of
spelt zero most n l f = absurd (omega (arith, f.0))
spelt (suc k) zero n l f = absurd (omega arith)
spelt (suc zero) (suc most) n l f =
    let h : n < 10 = f.1 in
    let e : n % 10 ≡ n = omega arith in
    rw (lt-ltb n 10 h, e, lt-ltb n 10 h)
spelt (suc (suc k)) (suc most) n l f =
    rw (le-ltb n 10 (two_digits n k f))
    (ap (λ (x : List ℕ). x ++ (hex_digit_ascii (n % 10) ∷ [])) (spelt (suc k) most (n / 10) (omega arith) (fewer n k f))
    ∙ ap (λ (d : ℕ). digits_of most (n / 10) ++ (d ∷ [])) (last n))

-- a 64-bit number has at most twenty digits
at_most_twenty : (k n : ℕ) → n < 2 ^ 64 → IsDigitCount 10 1 n k → k ≤ 20
at_most_twenty k n h f = by (leb k 20) refl
  where
    by : (t : Bool) → leb k 20 ≡ t → k ≤ 20
    by true e = leb-true k 20 e
    by false e =
        let l : 20 < k = leb-false k 20 e in
        let g : 10 ^ (k - 1) ≤ n = f.2 (omega arith) in
        let p : 10 ^ 20 ≤ 10 ^ (k - 1) = pow-le-pow_right {n = 10} (omega arith) {i = 20} {j = k - 1} (omega arith) in
        absurd (omega arith)

pub is_decimal : (k n : ℕ) → n < 2 ^ 64 → IsDigitCount 10 1 n k → last_digits 10 k n ≡ decimal n
unfolding decimal
is_decimal k n h f = spelt k 20 n (at_most_twenty k n h f) f
