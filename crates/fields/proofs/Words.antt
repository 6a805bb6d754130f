-- A number and a kind by their bytes; a row of bytes or of 32-bit numbers: how many it has, and which stands where.
-- Assumes nothing.
use Prim.Native.Nat.{ℕ, zero, suc, ◌+◌, ◌*◌, ◌≤◌, ◌<◌}
use native.Mathlib.Omega.{arith}
use mathlib.Core.Path.{◌≡◌, refl, sym, ◌∙◌, ap}
use mathlib.Core.List.{List}
use lib.ListN.{length, get_or, take, drop, length-drop, get_or-eq_default}
use lib.Seq.{ext_get_or, get_or-take, get_or-drop, length-take-le}
use Rattle.std.specs.Int.{w16, w32, from_be_bytes}
use Rattle.fields.specs.Bytes.{u16_at, u32_at, bytes_at, words_at}

-- big-endian numbers as std has them
pub half_be : (bytes : List ℕ) → from_be_bytes w16 bytes ≡ u16_at bytes 0
half_be bytes = omega arith

pub word_be : (bytes : List ℕ) → from_be_bytes w32 bytes ≡ u32_at bytes 0
word_be bytes = omega arith

module _ (s : List ℕ) where
  pub words_length : (i n : ℕ) → length (words_at s i n) ≡ n
  unfolding words_at
  words_length i zero = refl
  words_length i (suc n) = ap suc (words_length (i + 4) n)

  pub word_at : (i n k : ℕ) → k < n → get_or (words_at s i n) k 0 ≡ u32_at s (i + 4 * k)
  unfolding words_at
  word_at i zero k h = absurd (omega arith)
  word_at i (suc n) zero h = let e : i ≡ i + 4 * 0 = omega arith in ap (u32_at s) e
  word_at i (suc n) (suc k) h =
      let e : (i + 4) + 4 * k ≡ i + 4 * suc k = omega arith in
      word_at (i + 4) n k (omega arith) ∙ ap (u32_at s) e

  pub word_past : (i n k : ℕ) → n ≤ k → get_or (words_at s i n) k 0 ≡ 0
  word_past i n k h = get_or-eq_default (words_at s i n) 0 (omega (arith, words_length i n))

  pub bytes_length : (i n : ℕ) → length (bytes_at s i n) ≡ n
  unfolding bytes_at
  bytes_length i zero = refl
  bytes_length i (suc n) = ap suc (bytes_length (i + 1) n)

  pub byte_at : (i n k : ℕ) → k < n → get_or (bytes_at s i n) k 0 ≡ get_or s (i + k) 0
  unfolding bytes_at
  byte_at i zero k h = absurd (omega arith)
  byte_at i (suc n) zero h = let e : i ≡ i + 0 = omega arith in ap (λ (j : ℕ). get_or s j 0) e
  byte_at i (suc n) (suc k) h =
      let e : (i + 1) + k ≡ i + suc k = omega arith in
      byte_at (i + 1) n k (omega arith) ∙ ap (λ (j : ℕ). get_or s j 0) e

  -- a row that lies in s is a part of it
  pub bytes_part : (i n : ℕ) → i + n ≤ length s → bytes_at s i n ≡ take n (drop i s)
  bytes_part i n h =
      let part : length (take n (drop i s)) ≡ n = length-take-le n (drop i s) (omega (arith, length-drop i s)) in
      ext_get_or 0 _ _ (bytes_length i n ∙ sym part)
      (λ k l. let m : k < n = omega (arith, bytes_length i n) in byte_at i n k m ∙ sym (get_or-take n (drop i s) k 0 m ∙ get_or-drop i s k 0))
