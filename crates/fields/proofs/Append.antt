-- Bytes behind a list change nothing that lies in it: no number, no row of numbers or bytes, no part, and no test whether it reaches so far.
-- So what lies in the front part of a list is told by that part.
-- Assumes nothing.
use Prim.Native.Nat.{ℕ, zero, suc, ◌+◌, ◌*◌, ◌≤◌}
use native.Mathlib.Omega.{arith}
use mathlib.Core.Path.{◌≡◌, refl, sym, ap, ◌∙◌}
use mathlib.Core.Bool.{false}
use mathlib.Core.List.{List, ◌++◌}
use lib.Dec.{ltb}
use lib.ListN.{length, take, drop, get_or-append, length-append, length-drop, length-take, take-append-drop}
use lib.Seq.{take-append-le, drop-append-le}
use borrow.Author.Tests.{ltb-false, le-ltb}
use Rattle.fields.specs.Bytes.{u16_at, u32_at, bytes_at, words_at}

module _ (t q : List ℕ) where
  pub u16_append : (i : ℕ) → i + 2 ≤ length t → u16_at (t ++ q) i ≡ u16_at t i
  u16_append i h = rw (get_or-append t q 0 i (omega arith), get_or-append t q 0 (i + 1) (omega arith))

  pub u32_append : (i : ℕ) → i + 4 ≤ length t → u32_at (t ++ q) i ≡ u32_at t i
  u32_append i h =
      rw (get_or-append t q 0 i (omega arith), get_or-append t q 0 (i + 1) (omega arith), get_or-append t q 0 (i + 2) (omega arith), get_or-append t q 0 (i + 3) (omega arith))

  pub words_append : (i n : ℕ) → i + 4 * n ≤ length t → words_at (t ++ q) i n ≡ words_at t i n
  unfolding words_at
  words_append i zero h = refl
  words_append i (suc n) h = rw (u32_append i (omega arith), words_append (i + 4) n (omega arith))

  pub bytes_append : (i n : ℕ) → i + n ≤ length t → bytes_at (t ++ q) i n ≡ bytes_at t i n
  unfolding bytes_at
  bytes_append i zero h = refl
  bytes_append i (suc n) h = rw (get_or-append t q 0 i (omega arith), bytes_append (i + 1) n (omega arith))

  -- what is not past the list is not past the longer one
  pub longer : (k : ℕ) → ltb (length t) k ≡ false → ltb (length (t ++ q)) k ≡ false
  longer k h = le-ltb (length (t ++ q)) k (simp length-append (omega (arith, ltb-false (length t) k h)))

  -- a part of the list
  pub part_append : (at size : ℕ) → at + size ≤ length t → take size (drop at (t ++ q)) ≡ take size (drop at t)
  part_append at size h =
      rw (drop-append-le at t q (omega arith), take-append-le size (drop at t) q (simp length-drop (omega arith)))

  -- the rest of the list
  pub rest_append : (at : ℕ) → at ≤ length t → drop at (t ++ q) ≡ drop at t ++ q
  rest_append at h = drop-append-le at t q h

-- what the first n bytes of a list tell, whatever stands behind them
pub front : {A : Type 0} (tells : List ℕ → A) (s : List ℕ) (n : ℕ) → ((t q : List ℕ) → n ≤ length t → tells (t ++ q) ≡ tells t) → n ≤ length s → tells (take n s) ≡ tells s
front tells s n h l = sym (h (take n s) (drop n s) (omega (arith, length-take n s))) ∙ ap tells (take-append-drop n s)
