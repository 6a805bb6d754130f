-- The pieces of a number's text make the whole.
-- Assumes nothing.
use Prim.Native.Nat.{ℕ, ◌+◌, ◌-◌, ◌^◌, ◌≤◌, ◌<◌}
use native.Mathlib.Omega.{arith}
use mathlib.Core.Path.{◌≡◌, sym, ap, ◌∙◌}
use mathlib.Core.List.{List, [], ◌∷◌}
use native.Mathlib.Numerals.{add-one}
use lib.ListN.{length, get_or, drop, drop_of_length-le}
use lib.Seq.{drop-cons}
use borrow.Author.Tests.{lt-ltb, le-ltb}
use Rattle.std.proofs.lemmas.List.{map-id}
use Rattle.io.specs.Digits.{last_digits, IsDigitCount}
use Rattle.fields.specs.Bytes.{signed}
use Rattle.lines.specs.Text.{Wrote, WroteNumbers, numbers, number, numeral, row_from}
use Rattle.lines.proofs.Writing.{joined, nothing, wrote_length}
use Rattle.lines.proofs.Digits.{is_decimal}

-- a byte, and the digits behind it
pub number_wrote : (n k : ℕ) {l m o ds : List ℕ} {at mid end before : ℕ} → Wrote l m at mid (before ∷ []) → n < 2 ^ 64 → IsDigitCount 10 1 n k → ds ≡ last_digits 10 k n → Wrote m o mid end ds → Wrote l o at end (number before n)
unfolding number
number_wrote n k {l} {m} {o} {ds} {at} {mid} {end} {before} w h f e v =
    rw (← is_decimal k n h f, ← e) (joined w v)

-- a word below half is its own number
pub below_half : (l o : List ℕ) (at end before w : ℕ) → w < 2 ^ 31 → Wrote l o at end (number before w) → Wrote l o at end (numeral before (signed w))
unfolding numeral
below_half l o at end before w h v = rw (lt-ltb w (2 ^ 31) h) v

-- any other is the number that it lacks to 2^32, below 0
pub from_half : (l m o : List ℕ) (at mid end before w : ℕ) → 2 ^ 31 ≤ w → w < 2 ^ 32 → Wrote l m at mid (before ∷ []) → Wrote m o mid end (number 45 (2 ^ 32 - w)) → Wrote l o at end (numeral before (signed w))
unfolding numeral
from_half l m o at mid end before w h g v u =
    let e : 2 ^ 32 - 1 - w + 1 ≡ 2 ^ 32 - w = omega arith in
    rw (le-ltb w (2 ^ 31) h, e) (joined v u)

-- numbers that convert to themselves are written as they are
pub wrote_numbers : {l m ns : List ℕ} {at end : ℕ} → WroteNumbers (λ (x y : ℕ). y ≡ x) 32 l m at end ns → Wrote l m at end (numbers ns)
unfolding numbers
wrote_numbers {l} {m} {ns} {at} {end} w = rw map-id at (w.by (λ x. x) (λ x y e. e))

-- ---- the loop that writes a row: what is left to write makes the whole

module _ (text : ℕ → ℕ → List ℕ) where
  pub record Printing (l : List ℕ) (at first : ℕ) (ws m : List ℕ) (end i : ℕ) : Type 0 where
    pub same : length m ≡ length l
    pub whole : {n : List ℕ} {r : ℕ} → Wrote m n end r (row_from text i (drop i ws)) → Wrote l n at r (row_from text first (drop first ws))

  pub row_turns : (l : List ℕ) (at first : ℕ) (ws m : List ℕ) (end i : ℕ) (n : List ℕ) (next : ℕ) → Printing l at first ws m end i → i < length ws → Wrote m n end next (text i (get_or ws i 0)) → Printing l at first ws n next (i + 1)
  unfolding row_from
  row_turns l at first ws m end i n next g h v =
      let d : drop i ws ≡ get_or ws i 0 ∷ drop (i + 1) ws = drop-cons ws i 0 h ∙ ap (λ (k : ℕ). get_or ws i 0 ∷ drop k ws) (sym (add-one i)) in
      record { same = wrote_length v ∙ g.same; whole = λ w. g.whole (rw d (joined v w)) }

  pub row_ends : (l : List ℕ) (at first : ℕ) (ws m : List ℕ) (end i : ℕ) → Printing l at first ws m end i → length ws ≤ i → Wrote l m at end (row_from text first (drop first ws))
  unfolding row_from
  row_ends l at first ws m end i g h = g.whole (rw (drop_of_length-le ws {i = i} h) (nothing m end))

  -- of a row from its first word on
  pub row_ends_all : (l : List ℕ) (at : ℕ) (ws m : List ℕ) (end i : ℕ) → Printing l at 0 ws m end i → length ws ≤ i → Wrote l m at end (row_from text 0 ws)
  row_ends_all l at ws m end i g h = row_ends l at 0 ws m end i g h
