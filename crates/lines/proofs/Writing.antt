-- Text that is written piece by piece is written whole; and the loop that writes a piece.
-- Assumes nothing.
use Prim.Native.Nat.{ℕ, ◌+◌, ◌-◌, ◌≤◌, ◌<◌, min}
use native.Mathlib.Nat.{min-eq_left, min-eq_right, min-le_left}
use native.Mathlib.Omega.{arith}
use mathlib.Core.Path.{◌≡◌, refl, sym, ap, ◌∙◌}
use mathlib.Core.List.{List, [], ◌++◌}
use mathlib.Core.Bool.{Bool, true, false}
use mathlib.Core.Logic.{◌⊎◌, inl, inr}
use lib.Dec.{leb}
use lib.ListN.{length, length-append}
use lib.Seq.{sets, length-sets}
use borrow.Author.Tests.{leb-true, leb-false}
use Rattle.fields.proofs.Putting.{Putting, full as stores-full, done as stores-done}
use Rattle.fields.proofs.Stores.{sets_append, sets_past}
use Rattle.lines.specs.Text.{Wrote}

-- ---- one piece behind the other

-- a buffer keeps its length
pub wrote_length : {l m x : List ℕ} {at end : ℕ} → Wrote l m at end x → length m ≡ length l
wrote_length {l} {m} {x} {at} {end} w = ap length w.written ∙ length-sets l at x

least : (a b : ℕ) → ((a ≤ b) × (min a b ≡ a)) ⊎ ((b < a) × (min a b ≡ b))
least a b = by (leb a b) refl
  where
    by : (t : Bool) → leb a b ≡ t → ((a ≤ b) × (min a b ≡ a)) ⊎ ((b < a) × (min a b ≡ b))
    by true e = let h = leb-true a b e in inl (h, min-eq_left h)
    by false e = let h = leb-false a b e in inr (h, min-eq_right (omega arith))

module _ (l m : List ℕ) (at mid : ℕ) (x y : List ℕ) (w : Wrote l m at mid x) where
  written_then : sets l at (x ++ y) ≡ sets m mid y
  written_then =
      elim (least (length x) (length l - at)) [
        | inl (h, e) ↦ (let q : mid ≡ at + length x = w.ends ∙ ap (λ (k : ℕ). at + k) e in rw (sets_append x y l at, ← w.written, q))
        | inr (h, e) ↦ (
            let q : mid ≡ at + (length l - at) = w.ends ∙ ap (λ (k : ℕ). at + k) e in
            let s : length m ≡ length l = wrote_length w in
            sets_append x y l at ∙ rw (← w.written) (sets_past y m (at + length x) (omega arith) ∙ sym (sets_past y m mid (omega arith))))
      ]

  ends_then : mid + min (length y) (length m - mid) ≡ at + min (length (x ++ y)) (length l - at)
  ends_then =
      let s : length m ≡ length l = wrote_length w in
      let a = length-append x y in
      elim (least (length x) (length l - at)) [
        | inl (h, e) ↦ elim (least (length y) (length m - mid)) [
          | inl (g, f) ↦ elim (least (length (x ++ y)) (length l - at)) [ inl (i, j) ↦ omega (arith, w.ends, e, f, j, a, s) | inr (i, j) ↦ omega (arith, w.ends, e, f, j, a, s) ]
          | inr (g, f) ↦ elim (least (length (x ++ y)) (length l - at)) [ inl (i, j) ↦ omega (arith, w.ends, e, f, j, a, s) | inr (i, j) ↦ omega (arith, w.ends, e, f, j, a, s) ]
        ]
        | inr (h, e) ↦ elim (least (length y) (length m - mid)) [
          | inl (g, f) ↦ elim (least (length (x ++ y)) (length l - at)) [ inl (i, j) ↦ omega (arith, w.ends, e, f, j, a, s) | inr (i, j) ↦ omega (arith, w.ends, e, f, j, a, s) ]
          | inr (g, f) ↦ elim (least (length (x ++ y)) (length l - at)) [ inl (i, j) ↦ omega (arith, w.ends, e, f, j, a, s) | inr (i, j) ↦ omega (arith, w.ends, e, f, j, a, s) ]
        ]
      ]

-- what is written from the end of a piece on stands behind it
pub joined : {l m n x y : List ℕ} {at mid end : ℕ} → Wrote l m at mid x → Wrote m n mid end y → Wrote l n at end (x ++ y)
joined {l} {m} {n} {x} {y} {at} {mid} {end} w v =
    record { written = v.written ∙ sym (written_then l m at mid x y w); ends = v.ends ∙ ends_then l m at mid x y w }

-- nothing is written at once
pub nothing : (l : List ℕ) (at : ℕ) → Wrote l l at at []
nothing l at = record { written = refl; ends = omega (arith, min-le_left 0 (length l - at)) }

-- ---- the loop of stores

-- i of the bytes are written, as far as there is room
pub record Writing (l : List ℕ) (at : ℕ) (bytes l' : List ℕ) (end i : ℕ) : Type 0 where
  pub within : i ≤ length bytes
  pub next : end ≡ at + i
  pub room : i ≤ length l - at
  pub stored : Putting l at bytes l' end i

module _ (l : List ℕ) (at : ℕ) (bytes : List ℕ) where
  module _ (l' : List ℕ) (end i : ℕ) (w : Writing l at bytes l' end i) where
    -- where no room is left, or nothing to write, the end is that of the text
    the_end : (length bytes ≤ i) ⊎ (length l' ≤ end) → end ≡ at + min (length bytes) (length l - at)
    the_end s =
        elim s [
          | inl k ↦ elim (least (length bytes) (length l - at)) [ inl (g, e) ↦ omega (arith, w.next, w.room, w.within, e) | inr (g, e) ↦ omega (arith, w.next, w.room, w.within, e) ]
          | inr k ↦ elim (least (length bytes) (length l - at)) [ inl (g, e) ↦ omega (arith, w.next, w.room, w.stored.same, w.within, e) | inr (g, e) ↦ omega (arith, w.next, w.room, w.stored.same, w.within, e) ]
        ]

    pub full : length l' ≤ end → Wrote l l' at end bytes
    full h = record { written = stores-full l at bytes l' end i w.stored h; ends = the_end (inr h) }

    pub done : length bytes ≤ i → Wrote l l' at end bytes
    done h = record { written = stores-done l at bytes l' end i w.stored h; ends = the_end (inl h) }
