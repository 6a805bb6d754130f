-- What `locate` tells its caller, and the list that a part of the profile is.
-- Assumes nothing.
use Prim.Native.Nat.{ℕ, ◌+◌, ◌-◌, ◌^◌, ◌≤◌, ◌<◌}
use native.Mathlib.Omega.{arith}
use native.Mathlib.Nat.{add-sub_cancel_left}
use mathlib.Core.Path.{◌≡◌, refl, sym, ◌∙◌}
use mathlib.Core.Bool.{Bool, true, false, cond}
use mathlib.Core.List.{List}
use lib.ListN.{length, take, drop, length-take, length-drop}
use lib.Seq.{take_all}
use lib.Dec.{leb}
use borrow.Author.Tests.{leb-true, leb-false, le-leb, lt-leb}
use Rattle.fields.proofs.Never.{never}
use Rattle.std.specs.Prelude.{Option, Some, None}
use Rattle.fields.specs.Place.{place_of, counted_size, counted_tag}
use Rattle.fields.specs.declared.Place.{Place}

-- from `entry` on, so many bytes
abbrev pub span : ℕ → ℕ → Place
span entry end = record { start = entry; end = entry + end }

pub place_in : (n entry end : ℕ) → entry + end ≤ n → Some (span entry end) ≡ place_of n entry end
unfolding place_of
place_in n entry end h = simp (le-leb (entry + end) n h)

pub place_past : (n entry end : ℕ) → n < entry + end → None ≡ place_of n entry end
unfolding place_of
place_past n entry end h = simp (lt-leb (entry + end) n h)

pub record Inside (n entry end : ℕ) (w : Place) : Type 0 where
  pub from_is : w.start ≡ entry
  pub to_is : w.end ≡ entry + end
  pub fits : entry + end ≤ n

in_by : (n entry end : ℕ) (w : Place) (t : Bool) → leb (entry + end) n ≡ t → cond t (Some (span entry end)) None ≡ Some w → Inside n entry end w
in_by n entry end w true h e = record { from_is = cc; to_is = cc; fits = leb-true _ _ h }
in_by n entry end w false h e = never cc

pub inside : (n entry end : ℕ) {w : Place} {r : Option Place} → r ≡ place_of n entry end → r ≡ Some w → Inside n entry end w
unfolding place_of
inside n entry end {w} h e = in_by n entry end w (leb (entry + end) n) refl (sym h ∙ e)

past_by : (n entry end : ℕ) (t : Bool) → leb (entry + end) n ≡ t → cond t (Some (span entry end)) None ≡ None → n < entry + end
past_by n entry end true h e = never cc
past_by n entry end false h e = leb-false _ _ h

pub past : (n entry end : ℕ) {r : Option Place} → r ≡ place_of n entry end → r ≡ None → n < entry + end
unfolding place_of
past n entry end h e = past_by n entry end (leb (entry + end) n) refl (sym h ∙ e)

pub rest_is : (p : List ℕ) (a : ℕ) → take (length p - a) (drop a p) ≡ drop a p
rest_is p a = take_all (length p - a) (drop a p) (simp length-drop (omega arith))

pub part_is : (p : List ℕ) (a size : ℕ) → take ((a + size) - a) (drop a p) ≡ take size (drop a p)
part_is p a size = rw (add-sub_cancel_left a size)

-- the bounds that a part of the profile asks, from what `locate` ensured and the arm that was taken
module _ (n entry end : ℕ) {w : Place} {r : Option Place} (h : r ≡ place_of n entry end) (e : r ≡ Some w) where
  pub starts : w.start ≤ w.end
  starts = let i = inside n entry end h e in omega arith

  pub begins : w.start ≤ n
  begins = let i = inside n entry end h e in omega arith

  pub ends : w.end ≤ n
  ends = let i = inside n entry end h e in omega arith

  -- a part of the profile has the bytes that were asked for, so bounds on their number are bounds on its length
  part_length : (p : List ℕ) → length p ≡ n → length (take (w.end - w.start) (drop w.start p)) ≡ end
  part_length p l = let i = inside n entry end h e in omega (arith, length-take (w.end - w.start) (drop w.start p), length-drop w.start p)

  pub part_in_32_bits : (p : List ℕ) → length p ≡ n → end < 2 ^ 32 → length (take (w.end - w.start) (drop w.start p)) < 2 ^ 32
  part_in_32_bits p l k = omega (arith, part_length p l)

  pub part_least : (p : List ℕ) → length p ≡ n → (k : ℕ) → k ≤ end → k ≤ length (take (w.end - w.start) (drop w.start p))
  part_least p l k m = omega (arith, part_length p l)

  pub part_below : (p : List ℕ) → length p ≡ n → (k : ℕ) → end < k → length (take (w.end - w.start) (drop w.start p)) < k
  part_below p l k m = omega (arith, part_length p l)

  -- the part of a profile where a tag of that size was found is the tag
  pub counted_part : (p : List ℕ) (size : ℕ) → end ≡ counted_size size → take (w.end - w.start) (drop w.start p) ≡ counted_tag p entry size
  counted_part p size c = let i = inside n entry end h e in rw (i.from_is, i.to_is, part_is p entry end, c)
