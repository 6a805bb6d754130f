-- A tag that lies in its profile is read by its own bytes, and what is answered with a value lies there.
-- Assumes nothing.
use Prim.Native.Nat.{ℕ, ◌+◌, ◌≤◌}
use native.Mathlib.Omega.{arith}
use mathlib.Core.Path.{◌≡◌, refl}
use mathlib.Core.Bool.{Bool, true, false, cond}
use mathlib.Core.List.{List}
use lib.Dec.{ltb}
use lib.ListN.{length, drop, length-take, length-drop}
use borrow.Author.Tests.{le-ltb, ltb-false}
use Rattle.fields.specs.Place.{counted_size, counted_tag}
use Rattle.text_meaning.specs.Answer.{Answer, text, desc, mluc, absent, refused}
use Rattle.text_meaning.specs.Text.{by_type, string_of}

-- the answers that are values
abbrev pub Value : Answer → Type 0
Value (text s) = Unit
Value (desc s u) = Unit
Value (mluc n) = Unit
Value absent = ⊥
Value (refused n) = ⊥

module _ (p : List ℕ) (entry size words : ℕ) where
  pub in_profile : entry + counted_size size ≤ length p → 8 ≤ length (counted_tag p entry size) → string_of p entry size words ≡ by_type (counted_tag p entry size) words
  unfolding string_of
  in_profile l m =
      let long : 8 ≤ counted_size size = omega (arith, length-take (counted_size size) (drop entry p)) in
      let some : 4 ≤ counted_size size = omega arith in
      rw (le-ltb (counted_size size) 4 some, le-ltb (length p) (entry + counted_size size) l, le-ltb (counted_size size) 8 long)

  pub record Found : Type 0 where
    pub tag_in_profile : entry + counted_size size ≤ length p
    pub long : 8 ≤ length (counted_tag p entry size)
    pub as_tag : string_of p entry size words ≡ by_type (counted_tag p entry size) words

  pub found : Value (string_of p entry size words) → Found
  unfolding string_of
  found = by (ltb (counted_size size) 4) (ltb (length p) (entry + counted_size size)) refl (ltb (counted_size size) 8) refl
    where
      by : (a b : Bool) → ltb (length p) (entry + counted_size size) ≡ b → (c : Bool) → ltb (counted_size size) 8 ≡ c → Value (cond a absent (cond b (refused 1) (cond c absent (by_type (counted_tag p entry size) words)))) → Found
      by true b e c f v = absurd v
      by false true e c f v = absurd v
      by false false e true f v = absurd v
      by false false e false f v =
          let l : entry + counted_size size ≤ length p = ltb-false _ _ e in
          let m : 8 ≤ length (counted_tag p entry size) = omega (arith, l, ltb-false (counted_size size) 8 f, length-take (counted_size size) (drop entry p), length-drop entry p) in
          record { tag_in_profile = l; long = m; as_tag = in_profile l m }
