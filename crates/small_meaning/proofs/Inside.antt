-- Demand 1 of the small readers: where the fields of a value lie. Those of `chad`, `sig `, `view`, `XYZ ` and `cicp` lie in the tag. Those of
-- `meas` and of the date need not, and `meas_outside` and `date_outside` show it: they lie in the profile.
-- Assumes nothing.
use Prim.Native.Nat.{ℕ, ◌+◌, ◌≤◌}
use native.Mathlib.Omega.{arith}
use mathlib.Core.Path.{◌≡◌, refl}
use mathlib.Core.List.{List, ◌∷◌, ◌++◌}
use lib.ListN.{length, drop, replicate, length-take}
use Rattle.fields.specs.Bytes.{bytes_at, words_at}
use Rattle.fields.specs.Tag.{signature_of}
use Rattle.small_meaning.specs.Answer.{Answer, value}
use Rattle.small_meaning.specs.Layout.{date_bytes, measurement}
use Rattle.small_meaning.specs.Order.{found_of, answer_to}
use Rattle.small_meaning.specs.Small.{chad_of, sig_of, date_of, window_of, meas_of, view_of, xyz_of, cicp_of}
use Rattle.small_meaning.proofs.Laid.{chad_behind, window_behind, triple_behind}
use Rattle.small_meaning.proofs.Order.{no_absence, no_default, no_refusal, Met, met}

-- the tag's bytes before `end`, in which all fields stand, are bytes of the tag, and of the profile
pub record InTag (p : List ℕ) (entry size end : ℕ) : Type 0 where
  pub in_tag : end ≤ size
  pub in_profile : entry + end ≤ length p

module _ (p : List ℕ) (entry size : ℕ) (ws : List ℕ) where
  -- fields that end with the least size of a tag that is found whole
  plain_inside : {least signature : ℕ} {this : Answer} → Met least size signature p entry size this ws → InTag p entry size least
  plain_inside m = record { in_tag = m.long; in_profile = omega (arith, m.long, m.fits) }

  pub chad_inside : chad_of p entry size ≡ value ws → InTag p entry size 44
  chad_inside v =
      let b = chad_behind p entry size ws v in
      let l : 44 ≤ size = omega (arith, b.1.filled, length-take size (drop entry p)) in
      record { in_tag = l; in_profile = omega (arith, b.0) }

  pub sig_inside : sig_of p entry size ≡ value ws → InTag p entry size 12
  sig_inside v = plain_inside (met _ _ _ p entry size _ _ _ ws (no_refusal 2) no_absence v)

  -- whether its declared end lies in the profile or not
  pub view_inside : view_of p entry size ≡ value ws → InTag p entry size 36
  view_inside v =
      let m = met _ _ _ p entry size _ _ _ ws no_absence no_absence v in
      record { in_tag = m.long; in_profile = m.fits }

  pub xyz_inside : xyz_of p entry size ≡ value ws → InTag p entry size 20
  xyz_inside v =
      let m = met _ _ _ p entry size _ _ _ ws no_default no_default v in
      let l : 20 ≤ size = omega (arith, (triple_behind _ ws m.says).0, length-take size (drop entry p)) in
      record { in_tag = l; in_profile = omega (arith, m.fits) }

  pub cicp_inside : cicp_of p entry size ≡ value ws → InTag p entry size 12
  cicp_inside v = plain_inside (met _ _ _ p entry size _ _ _ ws no_absence no_absence v)

  -- the 36 bytes from the tag's first on
  pub meas_inside : meas_of p entry size ≡ value ws → entry + 36 ≤ length p
  meas_inside v = (window_behind p entry ws (met _ _ _ p entry size _ _ _ ws no_absence no_absence v).says).0

  -- bytes 8 to 19 of the profile
  pub date_inside : date_of p entry size ≡ value ws → 20 ≤ length p
  date_inside v = let m = met _ _ _ p entry size _ _ _ ws no_absence no_absence v in omega (arith, m.long, m.fits)

-- ---- not in the tag

-- a tag of 12 bytes whose measurement goes on behind it
pub meas_outside : meas_of (0x6D ∷ 0x65 ∷ 0x61 ∷ 0x73 ∷ replicate 32 0) 0 12 ≡ value (replicate 7 0)
unfolding found_of answer_to window_of measurement words_at signature_of
meas_outside = refl

-- a date of zeros behind 20 other bytes, which are taken for it
pub date_outside : date_of (replicate 20 7 ++ (0x64 ∷ 0x74 ∷ 0x69 ∷ 0x6D ∷ replicate 16 0)) 20 20 ≡ value (replicate 12 7)
unfolding found_of answer_to date_bytes bytes_at signature_of
date_outside = refl
