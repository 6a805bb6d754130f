-- The zone of a value is the bytes that its fields stand in. Nothing else of the profile matters: one that has the same bytes there, and
-- is no shorter, is answered with the same value.
-- Assumes nothing.
use Prim.Native.Nat.{ℕ, ◌+◌, ◌≤◌}
use native.Mathlib.Omega.{arith}
use mathlib.Core.Path.{◌≡◌, sym, ap, ◌∙◌}
use mathlib.Core.List.{List, ◌++◌}
use lib.ListN.{length, take, drop, length-append, length-drop, length-take}
use lib.Seq.{take-take}
use borrow.Author.Tests.{le-ltb}
use Rattle.fields.specs.Bytes.{u32_at}
use Rattle.fields.specs.Place.{tag_at}
use Rattle.fields.proofs.Append.{u32_append, words_append, bytes_append, front}
use Rattle.small_meaning.specs.Answer.{Answer, value}
use Rattle.small_meaning.specs.Layout.{nine_numbers, signature_in, date_bytes, measurement, conditions, first_xyz, code_points}
use Rattle.small_meaning.specs.Order.{found_of, answer_to}
use Rattle.small_meaning.specs.Small.{chad_of, sig_of, date_of, window_of, meas_of, view_of, triple_of, xyz_of, cicp_of}
use Rattle.small_meaning.proofs.Laid.{chad_behind, window_behind, triple_behind}
use Rattle.small_meaning.proofs.Order.{Silent, no_absence, no_default, no_refusal, met, reaches}

-- what the first `end` bytes tell, whatever stands behind them
abbrev pub FirstBytesTell : {A : Type 0} → ℕ → (List ℕ → A) → Type 0
FirstBytesTell end tells = (t q : List ℕ) → end ≤ length t → tells (t ++ q) ≡ tells t

-- so the fields of t are those of its first bytes, by `front`
pub nine_told : FirstBytesTell 44 nine_numbers
unfolding nine_numbers
nine_told t q h = words_append t q _ _ (omega arith)

pub signature_told_lem : FirstBytesTell 12 signature_in
unfolding signature_in
signature_told_lem t q h = rw (u32_append t q 8 h)

pub date_told : FirstBytesTell 20 date_bytes
unfolding date_bytes
date_told t q h = bytes_append t q _ _ (omega arith)

pub measurement_told_lem : FirstBytesTell 36 measurement
unfolding measurement
measurement_told_lem t q h = words_append t q _ _ (omega arith)

pub conditions_told : FirstBytesTell 36 conditions
unfolding conditions
conditions_told t q h = words_append t q _ _ (omega arith)

pub xyz_told_lem : FirstBytesTell 20 first_xyz
unfolding first_xyz
xyz_told_lem t q h = words_append t q _ _ (omega arith)

pub codes_told : FirstBytesTell 12 code_points
unfolding code_points
codes_told t q h = bytes_append t q _ _ (omega arith)

type_told : FirstBytesTell 4 (λ t. u32_at t 0)
type_told t q h = u32_append t q 0 h

triple_told : FirstBytesTell 20 triple_of
unfolding triple_of
triple_told t q h =
    let m : 20 ≤ length (t ++ q) = simp length-append (omega arith) in
    rw (le-ltb (length t) 20 h, le-ltb (length (t ++ q)) 20 m, xyz_told_lem t q h)

module _ (p q : List ℕ) (entry size : ℕ) (no-shorter : length p ≤ length q) where
  -- what is told by bytes that both profiles have is the same
  kept : {A : Type 0} (tells : List ℕ → A) (end n : ℕ) → FirstBytesTell end tells → end ≤ n → entry + n ≤ length p → tag_at q entry end ≡ tag_at p entry end → tells (tag_at q entry n) ≡ tells (tag_at p entry n)
  kept tells end n h l fits e =
      let long : end ≤ length (tag_at p entry n) = omega (arith, length-take n (drop entry p), length-drop entry p) in
      let long' : end ≤ length (tag_at q entry n) = omega (arith, length-take n (drop entry q), length-drop entry q) in
      sym (front tells (tag_at q entry n) end h long')
      ∙ ap tells (take-take end n (drop entry q) l ∙ e ∙ sym (take-take end n (drop entry p) l))
      ∙ front tells (tag_at p entry n) end h long

  -- fewer of them are the same too
  fewer : (m n : ℕ) → m ≤ n → tag_at q entry n ≡ tag_at p entry n → tag_at q entry m ≡ tag_at p entry m
  fewer m n l e = sym (take-take m n (drop entry q) l) ∙ ap (take m) e ∙ take-take m n (drop entry p) l

  -- a tag that is found in one profile is found in the other, and says the same
  module _ (least n signature : ℕ) (short other : Answer) (ws : List ℕ) (s : Silent short) (o : Silent other) (four : tag_at q entry 4 ≡ tag_at p entry 4) (some : least ≤ size → 4 ≤ n) where
    found : (this this' : Answer) → (least ≤ size → entry + n ≤ length p → this ≡ value ws → this' ≡ value ws) → answer_to (found_of least n signature p entry size) short other this ≡ value ws → answer_to (found_of least n signature q entry size) short other this' ≡ value ws
    found this this' g v =
        let m = met least n signature p entry size short other this ws s o v in
        reaches least n signature q entry size short other this' m.long (omega (arith, m.fits)) (kept (λ t. u32_at t 0) 4 n type_told (some m.long) m.fits four ∙ m.typed)
        ∙ g m.long m.fits m.says

  pub chad_alone : (ws : List ℕ) → tag_at q entry 44 ≡ tag_at p entry 44 → chad_of p entry size ≡ value ws → chad_of q entry size ≡ value ws
  unfolding chad_of
  chad_alone ws e v =
      let b = chad_behind p entry size ws v in
      let n : size ≡ 44 = omega (arith, b.0, b.1.filled, length-take size (drop entry p), length-drop entry p) in
      let fits : entry + 44 ≤ length p = omega (arith, b.0) in
      let same : chad_of q entry 44 ≡ chad_of p entry 44 = rw (e, le-ltb (length p) (entry + 44) fits, le-ltb (length p) (entry + 8) (omega arith), le-ltb (length q) (entry + 44) (omega arith), le-ltb (length q) (entry + 8) (omega arith)) in
      rw n (same ∙ rw n at v)

  pub sig_alone : (ws : List ℕ) → tag_at q entry 12 ≡ tag_at p entry 12 → sig_of p entry size ≡ value ws → sig_of q entry size ≡ value ws
  sig_alone ws e =
      found 12 size _ _ _ ws (no_refusal 2) no_absence (fewer 4 12 (omega arith) e) (λ l. omega arith) _ _
      (λ l fits v. ap value (kept signature_in 12 size signature_told_lem l fits e) ∙ v)

  pub cicp_alone : (ws : List ℕ) → tag_at q entry 12 ≡ tag_at p entry 12 → cicp_of p entry size ≡ value ws → cicp_of q entry size ≡ value ws
  cicp_alone ws e =
      found 12 size _ _ _ ws no_absence no_absence (fewer 4 12 (omega arith) e) (λ l. omega arith) _ _
      (λ l fits v. ap value (kept code_points 12 size codes_told l fits e) ∙ v)

  pub xyz_alone : (ws : List ℕ) → tag_at q entry 20 ≡ tag_at p entry 20 → xyz_of p entry size ≡ value ws → xyz_of q entry size ≡ value ws
  xyz_alone ws e =
      found 12 size _ _ _ ws no_default no_default (fewer 4 20 (omega arith) e) (λ l. omega arith) _ _
      (λ l fits v. let long : 20 ≤ size = omega (arith, (triple_behind (tag_at p entry size) ws v).0, length-take size (drop entry p)) in
      kept triple_of 20 size triple_told long fits e ∙ v)

  pub view_alone : (ws : List ℕ) → tag_at q entry 36 ≡ tag_at p entry 36 → view_of p entry size ≡ value ws → view_of q entry size ≡ value ws
  view_alone ws e =
      found 36 36 _ _ _ ws no_absence no_absence (fewer 4 36 (omega arith) e) (λ l. omega arith) _ _
      (λ l fits v. ap (λ t. value (conditions t)) e ∙ v)

  pub meas_alone : (ws : List ℕ) → tag_at q entry 36 ≡ tag_at p entry 36 → meas_of p entry size ≡ value ws → meas_of q entry size ≡ value ws
  unfolding window_of
  meas_alone ws e =
      found 12 size _ _ _ ws no_absence no_absence (fewer 4 36 (omega arith) e) (λ l. omega arith) _ _
      (λ l fits v. let w = window_behind p entry ws v in
      rw (le-ltb (length q) (entry + 36) (omega (arith, w.0)), e) (ap value w.1))

  -- the date by the first 20 bytes of the profile, and its type by the tag's first four
  pub date_alone : (ws : List ℕ) → tag_at q 0 20 ≡ tag_at p 0 20 → tag_at q entry 4 ≡ tag_at p entry 4 → date_of p entry size ≡ value ws → date_of q entry size ≡ value ws
  date_alone ws e four =
      found 20 size _ _ _ ws no_absence no_absence four (λ l. omega arith) _ _
      (λ l fits v. ap (λ t. value (date_bytes t)) e ∙ v)
