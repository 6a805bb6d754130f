-- The check of a table's length is the standard's, and a function's parameters are the numbers behind the head.
-- Assumes nothing.
use Prim.Native.Nat.{ℕ, zero, suc, ◌+◌, ◌-◌, ◌*◌, ◌/◌, ◌^◌, ◌≤◌, ◌<◌}
use native.Mathlib.Omega.{arith}
use mathlib.Core.Path.{◌≡◌, refl, sym, ◌∙◌}
use mathlib.Core.Bool.{Bool, true, false, cond, ◌&&◌}
use mathlib.Core.List.{List}
use lib.Dec.{ltb, leb, eqb}
use lib.Seq.{length-take-le}
use lib.ListN.{length, get_or, take, drop, length-drop}
use borrow.Author.Tests.{ne_eqb, lt-ltb, le-ltb, ltb-true, ltb-false, eqb-true}
use Rattle.std.proofs.Common.{map}
use Rattle.std.specs.Simd.{first_chunks}
use Rattle.fields.specs.Bytes.{u32_at, words_at}
use Rattle.fields.proofs.Append.{u32_append, words_append, front}
use Rattle.fields.proofs.Written.{words_drop}
use Rattle.curve_meaning.specs.Layout.{entry_count, entries_end, parameter_count}
use Rattle.curve_meaning.specs.Layout.{function_type, parameters_end}
use Rattle.curve_meaning.specs.Curve.{trc_of, curve_of, curv_of, para_of, divides}
use Rattle.curve_meaning.specs.Kinds.{type_number}
use Rattle.curve_meaning.specs.Shape.{para, table_shape}
use Rattle.curve_meaning.specs.declared.FunctionType.{FunctionType}
use Rattle.curve_meaning.specs.declared.FunctionType.TheVariants.{Type0, Type1, Type2, Type3, Type4}
use Rattle.fields.specs.Checked.{good, bad}
use Rattle.fields.specs.Place.{place_of}
use Rattle.fields.proofs.Located.{inside, past, rest_is, part_is}
use Rattle.std.specs.Prelude.{Option, Some, None}
use Rattle.curve_meaning.specs.Answer.{Answer, absent, refused, answer_of}
use Rattle.curve_meaning.specs.declared.Walk.{Walk}
use Rattle.fields.specs.Tag.{signature_of}
use Rattle.fields.specs.declared.Kind.TheVariants.{Para}
use Rattle.fields.specs.declared.Place.{Place}
use Rattle.curve.specs.Found.{number_of}

-- a function has at most seven parameters, so that 32 bits hold their end
pub few : (type : ℕ) → parameter_count type ≤ 7
unfolding parameter_count
few zero = omega arith
few (suc zero) = omega arith
few (suc (suc zero)) = omega arith
few (suc (suc (suc zero))) = omega arith
few (suc (suc (suc (suc zero)))) = omega arith
few (suc (suc (suc (suc (suc n))))) = omega arith

-- how many entries have room in so many bytes, behind a head of 12
abbrev entry_room : ℕ → ℕ
entry_room l = (l - 12) / 2

-- where the head is there, more entries than have room are those that end past the last byte
pub same_test : (l n : ℕ) → 12 ≤ l → ltb (entry_room l) n ≡ ltb l (entries_end n)
same_test l n h = by (ltb (entry_room l) n) refl
  where
    by : (z : Bool) → ltb (entry_room l) n ≡ z → z ≡ ltb l (entries_end n)
    by true e =
        let k : entry_room l < n = ltb-true _ _ e in
        let m : l < entries_end n = omega arith in
        sym (lt-ltb _ _ m)
    by false e =
        let k : n ≤ entry_room l = ltb-false _ _ e in
        let m : entries_end n ≤ l = omega arith in
        sym (le-ltb _ _ m)

module _ (limit : ℕ) (t : List ℕ) (n : ℕ) (h : n ≡ entry_count t) where
  pub table_short : (n ≡ 0 → ⊥) → n ≤ limit → length t < 12 + 2 * n → bad 11 ≡ curv_of limit t
  unfolding curv_of
  table_short z l k = simp (← h, ne_eqb _ _ z, le-ltb _ _ l, lt-ltb _ _ k)

  pub table_whole : (n ≡ 0 → ⊥) → n ≤ limit → 12 + 2 * n ≤ length t → good (table_shape n) ≡ curv_of limit t
  unfolding curv_of table_shape
  table_whole z l k = simp (← h, ne_eqb _ _ z, le-ltb _ _ l, le-ltb _ _ k)

  -- the same by the room that the tag has, as the code tests it
  module _ (z : n ≡ 0 → ⊥) (l : n ≤ limit) where
    pub table_cut : length t < 12 → bad 11 ≡ curv_of limit t
    table_cut c = table_short z l (omega arith)

    module _ (c : 12 ≤ length t) where
      pub table_no_room : entry_room (length t) < n → bad 11 ≡ curv_of limit t
      unfolding curv_of
      table_no_room k = simp (← h, ne_eqb _ _ z, le-ltb _ _ l, ← same_test (length t) n c, lt-ltb _ _ k)

      pub table_room : n ≤ entry_room (length t) → good (table_shape n) ≡ curv_of limit t
      unfolding curv_of table_shape
      table_room k = simp (← h, ne_eqb _ _ z, le-ltb _ _ l, ← same_test (length t) n c, le-ltb _ _ k)

-- the bytes of a function's parameters, and where they end
module _ (type n : ℕ) (e : n ≡ parameter_count type) where
  pub bytes_fit : 4 * n < 2 ^ 32
  bytes_fit = let k = few type in omega arith

  pub end_fits : 12 + 4 * n < 2 ^ 32
  end_fits = let k = few type in omega arith

-- the numbers of so many runs of four bytes
chunked : (k : ℕ) (s : List ℕ) → 4 * k ≤ length s → map number_of (first_chunks 4 k s) ≡ words_at s 0 k
unfolding words_at
chunked zero s h = refl
chunked (suc k) s h =
    let first : u32_at (take 4 s) 0 ≡ u32_at s 0 = front (λ (x : List ℕ). u32_at x 0) s 4 (λ t q. u32_append t q 0) (omega arith) in
    rw (first, chunked k (drop 4 s) (simp length-drop (omega arith)), words_drop s 4 0 k)

-- the parameters in their bytes, which stand behind the head of the tag
pub behind_the_head : (t : List ℕ) (n end : ℕ) {ps : List (List ℕ)} → end ≡ 12 + 4 * n → end ≤ length t → ps ≡ first_chunks 4 (length (take (end - 12) (drop 12 t)) / 4) (take (end - 12) (drop 12 t)) → map number_of ps ≡ words_at t 12 n
behind_the_head t n end e h p =
    let size : end - 12 ≡ 4 * n = omega arith in
    let l : 4 * n ≤ length (drop 12 t) = simp length-drop (omega arith) in
    let whole : length (take (4 * n) (drop 12 t)) ≡ 4 * n = length-take-le (4 * n) (drop 12 t) l in
    let count : length (take (4 * n) (drop 12 t)) / 4 ≡ n = omega (arith, whole) in
    rw (p, size, count, chunked n (take (4 * n) (drop 12 t)) (omega (arith, whole)), front (λ (x : List ℕ). words_at x 0 n) (drop 12 t) (4 * n) (λ u q m. words_append u q 0 n (omega arith)) l, words_drop t 12 0 n)

-- ---- `para`

-- a function's type is known
pub known : (f : FunctionType) → type_number f ≤ 4
known Type0 = omega arith
known Type1 = omega arith
known Type2 = omega arith
known Type3 = omega arith
known Type4 = omega arith

-- a function whose type and parameters are there: whether it divides by 0 is asked last
pub function_found : (limit : ℕ) (t : List ℕ) {signature type : ℕ} {ps : List ℕ} → 12 ≤ length t → signature ≡ u32_at t 0 → signature ≡ signature_of Para → type ≡ function_type t → type ≤ 4 → parameters_end (parameter_count type) ≤ length t → ps ≡ words_at t 12 (parameter_count type) → (z : Bool) → divides type && eqb (get_or ps 1 0) 0 ≡ z → cond z (bad 13) (good (para type ps)) ≡ curve_of limit t
unfolding curve_of para_of signature_of
function_found limit t l h s k m w e z d = simp (le-ltb _ _ l, ← h, s, ← k, le-ltb _ _ m, le-ltb _ _ w, ← e, d)

-- ---- the lone reader

module _ (walk : Walk) (limit : ℕ) (p : List ℕ) (entry size : ℕ) (four : Option Place) (h : four ≡ place_of (length p) entry 4) where
  pub trc_none : four ≡ None → absent ≡ trc_of walk limit p entry size
  unfolding trc_of
  trc_none e = simp (lt-ltb _ _ (past _ _ _ h e))

  module _ (four_at : Place) (e : four ≡ Some four_at) (small : Bool) (b : small ≡ leb 1 size && ltb size 12) where
    pub trc_small : small ≡ true → absent ≡ trc_of walk limit p entry size
    unfolding trc_of
    trc_small y = let i = inside _ _ _ h e in simp (le-ltb _ _ i.fits, ← b, y)

    module _ (y : small ≡ false) (bytes : ℕ) (c : bytes ≡ cond (eqb size 0) (length p - four_at.start) size) (tag : Option Place) (g : tag ≡ place_of (length p) entry bytes) where
      pub trc_past : tag ≡ None → refused 11 ≡ trc_of walk limit p entry size
      unfolding trc_of
      trc_past f = by (eqb size 0) refl
        where
          by : (z : Bool) → eqb size 0 ≡ z → refused 11 ≡ trc_of walk limit p entry size
          by true k =
              let i = inside _ _ _ h e in
              let q : bytes ≡ length p - entry = c ∙ simp (k, i.from_is) in
              let l : length p < entry + bytes = past _ _ _ g f in
              absurd (omega (arith, i.fits))
          by false k =
              let i = inside _ _ _ h e in
              let q : bytes ≡ size = c ∙ simp k in
              let l : length p < entry + size = rw q at (past _ _ _ g f) in
              simp (le-ltb _ _ i.fits, ← b, y, lt-ltb _ _ l)

      pub trc_tag : (r : Answer) (at : Place) → tag ≡ Some at → r ≡ answer_of walk 12 (curve_of limit (take (at.end - at.start) (drop at.start p))) → r ≡ trc_of walk limit p entry size
      unfolding trc_of
      trc_tag r at f w = by (eqb size 0) refl
        where
          by : (z : Bool) → eqb size 0 ≡ z → r ≡ trc_of walk limit p entry size
          by true k =
              let i = inside _ _ _ h e in
              let j = inside _ _ _ g f in
              let q : bytes ≡ length p - entry = c ∙ simp (k, i.from_is) in
              let s : size ≡ 0 = eqb-true _ _ k in
              let l : entry + size ≤ length p = omega (arith, i.fits) in
              simp (le-ltb _ _ i.fits, ← b, y, le-ltb _ _ l, k) (simp (j.from_is, j.to_is, q, part_is p entry, rest_is p entry) at w)
          by false k =
              let i = inside _ _ _ h e in
              let j = inside _ _ _ g f in
              let q : bytes ≡ size = c ∙ simp k in
              let l : entry + size ≤ length p = rw q at j.fits in
              simp (le-ltb _ _ i.fits, ← b, y, le-ltb _ _ l, k) (simp (j.from_is, j.to_is, q, part_is p entry size) at w)

pub ruleset trc-laws = (trc_none, trc_small, trc_past, trc_tag)
