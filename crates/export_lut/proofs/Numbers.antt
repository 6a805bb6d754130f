-- The numbers of a colour table that a caller takes from the words of a lookup table are those of the answer, on either walk: the words tell
-- all that a view needs, whether the answer has a colour table or not.
-- Assumes nothing.
use Prim.Native.Nat.{ℕ, ◌+◌, ◌%◌, ◌<◌}
use native.Mathlib.Omega.{arith}
use mathlib.Core.Path.{◌≡◌, refl, ap, ◌∙◌, subst}
use mathlib.Core.Bool.{Bool, true, false, cond}
use mathlib.Core.List.{List, ◌++◌}
use mathlib.Core.Logic.{◌⊎◌, inl, inr}
use lib.Dec.{eqb}
use lib.ListN.{length, get_or, replicate, length-append}
use lib.Seq.{get_or-append-add}
use Rattle.icc.specs.Numbers.{Bytes}
use Rattle.fields.specs.Bytes.{bytes_at, words_at}
use Rattle.fields.specs.Place.{counted_size, counted_tag}
use Rattle.fields.specs.Tag.{signature_of}
use Rattle.fields.proofs.Words.{bytes_length, words_length}
use Rattle.fields.proofs.Written.{part_bytes}
use Rattle.curve_meaning.specs.declared.Walk.{Walk}
use Rattle.lut_mft_meaning.specs.Answer.{Fields}
use Rattle.lut_meaning.specs.Abm.{value_of}
use Rattle.lut_meaning.specs.Answer.{Abm, State, mft, abm, absent, refused, Answer}
use Rattle.lut_meaning.specs.Layout.{matrix_offset, bias_from, clut_offset, identity, matrix_of, bias_of, grid_of}
use Rattle.lut_meaning.specs.Lut.{lut_of}
use Rattle.lut_meaning.proofs.Found.{IsValue, abm_found}
use Rattle.lut_meaning.proofs.Inside.{GridTold, lut_inside, mft_inside}
use Rattle.lut_clut_meaning.specs.Table.{Table}
use Rattle.lut_view_meaning.specs.View.{numbers_of}
use Rattle.export_lut.specs.Layout.{mft_head, mft_ranges, abm_head, abm_parts, lut_exported, numbers_in}

-- a byte is its own low byte
low : (x : ℕ) → x < 256 → x % 256 ≡ x
low x h = omega arith

-- what stands behind so many words
behind : (xs ys : List ℕ) (n i : ℕ) → length xs ≡ n → get_or (xs ++ ys) (n + i) 0 ≡ get_or ys i 0
behind xs ys n i e = subst (λ (k : ℕ). get_or (xs ++ ys) (k + i) 0 ≡ get_or ys i 0) e (get_or-append-add xs ys i 0)

-- ---- of `mft1` and `mft2`

mft_numbers_lem : (f : Fields) (matrix : List ℕ) → length matrix ≡ 9 → (f.size ≡ 1) ⊎ (f.size ≡ 2) → f.inputs < 256 → f.outputs < 256 → numbers_in (mft_head f ++ matrix ++ mft_ranges f) ≡ numbers_of (mft f)
unfolding numbers_in signature_of
mft_numbers_lem f matrix m size i o = by size
  where
    start_is : get_or (matrix ++ mft_ranges f) 11 0 ≡ f.clut_start_of
    start_is = behind matrix (mft_ranges f) 9 2 m

    by : (f.size ≡ 1) ⊎ (f.size ≡ 2) → numbers_in (mft_head f ++ matrix ++ mft_ranges f) ≡ numbers_of (mft f)
    by (inl e) = rw (e, low _ i, low _ o, start_is)
    by (inr e) = rw (e, low _ i, low _ o, start_is)

-- ---- of `mAB ` and `mBA `

abm_numbers_lem : (f : Abm) (grid matrix bias : List ℕ) → length grid ≡ 16 → length matrix ≡ 9 → length bias ≡ 3 → f.size < 256 → f.inputs < 256 → f.outputs < 256 → numbers_in (abm_head f ++ grid ++ matrix ++ bias ++ abm_parts f) ≡ numbers_of (abm f)
unfolding numbers_in signature_of
abm_numbers_lem f grid matrix bias g m b s i o = by f.to_pcs_of refl
  where
    rows : length (grid ++ matrix ++ bias) ≡ 28
    rows = simp length-append (omega (arith, g, m, b))

    start_is : get_or (grid ++ matrix ++ bias ++ abm_parts f) 28 0 ≡ f.start
    start_is = behind (grid ++ matrix ++ bias) (abm_parts f) 28 0 rows

    size_is : get_or (grid ++ matrix ++ bias ++ abm_parts f) 30 0 ≡ f.size
    size_is = behind (grid ++ matrix ++ bias) (abm_parts f) 28 2 rows

    by : (towards : Bool) → f.to_pcs_of ≡ towards → numbers_in (abm_head f ++ grid ++ matrix ++ bias ++ abm_parts f) ≡ numbers_of (abm f)
    by true e = rw (e, low _ i, low _ o, start_is, size_is, low _ s)
    by false e = rw (e, low _ i, low _ o, start_is, size_is, low _ s)

-- ---- of an answer

grid_length : (t : List ℕ) → length (grid_of t) ≡ 16
unfolding grid_of
grid_length t = by (eqb (clut_offset t) 0)
  where
    by : (b : Bool) → length (cond b (replicate 16 0) (bytes_at t (clut_offset t) 16)) ≡ 16
    by true = refl
    by false = bytes_length t (clut_offset t) 16

matrix_length : (t : List ℕ) → length (matrix_of t) ≡ 9
unfolding matrix_of
matrix_length t = by (eqb (matrix_offset t) 0)
  where
    by : (b : Bool) → length (cond b identity (words_at t (matrix_offset t) 9)) ≡ 9
    by true = refl
    by false = words_length t (matrix_offset t) 9

bias_length : (t : List ℕ) → length (bias_of t) ≡ 3
unfolding bias_of
bias_length t = by (eqb (matrix_offset t) 0)
  where
    by : (b : Bool) → length (cond b (replicate 3 0) (words_at t (matrix_offset t + bias_from) 3)) ≡ 3
    by true = refl
    by false = words_length t (matrix_offset t + bias_from) 3

size_below : (t : List ℕ) (table : Table) (grid : List ℕ) → Bytes t → GridTold t table grid → table.size < 256
size_below t table grid b (inl e) = rw e.1 (omega arith)
size_below t table grid b (inr e) = rw e.2 (b (clut_offset t + 16))

module _ (walk : Walk) (limit points : ℕ) (p : List ℕ) (entry size words : ℕ) (bytes : Bytes p) where
  abbrev t : List ℕ
  t = counted_tag p entry size

  abbrev answer : Answer
  answer = lut_of walk limit points p entry size words

  tag_bytes_lem : Bytes t
  tag_bytes_lem = part_bytes p bytes entry (counted_size size)

  pub abm_told : (f : Abm) → answer.state ≡ abm f → numbers_in (lut_exported answer).words ≡ numbers_of answer.state
  unfolding value_of
  abm_told f h =
      let w = abm_found walk limit points p entry size words f h in
      let i = lut_inside walk limit points p entry size words f h in
      let e : answer ≡ value_of t = w.as_abm ∙ w.behind.answer_is in
      let g : length answer.grid ≡ 16 = ap (λ (a : Answer). length a.grid) e ∙ grid_length t in
      let m : length answer.matrix ≡ 9 = ap (λ (a : Answer). length a.matrix) e ∙ matrix_length t in
      let b : length answer.bias ≡ 3 = ap (λ (a : Answer). length a.bias) e ∙ bias_length t in
      let s : f.size < 256 = rw i.size_is (size_below t i.table answer.grid tag_bytes_lem i.grid_is) in
      let j : f.inputs < 256 = rw i.inputs_are (tag_bytes_lem 8) in
      let o : f.outputs < 256 = rw i.outputs_are (tag_bytes_lem 9) in
      rw h (abm_numbers_lem f answer.grid answer.matrix answer.bias g m b s j o)

  pub mft_told_lem : (f : Fields) → answer.state ≡ mft f → numbers_in (lut_exported answer).words ≡ numbers_of answer.state
  mft_told_lem f h =
      let k = mft_inside walk limit points p entry size words f h in
      let i = k.1 in
      let m : length answer.matrix ≡ 9 = ap (λ (a : Answer). length a.matrix) k.2 ∙ words_length t 12 9 in
      let j : f.inputs < 256 = rw i.inputs_are (tag_bytes_lem 8) in
      let o : f.outputs < 256 = rw i.outputs_are (tag_bytes_lem 9) in
      rw h (mft_numbers_lem f answer.matrix m (sizes i.type_is) j o)
    where
      sizes : {A B : Type 0} → (A × (f.size ≡ 1)) ⊎ (B × (f.size ≡ 2)) → (f.size ≡ 1) ⊎ (f.size ≡ 2)
      sizes (inl e) = inl e.1
      sizes (inr e) = inr e.1

  -- the numbers in the words of an accepted lookup table
  pub numbers_told : IsValue answer.state → numbers_in (lut_exported answer).words ≡ numbers_of answer.state
  unfolding IsValue
  numbers_told v = by answer.state refl v
    where
      by : (s : State) → answer.state ≡ s → IsValue s → numbers_in (lut_exported answer).words ≡ numbers_of answer.state
      by (mft f) e v = mft_told_lem f e
      by (abm f) e v = abm_told f e
      by absent e v = absurd v
      by (refused n) e v = absurd v
