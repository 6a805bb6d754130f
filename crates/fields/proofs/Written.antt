-- A number that the standard writes is read again, and what is read is what the standard writes: the laws that carry conformance, once for all
-- types. And the signature of each type is the one that the standard writes.
-- Assumes nothing.
use Prim.Native.Nat.{ℕ, zero, suc, ◌+◌, ◌*◌, ◌-◌, ◌/◌, ◌%◌, ◌≤◌, ◌<◌}
use native.Mathlib.Omega.{arith}
use native.Mathlib.Nat.{add-zero, add_assoc}
use native.Mathlib.Numerals.{add-one}
use mathlib.Core.Path.{◌≡◌, refl, sym, ap, ◌∙◌}
use mathlib.Core.Bool.{Bool, true, false, cond}
use mathlib.Core.List.{List, [], ◌∷◌, ◌++◌}
use lib.Dec.{ltb}
use lib.IntN.{ℤ, pos, negsuc}
use lib.ListN.{length, get_or, take, drop, take-append-drop, length-take, get_or-eq_default}
use lib.Seq.{drop-cons, drop-drop, get_or-drop, get_or-take}
use borrow.Author.Tests.{lt-ltb, le-ltb, ltb-true, ltb-false}
use Rattle.icc.specs.Each.{Each}
use Rattle.icc.specs.Curves.{Function, curve_type, parametric_curve_type}
use Rattle.icc.specs.Elements.{a_to_b, b_to_a, signature}
use Rattle.icc.specs.Numbers.{be8, be16, be32, bits, IsFixed, s15_fixed16_number, each16, each32, Is16, Is32, Each16, Each32, Bytes}
use Rattle.icc.specs.Small.{XYZNumber, DateTime, Measurement, ViewingConditions, Cicp, s15_fixed16_array_type, signature_type, date_time_type, measurement_type, viewing_conditions_type, xyz_type, cicp_type}
use Rattle.icc.specs.Tables.{Lut, lut16_type, lut8_type}
use Rattle.icc.specs.Text.{text_type, ascii_part, Localized, localized_head}
use Rattle.fields.specs.Bytes.{number, u16_at, u32_at, bytes_at, words_at, signed}
use Rattle.fields.specs.Tag.{signature_of}
use Rattle.fields.specs.declared.Kind.TheVariants.{Curv, Para, Mft1, Mft2, Mab, Mba, Mluc, Desc, Text, Xyz, Sf32, Meas, View, Cicp as KindCicp, Sig, Dtim}

-- 16-bit numbers one behind the other
unfoldable pub halves_at : List ℕ → ℕ → ℕ → List ℕ
halves_at s i zero = []
halves_at s i (suc n) = u16_at s i ∷ halves_at s (i + 2) n

pub halves_length : (s : List ℕ) (i n : ℕ) → length (halves_at s i n) ≡ n
unfolding halves_at
halves_length s i zero = refl
halves_length s i (suc n) = ap suc (halves_length s (i + 2) n)

pub half_at : (s : List ℕ) (i n k : ℕ) → k < n → get_or (halves_at s i n) k 0 ≡ u16_at s (i + 2 * k)
unfolding halves_at
half_at s i zero k h = absurd (omega arith)
half_at s i (suc n) zero h = let e : i ≡ i + 2 * 0 = omega arith in ap (u16_at s) e
half_at s i (suc n) (suc k) h =
    let e : (i + 2) + 2 * k ≡ i + 2 * suc k = omega arith in
    half_at s (i + 2) n k (omega arith) ∙ ap (u16_at s) e

-- ---- written, then read

pub read16 : (n : ℕ) → Is16 n → n / 256 % 256 * 256 + n % 256 ≡ n
read16 n h = omega arith

pub read32 : (n : ℕ) → Is32 n → number (n / 256 / 256 / 256 % 256) (n / 256 / 256 % 256) (n / 256 % 256) (n % 256) ≡ n
read32 n h = omega arith

-- the sign of an s15Fixed16Number: a word that is read as a signed number is the bits that the standard writes of it
pub signed_bits : (z : ℤ) → IsFixed z → signed (bits z) ≡ z
unfolding bits IsFixed
signed_bits (pos n) h = rw (lt-ltb n 2147483648 h)
signed_bits (negsuc n) h =
    let high : 2147483648 ≤ 4294967295 - n = omega arith in
    let back : 4294967295 - (4294967295 - n) ≡ n = omega arith in
    rw (le-ltb (4294967295 - n) 2147483648 high, back)

pub bits_signed : (w : ℕ) → Is32 w → IsFixed (signed w) × (be32 w ≡ s15_fixed16_number (signed w))
unfolding bits IsFixed
bits_signed w h = by (ltb w 2147483648) refl
  where
    by : (less : Bool) → ltb w 2147483648 ≡ less → let z : ℤ = cond less (pos w) (negsuc (4294967295 - w)) in IsFixed z × (be32 w ≡ s15_fixed16_number z)
    by true e = (ltb-true w 2147483648 e, refl)
    by false e =
        let low = ltb-false w 2147483648 e in
        let same : w ≡ 4294967295 - (4294967295 - w) = omega arith in
        (omega arith, ap be32 same)

-- how long a row of numbers is
pub length16 : (ns : List ℕ) → length (each16 ns) ≡ 2 * length ns
unfolding each16
length16 [] = refl
length16 (n ∷ ns) = omega (arith, length16 ns)

pub length32 : (ns : List ℕ) → length (each32 ns) ≡ 4 * length ns
unfolding each32
length32 [] = refl
length32 (n ∷ ns) = omega (arith, length32 ns)

-- what stands behind i bytes is read from there
pub word_drop : (s : List ℕ) (i k : ℕ) → u32_at (drop i s) k ≡ u32_at s (i + k)
word_drop s i k =
    rw (get_or-drop i s k 0, get_or-drop i s (k + 1) 0, get_or-drop i s (k + 2) 0, get_or-drop i s (k + 3) 0, add_assoc i k 1, add_assoc i k 2, add_assoc i k 3)

pub half_drop : (s : List ℕ) (i k : ℕ) → u16_at (drop i s) k ≡ u16_at s (i + k)
half_drop s i k = rw (get_or-drop i s k 0, get_or-drop i s (k + 1) 0, add_assoc i k 1)

pub words_drop : (s : List ℕ) (i k n : ℕ) → words_at (drop i s) k n ≡ words_at s (i + k) n
unfolding words_at
words_drop s i k zero = refl
words_drop s i k (suc n) = rw (word_drop s i k, words_drop s i (k + 4) n, add_assoc i k 4)

pub halves_drop : (s : List ℕ) (i k n : ℕ) → halves_at (drop i s) k n ≡ halves_at s (i + k) n
unfolding halves_at
halves_drop s i k zero = refl
halves_drop s i k (suc n) = rw (half_drop s i k, halves_drop s i (k + 2) n, add_assoc i k 2)

pub bytes_drop : (s : List ℕ) (i k n : ℕ) → bytes_at (drop i s) k n ≡ bytes_at s (i + k) n
unfolding bytes_at
bytes_drop s i k zero = refl
bytes_drop s i k (suc n) = rw (get_or-drop i s k 0, bytes_drop s i (k + 1) n, add_assoc i k 1)

-- a row that is written is read again
pub words_written : (ns rest : List ℕ) → Each32 ns → words_at (each32 ns ++ rest) 0 (length ns) ≡ ns
unfolding words_at each32 Each
words_written [] rest h = refl
words_written (n ∷ ns) rest (h, hs) = rw (read32 n h, ← words_drop (be32 n ++ (each32 ns ++ rest)) 4 0 (length ns), words_written ns rest hs)

pub halves_written : (ns rest : List ℕ) → Each16 ns → halves_at (each16 ns ++ rest) 0 (length ns) ≡ ns
unfolding halves_at each16 Each
halves_written [] rest h = refl
halves_written (n ∷ ns) rest (h, hs) = rw (read16 n h, ← halves_drop (be16 n ++ (each16 ns ++ rest)) 2 0 (length ns), halves_written ns rest hs)

pub half_written : (ns rest : List ℕ) → Each16 ns → (i : ℕ) → i < length ns → u16_at (each16 ns ++ rest) (i * 2) ≡ get_or ns i 0
half_written ns rest h i l =
    let s : List ℕ = each16 ns ++ rest in
    let e : i * 2 ≡ 0 + 2 * i = omega arith in
    ap (u16_at s) e ∙ sym (half_at s 0 (length ns) i l) ∙ ap (λ (ms : List ℕ). get_or ms i 0) (halves_written ns rest h)

pub bytes_written : (bs rest : List ℕ) → bytes_at (bs ++ rest) 0 (length bs) ≡ bs
unfolding bytes_at
bytes_written [] rest = refl
bytes_written (b ∷ bs) rest = rw (← bytes_drop (b ∷ (bs ++ rest)) 1 0 (length bs), bytes_written bs rest)

-- ---- read, then written

back16 : {a b : ℕ} {x : List ℕ} → a < 256 → b < 256 → a ∷ b ∷ x ≡ be16 (a * 256 + b) ++ x
back16 {a} {b} {x} h k =
    let p : a ≡ (a * 256 + b) / 256 % 256 = omega arith in
    let q : b ≡ (a * 256 + b) % 256 = omega arith in
    ap (λ (z : ℕ). z ∷ b ∷ x) p ∙ ap (λ (z : ℕ). (a * 256 + b) / 256 % 256 ∷ z ∷ x) q

back32 : (a b c d n : ℕ) {x : List ℕ} → a < 256 → b < 256 → c < 256 → d < 256 → number a b c d ≡ n → a ∷ b ∷ c ∷ d ∷ x ≡ be32 n ++ x
back32 a b c d n {x} ha hb hc hd e =
    let p : a ≡ n / 256 / 256 / 256 % 256 = omega arith in
    let q : b ≡ n / 256 / 256 % 256 = omega arith in
    let r : c ≡ n / 256 % 256 = omega arith in
    let s : d ≡ n % 256 = omega arith in
    cc

-- what is read of bytes fits its bits
pub below16 : (t : List ℕ) → Bytes t → (i : ℕ) → Is16 (u16_at t i)
below16 t b i = omega (arith, b i, b (i + 1))

pub below32 : (t : List ℕ) → Bytes t → (i : ℕ) → Is32 (u32_at t i)
below32 t b i = omega (arith, b i, b (i + 1), b (i + 2), b (i + 3))

pub words_below : (t : List ℕ) → Bytes t → (i n : ℕ) → Each32 (words_at t i n)
unfolding words_at Each
words_below t b i zero = tt
words_below t b i (suc n) = (below32 t b i, words_below t b (i + 4) n)

pub halves_below : (t : List ℕ) → Bytes t → (i n : ℕ) → Each16 (halves_at t i n)
unfolding halves_at Each
halves_below t b i zero = tt
halves_below t b i (suc n) = (below16 t b i, halves_below t b (i + 2) n)

-- what stands behind, and a part, of bytes is bytes
pub rest_bytes : (t : List ℕ) → Bytes t → (i : ℕ) → Bytes (drop i t)
rest_bytes t b i k = rw (get_or-drop i t k 0) (b (i + k))

pub part_bytes : (t : List ℕ) → Bytes t → (i n : ℕ) → Bytes (take n (drop i t))
part_bytes t b i n k = by (ltb k n) refl
  where
    by : (less : Bool) → ltb k n ≡ less → get_or (take n (drop i t)) k 0 < 256
    by true e = rw (get_or-take n (drop i t) k 0 (ltb-true k n e), get_or-drop i t k 0) (b (i + k))
    by false e =
        rw (get_or-eq_default (take n (drop i t)) 0 {n = k} (omega (arith, length-take n (drop i t), ltb-false k n e))) (omega arith)

-- a byte, a number of 16 or of 32 bits, and rows of them, in front of what stands behind
module _ (t : List ℕ) where
  step : (i j : ℕ) {x : List ℕ} → j ≡ i + 1 → j ≤ length t → drop j t ≡ x → drop i t ≡ get_or t i 0 ∷ x
  step i j e l h = drop-cons t i 0 (omega arith) ∙ rw (← add-one i, ← e, h)

  pub then8 : (i : ℕ) {n : ℕ} {x : List ℕ} → i + 1 ≤ length t → get_or t i 0 ≡ n → drop (i + 1) t ≡ x → drop i t ≡ be8 n ++ x
  then8 i l e h = step i (i + 1) refl l h ∙ rw e

  module _ (b : Bytes t) where
    pub then16 : (i : ℕ) {n : ℕ} {x : List ℕ} → i + 2 ≤ length t → u16_at t i ≡ n → drop (i + 2) t ≡ x → drop i t ≡ be16 n ++ x
    then16 i l e h =
        rw (← e) (step i (i + 1) refl (omega arith) (step (i + 1) (i + 2) (omega arith) l h) ∙ back16 (b i) (b (i + 1)))

    pub then32 : (i : ℕ) {n : ℕ} {x : List ℕ} → i + 4 ≤ length t → u32_at t i ≡ n → drop (i + 4) t ≡ x → drop i t ≡ be32 n ++ x
    then32 i l e h =
        let behind = step (i + 2) (i + 3) (omega arith) (omega arith) (step (i + 3) (i + 4) (omega arith) l h) in
        step i (i + 1) refl (omega arith) (step (i + 1) (i + 2) (omega arith) (omega arith) behind) ∙ back32 _ _ _ _ _ (b i) (b (i + 1)) (b (i + 2)) (b (i + 3)) e

    row16' : (n i : ℕ) {x : List ℕ} → i + 2 * n ≤ length t → drop (i + 2 * n) t ≡ x → drop i t ≡ each16 (halves_at t i n) ++ x
    unfolding each16 halves_at
    row16' zero i l h = rw (add-zero i) at h
    row16' (suc n) i l h =
        let m : i + 2 * suc n ≡ (i + 2) + 2 * n = omega arith in
        then16 i (omega arith) refl (row16' n (i + 2) (omega arith) (rw m at h))

    row32' : (n i : ℕ) {x : List ℕ} → i + 4 * n ≤ length t → drop (i + 4 * n) t ≡ x → drop i t ≡ each32 (words_at t i n) ++ x
    unfolding each32 words_at
    row32' zero i l h = rw (add-zero i) at h
    row32' (suc n) i l h =
        let m : i + 4 * suc n ≡ (i + 4) + 4 * n = omega arith in
        then32 i (omega arith) refl (row32' n (i + 4) (omega arith) (rw m at h))

    pub row16 : (n i : ℕ) {ns x : List ℕ} → i + 2 * n ≤ length t → halves_at t i n ≡ ns → drop (i + 2 * n) t ≡ x → drop i t ≡ each16 ns ++ x
    row16 n i {x = x} l e h = row16' n i l h ∙ ap (λ (z : List ℕ). each16 z ++ x) e

    pub row32 : (n i : ℕ) {ns x : List ℕ} → i + 4 * n ≤ length t → words_at t i n ≡ ns → drop (i + 4 * n) t ≡ x → drop i t ≡ each32 ns ++ x
    row32 n i {x = x} l e h = row32' n i l h ∙ ap (λ (z : List ℕ). each32 z ++ x) e

  pub row8 : (n i : ℕ) {x : List ℕ} → drop (i + n) t ≡ x → drop i t ≡ take n (drop i t) ++ x
  row8 n i h = sym (take-append-drop n (drop i t)) ∙ rw (drop-drop n i t, h)

-- ---- the signatures

-- what the standard writes of each type begins with the signature that its kind is known by
pub record Signatures : Type 0 where
  pub curv : (r : ℕ) (ns : List ℕ) → u32_at (curve_type r ns) 0 ≡ signature_of Curv
  pub para : (r s : ℕ) (f : Function) → u32_at (parametric_curve_type r s f) 0 ≡ signature_of Para
  pub mft1 : (r s : ℕ) (l : Lut) → u32_at (lut8_type r s l) 0 ≡ signature_of Mft1
  pub mft2 : (r s n m : ℕ) (l : Lut) → u32_at (lut16_type r s n m l) 0 ≡ signature_of Mft2
  pub mab : signature a_to_b ≡ signature_of Mab
  pub mba : signature b_to_a ≡ signature_of Mba
  pub sf32 : (r : ℕ) (ns : List ℕ) → u32_at (s15_fixed16_array_type r ns) 0 ≡ signature_of Sf32
  pub sig : (r n : ℕ) → u32_at (signature_type r n) 0 ≡ signature_of Sig
  pub dtim : (r : ℕ) (d : DateTime) → u32_at (date_time_type r d) 0 ≡ signature_of Dtim
  pub meas : (r : ℕ) (m : Measurement) → u32_at (measurement_type r m) 0 ≡ signature_of Meas
  pub view : (r : ℕ) (v : ViewingConditions) → u32_at (viewing_conditions_type r v) 0 ≡ signature_of View
  pub xyz : (r : ℕ) (ns : List XYZNumber) → u32_at (xyz_type r ns) 0 ≡ signature_of Xyz
  pub cicp : (r : ℕ) (c : Cicp) → u32_at (cicp_type r c) 0 ≡ signature_of KindCicp
  pub text : (r : ℕ) (s : List ℕ) → u32_at (text_type r s) 0 ≡ signature_of Text
  pub desc : (r : ℕ) (s : List ℕ) → u32_at (ascii_part r s) 0 ≡ signature_of Desc
  pub mluc : (r n size : ℕ) (ls : List Localized) → u32_at (localized_head r n size ls) 0 ≡ signature_of Mluc

pub signatures : Signatures
unfolding signature_of curve_type parametric_curve_type lut8_type lut16_type s15_fixed16_array_type signature_type date_time_type measurement_type viewing_conditions_type xyz_type cicp_type text_type ascii_part localized_head
signatures =
    record {
      curv = λ r ns. refl;
      para = λ r s f. refl;
      mft1 = λ r s l. refl;
      mft2 = λ r s n m l. refl;
      mab = refl;
      mba = refl;
      sf32 = λ r ns. refl;
      sig = λ r n. refl;
      dtim = λ r d. refl;
      meas = λ r m. refl;
      view = λ r v. refl;
      xyz = λ r ns. refl;
      cicp = λ r c. refl;
      text = λ r s. refl;
      desc = λ r s. refl;
      mluc = λ r n size ls. refl;
    }
