-- Trailing zeros cut: the loop that cuts them, that what is left is what `Cut` says, and nothing else is, and that it is a string with zeros
-- behind it, itself not ended by one.
-- Assumes nothing.
use Prim.Native.Nat.{ℕ, zero, suc, ◌+◌, ◌-◌, ◌*◌, ◌≤◌, ◌<◌}
use native.Mathlib.Omega.{arith}
use mathlib.Core.Path.{◌≡◌, refl, sym, ap, ◌∙◌}
use mathlib.Core.Bool.{Bool, true, false}
use mathlib.Core.List.{List, [], ◌∷◌, ◌++◌}
use lib.Dec.{ltb, eqb}
use lib.ListN.{length, get_or, take, drop, replicate, length-append, length-drop, length-replicate, get_or-replicate, take-append-drop, get_or-append}
use lib.Seq.{ext_get_or, get_or-take, get_or-drop, get_or-append_seam, length-take-le, take-length, take-suc}
use borrow.Author.Tests.{eq-eqb, ne_eqb, eqb-true, eqb-false, ltb-true, ltb-false}
use Rattle.fields.specs.Bytes.{u16_at}
use Rattle.fields.proofs.Choice.{each}
use Rattle.text_meaning.specs.Cut.{byte_of, unit_of, kept_of, Cut}
use Rattle.text_meaning.specs.Standard.{NoZeroLast}

-- ---- the loop: what is left of fewer units is left of all

module _ (unit : ℕ → ℕ) where
  kept_last : (n : ℕ) → 0 < n → (unit (n - 1) ≡ 0 → ⊥) → kept_of unit n ≡ n
  unfolding kept_of
  kept_last zero l h = absurd (omega arith)
  kept_last (suc n) l h = let e : suc n - 1 ≡ n = omega arith in rw (ne_eqb (unit n) 0 (λ z. h (ap unit e ∙ z)))

  kept_less : (n : ℕ) → 0 < n → unit (n - 1) ≡ 0 → kept_of unit n ≡ kept_of unit (n - 1)
  unfolding kept_of
  kept_less zero l h = absurd (omega arith)
  kept_less (suc n) l h = let e : suc n - 1 ≡ n = omega arith in rw (e, eq-eqb (unit n) 0 (sym (ap unit e) ∙ h))

  module _ (n kept : ℕ) (left : kept_of unit n ≡ kept_of unit kept) where
    pub kept_ends : kept ≤ 0 → 0 ≡ kept_of unit n
    unfolding kept_of
    kept_ends l = let z : kept ≡ 0 = omega arith in sym (left ∙ rw z)

    module _ (l : 0 < kept) (last : ℕ) (e : last ≡ unit (kept - 1)) where
      pub kept_stops : (last ≡ 0 → ⊥) → kept ≡ kept_of unit n
      kept_stops h = sym (left ∙ kept_last kept l (λ z. h (e ∙ z)))

      pub kept_turns : last ≡ 0 → kept_of unit n ≡ kept_of unit (kept - 1)
      kept_turns h = left ∙ kept_less kept l (sym e ∙ h)

pub byte_read : (t : List ℕ) (start i last : ℕ) → last ≡ get_or t (start + i) 0 → last ≡ byte_of t start i
unfolding byte_of
byte_read t start i last h = h

pub unit_read : (t : List ℕ) (start i last : ℕ) → last ≡ u16_at t (start + 2 * i) → last ≡ unit_of t start i
unfolding unit_of
unit_read t start i last h = h

-- ---- what is left

module _ (unit : ℕ → ℕ) where
  cut_none : Cut unit 0 0
  cut_none = record { within = omega arith; zeros = λ i l m. absurd (omega arith); last = λ i e z. omega (arith, e) }

  -- a unit more that is zero, and one that is not
  cut_zero : (n m : ℕ) → unit n ≡ 0 → Cut unit n m → Cut unit (suc n) m
  cut_zero n m h c =
      record { within = omega (arith, c.within); zeros = λ i l k. zero_at i l k (eqb i n) refl; last = c.last }
    where
      zero_at : (i : ℕ) → m ≤ i → i < suc n → (b : Bool) → eqb i n ≡ b → unit i ≡ 0
      zero_at i l k true e = ap unit (eqb-true i n e) ∙ h
      zero_at i l k false e = let d = eqb-false i n e in c.zeros i l (omega (arith, d))

  cut_all : (n : ℕ) → (unit n ≡ 0 → ⊥) → Cut unit (suc n) (suc n)
  cut_all n h = record { within = omega arith; zeros = λ i l k. absurd (omega arith); last = λ i e z. (let same : i ≡ n = omega (arith, e) in h (sym (ap unit same) ∙ z)) }

  pub kept_cut : (n : ℕ) → Cut unit n (kept_of unit n)
  unfolding kept_of
  kept_cut zero = cut_none
  kept_cut (suc n) =
      each (Cut unit (suc n)) (eqb (unit n) 0) (kept_of unit n) (suc n)
      (λ e. cut_zero n (kept_of unit n) (eqb-true (unit n) 0 e) (kept_cut n))
      (λ e. cut_all n (eqb-false (unit n) 0 e))

  -- only one number of units is left
  less : (n m k : ℕ) → Cut unit n m → Cut unit n k → m < k → ⊥
  less n m k c d l =
      let e : suc (k - 1) ≡ k = omega arith in
      d.last (k - 1) e (c.zeros (k - 1) (omega arith) (omega (arith, d.within)))

  pub cut_kept : (n m : ℕ) → Cut unit n m → kept_of unit n ≡ m
  cut_kept n m c =
      by (ltb m (kept_of unit n)) refl (ltb (kept_of unit n) m) refl
    where
      by : (b : Bool) → ltb m (kept_of unit n) ≡ b → (b' : Bool) → ltb (kept_of unit n) m ≡ b' → kept_of unit n ≡ m
      by true e b' f = absurd (less n m (kept_of unit n) c (kept_cut n) (ltb-true m (kept_of unit n) e))
      by false e true f = absurd (less n (kept_of unit n) m (kept_cut n) c (ltb-true (kept_of unit n) m f))
      by false e false f = omega (arith, ltb-false m (kept_of unit n) e, ltb-false (kept_of unit n) m f)

-- ---- of a list: a string, and zeros behind it

zero_at : (k i : ℕ) → ◌≡◌ {A = ℕ} (get_or (replicate k 0) i 0) 0
zero_at zero i = refl
zero_at (suc k) zero = refl
zero_at (suc k) (suc i) = zero_at k i

zero_behind : (s : List ℕ) (k i : ℕ) → length s ≤ i → get_or (s ++ replicate k 0) i 0 ≡ 0
zero_behind [] k i l = zero_at k i
zero_behind (x ∷ s) k zero l = absurd (omega arith)
zero_behind (x ∷ s) k (suc i) l = zero_behind s k i (omega arith)

module _ (unit : ℕ → ℕ) where
  pub string_cut : (s : List ℕ) (k : ℕ) → NoZeroLast s → ((i : ℕ) → i < length s + k → unit i ≡ get_or (s ++ replicate k 0) i 0) → Cut unit (length s + k) (length s)
  string_cut s k h same =
      record { within = omega arith; zeros = λ i l m. same i m ∙ zero_behind s k i l; last = ends }
    where
      ends : (i : ℕ) → suc i ≡ length s → unit i ≡ 0 → ⊥
      ends i e z =
          let l : i < length s = omega (arith, e) in
          let m : i < length s + k = omega (arith, e) in
          let last : get_or s i 0 ≡ 0 = sym (get_or-append s (replicate k 0) 0 i l) ∙ sym (same i m) ∙ z in
          let all : take (suc i) s ≡ s = ap (λ (n : ℕ). take n s) e ∙ take-length s in
          h (take i s) (sym all ∙ take-suc s i 0 l ∙ ap (λ (x : ℕ). take i s ++ (x ∷ [])) last)

  -- and back
  pub record CutString (s : List ℕ) (m : ℕ) : Type 0 where
    pub zeros : ℕ
    pub long : length (take m s) ≡ m
    pub all : m + zeros ≡ length s
    pub is : s ≡ take m s ++ replicate zeros 0
    pub cut : NoZeroLast (take m s)

  pub cut_string : (s : List ℕ) (n m : ℕ) → length s ≡ n → ((i : ℕ) → i < n → get_or s i 0 ≡ unit i) → Cut unit n m → CutString s m
  cut_string s n m e same c =
      let w : m ≤ length s = omega (arith, c.within, e) in
      let long : length (take m s) ≡ m = length-take-le m s w in
      let zeros : ℕ = length (drop m s) in
      record {
        zeros = zeros;
        long = long;
        all = omega (arith, length-drop m s);
        is = sym (take-append-drop m s) ∙ ap (λ (z : List ℕ). take m s ++ z) behind;
        cut = λ front f. ended front f;
      }
    where
      behind : drop m s ≡ replicate (length (drop m s)) 0
      behind = ext_get_or 0 (drop m s) (replicate (length (drop m s)) 0) (sym (length-replicate (length (drop m s)) 0))
          (λ i l. let k : m + i < n = omega (arith, e, length-drop m s) in get_or-drop m s i 0 ∙ same (m + i) k ∙ c.zeros (m + i) (omega arith) k ∙ sym (get_or-replicate (length (drop m s)) i 0 0 l))

      ended : (front : List ℕ) → take m s ≡ front ++ (0 ∷ []) → ⊥
      ended front f =
          let w : m ≤ length s = omega (arith, c.within, e) in
          let k : suc (length front) ≡ m = omega (arith, length-append front (0 ∷ []), ap length f, length-take-le m s w) in
          let l : length front < m = omega (arith, k) in
          let z : get_or s (length front) 0 ≡ 0 = sym (get_or-take m s (length front) 0 l) ∙ ap (λ (x : List ℕ). get_or x (length front) 0) f ∙ get_or-append_seam front 0 [] 0 in
          c.last (length front) k (sym (same (length front) (omega (arith, w, e))) ∙ z)
