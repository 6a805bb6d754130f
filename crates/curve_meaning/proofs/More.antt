-- Demand 3 of the tone curve. Bytes behind the profile keep every answer but refusal 11 and the absence for want of four bytes; one by a
-- size of 1 to 11 stays. A higher limit keeps every answer but refusal 10. A value is kept by both at once.
-- Assumes nothing.
use Prim.Native.Nat.{ℕ, ◌+◌, ◌≤◌, ◌<◌}
use native.Mathlib.Omega.{arith}
use mathlib.Core.Path.{◌≡◌, refl, sym, ◌∙◌, ap}
use mathlib.Core.Bool.{Bool, true, false, cond, ◌&&◌}
use mathlib.Core.List.{List, ◌++◌}
use mathlib.Core.Logic.{◌⊎◌, inl, inr}
use lib.Dec.{ltb, leb, eqb}
use lib.ListN.{length, take, drop}
use borrow.Author.Tests.{ltb-true, ltb-false, eqb-true, eqb-false, le-leb, le-ltb, lt-ltb}
use Rattle.fields.proofs.Never.{never}
use Rattle.fields.specs.Checked.{Checked, bad}
use Rattle.curve_meaning.specs.Shape.{Shape}
use Rattle.fields.specs.Bytes.{u16_at, u32_at}
use Rattle.fields.specs.House.{tag_size}
use Rattle.fields.specs.Tag.{signature_of}
use Rattle.fields.specs.declared.Kind.TheVariants.{Curv, Para}
use Rattle.fields.proofs.Append.{u16_append, u32_append, words_append, longer, part_append, rest_append}
use Rattle.fields.proofs.Grow.{Grows, choose, passes}
use Rattle.curve_meaning.specs.Answer.{Answer, value, absent, refused, answer_of}
use Rattle.curve_meaning.specs.Curve.{trc_of, curve_of, curv_of, para_of, tag_of}
use Rattle.curve_meaning.specs.Layout.{parameter_count, entries_end, parameters_end}
use Rattle.curve_meaning.specs.declared.Walk.{Walk}

-- the answers that may change: those of one refusal
abbrev pub Is : ℕ → Answer → Type 0
Is n a = a ≡ refused n

abbrev pub No : ℕ → Checked Shape → Type 0
No n x = x ≡ bad n

-- what a curve's bytes say carries over to the answer
answered : (walk : Walk) (start n : ℕ) (x y : Checked Shape) → Grows (No n) x y → Grows (Is n) (answer_of walk start x) (answer_of walk start y)
unfolding answer_of
answered walk start n x y (inl e) = inl (rw e)
answered walk start n x y (inr e) = inr (ap (answer_of walk start) e)

-- ---- bytes behind the curve

module _ (t q : List ℕ) where
  table_more : (limit : ℕ) → tag_size ≤ length t → Grows (No 11) (curv_of limit t) (curv_of limit (t ++ q))
  unfolding curv_of
  table_more limit h =
      let n : ℕ = u32_at t 8 in
      rw (u32_append t q 8 h)
      (choose (No 11) (eqb n 0) (λ _. inr refl)
      (λ _. choose (No 11) (ltb limit n) (λ _. inr refl)
      (λ _. passes (No 11) (ltb (length t) (entries_end n)) (ltb (length (t ++ q)) (entries_end n)) (longer t q (entries_end n)) refl (λ _. inr refl))))

  para_more : tag_size ≤ length t → Grows (No 11) (para_of t) (para_of (t ++ q))
  unfolding para_of
  para_more h =
      let type : ℕ = u16_at t 8 in
      let n : ℕ = parameter_count type in
      rw (u16_append t q 8 (omega arith))
      (choose (No 11) (ltb 4 type) (λ _. inr refl)
      (λ _. passes (No 11) (ltb (length t) (parameters_end n)) (ltb (length (t ++ q)) (parameters_end n)) (longer t q (parameters_end n)) refl
      (λ e. rw (words_append t q 12 n (ltb-false (length t) (parameters_end n) e)) (inr refl))))

  pub curve_more : (limit : ℕ) → Grows (No 11) (curve_of limit t) (curve_of limit (t ++ q))
  unfolding curve_of
  curve_more limit =
      passes (No 11) (ltb (length t) tag_size) (ltb (length (t ++ q)) tag_size) (longer t q tag_size) refl
      (λ e.
      let l : tag_size ≤ length t = ltb-false (length t) tag_size e in
      rw (u32_append t q 0 (omega arith))
      (choose (No 11) (eqb (u32_at t 0) (signature_of Curv)) (λ _. table_more limit l)
      (λ _. choose (No 11) (eqb (u32_at t 0) (signature_of Para)) (λ _. para_more l) (λ _. inr refl))))

-- the tag, where it lies in the profile
tag_more : (limit : ℕ) (p q : List ℕ) (entry size : ℕ) (t : Bool) → entry + size ≤ length p → Grows (No 11) (curve_of limit (cond t (drop entry p) (take size (drop entry p)))) (curve_of limit (cond t (drop entry (p ++ q)) (take size (drop entry (p ++ q)))))
tag_more limit p q entry size true h = rw (rest_append p q entry (omega arith)) (curve_more (drop entry p) q limit)
tag_more limit p q entry size false h = rw (part_append p q entry size h) (inr refl)

-- what is short of four bytes is absent
pub short : (walk : Walk) (limit : ℕ) (p : List ℕ) (entry size : ℕ) → length p < entry + 4 → trc_of walk limit p entry size ≡ absent
unfolding trc_of
short walk limit p entry size h = rw (lt-ltb (length p) (entry + 4) h)

-- sizes 1 to 11 are absent whatever the profile is
pub small : (walk : Walk) (limit : ℕ) (p : List ℕ) (entry size : ℕ) → 1 ≤ size → size < tag_size → trc_of walk limit p entry size ≡ absent
unfolding trc_of
small walk limit p entry size h l = rw (le-leb 1 size h, lt-ltb size tag_size l) (by (ltb (length p) (entry + 4)))
  where
    by : (b : Bool) → cond b absent absent ≡ absent
    by true = refl
    by false = refl

-- the tag wants four bytes that the profile has not, and its size does not rule it out
pub record Wanting (p : List ℕ) (entry size : ℕ) : Type 0 where
  pub four : length p < entry + 4
  pub sized : (size ≡ 0) ⊎ (tag_size ≤ size)

-- a size is 0, from 12 on, or between
by_size : (size : ℕ) → ((size ≡ 0) ⊎ (tag_size ≤ size)) ⊎ ((1 ≤ size) × (size < tag_size))
by_size size = by (eqb size 0) refl (ltb size tag_size) refl
  where
    by : (b : Bool) → eqb size 0 ≡ b → (c : Bool) → ltb size tag_size ≡ c → ((size ≡ 0) ⊎ (tag_size ≤ size)) ⊎ ((1 ≤ size) × (size < tag_size))
    by true e c f = inl (inl (eqb-true size 0 e))
    by false e true f = inr (omega (arith, eqb-false size 0 e), ltb-true size tag_size f)
    by false e false f = inl (inr (ltb-false size tag_size f))

-- bytes behind the profile
pub more_bytes : (walk : Walk) (limit : ℕ) (p q : List ℕ) (entry size : ℕ) → Wanting p entry size ⊎ Grows (Is 11) (trc_of walk limit p entry size) (trc_of walk limit (p ++ q) entry size)
unfolding trc_of
more_bytes walk limit p q entry size = by (ltb (length p) (entry + 4)) refl
  where
    by : (t : Bool) → ltb (length p) (entry + 4) ≡ t → Wanting p entry size ⊎ Grows (Is 11) (trc_of walk limit p entry size) (trc_of walk limit (p ++ q) entry size)
    by true e = elim (by_size size) [
      | inl s ↦ inl record { four = ltb-true (length p) (entry + 4) e; sized = s }
      | inr s ↦ inr (inr (small walk limit (p ++ q) entry size s.0 s.1 ∙ sym (small walk limit p entry size s.0 s.1)))
    ]
    by false e =
        inr
        (rw (e, longer p q (entry + 4) e)
        (choose (Is 11) (leb 1 size && ltb size tag_size) (λ _. inr refl)
        (λ _. passes (Is 11) (ltb (length p) (entry + size)) (ltb (length (p ++ q)) (entry + size)) (longer p q (entry + size)) refl
        (λ f. answered walk tag_size 11 _ _ (tag_more limit p q entry size (eqb size 0) (ltb-false (length p) (entry + size) f))))))

-- ---- a higher limit

table_limit : (low high : ℕ) (t : List ℕ) → low ≤ high → Grows (No 10) (curv_of low t) (curv_of high t)
unfolding curv_of
table_limit low high t h =
    let n : ℕ = u32_at t 8 in
    choose (No 10) (eqb n 0) (λ _. inr refl)
    (λ _. passes (No 10) (ltb low n) (ltb high n) (λ e. le-ltb high n (omega (arith, ltb-false low n e))) refl (λ _. inr refl))

pub curve_limit : (low high : ℕ) (t : List ℕ) → low ≤ high → Grows (No 10) (curve_of low t) (curve_of high t)
unfolding curve_of
curve_limit low high t h =
    choose (No 10) (ltb (length t) tag_size) (λ _. inr refl)
    (λ _. choose (No 10) (eqb (u32_at t 0) (signature_of Curv)) (λ _. table_limit low high t h) (λ _. inr refl))

pub more_limit : (walk : Walk) (low high : ℕ) (p : List ℕ) (entry size : ℕ) → low ≤ high → Grows (Is 10) (trc_of walk low p entry size) (trc_of walk high p entry size)
unfolding trc_of
more_limit walk low high p entry size h =
    choose (Is 10) (ltb (length p) (entry + 4)) (λ _. inr refl)
    (λ _. choose (Is 10) (leb 1 size && ltb size tag_size) (λ _. inr refl)
    (λ _. choose (Is 10) (ltb (length p) (entry + size)) (λ _. inr refl)
    (λ _. answered walk tag_size 10 _ _ (curve_limit low high (tag_of p entry size) h))))

-- ---- both

-- a value keeps its record and its consumed size
pub value_stays : (walk : Walk) (low high : ℕ) (p q : List ℕ) (entry size : ℕ) (ws : List ℕ) (consumed : ℕ) → low ≤ high → trc_of walk low p entry size ≡ value ws consumed → trc_of walk high (p ++ q) entry size ≡ value ws consumed
value_stays walk low high p q entry size ws consumed h v =
    elim (more_limit walk low high p entry size h) [
      | inl e ↦ (never cc)
      | inr l ↦ elim (more_bytes walk high p q entry size) [
        | inl s ↦ (let n = short walk high p entry size s.four in never cc)
        | inr (inl e) ↦ (never cc)
        | inr (inr e) ↦ e ∙ l ∙ v
      ]
    ]
