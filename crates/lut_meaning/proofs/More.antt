-- Demand 3 of lookup tables. Bytes behind the profile keep every answer but refusal 1; a higher limit of curve entries every one but refusal
-- 10, of grid points but refusal 16; more slots every one but refusal 14. A value keeps its records too.
-- Assumes nothing.
use Prim.Native.Nat.{ℕ, ◌+◌, ◌/◌, ◌≤◌}
use native.Mathlib.Omega.{arith}
use mathlib.Core.Path.{◌≡◌, refl, sym, ap, ◌∙◌}
use mathlib.Core.Bool.{◌&&◌}
use mathlib.Core.List.{List, ◌++◌, append_assoc}
use mathlib.Core.Logic.{◌⊎◌, inl, inr}
use lib.Dec.{ltb}
use lib.ListN.{length, drop, length-append}
use lib.Seq.{drop-append-le}
use borrow.Author.Tests.{ltb-false, le-ltb}
use Rattle.fields.proofs.Never.{never}
use Rattle.fields.specs.Checked.{Checked, good, bad}
use Rattle.fields.specs.Place.{counted_size, counted_tag}
use Rattle.fields.proofs.Append.{longer, part_append}
use Rattle.fields.proofs.Grow.{Grows, choose, passes}
use Rattle.curve_meaning.specs.Shape.{record_words}
use Rattle.curve_meaning.specs.declared.Walk.{Walk}
use Rattle.lut_mft_meaning.specs.Answer.{State as Mft-as-State, answer_of}
use Rattle.lut_mft_meaning.specs.Layout.{is_mft, shortest}
use Rattle.lut_mft_meaning.specs.Mft.{mft_of}
use Rattle.lut_mft_meaning.proofs.More.{Is as MftIs, more_limit as mft-limit}
use Rattle.lut_run_meaning.specs.Run.{whole, Run, run_at, records_of}
use Rattle.lut_run_meaning.proofs.Limit.{Over, run_limit}
use Rattle.lut_meaning.specs.Abm.{abm_of}
use Rattle.lut_meaning.specs.Answer.{State, mft, abm, absent, refused, Answer, from_mft, or_refused, slots_with}
use Rattle.lut_meaning.specs.Layout.{inputs, outputs, a_offset, m_offset, b_offset, a_curves_of, m_curves_of, b_curves_of, records_needed}
use Rattle.lut_meaning.specs.Lut.{is_abm, by_type, lut_of, slots_after}
use Rattle.lut_meaning.specs.Parts.{matrix_checked, colour_table_of, run_a, run_m, run_b, ended, RunsWhole, curves_of}
use Rattle.lut_meaning.proofs.Found.{IsValue, not_refused, abm_found}
use Rattle.lut_meaning.proofs.Shared.{all_length}

-- the answers that may change: those of one refusal
abbrev pub Is : ℕ → Answer → Type 0
Is n a = a.state ≡ refused n

-- ---- bytes behind the profile: the tag is fixed by its size

pub more_bytes : (walk : Walk) (limit points : ℕ) (p q : List ℕ) (entry size words : ℕ) → Grows (Is 1) (lut_of walk limit points p entry size words) (lut_of walk limit points (p ++ q) entry size words)
unfolding lut_of
more_bytes walk limit points p q entry size words =
    passes (Is 1) (ltb (length p) (entry + counted_size size)) (ltb (length (p ++ q)) (entry + counted_size size)) (longer p q (entry + counted_size size)) refl
    (λ e. choose (Is 1) (ltb (counted_size size) shortest) (λ _. inr refl)
    (λ _. rw (part_append p q entry (counted_size size) (ltb-false (length p) (entry + counted_size size) e)) (inr refl)))

same_tag : (p q : List ℕ) (entry size : ℕ) → entry + counted_size size ≤ length p → counted_tag (p ++ q) entry size ≡ counted_tag p entry size
same_tag p q entry size h = part_append p q entry (counted_size size) h

-- ---- a higher limit

-- the same verdict before a part that may change
before : {A : Type 0} (n : ℕ) (c : Checked A) (a b : Answer) → Grows (Is n) a b → Grows (Is n) (or_refused c a) (or_refused c b)
before n (good _) a b g = g
before n (bad m) a b g = inr refl

-- a run that may change before a part that may change
run_grows : (r s : Run) (a b : Answer) → Grows Over r s → Grows (Is 10) a b → Grows (Is 10) (or_refused (ended r.end) a) (or_refused (ended s.end) b)
unfolding ended
run_grows r s a b (inl o) g = inl (rw o.is_ten)
run_grows r s a b (inr e) g = rw e (before 10 (ended r.end) a b g)

-- where `mAB ` and `mBA ` may change so, and `mft1` and `mft2` so, tags and profiles do: with other limits, and other slots
module _ (n : ℕ) (walk : Walk) (low high : ℕ) (points more : ℕ) (few many : ℕ) (g : (t : List ℕ) → Grows (Is n) (abm_of walk low t few) (abm_of walk high t many)) (m : (t : List ℕ) → Grows (Is n) (from_mft (answer_of t (mft_of points t))) (from_mft (answer_of t (mft_of more t)))) where
  type_grows : (t : List ℕ) → Grows (Is n) (by_type walk low points t few) (by_type walk high more t many)
  unfolding by_type
  type_grows t =
      choose (Is n) (is_mft t) (λ _. m t)
      (λ _. choose (Is n) (is_abm t) (λ _. g t) (λ _. inr refl))

  lut_grows : (p : List ℕ) (entry size : ℕ) → Grows (Is n) (lut_of walk low points p entry size few) (lut_of walk high more p entry size many)
  unfolding lut_of
  lut_grows p entry size =
      choose (Is n) (ltb (length p) (entry + counted_size size)) (λ _. inr refl)
      (λ _. choose (Is n) (ltb (counted_size size) shortest) (λ _. inr refl) (λ _. type_grows (counted_tag p entry size)))

module _ (walk : Walk) (low high : ℕ) (h : low ≤ high) (points : ℕ) where
  abm_limit : (words : ℕ) (t : List ℕ) → Grows (Is 10) (abm_of walk low t words) (abm_of walk high t words)
  unfolding abm_of
  abm_limit words t =
      choose (Is 10) (ltb 4 (inputs t) && ltb 4 (outputs t)) (λ _. inr refl)
      (λ _. before 10 (matrix_checked t) _ _ (before 10 (colour_table_of t) _ _
      (run_grows (run_a walk low t) (run_a walk high t) _ _ (run_limit walk low high t h (a_offset t) (a_curves_of t))
      (run_grows (run_m walk low t) (run_m walk high t) _ _ (run_limit walk low high t h (m_offset t) (m_curves_of t))
      (run_grows (run_b walk low t) (run_b walk high t) _ _ (run_limit walk low high t h (b_offset t) (b_curves_of t)) (inr refl))))))

  pub more_limit : (p : List ℕ) (entry size words : ℕ) → Grows (Is 10) (lut_of walk low points p entry size words) (lut_of walk high points p entry size words)
  more_limit p entry size words = lut_grows 10 walk low high points points words words (abm_limit words) (λ t. inr refl) p entry size

-- ---- a higher limit of grid points

mft_answered : (t : List ℕ) (x y : Mft-as-State) → Grows (MftIs 16) x y → Grows (Is 16) (from_mft (answer_of t x)) (from_mft (answer_of t y))
unfolding answer_of
mft_answered t x y (inl e) = inl (rw e)
mft_answered t x y (inr e) = inr (ap (λ (a : Mft-as-State). from_mft (answer_of t a)) e)

module _ (walk : Walk) (limit : ℕ) (low high : ℕ) (h : low ≤ high) where
  pub more_points : (p : List ℕ) (entry size words : ℕ) → Grows (Is 16) (lut_of walk limit low p entry size words) (lut_of walk limit high p entry size words)
  more_points p entry size words =
      lut_grows 16 walk limit limit low high words words (λ t. inr refl) (λ t. mft_answered t (mft_of low t) (mft_of high t) (mft-limit low high h t)) p entry size

-- both limits at once
pub more_limits : (walk : Walk) (low high : ℕ) → low ≤ high → (points more : ℕ) → points ≤ more → (p : List ℕ) (entry size words : ℕ) → Grows (λ a. Is 10 a ⊎ Is 16 a) (lut_of walk low points p entry size words) (lut_of walk high more p entry size words)
more_limits walk low high l points more m p entry size words = elim (more_limit walk low high l points p entry size words) [
  | inl e ↦ inl (inl e)
  | inr e ↦ elim (more_points walk high points more m p entry size words) [
    | inl f ↦ inl (inr (ap (λ (a : Answer). a.state) (sym e) ∙ f))
    | inr f ↦ inr (f ∙ e)
  ]
]

-- ---- more slots

module _ (walk : Walk) (limit points : ℕ) (few many : ℕ) (h : few ≤ many) where
  abm_slots : (t : List ℕ) → Grows (Is 14) (abm_of walk limit t few) (abm_of walk limit t many)
  unfolding abm_of
  abm_slots t =
      choose (Is 14) (ltb 4 (inputs t) && ltb 4 (outputs t)) (λ _. inr refl)
      (λ _. before 14 (matrix_checked t) _ _ (before 14 (colour_table_of t) _ _
      (before 14 (ended (run_a walk limit t).end) _ _ (before 14 (ended (run_m walk limit t).end) _ _ (before 14 (ended (run_b walk limit t).end) _ _
      (passes (Is 14) (ltb (few / record_words) (records_needed t)) (ltb (many / record_words) (records_needed t))
      (λ e. le-ltb (many / record_words) (records_needed t) (omega (arith, ltb-false (few / record_words) (records_needed t) e, h))) refl (λ _. inr refl)))))))

  pub more_slots : (p : List ℕ) (entry size : ℕ) → Grows (Is 14) (lut_of walk limit points p entry size few) (lut_of walk limit points p entry size many)
  more_slots = lut_grows 14 walk limit limit points points few many abm_slots (λ t. inr refl)

-- ---- all at once

-- a whole run is kept by a higher limit
run_stays : (walk : Walk) (low high : ℕ) (t : List ℕ) → low ≤ high → (at n : ℕ) → (run_at walk low t at n).end ≡ whole → run_at walk high t at n ≡ run_at walk low t at n
run_stays walk low high t h at n w = elim (run_limit walk low high t h at n) [
  | inl o ↦ (let e = o.is_ten in never cc)
  | inr e ↦ e
]

curves_stay : (walk : Walk) (low high : ℕ) (t : List ℕ) → low ≤ high → RunsWhole walk low t → curves_of walk high t ≡ curves_of walk low t
unfolding curves_of
curves_stay walk low high t h w =
    rw (run_stays walk low high t h (a_offset t) (a_curves_of t) w.a_whole, run_stays walk low high t h (m_offset t) (m_curves_of t) w.m_whole, run_stays walk low high t h (b_offset t) (b_curves_of t) w.b_whole)

-- what may change is not a value, so a value is kept
kept : (a b : Answer) (n : ℕ) → IsValue a.state → Grows (Is n) a b → b ≡ a
kept a b n v (inl e) = not_refused e v
kept a b n v (inr e) = e

value_kept : {a b : Answer} → b ≡ a → IsValue a.state → IsValue b.state
value_kept e v = rw e v

-- with bytes q behind the profile, higher limits and the slots x behind those lent, a value keeps every field, and every word is left as
-- before, those of x as they were
pub record Stays (walk : Walk) (low high : ℕ) (points more : ℕ) (p q : List ℕ) (entry size : ℕ) (slots x : List ℕ) : Type 0 where
  pub answer_stays : lut_of walk high more (p ++ q) entry size (length (slots ++ x)) ≡ lut_of walk low points p entry size (length slots)
  pub slots_stay : slots_after walk high more (p ++ q) entry size (slots ++ x) ≡ slots_after walk low points p entry size slots ++ x

module _ (walk : Walk) (low high : ℕ) (l : low ≤ high) (points more : ℕ) (m : points ≤ more) (p q : List ℕ) (entry size : ℕ) (slots x : List ℕ) where
  abbrev t : List ℕ
  t = counted_tag p entry size

  abbrev before_all : Answer
  before_all = lut_of walk low points p entry size (length slots)

  answer_kept : IsValue before_all.state → lut_of walk high more (p ++ q) entry size (length (slots ++ x)) ≡ before_all
  answer_kept v =
      let room : length slots ≤ length (slots ++ x) = simp length-append (omega arith) in
      let e₁ = kept _ _ 10 v (more_limit walk low high l points p entry size (length slots)) in
      let v₁ = value_kept e₁ v in
      let e₂ = kept _ _ 16 v₁ (more_points walk high points more m p entry size (length slots)) in
      let v₂ = value_kept e₂ v₁ in
      let e₃ = kept _ _ 14 v₂ (more_slots walk high more (length slots) (length (slots ++ x)) room p entry size) in
      let v₃ = value_kept e₃ v₂ in
      let e₄ = kept _ _ 1 v₃ (more_bytes walk high more p q entry size (length (slots ++ x))) in
      e₄ ∙ e₃ ∙ e₂ ∙ e₁

  slots_kept : (s : State) → before_all.state ≡ s → IsValue s → slots_with s (records_of (curves_of walk high (counted_tag (p ++ q) entry size))) (slots ++ x) ≡ slots_with s (records_of (curves_of walk low t)) slots ++ x
  unfolding IsValue
  slots_kept (mft f) h v = refl
  slots_kept (abm f) h v =
      let w = abm_found walk low points p entry size (length slots) f h in
      let fine = w.behind.parts_good.runs_whole in
      let rs : List ℕ = records_of (curves_of walk low t) in
      let n : length rs ≤ length slots = omega (arith, all_length walk low t fine, w.behind.room) in
      rw (same_tag p q entry size w.tag_in_profile, curves_stay walk low high t l fine, drop-append-le (length rs) slots x n)
      (sym (append_assoc rs (drop (length rs) slots) x))
  slots_kept absent h v = absurd v
  slots_kept (refused n) h v = absurd v

  pub value_stays : IsValue before_all.state → Stays walk low high points more p q entry size slots x
  value_stays v = record { answer_stays = answer_kept v; slots_stay = rw (answer_kept v) (slots_kept before_all.state refl v) }
