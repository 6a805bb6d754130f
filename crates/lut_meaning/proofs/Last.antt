-- Refusal 14 comes last: no part of a tag is refused with it, so where it is answered everything else was good, and the slots alone are too
-- few. With as many as the tag needs the answer is a value.
-- Assumes nothing.
use Prim.Native.Nat.{ℕ, ◌+◌, ◌/◌, ◌≤◌, ◌<◌}
use native.Mathlib.Omega.{arith}
use mathlib.Core.Path.{◌≡◌, refl, ap, ◌∙◌}
use mathlib.Core.Bool.{true, false}
use mathlib.Core.List.{List}
use lib.Dec.{ltb}
use lib.ListN.{length}
use borrow.Author.Tests.{ltb-false, le-ltb}
use Rattle.fields.proofs.Never.{never}
use Rattle.fields.specs.Checked.{bad}
use Rattle.fields.specs.Place.{counted_size, counted_tag}
use Rattle.fields.proofs.Choice.{each}
use Rattle.lut_clut_meaning.proofs.Refuses.{Only}
use Rattle.curve_meaning.specs.Curve.{curve_of}
use Rattle.curve_meaning.specs.Shape.{record_words}
use Rattle.curve_meaning.specs.declared.Walk.{Walk}
use Rattle.curve_meaning.proofs.Last.{curve_not_14}
use Rattle.lut_mft_meaning.specs.Answer.{State as Mft-as-State, answer_of}
use Rattle.lut_mft_meaning.specs.Layout.{is_mft, shortest}
use Rattle.lut_mft_meaning.specs.Mft.{mft_of}
use Rattle.lut_mft_meaning.proofs.Refuses.{mft_refuses}
use Rattle.lut_meaning.specs.Abm.{value_of, abm_of}
use Rattle.lut_meaning.specs.Answer.{State, refused, Answer, from_mft}
use Rattle.lut_meaning.specs.Layout.{records_needed}
use Rattle.lut_meaning.specs.Lut.{is_abm, by_type, lut_of}
use Rattle.lut_meaning.specs.Parts.{ended}
use Rattle.lut_meaning.proofs.Found.{IsValue, AllGood, PartRefused, ways_out}
use Rattle.lut_meaning.proofs.Refuses.{part_refuses}

-- ---- no part is refused with 14

abbrev Other : ℕ → Type 0
Other n = n ≡ 14 → ⊥

curve_other : (limit : ℕ) (s : List ℕ) → Only Other (curve_of limit s)
curve_other limit s n e z = curve_not_14 limit s (e ∙ ap bad z)

part_other : (walk : Walk) (limit : ℕ) (t : List ℕ) (n : ℕ) → PartRefused walk limit t n → Other n
part_other walk limit t =
    part_refuses Other (λ z. omega arith) (λ z. omega arith) (λ z. omega arith) (λ z. omega arith) (λ z. omega arith) (λ z. omega arith) limit t (curve_other limit) walk

mft_other : (points : ℕ) (t : List ℕ) → (from_mft (answer_of t (mft_of points t))).state ≡ refused 14 → ⊥
unfolding answer_of
mft_other points t = by (mft_of points t) (mft_refuses Other (λ z. omega arith) (λ z. omega arith) (λ z. omega arith) (λ z. omega arith) points t)
  where
    by : (x : Mft-as-State) → ((n : ℕ) → x ≡ Mft-as-State.refused n → Other n) → (from_mft (answer_of t x)).state ≡ refused 14 → ⊥
    by (Mft-as-State.value f) k h = never cc
    by (Mft-as-State.refused n) k h = k n refl cc

-- ---- where 14 is answered

module _ (walk : Walk) (limit points : ℕ) (p : List ℕ) (entry size words : ℕ) where
  abbrev t : List ℕ
  t = counted_tag p entry size

  pub record Short : Type 0 where
    pub tag_in_profile : entry + counted_size size ≤ length p
    pub long : shortest ≤ counted_size size
    pub not_mft : is_mft t ≡ false
    pub type_is : is_abm t ≡ true
    pub parts_good : AllGood walk limit t
    pub few : words / record_words < records_needed t

  abbrev Behind : Answer → Type 0
  Behind a = a.state ≡ refused 14 → Short

  -- another refusal is not that
  not_so : (n : ℕ) (s : State) → s ≡ refused n → Other n → s ≡ refused 14 → Short
  not_so n s e f h = absurd (f cc)

  pub fourteen_behind : Behind (lut_of walk limit points p entry size words)
  unfolding lut_of by_type value_of
  fourteen_behind =
      each Behind (ltb (length p) (entry + counted_size size)) _ _ (λ _. not_so _ _ refl (λ z. omega arith))
      (λ fits. each Behind (ltb (counted_size size) shortest) _ _ (λ _. not_so _ _ refl (λ z. omega arith))
      (λ long. each Behind (is_mft t) _ _ (λ _ h. absurd (mft_other points t h))
      (λ not_mft. each Behind (is_abm t) _ _
      (λ type_is. ways_out walk limit t words Behind (λ h. never cc) (λ n e. not_so n _ refl (part_other walk limit t n e))
      (λ g few h. record { tag_in_profile = ltb-false _ _ fits; long = ltb-false _ _ long; not_mft = not_mft; type_is = type_is; parts_good = g; few = few })
      (λ _ _ h. never cc))
      (λ _. not_so _ _ refl (λ z. omega arith)))))

  -- with slots for all records everything stays, and the answer is a value
  pub enough : Short → (many : ℕ) → records_needed t ≤ many / record_words → IsValue (lut_of walk limit points p entry size many).state
  unfolding lut_of by_type abm_of ended value_of IsValue
  enough w many room =
      let g = w.parts_good in
      let r = g.runs_whole in
      rw (le-ltb (length p) (entry + counted_size size) w.tag_in_profile, le-ltb (counted_size size) shortest w.long, w.not_mft, w.type_is, g.few_channels, g.matrix_good, g.table_good, r.a_whole, r.m_whole, r.b_whole, le-ltb (many / record_words) (records_needed t) room) tt
