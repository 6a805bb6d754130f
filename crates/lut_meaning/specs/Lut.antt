-- Lookup tables: what each call must answer, and what it leaves in the lent slots.
use Rattle.std.specs.Prelude.{ℕ, ◌+◌, ◌≡◌, Bool, cond, ◌||◌, List, ltb, eqb, length, Option, Result}
use Rattle.fields.specs.Bytes.{u32_at}
use Rattle.fields.specs.Place.{counted_size, counted_tag}
use Rattle.fields.specs.Tag.{signature_of}
use Rattle.fields.specs.declared.Kind.TheVariants.{Mab, Mba}
use Rattle.curve_meaning.specs.declared.Walk.{Walk}
use Rattle.lut_mft_meaning.specs.Answer.{answer_of}
use Rattle.lut_mft_meaning.specs.Layout.{is_mft, shortest}
use Rattle.lut_mft_meaning.specs.Mft.{mft_of}
use Rattle.lut_run_meaning.specs.Run.{records_of}
use Rattle.lut_meaning.specs.Abm.{abm_of}
use Rattle.lut_meaning.specs.Answer.{Answer, refuse, from_mft, in_numbers, slots_with}
use Rattle.lut_meaning.specs.Parts.{curves_of}
use Rattle.fields.specs.declared.Refusal.{Refusal}
use Rattle.lut_meaning.specs.declared.Lut.{Lut}

-- whether it is lutAToBType or lutBToAType
abbrev pub is_abm : List ℕ → Bool
is_abm t = eqb (u32_at t 0) (signature_of Mab) || eqb (u32_at t 0) (signature_of Mba)

-- by the type of the tag t
unfoldable pub by_type : Walk → ℕ → ℕ → List ℕ → ℕ → Answer
by_type walk limit points t words =
    cond (is_mft t) (from_mft (answer_of t (mft_of points t))) (
    cond (is_abm t) (abm_of walk limit t words) (
    refuse 3))

-- the tag of a profile, under the limits of curve entries and of grid points, with so many words lent
unfoldable pub lut_of : Walk → ℕ → ℕ → List ℕ → ℕ → ℕ → ℕ → Answer
lut_of walk limit points profile entry size words =
    cond (ltb (length profile) (entry + counted_size size)) (refuse 1) (
    cond (ltb (counted_size size) shortest) (refuse 2) (
    by_type walk limit points (counted_tag profile entry size) words))

-- what such a call leaves of the lent slots
abbrev pub slots_after : Walk → ℕ → ℕ → List ℕ → ℕ → ℕ → List ℕ → List ℕ
slots_after walk limit points profile entry size slots =
    let t = counted_tag profile entry size in
    slots_with (lut_of walk limit points profile entry size (length slots)).state (records_of (curves_of walk limit t)) slots

-- what a call answers, and what it leaves of the lent slots
pub record AnswerAndSlots (walk : Walk) (limit : ℕ) (t : List ℕ) (answer : Answer) (r : Result (Option Lut) Refusal) (before after : List ℕ) : Type 0 where
  pub answer_is : in_numbers r ≡ answer
  pub slots_are : after ≡ slots_with answer.state (records_of (curves_of walk limit t)) before
