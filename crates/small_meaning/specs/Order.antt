-- The order of checks that all small readers but `chad` share: too short, past the profile, of another type.
use Rattle.std.specs.Prelude.{ℕ, ◌+◌, cond, List, ltb, eqb, length, Option, None, Result, Ok, Err}
use Rattle.fields.specs.Bytes.{u32_at}
use Rattle.fields.specs.Place.{tag_at}
use Rattle.fields.specs.declared.Place.{Place}
use Rattle.fields.specs.declared.Refusal.{Refusal}
use Rattle.small_meaning.specs.Answer.{Answer, refused}
use Rattle.small_meaning.specs.declared.Unfound.{Unfound}

-- where the first `end` bytes of the tag at `entry` lie, if its size is no less than `least`, they lie in the profile, and their type is this
unfoldable pub found_of : ℕ → ℕ → ℕ → List ℕ → ℕ → ℕ → Result Place Unfound
found_of least end signature profile entry size =
    cond (ltb size least) (Err Unfound.Short) (
    cond (ltb (length profile) (entry + end)) (Err Unfound.Past) (
    cond (eqb (u32_at (tag_at profile entry end) 0) signature) (Ok record { start = entry; end = entry + end }) (
    Err Unfound.Other)))

-- the answer to each: to a tag that is too short, to one of another type, and to the tag itself; past the profile is refusal 1
unfoldable pub answer_to : Result Place Unfound → Answer → Answer → Answer → Answer
answer_to (Err Unfound.Short) short other this = short
answer_to (Err Unfound.Past) short other this = refused 1
answer_to (Err Unfound.Other) short other this = other
answer_to (Ok place) short other this = this

-- what most readers return of a tag that is not found: refused past the profile, and else no value
abbrev pub unfound_result : {A : Type 0} → Unfound → Result (Option A) Refusal
unfound_result Unfound.Short = Ok None
unfound_result Unfound.Past = Err Refusal.PastProfile
unfound_result Unfound.Other = Ok None
