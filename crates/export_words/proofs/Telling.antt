-- What is told stands in front of `out`; and what is told of a result: of one that a `match` took apart, of the answer that it stands for, and
-- by the room of `out`.
-- Assumes nothing.
use Prim.Native.Nat.{ℕ, ◌≤◌, ◌<◌}
use native.Mathlib.Omega.{arith}
use mathlib.Core.Path.{◌≡◌, refl, sym, ap, ◌∙◌}
use mathlib.Core.List.{List, ◌++◌}
use lib.ListN.{length, drop}
use Rattle.std.proofs.Common.{Option, Some, None, Result, Ok, Err}
use borrow.Author.Tests.{lt-ltb, le-ltb}
use Rattle.fields.specs.Refusals.{refusal_number}
use Rattle.fields.specs.declared.Refusal.{Refusal}
use Rattle.fields.proofs.Numbers.{name_of, named}
use Rattle.fields.proofs.Stores.{front}
use Rattle.export_words.specs.Exported.{Exported, value, only, told, within, Gave, GaveWith}
use Rattle.export_words.specs.declared.Layout.{Layout}

-- the words stand in front of `out`, and the rest of it stays
pub in_front_lem : {layout : ℕ → Layout} {t : Exported} {r : ℕ} {before after : List ℕ} → length t.words ≤ length before → Gave layout t r before after → after ≡ t.words ++ drop (length t.words) before
in_front_lem {layout} {t} {r} {before} {after} h g = g.out_is ∙ sym (front before t.words (length t.words) refl h)

-- of a result that is x
pub tells : {A : Type 0} (tell : A → Exported) {layout : ℕ → Layout} {got x : A} {r : ℕ} {before after : List ℕ} → got ≡ x → Gave layout (tell x) r before after → Gave layout (tell got) r before after
tells tell e g = rw e g

-- what is told of a reader's answer is what a definition tells of it that does so of each value, of none and of each refusal
pub told_by : {A : Type 0} (words : A → List ℕ) (none : Exported) (tell : Result (Option A) Refusal → Exported) → ((x : A) → tell (Ok (Some x)) ≡ value (words x)) → tell (Ok None) ≡ none → ((why : Refusal) → tell (Err why) ≡ only (refusal_number why)) → (got : Result (Option A) Refusal) → told words none got ≡ tell got
told_by words none tell v n r (Ok (Some x)) = sym (v x)
told_by words none tell v n r (Ok None) = sym n
told_by words none tell v n r (Err why) = sym (r why)

-- a status that is no value's has no words
pub no_words : {layout : ℕ → Layout} (n r : ℕ) (out : List ℕ) → r ≡ n → (n ≡ 0 → ⊥) → Gave layout (only n) r out out
no_words n r out e z = record { status_is = e; out_is = refl; as_laid_out = λ h. absurd (z h) }

-- the number of a refusal is none
pub refused_words : {layout : ℕ → Layout} (why : Refusal) (r : ℕ) (out : List ℕ) → r ≡ refusal_number why → Gave layout (only (refusal_number why)) r out out
refused_words why r out e =
    no_words (refusal_number why) r out e
    (λ h. let same : why ≡ name_of 0 = sym (named why) ∙ ap name_of h in let z : refusal_number (name_of 0) ≡ 0 = rw same at h in omega (arith, z))

-- lent words that are too few, and those that are enough
pub too_few : {layout : ℕ → Layout} (room : ℕ) (words out : List ℕ) (t : Exported) → length words < room → Gave layout (within room words t) 102 out out
unfolding within
too_few room words out t h = rw (lt-ltb _ _ h) (no_words 102 102 out refl (λ e. omega arith))

pub enough : (room : ℕ) (words : List ℕ) (t : Exported) → room ≤ length words → within room words t ≡ t
unfolding within
enough room words t h = rw (le-ltb _ _ h)

-- an `out` that is too short
pub no_room : {layout : ℕ → Layout} (room : ℕ) (out : List ℕ) (t : Exported) → length out < room → Gave layout (within room out t) 102 out out
no_room room out t h = too_few room out out t h

-- what is told of the result is told of the answer that it stands for
pub with_room : {layout : ℕ → Layout} (room : ℕ) (t u : Exported) (r : ℕ) (out after : List ℕ) → room ≤ length out → t ≡ u → Gave layout t r out after → Gave layout (within room out u) r out after
with_room room t u r out after h e g = rw (enough room out u h, ← e) g

-- the same beside lent slots
pub no_room_slots : {layout : ℕ → Layout} (room : ℕ) (t : Exported) (slots_after out slots : List ℕ) → length out < room → GaveWith layout room t slots_after 102 out out slots slots
no_room_slots room t slots_after out slots h = record { gave = no_room room out t h; slots_are = rw (lt-ltb _ _ h) }

pub with_room_slots : {layout : ℕ → Layout} (room : ℕ) (t u : Exported) (slots_after : List ℕ) (r : ℕ) (out after slots slots' : List ℕ) → room ≤ length out → t ≡ u → slots' ≡ slots_after → Gave layout t r out after → GaveWith layout room u slots_after r out after slots slots'
with_room_slots room t u slots_after r out after slots slots' h e f g =
    record { gave = with_room room t u r out after h e g; slots_are = rw (le-ltb _ _ h) f }

-- ---- what a caller has that lends enough room

-- what was told is what is told, and not the lack of room
pub was_told : {layout : ℕ → Layout} {t : Exported} {r : ℕ} {before after : List ℕ} (room : ℕ) → room ≤ length before → Gave layout (within room before t) r before after → Gave layout t r before after
was_told {layout} {t} {r} {before} room h g = rw (enough room before t h) at g

pub was_told_slots : {layout : ℕ → Layout} {t : Exported} {slots_after : List ℕ} {r : ℕ} {before after slots slots' : List ℕ} (room : ℕ) → room ≤ length before → GaveWith layout room t slots_after r before after slots slots' → slots' ≡ slots_after
was_told_slots room h g = rw (le-ltb _ _ h) at g.slots_are
