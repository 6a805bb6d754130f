-- The results of a reader and their numbers stand for each other. So one call has one answer: a result is determined by its numbers, and
-- those by the meaning. And what the meaning answers is the numbers of a result.
-- Assumes nothing.
use Prim.Native.Nat.{ℕ, ◌+◌}
use mathlib.Core.Path.{◌≡◌, refl, ap}
use mathlib.Core.List.{List}
use lib.Dec.{ltb}
use lib.ListN.{length}
use Rattle.std.specs.Prelude.{Option, Some, None, Result, Ok, Err}
use Rattle.fields.specs.Bytes.{bytes_at, words_at}
use Rattle.fields.specs.Place.{tag_at}
use Rattle.fields.specs.declared.Refusal.{Refusal}
use Rattle.fields.proofs.Choice.{each}
use Rattle.fields.proofs.Numbers.{named}
use Rattle.fields.proofs.Once.{once}
use Rattle.small_meaning.specs.Answer.{Answer, absent, default, matrix_numbers, signature_numbers, date_numbers, measurement_numbers, viewing_numbers, xyz_numbers, code_numbers, answer_in}
use Rattle.small_meaning.specs.Layout.{nine_numbers, signature_in, date_bytes, measurement, conditions, first_xyz, code_points}
use Rattle.small_meaning.specs.Readers.{Small, chad, sig, date, meas, view, xyz, cicp, SmallResult, small_numbers, small_of, small_value, result_of, small_result}
use Rattle.small_meaning.specs.Small.{window_of, triple_of}
use Rattle.small_meaning.proofs.Last.{chad_each}
use Rattle.small_meaning.proofs.Order.{order_each}

-- ---- from a result to its numbers and back

-- a result whose value stands for its numbers stands for its answer
alike : {A : Type 0} (numbers : A → List ℕ) (value_of : List ℕ → A) (none : Answer) → result_of value_of none ≡ Ok None → ((x : A) → value_of (numbers x) ≡ x) → (r : Result (Option A) Refusal) → result_of value_of (answer_in numbers none r) ≡ r
alike numbers value_of none n v (Ok (Some x)) = ap (λ y. Ok (Some y)) (v x)
alike numbers value_of none n v (Ok None) = n
alike numbers value_of none n v (Err why) = ap Err (named why)

back : (s : Small) (x : SmallResult s) → small_result s (small_numbers s x) ≡ x
back chad = alike matrix_numbers (small_value chad) absent refl (λ m. refl)
back sig = alike signature_numbers (small_value sig) absent refl (λ n. refl)
back date = alike date_numbers (small_value date) absent refl (λ bytes. refl)
back meas = alike measurement_numbers (small_value meas) absent refl (λ m. refl)
back view = alike viewing_numbers (small_value view) absent refl (λ v. refl)
back xyz = alike xyz_numbers (small_value xyz) default refl (λ n. refl)
back cicp = alike code_numbers (small_value cicp) absent refl (λ c. refl)

pub small_unique : (s : Small) (a : Answer) (x y : SmallResult s) → small_numbers s x ≡ a → small_numbers s y ≡ a → x ≡ y
small_unique s = once (small_numbers s) (small_result s) (back s)

-- ---- from a meaning to its result and back

-- the result of an answer has its numbers
Shown : Small → Answer → Type 0
Shown s a = small_numbers s (small_result s a) ≡ a

shown : (s : Small) (p : List ℕ) (entry size : ℕ) → Shown s (small_of s p entry size)
unfolding Shown nine_numbers signature_in date_bytes measurement conditions first_xyz code_points window_of triple_of words_at bytes_at
shown chad p entry size = chad_each (Shown chad) refl refl refl (λ t. refl) p entry size
shown sig p entry size = order_each (Shown sig) _ refl refl refl refl
shown date p entry size = order_each (Shown date) _ refl refl refl refl
shown meas p entry size =
    order_each (Shown meas) _ refl refl refl (each (Shown meas) (ltb (length p) (entry + 36)) _ _ (λ _. refl) (λ _. refl))
shown view p entry size = order_each (Shown view) _ refl refl refl refl
shown xyz p entry size =
    order_each (Shown xyz) _ refl refl refl (each (Shown xyz) (ltb (length (tag_at p entry size)) 20) _ _ (λ _. refl) (λ _. refl))
shown cicp p entry size = order_each (Shown cicp) _ refl refl refl refl

pub small_shown : (s : Small) (p : List ℕ) (entry size : ℕ) → small_numbers s (small_result s (small_of s p entry size)) ≡ small_of s p entry size
unfolding Shown
small_shown s p entry size = shown s p entry size
