-- More room: where the buffer is not too short, words lent behind it change no answer and no result, and stay as they were lent. The
-- refusal for too short a buffer comes last. Every refusal leaves the words as they were. Of one pixel and of a row alike.
-- Assumes nothing.
use Prim.Native.Nat.{ℕ, ◌*◌, ◌%◌, ◌≤◌, ◌<◌}
use native.Mathlib.Omega.{arith}
use mathlib.Core.Path.{◌≡◌, refl, sym}
use mathlib.Core.Bool.{Bool, true, false, cond, ◌||◌, not}
use mathlib.Core.List.{List, ◌++◌, append_assoc}
use mathlib.Core.Logic.{◌⊎◌, inl, inr}
use lib.Dec.{ltb, eqb}
use lib.ListN.{length, drop, length-append}
use lib.Seq.{drop-append-le}
use borrow.Author.Tests.{ltb-true, ltb-false, le-ltb}
use Rattle.fields.specs.Refusals.{no_colour_table, too_few_slots}
use Rattle.fields.proofs.Never.{never}
use Rattle.lut_view_meaning.specs.View.{table_by}
use Rattle.lut_view_meaning.specs.declared.TableNumbers.{TableNumbers}
use Rattle.evaluate_meaning.specs.Answer.{Answer, value, refused}
use Rattle.evaluate_meaning.specs.Colour.{colour}
use Rattle.evaluate_meaning.specs.Evaluate.{no_table, written, pixel_answer, pixel_after, colours_of, pixels_of, row_answer, row_after}

-- how both calls answer: 19 where a test says so, 14 where the room is less than the results, else the results
abbrev pub room_answer : Bool → ℕ → ℕ → Answer
room_answer bad results room = cond bad (refused no_colour_table) (cond (ltb room results) (refused too_few_slots) (value results))

-- what lets a value pass
pub passed : (bad : Bool) (results room k : ℕ) → room_answer bad results room ≡ value k → (bad ≡ false) × (results ≤ room)
passed true results room k h = never cc
passed false results room k h = by (ltb room results) refl
  where
    by : (b : Bool) → ltb room results ≡ b → (false ≡ false) × (results ≤ room)
    by true e = never (let f : refused too_few_slots ≡ value k = rw e at h in cc)
    by false e = (refl, ltb-false room results e)

-- a call by the words lent, where so many are to be written
pub record Room (answer : ℕ → Answer) (after : List ℕ → List ℕ) (results : ℕ) (words : List ℕ) : Type 0 where
  -- how it ends
  pub ends : (answer (length words) ≡ value results) ⊎ (answer (length words) ≡ refused no_colour_table) ⊎ (answer (length words) ≡ refused too_few_slots)
  pub refusal_leaves : (e : ℕ) → answer (length words) ≡ refused e → after words ≡ words
  -- with words x behind
  pub more : (x : List ℕ)
      → (answer (length words) ≡ refused too_few_slots)
      ⊎ ((answer (length (words ++ x)) ≡ answer (length words)) × (after (words ++ x) ≡ after words ++ x))
  pub short : answer (length words) ≡ refused too_few_slots → length words < results
  pub last : (x : List ℕ)
      → answer (length words) ≡ refused too_few_slots
      → results ≤ length (words ++ x)
      → answer (length (words ++ x)) ≡ value results

module _ (bad : Bool) (results : ℕ) (colours words : List ℕ) where
  room : Room (room_answer bad results) (λ s. written (room_answer bad results (length s)) colours s) results words
  room = by bad (ltb (length words) results) refl
    where
      by : (b s : Bool) → ltb (length words) results ≡ s → Room (room_answer b results) (λ s. written (room_answer b results (length s)) colours s) results words
      by true s e =
          record {
            ends = inr (inl refl);
            refusal_leaves = λ _ _. refl;
            more = λ x. inr (refl, refl);
            short = λ f. never cc;
            last = λ x f. never cc;
          }
      by false true e =
          record {
            ends = rw e (inr (inr refl));
            refusal_leaves = λ _ _. rw e;
            more = λ x. inl (rw e);
            short = λ _. ltb-true (length words) results e;
            last = λ x _ l. rw (le-ltb _ _ l);
          }
      by false false e =
          let fits : results ≤ length words = ltb-false (length words) results e in
          let wide : (x : List ℕ) → ltb (length (words ++ x)) results ≡ false = λ x. le-ltb (length (words ++ x)) results (omega (arith, length-append words x)) in
          record {
            ends = rw e (inl refl);
            refusal_leaves = λ n f. never (let g : value results ≡ refused n = rw e at f in cc);
            more = λ x. inr (rw (e, wide x), rw (e, wide x, drop-append-le results words x fits) (sym (append_assoc colours (drop results words) x)));
            short = λ f. never (let g : value results ≡ refused too_few_slots = rw e at f in cc);
            last = λ x _ l. rw (le-ltb _ _ l);
          }

module _ (t : List ℕ) (n : TableNumbers) (xs words : List ℕ) where
  pub pixel_room : Room (pixel_answer t n xs) (pixel_after t n xs) n.outputs words
  unfolding pixel_answer pixel_after
  pixel_room = room (no_table t n || not (eqb (length xs) n.inputs)) n.outputs (colour t (table_by t n) xs) words

  pub row_room : Room (row_answer t n xs) (row_after t n xs) (pixels_of n xs * n.outputs) words
  unfolding row_answer row_after
  row_room = room (no_table t n || not (eqb (length xs % n.inputs) 0)) (pixels_of n xs * n.outputs) (colours_of t n xs (pixels_of n xs)) words
