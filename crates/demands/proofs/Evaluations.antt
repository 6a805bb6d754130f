-- What a library that keeps the contracts owes of its evaluators: the theorems of evaluate_meaning, told of what the library returns and leaves.
-- Assumes nothing.
use Prim.Native.Nat.{ℕ, ◌≤◌, ◌<◌}
use mathlib.Core.Path.{◌≡◌, sym, ap, subst, ◌∙◌}
use mathlib.Core.List.{List, [], ◌++◌, append-nil}
use mathlib.Core.Logic.{◌⊎◌, inl, inr}
use lib.ListN.{length}
use Rattle.icc.specs.Numbers.{Each16}
use Rattle.fields.specs.Refusals.{no_colour_table, too_few_slots}
use Rattle.fields.proofs.Never.{never}
use Rattle.curve_meaning.specs.declared.Walk.{Walk}
use Rattle.lut_meaning.specs.Answer.{State, Answer as Lut-as-Answer}
use Rattle.lut_view_meaning.specs.View.{numbers_of, table_by}
use Rattle.lut_view_meaning.specs.declared.TableNumbers.{TableNumbers}
use Rattle.evaluate_meaning.specs.Answer.{value, refused, in_numbers}
use Rattle.evaluate_meaning.specs.Calls.{after_calls, AllServed}
use Rattle.evaluate_meaning.specs.Colour.{colour}
use Rattle.evaluate_meaning.specs.Evaluate.{pixels_of}
use Rattle.demands.specs.Returned.{Evaluation}
use Rattle.evaluate_meaning.proofs.Accepted.{pixel_served, row_served}
use Rattle.evaluate_meaning.proofs.Grow.{Stays, pixel_grows, row_grows}
use Rattle.evaluate_meaning.proofs.Room.{Room, pixel_room, row_room}
use Rattle.evaluate_meaning.proofs.Row.{pixel_coloured, row_is_calls, one_pixel}
use Rattle.evaluate_meaning.proofs.Unique.{unique}
use Rattle.demands.specs.Readers.{lut, Call, meaning, Evaluator, pixel, row, Pixels, pixels, results_asked, answer_by, after_by, evaluation, words_after, Library, evaluated, Promised, answered}
use Rattle.demands.specs.Demands.{tag, in_front, WholePixels, behind_tag, with_words, SameColours}

-- ---- the definitions, of both evaluators

pub room : (e : Evaluator) (c : Pixels) → Room (answer_by e c.tag c.table c.coordinates) (after_by e c.tag c.table c.coordinates) (results_asked e c) c.words
room pixel c = pixel_room c.tag c.table c.coordinates c.words
room row c = row_room c.tag c.table c.coordinates c.words

grows : (e : Evaluator) (c : Pixels) (q : List ℕ) → Each16 c.coordinates → Stays (evaluation e c) (evaluation e (behind_tag q c)) (words_after e c) (words_after e (behind_tag q c))
grows pixel c q low = pixel_grows c.tag q c.table c.coordinates c.words low
grows row c q low = row_grows c.tag q c.table c.coordinates c.words low

-- the numbers of an answer give the results asked for
abbrev Served : Call → Evaluator → List ℕ → List ℕ → State → Type 0
Served c e xs words s =
    let n : TableNumbers = numbers_of s in
    let asked : Pixels = pixels (tag c) n xs words in
    1 ≤ n.entry_size → 1 ≤ n.inputs → n.inputs ≤ 4 → WholePixels e n xs → results_asked e asked ≤ length words → evaluation e asked ≡ value (results_asked e asked)

served : (walk : Walk) (c : Call) (e : Evaluator) (xs words : List ℕ) → Served c e xs words (meaning (lut walk) c).state
served walk c pixel xs words sized input few whole room =
    pixel_served walk c.entries c.points c.profile c.entry c.size (length c.slots) sized input few xs (length words) whole room
served walk c row xs words sized input few whole room =
    row_served walk c.entries c.points c.profile c.entry c.size (length c.slots) sized input few xs (length words) whole room

-- ---- of a library that keeps the contracts

module _ (l : Library) (p : Promised l) where
  pub answer_so : (e : Evaluator) (c : Pixels) → evaluated l e c ≡ evaluation e c
  answer_so pixel c = (p.evaluates_so pixel c).answer
  answer_so row c = (p.evaluates_so row c).answer

  left_so : (e : Evaluator) (c : Pixels) → l.fills e c ≡ words_after e c
  left_so pixel c = (p.evaluates_so pixel c).left
  left_so row c = (p.evaluates_so row c).left

  same : (e : Evaluator) (c d : Pixels) (x : List ℕ) → evaluation e d ≡ evaluation e c → words_after e d ≡ words_after e c ++ x → SameColours l e c d x
  same e c d x f g =
      record {
        result = unique (evaluation e c) (l.evaluates e d) (l.evaluates e c) (answer_so e d ∙ f) (answer_so e c);
        words = left_so e d ∙ g ∙ ap (λ (w : List ℕ). w ++ x) (sym (left_so e c));
      }

  -- demand 1

  pub evaluation_ends : (e : Evaluator) (c : Pixels) → (evaluated l e c ≡ value (results_asked e c)) ⊎ (evaluated l e c ≡ refused no_colour_table) ⊎ (evaluated l e c ≡ refused too_few_slots)
  evaluation_ends e c = rw (answer_so e c) (room e c).ends

  pub refusal_leaves_words : (e : Evaluator) (c : Pixels) (n : ℕ) → evaluated l e c ≡ refused n → l.fills e c ≡ c.words
  refusal_leaves_words e c n h = left_so e c ∙ (room e c).refusal_leaves n (sym (answer_so e c) ∙ h)

  pub accepted_evaluates : (walk : Walk) (c : Call) (e : Evaluator) (xs words : List ℕ) → let n : TableNumbers = numbers_of (answered l (lut walk) c).state in let asked : Pixels = pixels (tag c) n xs words in 1 ≤ n.entry_size → 1 ≤ n.inputs → n.inputs ≤ 4 → WholePixels e n xs → results_asked e asked ≤ length words → evaluated l e asked ≡ value (results_asked e asked)
  accepted_evaluates walk c e xs words sized input few whole room =
      answer_so e _ ∙ subst (λ (a : Lut-as-Answer). Served c e xs words a.state) (sym (p.answers (lut walk) c)) (served walk c e xs words) sized input few whole room

  -- demand 2

  pub evaluated_once : (e : Evaluator) (c : Pixels) (x : Evaluation) → in_numbers x ≡ evaluation e c → x ≡ l.evaluates e c
  evaluated_once e c x h = unique (evaluation e c) x (l.evaluates e c) h (answer_so e c)

  pub coloured : (c : Pixels) (k : ℕ) → evaluated l pixel c ≡ value k → l.fills pixel c ≡ in_front (colour c.tag (table_by c.tag c.table) c.coordinates) c.words
  coloured c k h = left_so pixel c ∙ pixel_coloured c.tag c.table c.coordinates c.words k (sym (answer_so pixel c) ∙ h)

  pub calls : (c : Pixels) (k : ℕ) → evaluated l row c ≡ value k → let count : ℕ = pixels_of c.table c.coordinates in (l.fills row c ≡ after_calls c.tag c.table c.coordinates c.words count) × AllServed c.tag c.table c.coordinates (length c.words) count
  calls c k h =
      let w = row_is_calls c.tag c.table c.coordinates c.words k (sym (answer_so row c) ∙ h) in
      (left_so row c ∙ w.0, w.1)

  pub row_of_one : (c : Pixels) → length c.coordinates ≡ c.table.inputs → (l.evaluates row c ≡ l.evaluates pixel c) × (l.fills row c ≡ l.fills pixel c)
  row_of_one c h =
      let w = one_pixel c.tag c.table c.coordinates c.words h in
      (unique (evaluation pixel c) (l.evaluates row c) (l.evaluates pixel c) (answer_so row c ∙ w.answer) (answer_so pixel c), left_so row c ∙ w.left ∙ sym (left_so pixel c))

  -- demand 3

  pub tag_bytes_lem : (e : Evaluator) (c : Pixels) (q : List ℕ) → Each16 c.coordinates → (evaluated l e c ≡ refused no_colour_table) ⊎ SameColours l e c (behind_tag q c) []
  tag_bytes_lem e c q low = elim (grows e c q low) [
    | inl f ↦ inl (answer_so e c ∙ f)
    | inr f ↦ inr (same e c (behind_tag q c) [] f.0 (f.1 ∙ sym (append-nil (words_after e c))))
  ]

  pub more_words : (e : Evaluator) (c : Pixels) (x : List ℕ) → (evaluated l e c ≡ refused too_few_slots) ⊎ SameColours l e c (with_words x c) x
  more_words e c x = elim ((room e c).more x) [
    | inl f ↦ inl (answer_so e c ∙ f)
    | inr f ↦ inr (same e c (with_words x c) x f.0 f.1)
  ]

  pub words_short : (e : Evaluator) (c : Pixels) → evaluated l e c ≡ refused too_few_slots → length c.words < results_asked e c
  words_short e c h = (room e c).short (sym (answer_so e c) ∙ h)

  pub words_last : (e : Evaluator) (c : Pixels) (x : List ℕ) → evaluated l e c ≡ refused too_few_slots → results_asked e c ≤ length (c.words ++ x) → evaluated l e (with_words x c) ≡ value (results_asked e c)
  words_last e c x h enough = answer_so e (with_words x c) ∙ (room e c).last x (sym (answer_so e c) ∙ h) enough

  pub results_stay : (e : Evaluator) (c : Pixels) (q x : List ℕ) (k : ℕ) → Each16 c.coordinates → evaluated l e c ≡ value k → SameColours l e c (with_words x (behind_tag q c)) x
  results_stay e c q x k low h = elim (tag_bytes_lem e c q low) [
    | inl f ↦ never cc
    | inr s ↦ elim (more_words e (behind_tag q c) x) [
      | inl g ↦ never (let f : evaluated l e c ≡ refused too_few_slots = sym (ap in_numbers s.result) ∙ g in cc)
      | inr r ↦ record { result = r.result ∙ s.result; words = r.words ∙ ap (λ (w : List ℕ). w ++ x) (s.words ∙ append-nil (l.fills e c)) }
    ]
  ]
