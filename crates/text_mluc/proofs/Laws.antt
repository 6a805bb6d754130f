-- The reader of `mluc`, case by case, as the code meets it: each law takes what the tests and the calls on the way told, and gives what
-- is answered, and what is left of the slots.
-- Assumes nothing.
use Prim.Native.Nat.{ℕ, ◌*◌, ◌/◌, ◌≤◌, ◌<◌}
use mathlib.Core.Path.{◌≡◌, refl, sym, ap, ◌∙◌}
use mathlib.Core.List.{List, ◌++◌}
use lib.ListN.{length, drop}
use borrow.Author.Tests.{lt-ltb, le-ltb}
use Rattle.std.specs.Prelude.{Option, Some, None, Result, Ok, Err}
use Rattle.fields.specs.declared.Refusal.{Refusal}
use Rattle.text_meaning.specs.Answer.{mluc, refused, in_numbers, slots_with}
use Rattle.text_meaning.specs.Mluc.{whole, records_from, records_asked, records_in, text_record_words, words_in}
use Rattle.text_meaning.specs.Text.{AnswerAndSlots, faulty, slotted_of, mluc_of}
use Rattle.text_meaning.specs.declared.TextValue.{TextValue}
use Rattle.text_meaning.proofs.Shared.{leaving, same, words_length, whole_count}
use Rattle.text_mluc.specs.Items.{fault_from, end_from}
use Rattle.text_mluc.specs.declared.Fault.{Fault as CodeFault}

-- a fault leaves the slots as they were
fault_leaves : (s : List ℕ) (why : CodeFault) (ws : List ℕ) → slots_with (faulty (fault_from why)) ws s ≡ s
fault_leaves s CodeFault.Header ws = refl
fault_leaves s CodeFault.String ws = refl

module _ (t s : List ℕ) (n : ℕ) where
  pub slots_few : length s / text_record_words < n → AnswerAndSlots t (slotted_of n (length s)) (Err Refusal.TooFewSlots) s s
  unfolding slotted_of
  slots_few l = leaving t s _ _ (refused 14) (λ ws. refl) (rw (lt-ltb _ _ l)) refl

  pub slots_enough : n ≤ length s / text_record_words → n ≡ records_asked t → (records_from t 0 n).end ≡ whole → (s' : List ℕ) → s' ≡ words_in (records_from t 0 n).records ++ drop (n * text_record_words) s → AnswerAndSlots t (slotted_of n (length s)) (Ok (Some (TextValue.Mluc n))) s s'
  unfolding slotted_of records_in
  slots_enough l e g s' h =
      let enough : slotted_of n (length s) ≡ mluc n = rw (le-ltb _ _ l) in
      let all : List ℕ = words_in (records_from t 0 n).records in
      let long : length all ≡ n * text_record_words = words_length (records_from t 0 n).records ∙ ap (λ (i : ℕ). i * text_record_words) (whole_count t 0 n g) in
      record { answer_is = sym enough; slots_are = rw (enough, ← e, long) h }

module _ (t s : List ℕ) (n : ℕ) (e : n ≡ records_asked t) (v : Result Unit CodeFault) (j : end_from v ≡ (records_from t 0 n).end) where
  pub judged_whole : (u : Unit) → v ≡ Ok u → (records_from t 0 n).end ≡ whole
  judged_whole u w = sym j ∙ ap end_from w

  ends_so : (records_in t).end ≡ end_from v
  unfolding records_in
  ends_so = rw (← e) (sym j)

  pub mluc_whole : (r : Result (Option TextValue) Refusal) (s' : List ℕ) (u : Unit) → v ≡ Ok u → AnswerAndSlots t (slotted_of n (length s)) r s s' → AnswerAndSlots t (mluc_of t (length s)) r s s'
  unfolding mluc_of
  mluc_whole r s' u w h = same t s r _ _ s' (rw (ends_so, w, ← e)) h

  pub mluc_stopped : (r : Result (Option TextValue) Refusal) (why : CodeFault) → v ≡ Err why → in_numbers r ≡ faulty (fault_from why) → AnswerAndSlots t (mluc_of t (length s)) r s s
  unfolding mluc_of
  mluc_stopped r why w h = leaving t s r _ _ (fault_leaves s why) (rw (ends_so, w)) h

  pub mluc_header : v ≡ Err CodeFault.Header → AnswerAndSlots t (mluc_of t (length s)) (Err Refusal.TagTooShort) s s
  mluc_header w = mluc_stopped _ _ w refl

  pub mluc_string : v ≡ Err CodeFault.String → AnswerAndSlots t (mluc_of t (length s)) (Ok None) s s
  mluc_string w = mluc_stopped _ _ w refl

pub ruleset mluc_laws = (slots_few, slots_enough, judged_whole, mluc_whole, mluc_header, mluc_string)
