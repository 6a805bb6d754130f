-- The reader of lookup tables, case by case, as the code meets it: each law gives what is answered and what is left of the slots.
-- Assumes nothing.
use Prim.Native.Nat.{ℕ, ◌+◌, ◌-◌, ◌*◌, ◌/◌, ◌≤◌, ◌<◌}
use native.Mathlib.Omega.{arith}
use mathlib.Core.Path.{◌≡◌, refl, sym, ◌∙◌, ap}
use mathlib.Core.Bool.{Bool, true, false, cond, ◌&&◌}
use mathlib.Core.List.{List, ◌++◌}
use lib.Dec.{ltb, eqb}
use lib.ListN.{length, get_or, take, drop}
use borrow.Author.Tests.{eq-eqb, ne_eqb, lt-ltb, le-ltb}
use Rattle.fields.proofs.Never.{never}
use Rattle.fields.specs.Checked.{Checked, good, bad, and_then}
use Rattle.fields.specs.Bytes.{u32_at}
use Rattle.fields.specs.Place.{place_of, counted_size, counted_tag}
use Rattle.fields.specs.Refusals.{refusal_number}
use Rattle.fields.specs.Tag.{signature_of}
use Rattle.fields.specs.declared.Kind.TheVariants.{Mab, Mba}
use Rattle.fields.specs.declared.Place.{Place}
use Rattle.std.specs.Prelude.{Option, Some, None, Result, Ok, Err}
use Rattle.std.specs.Result.{IsErrAnd}
use Rattle.std.proofs.lemmas.Result.{err_from_is_err_and}
use Rattle.fields.specs.declared.Refusal.{Refusal}
use Rattle.fields.proofs.Located.{inside, past, part_is}
use Rattle.lut_clut_meaning.specs.Answer.{in_numbers as Clut·inNumbers, answer_of as Clut·answerOf, Answer as Clut-as-Answer, value as Clut·value, refused as Clut·refused}
use Rattle.lut_clut_meaning.specs.Clut.{clut_of}
use Rattle.lut_clut_meaning.specs.Table.{Table, product}
use Rattle.lut_clut_meaning.specs.declared.ColourTable.{ColourTable}
use Rattle.curve_meaning.specs.Shape.{record_words}
use Rattle.curve_meaning.specs.declared.Walk.{Walk}
use Rattle.lut_mft_meaning.specs.Answer.{State as Mft-as-State, answer_of, in_numbers as Mft·inNumbers}
use Rattle.lut_mft_meaning.specs.Layout.{is_mft, shortest}
use Rattle.lut_mft_meaning.specs.Mft.{mft_of}
use Rattle.lut_mft_meaning.specs.declared.Mft.{Mft}
use Rattle.lut_run_meaning.specs.Run.{records_of}
use Rattle.lut_meaning.specs.Abm.{value_of, abm_of}
use Rattle.lut_meaning.specs.Answer.{abm, Answer, none, refuse, or_refused, mft_state, from_mft, in_numbers, slots_with}
use Rattle.lut_meaning.specs.Layout.{to_pcs_of, inputs, outputs, clut_offset, records_needed, grid_of, matrix_of, bias_of}
use Rattle.lut_meaning.specs.Lut.{AnswerAndSlots, is_abm, by_type, lut_of}
use Rattle.lut_meaning.specs.Parts.{matrix_checked, table_in, colour_table_of, run_a, run_m, run_b, ended, RunsWhole, curves_of}
use Rattle.lut.specs.Passed.{Opened, TableGood}
use Rattle.lut.specs.Runs.{RunsOf, runs_checked}
use Rattle.lut.specs.Verdict.{verdict_in_numbers}
use Rattle.lut_meaning.specs.declared.Lut.{Lut}
use Rattle.lut.specs.declared.abm.Runs.{Runs}
use Rattle.lut_meaning.proofs.Shared.{ended_good, table_in_lem, all_length}

-- ---- the parts of the answer

module _ (t : List ℕ) (n : ℕ) (h : n ≡ get_or t 8 0) where
  pub few_inputs : n ≤ 4 → false ≡ ltb 4 (inputs t) && ltb 4 (outputs t)
  few_inputs l = simp (← h, le-ltb _ _ l)

  pub many_inputs : 4 < n → (m : ℕ) → m ≡ get_or t 9 0 → ltb 4 m ≡ ltb 4 (inputs t) && ltb 4 (outputs t)
  many_inputs l m e = simp (← h, ← e, lt-ltb _ _ l)

module _ (t : List ℕ) (at : ℕ) (h : at ≡ clut_offset t) where
  pub table_none : at ≡ 0 → Clut·value 1 0 0 0 ≡ Clut·answerOf (colour_table_of t)
  unfolding colour_table_of Clut·answerOf product
  table_none e = simp (← h, eq-eqb _ _ e)

  pub table_there : (at ≡ 0 → ⊥) → (i o : ℕ) → i ≡ get_or t 8 0 → o ≡ get_or t 9 0 → (r : Clut-as-Answer) → r ≡ Clut·answerOf (clut_of t at i o) → r ≡ Clut·answerOf (colour_table_of t)
  unfolding colour_table_of
  table_there e i o ei eo r w = simp (← h, ne_eqb _ _ e, ← ei, ← eo) w

pub valued : (t : List ℕ) (p : Runs) → RunsOf t p → (c : ColourTable) → TableGood t c → (to : Bool) (i o : ℕ) (g m b : List ℕ) → to ≡ to_pcs_of t → i ≡ get_or t 8 0 → o ≡ get_or t 9 0 → g ≡ grid_of t → m ≡ matrix_of t → b ≡ bias_of t → record { state = abm record { to_pcs_of = to; inputs = i; outputs = o; start = c.start.0; bytes = c.length; size = c.entry_size; a = p.a.curves; m = p.m.curves; b = p.b.curves }; grid = g; matrix = m; bias = b } ≡ value_of t
unfolding value_of
valued t p w c k to i o g m b e₁ e₂ e₃ e₄ e₅ e₆ =
    rw (e₁, e₂, e₃, e₄, e₅, e₆, k.start_is, k.length_is, k.size_is, w.a_curves_lem.is, w.m_curves_lem.is, w.b_curves_lem.is)

-- ---- the runs, one after the other

first_good : (j k : Checked Unit) → and_then j k ≡ good tt → j ≡ good tt
first_good (good _) k h = refl
first_good (bad n) k h = h

second_good : (j k : Checked Unit) → and_then j k ≡ good tt → k ≡ good tt
second_good (good _) k h = h
second_good (bad n) k h = never cc

-- ---- what is answered, and what is left

-- a refusal that is handed on
pub handed_on : (r : Result (Option Lut) Refusal) (why : Refusal) → IsErrAnd r (λ y. y ≡ why) → in_numbers r ≡ refuse (refusal_number why)
handed_on r why e = let p = err_from_is_err_and r e in rw (p.1, p.2) refl

module _ (walk : Walk) (limit : ℕ) (t s : List ℕ) (a : Answer) (r : Result (Option Lut) Refusal) where
  pub refusing : (n : ℕ) → a ≡ refuse n → in_numbers r ≡ refuse n → AnswerAndSlots walk limit t a r s s
  refusing n e h = record { answer_is = h ∙ sym e; slots_are = rw e }

  pub missing : a ≡ none → in_numbers r ≡ none → AnswerAndSlots walk limit t a r s s
  missing e h = record { answer_is = h ∙ sym e; slots_are = rw e }

  -- a meaning that comes to another
  pub same : (b : Answer) (u : List ℕ) → b ≡ a → AnswerAndSlots walk limit t b r s u → AnswerAndSlots walk limit t a r s u
  same b u e h = rw e at h

-- the ladder behind the checks that are passed
module _ (walk : Walk) (limit : ℕ) (t : List ℕ) (words : ℕ) where
  abbrev slotted : Answer
  slotted = cond (ltb (words / record_words) (records_needed t)) (refuse 14) (value_of t)

  joined : (j k : Checked Unit) (a : Answer) → or_refused j (or_refused k a) ≡ or_refused (and_then j k) a
  joined (good _) k a = refl
  joined (bad n) k a = refl

  behind_table : Opened t → colour_table_of t ≡ good (table_in t) → abm_of walk limit t words ≡ or_refused (runs_checked walk limit t) slotted
  unfolding abm_of runs_checked
  behind_table o c =
      rw (o.few_channels, o.matrix_good, c)
      (ap (or_refused (ended (run_a walk limit t).end)) (joined (ended (run_m walk limit t).end) (ended (run_b walk limit t).end) slotted) ∙ joined (ended (run_a walk limit t).end) _ slotted)

  behind_runs : Opened t → colour_table_of t ≡ good (table_in t) → RunsWhole walk limit t → abm_of walk limit t words ≡ slotted
  unfolding abm_of ended
  behind_runs o c w = rw (o.few_channels, o.matrix_good, c, w.a_whole, w.m_whole, w.b_whole)

-- a slot is a whole record's words
module _ (walk : Walk) (limit : ℕ) (t s : List ℕ) (p : Runs) (w : RunsOf t p) (o : Opened t) (c : ColourTable) (k : TableGood t c) (h : RunsWhole walk limit t) (r : Result (Option Lut) Refusal) where
  need : p.a.curves + p.m.curves + p.b.curves ≡ records_needed t
  unfolding records_needed
  need = rw (w.a_curves_lem.is, w.m_curves_lem.is, w.b_curves_lem.is)

  pub record_short : length s / record_words < p.a.curves + p.m.curves + p.b.curves → in_numbers r ≡ refuse 14 → AnswerAndSlots walk limit t (abm_of walk limit t (length s)) r s s
  record_short l g =
      let few : length s / record_words < records_needed t = omega (arith, need) in
      refusing walk limit t s _ r 14 (behind_runs walk limit t (length s) o k.is_good h ∙ rw (lt-ltb _ _ few)) g

  pub record_written : p.a.curves + p.m.curves + p.b.curves ≤ length s / record_words → (s' : List ℕ) → s' ≡ records_of (curves_of walk limit t) ++ drop ((p.a.curves + p.m.curves + p.b.curves) * record_words) s → in_numbers r ≡ value_of t → AnswerAndSlots walk limit t (abm_of walk limit t (length s)) r s s'
  unfolding value_of
  record_written l s' e g =
      let enough : records_needed t ≤ length s / record_words = omega (arith, need) in
      let f : abm_of walk limit t (length s) ≡ value_of t = behind_runs walk limit t (length s) o k.is_good h ∙ rw (le-ltb _ _ enough) in
      let n : length (records_of (curves_of walk limit t)) ≡ (p.a.curves + p.m.curves + p.b.curves) * record_words = all_length walk limit t h ∙ ap (λ (x : ℕ). x * record_words) (sym need) in
      record { answer_is = g ∙ sym f; slots_are = rw (f, n) e }

module _ (walk : Walk) (limit : ℕ) (t s : List ℕ) (v : Result Unit Refusal) (j : verdict_in_numbers v ≡ runs_checked walk limit t) where
  pub runs_whole : (x : Unit) → v ≡ Ok x → RunsWhole walk limit t
  unfolding runs_checked
  runs_whole x e =
      let a : Checked Unit = ended (run_a walk limit t).end in
      let m : Checked Unit = ended (run_m walk limit t).end in
      let b : Checked Unit = ended (run_b walk limit t).end in
      let all = sym j ∙ ap verdict_in_numbers e in
      let rest = second_good a (and_then m b) all in
      record { a_whole = ended_good _ (first_good a (and_then m b) all); m_whole = ended_good _ (first_good m b rest); b_whole = ended_good _ (second_good m b rest) }

  pub runs_refused : Opened t → (c : ColourTable) → TableGood t c → (why : Refusal) (r : Result (Option Lut) Refusal) → v ≡ Err why → in_numbers r ≡ refuse (refusal_number why) → AnswerAndSlots walk limit t (abm_of walk limit t (length s)) r s s
  runs_refused o c k why r e h =
      refusing walk limit t s _ r (refusal_number why) (behind_table walk limit t (length s) o k.is_good ∙ rw (← j, e)) h

module _ (walk : Walk) (limit : ℕ) (t s : List ℕ) (found : Result ColourTable Refusal) (h : Clut·inNumbers found ≡ Clut·answerOf (colour_table_of t)) where
  pub table_read : (c : ColourTable) → found ≡ Ok c → TableGood t c
  unfolding Clut·answerOf
  table_read c e = by (colour_table_of t) refl
    where
      by : (x : Checked Table) → colour_table_of t ≡ x → TableGood t c
      by (good table) f =
          let k : Clut·inNumbers (Ok c) ≡ Clut·answerOf (good table) = sym (ap Clut·inNumbers e) ∙ h ∙ ap Clut·answerOf f in
          let same = table_in_lem t table f in
          record { is_good = f ∙ ap good (sym same); start_is = rw same cc; length_is = rw same cc; size_is = rw same cc }
      by (bad n) f = let k : Clut·inNumbers (Ok c) ≡ Clut·answerOf (bad n) = sym (ap Clut·inNumbers e) ∙ h ∙ ap Clut·answerOf f in never cc

  pub table_refused : Opened t → (why : Refusal) (r : Result (Option Lut) Refusal) → found ≡ Err why → in_numbers r ≡ refuse (refusal_number why) → AnswerAndSlots walk limit t (abm_of walk limit t (length s)) r s s
  unfolding abm_of Clut·answerOf
  table_refused o why r e g = by (colour_table_of t) refl
    where
      by : (x : Checked Table) → colour_table_of t ≡ x → AnswerAndSlots walk limit t (abm_of walk limit t (length s)) r s s
      by (good table) f = let k : Clut·refused (refusal_number why) ≡ Clut·answerOf (good table) = sym (ap Clut·inNumbers e) ∙ h ∙ ap Clut·answerOf f in never cc
      by (bad n) f =
          let k : Clut·refused (refusal_number why) ≡ Clut·answerOf (bad n) = sym (ap Clut·inNumbers e) ∙ h ∙ ap Clut·answerOf f in
          let z : n ≡ refusal_number why = cc in
          refusing walk limit t s _ r (refusal_number why) (rw (o.few_channels, o.matrix_good, f) (ap refuse z)) g

module _ (walk : Walk) (limit : ℕ) (t s : List ℕ) (b : Bool) (h : b ≡ ltb 4 (inputs t) && ltb 4 (outputs t)) where
  pub abm_absent : (r : Result (Option Lut) Refusal) → b ≡ true → in_numbers r ≡ none → AnswerAndSlots walk limit t (abm_of walk limit t (length s)) r s s
  unfolding abm_of
  abm_absent r e g = missing walk limit t s _ r (rw (← h, e)) g

  module _ (e : b ≡ false) (v : Result Unit Refusal) (j : verdict_in_numbers v ≡ matrix_checked t) where
    pub matrix_refused : (why : Refusal) (r : Result (Option Lut) Refusal) → v ≡ Err why → in_numbers r ≡ refuse (refusal_number why) → AnswerAndSlots walk limit t (abm_of walk limit t (length s)) r s s
    unfolding abm_of
    matrix_refused why r f g = refusing walk limit t s _ r (refusal_number why) (rw (← h, e, ← j, f)) g

pub opened : (t : List ℕ) (b : Bool) → b ≡ ltb 4 (inputs t) && ltb 4 (outputs t) → b ≡ false → (v : Result Unit Refusal) → verdict_in_numbers v ≡ matrix_checked t → (x : Unit) → v ≡ Ok x → Opened t
opened t b h e v j x g = record { few_channels = sym h ∙ e; matrix_good = sym j ∙ ap verdict_in_numbers g }

-- ---- the type

-- what is read of `mft1` and `mft2` leaves the slots
mft_leaves : (a : Mft-as-State) (records slots : List ℕ) → slots_with (mft_state a) records slots ≡ slots
mft_leaves (Mft-as-State.value f) records slots = refl
mft_leaves (Mft-as-State.refused n) records slots = refl

module _ (t : List ℕ) (w : ℕ) (h : w ≡ u32_at t 0) where
  pub abm_first : w ≡ signature_of Mab → true ≡ is_abm t
  abm_first e = rw (← h, eq-eqb _ _ e)

  pub abm_second : (w ≡ signature_of Mab → ⊥) → eqb w (signature_of Mba) ≡ is_abm t
  abm_second n = rw (← h, ne_eqb _ _ n)

module _ (walk : Walk) (limit points : ℕ) (t s : List ℕ) (b : Bool) (h : b ≡ is_mft t) (r : Result (Option Lut) Refusal) where
  pub kind_mft : b ≡ true → (got : Result Mft Refusal) → Mft·inNumbers got ≡ answer_of t (mft_of points t) → in_numbers r ≡ from_mft (Mft·inNumbers got) → AnswerAndSlots walk limit t (by_type walk limit points t (length s)) r s s
  unfolding by_type
  kind_mft i got e g = rw (← h, i) record { answer_is = g ∙ ap from_mft e; slots_are = sym (mft_leaves (answer_of t (mft_of points t)).state _ s) }

  module _ (i : b ≡ false) (a : Bool) (k : a ≡ is_abm t) where
    -- by the other two types
    chosen : by_type walk limit points t (length s) ≡ cond a (abm_of walk limit t (length s)) (refuse 3)
    unfolding by_type
    chosen = rw (← h, i, k)

    pub kind_abm : a ≡ true → (s' : List ℕ) → AnswerAndSlots walk limit t (abm_of walk limit t (length s)) r s s' → AnswerAndSlots walk limit t (by_type walk limit points t (length s)) r s s'
    kind_abm e s' g = same walk limit t s _ r _ s' (sym (chosen ∙ rw e)) g

    pub kind_other : a ≡ false → in_numbers r ≡ refuse 3 → AnswerAndSlots walk limit t (by_type walk limit points t (length s)) r s s
    kind_other e g = refusing walk limit t s _ r 3 (chosen ∙ rw e) g

-- ---- the tag in its profile

module _ (walk : Walk) (limit points : ℕ) (p s : List ℕ) (entry size end : ℕ) (n : end ≡ counted_size size) (place : Option Place) (h : place ≡ place_of (length p) entry end) (r : Result (Option Lut) Refusal) where
  pub lut_past : place ≡ None → in_numbers r ≡ refuse 1 → AnswerAndSlots walk limit (counted_tag p entry size) (lut_of walk limit points p entry size (length s)) r s s
  unfolding lut_of
  lut_past e g = refusing walk limit _ s _ r 1 (rw (← n, lt-ltb _ _ (past _ _ _ h e))) g

  module _ (w : Place) (e : place ≡ Some w) where
    pub lut_short : end < shortest → in_numbers r ≡ refuse 2 → AnswerAndSlots walk limit (counted_tag p entry size) (lut_of walk limit points p entry size (length s)) r s s
    unfolding lut_of
    lut_short l g = let i = inside _ _ _ h e in refusing walk limit _ s _ r 2 (rw (← n, le-ltb _ _ i.fits, lt-ltb _ _ l)) g

    pub lut_kind : shortest ≤ end → (s' : List ℕ) → AnswerAndSlots walk limit (take (w.end - w.start) (drop w.start p)) (by_type walk limit points (take (w.end - w.start) (drop w.start p)) (length s)) r s s' → AnswerAndSlots walk limit (counted_tag p entry size) (lut_of walk limit points p entry size (length s)) r s s'
    unfolding lut_of
    lut_kind l s' g =
        let i = inside _ _ _ h e in
        let same_tag : take (w.end - w.start) (drop w.start p) ≡ counted_tag p entry size = rw (i.from_is, i.to_is, part_is p entry end, n) in
        same walk limit _ s _ r _ s' (rw (← n, le-ltb _ _ i.fits, le-ltb _ _ l, n)) (rw same_tag at g)
