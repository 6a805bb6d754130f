-- A job that is taken apart has a whole head, and the pieces of a line make the whole.
-- Assumes nothing.
use Prim.Native.Nat.{ℕ, ◌-◌, ◌≤◌}
use native.Mathlib.Omega.{arith}
use mathlib.Core.Path.{◌≡◌, refl, sym, ap, ◌∙◌}
use mathlib.Core.Bool.{Bool, true, false, cond}
use mathlib.Core.List.{List, [], ◌∷◌}
use lib.Dec.{ltb, eqb}
use lib.ListN.{length, get_or, take, drop}
use borrow.Author.Tests.{eq-eqb, ne_eqb, ltb-false, eqb-true}
use Rattle.std.proofs.Common.{Option, Some, None}
use Rattle.fields.specs.House.{house_entries}
use Rattle.fields.proofs.Located.{rest_is}
use Rattle.fields.proofs.Never.{never}
use Rattle.fields.proofs.Stores.{fill_begins}
use Rattle.curve_meaning.specs.Curve.{trc_of}
use Rattle.curve_meaning.specs.Shape.{record_words}
use Rattle.curve_meaning.specs.declared.Walk.TheVariants.{Crate}
use Rattle.export_words.specs.Exported.{Exported, always, within, Gave}
use Rattle.export_words.proofs.Telling.{was_told}
use Rattle.export_curve.specs.Layout.{curve_exported, curve_layout}
use Rattle.lines.specs.Text.{Wrote, number, row_from, word_text}
use Rattle.lines.proofs.Writing.{joined}
use Rattle.curve_line_text.specs.CurveLine.{job_of, value_text, absent_text, refused_text, bad_job_text, exported_text, text_for, text_of}
use Rattle.curve_line_text.specs.declared.CurveJob.{CurveJob}

-- ---- a job taken apart

-- a tag is asked for behind a whole head
head_by : (n : ℕ) (t : Bool) (x : Option CurveJob) {asked : CurveJob} → ltb n 13 ≡ t → cond t None x ≡ Some asked → 13 ≤ n
head_by n true x h e = never cc
head_by n false x h e = ltb-false _ _ h

pub whole_head : (job : List ℕ) {r : Option CurveJob} {asked : CurveJob} → r ≡ job_of job → r ≡ Some asked → 13 ≤ length job
unfolding job_of
whole_head job h e = head_by (length job) (ltb (length job) 13) _ refl (sym h ∙ e)

-- ---- the text of what was told

module _ (status : ℕ) (ws : List ℕ) {k l : List ℕ} {b : ℕ} where
  pub text_value : {m n o : List ℕ} {c d e : ℕ} → status ≡ 0 → Wrote k l 0 b (0x63 ∷ 0x75 ∷ 0x72 ∷ 0x76 ∷ 0x65 ∷ 0x20 ∷ 0x76 ∷ 0x61 ∷ 0x6c ∷ 0x75 ∷ 0x65 ∷ []) → Wrote l m b c (number 0x0a (get_or ws 0 0)) → Wrote m n c d (row_from (word_text curve_layout.from curve_layout.to) 1 (drop 1 (take record_words ws))) → Wrote n o d e (0x0a ∷ []) → Wrote k o 0 e (exported_text record { status = status; words = ws })
  unfolding exported_text value_text
  text_value z u v w x = rw (eq-eqb _ _ z) (joined (joined (joined u v) w) x)

  pub text_absent : status ≡ 100 → Wrote k l 0 b absent_text → Wrote k l 0 b (exported_text record { status = status; words = ws })
  unfolding exported_text
  text_absent z u = rw z u

  pub text_refused : {m n : List ℕ} {c d : ℕ} → (status ≡ 0 → ⊥) → (status ≡ 100 → ⊥) → Wrote k l 0 b (0x63 ∷ 0x75 ∷ 0x72 ∷ 0x76 ∷ 0x65 ∷ 0x20 ∷ 0x72 ∷ 0x65 ∷ 0x66 ∷ 0x75 ∷ 0x73 ∷ 0x65 ∷ 0x64 ∷ []) → Wrote l m b c (number 0x20 status) → Wrote m n c d (0x0a ∷ []) → Wrote k n 0 d (exported_text record { status = status; words = ws })
  unfolding exported_text refused_text
  text_refused n0 n100 u v w = simp (ne_eqb _ _ n0, ne_eqb _ _ n100) (joined (joined u v) w)

-- ---- the text of a job

-- two choices by one test, whose first arms agree where it holds
first_arm : {A : Type 0} (t : Bool) (a b c : A) → (t ≡ true → a ≡ b) → cond t a c ≡ cond t b c
first_arm true a b c f = f refl
first_arm false a b c f = refl

-- of a value the lent words are the words that were told; of any other answer the text has none
told_text : (t : Exported) {r : ℕ} {out out' : List ℕ} → length out ≡ curve_layout.words → Gave (always curve_layout) t r out out' → exported_text record { status = r; words = out' } ≡ exported_text t
unfolding exported_text
told_text t {r} {out} {out'} h g =
    rw g.status_is
    (first_arm (eqb t.status 0) _ _ _
    (λ z. ap value_text (g.out_is ∙ fill_begins t.words out (h ∙ sym (g.as_laid_out (eqb-true _ _ z))))))

module _ (job : List ℕ) {asked : Option CurveJob} (h : asked ≡ job_of job) {k l : List ℕ} {b : ℕ} where
  pub line_bad : asked ≡ None → Wrote k l 0 b bad_job_text → Wrote k l 0 b (text_of job)
  unfolding text_of text_for
  line_bad e u = rw (← h, e) u

  pub line_told : {tag : CurveJob} {r : ℕ} {out out' : List ℕ} → asked ≡ Some tag → length out ≡ curve_layout.words → Gave (always curve_layout) (within curve_layout.words out (curve_exported (trc_of Crate house_entries (take (length job - 13) (drop 13 job)) tag.offset tag.size))) r out out' → Wrote k l 0 b (exported_text record { status = r; words = out' }) → Wrote k l 0 b (text_of job)
  unfolding text_of text_for
  line_told {tag} {r} {out} {out'} e n g u =
      let t = curve_exported (trc_of Crate house_entries (drop 13 job) tag.offset tag.size) in
      let w = told_text t n (was_told curve_layout.words (omega arith) (rw (rest_is job 13) at g)) in
      rw (← h, e) (rw w at u)
