-- The parts of a tag, case by case, as the code meets them.
-- Assumes nothing.
use Prim.Native.Nat.{ℕ, ◌+◌, ◌-◌, ◌*◌, ◌≤◌, ◌<◌}
use native.Mathlib.Omega.{arith}
use native.Mathlib.Nat.{zero-add}
use mathlib.Core.Path.{◌≡◌, refl, sym, ◌∙◌, ap}
use mathlib.Core.Bool.{Bool, true, false, ◌&&◌}
use mathlib.Core.List.{List, [], ◌∷◌, ◌++◌}
use lib.Dec.{eqb}
use lib.ListN.{length, get_or, take, drop, replicate, length-append}
use lib.Seq.{sets, length-sets}
use Rattle.std.specs.Prelude.{Result, Ok, Err}
use Rattle.fields.specs.Refusals.{refusal_number}
use Rattle.fields.specs.declared.Refusal.{Refusal}
use borrow.Author.Tests.{eq-eqb, ne_eqb, lt-ltb, le-ltb, eqb-true}
use borrow.Rule.Slice.PartMut.{put_mid}
use Rattle.fields.proofs.Never.{never}
use Rattle.fields.specs.Checked.{Checked, good, bad, and_then}
use Rattle.fields.specs.Bytes.{u32_at, bytes_at, words_at}
use Rattle.fields.proofs.Choice.{first_holds, second_holds}
use Rattle.fields.proofs.Stores.{sets_append, front, rejoined}
use Rattle.lut_clut_meaning.specs.Clut.{clut_of}
use Rattle.curve_meaning.specs.Shape.{record_words}
use Rattle.curve_meaning.specs.declared.Walk.{Walk}
use Rattle.lut_run_meaning.specs.Run.{whole, Run, run_at, records_of}
use Rattle.lut_meaning.specs.Layout.{to_pcs_of, inputs, outputs, matrix_offset, matrix_bytes, bias_from, clut_offset, a_offset, m_offset, b_offset, device_channels, space_channels, present, a_curves_of, m_curves_of, b_curves_of, identity, matrix_of, bias_of, grid_of}
use Rattle.lut_meaning.specs.Parts.{matrix_checked, table_in, colour_table_of, run_a, run_m, run_b, ended, RunsWhole, curves_of}
use Rattle.lut_meaning.proofs.Inside.{grid_inside}
use Rattle.lut.specs.Runs.{Few, RunsOf, runs_checked}
use Rattle.lut.specs.Verdict.{verdict_in_numbers}
use Rattle.lut_meaning.proofs.Shared.{records_of_lem, all_records}
use Rattle.lut.specs.declared.abm.Runs.{Runs}

-- ---- channels and curves

module _ (t : List ℕ) (to : Bool) (h : to ≡ to_pcs_of t) (n : ℕ) where
  pub device_to : to ≡ true → n ≡ get_or t 8 0 → n ≡ device_channels t
  unfolding device_channels
  device_to e f = rw (← h, e) f

  pub device_from : to ≡ false → n ≡ get_or t 9 0 → n ≡ device_channels t
  unfolding device_channels
  device_from e f = rw (← h, e) f

  pub space_to : to ≡ true → n ≡ get_or t 9 0 → n ≡ space_channels t
  unfolding space_channels
  space_to e f = rw (← h, e) f

  pub space_from : to ≡ false → n ≡ get_or t 8 0 → n ≡ space_channels t
  unfolding space_channels
  space_from e f = rw (← h, e) f

pub ruleset channel-laws = (device_to, device_from, space_to, space_from)

module _ (offset n : ℕ) where
  pub none_few : offset ≡ 0 → Few (present offset n) 0
  unfolding present
  none_few e = record { is = sym (rw (eq-eqb offset 0 e)); few = omega arith }

  pub some_few : (offset ≡ 0 → ⊥) → n < 256 → Few (present offset n) n
  unfolding present
  some_few e l = record { is = sym (rw (ne_eqb offset 0 e)); few = l }

pub ruleset few-laws = (none_few, some_few)

pub runs_found : (t : List ℕ) (p : Runs) (device space : ℕ) → device ≡ device_channels t → space ≡ space_channels t → p.a.at.0 ≡ a_offset t → Few (present p.a.at.0 device) p.a.curves → p.m.at.0 ≡ m_offset t → Few (present p.m.at.0 space) p.m.curves → p.b.at.0 ≡ b_offset t → Few (present p.b.at.0 space) p.b.curves → RunsOf t p
unfolding a_curves_of m_curves_of b_curves_of
runs_found t p device space ed es ea fa em fm eb fb =
    record { a_at = ea; m_at = em; b_at = eb; a_curves_lem = rw (← ea, ← ed) fa; m_curves_lem = rw (← em, ← es) fm; b_curves_lem = rw (← eb, ← es) fb }

-- ---- the matrix

module _ (t : List ℕ) (at : ℕ) (h : at ≡ matrix_offset t) where
  pub matrix_none : at ≡ 0 → good tt ≡ matrix_checked t
  unfolding matrix_checked
  matrix_none e = simp (← h, eq-eqb _ _ e)

  pub matrix_past : (at ≡ 0 → ⊥) → length t < at + matrix_bytes → bad 2 ≡ matrix_checked t
  unfolding matrix_checked
  matrix_past e l = simp (← h, ne_eqb _ _ e, lt-ltb _ _ l)

  pub matrix_there : (at ≡ 0 → ⊥) → at + matrix_bytes ≤ length t → good tt ≡ matrix_checked t
  unfolding matrix_checked
  matrix_there e l = simp (← h, ne_eqb _ _ e, le-ltb _ _ l)

pub ruleset matrix-laws = (matrix_none, matrix_past, matrix_there)

-- ---- the runs, judged

-- a verdict that is not good
stop_here : (v : Result Unit Refusal) (j next : Checked Unit) (why : Refusal) → v ≡ Err why → verdict_in_numbers v ≡ j → bad (refusal_number why) ≡ and_then j next
stop_here v (good x) next why e h = let k : bad (refusal_number why) ≡ good x = sym (ap verdict_in_numbers e) ∙ h in never cc
stop_here v (bad n) next why e h = sym (ap verdict_in_numbers e) ∙ h

pass_here : (v : Result Unit Refusal) (j next : Checked Unit) (x : Unit) → v ≡ Ok x → verdict_in_numbers v ≡ j → next ≡ and_then j next
pass_here v (good _) next x e h = refl
pass_here v (bad n) next x e h = let k : good tt ≡ bad n = sym (ap verdict_in_numbers e) ∙ h in never cc

-- the runs that the code walks are those of the tag
module _ (walk : Walk) (limit : ℕ) (t : List ℕ) (p : Runs) (w : RunsOf t p) where
  a_is : run_at walk limit t p.a.at.0 p.a.curves ≡ run_a walk limit t
  a_is = rw (w.a_at, w.a_curves_lem.is)

  m_is : run_at walk limit t p.m.at.0 p.m.curves ≡ run_m walk limit t
  m_is = rw (w.m_at, w.m_curves_lem.is)

  b_is : run_at walk limit t p.b.at.0 p.b.curves ≡ run_b walk limit t
  b_is = rw (w.b_at, w.b_curves_lem.is)

  module _ (v : Result Unit Refusal) (ja : verdict_in_numbers v ≡ ended (run_at walk limit t p.a.at.0 p.a.curves).end) where
    of_a : verdict_in_numbers v ≡ ended (run_a walk limit t).end
    of_a = ja ∙ ap (λ (r : Run). ended r.end) a_is

    pub runs_a : (why : Refusal) → v ≡ Err why → bad (refusal_number why) ≡ runs_checked walk limit t
    unfolding runs_checked
    runs_a why e = stop_here v _ _ why e of_a

    module _ (y : Unit) (g : v ≡ Ok y) (u : Result Unit Refusal) (jm : verdict_in_numbers u ≡ ended (run_at walk limit t p.m.at.0 p.m.curves).end) where
      of_m : verdict_in_numbers u ≡ ended (run_m walk limit t).end
      of_m = jm ∙ ap (λ (r : Run). ended r.end) m_is

      pub runs_m : (why : Refusal) → u ≡ Err why → bad (refusal_number why) ≡ runs_checked walk limit t
      unfolding runs_checked
      runs_m why e = stop_here u _ _ why e of_m ∙ pass_here v _ _ y g of_a

      pub runs_b : (x : Result Unit Refusal) (z : Unit) → u ≡ Ok z → verdict_in_numbers x ≡ ended (run_at walk limit t p.b.at.0 p.b.curves).end → verdict_in_numbers x ≡ runs_checked walk limit t
      unfolding runs_checked
      runs_b x z e jb = jb ∙ ap (λ (r : Run). ended r.end) b_is ∙ pass_here u _ _ z e of_m ∙ pass_here v _ _ y g of_a

pub ruleset runs-laws = (runs_a, runs_m, runs_b)

-- ---- curves B alone

module _ (p : Runs) where
  pub alone_not : (p.a.curves ≡ 0 → ⊥) → false ≡ eqb p.a.curves 0 && eqb p.m.curves 0
  alone_not z = simp (ne_eqb _ _ z)

  pub alone_test : p.a.curves ≡ 0 → eqb p.m.curves 0 ≡ eqb p.a.curves 0 && eqb p.m.curves 0
  alone_test z = simp (eq-eqb _ _ z)

module _ (walk : Walk) (limit : ℕ) (t : List ℕ) (p : Runs) (w : RunsOf t p) (b : Bool) (h : b ≡ eqb p.a.curves 0 && eqb p.m.curves 0) (e : b ≡ true) where
  a_none : p.a.curves ≡ 0
  a_none = eqb-true _ _ (first_holds (eqb p.a.curves 0) (eqb p.m.curves 0) (sym h ∙ e))

  m_none : p.m.curves ≡ 0
  m_none = eqb-true _ _ (second_holds (eqb p.a.curves 0) (eqb p.m.curves 0) (sym h ∙ e))

  no_a : a_curves_of t ≡ 0
  no_a = sym w.a_curves_lem.is ∙ a_none

  no_m : m_curves_of t ≡ 0
  no_m = sym w.m_curves_lem.is ∙ m_none

  pub alone_judged : (v : Result Unit Refusal) → verdict_in_numbers v ≡ ended (run_at walk limit t p.b.at.0 p.b.curves).end → verdict_in_numbers v ≡ runs_checked walk limit t
  unfolding runs_checked run_at ended
  alone_judged v j = rw (no_a, no_m) (j ∙ ap (λ (r : Run). ended r.end) (b_is walk limit t p w))

  pub alone_whole : RunsWhole walk limit t → (run_at walk limit t p.b.at.0 p.b.curves).end ≡ whole
  alone_whole k = ap (λ (r : Run). r.end) (b_is walk limit t p w) ∙ k.b_whole

  pub alone_room : (s : List ℕ) → (p.a.curves + p.m.curves + p.b.curves) * record_words ≤ length s → p.b.curves * record_words ≤ length s
  alone_room s l = omega arith

  pub alone_written : (s s' : List ℕ) → s' ≡ records_of (run_at walk limit t p.b.at.0 p.b.curves).curves ++ drop (p.b.curves * record_words) s → s' ≡ records_of (curves_of walk limit t) ++ drop ((p.a.curves + p.m.curves + p.b.curves) * record_words) s
  unfolding curves_of run_at
  alone_written s s' k = rw (no_a, no_m, a_none, m_none, zero-add, ← w.b_at, ← w.b_curves_lem.is) k

-- ---- the runs, written

module _ (walk : Walk) (limit : ℕ) (t : List ℕ) (p : Runs) (w : RunsOf t p) (h : RunsWhole walk limit t) where
  pub a_read : (run_at walk limit t p.a.at.0 p.a.curves).end ≡ whole
  a_read = ap (λ (r : Run). r.end) (a_is walk limit t p w) ∙ h.a_whole

  pub m_read : (run_at walk limit t p.m.at.0 p.m.curves).end ≡ whole
  m_read = ap (λ (r : Run). r.end) (m_is walk limit t p w) ∙ h.m_whole

  pub b_read : (run_at walk limit t p.b.at.0 p.b.curves).end ≡ whole
  b_read = ap (λ (r : Run). r.end) (b_is walk limit t p w) ∙ h.b_whole

  -- each run is written in front of its part: s₁, s₂ are the slots between the calls, and y₂, y₃ what the calls left of the parts
  pub runs_written : (s₀ : List ℕ) → (p.a.curves + p.m.curves + p.b.curves) * record_words ≤ length s₀
      → (s₁ : List ℕ) → s₁ ≡ records_of (run_at walk limit t p.a.at.0 p.a.curves).curves ++ drop (p.a.curves * record_words) s₀
      → (y₂ : List ℕ) → y₂ ≡ records_of (run_at walk limit t p.m.at.0 p.m.curves).curves ++ drop (p.m.curves * record_words) (take (length s₁ - p.a.curves * record_words) (drop (p.a.curves * record_words) s₁))
      → (s₂ : List ℕ) → s₂ ≡ put_mid (p.a.curves * record_words) (length s₁ - p.a.curves * record_words) s₁ y₂
      → (y₃ : List ℕ) → y₃ ≡ records_of (run_at walk limit t p.b.at.0 p.b.curves).curves ++ drop (p.b.curves * record_words) (take (length s₂ - (p.a.curves + p.m.curves) * record_words) (drop ((p.a.curves + p.m.curves) * record_words) s₂))
      → put_mid ((p.a.curves + p.m.curves) * record_words) (length s₂ - (p.a.curves + p.m.curves) * record_words) s₂ y₃ ≡ records_of (curves_of walk limit t) ++ drop ((p.a.curves + p.m.curves + p.b.curves) * record_words) s₀
  runs_written s₀ room s₁ e₁ y₂ e₂ s₂ p₂ y₃ e₃ =
      let A : List ℕ = records_of (run_at walk limit t p.a.at.0 p.a.curves).curves in
      let M : List ℕ = records_of (run_at walk limit t p.m.at.0 p.m.curves).curves in
      let B : List ℕ = records_of (run_at walk limit t p.b.at.0 p.b.curves).curves in
      let la : length A ≡ p.a.curves * record_words = records_of_lem walk limit t p.a.at.0 p.a.curves a_read in
      let lm : length M ≡ p.m.curves * record_words = records_of_lem walk limit t p.m.at.0 p.m.curves m_read in
      let lb : length B ≡ p.b.curves * record_words = records_of_lem walk limit t p.b.at.0 p.b.curves b_read in
      let all : records_of (curves_of walk limit t) ≡ A ++ M ++ B = all_records walk limit t ∙ rw (a_is walk limit t p w, m_is walk limit t p w, b_is walk limit t p w) refl in
      let w₁ : s₁ ≡ sets s₀ 0 A = e₁ ∙ front s₀ A (p.a.curves * record_words) la (omega arith) in
      let l₁ : length s₁ ≡ length s₀ = ap length w₁ ∙ length-sets s₀ 0 A in
      let w₂ : s₂ ≡ sets s₁ (p.a.curves * record_words) M = p₂ ∙ rejoined s₁ M (p.a.curves * record_words) (p.m.curves * record_words) lm (omega arith) y₂ e₂ in
      let l₂ : length s₂ ≡ length s₁ = ap length w₂ ∙ length-sets s₁ (p.a.curves * record_words) M in
      let n : length (A ++ M ++ B) ≡ (p.a.curves + p.m.curves + p.b.curves) * record_words = simp length-append (omega arith) in
      let i : (p.a.curves + p.m.curves) * record_words ≡ 0 + length (A ++ M) = simp length-append (omega arith) in
      let j : p.a.curves * record_words ≡ 0 + length A = omega arith in
      rejoined s₂ B ((p.a.curves + p.m.curves) * record_words) (p.b.curves * record_words) lb (omega arith) y₃ e₃
      ∙ ap (λ (x : List ℕ). sets x ((p.a.curves + p.m.curves) * record_words) B) (w₂ ∙ ap (λ (x : List ℕ). sets x (p.a.curves * record_words) M) w₁)
      ∙ ap (λ (k : ℕ). sets (sets (sets s₀ 0 A) k M) ((p.a.curves + p.m.curves) * record_words) B) j
      ∙ ap (λ (x : List ℕ). sets x ((p.a.curves + p.m.curves) * record_words) B) (sym (sets_append A M s₀ 0))
      ∙ ap (λ (k : ℕ). sets (sets s₀ 0 (A ++ M)) k B) i
      ∙ sym (sets_append (A ++ M) B s₀ 0)
      ∙ sym (front s₀ (A ++ M ++ B) ((p.a.curves + p.m.curves + p.b.curves) * record_words) n room)
      ∙ ap (λ (x : List ℕ). x ++ drop ((p.a.curves + p.m.curves + p.b.curves) * record_words) s₀) (sym all)

-- ---- rows read into arrays

module _ (t : List ℕ) (at : ℕ) where
  pub matrix_given : at ≡ matrix_offset t → (at ≡ 0 → ⊥) → (ws : List ℕ) → ws ≡ words_at t at 9 → ws ≡ matrix_of t
  unfolding matrix_of
  matrix_given h e ws w = rw (← h, ne_eqb at 0 e) w

  pub matrix_default : at ≡ matrix_offset t → at ≡ 0 → identity ≡ matrix_of t
  unfolding matrix_of
  matrix_default h e = rw (← h, eq-eqb at 0 e)

  pub bias_given : at ≡ matrix_offset t → (at ≡ 0 → ⊥) → {x y z : ℕ} → x ≡ u32_at t (at + bias_from) → y ≡ u32_at t (at + bias_from + 4) → z ≡ u32_at t (at + bias_from + 8) → x ∷ y ∷ z ∷ [] ≡ bias_of t
  unfolding bias_of words_at
  bias_given h e ex ey ez = let k : at + bias_from + 8 ≡ at + bias_from + 4 + 4 = omega arith in rw (← h, ne_eqb at 0 e, ex, ey, ez, k)

  pub bias_default : at ≡ matrix_offset t → at ≡ 0 → replicate 3 0 ≡ bias_of t
  unfolding bias_of
  bias_default h e = rw (← h, eq-eqb at 0 e)

  pub grid_given : at ≡ clut_offset t → (at ≡ 0 → ⊥) → (bs : List ℕ) → bs ≡ bytes_at t at 16 → bs ≡ grid_of t
  unfolding grid_of
  grid_given h e bs w = rw (← h, ne_eqb at 0 e) w

  pub grid_fits : colour_table_of t ≡ good (table_in t) → at ≡ clut_offset t → (at ≡ 0 → ⊥) → at + 16 ≤ length t
  unfolding colour_table_of
  grid_fits g h e =
      let k : clut_of t (clut_offset t) (inputs t) (outputs t) ≡ good (table_in t) = rw (ne_eqb _ _ (λ z. e (h ∙ z))) at g in
      omega (arith, grid_inside t (table_in t) k)

  pub grid_default : at ≡ clut_offset t → at ≡ 0 → replicate 16 0 ≡ grid_of t
  unfolding grid_of
  grid_default h e = rw (← h, eq-eqb at 0 e)

pub ruleset array_laws = (matrix_given, matrix_default, bias_given, bias_default, grid_given, grid_default)
