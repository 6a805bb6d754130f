-- The run, case by case, as the code meets it. What is left of the run ends as the whole does: that is the loop's invariant.
-- Assumes nothing.
use Prim.Native.Nat.{ℕ, suc, ◌+◌, ◌-◌, ◌*◌, ◌^◌, ◌≤◌, ◌<◌}
use native.Mathlib.Omega.{arith}
use native.Mathlib.Nat.{sub-zero}
use mathlib.Core.Path.{◌≡◌, sym, ◌∙◌, ap}
use mathlib.Core.List.{List}
use lib.ListN.{length, take, drop, length-drop}
use lib.Seq.{sets, length-take-le}
use Rattle.std.specs.Prelude.{Result, Ok, Err}
use borrow.Author.Tests.{lt-ltb, le-ltb}
use borrow.Rule.Slice.PartMut.{put_mid}
use Rattle.fields.proofs.Choice.{refused_good}
use Rattle.fields.specs.Checked.{Checked, good, bad}
use Rattle.fields.specs.Refusals.{refusal_number}
use Rattle.fields.specs.declared.Refusal.{Refusal}
use Rattle.fields.proofs.Located.{rest_is}
use Rattle.fields.proofs.Stores.{put_back}
use Rattle.curve_meaning.specs.Answer.{step_checked, step_in_numbers, slot_with, in_slot, StepAndSlot}
use Rattle.curve_meaning.specs.Curve.{curve_of}
use Rattle.curve_meaning.specs.Shape.{step_of, record_words, words_of}
use Rattle.curve_meaning.specs.declared.Walk.{Walk}
use Rattle.curve_meaning.proofs.Inside.{step_most}
use Rattle.curve_meaning.proofs.Answered.{stepped, stepped_no}
use Rattle.lut_run_meaning.specs.Run.{Run, aligned, curve_at_offset, run_at}
use Rattle.lut_run_meaning.proofs.Runs.{entry_there, entry_inside, run_turn}
use Rattle.lut_run_meaning.proofs.Writing.{Writing, words_length, next_is, turns}
use Rattle.lut_meaning.specs.Parts.{ended}

-- ---- a curve of a run

module _ (walk : Walk) (limit : ℕ) (t : List ℕ) (at : ℕ) where
  pub run_past : length t < at → bad 2 ≡ step_checked walk (curve_at_offset limit t at)
  unfolding curve_at_offset step_checked
  run_past s = let l : length t < at + 12 = omega arith in simp (lt-ltb _ _ l)

  pub run_short : at ≤ length t → length t - at < 12 → bad 2 ≡ step_checked walk (curve_at_offset limit t at)
  unfolding curve_at_offset step_checked
  run_short h s = let l : length t < at + 12 = omega arith in simp (lt-ltb _ _ l)

  pub run_there : (r : Checked ℕ) → at ≤ length t → 12 ≤ length t - at → r ≡ step_checked walk (curve_of limit (take (length t - at) (drop at t))) → r ≡ step_checked walk (curve_at_offset limit t at)
  unfolding curve_at_offset
  run_there r h s e = let l : at + 12 ≤ length t = omega arith in rw (le-ltb _ _ l) (rw (rest_is t at) at e)

  -- where a curve is judged good, the walk goes on inside the tag
  pub near : (got : Result ℕ Refusal) (consumed : ℕ) → length t < 2 ^ 32 → step_in_numbers got ≡ step_checked walk (curve_at_offset limit t at) → got ≡ Ok consumed → at + consumed < 2 ^ 33
  near got consumed l h e =
      let w = stepped walk (curve_at_offset limit t at) (sym (ap step_in_numbers e) ∙ h) in
      omega (arith, entry_inside limit t at w.shape w.seen, step_most walk w.shape, w.step_is)

pub ruleset entry-laws = (run_past, run_short, run_there)

-- ---- judging

pub run_start : (walk : Walk) (limit : ℕ) (t : List ℕ) (at n : ℕ) → (run_at walk limit t at n).end ≡ (run_at walk limit t at (n - 0)).end
run_start walk limit t at n = rw sub-zero

module _ (walk : Walk) (limit : ℕ) (t : List ℕ) (at n i next : ℕ) (inv : (run_at walk limit t at n).end ≡ (run_at walk limit t next (n - i)).end) where
  pub run_done : n ≤ i → good tt ≡ ended (run_at walk limit t at n).end
  unfolding run_at ended
  run_done m = let e : n - i ≡ 0 = omega arith in sym (ap ended inv ∙ rw e)

  module _ (l : i < n) (got : Result ℕ Refusal) (here : step_in_numbers got ≡ step_checked walk (curve_at_offset limit t next)) where
    less : n - i ≡ suc (n - (i + 1))
    less = omega arith

    -- a step that does not go on ends the run with what it says
    pub run_stop : (why : Refusal) → got ≡ Err why → bad (refusal_number why) ≡ ended (run_at walk limit t at n).end
    unfolding run_at ended
    run_stop why e =
        let x = stepped_no walk (curve_at_offset limit t next) (sym (ap step_in_numbers e) ∙ here) in
        sym (ap ended inv ∙ rw (less, x))

    pub run_again : (consumed next' : ℕ) → got ≡ Ok consumed → next' ≡ aligned (next + consumed) → (run_at walk limit t at n).end ≡ (run_at walk limit t next' (n - (i + 1))).end
    run_again consumed next' e f =
        let w = stepped walk (curve_at_offset limit t next) (sym (ap step_in_numbers e) ∙ here) in
        inv ∙ ap (λ (k : ℕ). (run_at walk limit t next k).end) less ∙ ap (λ (r : Run). r.end) (run_turn walk limit t next (n - (i + 1)) w.shape w.seen) ∙ ap (λ (x : ℕ). (run_at walk limit t (aligned (next + x)) (n - (i + 1))).end) (sym w.step_is) ∙ ap (λ (x : ℕ). (run_at walk limit t x (n - (i + 1))).end) (sym f)

-- ---- writing

module _ (walk : Walk) (limit : ℕ) (t : List ℕ) (o n : ℕ) (s₀ s : List ℕ) (at i : ℕ) (w : Writing walk limit t o n s₀ s at i) (l : i < n) where
  -- the next curve is there
  curve_there : at + 12 ≤ length t
  curve_there = let x = next_is walk limit t o n s₀ s at i w l in (entry_there limit t at x.shape x.seen).0

  pub curve_begins : at ≤ length t
  curve_begins = omega (arith, curve_there)

  module _ (h : length t < 2 ^ 32) where
    pub data_fits : at + 12 < 2 ^ 32
    data_fits = omega (arith, curve_there)

    pub data_counts : at + 12 < 2 ^ 64
    data_counts = omega (arith, data_fits)

  module _ (room : n * record_words ≤ length s₀) where
    pub slot_there : i * record_words + record_words ≤ length s
    slot_there = omega (arith, w.long)

    module _ (slot' : List ℕ) (got : Result ℕ Refusal) (went : StepAndSlot walk (at + 12) (in_slot (take ((i * record_words + record_words) - i * record_words) (drop (i * record_words) s)) (curve_of limit (take (length t - at) (drop at t)))) got (take ((i * record_words + record_words) - i * record_words) (drop (i * record_words) s)) slot') where
      slot : List ℕ
      slot = take ((i * record_words + record_words) - i * record_words) (drop (i * record_words) s)

      slot_length : length slot ≡ record_words
      unfolding slot
      slot_length =
          let e : (i * record_words + record_words) - i * record_words ≡ record_words = omega arith in
          length-take-le _ (drop (i * record_words) s) (simp length-drop (omega (arith, slot_there))) ∙ e

      -- what is seen in it is the next curve
      seen_next : in_slot slot (curve_of limit (take (length t - at) (drop at t))) ≡ good (next_is walk limit t o n s₀ s at i w l).shape
      unfolding in_slot
      seen_next =
          let x = next_is walk limit t o n s₀ s at i w l in
          let m : record_words ≤ length slot = omega (arith, slot_length) in
          rw (le-ltb _ _ m, rest_is t at) (entry_there limit t at x.shape x.seen).1

      going : step_in_numbers got ≡ step_checked walk (good (next_is walk limit t o n s₀ s at i w l).shape)
      unfolding slot
      going = went.step_is ∙ ap (step_checked walk) seen_next

      pub write_never : (why : Refusal) → got ≡ Err why → ⊥
      unfolding step_checked
      write_never why e = refused_good (sym (ap step_in_numbers e) ∙ going)

      module _ (consumed : ℕ) (e : got ≡ Ok consumed) where
        step_is : consumed ≡ step_of walk (next_is walk limit t o n s₀ s at i w l).shape
        unfolding step_checked
        step_is = let k = sym (ap step_in_numbers e) ∙ going in cc

        pub write_near : length t < 2 ^ 32 → at + consumed < 2 ^ 33
        write_near m =
            let x = next_is walk limit t o n s₀ s at i w l in
            omega (arith, entry_inside limit t at x.shape x.seen, step_most walk x.shape, step_is)

        pub write_turn : (at' : ℕ) → at' ≡ aligned (at + consumed) → Writing walk limit t o n s₀ (put_mid (i * record_words) ((i * record_words + record_words) - i * record_words) s slot') at' (i + 1)
        unfolding slot slot_with
        write_turn at' f =
            let x = next_is walk limit t o n s₀ s at i w l in
            let k : slot' ≡ sets slot 0 (words_of (at + 12) x.shape) = went.slot_is ∙ ap (slot_with (at + 12) slot) seen_next in
            let r = put_back s (words_of (at + 12) x.shape) slot' (i * record_words) (i * record_words + record_words) (omega arith) slot_there (omega (arith, words_length (at + 12) x.shape)) k in
            rw (f, step_is) (turns walk limit t o n s₀ s at i w l _ x.shape x.seen r)
