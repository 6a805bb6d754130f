-- The records of a run, and what holds while a whole run is written into lent slots.
-- Assumes nothing.
use Prim.Native.Nat.{ℕ, suc, ◌+◌, ◌-◌, ◌*◌, ◌≤◌, ◌<◌}
use native.Mathlib.Omega.{arith}
use native.Mathlib.Nat.{sub-zero, zero-add}
use mathlib.Core.Path.{◌≡◌, refl, sym, ◌∙◌, ap}
use mathlib.Core.List.{List, [], ◌∷◌, ◌++◌, append_assoc}
use lib.ListN.{length, drop, length-append}
use lib.Seq.{sets, sets-eq, length-sets}
use Rattle.fields.specs.House.{tag_size}
use Rattle.fields.proofs.Never.{never}
use Rattle.fields.specs.Checked.{Checked, good, bad}
use Rattle.fields.proofs.Stores.{sets_append}
use Rattle.curve_meaning.specs.Shape.{Shape, empty, table, para, step_of, record_words, words_of}
use Rattle.curve_meaning.specs.declared.Walk.{Walk}
use Rattle.lut_run_meaning.specs.Run.{Placed, whole, Run, placed, first, aligned, curve_at_offset, run_at, records_of}
use Rattle.lut_run_meaning.proofs.Runs.{run_turn, run_count}

-- ---- records

pub words_length : (start : ℕ) (s : Shape) → length (words_of start s) ≡ record_words
unfolding words_of
words_length start empty = refl
words_length start (table n) = refl
words_length start (para type ps) = refl

pub records_length : (cs : List Placed) → length (records_of cs) ≡ length cs * record_words
unfolding records_of
records_length [] = refl
records_length (c ∷ cs) = simp length-append (omega (arith, words_length (c.at + tag_size) c.shape, records_length cs))

pub records_append : (cs ds : List Placed) → records_of (cs ++ ds) ≡ records_of cs ++ records_of ds
unfolding records_of
records_append [] ds = refl
records_append (c ∷ cs) ds = rw (records_append cs ds) (sym (append_assoc (words_of (c.at + tag_size) c.shape) (records_of cs) (records_of ds)))

-- ---- the loop that writes

module _ (walk : Walk) (limit : ℕ) (t : List ℕ) (o n : ℕ) (s₀ : List ℕ) where
  -- i records are written; the rest of the run is whole, and makes of the slots what the whole run makes of them
  pub record Writing (s : List ℕ) (at i : ℕ) : Type 0 where
    pub within : i ≤ n
    pub long : length s ≡ length s₀
    pub good : (run_at walk limit t at (n - i)).end ≡ whole
    pub left : sets s (i * record_words) (records_of (run_at walk limit t at (n - i)).curves) ≡ sets s₀ 0 (records_of (run_at walk limit t o n).curves)

  pub begins : (run_at walk limit t o n).end ≡ whole → Writing s₀ o 0
  begins g = record { within = omega arith; long = refl; good = rw sub-zero g; left = rw sub-zero }

  module _ (s : List ℕ) (at i : ℕ) (w : Writing s at i) (l : i < n) where
    less : n - i ≡ suc (n - (i + 1))
    less = omega arith

    -- no refusal is met
    no_refusal : (m : ℕ) → curve_at_offset limit t at ≡ bad m → ⊥
    unfolding run_at
    no_refusal m e =
        let g : (run_at walk limit t at (suc (n - (i + 1)))).end ≡ whole = rw less at w.good in
        let f = rw e at g in
        never cc

    pub record Next : Type 0 where
      pub shape : Shape
      pub seen : curve_at_offset limit t at ≡ good shape

    -- a curve is next
    pub next_is : Next
    next_is = by (curve_at_offset limit t at) refl
      where
        by : (x : Checked Shape) → curve_at_offset limit t at ≡ x → Next
        by (good s) e = record { shape = s; seen = e }
        by (bad m) e = absurd (no_refusal m e)

    pub turns : (s' : List ℕ) (shape : Shape) → curve_at_offset limit t at ≡ good shape → s' ≡ sets s (i * record_words) (words_of (at + tag_size) shape) → Writing s' (aligned (at + step_of walk shape)) (i + 1)
    unfolding records_of
    turns s' shape seen p =
        let ws : List ℕ = words_of (at + tag_size) shape in
        let e : run_at walk limit t at (n - i) ≡ first (placed at shape) (run_at walk limit t (aligned (at + step_of walk shape)) (n - (i + 1))) = ap (run_at walk limit t at) less ∙ run_turn walk limit t at (n - (i + 1)) shape seen in
        let k : (i + 1) * record_words ≡ i * record_words + length ws = omega (arith, words_length (at + tag_size) shape) in
        let rest : List ℕ = records_of (run_at walk limit t (aligned (at + step_of walk shape)) (n - (i + 1))).curves in
        let f : records_of (run_at walk limit t at (n - i)).curves ≡ ws ++ rest = ap (λ (r : Run). records_of r.curves) e in
        record {
          within = omega arith;
          long = ap length p ∙ length-sets s (i * record_words) ws ∙ w.long;
          good = sym (ap (λ (r : Run). r.end) e) ∙ w.good;
          left = ap (λ (y : List ℕ). sets y ((i + 1) * record_words) rest) p ∙ rw (k, ← sets_append ws rest s (i * record_words), ← f) w.left;
        }

  pub ends : (s : List ℕ) (at i : ℕ) → Writing s at i → n ≤ i → n * record_words ≤ length s₀ → (run_at walk limit t o n).end ≡ whole → s ≡ records_of (run_at walk limit t o n).curves ++ drop (n * record_words) s₀
  unfolding records_of run_at
  ends s at i w l room g =
      let all : List ℕ = records_of (run_at walk limit t o n).curves in
      let e : length all ≡ n * record_words = records_length (run_at walk limit t o n).curves ∙ ap (λ (k : ℕ). k * record_words) (run_count walk limit t o n g) in
      let z : n - i ≡ 0 = omega arith in
      let d : s ≡ sets s₀ 0 all = rw z at w.left in
      d ∙ sets-eq all s₀ 0 (omega arith) ∙ rw (zero-add, e)
