-- The records of `mluc`: one record as the code meets it, the loop that judges them, and the loop that writes them.
-- Assumes nothing.
use Prim.Native.Nat.{ℕ, suc, ◌+◌, ◌-◌, ◌*◌, ◌/◌, ◌≤◌, ◌<◌}
use native.Mathlib.Omega.{arith}
use native.Mathlib.Nat.{sub-zero, zero-add}
use mathlib.Core.Path.{◌≡◌, refl, sym, ap, ◌∙◌}
use mathlib.Core.List.{List, ◌++◌}
use lib.ListN.{length, drop}
use lib.Seq.{sets, sets-eq, length-sets}
use lib.Dec.{ltb}
use mathlib.Core.Bool.{Bool, true, false, cond}
use borrow.Author.Tests.{eq-eqb, ne_eqb, lt-ltb, le-ltb, ltb-false}
use Rattle.std.specs.Prelude.{Result, Ok, Err}
use Rattle.fields.proofs.Never.{never}
use Rattle.fields.specs.Bytes.{u16_at, u32_at}
use Rattle.fields.proofs.Stores.{sets_append}
use Rattle.text_meaning.specs.Layout.{header_end, string_end}
use Rattle.text_mluc.specs.Items.{record_from, fault_from, seen_from}
use Rattle.text_meaning.specs.Mluc.{PlacedString, Fault, header, string, is, no, whole, stopped, RecordsRead, stops, first, even, localized_at, record_at, records_from, records_asked, text_record_words, placed_words, words_in}
use Rattle.text_mluc.specs.declared.Fault.{Fault as CodeFault}
use Rattle.text_mluc.specs.declared.TextRecord.{TextRecord}
use Rattle.text_meaning.proofs.Shared.{words_length, whole_count}

-- ---- one record

module _ (t : List ℕ) (k : ℕ) where
  pub record_header : length t < 16 + 12 * k + 12 → no header ≡ record_at t k
  unfolding record_at
  record_header l = rw (lt-ltb _ _ l)

  module _ (l : 16 + 12 * k + 12 ≤ length t) (bytes start : ℕ) (e₁ : bytes ≡ u32_at t (16 + 12 * k + 4)) (e₂ : start ≡ u32_at t (16 + 12 * k + 8)) where
    pub record_string : length t < start + bytes → no string ≡ record_at t k
    unfolding record_at
    record_string m = simp (le-ltb _ _ l, ← e₁, ← e₂, lt-ltb _ _ m)

    pub record_there : (language country : ℕ) → start + bytes ≤ length t → language ≡ u16_at t (16 + 12 * k) → country ≡ u16_at t (16 + 12 * k + 2) → is record { language = language; country = country; start = start; bytes = bytes / 2 * 2 } ≡ record_at t k
    unfolding record_at even
    record_there language country m e₃ e₄ = simp (le-ltb _ _ l, ← e₁, ← e₂, ← e₃, ← e₄, le-ltb _ _ m)

pub ruleset record_laws = (record_header, record_string, record_there)

-- ---- a turn

one_less : (n k : ℕ) → k < n → n - k ≡ suc (n - (k + 1))
one_less n k l = omega arith

pub records_turn : (t : List ℕ) (k n : ℕ) (r : PlacedString) → record_at t k ≡ is r → records_from t k (suc n) ≡ first r (records_from t (k + 1) n)
unfolding records_from
records_turn t k n r e = rw e

records_stop : (t : List ℕ) (k n : ℕ) (f : Fault) → record_at t k ≡ no f → records_from t k (suc n) ≡ stops f
unfolding records_from
records_stop t k n f e = rw e

-- ---- the loop that judges

-- a record that is seen has its header in the tag
header_inside : (t : List ℕ) (k : ℕ) (r : PlacedString) → record_at t k ≡ is r → header_end k ≤ length t
unfolding record_at
header_inside t k r = by (ltb (length t) (header_end k)) refl
  where
    by : (b : Bool) → ltb (length t) (header_end k) ≡ b → cond b (no header) (cond (ltb (length t) (string_end t k)) (no string) (is (localized_at t k))) ≡ is r → header_end k ≤ length t
    by true e h = never cc
    by false e h = ltb-false (length t) (header_end k) e

-- each turn has a header of 12 bytes behind it, so there are no more turns than the tag has bytes
pub turn_inside : (t : List ℕ) (k : ℕ) (got : Result TextRecord CodeFault) (r : TextRecord) → seen_from got ≡ record_at t k → got ≡ Ok r → 12 * (k + 1) ≤ length t
turn_inside t k got r h e = omega (arith, header_inside t k (record_from r) (sym h ∙ ap seen_from e))

pub judge_begins : (t : List ℕ) (n : ℕ) → (records_from t 0 n).end ≡ (records_from t 0 (n - 0)).end
judge_begins t n = rw sub-zero

module _ (t : List ℕ) (n k : ℕ) (left : (records_from t 0 n).end ≡ (records_from t k (n - k)).end) where
  pub judge_ends : n ≤ k → whole ≡ (records_from t 0 n).end
  unfolding records_from
  judge_ends l = let z : n - k ≡ 0 = omega arith in sym (left ∙ rw z)

  module _ (l : k < n) (got : Result TextRecord CodeFault) (h : seen_from got ≡ record_at t k) where
    pub judge_turns : (r : TextRecord) → got ≡ Ok r → (records_from t 0 n).end ≡ (records_from t (k + 1) (n - (k + 1))).end
    judge_turns r e =
        left ∙ ap (λ (i : ℕ). (records_from t k i).end) (one_less n k l) ∙ ap (λ (x : RecordsRead). x.end) (records_turn t k (n - (k + 1)) (record_from r) (sym h ∙ ap seen_from e))

    pub judge_stops : (why : CodeFault) → got ≡ Err why → stopped (fault_from why) ≡ (records_from t 0 n).end
    judge_stops why e = sym (left ∙ ap (λ (i : ℕ). (records_from t k i).end) (one_less n k l) ∙ ap (λ (x : RecordsRead). x.end) (records_stop t k (n - (k + 1)) (fault_from why) (sym h ∙ ap seen_from e)))

-- ---- how many are asked for

module _ (t : List ℕ) (n : ℕ) (h : n ≡ u32_at t 8) where
  pub asked_one : n ≡ 0 → 1 ≡ records_asked t
  unfolding records_asked
  asked_one z = simp (← h, eq-eqb _ _ z)

  pub asked_count : (n ≡ 0 → ⊥) → n ≡ records_asked t
  unfolding records_asked
  asked_count z = simp (← h, ne_eqb _ _ z)

-- ---- the loop that writes

module _ (t : List ℕ) (n : ℕ) (s₀ : List ℕ) where
  -- k records are written; the rest are whole, and make of the slots what all of them make of them
  pub record Writing (s : List ℕ) (k : ℕ) : Type 0 where
    pub within : k ≤ n
    pub long : length s ≡ length s₀
    pub good : (records_from t k (n - k)).end ≡ whole
    pub left : sets s (k * text_record_words) (words_in (records_from t k (n - k)).records) ≡ sets s₀ 0 (words_in (records_from t 0 n).records)

  pub write_begins : (records_from t 0 n).end ≡ whole → Writing s₀ 0
  write_begins g = record { within = omega arith; long = refl; good = rw sub-zero g; left = rw sub-zero }

  module _ (s : List ℕ) (k : ℕ) (w : Writing s k) (l : k < n) (got : Result TextRecord CodeFault) (h : seen_from got ≡ record_at t k) where
    pub write_turns : (r : TextRecord) (s' : List ℕ) → got ≡ Ok r → s' ≡ sets s (k * text_record_words) (placed_words (record_from r)) → Writing s' (k + 1)
    unfolding words_in
    write_turns r s' e p =
        let ws : List ℕ = placed_words (record_from r) in
        let rest : RecordsRead = records_from t (k + 1) (n - (k + 1)) in
        let turn : records_from t k (n - k) ≡ first (record_from r) rest = ap (records_from t k) (one_less n k l) ∙ records_turn t k (n - (k + 1)) (record_from r) (sym h ∙ ap seen_from e) in
        let next : (k + 1) * text_record_words ≡ k * text_record_words + length ws = omega arith in
        let all : words_in (records_from t k (n - k)).records ≡ ws ++ words_in rest.records = ap (λ (x : RecordsRead). words_in x.records) turn in
        record {
          within = omega arith;
          long = ap length p ∙ length-sets s (k * text_record_words) ws ∙ w.long;
          good = sym (ap (λ (x : RecordsRead). x.end) turn) ∙ w.good;
          left = ap (λ (y : List ℕ). sets y ((k + 1) * text_record_words) (words_in rest.records)) p ∙ rw (next, ← sets_append ws (words_in rest.records) s (k * text_record_words), ← all) w.left;
        }

    -- no fault is met
    pub write_never : (why : CodeFault) → got ≡ Err why → ⊥
    unfolding records_from
    write_never why e =
        let g : (records_from t k (suc (n - (k + 1)))).end ≡ whole = rw (one_less n k l) at w.good in
        let f = rw (sym h ∙ ap seen_from e) at g in
        never cc

  pub write_ends : (s : List ℕ) (k : ℕ) → Writing s k → n ≤ k → n * text_record_words ≤ length s₀ → (records_from t 0 n).end ≡ whole → s ≡ words_in (records_from t 0 n).records ++ drop (n * text_record_words) s₀
  unfolding words_in records_from
  write_ends s k w l room g =
      let all : List ℕ = words_in (records_from t 0 n).records in
      let e : length all ≡ n * text_record_words = words_length (records_from t 0 n).records ∙ ap (λ (i : ℕ). i * text_record_words) (whole_count t 0 n g) in
      let z : n - k ≡ 0 = omega arith in
      let d : s ≡ sets s₀ 0 all = rw z at w.left in
      d ∙ sets-eq all s₀ 0 (omega arith) ∙ rw (zero-add, e)

pub ruleset judge_laws = (judge_begins, judge_turns, judge_stops, judge_ends)

pub ruleset write_laws = (write_begins, write_turns, write_never, write_ends)
