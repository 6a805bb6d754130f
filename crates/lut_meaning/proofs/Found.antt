-- What stands behind a value: the tag lies in the profile and has one of the types; of `mAB ` and `mBA ` every part was good, and the slots
-- sufficed.
-- Assumes nothing.
use Prim.Native.Nat.{ℕ, ◌+◌, ◌/◌, ◌≤◌, ◌<◌}
use mathlib.Core.Path.{◌≡◌, refl, sym, ◌∙◌, ap}
use mathlib.Core.Bool.{Bool, true, false, ◌&&◌, ◌||◌}
use mathlib.Core.List.{List}
use mathlib.Core.Logic.{◌⊎◌, inl, inr}
use lib.Dec.{ltb, eqb}
use lib.ListN.{length}
use borrow.Author.Tests.{ltb-true, ltb-false, eqb-true}
use Rattle.fields.proofs.Never.{never}
use Rattle.fields.specs.Checked.{Checked, good, bad}
use Rattle.fields.specs.Place.{counted_size, counted_tag}
use Rattle.fields.specs.Bytes.{u32_at}
use Rattle.fields.specs.Tag.{signature_of}
use Rattle.fields.specs.declared.Kind.TheVariants.{Mab, Mba}
use Rattle.fields.proofs.Choice.{each}
use Rattle.curve_meaning.specs.Shape.{record_words}
use Rattle.curve_meaning.specs.declared.Walk.{Walk}
use Rattle.lut_mft_meaning.specs.Answer.{Fields, State as Mft-as-State, answer_of}
use Rattle.lut_mft_meaning.specs.Layout.{is_mft, shortest}
use Rattle.lut_mft_meaning.specs.Mft.{mft_of}
use Rattle.lut_run_meaning.specs.Run.{run_at}
use Rattle.lut_meaning.specs.Abm.{value_of, abm_of}
use Rattle.lut_meaning.specs.Answer.{Abm, State, mft, abm, absent, refused, Answer, none, refuse, from_mft, or_refused}
use Rattle.lut_meaning.specs.Layout.{inputs, outputs, a_offset, m_offset, b_offset, a_curves_of, m_curves_of, b_curves_of, records_needed}
use Rattle.lut_meaning.specs.Lut.{is_abm, by_type, lut_of}
use Rattle.lut_meaning.specs.Parts.{matrix_checked, table_in, colour_table_of, run_a, run_m, run_b, ended, RunsWhole}
use Rattle.lut_meaning.proofs.Shared.{ended_good, table_in_lem}

-- a value, of either kind
unfoldable pub IsValue : State → Type 0
IsValue (mft f) = Unit
IsValue (abm f) = Unit
IsValue absent = ⊥
IsValue (refused n) = ⊥

pub abm_value : {s : State} {f : Abm} → s ≡ abm f → IsValue s
unfolding IsValue
abm_value e = rw e tt

pub mft_value : {s : State} {f : Fields} → s ≡ mft f → IsValue s
unfolding IsValue
mft_value e = rw e tt

pub not_refused : {A : Type 0} {s : State} {n : ℕ} → s ≡ refused n → IsValue s → A
unfolding IsValue
not_refused e v = absurd (rw e at v)

-- ---- `mAB ` and `mBA `

-- what holds of a refusal with the number of a check that is bad, and of what follows one that is good
pub passed : {A : Type 0} (P : Answer → Type 0) (c : Checked A) (a : Answer) → ((n : ℕ) → c ≡ bad n → P (refuse n)) → ((x : A) → c ≡ good x → P a) → P (or_refused c a)
passed P (good x) a f g = g x refl
passed P (bad n) a f g = f n refl

module _ (walk : Walk) (limit : ℕ) (t : List ℕ) where
  -- every part of the tag is good
  pub record AllGood : Type 0 where
    pub few_channels : ltb 4 (inputs t) && ltb 4 (outputs t) ≡ false
    pub matrix_good : matrix_checked t ≡ good tt
    pub table_good : colour_table_of t ≡ good (table_in t)
    pub runs_whole : RunsWhole walk limit t

  -- a part is refused with n
  pub data PartRefused (n : ℕ) : Type 0 where
    the_matrix : matrix_checked t ≡ bad n → PartRefused n
    the_table : colour_table_of t ≡ bad n → PartRefused n
    a_run : (at m : ℕ) → ended (run_at walk limit t at m).end ≡ bad n → PartRefused n

  module _ (words : ℕ) where
    -- what holds of each way out holds of the answer: the one walk down the ladder
    pub ways_out : (P : Answer → Type 0) → P none → ((n : ℕ) → PartRefused n → P (refuse n)) → (AllGood → words / record_words < records_needed t → P (refuse 14)) → (AllGood → records_needed t ≤ words / record_words → P (value_of t)) → P (abm_of walk limit t words)
    unfolding abm_of
    ways_out P missing refused-so short value =
        each P (ltb 4 (inputs t) && ltb 4 (outputs t)) _ _ (λ _. missing)
        (λ few. passed P (matrix_checked t) _ (λ n e. refused-so n (the_matrix e))
        (λ _ m. passed P (colour_table_of t) _ (λ n e. refused-so n (the_table e))
        (λ table c. passed P (ended (run_a walk limit t).end) _ (λ n e. refused-so n (a_run (a_offset t) (a_curves_of t) e))
        (λ _ ea. passed P (ended (run_m walk limit t).end) _ (λ n e. refused-so n (a_run (m_offset t) (m_curves_of t) e))
        (λ _ em. passed P (ended (run_b walk limit t).end) _ (λ n e. refused-so n (a_run (b_offset t) (b_curves_of t) e))
        (λ _ eb.
        let g : AllGood =
        record {
          few_channels = few;
          matrix_good = m;
          table_good = c ∙ ap good (sym (table_in_lem t table c));
          runs_whole = record { a_whole = ended_good _ ea; m_whole = ended_good _ em; b_whole = ended_good _ eb };
        } in
        each P (ltb (words / record_words) (records_needed t)) _ _ (λ l. short g (ltb-true _ _ l)) (λ l. value g (ltb-false _ _ l))))))))

    pub record Accepted (a : Answer) : Type 0 where
      pub parts_good : AllGood
      pub room : records_needed t ≤ words / record_words
      pub answer_is : a ≡ value_of t

    pub accepted : IsValue (abm_of walk limit t words).state → Accepted (abm_of walk limit t words)
    unfolding IsValue
    accepted =
        ways_out (λ a. IsValue a.state → Accepted a) (λ v. absurd v) (λ n _ v. absurd v) (λ _ _ v. absurd v)
        (λ g l v. record { parts_good = g; room = l; answer_is = refl })

-- ---- a tag in its profile

module _ (walk : Walk) (limit points : ℕ) (p : List ℕ) (entry size words : ℕ) where
  abbrev FoundIn : Answer → Type 0
  FoundIn a = IsValue a.state → (entry + counted_size size ≤ length p) × (shortest ≤ counted_size size) × (a ≡ by_type walk limit points (counted_tag p entry size) words)

  pub in_profile : FoundIn (lut_of walk limit points p entry size words)
  unfolding lut_of
  in_profile =
      each FoundIn (ltb (length p) (entry + counted_size size)) _ _ (λ _ v. not_refused refl v)
      (λ l. each FoundIn (ltb (counted_size size) shortest) _ _ (λ _ v. not_refused refl v)
      (λ m v. (ltb-false (length p) (entry + counted_size size) l, ltb-false (counted_size size) shortest m, refl)))

-- what holds of each answer that has a result holds of the one that a call has: zeros stand where a result has no array
pub lut_each : (P : Answer → Type 0) → ((f : Fields) (m : List ℕ) → P (from_mft record { state = Mft-as-State.value f; matrix = m })) → ((f : Abm) (g m b : List ℕ) → P record { state = abm f; grid = g; matrix = m; bias = b }) → P none → ((n : ℕ) → P (refuse n)) → (walk : Walk) (limit points : ℕ) (p : List ℕ) (entry size words : ℕ) → P (lut_of walk limit points p entry size words)
unfolding lut_of by_type answer_of value_of
lut_each P as_mft as_abm missing refused_so walk limit points p entry size words =
    let t : List ℕ = counted_tag p entry size in
    each P (ltb (length p) (entry + counted_size size)) _ _ (λ _. refused_so 1)
    (λ _. each P (ltb (counted_size size) shortest) _ _ (λ _. refused_so 2)
    (λ _. each P (is_mft t) _ _ (λ _. by t (mft_of points t))
    (λ _. each P (is_abm t) _ _
    (λ _. ways_out walk limit t words P missing (λ n _. refused_so n) (λ _ _. refused_so 14) (λ _ _. as_abm _ _ _ _))
    (λ _. refused_so 3))))
  where
    by : (t : List ℕ) (x : Mft-as-State) → P (from_mft (answer_of t x))
    by t (Mft-as-State.value f) = as_mft f _
    by t (Mft-as-State.refused n) = refused_so n

-- ---- by its type

either_type : (t : List ℕ) → is_abm t ≡ true → (u32_at t 0 ≡ signature_of Mab) ⊎ (u32_at t 0 ≡ signature_of Mba)
either_type t = by (eqb (u32_at t 0) (signature_of Mab)) refl
  where
    by : (b : Bool) → eqb (u32_at t 0) (signature_of Mab) ≡ b → b || eqb (u32_at t 0) (signature_of Mba) ≡ true → (u32_at t 0 ≡ signature_of Mab) ⊎ (u32_at t 0 ≡ signature_of Mba)
    by true e h = inl (eqb-true _ _ e)
    by false e h = inr (eqb-true _ _ h)

-- what `mft1` and `mft2` give is theirs
mft_only : (t : List ℕ) (x : Mft-as-State) (f : Abm) → (from_mft (answer_of t x)).state ≡ abm f → ⊥
unfolding answer_of
mft_only t (Mft-as-State.value g) f h = never cc
mft_only t (Mft-as-State.refused n) f h = never cc

mft_read : (t : List ℕ) (x : Mft-as-State) (f : Fields) → (from_mft (answer_of t x)).state ≡ mft f → x ≡ Mft-as-State.value f
unfolding answer_of
mft_read t (Mft-as-State.value g) f h = let e : g ≡ f = cc in ap Mft-as-State.value e
mft_read t (Mft-as-State.refused n) f h = never cc

module _ (walk : Walk) (limit points : ℕ) (t : List ℕ) (words : ℕ) where
  -- and what `mAB ` and `mBA ` give is theirs
  abm_only : (f : Fields) → (abm_of walk limit t words).state ≡ mft f → ⊥
  unfolding value_of
  abm_only f h =
      let v = accepted walk limit t words (mft_value h) in
      let e = ap (λ (a : Answer). a.state) (sym v.answer_is) ∙ h in
      never cc

  abbrev ByAbm : Answer → Type 0
  ByAbm a = (f : Abm) → a.state ≡ abm f → ((u32_at t 0 ≡ signature_of Mab) ⊎ (u32_at t 0 ≡ signature_of Mba)) × (a ≡ abm_of walk limit t words)

  by_abm : ByAbm (by_type walk limit points t words)
  unfolding by_type
  by_abm =
      each ByAbm (is_mft t) _ _ (λ _ f h. absurd (mft_only t (mft_of points t) f h))
      (λ _. each ByAbm (is_abm t) _ _ (λ e f h. (either_type t e, refl)) (λ _ f h. not_refused refl (abm_value h)))

  abbrev ByMft : Answer → Type 0
  ByMft a = (f : Fields) → a.state ≡ mft f → (mft_of points t ≡ Mft-as-State.value f) × (a ≡ from_mft (answer_of t (mft_of points t)))

  by_mft : ByMft (by_type walk limit points t words)
  unfolding by_type
  by_mft =
      each ByMft (is_mft t) _ _ (λ _ f h. (mft_read t (mft_of points t) f h, refl))
      (λ _. each ByMft (is_abm t) _ _ (λ e f h. absurd (abm_only f h)) (λ _ f h. not_refused refl (mft_value h)))

-- ---- both together

module _ (walk : Walk) (limit points : ℕ) (p : List ℕ) (entry size words : ℕ) where
  abbrev answer : Answer
  answer = lut_of walk limit points p entry size words

  pub record AbmFound : Type 0 where
    pub tag_in_profile : entry + counted_size size ≤ length p
    pub long : shortest ≤ counted_size size
    pub type_is : (u32_at (counted_tag p entry size) 0 ≡ signature_of Mab) ⊎ (u32_at (counted_tag p entry size) 0 ≡ signature_of Mba)
    pub as_abm : answer ≡ abm_of walk limit (counted_tag p entry size) words
    pub behind : Accepted walk limit (counted_tag p entry size) words (abm_of walk limit (counted_tag p entry size) words)

  pub abm_found : (f : Abm) → answer.state ≡ abm f → AbmFound
  abm_found f h =
      let v = in_profile walk limit points p entry size words (abm_value h) in
      let w = by_abm walk limit points (counted_tag p entry size) words f (ap (λ (a : Answer). a.state) (sym v.2) ∙ h) in
      let e = v.2 ∙ w.1 in
      record {
        tag_in_profile = v.0;
        long = v.1;
        type_is = w.0;
        as_abm = e;
        behind = accepted walk limit (counted_tag p entry size) words (abm_value (ap (λ (a : Answer). a.state) (sym e) ∙ h));
      }

  pub record MftFound (f : Fields) : Type 0 where
    pub tag_in_profile : entry + counted_size size ≤ length p
    pub read_as : mft_of points (counted_tag p entry size) ≡ Mft-as-State.value f
    pub as_mft : answer ≡ from_mft (answer_of (counted_tag p entry size) (mft_of points (counted_tag p entry size)))

  pub mft_found : (f : Fields) → answer.state ≡ mft f → MftFound f
  mft_found f h =
      let v = in_profile walk limit points p entry size words (mft_value h) in
      let w = by_mft walk limit points (counted_tag p entry size) words f (ap (λ (a : Answer). a.state) (sym v.2) ∙ h) in
      record { tag_in_profile = v.0; read_as = w.0; as_mft = v.2 ∙ w.1 }
