-- The reader of text, case by case, as the code meets it: each law takes what the tests and the calls on the way told, and gives what
-- is answered, and what is left of the slots.
-- Assumes nothing.
use native.Mathlib.Omega.{arith}
use Prim.Native.Nat.{ℕ, ◌+◌, ◌-◌, ◌*◌, ◌≤◌, ◌<◌}
use mathlib.Core.Path.{◌≡◌, refl}
use mathlib.Core.List.{List, [], ◌∷◌}
use lib.Dec.{ltb}
use lib.ListN.{length, drop, length-take, length-drop}
use types.Run.{OneOf}
use denote.Enum.Declared.{tag_of as place_in}
use borrow.Author.Tests.{eq-eqb, ne_eqb, lt-ltb, le-ltb}
use Rattle.std.specs.Prelude.{Option, None, Result, Ok, Err}
use Rattle.fields.proofs.Never.{never}
use Rattle.fields.specs.Bytes.{u32_at}
use Rattle.fields.specs.Place.{counted_size, counted_tag}
use Rattle.fields.specs.Tag.{signature_of, kind_of}
use Rattle.fields.specs.declared.Kind.{Kind}
use Rattle.fields.specs.declared.Kind.TheVariants.{Text, Desc, Mluc}
use Rattle.fields.specs.declared.Refusal.{Refusal}
use Rattle.fields.proofs.Choice.{each}
use Rattle.fields.specs.contracts.Kind as kinds
use Rattle.fields.proofs.Signatures.{arm, unlike, others}
use Rattle.text_meaning.specs.Answer.{Answer, text, desc, absent, refused, span, span_from, unicode_from, in_numbers, slots_with}
use Rattle.text_meaning.specs.Cut.{byte_of, unit_of, kept_of}
use Rattle.text_meaning.specs.Layout.{ascii_end}
use Rattle.text_meaning.specs.Text.{AnswerAndSlots, text_of, unicode_of, desc_of, mluc_of, by_type, string_of}
use Rattle.text_meaning.specs.declared.Description.{Description}
use Rattle.text_meaning.specs.declared.TextValue.{TextValue}
use Rattle.text_meaning.proofs.Shared.{leaving, same, as_text, as_mluc, as_desc}

-- ---- `text`

pub text_value : (t : List ℕ) (kept : ℕ) → kept ≡ kept_of (byte_of t 8) (length t - 8) → text (span 8 kept) ≡ text_of t
unfolding text_of
text_value t kept e = rw e

-- ---- `desc`

module _ (t : List ℕ) (at n : ℕ) (h : n ≡ u32_at t (at + 4)) where
  pub unicode_past : (d : Description) → length t < at + 8 + 2 * n → d.language ≡ 0 → d.unicode.start.0 ≡ 0 → d.unicode.length ≡ 0 → unicode_from d ≡ unicode_of t at
  unfolding unicode_of
  unicode_past d l e₁ e₂ e₃ = simp (← h, lt-ltb _ _ l, e₁, e₂, e₃)

  module _ (l : at + 8 + 2 * n ≤ length t) (language : ℕ) (e : language ≡ u32_at t at) where
    pub unicode_none : (d : Description) → n ≡ 0 → d.language ≡ language → d.unicode.start.0 ≡ 0 → d.unicode.length ≡ 0 → unicode_from d ≡ unicode_of t at
    unfolding unicode_of
    unicode_none d z e₁ e₂ e₃ = simp (← h, le-ltb _ _ l, eq-eqb _ _ z, e₁, e₂, e₃, e)

    pub unicode_there : (kept : ℕ) → (n ≡ 0 → ⊥) → kept ≡ kept_of (unit_of t (at + 8)) n → record { language = language; string = span (at + 8) (2 * kept) } ≡ unicode_of t at
    unfolding unicode_of
    unicode_there kept z k = simp (← h, le-ltb _ _ l, ne_eqb _ _ z, k, e)

pub ruleset unicode_laws = (unicode_past, unicode_none, unicode_there)

pub desc_short : (t : List ℕ) → length t < 12 → refused 2 ≡ desc_of t
unfolding desc_of
desc_short t l = rw (lt-ltb _ _ l)

module _ (t : List ℕ) (l : 12 ≤ length t) (n : ℕ) (h : n ≡ u32_at t 8) where
  pub desc_past : length t < 12 + n → refused 2 ≡ desc_of t
  unfolding desc_of
  desc_past m = simp (le-ltb _ _ l, ← h, lt-ltb _ _ m)

  pub desc_value : (kept : ℕ) (d : Description) → 12 + n ≤ length t → kept ≡ kept_of (byte_of t 12) n → d.ascii ≡ record { start = record { 0 = 12 }; length = kept } → unicode_from d ≡ unicode_of t (12 + n) → desc (span_from d.ascii) (unicode_from d) ≡ desc_of t
  unfolding desc_of
  desc_value kept d m k a u = simp (le-ltb _ _ l, ← h, le-ltb _ _ m, a, k, u)

pub ruleset desc_laws = (desc_short, desc_past, desc_value)

-- ---- the type

text_leaves : (t s ws : List ℕ) → slots_with (text_of t) ws s ≡ s
unfolding text_of
text_leaves t s ws = refl

desc_leaves : (t s ws : List ℕ) → slots_with (desc_of t) ws s ≡ s
unfolding desc_of
desc_leaves t s ws =
    let P : Answer → Type 0 = λ a. slots_with a ws s ≡ s in
    each P (ltb (length t) 12) _ _ (λ _. refl) (λ _. each P (ltb (length t) (ascii_end t)) _ _ (λ _. refl) (λ _. refl))

module _ (t s : List ℕ) (k : Kind) (h : k ≡ kind_of (u32_at t 0)) (r : Result (Option TextValue) Refusal) where
  named : (a : Kind) → (Kind.Other ≡ a → ⊥) → k ≡ a → u32_at t 0 ≡ signature_of a
  named a o e = arm _ a o h e

  pub kind_text : k ≡ Text → in_numbers r ≡ text_of t → AnswerAndSlots t (by_type t (length s)) r s s
  kind_text e g = leaving t s r _ _ (text_leaves t s) (as_text t (length s) (named Text (λ o. never cc) e)) g

  pub kind_mluc : k ≡ Mluc → (s' : List ℕ) → AnswerAndSlots t (mluc_of t (length s)) r s s' → AnswerAndSlots t (by_type t (length s)) r s s'
  kind_mluc e s' g = same t s r _ _ s' (as_mluc t (length s) (named Mluc (λ o. never cc) e)) g

  pub kind_desc : k ≡ Desc → in_numbers r ≡ desc_of t → AnswerAndSlots t (by_type t (length s)) r s s
  kind_desc e g = leaving t s r _ _ (desc_leaves t s) (as_desc t (length s) (named Desc (λ o. never cc) e)) g

pub kind_other : (t s : List ℕ) (k : Kind) → k ≡ kind_of (u32_at t 0) → OneOf (others (Text ∷ Mluc ∷ Desc ∷ [])) (place_in kinds.the_type k) → AnswerAndSlots t (by_type t (length s)) (Ok None) s s
unfolding by_type
kind_other t s k h o =
    let rest = others (Text ∷ Mluc ∷ Desc ∷ []) in
    leaving t s _ _ absent (λ ws. refl) (rw (ne_eqb _ _ (unlike _ Text rest refl h o), ne_eqb _ _ (unlike _ Mluc rest refl h o), ne_eqb _ _ (unlike _ Desc rest refl h o))) refl

pub ruleset kind_laws = (kind_text, kind_mluc, kind_desc, kind_other)

-- ---- the tag in its profile

-- a tag that lies in its profile is as long as its size counts
pub tag_long : (p : List ℕ) (entry size : ℕ) → entry + counted_size size ≤ length p → length (counted_tag p entry size) ≡ counted_size size
tag_long p entry size h = omega (arith, length-take (counted_size size) (drop entry p), length-drop entry p)

module _ (p s : List ℕ) (entry size end : ℕ) (n : end ≡ counted_size size) where
  pub string_small : end < 4 → AnswerAndSlots (counted_tag p entry size) (string_of p entry size (length s)) (Ok None) s s
  unfolding string_of
  string_small l = leaving _ s _ _ absent (λ ws. refl) (rw (← n, lt-ltb _ _ l)) refl

  module _ (l : 4 ≤ end) where
    pub string_past : length p < entry + counted_size size → AnswerAndSlots (counted_tag p entry size) (string_of p entry size (length s)) (Err Refusal.PastProfile) s s
    unfolding string_of
    string_past e = leaving _ s _ _ (refused 1) (λ ws. refl) (rw (← n, le-ltb _ _ l, n, lt-ltb _ _ e)) refl

    module _ (fits : entry + counted_size size ≤ length p) where
      pub string_short : end < 8 → AnswerAndSlots (counted_tag p entry size) (string_of p entry size (length s)) (Ok None) s s
      unfolding string_of
      string_short m =
          let f : entry + end ≤ length p = omega arith in
          leaving _ s _ _ absent (λ ws. refl) (rw (← n, le-ltb _ _ l, le-ltb _ _ f, lt-ltb _ _ m)) refl

      pub string_kind : (t : List ℕ) (r : Result (Option TextValue) Refusal) (s' : List ℕ) → 8 ≤ end → t ≡ counted_tag p entry size → AnswerAndSlots t (by_type t (length s)) r s s' → AnswerAndSlots (counted_tag p entry size) (string_of p entry size (length s)) r s s'
      unfolding string_of
      string_kind t r s' m e g =
          let f : entry + end ≤ length p = omega arith in
          let k : string_of p entry size (length s) ≡ by_type (counted_tag p entry size) (length s) = rw (← n, le-ltb _ _ l, le-ltb _ _ f, le-ltb _ _ m, n) in
          same _ s r _ _ s' k (rw e at g)

pub ruleset string_laws = (string_small, string_past, string_short, string_kind, tag_long)
