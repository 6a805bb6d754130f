-- Demand 3 of the small readers: bytes behind the profile keep every answer but refusal 1.
-- Assumes nothing.
use Prim.Native.Nat.{ℕ, ◌+◌, ◌≤◌}
use native.Mathlib.Omega.{arith}
use mathlib.Core.Path.{◌≡◌, refl, ap}
use mathlib.Core.List.{List, ◌++◌}
use mathlib.Core.Logic.{inl, inr}
use lib.Dec.{ltb}
use lib.ListN.{length}
use borrow.Author.Tests.{ltb-false}
use Rattle.std.specs.Prelude.{Result, Ok, Err}
use Rattle.fields.specs.Place.{tag_at}
use Rattle.fields.specs.Tag.{signature_of}
use Rattle.fields.specs.declared.Kind.TheVariants.{Dtim}
use Rattle.fields.specs.declared.Place.{Place}
use Rattle.fields.proofs.Append.{longer, part_append}
use Rattle.fields.proofs.Grow.{Grows, choose, passes}
use Rattle.small_meaning.specs.Answer.{Answer, value, absent, refused}
use Rattle.small_meaning.specs.Layout.{signature_in, date_bytes, conditions, code_points}
use Rattle.small_meaning.specs.Order.{found_of, answer_to}
use Rattle.small_meaning.specs.Readers.{Small, chad, sig, date, meas, view, xyz, cicp, small_of}
use Rattle.small_meaning.specs.Small.{chad_of, window_of, triple_of}
use Rattle.small_meaning.specs.declared.Unfound.{Unfound}
use Rattle.small_meaning.proofs.Order.{tagged}

-- the answers that may change
abbrev pub Past : Answer → Type 0
Past a = a ≡ refused 1

module _ (p q : List ℕ) (entry size : ℕ) where
  -- ---- the order

  found_more : (least end signature : ℕ) → Grows (λ f. f ≡ Err Unfound.Past) (found_of least end signature p entry size) (found_of least end signature (p ++ q) entry size)
  unfolding found_of
  found_more least end signature =
      let L : Result Place Unfound → Type 0 = λ f. f ≡ Err Unfound.Past in
      choose L (ltb size least) (λ _. inr refl)
      (λ _. passes L (ltb (length p) (entry + end)) (ltb (length (p ++ q)) (entry + end)) (longer p q (entry + end)) refl
      (λ e. rw (part_append p q entry end (ltb-false (length p) (entry + end) e)) (inr refl)))

  -- what each reader makes of it, where its answer to the tag itself is kept
  order_more : (least end signature : ℕ) (short other this this' : Answer) → (least ≤ size → entry + end ≤ length p → Grows Past this this') → Grows Past (answer_to (found_of least end signature p entry size) short other this) (answer_to (found_of least end signature (p ++ q) entry size) short other this')
  unfolding answer_to
  order_more least end signature short other this this' g = by (found_more least end signature)
    where
      same : (f : Result Place Unfound) → found_of least end signature p entry size ≡ f → Grows Past (answer_to f short other this) (answer_to f short other this')
      same (Err Unfound.Short) h = inr refl
      same (Err Unfound.Past) h = inr refl
      same (Err Unfound.Other) h = inr refl
      same (Ok w) h = let t = tagged least end signature p entry size h in g t.long t.fits

      by : Grows (λ f. f ≡ Err Unfound.Past) (found_of least end signature p entry size) (found_of least end signature (p ++ q) entry size) → Grows Past (answer_to (found_of least end signature p entry size) short other this) (answer_to (found_of least end signature (p ++ q) entry size) short other this')
      by (inl e) = inl (rw e)
      by (inr e) = rw e (same (found_of least end signature p entry size) refl)

  -- a tag that lies in the profile has the same bytes, and what they say is kept
  tag_more : (least end signature : ℕ) (short other : Answer) (says : List ℕ → Answer) → Grows Past (answer_to (found_of least end signature p entry size) short other (says (tag_at p entry end))) (answer_to (found_of least end signature (p ++ q) entry size) short other (says (tag_at (p ++ q) entry end)))
  tag_more least end signature short other says =
      order_more least end signature short other _ _ (λ _ f. inr (ap says (part_append p q entry end f)))

  -- ---- each reader

  pub small_more : (s : Small) → Grows Past (small_of s p entry size) (small_of s (p ++ q) entry size)
  unfolding chad_of window_of
  small_more chad =
      passes Past (ltb (length p) (entry + size)) (ltb (length (p ++ q)) (entry + size)) (longer p q (entry + size)) refl
      (λ e. passes Past (ltb (length p) (entry + 8)) (ltb (length (p ++ q)) (entry + 8)) (longer p q (entry + 8)) refl
      (λ _. rw (part_append p q entry size (ltb-false (length p) (entry + size) e)) (inr refl)))
  small_more sig = tag_more _ _ _ _ _ (λ (t : List ℕ). value (signature_in t))
  small_more date = order_more 20 size (signature_of Dtim) absent absent _ _ (λ l f. inr (ap (λ (t : List ℕ). value (date_bytes t)) (part_append p q 0 20 (omega arith))))
  small_more meas =
      order_more _ _ _ _ _ _ _
      (λ _ _. passes Past (ltb (length p) (entry + 36)) (ltb (length (p ++ q)) (entry + 36)) (longer p q (entry + 36)) refl
      (λ e. rw (part_append p q entry 36 (ltb-false (length p) (entry + 36) e)) (inr refl)))
  small_more view = tag_more _ _ _ _ _ (λ (t : List ℕ). value (conditions t))
  small_more xyz = tag_more _ _ _ _ _ triple_of
  small_more cicp = tag_more _ _ _ _ _ (λ (t : List ℕ). value (code_points t))

-- so every other answer is kept: a value with its fields, the default, an absence, any other refusal
pub kept : {a b : Answer} → (a ≡ refused 1 → ⊥) → Grows Past a b → b ≡ a
kept h (inl e) = absurd (h e)
kept h (inr e) = e
