-- How a call ends: a refusal has the number of a reader's, and only a value changes the lent slots.
-- Assumes nothing.
use Prim.Native.Nat.{ℕ}
use mathlib.Core.Path.{◌≡◌, refl, sym, ap, subst, ◌∙◌}
use mathlib.Core.List.{List}
use Rattle.lut_meaning.specs.Answer.{State, mft, abm, absent as State·absent, refused as State·refused, slots_with as Lut·slotsWith}
use Rattle.text_meaning.specs.Answer.{Answer as Text-as-Answer, slots_with as Text·slotsWith}
use Rattle.demands.specs.Readers.{Reader, lut, trc, string, small, Call, meaning, slots_after, Outcome, value, default, absent, refused, outcome, lut_outcome, text_outcome, Library, ends, Promised}
use Rattle.demands.proofs.Refuses.{Low, Numbered, meaning_numbered}

-- ---- slots

-- an outcome other than a value
abbrev pub Spares : Outcome → Type 0
Spares value = ⊥
Spares default = Unit
Spares absent = Unit
Spares (refused n) = Unit

pub slots_spared : (r : Reader) (c : Call) → Spares (outcome r (meaning r c)) → slots_after r c ≡ c.slots
slots_spared (lut walk) c = by (meaning (lut walk) c).state _
  where
    by : (s : State) (words : List ℕ) → Spares (lut_outcome s) → Lut·slotsWith s words c.slots ≡ c.slots
    by (mft f) words h = refl
    by (abm f) words h = absurd h
    by State·absent words h = refl
    by (State·refused n) words h = refl
slots_spared string c = by (meaning string c) _
  where
    by : (a : Text-as-Answer) (words : List ℕ) → Spares (text_outcome a) → Text·slotsWith a words c.slots ≡ c.slots
    by (Text-as-Answer.text s) words h = refl
    by (Text-as-Answer.desc s u) words h = refl
    by (Text-as-Answer.mluc n) words h = absurd h
    by Text-as-Answer.absent words h = refl
    by (Text-as-Answer.refused n) words h = refl
slots_spared (trc walk) c = λ h. refl
slots_spared (small s) c = λ h. refl

-- ---- of a library that keeps the contracts

module _ (l : Library) (p : Promised l) where
  pub ends_so : (r : Reader) (c : Call) → ends l r c ≡ outcome r (meaning r c)
  ends_so r c = ap (outcome r) (p.answers r c)

  pub numbered : (r : Reader) (c : Call) (n : ℕ) → ends l r c ≡ refused n → Low n
  numbered r c n e = subst Numbered (sym (ends_so r c) ∙ e) (meaning_numbered r c)

  pub leaves_spared : (r : Reader) (c : Call) → Spares (ends l r c) → l.leaves r c ≡ c.slots
  leaves_spared r c h = p.leaves_so r c ∙ slots_spared r c (subst Spares (ends_so r c) h)
