-- A refusal's number names no other refusal, and none is 18.
-- Assumes nothing.
use Prim.Native.Nat.{ℕ}
use mathlib.Core.Path.{◌≡◌, refl, sym, ap, ◌∙◌}
use mathlib.Core.Bool.{true, cond, false≢true}
use lib.Dec.{eqb}
use Rattle.icc.specs.Each.{Each}
use Rattle.fields.specs.Refusals.{refusal_number, refusal_numbers, is_refusal}
use Rattle.fields.specs.Some.{some}
use Rattle.fields.specs.declared.Refusal.{Refusal}
use Rattle.fields.specs.declared.Refusal.TheVariants.{PastProfile, TagTooShort, OtherLut, GridOverflow, GridZero, GridTooLarge, GridDimension, EntrySize, OtherCurve, TooManyEntries, CurveRunsOut, FunctionType, ZeroDivision, TooFewSlots, BadTable, GridOverLimit, BadChad, NoColourTable}

-- the refusal of a number
abbrev pub name_of : ℕ → Refusal
name_of n =
    cond (eqb n 1) PastProfile (
    cond (eqb n 2) TagTooShort (
    cond (eqb n 3) OtherLut (
    cond (eqb n 4) GridOverflow (
    cond (eqb n 5) GridZero (
    cond (eqb n 6) GridTooLarge (
    cond (eqb n 7) GridDimension (
    cond (eqb n 8) EntrySize (
    cond (eqb n 9) OtherCurve (
    cond (eqb n 10) TooManyEntries (
    cond (eqb n 11) CurveRunsOut (
    cond (eqb n 12) FunctionType (
    cond (eqb n 13) ZeroDivision (
    cond (eqb n 14) TooFewSlots (
    cond (eqb n 15) BadTable (
    cond (eqb n 16) GridOverLimit (
    cond (eqb n 17) BadChad (
    NoColourTable)))))))))))))))))

-- each is that of its own number, which is one of the list
known : (r : Refusal) → (name_of (refusal_number r) ≡ r) × (is_refusal (refusal_number r) ≡ true)
unfolding some
known PastProfile = (refl, refl)
known TagTooShort = (refl, refl)
known OtherLut = (refl, refl)
known GridOverflow = (refl, refl)
known GridZero = (refl, refl)
known GridTooLarge = (refl, refl)
known GridDimension = (refl, refl)
known EntrySize = (refl, refl)
known OtherCurve = (refl, refl)
known TooManyEntries = (refl, refl)
known CurveRunsOut = (refl, refl)
known FunctionType = (refl, refl)
known ZeroDivision = (refl, refl)
known TooFewSlots = (refl, refl)
known BadTable = (refl, refl)
known GridOverLimit = (refl, refl)
known BadChad = (refl, refl)
known NoColourTable = (refl, refl)

pub named : (r : Refusal) → name_of (refusal_number r) ≡ r
named r = (known r).0

pub injective : (r s : Refusal) → refusal_number r ≡ refusal_number s → r ≡ s
injective r s h = sym (named r) ∙ ap name_of h ∙ named s

-- ---- the list: each refusal has a number of it, each of it is the number of a refusal, and 18 is not of it

pub listed : (r : Refusal) → is_refusal (refusal_number r) ≡ true
listed r = (known r).1

pub used : Each (λ n. refusal_number (name_of n) ≡ n) refusal_numbers
unfolding Each
used = (refl, (refl, (refl, (refl, (refl, (refl, (refl, (refl, (refl, (refl, (refl, (refl, (refl, (refl, (refl, (refl, (refl, (refl, tt))))))))))))))))))

pub never_18 : (r : Refusal) → refusal_number r ≡ 18 → ⊥
unfolding some
never_18 r e = let l : is_refusal 18 ≡ true = rw e at (listed r) in false≢true l
