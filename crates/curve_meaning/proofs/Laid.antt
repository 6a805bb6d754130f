-- What a curve is accepted by, in the reader's own terms, both ways: the stepping stone between the checks and what the standard writes.
-- Assumes nothing.
use Prim.Native.Nat.{ℕ, ◌≤◌}
use native.Mathlib.Omega.{arith}
use mathlib.Core.Path.{◌≡◌, refl, subst}
use mathlib.Core.Bool.{Bool, true, false, ◌&&◌}
use mathlib.Core.List.{List}
use lib.Dec.{ltb, eqb}
use lib.ListN.{length, get_or}
use borrow.Author.Tests.{ne_eqb, le-ltb, ltb-false, eqb-true, eqb-false}
use Rattle.fields.specs.Checked.{Checked, good, bad}
use Rattle.fields.specs.Bytes.{u16_at, u32_at}
use Rattle.fields.specs.House.{tag_size}
use Rattle.fields.specs.Tag.{signature_of}
use Rattle.fields.specs.declared.Kind.TheVariants.{Curv, Para}
use Rattle.fields.proofs.Choice.{each, second_fails}
use Rattle.curve_meaning.specs.Curve.{curve_of, curv_of, para_of, divides}
use Rattle.curve_meaning.specs.Layout.{entry_count, entries_end, function_type, parameter_count, parameters_end, parameters}
use Rattle.curve_meaning.specs.Shape.{Shape, empty, table, para}

-- the bytes t begin with a curveType of n entries
pub record CurveType (t : List ℕ) (n : ℕ) : Type 0 where
  pub signature : u32_at t 0 ≡ signature_of Curv
  pub count : entry_count t ≡ n
  pub whole : entries_end n ≤ length t

-- the bytes t begin with a parametricCurveType of this function type and these parameters
pub record ParametricCurveType (t : List ℕ) (type : ℕ) (ps : List ℕ) : Type 0 where
  pub signature : u32_at t 0 ≡ signature_of Para
  pub function : function_type t ≡ type
  pub known : type ≤ 4
  pub given : parameters t ≡ ps
  pub whole : parameters_end (parameter_count type) ≤ length t

-- the bytes t begin with the curve
unfoldable pub Laid : List ℕ → Shape → Type 0
Laid t empty = CurveType t 0
Laid t (table n) = (1 ≤ n) × CurveType t n
Laid t (para type ps) = ParametricCurveType t type ps

-- no more entries than the limit, and no division by a second parameter of 0
unfoldable pub Within : ℕ → Shape → Type 0
Within limit empty = Unit
Within limit (table n) = n ≤ limit
Within limit (para type ps) = divides type ≡ true → get_or ps 1 0 ≡ 0 → ⊥

-- ---- what is laid out so is accepted

-- a function that does not divide by 0
steep : (type a : ℕ) → (divides type ≡ true → a ≡ 0 → ⊥) → divides type && eqb a 0 ≡ false
steep type a h = by (divides type) refl
  where
    by : (d : Bool) → divides type ≡ d → d && eqb a 0 ≡ false
    by true e = ne_eqb a 0 (h e)
    by false e = refl

pub accepted : (limit : ℕ) (t : List ℕ) (s : Shape) → Laid t s → Within limit s → curve_of limit t ≡ good s
unfolding Laid Within curve_of curv_of para_of signature_of
accepted limit t empty h w =
    let l : tag_size ≤ length t = omega (arith, h.whole) in
    simp (le-ltb (length t) tag_size l, h.signature, h.count)
accepted limit t (table n) (m, h) w =
    let l : tag_size ≤ length t = omega (arith, h.whole) in
    let z : n ≡ 0 → ⊥ = λ e. omega arith in
    simp (le-ltb (length t) tag_size l, h.signature, h.count, ne_eqb n 0 z, le-ltb limit n w, le-ltb (length t) (entries_end n) h.whole)
accepted limit t (para type ps) h w =
    let l : tag_size ≤ length t = omega (arith, h.whole) in
    simp (le-ltb (length t) tag_size l, h.signature, h.function, le-ltb 4 type h.known, le-ltb (length t) (parameters_end (parameter_count type)) h.whole, simp h.function at h.given, steep type (get_or ps 1 0) w)

-- ---- what is accepted is laid out so

Facts : ℕ → List ℕ → Checked Shape → Type 0
Facts limit t (good s) = Laid t s × Within limit s
Facts limit t (bad n) = Unit

facts : (limit : ℕ) (t : List ℕ) → Facts limit t (curve_of limit t)
unfolding Facts Laid Within curve_of curv_of para_of
facts limit t =
    let P : Checked Shape → Type 0 = Facts limit t in
    let n : ℕ = u32_at t 8 in
    let type : ℕ = u16_at t 8 in
    each P (ltb (length t) tag_size) _ _ (λ _. tt)
    (λ l. each P (eqb (u32_at t 0) (signature_of Curv)) _ _
    (λ k. each P (eqb n 0) _ _
    (λ z. (record { signature = eqb-true _ _ k; count = eqb-true n 0 z; whole = ltb-false (length t) tag_size l }, tt))
    (λ z. each P (ltb limit n) _ _ (λ _. tt)
    (λ w. each P (ltb (length t) (entries_end n)) _ _ (λ _. tt)
    (λ e. ((let y = eqb-false n 0 z in omega arith, record { signature = eqb-true _ _ k; count = refl; whole = ltb-false (length t) _ e }), ltb-false limit n w)))))
    (λ _. each P (eqb (u32_at t 0) (signature_of Para)) _ _
    (λ k. each P (ltb 4 type) _ _ (λ _. tt)
    (λ m. each P (ltb (length t) (parameters_end (parameter_count type))) _ _ (λ _. tt)
    (λ e. each P (divides type && eqb (get_or (parameters t) 1 0) 0) _ _ (λ _. tt)
    (λ d. (record { signature = eqb-true _ _ k; function = refl; known = ltb-false 4 type m; given = refl; whole = ltb-false (length t) _ e }, λ v. eqb-false _ 0 (second_fails (divides type) _ d v))))))
    (λ _. tt)))

pub laid : (limit : ℕ) (t : List ℕ) (s : Shape) → curve_of limit t ≡ good s → Laid t s × Within limit s
unfolding Facts
laid limit t s h = subst (Facts limit t) h (facts limit t)
