-- The corners around a pixel, found by places: the colour of the dimensions from one on is a blend of what stands at the place that their coordinates
-- lead to, and all of it lies in the table. A dimension more is one step, used four times; one that the table does not have changes nothing.
-- Assumes nothing.
use Prim.Native.Nat.{ℕ, zero, suc, ◌+◌, ◌-◌, ◌*◌, ◌/◌, ◌%◌, ◌≤◌, ◌<◌}
use native.Mathlib.Omega.{arith}
use native.Mathlib.Nat.{mul-le-mul_right}
use mathlib.Core.Path.{◌≡◌, refl, sym, ◌∙◌}
use mathlib.Core.Bool.{Bool, true, false, cond, ◌||◌}
use mathlib.Core.List.{List, [], ◌∷◌}
use lib.ListN.{length, get_or, drop}
use lib.Seq.{drop-cons}
use lib.Dec.{ltb, eqb}
use borrow.Author.Tests.{ne_eqb, lt-ltb, le-ltb, ltb-true, ltb-false}
use Rattle.fields.specs.Some.{some}
use Rattle.lut_clut_meaning.specs.Clut.{is_flat}
use Rattle.lut_clut_meaning.specs.Table.{product}
use Rattle.lut_view_meaning.specs.View.{grid_from}
use Rattle.evaluate_meaning.specs.Colour.{cell_of, rest_of, blend, between, sample_at}
use Rattle.evaluate_meaning.proofs.Behind.{value_of, value_none, value_more}
use Rattle.evaluate_meaning.proofs.Blend.{blend_none}
use Rattle.evaluate_meaning.proofs.Cells.{cell_in, cell_next}
use Rattle.evaluate_parts.specs.Tests.{lift_of}
use Rattle.evaluate.specs.Parts.{dim_of, AxisIs}

-- what stands at a point, where the points' entries start at from, width bytes a point
abbrev pub entry_at : List ℕ → ℕ → ℕ → ℕ → ℕ → ℕ
entry_at t from width size p = sample_at t (from + p * width) size

-- ---- places

-- the colour of the dimensions gs is f of a place, and all that f reads from there lies in the table
pub record Axed (t gs xs : List ℕ) (width off far : ℕ) (f : ℕ → ℕ → ℕ) : Type 0 where
  pub same : (size from p : ℕ) → value_of (entry_at t from width size) gs xs p ≡ f size (from + p * (product gs * width) + off)
  pub reach : off + far + width ≤ product gs * width

-- two neighbours, S apart: where the rest is 0 the lower one stands for both
joined : (f : ℕ → ℕ) (S off from p g c r A : ℕ) → A ≡ from + (p * g + c) * S + off
    → between (f (from + (p * g + c) * S + off)) (f (from + (p * g + c + 1) * S + off)) r ≡ blend (f A) (f (A + lift_of r S)) r
unfolding between lift_of
joined f S off from p g c zero A e = rw (← e) (sym (blend_none (f A) (f (A + 0))))
joined f S off from p g c (suc v) A e =
    let h : A + S ≡ from + (p * g + c + 1) * S + off = omega arith in
    rw (ne_eqb (suc v) 0 (λ z. omega arith), h, e)

-- a step stays in its dimension
stays : (g x P : ℕ) → 2 ≤ g → x < 65536 → x * (g - 1) / 65535 * P + lift_of (x * (g - 1) % 65535) P + P ≤ g * P
unfolding lift_of cell_of rest_of
stays g x P l m = by_rest (x * (g - 1) % 65535) refl
  where
    by_rest : (v : ℕ) → x * (g - 1) % 65535 ≡ v → x * (g - 1) / 65535 * P + cond (eqb v 0) 0 P + P ≤ g * P
    by_rest zero e =
        let h : x * (g - 1) / 65535 + 1 ≤ g = omega (arith, cell_in g x m (omega arith)) in
        omega (arith, mul-le-mul_right P h)
    by_rest (suc v) e =
        let n : x * (g - 1) % 65535 ≡ 0 → ⊥ = λ z. omega arith in
        let h : x * (g - 1) / 65535 + 1 + 1 ≤ g = omega (arith, cell_next g x m (omega arith) n) in
        rw (ne_eqb (suc v) 0 (λ z. omega arith)) (omega (arith, mul-le-mul_right P h))

module _ (t gs xs : List ℕ) (width off far : ℕ) (f : ℕ → ℕ → ℕ) (a : Axed t gs xs width off far f) where
  -- one dimension more, in front
  front : (g x : ℕ) → 2 ≤ g → x < 65536
      → Axed t (g ∷ gs) (x ∷ xs) width (off + x * (g - 1) / 65535 * (product gs * width)) (far + lift_of (x * (g - 1) % 65535) (product gs * width))
      (λ size at. blend (f size at) (f size (at + lift_of (x * (g - 1) % 65535) (product gs * width))) (x * (g - 1) % 65535))
  unfolding product cell_of rest_of
  front g x l m =
      let S : ℕ = product gs * width in
      let c : ℕ = x * (g - 1) / 65535 in
      let r : ℕ = x * (g - 1) % 65535 in
      record {
        same = λ size from z.
            let A : ℕ = from + z * (g * product gs * width) + (off + c * S) in
            let e : A ≡ from + (z * g + c) * S + off = omega arith in
            rw (value_more (entry_at t from width size) g gs x xs z, a.same size from (z * g + c), a.same size from (z * g + c + 1)) (joined (λ i. f size i) S off from z g c r A e);
        reach = omega (arith, a.reach, stays g x S l m);
      }

  -- one that is none
  idle : Axed t gs xs width (off + 0) (far + 0) (λ size at. blend (f size at) (f size (at + 0)) 0)
  idle = record {
    same = λ size from z.
        let e : from + z * (product gs * width) + (off + 0) ≡ from + z * (product gs * width) + off = omega arith in
        a.same size from z ∙ rw e (sym (blend_none (f size (from + z * (product gs * width) + off)) (f size (from + z * (product gs * width) + off + 0))));
    reach = omega (arith, a.reach);
  }

pub none_left : (t xs : List ℕ) (width : ℕ) → Axed t [] xs width 0 0 (λ size at. sample_at t at size)
unfolding product
none_left t xs width = record {
  same = λ size from p.
      let e : from + p * (1 * width) + 0 ≡ from + p * width = omega arith in
      rw e (value_none (entry_at t from width size) xs p);
  reach = omega arith;
}

-- ---- the last k dimensions of the n of a table

abbrev pub part : List ℕ → ℕ → ℕ → ℕ → ℕ → List ℕ
part t at step n k = grid_from t (at + (n - k) * step) step (n - (n - k))

abbrev pub Stage : List ℕ → ℕ → ℕ → ℕ → List ℕ → ℕ → ℕ → ℕ → ℕ → (ℕ → ℕ → ℕ) → Type 0
Stage t at step n xs width k off far f = Axed t (part t at step n k) (drop (n - k) xs) width off far f

lifts : (v stride : ℕ) → v ≡ 0 → lift_of (v % 65535) stride ≡ 0
unfolding lift_of
lifts v stride h = let c : v % 65535 ≡ 0 = omega arith in rw c

-- the bytes of the dimensions so far: 0 where one of them is below 2
grown : (gs : List ℕ) (b width s g : ℕ) → s ≡ cond (some is_flat gs) 0 (product gs * width) → g ≡ cond (ltb b 2) 0 b
    → s * g ≡ cond (some is_flat (b ∷ gs)) 0 (product (b ∷ gs) * width)
unfolding some product
grown gs b width s g e d = by_tests (ltb b 2) (some is_flat gs) e d
  where
    by_tests : (v w : Bool) → s ≡ cond w 0 (product gs * width) → g ≡ cond v 0 b → s * g ≡ cond (v || w) 0 (b * product gs * width)
    by_tests true w e d = rw d (omega arith)
    by_tests false true e d = rw e (omega arith)
    by_tests false false e d = rw (e, d) (omega arith)

module _ (t : List ℕ) (at step n : ℕ) where
  module _ (k : ℕ) (l : n ≤ k) where
    pub dim_over : dim_of t at step n k ≡ 1
    unfolding dim_of
    dim_over = rw (le-ltb k n l)

    part_over : part t at step n (k + 1) ≡ part t at step n k
    part_over =
        let a : n - (k + 1) ≡ 0 = omega arith in
        let b : n - k ≡ 0 = omega arith in
        rw (a, b)

  module _ (k : ℕ) (l : k < n) where
    dim_under : dim_of t at step n k ≡ cond (ltb (get_or t (at + (n - 1 - k) * step) 0) 2) 0 (get_or t (at + (n - 1 - k) * step) 0)
    unfolding dim_of
    dim_under = rw (lt-ltb k n l)

    part_under : part t at step n (k + 1) ≡ get_or t (at + (n - 1 - k) * step) 0 ∷ part t at step n k
    unfolding grid_from
    part_under =
        let a : n - (k + 1) ≡ n - 1 - k = omega arith in
        let b : n - k ≡ suc (n - 1 - k) = omega arith in
        let c : n - (n - 1 - k) ≡ suc (n - suc (n - 1 - k)) = omega arith in
        let d : at + suc (n - 1 - k) * step ≡ at + (n - 1 - k) * step + step = omega arith in
        rw (a, b, c, d)

  dim_solid : (b g : ℕ) → g ≡ cond (ltb b 2) 0 b → (g ≡ 0 → ⊥) → (2 ≤ b) × (g ≡ b)
  dim_solid b g e z = by_test (ltb b 2) refl
    where
      by_test : (v : Bool) → ltb b 2 ≡ v → (2 ≤ b) × (g ≡ b)
      by_test true q = absurd (z (rw q at e))
      by_test false q = (ltb-false b 2 q, rw q at e)

  module _ (xs : List ℕ) (width k off far : ℕ) (f : ℕ → ℕ → ℕ) (a : Stage t at step n xs width k off far f)
      (g x stride o u r : ℕ) (e : g ≡ dim_of t at step n k) (z : g ≡ 0 → ⊥) (p : k < n → x ≡ get_or xs (n - 1 - k) 0) (q : n ≤ length xs)
      (s : stride ≡ product (part t at step n k) * width) (w : AxisIs x g stride o u r) where
    pub next : Stage t at step n xs width (k + 1) (off + o) (far + u) (λ size at. blend (f size at) (f size (at + u)) r)
    next = by_test (ltb k n) refl
      where
        by_test : (v : Bool) → ltb k n ≡ v → Stage t at step n xs width (k + 1) (off + o) (far + u) (λ size at. blend (f size at) (f size (at + u)) r)
        by_test true y =
            let l : k < n = ltb-true k n y in
            let d = dim_solid (get_or t (at + (n - 1 - k) * step) 0) g (e ∙ dim_under k l) z in
            let i : n - (k + 1) ≡ n - 1 - k = omega arith in
            let j : n - k ≡ suc (n - 1 - k) = omega arith in
            let c : n - 1 - k < length xs = omega arith in
            let two : 2 ≤ g = omega (arith, d) in
            let h : Axed t (g ∷ part t at step n k) (x ∷ drop (n - k) xs) width (off + x * (g - 1) / 65535 * (product (part t at step n k) * width)) (far + lift_of (x * (g - 1) % 65535) (product (part t at step n k) * width))
            (λ size pl. blend (f size pl) (f size (pl + lift_of (x * (g - 1) % 65535) (product (part t at step n k) * width))) (x * (g - 1) % 65535))
            = front t (part t at step n k) (drop (n - k) xs) width off far f a g x two w.x16 in
            let v : drop (n - (k + 1)) xs ≡ x ∷ drop (n - k) xs = rw (i, j, p l) (drop-cons xs (n - 1 - k) 0 c) in
            rw (part_under k l, v, ← d.1, w.is_off, w.is_up, w.is_rest, s) h
        by_test false y =
            let l : n ≤ k = ltb-false k n y in
            let one : g ≡ 1 = e ∙ dim_over k l in
            let i : n - (k + 1) ≡ n - k = omega arith in
            let pos : x * (g - 1) ≡ 0 = rw one (omega arith) in
            let o' : o ≡ 0 = w.is_off ∙ rw pos (omega arith) in
            let r' : r ≡ 0 = w.is_rest ∙ rw pos (omega arith) in
            let u' : u ≡ 0 = w.is_up ∙ lifts (x * (g - 1)) stride pos in
            rw (part_over k l, i, o', u', r') (idle t (part t at step n k) (drop (n - k) xs) width off far f a)

  pub stride_next : (width k s g : ℕ) → s ≡ cond (some is_flat (part t at step n k)) 0 (product (part t at step n k) * width) → g ≡ dim_of t at step n k
      → s * g ≡ cond (some is_flat (part t at step n (k + 1))) 0 (product (part t at step n (k + 1)) * width)
  stride_next width k s g e d = by_test (ltb k n) refl
    where
      by_test : (v : Bool) → ltb k n ≡ v → s * g ≡ cond (some is_flat (part t at step n (k + 1))) 0 (product (part t at step n (k + 1)) * width)
      by_test false y =
          let l : n ≤ k = ltb-false k n y in
          let one : g ≡ 1 = d ∙ dim_over k l in
          let c : s * g ≡ s = rw one (omega arith) in
          rw (part_over k l) (c ∙ e)
      by_test true y = let l : k < n = ltb-true k n y in rw (part_under k l) (grown (part t at step n k) (get_or t (at + (n - 1 - k) * step) 0) width s g e (d ∙ dim_under k l))

-- an axis of no dimension
pub no_axis : (g stride : ℕ) → AxisIs 0 g stride 0 0 0
no_axis g stride =
    let pos : 0 * (g - 1) ≡ 0 = omega arith in
    record { is_off = rw pos (omega arith); is_up = sym (lifts (0 * (g - 1)) stride pos); is_rest = rw pos (omega arith); x16 = omega arith }
