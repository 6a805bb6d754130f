-- The meanings case by case, as the code meets them: each law takes what the tests and the calls on the way told, and gives the answer.
-- An answer cites them by name alone, `search (rules, count-laws)`. Of a loop, what is left has the answer of the whole.
-- Assumes nothing.
use Prim.Native.Nat.{ℕ, suc, ◌+◌, ◌-◌, ◌*◌, ◌^◌, ◌≤◌, ◌<◌, min}
use native.Mathlib.Omega.{arith}
use native.Mathlib.Numerals.{add-one}
use native.Mathlib.Nat.{one-mul, mul-one, mul_assoc, mul-le-mul}
use mathlib.Core.Path.{◌≡◌, refl, sym, subst, ◌∙◌}
use mathlib.Core.Bool.{Bool, true, false, cond}
use mathlib.Core.List.{List, [], ◌∷◌, ◌++◌}
use lib.ListN.{length, get_or, take, drop, drop_of_length-le}
use lib.Seq.{drop-cons}
use mir.Syntax.{w32, w64}
use mir.Val.{Fits}
use borrow.Author.Tests.{ne_eqb, lt-ltb, le-ltb, le-leb, lt-leb}
use Rattle.fields.specs.Some.{some}
use Rattle.fields.proofs.Choice.{each}
use Rattle.fields.proofs.Located.{part_is}
use Rattle.lut_clut_meaning.specs.Clut.{is_over, is_flat, partials, overflows, most_entries, grid_at_of, grid_checked, data_of, clut_of}
use Rattle.lut_clut_meaning.specs.Table.{product}
use Rattle.lut_clut_meaning.specs.Answer.{Answer, value, refused, answer_of}
use Rattle.lut_clut.specs.Counts.{counts_of, Counted, DataRead}
use Rattle.lut_clut.specs.declared.Counts.{Counts}
use Rattle.std.specs.Prelude.{Option, Some, None}

-- ---- a product in 64 bits

pub times_fits : (n by : ℕ) → n < 2 ^ 32 → by < 256 → Fits w64 (n * by)
times_fits n by l m =
    let a : n ≤ 0xFFFFFFFF = omega arith in
    let b : by ≤ 255 = omega arith in
    record { fits = omega (arith, mul-le-mul a b) }

-- ---- the points and the entries

-- the product so far is p, and the dimensions gs are left
unfoldable pub counts_from : ℕ → List ℕ → ℕ → Option Counts
counts_from p gs outputs =
    cond (some is_over (partials p (gs ++ (outputs ∷ [])))) None
    (Some record { points = p * product gs; entries = p * product gs * outputs })

from_over : (p : ℕ) (gs : List ℕ) (outputs : ℕ) → 2 ^ 32 ≤ p → counts_from p gs outputs ≡ None
unfolding counts_from some partials
from_over p [] outputs h = rw (le-leb _ _ h)
from_over p (g ∷ gs) outputs h = rw (le-leb _ _ h)

pub count_begins : (l : List ℕ) (outputs : ℕ) → counts_from 1 (drop 0 l) outputs ≡ counts_of l outputs
unfolding counts_from counts_of
count_begins l outputs = rw (one-mul (product l))

module _ (l : List ℕ) (outputs p i n : ℕ) (inv : counts_from p (drop i l) outputs ≡ counts_of l outputs) (low : p < 2 ^ 32) where
  module _ (h : i < length l) (e : n ≡ p * get_or l i 0) where
    pub count_turns : counts_from n (drop (i + 1) l) outputs ≡ counts_of l outputs
    unfolding counts_from some partials product
    count_turns =
        let step : counts_from p (drop i l) outputs ≡ counts_from n (drop (i + 1) l) outputs = rw (add-one, e, drop-cons l i 0 h, lt-leb _ _ low, ← mul_assoc p (get_or l i 0) (product (drop (suc i) l))) in
        sym step ∙ inv

    pub count_over : 0xFFFFFFFF < n → None ≡ counts_of l outputs
    count_over o = sym (from_over n (drop (i + 1) l) outputs o) ∙ count_turns

  module _ (h : length l ≤ i) (e : n ≡ p * outputs) where
    pub count_last : 0xFFFFFFFF < n → None ≡ counts_of l outputs
    unfolding counts_from some partials product
    count_last o = rw (drop_of_length-le l h, lt-leb _ _ low, le-leb (2 ^ 32) (p * outputs) (rw e at o)) at inv

    pub count_ends : n ≤ 0xFFFFFFFF → Some record { points = p; entries = n } ≡ counts_of l outputs
    unfolding counts_from some partials product
    count_ends o =
        let w : n < 2 ^ 32 = omega arith in
        rw e (rw (drop_of_length-le l h, lt-leb _ _ low, lt-leb (2 ^ 32) (p * outputs) (rw e at w), mul-one) at inv)

-- ---- a dimension below 2

module _ (l : List ℕ) (i : ℕ) (inv : some is_flat (drop i l) ≡ some is_flat l) where
  pub flat_found : i < length l → get_or l i 0 < 2 → true ≡ some is_flat l
  unfolding some
  flat_found h t = rw (drop-cons l i 0 h, lt-ltb _ _ t) at inv

  pub flat_turns : i < length l → 2 ≤ get_or l i 0 → some is_flat (drop (i + 1) l) ≡ some is_flat l
  unfolding some
  flat_turns h t = rw add-one (rw (drop-cons l i 0 h, le-ltb _ _ t) at inv)

  pub flat_ends : length l ≤ i → false ≡ some is_flat l
  unfolding some
  flat_ends h = rw (drop_of_length-le l h) at inv

-- ---- the data of a table

module _ (t : List ℕ) (at : ℕ) (counts : Counts) (known : Counted t at counts.entries) (s : ℕ) (q : s ≡ get_or t (at + 16) 0) where
  pub length_fits : (n : ℕ) → n ≡ counts.entries * s → s ≤ 2 → Fits w32 n
  length_fits n e l = let f = known.few in record { fits = omega (arith, e, mul-le-mul f l) }

  pub data_none : s < 1 → DataRead t at counts (refused 8)
  unfolding DataRead data_of answer_of
  data_none l = λ grid outputs p e. simp (← q, lt-ltb _ _ l)

  pub data_three : 1 ≤ s → 2 < s → DataRead t at counts (refused 8)
  unfolding DataRead data_of answer_of
  data_three m l = λ grid outputs p e. simp (← q, le-ltb _ _ m, lt-ltb _ _ l)

  module _ (m : 1 ≤ s) (l : s ≤ 2) (n : ℕ) (w : n ≡ counts.entries * s) where
    pub data_past : length t - (at + 20) < n → DataRead t at counts (refused 2)
    unfolding DataRead data_of answer_of
    data_past o =
        λ grid outputs p e.
        let long : length t < at + 20 + n = omega (arith, known.header) in
        simp (← e, ← q, le-ltb _ _ m, le-ltb _ _ l, ← w, lt-ltb _ _ long)

    pub data_value : n ≤ length t - (at + 20) → DataRead t at counts (value counts.points (at + 20) n s)
    unfolding DataRead data_of answer_of
    data_value o =
        λ grid outputs p e.
        let inside : at + 20 + n ≤ length t = omega (arith, known.header) in
        simp (← e, ← q, le-ltb _ _ m, le-ltb _ _ l, ← w, le-ltb _ _ inside, p)

-- ---- the colour table

-- what the counts tell
record Fitting (grid : List ℕ) (outputs points entries : ℕ) : Type 0 where
  fits : overflows grid outputs ≡ false
  points_are : points ≡ product grid
  entries_are : entries ≡ product grid * outputs

abbrev Telling : List ℕ → ℕ → Option Counts → Type 0
Telling grid outputs None = overflows grid outputs ≡ true
Telling grid outputs (Some counts) = Fitting grid outputs counts.points counts.entries

tells : (grid : List ℕ) (outputs : ℕ) (counts : Option Counts) → counts_of grid outputs ≡ counts → Telling grid outputs counts
unfolding counts_of
tells grid outputs counts e =
    subst (Telling grid outputs) e
    (each (Telling grid outputs) (overflows grid outputs) _ _ (λ f. f) (λ f. record { fits = f; points_are = refl; entries_are = refl }))

module _ (t : List ℕ) (at inputs outputs : ℕ) where
  pub clut_short : length t < 20 → refused 2 ≡ answer_of (clut_of t at inputs outputs)
  unfolding clut_of answer_of
  clut_short l = let w : length t < at + 20 = omega arith in simp (lt-ltb _ _ w)

  module _ (m : 20 ≤ length t) where
    pub clut_header : length t - 20 < at → refused 2 ≡ answer_of (clut_of t at inputs outputs)
    unfolding clut_of answer_of
    clut_header l = let w : length t < at + 20 = omega arith in simp (lt-ltb _ _ w)

    module _ (room : at ≤ length t - 20) (n : ℕ) (d : n ≡ min inputs 16) (found : Option Counts) (h : found ≡ counts_of (take (at + n - at) (drop at t)) outputs) where
      header : at + 20 ≤ length t
      header = omega arith

      grid_is : take (at + n - at) (drop at t) ≡ grid_at_of t at inputs
      grid_is = part_is t at n ∙ rw d

      counted : counts_of (grid_at_of t at inputs) outputs ≡ found
      counted = sym (rw grid_is at h)

      pub clut_over : found ≡ None → refused 4 ≡ answer_of (clut_of t at inputs outputs)
      unfolding clut_of grid_checked answer_of
      clut_over e = simp (le-ltb _ _ header, tells (grid_at_of t at inputs) outputs None (counted ∙ e))

      module _ (counts : Counts) (e : found ≡ Some counts) where
        told : Fitting (grid_at_of t at inputs) outputs counts.points counts.entries
        told = tells (grid_at_of t at inputs) outputs (Some counts) (counted ∙ e)

        pub clut_zero : counts.entries ≡ 0 → refused 5 ≡ answer_of (clut_of t at inputs outputs)
        unfolding clut_of grid_checked answer_of
        clut_zero z = simp (le-ltb _ _ header, told.fits, ← told.entries_are, z)

        module _ (z : counts.entries ≡ 0 → ⊥) where
          pub clut_large : most_entries < counts.entries → refused 6 ≡ answer_of (clut_of t at inputs outputs)
          unfolding clut_of grid_checked answer_of
          clut_large l = simp (le-ltb _ _ header, told.fits, ← told.entries_are, ne_eqb _ _ z, lt-ltb _ _ l)

          module _ (l : counts.entries ≤ most_entries) where
            pub clut_counted : Counted t at counts.entries
            clut_counted = record { header = header; few = l }

            module _ (flat : Bool) (f : flat ≡ some is_flat (take (at + n - at) (drop at t))) where
              flat_is : some is_flat (grid_at_of t at inputs) ≡ flat
              flat_is = sym (rw grid_is at f)

              pub clut_flat : flat ≡ true → refused 7 ≡ answer_of (clut_of t at inputs outputs)
              unfolding clut_of grid_checked answer_of
              clut_flat y = simp (le-ltb _ _ header, told.fits, ← told.entries_are, ne_eqb _ _ z, le-ltb _ _ l, flat_is, y)

              pub clut_rest : flat ≡ false → (r : Answer) → DataRead t at counts r → r ≡ answer_of (clut_of t at inputs outputs)
              unfolding clut_of grid_checked DataRead
              clut_rest y r w =
                  simp (le-ltb _ _ header, told.fits, ← told.entries_are, ne_eqb _ _ z, le-ltb _ _ l, flat_is, y) (w (grid_at_of t at inputs) outputs told.points_are told.entries_are)

pub ruleset count-laws = (count_begins, count_turns, count_over, count_last, count_ends)

pub ruleset flat-laws = (flat_found, flat_turns, flat_ends)

pub ruleset data-laws = (data_none, data_three, data_past, data_value)

pub ruleset clut-laws = (clut_short, clut_header, clut_over, clut_zero, clut_large, clut_flat, clut_rest)
