-- What a tag is accepted by, in the reader's own terms, both ways: the stepping stone between the checks and what the standard writes.
-- Assumes nothing.
use Prim.Native.Nat.{ℕ, ◌≤◌}
use native.Mathlib.Omega.{arith}
use mathlib.Core.Path.{◌≡◌, refl, subst}
use mathlib.Core.Bool.{Bool, true, false, not, ◌||◌, or-true, true≢false}
use mathlib.Core.List.{List}
use mathlib.Core.Logic.{◌⊎◌, inl, inr}
use lib.Dec.{ltb, eqb}
use lib.ListN.{length}
use borrow.Author.Tests.{eq-eqb, le-ltb, ltb-false, eqb-true}
use Rattle.lut_clut_meaning.specs.Table.{points_of}
use Rattle.fields.specs.Bytes.{u32_at}
use Rattle.fields.specs.Tag.{signature_of}
use Rattle.fields.specs.declared.Kind.TheVariants.{Mft1, Mft2}
use Rattle.fields.proofs.Choice.{each, neither_left, neither_right}
use Rattle.lut_mft_meaning.specs.Answer.{Fields, State, value, refused, fields_of}
use Rattle.lut_mft_meaning.specs.Layout.{is_wide, is_mft, shortest, inputs, outputs, grid_points, input_entries_of, output_entries_of, tables_start, colour_table, tables_end}
use Rattle.lut_mft_meaning.specs.Mft.{outside, most_table_entries, bad_entries, bad_channels, bad_numbers, tables_of, numbers_of, mft_of}

-- a channel has 2 to 4,096 entries in the input table and in the output table
pub record GoodEntries (t : List ℕ) : Type 0 where
  pub input_least : 2 ≤ input_entries_of t
  pub input_most : input_entries_of t ≤ most_table_entries
  pub output_least : 2 ≤ output_entries_of t
  pub output_most : output_entries_of t ≤ most_table_entries

-- one to four channels on each side, three on one of them, and two points or more in each dimension
pub record GoodGrid (t : List ℕ) : Type 0 where
  pub some_inputs : 1 ≤ inputs t
  pub few_inputs : inputs t ≤ 4
  pub some_outputs : 1 ≤ outputs t
  pub few_outputs : outputs t ≤ 4
  pub three : (inputs t ≡ 3) ⊎ (outputs t ≡ 3)
  pub wide : 2 ≤ grid_points t

-- the tag has one of the two types, holds the numbers that its tables need, and these lie in it
pub record LaidOut (t : List ℕ) : Type 0 where
  pub type_is : (u32_at t 0 ≡ signature_of Mft1) ⊎ (u32_at t 0 ≡ signature_of Mft2)
  pub entries : GoodEntries t
  pub whole : tables_end t ≤ length t

-- what this library asks besides, with no more points in all than the limit
pub record Asked (limit : ℕ) (t : List ℕ) : Type 0 where
  pub grid : GoodGrid t
  pub within : points_of (colour_table t) ≤ limit

-- ---- what is laid out so is accepted

inside_is : (low x high : ℕ) → low ≤ x → x ≤ high → outside low x high ≡ false
unfolding outside
inside_is low x high l h = rw (le-ltb x low l, le-ltb high x h)

three_is : (i o : ℕ) → (i ≡ 3) ⊎ (o ≡ 3) → not (eqb i 3 || eqb o 3) ≡ false
three_is i o (inl e) = rw (eq-eqb i 3 e)
three_is i o (inr e) = rw (eq-eqb o 3 e, or-true)

good_numbers : (t : List ℕ) → GoodEntries t → GoodGrid t → bad_numbers t ≡ false
unfolding bad_numbers bad_entries bad_channels
good_numbers t h w =
    rw (inside_is 2 (input_entries_of t) most_table_entries h.input_least h.input_most, inside_is 2 (output_entries_of t) most_table_entries h.output_least h.output_most, inside_is 1 (inputs t) 4 w.some_inputs w.few_inputs, inside_is 1 (outputs t) 4 w.some_outputs w.few_outputs, three_is (inputs t) (outputs t) w.three, le-ltb (grid_points t) 2 w.wide)

pub type_known : (t : List ℕ) → (u32_at t 0 ≡ signature_of Mft1) ⊎ (u32_at t 0 ≡ signature_of Mft2) → is_mft t ≡ true
unfolding is_mft is_wide
type_known t (inl e) = rw (eq-eqb _ _ e)
type_known t (inr e) = rw (eq-eqb _ _ e, or-true)

-- the tables start behind the matrix
pub start_least : (t : List ℕ) → shortest ≤ tables_start t
unfolding tables_start
start_least t = each (λ (n : ℕ). shortest ≤ n) (is_wide t) 52 shortest (λ _. omega arith) (λ _. omega arith)

pub start_before : (t : List ℕ) → tables_start t ≤ tables_end t
unfolding colour_table
start_before t = omega arith

pub conforms : (limit : ℕ) (t : List ℕ) → LaidOut t → Asked limit t → mft_of limit t ≡ value (fields_of t)
unfolding mft_of numbers_of tables_of
conforms limit t h w =
    let start : tables_start t ≤ length t = omega (arith, start_before t, h.whole) in
    let head : shortest ≤ length t = omega (arith, start_least t, start) in
    rw (le-ltb _ _ head, type_known t h.type_is, le-ltb _ _ start, good_numbers t h.entries w.grid, le-ltb _ _ w.within, le-ltb _ _ h.whole)

-- ---- what is accepted is laid out so

pub record Accepted (limit : ℕ) (t : List ℕ) (f : Fields) : Type 0 where
  pub laid : LaidOut t
  pub asked : Asked limit t
  pub fields_are : f ≡ fields_of t

outside_least : (low x high : ℕ) → outside low x high ≡ false → low ≤ x
unfolding outside
outside_least low x high e = ltb-false x low (neither_left (ltb x low) (ltb high x) e)

outside_most : (low x high : ℕ) → outside low x high ≡ false → x ≤ high
unfolding outside
outside_most low x high e = ltb-false high x (neither_right (ltb x low) (ltb high x) e)

-- of two tests one holds
one_of : (a b : Bool) → not (a || b) ≡ false → (a ≡ true) ⊎ (b ≡ true)
one_of true b e = inl refl
one_of false true e = inr refl
one_of false false e = absurd (true≢false e)

-- which the tests are of
one_is : (a b c d : ℕ) → not (eqb a b || eqb c d) ≡ false → (a ≡ b) ⊎ (c ≡ d)
one_is a b c d e = elim (one_of (eqb a b) (eqb c d) e) [
  | inl x ↦ inl (eqb-true a b x)
  | inr x ↦ inr (eqb-true c d x)
]

-- what check 15 lets pass
pub good : (t : List ℕ) → bad_numbers t ≡ false → GoodEntries t × GoodGrid t
unfolding bad_numbers bad_entries bad_channels
good t b =
    let i : ℕ = inputs t in
    let o : ℕ = outputs t in
    let n : ℕ = input_entries_of t in
    let m : ℕ = output_entries_of t in
    let e-c : bad_entries t || bad_channels t ≡ false = neither_left _ (ltb (grid_points t) 2) b in
    let es : outside 2 n most_table_entries || outside 2 m most_table_entries ≡ false = neither_left (bad_entries t) (bad_channels t) e-c in
    let cs : outside 1 i 4 || outside 1 o 4 || not (eqb i 3 || eqb o 3) ≡ false = neither_right (bad_entries t) (bad_channels t) e-c in
    let sides : outside 1 i 4 || outside 1 o 4 ≡ false = neither_left _ (not (eqb i 3 || eqb o 3)) cs in
    let ni : outside 2 n most_table_entries ≡ false = neither_left _ (outside 2 m most_table_entries) es in
    let no : outside 2 m most_table_entries ≡ false = neither_right (outside 2 n most_table_entries) _ es in
    let ci : outside 1 i 4 ≡ false = neither_left _ (outside 1 o 4) sides in
    let co : outside 1 o 4 ≡ false = neither_right (outside 1 i 4) _ sides in (
      record {
        input_least = outside_least 2 n most_table_entries ni;
        input_most = outside_most 2 n most_table_entries ni;
        output_least = outside_least 2 m most_table_entries no;
        output_most = outside_most 2 m most_table_entries no;
      },
      record {
        some_inputs = outside_least 1 i 4 ci;
        few_inputs = outside_most 1 i 4 ci;
        some_outputs = outside_least 1 o 4 co;
        few_outputs = outside_most 1 o 4 co;
        three = one_is i 3 o 3 (neither_right (outside 1 i 4 || outside 1 o 4) _ cs);
        wide = ltb-false (grid_points t) 2 (neither_right (bad_entries t || bad_channels t) _ b);
      },
    )

Facts : ℕ → List ℕ → State → Type 0
Facts limit t (value f) = Accepted limit t f
Facts limit t (refused n) = Unit

facts : (limit : ℕ) (t : List ℕ) → Facts limit t (mft_of limit t)
unfolding Facts mft_of numbers_of tables_of is_mft is_wide
facts limit t =
    let P : State → Type 0 = Facts limit t in
    each P (ltb (length t) shortest) _ _ (λ _. tt)
    (λ _. each P (not (is_mft t)) _ _ (λ _. tt)
    (λ k. each P (ltb (length t) (tables_start t)) _ _ (λ _. tt)
    (λ _. each P (bad_numbers t) _ _ (λ _. tt)
    (λ b. each P (ltb limit (points_of (colour_table t))) _ _ (λ _. tt)
    (λ p. each P (ltb (length t) (tables_end t)) _ _ (λ _. tt)
    (λ e.
    let g = good t b in
    record {
      laid = record { type_is = one_is _ _ _ _ k; entries = g.0; whole = ltb-false (length t) (tables_end t) e };
      asked = record { grid = g.1; within = ltb-false limit _ p };
      fields_are = refl;
    }))))))

pub accepted : (limit : ℕ) (t : List ℕ) (f : Fields) → mft_of limit t ≡ value f → Accepted limit t f
unfolding Facts
accepted limit t f h = subst (Facts limit t) h (facts limit t)
