-- The view of an accepted answer shows the colour table that the answer tells of, of `mAB ` and `mBA `, `mft1` and `mft2`: each valid index
-- reads the entry that the standard's order gives, which lies inside the table's range, and that inside the tag. The view of any other
-- answer reads nothing.
-- Assumes nothing.
use Prim.Native.Nat.{ℕ, ◌+◌, ◌*◌, ◌^◌, ◌≤◌, ◌<◌}
use native.Mathlib.Omega.{arith}
use native.Mathlib.Nat.{mul-le-mul_left}
use mathlib.Core.Path.{◌≡◌, refl}
use mathlib.Core.Bool.{Bool, true, false, cond}
use mathlib.Core.List.{List}
use lib.Dec.{eqb}
use lib.ListN.{length, take, drop, length-take}
use borrow.Author.Tests.{lt-ltb, le-ltb}
use Rattle.fields.specs.Place.{counted_tag}
use Rattle.lut_clut_meaning.specs.Table.{Table, in_grid, point_of, entry_number}
use Rattle.curve_meaning.specs.declared.Walk.{Walk}
use Rattle.lut_mft_meaning.specs.Answer.{Fields, told_table as Mft·toldTable}
use Rattle.lut_meaning.specs.Abm.{told_table}
use Rattle.lut_meaning.specs.Answer.{Abm, State, Answer, mft, abm, absent as State·absent, refused}
use Rattle.lut_meaning.specs.Lut.{lut_of}
use Rattle.lut_meaning.proofs.Inside.{lut_inside, mft_inside}
use Rattle.lut_view_meaning.specs.Answer.{value, absent}
use Rattle.lut_view_meaning.specs.View.{table_by, numbers_of, stored_at, entry_from, entry_of}
use Rattle.lut_view_meaning.specs.declared.TableNumbers.{TableNumbers}
use Rattle.lut_view_meaning.proofs.Any.{empty_absent}
use Rattle.lut_view_meaning.proofs.Solid.{Solid, abm_solid, mft_solid}

-- ---- the entries

pub record Shows (t : List ℕ) (v : TableNumbers) (table : Table) (bytes : ℕ) : Type 0 where
  pub table_is : table_by t v ≡ table
  pub table_in_tag : table.start + bytes ≤ length t
  pub entry_in_table : (index : List ℕ) (channel : ℕ) → in_grid table.grid index ≡ true → channel < table.outputs → entry_number table index channel * table.size + table.size ≤ bytes
  pub entry_is : (index : List ℕ) (channel : ℕ) → in_grid table.grid index ≡ true → channel < table.outputs → entry_of t (table_by t v) index channel ≡ value (stored_at t (table.start + entry_number table index channel * table.size) table.size)

-- an entry in a tag of fewer than 2^32 bytes has such a number
read : (t : List ℕ) (table : Table) (index : List ℕ) (channel : ℕ) → length t < 2 ^ 32 → 1 ≤ table.size → table.size ≤ 2 → in_grid table.grid index ≡ true → channel < table.outputs → table.start + (entry_number table index channel * table.size + table.size) ≤ length t → entry_of t table index channel ≡ value (stored_at t (table.start + entry_number table index channel * table.size) table.size)
unfolding entry_of entry_from
read t table index channel short least most valid low inside =
    let p : ℕ = point_of table.grid index in
    let one : 1 ≤ table.outputs = omega arith in
    let few : p < 2 ^ 32 = omega (arith, mul-le-mul_left p one, mul-le-mul_left (entry_number table index channel) least) in
    rw (valid, lt-ltb p _ few, lt-ltb _ _ low, le-ltb _ _ least, le-ltb _ _ most, le-ltb _ _ inside)

shows : (t : List ℕ) (v : TableNumbers) (table : Table) (bytes : ℕ) → length t < 2 ^ 32 → Solid t v table → table.start + bytes ≤ length t → ((index : List ℕ) (channel : ℕ) → in_grid table.grid index ≡ true → channel < table.outputs → entry_number table index channel * table.size + table.size ≤ bytes) → Shows t v table bytes
shows t v table bytes short solid whole within =
    record {
      table_is = solid.table_is;
      table_in_tag = whole;
      entry_in_table = within;
      entry_is = λ index channel valid low. rw solid.table_is (read t table index channel short solid.size_least solid.size_most valid low (omega (arith, whole, within index channel valid low)));
    }

-- ---- the numbers of each kind of answer

-- the tag's size is a 32-bit value
module _ (walk : Walk) (limit points : ℕ) (p : List ℕ) (entry size words : ℕ) (low-size : size < 2 ^ 32) where
  abbrev t : List ℕ
  t = counted_tag p entry size

  abbrev answer : Answer
  answer = lut_of walk limit points p entry size words

  short : length t < 2 ^ 32
  short = by (eqb size 0)
    where
      by : (b : Bool) → length (take (cond b 12 size) (drop entry p)) < 2 ^ 32
      by true = omega (arith, length-take 12 (drop entry p))
      by false = omega (arith, length-take size (drop entry p))

  -- `mAB ` and `mBA `, with a colour table
  pub abm_shows : (f : Abm) → answer.state ≡ abm f → 1 ≤ f.size → Shows t (numbers_of (abm f)) (told_table answer.grid f) f.bytes
  abm_shows f h l =
      let solid = abm_solid walk limit points p entry size words f h l in
      let i = lut_inside walk limit points p entry size words f h in
      shows t _ _ _ short solid i.table_in_tag (i.entry_in_table l)

  -- `mft1` and `mft2`
  pub mft_shows : (f : Fields) → answer.state ≡ mft f → Shows t (numbers_of (mft f)) (Mft·toldTable f) f.clut_bytes
  mft_shows f h =
      let solid = mft_solid walk limit points p entry size words f h in
      let i = (mft_inside walk limit points p entry size words f h).1 in
      shows t _ _ _ short solid i.clut_in_tag i.entry_in_table

-- neither `mft1` nor `mft2`, and no colour table
pub nothing_shown : (s : State) → ((f : Fields) → s ≡ mft f → ⊥) → ((f : Abm) → s ≡ abm f → f.size ≡ 0) → (t index : List ℕ) (channel : ℕ) → entry_of t (table_by t (numbers_of s)) index channel ≡ absent
nothing_shown (mft f) h k t index channel = absurd (h f refl)
nothing_shown (abm f) h k t index channel = empty_absent t _ index channel (k f refl)
nothing_shown State·absent h k t index channel = empty_absent t _ index channel refl
nothing_shown (refused n) h k t index channel = empty_absent t _ index channel refl
