-- The table that an accepted answer's numbers tell of is the one that the answer tells of, and it is solid: an output, entries of one
-- byte or two, no dimension below 2, and its data inside the tag. Of `mAB ` and `mBA ` with a colour table, and of `mft1` and `mft2`.
-- Assumes nothing.
use Prim.Native.Nat.{ℕ, zero, suc, ◌+◌, ◌-◌, ◌≤◌, min}
use native.Mathlib.Omega.{arith}
use native.Mathlib.Nat.{add-zero}
use mathlib.Core.Path.{◌≡◌, refl, sym, ap, subst, ◌∙◌}
use mathlib.Core.Bool.{Bool, true, false, cond}
use mathlib.Core.List.{List}
use lib.Dec.{eqb}
use lib.ListN.{length, get_or, take, drop, replicate}
use lib.Seq.{take-take}
use borrow.Author.Tests.{le-ltb}
use Rattle.fields.specs.Bytes.{bytes_at}
use Rattle.fields.specs.Checked.{good}
use Rattle.fields.specs.Place.{counted_tag}
use Rattle.fields.specs.Some.{some}
use Rattle.fields.proofs.Words.{bytes_part}
use Rattle.lut_clut_meaning.specs.Clut.{is_flat, clut_of}
use Rattle.lut_clut_meaning.specs.Table.{Table, points_of, length_of}
use Rattle.lut_clut_meaning.proofs.Grid.{factors}
use Rattle.lut_clut_meaning.proofs.Laid.{Accepted, accepted, none_flat}
use Rattle.curve_meaning.specs.declared.Walk.{Walk}
use Rattle.lut_mft_meaning.specs.Answer.{Fields, fields_of, told_table as Mft·toldTable}
use Rattle.lut_mft_meaning.specs.Layout.{is_wide, entry_size_of}
use Rattle.lut_mft_meaning.proofs.Laid.{accepted as Mft·accepted}
use Rattle.lut_meaning.specs.Abm.{value_of, told_table}
use Rattle.lut_meaning.specs.Answer.{Abm, State, Answer, mft, abm, absent, refused}
use Rattle.lut_meaning.specs.Layout.{inputs, outputs, clut_offset, grid_of}
use Rattle.lut_meaning.specs.Lut.{lut_of}
use Rattle.lut_meaning.specs.Parts.{no_table, table_in, colour_table_of}
use Rattle.lut_meaning.proofs.Found.{abm_found, mft_found}
use Rattle.lut_meaning.proofs.Inside.{mft_inside}
use Rattle.lut_view_meaning.specs.View.{grid_from, table_by, numbers_of}
use Rattle.lut_view_meaning.specs.declared.TableNumbers.{TableNumbers}

pub record Solid (t : List ℕ) (n : TableNumbers) (table : Table) : Type 0 where
  pub table_is : table_by t n ≡ table
  pub output : 1 ≤ table.outputs
  pub size_least : 1 ≤ table.size
  pub size_most : table.size ≤ 2
  pub wide : some is_flat table.grid ≡ false
  pub in_tag : table.start + length_of table ≤ length t

-- ---- the grid

-- bytes side by side, and one byte again and again
side_by_side : (t : List ℕ) (n at : ℕ) → grid_from t at 1 n ≡ bytes_at t at n
unfolding grid_from bytes_at
side_by_side t zero at = refl
side_by_side t (suc n) at = rw (side_by_side t n (at + 1))

again : (t : List ℕ) (n at : ℕ) → grid_from t at 0 n ≡ replicate n (get_or t at 0)
unfolding grid_from
again t zero at = refl
again t (suc n) at = rw (add-zero at, again t n at)

all_wide : (n g : ℕ) → 2 ≤ g → some is_flat (replicate n g) ≡ false
unfolding some
all_wide zero g l = refl
all_wide (suc n) g l = rw (le-ltb g 2 l) (all_wide n g l)

-- ---- each kind of answer

-- a colour table that is there is laid out as the standard says, and its grid bytes are answered
laid_out : (t : List ℕ) (table : Table) → colour_table_of t ≡ good table → 1 ≤ table.size → (grid_of t ≡ bytes_at t (clut_offset t) 16) × Accepted t (clut_offset t) (inputs t) (outputs t) table
unfolding colour_table_of grid_of
laid_out t table = by (eqb (clut_offset t) 0)
  where
    by : (b : Bool) → cond b (good no_table) (clut_of t (clut_offset t) (inputs t) (outputs t)) ≡ good table → 1 ≤ table.size → (cond b (replicate 16 0) (bytes_at t (clut_offset t) 16) ≡ bytes_at t (clut_offset t) 16) × Accepted t (clut_offset t) (inputs t) (outputs t) table
    by true h l = let e : 0 ≡ table.size = cc in absurd (omega arith)
    by false h l = (refl, accepted t (clut_offset t) (inputs t) (outputs t) table h)

mft_sizes : (t : List ℕ) → (1 ≤ entry_size_of t) × (entry_size_of t ≤ 2)
unfolding entry_size_of
mft_sizes t = by (is_wide t)
  where
    by : (b : Bool) → (1 ≤ cond b 2 1) × (cond b 2 1 ≤ 2)
    by true = (omega arith, omega arith)
    by false = (omega arith, omega arith)

module _ (walk : Walk) (limit points : ℕ) (p : List ℕ) (entry size words : ℕ) where
  abbrev t : List ℕ
  t = counted_tag p entry size

  abbrev answer : Answer
  answer = lut_of walk limit points p entry size words

  pub abm_solid : (f : Abm) → answer.state ≡ abm f → 1 ≤ f.size → Solid t (numbers_of (abm f)) (told_table answer.grid f)
  unfolding value_of
  abm_solid f h l =
      let v = abm_found walk limit points p entry size words f h in
      let is_value : answer ≡ value_of t = v.as_abm ∙ v.behind.answer_is in
      let e : abm f ≡ (value_of t).state = sym h ∙ ap (λ (a : Answer). a.state) is_value in
      let table : Table = table_in t in
      let e₁ : f.start ≡ table.start = cc in
      let e₂ : f.size ≡ table.size = cc in
      let e₃ : f.inputs ≡ inputs t = cc in
      let e₄ : f.outputs ≡ outputs t = cc in
      let k = laid_out t table v.behind.parts_good.table_good (omega (arith, e₂)) in
      let laid = k.1.laid in
      let n : ℕ = min f.inputs 16 in
      let few : n ≤ 16 = omega arith in
      let at : ℕ = clut_offset t in
      let room : at + 16 ≤ length t = omega (arith, laid.whole, laid.start_is) in
      let place : f.start - 20 ≡ at = omega (arith, e₁, laid.start_is) in
      let in_use : take n (drop at t) ≡ table.grid = rw e₃ (sym laid.grid_is) in
      let shown : grid_from t (f.start - 20) 1 n ≡ table.grid = rw place (side_by_side t n at ∙ bytes_part t at n (omega arith) ∙ in_use) in
      let sixteen : answer.grid ≡ take 16 (drop at t) = ap (λ (a : Answer). a.grid) is_value ∙ k.0 ∙ bytes_part t at 16 room in
      let told : take n answer.grid ≡ table.grid = rw sixteen (take-take n 16 (drop at t) few ∙ in_use) in
      let e₅ : f.outputs ≡ table.outputs = e₄ ∙ sym laid.outputs_are in
      let same : told_table answer.grid f ≡ table = rw (told, e₁, e₂, e₅) in
      subst (Solid t (numbers_of (abm f))) (sym same)
      record {
        table_is = rw (shown, e₁, e₂, e₅);
        output = (factors (points_of table) table.outputs k.1.within.one).1;
        size_least = laid.size_least;
        size_most = laid.size_most;
        wide = none_flat table.grid k.1.within.wide;
        in_tag = laid.whole;
      }

  pub mft_solid : (f : Fields) → answer.state ≡ mft f → Solid t (numbers_of (mft f)) (Mft·toldTable f)
  unfolding fields_of
  mft_solid f h =
      let a = Mft·accepted points t f (mft_found walk limit points p entry size words f h).read_as in
      let e = a.fields_are in
      let sizes : (1 ≤ f.size) × (f.size ≤ 2) = rw e (mft_sizes t) in
      let all-used : min f.inputs 16 ≡ f.inputs = rw e (omega (arith, a.asked.grid.few_inputs)) in
      let byte-is : f.grid ≡ get_or t 10 0 = ap (λ (x : Fields). x.grid) e in
      let shown : grid_from t 10 0 (min f.inputs 16) ≡ replicate f.inputs f.grid = rw (all-used, byte-is) (again t f.inputs 10) in
      let i = (mft_inside walk limit points p entry size words f h).1 in
      record {
        table_is = rw shown;
        output = rw e a.asked.grid.some_outputs;
        size_least = sizes.0;
        size_most = sizes.1;
        wide = all_wide f.inputs f.grid (rw e a.asked.grid.wide);
        in_tag = omega (arith, i.clut_in_tag, i.bytes_are);
      }

  -- whatever was answered: where an entry has bytes, a colour table was
  pub any_solid : let n : TableNumbers = numbers_of answer.state in 1 ≤ n.entry_size → Solid t n (table_by t n)
  any_solid = by answer.state refl
    where
      own : (n : TableNumbers) (table : Table) → Solid t n table → Solid t n (table_by t n)
      own n table w = subst (Solid t n) (sym w.table_is) w

      by : (s : State) → answer.state ≡ s → 1 ≤ (numbers_of s).entry_size → Solid t (numbers_of s) (table_by t (numbers_of s))
      by (mft f) e l = own _ _ (mft_solid f e)
      by (abm f) e l = own _ _ (abm_solid f e l)
      by absent e l = absurd (omega arith)
      by (refused n) e l = absurd (omega arith)
