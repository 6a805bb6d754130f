-- What a colour table is accepted by, in the reader's own terms, both ways: the stepping stone between the checks and what the standard writes.
-- Check 4 asks nothing more: no partial product is above the entries.
-- Assumes nothing.
use Prim.Native.Nat.{ℕ, zero, suc, ◌+◌, ◌*◌, ◌^◌, ◌≤◌, ◌<◌}
use native.Mathlib.Omega.{arith}
use native.Mathlib.Nat.{mul_assoc, mul-le-mul_left}
use mathlib.Core.Path.{◌≡◌, refl, subst}
use mathlib.Core.Bool.{false, ◌||◌}
use mathlib.Core.List.{List, [], ◌∷◌, ◌++◌}
use lib.Dec.{ltb, eqb}
use lib.ListN.{length, get_or}
use borrow.Author.Tests.{ne_eqb, le-ltb, lt-leb, ltb-false, eqb-false}
use Rattle.fields.specs.Checked.{Checked, good, bad}
use Rattle.fields.specs.Some.{some}
use Rattle.fields.proofs.Choice.{each, through, neither_left, neither_right}
use Rattle.fields.proofs.Never.{never}
use Rattle.lut_clut_meaning.specs.Clut.{is_over, is_flat, partials, overflows, most_entries, grid_at_of, table_at, grid_checked, data_of, clut_of}
use Rattle.lut_clut_meaning.specs.Table.{Table, product, entries_of, length_of}
use Rattle.lut_clut_meaning.proofs.Grid.{factors}

-- the tag t, of so many channels, has the table at `at`, its reserved bytes and the grid points out of use aside
pub record Laid (t : List ℕ) (at inputs outputs : ℕ) (table : Table) : Type 0 where
  pub grid_is : table.grid ≡ grid_at_of t at inputs
  pub outputs_are : table.outputs ≡ outputs
  pub start_is : table.start ≡ at + 20
  pub size_is : table.size ≡ get_or t (at + 16) 0
  pub size_least : 1 ≤ table.size
  pub size_most : table.size ≤ 2
  pub whole : table.start + length_of table ≤ length t

-- what this library asks besides: two points or more in each dimension, an entry, and not too many
pub record Within (table : Table) : Type 0 where
  pub wide : (i : ℕ) → i < length table.grid → 2 ≤ get_or table.grid i 0
  pub one : 1 ≤ entries_of table
  pub few : entries_of table ≤ most_entries

-- ---- what is laid out so is accepted

-- no dimension is below 2
pub none_flat : (gs : List ℕ) → ((i : ℕ) → i < length gs → 2 ≤ get_or gs i 0) → some is_flat gs ≡ false
unfolding some
none_flat [] h = refl
none_flat (g ∷ gs) h = rw (le-ltb g 2 (h 0 (omega arith)), none_flat gs (λ i l. h (suc i) (omega arith)))

-- no partial product is above the whole, if that is not 0
none_over : (p : ℕ) (fs : List ℕ) → 1 ≤ product fs → p * product fs < 2 ^ 32 → some is_over (partials p fs) ≡ false
unfolding some partials product
none_over p [] h l = let w : p < 2 ^ 32 = omega arith in rw (lt-leb _ _ w)
none_over p (x ∷ xs) h l =
    let one : 1 ≤ product xs = (factors x (product xs) h).1 in
    let w : p < 2 ^ 32 = omega (arith, mul-le-mul_left p h) in
    let r : p * x * product xs < 2 ^ 32 = rw (mul_assoc p x (product xs)) l in
    rw (lt-leb _ _ w) (none_over (p * x) xs one r)

product_last : (gs : List ℕ) (n : ℕ) → product (gs ++ (n ∷ [])) ≡ product gs * n
unfolding product
product_last [] n = omega arith
product_last (g ∷ gs) n = rw (product_last gs n) (omega arith)

-- the table that is read there
pub there : (t : List ℕ) (at inputs outputs : ℕ) (table : Table) → Laid t at inputs outputs table → table_at t at (grid_at_of t at inputs) outputs ≡ table
there t at inputs outputs table h = rw (← h.grid_is, ← h.outputs_are, ← h.start_is, ← h.size_is)

grid_passes : (table : Table) → Within table → grid_checked table ≡ good tt
unfolding grid_checked
grid_passes table w =
    let grid : List ℕ = table.grid in
    let outputs : ℕ = table.outputs in
    let no-over : overflows grid outputs ≡ false = none_over 1 (grid ++ (outputs ∷ [])) (rw (product_last grid outputs) w.one) (rw (product_last grid outputs) (omega (arith, w.few))) in
    let some-are : entries_of table ≡ 0 → ⊥ = λ e. omega (arith, w.one) in
    rw (no-over, ne_eqb _ _ some-are, le-ltb _ _ w.few, none_flat grid w.wide)

module _ (t : List ℕ) (at inputs outputs : ℕ) where
  abbrev read : Table
  read = table_at t at (grid_at_of t at inputs) outputs

  read_accepted : Laid t at inputs outputs read → Within read → clut_of t at inputs outputs ≡ good read
  unfolding clut_of data_of
  read_accepted h w =
      let header : at + 20 ≤ length t = omega (arith, h.whole) in
      rw (le-ltb _ _ header, grid_passes read w, le-ltb _ _ h.size_least, le-ltb _ _ h.size_most, le-ltb _ _ h.whole)

  pub conforms : (table : Table) → Laid t at inputs outputs table → Within table → clut_of t at inputs outputs ≡ good table
  conforms table h w = let e = there t at inputs outputs table h in rw (← e) (read_accepted (rw (← e) at h) (rw (← e) at w))

-- ---- what is accepted is laid out so

each_wide : (gs : List ℕ) → some is_flat gs ≡ false → (i : ℕ) → i < length gs → 2 ≤ get_or gs i 0
unfolding some
each_wide [] h i l = absurd (omega arith)
each_wide (g ∷ gs) h zero l = ltb-false g 2 (neither_left (ltb g 2) (some is_flat gs) h)
each_wide (g ∷ gs) h (suc i) l = each_wide gs (neither_right (ltb g 2) (some is_flat gs) h) i (omega arith)

-- what checks 4 to 7 let pass
pub grid_passed : (table : Table) → grid_checked table ≡ good tt → Within table
unfolding grid_checked
grid_passed table =
    let P : Checked Unit → Type 0 = λ c. c ≡ good tt → Within table in
    let n : ℕ = entries_of table in
    each P (overflows table.grid table.outputs) _ _ (λ _ h. never cc)
    (λ _. each P (eqb n 0) _ _ (λ _ h. never cc)
    (λ z. each P (ltb most_entries n) _ _ (λ _ h. never cc)
    (λ m. each P (some is_flat table.grid) _ _ (λ _ h. never cc)
    (λ f h. record { wide = each_wide table.grid f; one = (let y = eqb-false n 0 z in omega arith); few = ltb-false most_entries n m }))))

pub record Accepted (t : List ℕ) (at inputs outputs : ℕ) (table : Table) : Type 0 where
  pub laid : Laid t at inputs outputs table
  pub within : Within table

Facts : List ℕ → ℕ → ℕ → ℕ → Checked Table → Type 0
Facts t at inputs outputs (good table) = Accepted t at inputs outputs table
Facts t at inputs outputs (bad n) = Unit

facts : (t : List ℕ) (at inputs outputs : ℕ) → Facts t at inputs outputs (clut_of t at inputs outputs)
unfolding Facts clut_of data_of
facts t at inputs outputs =
    let P : Checked Table → Type 0 = Facts t at inputs outputs in
    let table : Table = read t at inputs outputs in
    let s : ℕ = table.size in
    each P (ltb (length t) (at + 20)) _ _ (λ _. tt)
    (λ _. through P (grid_checked table) _ (λ _ _. tt)
    (λ _ g. each P (ltb s 1 || ltb 2 s) _ _ (λ _. tt)
    (λ d. each P (ltb (length t) (at + 20 + length_of table)) _ _ (λ _. tt)
    (λ e.
    record {
      laid = record {
        grid_is = refl;
        outputs_are = refl;
        start_is = refl;
        size_is = refl;
        size_least = ltb-false s 1 (neither_left (ltb s 1) (ltb 2 s) d);
        size_most = ltb-false 2 s (neither_right (ltb s 1) (ltb 2 s) d);
        whole = ltb-false (length t) _ e;
      };
      within = grid_passed table g;
    }))))

pub accepted : (t : List ℕ) (at inputs outputs : ℕ) (table : Table) → clut_of t at inputs outputs ≡ good table → Accepted t at inputs outputs table
unfolding Facts
accepted t at inputs outputs table h = subst (Facts t at inputs outputs) h (facts t at inputs outputs)
