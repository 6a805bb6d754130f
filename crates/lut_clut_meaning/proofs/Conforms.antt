-- Conformance to the CLUT element, both ways.
-- Assumes nothing.
use Prim.Native.Nat.{ℕ, zero, suc, ◌+◌, ◌*◌, ◌-◌, ◌≤◌, min}
use native.Mathlib.Omega.{arith}
use mathlib.Core.Path.{◌≡◌, refl, sym, ap, ◌∙◌}
use mathlib.Core.List.{List, [], ◌∷◌, ◌++◌, append_assoc}
use lib.ListN.{length, get_or, take, drop, length-append, length-drop}
use lib.Seq.{take_at, get_or_at, get_or-drop, length-take-le}
use Rattle.fields.specs.Checked.{good}
use Rattle.icc.specs.Elements.{Stands, Entries, bytes, words, precision, numbers, EntriesFit, entry_bytes, Clut, clut_element, ClutSized}
use Rattle.icc.specs.Grid.{points}
use Rattle.icc.specs.Numbers.{Bytes}
use Rattle.fields.proofs.Written.{length16, then8, row8, row16, halves_at, halves_length, halves_below}
use Rattle.lut_clut_meaning.specs.Clut.{grid_at_of, clut_of}
use Rattle.lut_clut_meaning.specs.Table.{Table, product, entries_of, length_of}
use Rattle.lut_clut_meaning.specs.Standard.{Taken, table_told, Standing}
use Rattle.lut_clut_meaning.proofs.Laid.{Laid, Within, conforms, accepted}

-- ---- the numbers of a CLUT

pub points_are : (gs : List ℕ) → points gs ≡ product gs
unfolding points product
points_are [] = refl
points_are (g ∷ gs) = rw (points_are gs)

entry_length : (e : Entries) → length (entry_bytes e) ≡ length (numbers e) * precision e
unfolding entry_bytes numbers precision
entry_length (bytes ns) = omega arith
entry_length (words ns) = omega (arith, length16 ns)

pub precision_least : (e : Entries) → 1 ≤ precision e
unfolding precision
precision_least (bytes ns) = omega arith
precision_least (words ns) = omega arith

precision_most : (e : Entries) → precision e ≤ 2
unfolding precision
precision_most (bytes ns) = omega arith
precision_most (words ns) = omega arith

-- ---- written, then read

module _ (t : List ℕ) (at inputs outputs : ℕ) (c : Clut) (s : Stands t at (clut_element c)) (z : ClutSized inputs outputs c) where
  entries_are : entries_of (table_told at outputs c) ≡ length (numbers c.entries)
  entries_are = rw (← points_are c.grid) (sym z.all_entries)

  -- the data of the table are the entries
  pub told_length : length_of (table_told at outputs c) ≡ length (entry_bytes c.entries)
  told_length = rw (entries_are) (sym (entry_length c.entries))

  abbrev behind_grid : List ℕ
  behind_grid = precision c.entries ∷ c.pad1 ∷ c.pad2 ∷ c.pad3 ∷ (entry_bytes c.entries ++ s.behind)

  there : drop at t ≡ c.grid ++ (c.unused ++ behind_grid)
  unfolding clut_element
  there = s.is ∙ simp append_assoc

  laid : Laid t at inputs outputs (table_told at outputs c)
  laid =
      let n : min inputs 16 ≡ length c.grid = omega (arith, z.dimensions, z.sixteen) in
      let k : length (c.grid ++ c.unused) ≡ 16 = length-append c.grid c.unused ∙ z.sixteen in
      let long : length (drop at t) ≡ 20 + length (entry_bytes c.entries) + length s.behind = ap length there ∙ simp length-append (omega (arith, z.sixteen)) in
      record {
        grid_is = sym (rw (there, n) (take_at c.grid (c.unused ++ behind_grid) (length c.grid) refl));
        outputs_are = refl;
        start_is = refl;
        size_is = sym (sym (get_or-drop at t 16 0) ∙ rw (there, ← append_assoc c.grid c.unused behind_grid) (get_or_at (c.grid ++ c.unused) _ _ 0 16 k));
        size_least = precision_least c.entries;
        size_most = precision_most c.entries;
        whole = omega (arith, long, length-drop at t, told_length);
      }

  pub written_read : Taken c → clut_of t at inputs outputs ≡ good (table_told at outputs c)
  written_read w =
      conforms t at inputs outputs (table_told at outputs c) laid
      record { wide = w.wide; one = rw entries_are w.one; few = rw entries_are w.few }

-- ---- read, then written

abbrev table_with : List ℕ → ℕ → ℕ → ℕ → Table
table_with grid outputs start size = record { grid = grid; outputs = outputs; start = start; size = size }

regroup : (g u d x : List ℕ) (p a b c : ℕ) → g ++ (u ++ (p ∷ a ∷ b ∷ c ∷ (d ++ x))) ≡ g ++ u ++ (p ∷ []) ++ (a ∷ b ∷ c ∷ []) ++ d ++ x
regroup g u d x p a b c = simp append_assoc

module _ (t : List ℕ) (b : Bytes t) (at inputs outputs : ℕ) (few : inputs ≤ 16) (table : Table) (h : Laid t at inputs outputs table) (w : Within table) where
  abbrev n : ℕ
  n = min inputs 16

  -- the number of entries, and the places of the bytes behind the grid
  abbrev k : ℕ
  k = entries_of table

  abbrev i17 : ℕ
  i17 = at + 16 + 1

  abbrev i20 : ℕ
  i20 = i17 + 1 + 1 + 1

  abbrev clut_with : Entries → Clut
  clut_with e =
      record { grid = grid_at_of t at inputs; unused = take (16 - n) (drop (at + n) t); pad1 = get_or t i17 0; pad2 = get_or t (i17 + 1) 0; pad3 = get_or t (i17 + 1 + 1) 0; entries = e }

  -- with the entries that stand there
  standing : (e : Entries) (x : List ℕ) → precision e ≡ table.size → length (numbers e) ≡ k → EntriesFit e → drop i20 t ≡ entry_bytes e ++ x → Standing t at inputs outputs table
  unfolding clut_element
  standing e x p c fits d =
      let long : at + 20 ≤ length t = omega (arith, h.whole, h.start_is) in
      let ng : length (grid_at_of t at inputs) ≡ n = length-take-le n (drop at t) (omega (arith, length-drop at t)) in
      let nu : length (take (16 - n) (drop (at + n) t)) ≡ 16 - n = length-take-le (16 - n) (drop (at + n) t) (omega (arith, length-drop (at + n) t)) in
      let m : at + 16 ≡ at + n + (16 - n) = omega arith in
      let d16 : drop (at + 16) t ≡ precision e ∷ get_or t i17 0 ∷ get_or t (i17 + 1) 0 ∷ get_or t (i17 + 1 + 1) 0 ∷ (entry_bytes e ++ x) = then8 t (at + 16) (omega arith) (sym h.size_is ∙ sym p) (then8 t i17 (omega arith) refl (then8 t (i17 + 1) (omega arith) refl (then8 t (i17 + 1 + 1) (omega arith) refl d))) in
      let all = row8 t n at (row8 t (16 - n) (at + n) (ap (λ (i : ℕ). drop i t) (sym m) ∙ d16)) in
      record {
        clut = clut_with e;
        stands = record { behind = x; is = all ∙ regroup (grid_at_of t at inputs) (take (16 - n) (drop (at + n) t)) (entry_bytes e) x _ _ _ _ };
        sized = record { dimensions = omega arith; sixteen = omega arith; all_entries = c ∙ ap (λ (g : List ℕ). product g * table.outputs) h.grid_is ∙ ap (λ (o : ℕ). product (grid_at_of t at inputs) * o) h.outputs_are ∙ sym (ap (λ (q : ℕ). q * outputs) (points_are (grid_at_of t at inputs))) };
        taken = record { fits = fits; wide = rw h.grid_is at w.wide; one = rw c w.one; few = rw c w.few };
        told_is = ap (λ (g : List ℕ). table_with g table.outputs table.start table.size) h.grid_is ∙ ap (λ (o : ℕ). table_with (grid_at_of t at inputs) o table.start table.size) h.outputs_are ∙ ap (λ (i : ℕ). table_with (grid_at_of t at inputs) outputs i table.size) h.start_is ∙ ap (table_with (grid_at_of t at inputs) outputs (at + 20)) (sym p);
      }

  by_size : (s : ℕ) → s ≡ table.size → 1 ≤ s → s ≤ 2 → i20 + k * s ≤ length t → Standing t at inputs outputs table
  unfolding precision numbers EntriesFit entry_bytes
  by_size zero e l m r = absurd (omega arith)
  by_size (suc zero) e l m r =
      let long : k ≤ length (drop i20 t) = omega (arith, length-drop i20 t) in
      standing (bytes (take k (drop i20 t))) (drop (i20 + k) t) e (length-take-le k (drop i20 t) long) tt (row8 t k i20 refl)
  by_size (suc (suc zero)) e l m r =
      standing (words (halves_at t i20 k)) (drop (i20 + 2 * k) t) e (halves_length t i20 k) (halves_below t b i20 k) (row16 t b k i20 (omega arith) refl refl)
  by_size (suc (suc (suc s))) e l m r = absurd (omega arith)

-- sixteen channels at most have their grid points in the element
pub read_written : (t : List ℕ) → Bytes t → (at inputs outputs : ℕ) → inputs ≤ 16 → (table : Table) → clut_of t at inputs outputs ≡ good table → Standing t at inputs outputs table
read_written t b at inputs outputs few table v =
    let a = accepted t at inputs outputs table v in
    let h = a.laid in
    by_size t b at inputs outputs few table h a.within table.size refl h.size_least h.size_most (omega (arith, h.whole, h.start_is))
