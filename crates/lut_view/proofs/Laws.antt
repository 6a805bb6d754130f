-- The meanings case by case, as the code meets them. The loop over a grid: what is left of it, from the number so far, means the whole.
-- Assumes nothing.
use Prim.Native.Nat.{ℕ, zero, suc, ◌+◌, ◌-◌, ◌*◌, ◌^◌, ◌≤◌, ◌<◌, min}
use native.Mathlib.Omega.{arith}
use native.Mathlib.Numerals.{add-one}
use native.Mathlib.Nat.{zero-mul, zero-add, mul-le-mul, mul-le-mul_left, sub-zero}
use mathlib.Core.Path.{◌≡◌, refl, sym, ap, ◌∙◌}
use mathlib.Core.Bool.{Bool, true, false, cond, ◌&&◌}
use mathlib.Core.List.{List, [], ◌∷◌}
use lib.Dec.{ltb}
use lib.ListN.{length, get_or, drop, drop_of_length-le, get_or-eq_default}
use lib.Seq.{drop-cons}
use mir.Syntax.{w64}
use mir.Val.{Fits}
use borrow.Author.Tests.{eq-eqb, ne_eqb, lt-ltb, le-ltb, ltb-true, ltb-false}
use Rattle.fields.specs.Bytes.{u16_at}
use Rattle.lut_clut_meaning.specs.Table.{Table, product, in_grid, point_of, entry_number}
use Rattle.lut_clut_meaning.proofs.Grid.{point_below}
use Rattle.fields.specs.declared.InTag.{InTag}
use Rattle.fields.specs.declared.Refusal.{Refusal}
use Rattle.lut_meaning.specs.Answer.{state_from}
use Rattle.lut_meaning.specs.declared.Abm.{Abm}
use Rattle.lut_meaning.specs.declared.Lut.{Lut}
use Rattle.lut_mft_meaning.specs.declared.Mft.{Mft}
use Rattle.lut_view_meaning.specs.Answer.{Answer, value, absent}
use Rattle.lut_view_meaning.specs.View.{no_numbers, grid_from, table_by, numbers_of, entry_from, entry_of}
use Rattle.lut_view_meaning.specs.declared.TableNumbers.{TableNumbers}
use Rattle.lut_view.specs.Point.{point_at}
use Rattle.std.specs.Prelude.{Option, Some, None, Result, Ok, Err}

-- ---- a number with one more digit

module _ (p g x : ℕ) (l : p < 2 ^ 32) (m : g < 256) where
  scaled : p * g < 2 ^ 40
  scaled =
      let a : p ≤ 0xFFFFFFFF = omega arith in
      let b : g ≤ 255 = omega arith in
      omega (arith, mul-le-mul a b)

  pub times_fits : Fits w64 (p * g)
  times_fits = record { fits = omega (arith, scaled) }

  pub digit_fits : x < 256 → Fits w64 (p * g + x)
  digit_fits n = record { fits = omega (arith, scaled) }

pub ruleset append-fits = (times_fits, digit_fits)

-- ---- the point that an index names

-- the number so far is p, and the dimensions gs and the coordinates xs are left
unfoldable pub go : ℕ → List ℕ → List ℕ → Option ℕ
go p gs xs =
    let n = p * product gs + point_of gs xs in
    cond (in_grid gs xs && ltb n (2 ^ 32)) (Some n) None

go_over : (q : ℕ) (gs xs : List ℕ) → 2 ^ 32 ≤ q → go q gs xs ≡ None
unfolding go
go_over q gs xs h = by_grid (in_grid gs xs) refl
  where
    by_grid : (b : Bool) → in_grid gs xs ≡ b → go q gs xs ≡ None
    by_grid false e = rw e
    by_grid true e =
        let one : 1 ≤ product gs = omega (arith, point_below gs xs e) in
        let k : 2 ^ 32 ≤ q * product gs + point_of gs xs = omega (arith, mul-le-mul_left q one) in
        rw (e, le-ltb _ _ k)

-- one turn, whatever the lists are
go_turns : (p g x : ℕ) (gs xs : List ℕ) → x < g → go p (g ∷ gs) (x ∷ xs) ≡ go (p * g + x) gs xs
unfolding go in_grid point_of product
go_turns p g x gs xs u =
    let same : p * (g * product gs) + (x * product gs + point_of gs xs) ≡ (p * g + x) * product gs + point_of gs xs = omega arith in
    rw (lt-ltb x g u, same)

go_out : (p g x : ℕ) (gs xs : List ℕ) → g ≤ x → go p (g ∷ gs) (x ∷ xs) ≡ None
unfolding go in_grid
go_out p g x gs xs o = rw (le-ltb x g o)

go_ends : (p : ℕ) → p < 2 ^ 32 → go p [] [] ≡ Some p
unfolding go in_grid product point_of
go_ends p low = let n : p * 1 + 0 ≡ p = omega arith in rw (n, lt-ltb _ _ low)

-- n - i dimensions are left, their bytes from next on
pub point_begins : (t : List ℕ) (at step n : ℕ) (m : List ℕ) → go 0 (grid_from t at step (n - 0)) (drop 0 m) ≡ point_at (grid_from t at step n) m
unfolding go point_at
point_begins t at step n m = rw (sub-zero, zero-mul (product (grid_from t at step n)), zero-add)

module _ (t : List ℕ) (at step n : ℕ) (m : List ℕ) (p next i : ℕ) (inv : go p (grid_from t next step (n - i)) (drop i m) ≡ point_at (grid_from t at step n) m) where
  module _ (h : i < n) where
    less : n - i ≡ suc (n - (i + 1))
    less = omega arith

    module _ (k : i < length m) (g : ℕ) (e : g ≡ get_or t next 0) where
      pub point_out : g ≤ get_or m i 0 → None ≡ point_at (grid_from t at step n) m
      unfolding grid_from
      point_out o = sym (go_out p g (get_or m i 0) _ _ o) ∙ (rw (less, drop-cons m i 0 k, ← e) at inv)

      module _ (u : get_or m i 0 < g) (q : ℕ) (c : q ≡ p * g + get_or m i 0) where
        pub point_turns : go q (grid_from t (next + step) step (n - (i + 1))) (drop (i + 1) m) ≡ point_at (grid_from t at step n) m
        unfolding grid_from
        point_turns = rw (c, add-one i) (sym (go_turns p g (get_or m i 0) _ _ u) ∙ (rw (less, drop-cons m i 0 k, ← e, add-one i) at inv))

        pub point_over : 2 ^ 32 ≤ q → None ≡ point_at (grid_from t at step n) m
        point_over o = sym (go_over q (grid_from t (next + step) step (n - (i + 1))) (drop (i + 1) m) o) ∙ point_turns

  pub point_ends : n ≤ i → length m ≤ n → p < 2 ^ 32 → Some p ≡ point_at (grid_from t at step n) m
  unfolding grid_from
  point_ends h k low =
      let none : n - i ≡ 0 = omega arith in
      let j : length m ≤ i = omega arith in
      sym (go_ends p low) ∙ (rw (none, drop_of_length-le m j) at inv)

-- an index of more or fewer coordinates than dimensions names no point
other_length : (t : List ℕ) (at step n : ℕ) (m : List ℕ) → (length m ≡ n → ⊥) → in_grid (grid_from t at step n) m ≡ false
unfolding grid_from in_grid
other_length t at step zero [] h = absurd (h refl)
other_length t at step zero (x ∷ xs) h = refl
other_length t at step (suc n) [] h = refl
other_length t at step (suc n) (x ∷ xs) h =
    let rest : length xs ≡ n → ⊥ = λ e. h (ap suc e) in
    rw (other_length t (at + step) step n xs rest) (by (ltb x (get_or t at 0)))
  where
    by : (b : Bool) → b && false ≡ false
    by true = refl
    by false = refl

pub point_other : (t : List ℕ) (at step n : ℕ) (m : List ℕ) → (length m ≡ n → ⊥) → None ≡ point_at (grid_from t at step n) m
unfolding point_at
point_other t at step n m h = rw (other_length t at step n m h)

pub ruleset point-laws = (point_begins, point_out, point_turns, point_over, point_ends, point_other)

-- a byte above a coordinate stands in the tag
pub next_fits : (t : List ℕ) (next step g x : ℕ) → g ≡ get_or t next 0 → x < g → length t * 1 < 2 ^ 63 → step < 256 → Fits w64 (next + step)
next_fits t next step g x e u l s = record { fits = by_place (ltb next (length t)) refl }
  where
    by_place : (b : Bool) → ltb next (length t) ≡ b → next + step < 2 ^ 64
    by_place true f = omega (arith, ltb-true next (length t) f)
    by_place false f = let z : get_or t next 0 ≡ 0 = get_or-eq_default t 0 (ltb-false next (length t) f) in absurd (omega arith)

-- ---- one entry by its number

module _ (t : List ℕ) (start s k : ℕ) where
  pub from_none : s < 1 → absent ≡ entry_from t start s k
  unfolding entry_from
  from_none m = simp (lt-ltb _ _ m)

  module _ (m : 1 ≤ s) where
    pub from_three : 2 < s → absent ≡ entry_from t start s k
    unfolding entry_from
    from_three u = simp (le-ltb _ _ m, lt-ltb _ _ u)

    module _ (u : s ≤ 2) where
      pub past : length t < start + (k * s + s) → absent ≡ entry_from t start s k
      unfolding entry_from
      past o = simp (le-ltb _ _ m, le-ltb _ _ u, lt-ltb _ _ o)

      module _ (f : start ≤ length t) where
        pub from_short : length t - start < k * s + s → absent ≡ entry_from t start s k
        from_short o = past (omega arith)

        module _ (o : k * s + s ≤ length t - start) (n : ℕ) where
          within : ltb (length t) (start + (k * s + s)) ≡ false
          within = let i : start + (k * s + s) ≤ length t = omega arith in le-ltb _ _ i

          pub from_one : s ≡ 1 → n ≡ get_or t (start + k * s) 0 → value n ≡ entry_from t start s k
          unfolding entry_from
          from_one z e = simp (le-ltb _ _ m, le-ltb _ _ u, within, eq-eqb _ _ z, e)

          pub from_two : (s ≡ 1 → ⊥) → n ≡ u16_at t (start + k * s) → value n ≡ entry_from t start s k
          unfolding entry_from
          from_two z e = simp (le-ltb _ _ m, le-ltb _ _ u, within, ne_eqb _ _ z, e)

pub ruleset entry-laws = (from_none, from_three, from_short, from_one, from_two)

-- ---- the entry of an index

-- of the point that the index names
unfoldable of_point : List ℕ → Table → Option ℕ → ℕ → Answer
of_point t table (Some p) channel = cond (ltb channel table.outputs) (entry_from t table.start table.size (p * table.outputs + channel)) absent
of_point t table None channel = absent

of_point_lem : (t : List ℕ) (table : Table) (m : List ℕ) (channel : ℕ) → of_point t table (point_at table.grid m) channel ≡ entry_of t table m channel
unfolding of_point entry_of point_at
of_point_lem t table m channel = by_test (in_grid table.grid m && ltb (point_of table.grid m) (2 ^ 32))
  where
    by_test : (b : Bool) → of_point t table (cond b (Some (point_of table.grid m)) None) channel ≡ cond (b && ltb channel table.outputs) (entry_from t table.start table.size (entry_number table m channel)) absent
    by_test true = refl
    by_test false = refl

module _ (t : List ℕ) (v : TableNumbers) (m : List ℕ) (channel n : ℕ) (e : n ≡ min v.inputs 16) (f : Option ℕ) (h : f ≡ point_at (grid_from t v.grid_at.0 v.grid_step n) m) where
  found : of_point t (table_by t v) f channel ≡ entry_of t (table_by t v) m channel
  found = rw (h, e) (of_point_lem t (table_by t v) m channel)

  pub entry_nowhere : f ≡ None → absent ≡ entry_of t (table_by t v) m channel
  unfolding of_point
  entry_nowhere g = rw g at found

  module _ (p : ℕ) (g : f ≡ Some p) where
    pub entry_channel : v.outputs ≤ channel → absent ≡ entry_of t (table_by t v) m channel
    unfolding of_point
    entry_channel o = rw (g, le-ltb _ _ o) at found

    pub entry_read : channel < v.outputs → (k : ℕ) → k ≡ p * v.outputs + channel → (a : Answer) → a ≡ entry_from t v.start.0 v.entry_size k → a ≡ entry_of t (table_by t v) m channel
    unfolding of_point
    entry_read o k c a z = (rw c at z) ∙ (rw (g, lt-ltb _ _ o) at found)

pub ruleset index-laws = (entry_nowhere, entry_channel, entry_read)

-- ---- the numbers of an answer

pub mft_numbers_lem : (r : Result (Option Lut) Refusal) (m : Mft) → r ≡ Ok (Some (Lut.Mft m)) → record { start = m.table.clut_start; entry_size = m.table.entry_size; inputs = m.table.inputs; outputs = m.table.outputs; grid_at = record { 0 = 10 }; grid_step = 0 } ≡ numbers_of (state_from r)
mft_numbers_lem r m e = rw e refl

pub abm_numbers_lem : (r : Result (Option Lut) Refusal) (l : Abm) → r ≡ Ok (Some (Lut.Abm l)) → (g : InTag) → g.0 ≡ l.table.clut_start.0 - 20 → record { start = l.table.clut_start; entry_size = l.table.entry_size; inputs = l.table.inputs; outputs = l.table.outputs; grid_at = g; grid_step = 1 } ≡ numbers_of (state_from r)
abm_numbers_lem r l e g h = rw (e, ← h) refl

pub absent_numbers : (r : Result (Option Lut) Refusal) → r ≡ Ok None → no_numbers ≡ numbers_of (state_from r)
absent_numbers r e = rw e refl

pub refused_numbers : (r : Result (Option Lut) Refusal) (why : Refusal) → r ≡ Err why → no_numbers ≡ numbers_of (state_from r)
refused_numbers r why e = rw e refl

pub ruleset number_laws = (mft_numbers_lem, abm_numbers_lem, absent_numbers, refused_numbers)
