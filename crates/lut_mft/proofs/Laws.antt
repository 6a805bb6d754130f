-- The meanings case by case, as the code meets them; no product and no sum wraps.
-- Assumes nothing.
use Prim.Native.Nat.{ℕ, ◌+◌, ◌*◌, ◌^◌, ◌≤◌, ◌<◌}
use native.Mathlib.Omega.{arith}
use native.Mathlib.Numerals.{add-one}
use native.Mathlib.Nat.{mul-le-mul, pow-suc}
use mathlib.Core.Path.{◌≡◌, refl, sym, ◌∙◌}
use mathlib.Core.Bool.{Bool, true, false}
use mathlib.Core.List.{List}
use lib.Dec.{ltb}
use lib.ListN.{length, get_or, replicate}
use mir.Syntax.{w64}
use mir.Val.{Fits}
use borrow.Author.Tests.{eq-eqb, ne_eqb, lt-ltb, le-ltb}
use Rattle.lut_clut_meaning.specs.Table.{points_of}
use Rattle.lut_clut_meaning.proofs.Grid.{power_is}
use Rattle.fields.specs.Bytes.{u16_at, u32_at, words_at}
use Rattle.fields.specs.Refusals.{refusal_number}
use Rattle.fields.specs.Tag.{signature_of}
use Rattle.fields.specs.declared.Kind.TheVariants.{Mft1}
use Rattle.fields.specs.declared.Refusal.{Refusal}
use Rattle.lut_mft_meaning.specs.Answer.{State, value, refused, fields_from, fields_of, answer_of}
use Rattle.lut_mft_meaning.specs.Layout.{is_wide, is_mft, shortest, inputs, grid_points, input_entries_of, output_entries_of, entry_size_of, tables_start, entries_at, colour_table}
use Rattle.lut_mft_meaning.specs.Mft.{outside, most_table_entries, bad_entries, bad_channels, bad_numbers, tables_of, numbers_of, mft_of}
use Rattle.lut_mft_meaning.specs.declared.MftTable.{MftTable}
use Rattle.lut_mft_meaning.proofs.Inside.{power_most}
use Rattle.lut_mft_meaning.proofs.Laid.{good}
use Rattle.lut_mft.specs.Sized.{Sized}

-- a grid byte to the power of at most four channels: each product on the way fits 32 bits
module _ (g p i : ℕ) (e : p ≡ g ^ i) (n : ℕ) (l : i < n) (m : n ≤ 4) (b : g < 256) where
  pub power_stays : p * g < 2 ^ 32
  power_stays =
      let j : i + 1 ≤ 4 = omega arith in
      let q : p * g ≡ g ^ (i + 1) = rw (e, add-one) (sym (pow-suc g i)) in
      rw q (omega (arith, power_most g (i + 1) b j))

-- ---- what the type decides

module _ (t : List ℕ) (b : Bool) (e : b ≡ is_wide t) where
  pub entries_wide : b ≡ true → (at n : ℕ) → n ≡ u16_at t at → n ≡ entries_at t at
  unfolding entries_at
  entries_wide w at n h = rw (← e, w) h

  pub entries_narrow : b ≡ false → (at : ℕ) → 256 ≡ entries_at t at
  unfolding entries_at
  entries_narrow w at = rw (← e, w)

  pub size_wide : b ≡ true → 2 ≡ entry_size_of t
  unfolding entry_size_of
  size_wide w = rw (← e, w)

  pub size_narrow : b ≡ false → 1 ≡ entry_size_of t
  unfolding entry_size_of
  size_narrow w = rw (← e, w)

  pub start_wide : b ≡ true → 52 ≡ tables_start t
  unfolding tables_start
  start_wide w = rw (← e, w)

  pub start_narrow : b ≡ false → shortest ≡ tables_start t
  unfolding tables_start
  start_narrow w = rw (← e, w)

pub ruleset type-laws = (entries_wide, entries_narrow, size_wide, size_narrow, start_wide, start_narrow)

-- ---- the numbers

module _ (low x high : ℕ) where
  pub outside_low : x < low → true ≡ outside low x high
  unfolding outside
  outside_low l = rw (lt-ltb x low l)

  pub outside_high : low ≤ x → ltb high x ≡ outside low x high
  unfolding outside
  outside_high l = rw (le-ltb x low l)

pub ruleset outside-laws = (outside_low, outside_high)

module _ (t : List ℕ) (n : ℕ) (en : n ≡ input_entries_of t) (b : Bool) (e : b ≡ outside 2 n most_table_entries) where
  pub entries_first : b ≡ true → true ≡ bad_entries t
  unfolding bad_entries
  entries_first w = rw (← en, ← e, w)

  pub entries_second : b ≡ false → (m : ℕ) → m ≡ output_entries_of t → (c : Bool) → c ≡ outside 2 m most_table_entries → c ≡ bad_entries t
  unfolding bad_entries
  entries_second w m em c f = rw (← en, ← e, w, ← em) f

pub ruleset entries-laws = (entries_first, entries_second)

module _ (t : List ℕ) (i o : ℕ) (ei : i ≡ get_or t 8 0) (eo : o ≡ get_or t 9 0) (b : Bool) (e : b ≡ outside 1 i 4) where
  pub channels_in : b ≡ true → true ≡ bad_channels t
  unfolding bad_channels
  channels_in w = rw (← ei, ← e, w)

  module _ (w : b ≡ false) (c : Bool) (f : c ≡ outside 1 o 4) where
    pub channels_out : c ≡ true → true ≡ bad_channels t
    unfolding bad_channels
    channels_out v = rw (← ei, ← eo, ← e, w, ← f, v)

    module _ (v : c ≡ false) where
      pub three_in : i ≡ 3 → false ≡ bad_channels t
      unfolding bad_channels
      three_in k = rw (← ei, ← eo, ← e, w, ← f, v, eq-eqb _ _ k)

      module _ (k : i ≡ 3 → ⊥) where
        pub three_out : o ≡ 3 → false ≡ bad_channels t
        unfolding bad_channels
        three_out j = rw (← ei, ← eo, ← e, w, ← f, v, ne_eqb _ _ k, eq-eqb _ _ j)

        pub three_nowhere : (o ≡ 3 → ⊥) → true ≡ bad_channels t
        unfolding bad_channels
        three_nowhere j = rw (← ei, ← eo, ← e, w, ← f, v, ne_eqb _ _ k, ne_eqb _ _ j)

pub ruleset channel-laws = (channels_in, channels_out, three_in, three_out, three_nowhere)

module _ (t : List ℕ) (b : Bool) (e : b ≡ bad_entries t) where
  pub numbers_entries : b ≡ true → true ≡ bad_numbers t
  unfolding bad_numbers
  numbers_entries w = rw (← e, w)

  module _ (w : b ≡ false) (c : Bool) (f : c ≡ bad_channels t) where
    pub numbers_channels : c ≡ true → true ≡ bad_numbers t
    unfolding bad_numbers
    numbers_channels v = rw (← e, w, ← f, v)

    pub numbers_grid : c ≡ false → (g : ℕ) → g ≡ get_or t 10 0 → ltb g 2 ≡ bad_numbers t
    unfolding bad_numbers
    numbers_grid v g h = rw (← e, w, ← f, v, ← h)

pub ruleset number-laws = (numbers_entries, numbers_channels, numbers_grid)

-- ---- products and sums

module _ (v c s : ℕ) (vl : v < 2 ^ 32) (cl : c < 256) where
  channels_low : v * c ≤ 0xFFFFFFFF * 255
  channels_low = let a : v ≤ 0xFFFFFFFF = omega arith in let b : c ≤ 255 = omega arith in mul-le-mul a b

  pub channels_fit : Fits w64 (v * c)
  channels_fit = record { fits = omega (arith, channels_low) }

  module _ (sl : s < 256) where
    table_low : v * c * s < 2 ^ 48
    table_low = let b : s ≤ 255 = omega arith in omega (arith, mul-le-mul channels_low b)

    pub table_fits : Fits w64 (v * c * s)
    table_fits = record { fits = omega (arith, table_low) }

    pub table_sized : Sized (v * c * s) (v * c * s)
    table_sized = record { is = refl; low = table_low }

-- ---- the tables

module _ (t : List ℕ) (points : ℕ) (ep : points ≡ points_of (colour_table t)) (s i o n m start : ℕ) (es : s ≡ entry_size_of t) (ei : i ≡ get_or t 8 0) (eo : o ≡ get_or t 9 0) (en : n ≡ input_entries_of t) (em : m ≡ output_entries_of t) (et : start ≡ tables_start t) (a b c : ℕ) (wa : Sized (n * i * s) a) (wb : Sized (points * o * s) b) (wc : Sized (m * o * s) c) where
  pub tables_short : length t < start + a + b + c → refused 2 ≡ tables_of t
  unfolding tables_of colour_table
  tables_short l = rw (← ep, ← ei, ← eo, ← es, ← en, ← em, ← et, ← wa.is, ← wb.is, ← wc.is, lt-ltb _ _ l)

  pub tables_value : start + a + b + c ≤ length t → (g : ℕ) → g ≡ get_or t 10 0 → value (record { size = s; inputs = i; outputs = o; grid = g; input_entries_of = n; output_entries_of = m; input_start_of = start; input_bytes = a; clut_start_of = start + a; clut_bytes = b; output_start_of = start + a + b; output_bytes = c }) ≡ tables_of t
  unfolding tables_of colour_table fields_of
  tables_value l g eg = rw (← ep, eg, ← ei, ← eo, ← es, ← en, ← em, ← et, ← wa.is, ← wb.is, ← wc.is, le-ltb _ _ l)

-- ---- the numbers, then the tables

module _ (limit : ℕ) (t : List ℕ) (b : Bool) (e : b ≡ bad_numbers t) where
  pub numbers_bad : b ≡ true → refused 15 ≡ numbers_of limit t
  unfolding numbers_of
  numbers_bad w = rw (← e, w)

  module _ (w : b ≡ false) (g n : ℕ) (eg : g ≡ get_or t 10 0) (en : n ≡ get_or t 8 0) where
    pub few_channels : n ≤ 4
    few_channels = rw (← en) at (good t (sym e ∙ w)).1.few_inputs

    module _ (p : ℕ) (ep : p ≡ g ^ n) where
      pub points_are : p ≡ points_of (colour_table t)
      unfolding colour_table
      points_are = rw (ep, eg, en) (sym (power_is (inputs t) (grid_points t)))

      pub points_over : limit < p → refused 16 ≡ numbers_of limit t
      unfolding numbers_of
      points_over l = rw (← e, w, ← points_are, lt-ltb _ _ l)

      pub points_within : p ≤ limit → (r : State) → r ≡ tables_of t → r ≡ numbers_of limit t
      unfolding numbers_of
      points_within l r h = rw (← e, w, ← points_are, le-ltb _ _ l) h

-- ---- the type

module _ (t : List ℕ) (w : ℕ) (h : w ≡ u32_at t 0) where
  pub is_mft1 : w ≡ signature_of Mft1 → true ≡ is_mft t
  unfolding is_mft
  is_mft1 e = rw (← h, eq-eqb _ _ e)

  pub is_mft2 : (w ≡ signature_of Mft1 → ⊥) → (b : Bool) → b ≡ is_wide t → b ≡ is_mft t
  unfolding is_mft
  is_mft2 n b e = rw (← h, ne_eqb _ _ n) e

module _ (limit : ℕ) (t : List ℕ) where
  pub type_short : length t < shortest → refused 2 ≡ mft_of limit t
  unfolding mft_of
  type_short l = rw (lt-ltb _ _ l)

  module _ (l : shortest ≤ length t) (b : Bool) (h : b ≡ is_mft t) where
    pub type_other : b ≡ false → refused 3 ≡ mft_of limit t
    unfolding mft_of
    type_other e = rw (le-ltb _ _ l, ← h, e)

    module _ (e : b ≡ true) (start : ℕ) (g : start ≡ tables_start t) where
      pub type_cut : length t < start → refused 2 ≡ mft_of limit t
      unfolding mft_of
      type_cut m = rw (le-ltb _ _ l, ← h, e, ← g, lt-ltb _ _ m)

      pub type_read : start ≤ length t → (r : State) → r ≡ numbers_of limit t → r ≡ mft_of limit t
      unfolding mft_of
      type_read m r i = rw (le-ltb _ _ l, ← h, e, ← g, le-ltb _ _ m) i

pub ruleset read-laws = (type_short, type_other, type_cut, type_read)

-- ---- the matrix beside it

module _ (t : List ℕ) (s : State) where
  pub with_matrix_lem : (table : MftTable) → value (fields_from table) ≡ s → (m : List ℕ) → m ≡ words_at t 12 9 → record { state = value (fields_from table); matrix = m } ≡ answer_of t s
  unfolding answer_of
  with_matrix_lem table e m w = rw (← e, w)

  pub without_matrix : (why : Refusal) → refused (refusal_number why) ≡ s → record { state = refused (refusal_number why); matrix = replicate 9 0 } ≡ answer_of t s
  unfolding answer_of
  without_matrix why e = rw (← e)
