-- The view of a lookup table that the standard writes shows its colours, each at its point: of a CLUT element, and of the CLUT of lut16Type and
-- lut8Type.
-- Assumes nothing.
use Prim.Native.Nat.{ℕ, ◌+◌, ◌*◌, ◌^◌, ◌≤◌, ◌<◌, min}
use native.Mathlib.Omega.{arith}
use mathlib.Core.Path.{◌≡◌, refl, sym, ap, ◌∙◌}
use mathlib.Core.Bool.{Bool}
use mathlib.Core.List.{List, [], ◌∷◌, ◌++◌, append_assoc}
use lib.ListN.{length, get_or, take, drop, replicate, get_or-append, length-append}
use lib.Seq.{take_at, drop_at, drop-drop, get_or-drop}
use borrow.Author.Tests.{ne_eqb}
use Rattle.icc.specs.Elements.{Stands, Entries, bytes, words, precision, numbers, EntriesFit, entry_bytes, Clut, clut_element, ClutAt, no_clut, the_clut, LutParts}
use Rattle.icc.specs.Grid.{InGrid}
use Rattle.icc.specs.Numbers.{each16, each32, Each16}
use Rattle.icc.specs.Tables.{Lut, Sized, lut16_type, lut8_type}
use Rattle.fields.specs.Place.{counted_size}
use Rattle.fields.proofs.Written.{length16, half_drop, half_written}
use Rattle.lut_clut_meaning.specs.Table.{Table, product, point_of, entry_number}
use Rattle.lut_clut_meaning.proofs.Conforms.{points_are, precision_least}
use Rattle.lut_clut_meaning.proofs.Grid.{below, point_below, power_is}
use Rattle.lut_clut_meaning.proofs.Order.{in_grid_lem, order_at}
use Rattle.curve_meaning.specs.declared.Walk.{Walk}
use Rattle.lut_mft_meaning.specs.Standard.{fields_told16, fields_told8}
use Rattle.lut_mft_meaning.proofs.Conforms.{apart}
use Rattle.lut_meaning.specs.Answer.{Abm, abm, Answer as Lut-as-Answer, mft}
use Rattle.lut_meaning.specs.Lut.{lut_of}
use Rattle.lut_meaning.specs.Standard.{start_told, bytes_told, size_told, grid_told, ClutFits, answer_told, PartsTaken}
use Rattle.lut_view_meaning.specs.Answer.{Answer, value}
use Rattle.lut_view_meaning.specs.Standard.{ShowsColours, ShowsClut}
use Rattle.lut_view_meaning.specs.View.{table_by, numbers_of, stored_at, entry_of}
use Rattle.lut_view_meaning.proofs.Any.{empty_absent}
use Rattle.lut_view_meaning.proofs.Shows.{abm_shows, mft_shows}

-- ---- an entry by its number

stored : (t : List ℕ) (start : ℕ) (e : Entries) (rest : List ℕ) → drop start t ≡ entry_bytes e ++ rest → EntriesFit e → (i : ℕ) → i < length (numbers e) → stored_at t (start + i * precision e) (precision e) ≡ get_or (numbers e) i 0
unfolding entry_bytes EntriesFit numbers precision
stored t start (bytes ns) rest d f i l =
    let e : i * 1 ≡ i = omega arith in
    rw e (sym (get_or-drop start t i 0) ∙ ap (λ (s : List ℕ). get_or s i 0) d ∙ get_or-append ns rest 0 i l)
stored t start (words ns) rest d f i l =
    sym (half_drop t start (i * 2)) ∙ ap (λ (s : List ℕ). get_or s (i * 2) 0 * 256 + get_or s (i * 2 + 1) 0) d ∙ half_written ns rest f i l

-- entries that stand at a table's start, on its grid, are shown as the colours that they are
module _ (t : List ℕ) (shown : List ℕ → ℕ → Answer) (grid : List ℕ) (outputs start : ℕ) (e : Entries) (rest : List ℕ) where
  abbrev table : Table
  table = record { grid = grid; outputs = outputs; start = start; size = precision e }

  colours : drop start t ≡ entry_bytes e ++ rest → EntriesFit e → length (numbers e) ≡ product grid * outputs → ((point : List ℕ) (channel : ℕ) → InGrid grid point → channel < outputs → shown point channel ≡ value (stored_at t (start + entry_number table point channel * precision e) (precision e))) → ShowsColours shown grid outputs (numbers e)
  colours d f n h colour c point channel i l =
      let k : ℕ = entry_number table point channel in
      let low : k < length (numbers e) = omega (arith, n, below (point_of grid point) (product grid) outputs channel (point_below grid point (in_grid_lem grid point i)) l) in
      h point channel i l ∙ ap value (stored t start e rest d f k low ∙ ap (λ (ns : List ℕ). get_or ns k 0) c.written ∙ order_at grid outputs colour c.each_output point i channel l)

-- ---- the CLUT element

module _ (walk : Walk) (limit points : ℕ) (p : List ℕ) (entry size slots : ℕ) (low-size : size < 2 ^ 32) (long : 48 ≤ size) where
  abbrev t : List ℕ
  t = take size (drop entry p)

  abbrev shown : Lut-as-Answer → List ℕ → ℕ → Answer
  shown a point channel = entry_of t (table_by t (numbers_of a.state)) point channel

  -- the entries of an element stand behind its first 20 bytes
  entries_at : (offset : ℕ) (c : Clut) → length c.grid + length c.unused ≡ 16 → (s : Stands t offset (clut_element c)) → drop (offset + 20) t ≡ entry_bytes c.entries ++ s.behind
  unfolding clut_element
  entries_at offset c n s =
      let head : List ℕ = c.grid ++ c.unused ++ (precision c.entries ∷ c.pad1 ∷ c.pad2 ∷ c.pad3 ∷ []) in
      let k : length head ≡ 20 = simp length-append (omega (arith, n)) in
      let e : drop offset t ≡ head ++ (entry_bytes c.entries ++ s.behind) = s.is ∙ simp append_assoc in
      sym (drop-drop 20 offset t) ∙ ap (drop 20) e ∙ drop_at head _ 20 k

  counted : counted_size size ≡ size
  counted = let some : size ≡ 0 → ⊥ = λ z. omega arith in rw (ne_eqb size 0 some)

  clut_colours : {offset i o : ℕ} (x : ClutAt t offset i o) → ClutFits x → (d : Bool) (a m b : ℕ) (matrix bias : List ℕ) → let f : Abm = record { to_pcs_of = d; inputs = i; outputs = o; start = start_told x; bytes = bytes_told x; size = size_told x; a = a; m = m; b = b } in lut_of walk limit points p entry size slots ≡ record { state = abm f; grid = grid_told x; matrix = matrix; bias = bias } → ShowsClut (λ point channel. entry_of t (table_by t (numbers_of (abm f))) point channel) x
  unfolding ShowsClut start_told bytes_told size_told grid_told ClutFits
  clut_colours (no_clut z) k d a m b matrix bias e = λ point channel. empty_absent t _ point channel refl
  clut_colours {offset} {i} {o} (the_clut n c s z) k d a m b matrix bias e =
      let f : Abm = record { to_pcs_of = d; inputs = i; outputs = o; start = offset + 20; bytes = length (entry_bytes c.entries); size = precision c.entries; a = a; m = m; b = b } in
      let w = abm_shows walk limit points p entry size slots low-size f (ap (λ (x : Lut-as-Answer). x.state) e) (precision_least c.entries) in
      let few : min i 16 ≡ length c.grid = omega (arith, z.dimensions, z.sixteen) in
      let g : take (min i 16) (lut_of walk limit points p entry size slots).grid ≡ c.grid = rw (e, few) (take_at c.grid c.unused (length c.grid) refl) in
      let all : length (numbers c.entries) ≡ product c.grid * o = z.all_entries ∙ ap (λ (q : ℕ). q * o) (points_are c.grid) in
      colours t (λ point channel. entry_of t (table_by t (numbers_of (abm f))) point channel) c.grid o (offset + 20) c.entries s.behind (entries_at offset c z.sixteen s) k.fits all
      (λ point channel v l. rw (counted, g) at (w.entry_is point channel (rw g (in_grid_lem c.grid point v)) l))

  pub abm_colours : (l : LutParts t) → PartsTaken l → lut_of walk limit points p entry size slots ≡ answer_told l → ShowsClut (shown (answer_told l)) l.clut
  abm_colours l f e = clut_colours l.clut f.clut_fits _ _ _ _ _ _ e

  -- ---- lut16Type and lut8Type

  pub wide_colours : (reserved reserved2 n m : ℕ) (l : Lut) (rest : List ℕ) → Sized n m l → Each16 l.clut → t ≡ lut16_type reserved reserved2 n m l ++ rest → (lut_of walk limit points p entry size slots).state ≡ mft (fields_told16 n m l) → ShowsColours (λ point channel. entry_of t (table_by t (numbers_of (mft (fields_told16 n m l)))) point channel) (replicate l.input_channels l.grid_points) l.output_channels l.clut
  unfolding lut16_type numbers entry_bytes EntriesFit precision each32
  wide_colours reserved reserved2 n m l rest z fits e h =
      let grid : List ℕ = replicate l.input_channels l.grid_points in
      let w = mft_shows walk limit points p entry size slots low-size (fields_told16 n m l) h in
      let behind : List ℕ = each16 l.output_tables ++ rest in
      let tables : drop 52 t ≡ each16 l.input_tables ++ (each16 l.clut ++ behind) = ap (drop 52) e ∙ apart (each16 l.input_tables) (each16 l.clut) (each16 l.output_tables) rest in
      let there : drop (52 + 2 * length l.input_tables) t ≡ each16 l.clut ++ behind = sym (drop-drop (2 * length l.input_tables) 52 t) ∙ ap (drop (2 * length l.input_tables)) tables ∙ drop_at (each16 l.input_tables) _ (2 * length l.input_tables) (length16 l.input_tables) in
      let all : length l.clut ≡ product grid * l.output_channels = z.clut_points ∙ ap (λ (q : ℕ). q * l.output_channels) (sym (power_is l.input_channels l.grid_points)) in
      colours t (λ point channel. entry_of t (table_by t (numbers_of (mft (fields_told16 n m l)))) point channel) grid l.output_channels (52 + 2 * length l.input_tables) (words l.clut) behind there fits all
      (λ point channel v k. rw counted at (w.entry_is point channel (in_grid_lem grid point v) k))

  pub narrow_colours : (reserved reserved2 : ℕ) (l : Lut) (rest : List ℕ) → Sized 256 256 l → t ≡ lut8_type reserved reserved2 l ++ rest → (lut_of walk limit points p entry size slots).state ≡ mft (fields_told8 l) → ShowsColours (λ point channel. entry_of t (table_by t (numbers_of (mft (fields_told8 l)))) point channel) (replicate l.input_channels l.grid_points) l.output_channels l.clut
  unfolding lut8_type numbers entry_bytes EntriesFit precision each32
  narrow_colours reserved reserved2 l rest z e h =
      let grid : List ℕ = replicate l.input_channels l.grid_points in
      let w = mft_shows walk limit points p entry size slots low-size (fields_told8 l) h in
      let behind : List ℕ = l.output_tables ++ rest in
      let k : length l.input_tables ≡ 1 * length l.input_tables = omega arith in
      let tables : drop 48 t ≡ l.input_tables ++ (l.clut ++ behind) = ap (drop 48) e ∙ apart l.input_tables l.clut l.output_tables rest in
      let there : drop (48 + 1 * length l.input_tables) t ≡ l.clut ++ behind = sym (drop-drop (1 * length l.input_tables) 48 t) ∙ ap (drop (1 * length l.input_tables)) tables ∙ drop_at l.input_tables _ (1 * length l.input_tables) k in
      let all : length l.clut ≡ product grid * l.output_channels = z.clut_points ∙ ap (λ (q : ℕ). q * l.output_channels) (sym (power_is l.input_channels l.grid_points)) in
      colours t (λ point channel. entry_of t (table_by t (numbers_of (mft (fields_told8 l)))) point channel) grid l.output_channels (48 + 1 * length l.input_tables) (bytes l.clut) behind there tt all
      (λ point channel v j. rw counted at (w.entry_is point channel (in_grid_lem grid point v) j))
