-- Conformance to lut16Type and lut8Type, both ways.
-- Assumes nothing.
use Prim.Native.Nat.{ℕ, ◌+◌, ◌*◌, ◌^◌, ◌≤◌}
use native.Mathlib.Omega.{arith}
use mathlib.Core.Path.{◌≡◌, refl, sym, ap, ◌∙◌}
use mathlib.Core.Bool.{true, false}
use mathlib.Core.List.{List, ◌∷◌, ◌++◌, append_assoc}
use lib.Dec.{eqb}
use mathlib.Core.Logic.{◌⊎◌, inl, inr}
use lib.ListN.{length, get_or, take, drop, replicate, length-append, length-drop}
use lib.Seq.{length-take-le}
use borrow.Author.Tests.{eq-eqb}
use Rattle.icc.specs.Numbers.{be32, each16, each32, Bytes}
use Rattle.icc.specs.Tables.{Matrix, Lut, nine, Sized, Entries16, lut16_type, lut8_type}
use Rattle.fields.proofs.Written.{read16, length16, words_drop, words_written, words_below, then8, then16, then32, row8, row16, row32, halves_at, halves_length, halves_below}
use Rattle.fields.specs.Bytes.{u16_at, u32_at, words_at}
use Rattle.fields.specs.Tag.{signature_of}
use Rattle.fields.specs.declared.Kind.TheVariants.{Mft1, Mft2}
use Rattle.lut_clut_meaning.specs.Table.{product}
use Rattle.lut_clut_meaning.proofs.Grid.{power_is}
use Rattle.lut_mft_meaning.specs.Answer.{Fields, value, fields_of, answer_of}
use Rattle.lut_mft_meaning.specs.Layout.{is_wide, entry_size_of, tables_start, entries_at, inputs, outputs, grid_points, input_entries_of, output_entries_of, matrix_of, colour_table}
use Rattle.lut_mft_meaning.specs.Mft.{mft_of}
use Rattle.lut_mft_meaning.specs.Standard.{fields_told, fields_told16, fields_told8, Taken, Begins16, Begins8}
use Rattle.lut_mft_meaning.proofs.Laid.{LaidOut, Asked, conforms, accepted}

-- the numbers of a tag, as the reader has them
record Seen (t : List ℕ) (size start n m : ℕ) (l : Lut) : Type 0 where
  type_is : (u32_at t 0 ≡ signature_of Mft1) ⊎ (u32_at t 0 ≡ signature_of Mft2)
  size_is : entry_size_of t ≡ size
  start_is : tables_start t ≡ start
  n_is : input_entries_of t ≡ n
  m_is : output_entries_of t ≡ m
  i_is : inputs t ≡ l.input_channels
  o_is : outputs t ≡ l.output_channels
  g_is : grid_points t ≡ l.grid_points
  matrix_is : matrix_of t ≡ nine l.matrix
  whole : start + size * length l.input_tables + size * length l.clut + size * length l.output_tables ≤ length t

module _ (limit : ℕ) (t : List ℕ) (size start n m : ℕ) (l : Lut) (s : Seen t size start n m l) (z : Sized n m l) where
  input_bytes_lem : input_entries_of t * inputs t * entry_size_of t ≡ size * length l.input_tables
  input_bytes_lem = rw (s.n_is, s.i_is, s.size_is, z.input_tables_lem) (omega arith)

  points : product (replicate (inputs t) (grid_points t)) ≡ l.grid_points ^ l.input_channels
  points = rw (s.i_is, s.g_is) (power_is l.input_channels l.grid_points)

  clut_bytes_lem : product (replicate (inputs t) (grid_points t)) * outputs t * entry_size_of t ≡ size * length l.clut
  clut_bytes_lem = rw (points, s.o_is, s.size_is, z.clut_points) (omega arith)

  output_bytes_lem : output_entries_of t * outputs t * entry_size_of t ≡ size * length l.output_tables
  output_bytes_lem = rw (s.m_is, s.o_is, s.size_is, z.output_tables_lem) (omega arith)

  told_fields : fields_of t ≡ fields_told size start n m l
  unfolding fields_of colour_table
  told_fields =
      rw (input_bytes_lem, clut_bytes_lem, output_bytes_lem, s.size_is, s.start_is, s.n_is, s.m_is, s.i_is, s.o_is, s.g_is)

  answered : Entries16 n → Entries16 m → Taken limit l → answer_of t (mft_of limit t) ≡ record { state = value (fields_told size start n m l); matrix = nine l.matrix }
  unfolding answer_of colour_table
  answered en em k =
      let h : LaidOut t = record {
        type_is = s.type_is;
        entries = record { input_least = rw s.n_is en.0; input_most = rw s.n_is en.1; output_least = rw s.m_is em.0; output_most = rw s.m_is em.1 };
        whole = omega (arith, s.whole, s.start_is, input_bytes_lem, clut_bytes_lem, output_bytes_lem);
      } in
      let w : Asked limit t = record {
        grid = record {
          some_inputs = rw s.i_is k.some_inputs;
          few_inputs = rw s.i_is k.few_inputs;
          some_outputs = rw s.o_is k.some_outputs;
          few_outputs = rw s.o_is k.few_outputs;
          three = rw (s.i_is, s.o_is) k.three;
          wide = rw s.g_is k.wide;
        };
        within = rw points k.within;
      } in
      rw (conforms limit t h w, told_fields, s.matrix_is)

-- ---- written, then read

four : (a b c rest : List ℕ) → length (a ++ b ++ c ++ rest) ≡ length a + length b + length c + length rest
four a b c rest = simp length-append

module _ (limit reserved reserved2 : ℕ) (l : Lut) (rest : List ℕ) (k : Taken limit l) where
  pub written_read16 : (n m : ℕ) → Entries16 n → Entries16 m → Sized n m l → let t : List ℕ = lut16_type reserved reserved2 n m l ++ rest in answer_of t (mft_of limit t) ≡ record { state = value (fields_told16 n m l); matrix = nine l.matrix }
  unfolding lut16_type is_wide entry_size_of tables_start entries_at signature_of each32
  written_read16 n m en em z =
      let t : List ℕ = lut16_type reserved reserved2 n m l ++ rest in
      let s : Seen t 2 52 n m l = record {
        type_is = inr refl;
        size_is = refl;
        start_is = refl;
        n_is = read16 n (omega arith);
        m_is = read16 m (omega arith);
        i_is = refl;
        o_is = refl;
        g_is = refl;
        matrix_is = sym (words_drop t 12 0 9) ∙ words_written (nine l.matrix) _ k.matrix;
        whole = omega (arith, four (each16 l.input_tables) (each16 l.clut) (each16 l.output_tables) rest, length16 l.input_tables, length16 l.clut, length16 l.output_tables);
      } in
      answered limit t 2 52 n m l s z en em k

  pub written_read8 : Sized 256 256 l → let t : List ℕ = lut8_type reserved reserved2 l ++ rest in answer_of t (mft_of limit t) ≡ record { state = value (fields_told8 l); matrix = nine l.matrix }
  unfolding lut8_type is_wide entry_size_of tables_start entries_at signature_of each32
  written_read8 z =
      let t : List ℕ = lut8_type reserved reserved2 l ++ rest in
      let s : Seen t 1 48 256 256 l = record {
        type_is = inl refl;
        size_is = refl;
        start_is = refl;
        n_is = refl;
        m_is = refl;
        i_is = refl;
        o_is = refl;
        g_is = refl;
        matrix_is = sym (words_drop t 12 0 9) ∙ words_written (nine l.matrix) _ k.matrix;
        whole = omega (arith, four l.input_tables l.clut l.output_tables rest);
      } in
      answered limit t 1 48 256 256 l s z (omega arith) (omega arith) k

-- three tables one behind the other
pub apart : (a b c rest : List ℕ) → a ++ b ++ c ++ rest ≡ a ++ (b ++ (c ++ rest))
apart a b c rest = simp append_assoc

-- ---- read, then written

module _ (limit : ℕ) (t : List ℕ) (b : Bytes t) where
  abbrev matrix_at : Matrix
  matrix_at =
      record {
        e1 = u32_at t 12;
        e2 = u32_at t 16;
        e3 = u32_at t 20;
        e4 = u32_at t 24;
        e5 = u32_at t 28;
        e6 = u32_at t 32;
        e7 = u32_at t 36;
        e8 = u32_at t 40;
        e9 = u32_at t 44;
      }

  abbrev lut_of : (a c z : List ℕ) → Lut
  lut_of a c z =
      record { input_channels = inputs t; output_channels = outputs t; grid_points = grid_points t; matrix = matrix_at; input_tables = a; clut = c; output_tables = z }

  taken : (a c z : List ℕ) → Asked limit t → Taken limit (lut_of a c z)
  unfolding colour_table words_at
  taken a c z w =
      let g = w.grid in
      record {
        some_inputs = g.some_inputs;
        few_inputs = g.few_inputs;
        some_outputs = g.some_outputs;
        few_outputs = g.few_outputs;
        three = g.three;
        wide = g.wide;
        within = rw (power_is (inputs t) (grid_points t)) at w.within;
        matrix = words_below t b 12 9;
      }

  abbrev clut_entries : ℕ
  clut_entries = grid_points t ^ inputs t * outputs t

  -- the first 48 bytes
  head : (type : ℕ) {x : List ℕ} → u32_at t 0 ≡ type → 48 ≤ length t → drop 48 t ≡ x → t ≡ be32 type ++ (be32 (u32_at t 4) ++ (inputs t ∷ outputs t ∷ grid_points t ∷ get_or t 11 0 ∷ (each32 (nine matrix_at) ++ x)))
  unfolding words_at
  head type e l h =
      then32 t b 0 (omega arith) e (then32 t b 4 (omega arith) refl (then8 t 8 (omega arith) refl (then8 t 9 (omega arith) refl (then8 t 10 (omega arith) refl (then8 t 11 (omega arith) refl (row32 t b 9 12 (omega arith) refl h))))))

  begins16 : (f : Fields) → u32_at t 0 ≡ signature_of Mft2 → LaidOut t → Asked limit t → f ≡ fields_of t → Begins16 limit t f (matrix_of t)
  unfolding lut16_type is_wide entry_size_of tables_start entries_at signature_of each32 words_at colour_table
  begins16 f e h w q =
      let y : eqb (u32_at t 0) 0x6d667432 ≡ true = eq-eqb _ _ e in
      let n : ℕ = u16_at t 48 in
      let m : ℕ = u16_at t 50 in
      let u : ℕ = n * inputs t in
      let v : ℕ = clut_entries in
      let x : ℕ = m * outputs t in
      let a : List ℕ = halves_at t 52 u in
      let c : List ℕ = halves_at t (52 + 2 * u) v in
      let z : List ℕ = halves_at t (52 + 2 * u + 2 * v) x in
      let r : List ℕ = drop (52 + 2 * u + 2 * v + 2 * x) t in
      let whole : 52 + n * inputs t * 2 + grid_points t ^ inputs t * outputs t * 2 + m * outputs t * 2 ≤ length t = rw (y, power_is (inputs t) (grid_points t)) at h.whole in
      let end : 52 + 2 * u + 2 * v + 2 * x ≤ length t = omega arith in
      let s : Seen t 2 52 n m (lut_of a c z) = record {
        type_is = inr e;
        size_is = rw y;
        start_is = rw y;
        n_is = rw y;
        m_is = rw y;
        i_is = refl;
        o_is = refl;
        g_is = refl;
        matrix_is = refl;
        whole = rw (halves_length t 52 u, halves_length t (52 + 2 * u) v, halves_length t (52 + 2 * u + 2 * v) x) end;
      } in
      let sized : Sized n m (lut_of a c z) = record { input_tables_lem = halves_length t 52 u; clut_points = halves_length t (52 + 2 * u) v; output_tables_lem = halves_length t (52 + 2 * u + 2 * v) x } in
      record {
        reserved = u32_at t 4;
        reserved2 = get_or t 11 0;
        input_entries_of = n;
        output_entries_of = m;
        lut = lut_of a c z;
        rest = r;
        input_entries_lem = (rw y at h.entries.input_least, rw y at h.entries.input_most);
        output_entries_lem = (rw y at h.entries.output_least, rw y at h.entries.output_most);
        sized = sized;
        taken = taken a c z w;
        entries_fit = halves_below t b (52 + 2 * u) v;
        told_is = q ∙ told_fields limit t 2 52 n m (lut_of a c z) s sized;
        matrix_is = refl;
        is = head 0x6D667432 e (omega arith) (then16 t b 48 (omega arith) refl (then16 t b 50 (omega arith) refl (row16 t b u 52 (omega arith) refl (row16 t b v (52 + 2 * u) (omega arith) refl (row16 t b x (52 + 2 * u + 2 * v) end refl refl)) ∙ sym (apart (each16 a) (each16 c) (each16 z) r))));
      }

  part_length : (i n : ℕ) → i + n ≤ length t → length (take n (drop i t)) ≡ n
  part_length i n l = length-take-le n (drop i t) (omega (arith, length-drop i t))

  begins8 : (f : Fields) → u32_at t 0 ≡ signature_of Mft1 → LaidOut t → Asked limit t → f ≡ fields_of t → Begins8 limit t f (matrix_of t)
  unfolding lut8_type is_wide entry_size_of tables_start entries_at signature_of each32 words_at colour_table
  begins8 f e h w q =
      let y : eqb (u32_at t 0) 0x6d667432 ≡ false = ap (λ (k : ℕ). eqb k 0x6d667432) e in
      let u : ℕ = 256 * inputs t in
      let v : ℕ = clut_entries in
      let x : ℕ = 256 * outputs t in
      let a : List ℕ = take u (drop 48 t) in
      let c : List ℕ = take v (drop (48 + u) t) in
      let z : List ℕ = take x (drop (48 + u + v) t) in
      let r : List ℕ = drop (48 + u + v + x) t in
      let whole : 48 + 256 * inputs t * 1 + grid_points t ^ inputs t * outputs t * 1 + 256 * outputs t * 1 ≤ length t = rw (y, power_is (inputs t) (grid_points t)) at h.whole in
      let end : 48 + u + v + x ≤ length t = omega arith in
      let la : length a ≡ u = part_length 48 u (omega arith) in
      let lc : length c ≡ v = part_length (48 + u) v (omega arith) in
      let lz : length z ≡ x = part_length (48 + u + v) x end in
      let s : Seen t 1 48 256 256 (lut_of a c z) = record {
        type_is = inl e;
        size_is = rw y;
        start_is = rw y;
        n_is = rw y;
        m_is = rw y;
        i_is = refl;
        o_is = refl;
        g_is = refl;
        matrix_is = refl;
        whole = rw (la, lc, lz) (omega arith);
      } in
      let sized : Sized 256 256 (lut_of a c z) = record { input_tables_lem = la; clut_points = lc; output_tables_lem = lz } in
      record {
        reserved = u32_at t 4;
        reserved2 = get_or t 11 0;
        lut = lut_of a c z;
        rest = r;
        sized = sized;
        taken = taken a c z w;
        told_is = q ∙ told_fields limit t 1 48 256 256 (lut_of a c z) s sized;
        matrix_is = refl;
        is = head 0x6D667431 e (omega arith) (row8 t u 48 (row8 t v (48 + u) (row8 t x (48 + u + v) refl)) ∙ sym (apart a c z r));
      }

  -- what is accepted is what the standard writes
  pub read_written : (f : Fields) → mft_of limit t ≡ value f → Begins8 limit t f (matrix_of t) ⊎ Begins16 limit t f (matrix_of t)
  read_written f v =
      let w = accepted limit t f v in
      elim w.laid.type_is [
        | inl e ↦ inl (begins8 f e w.laid w.asked w.fields_are)
        | inr e ↦ inr (begins16 f e w.laid w.asked w.fields_are)
      ]
