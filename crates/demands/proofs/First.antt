-- Demand 1 of every library that keeps the contracts: each reader's own theorem, told of what the library returns and leaves.
-- Assumes nothing.
use Prim.Native.Nat.{ℕ, ◌+◌, ◌≤◌, ◌<◌}
use native.Mathlib.Nat.{zero-add}
use native.Mathlib.Omega.{arith}
use mathlib.Core.Path.{◌≡◌, refl, sym, ap, subst, ◌∙◌}
use mathlib.Core.List.{List}
use mathlib.Core.Logic.{◌⊎◌, inl, inr}
use lib.ListN.{length, drop}
use Rattle.fields.proofs.Never.{never}
use Rattle.lut_clut_meaning.specs.Table.{Table, length_of}
use Rattle.curve_meaning.specs.Answer.{Answer as Curve-as-Answer}
use Rattle.curve_meaning.specs.Shape.{Shape, empty, size_of, words_of}
use Rattle.curve_meaning.specs.declared.Walk.{Walk}
use Rattle.curve_meaning.proofs.Inside.{accepted_inside}
use Rattle.lut_run_meaning.specs.Run.{Placed, placed, CurveStands, records_of, data_end}
use Rattle.lut_run_meaning.proofs.Records.{words_end, record_at_lem, each_at}
use Rattle.lut_mft_meaning.specs.Answer.{Fields}
use Rattle.lut_meaning.specs.Answer.{mft, abm, Abm, Answer as Lut-as-Answer}
use Rattle.lut_meaning.specs.Parts.{curves_of}
use Rattle.lut_meaning.proofs.Inside.{MatrixTold, GridTold, lut_inside, mft_inside as mft-in-tag}
use Rattle.text_meaning.specs.Answer.{Answer as Text-as-Answer, slots_with as Text·slotsWith}
use Rattle.text_meaning.specs.Mluc.{even, records_in, words_in}
use Rattle.text_meaning.proofs.Found.{Value}
use Rattle.text_meaning.proofs.Inside.{ReadAt, ValueInside, value_inside}
use Rattle.small_meaning.specs.Answer.{Answer as Small-as-Answer}
use Rattle.small_meaning.specs.Readers.{Small, chad, sig, date, meas, view, xyz, cicp, small_of}
use Rattle.small_meaning.proofs.Zone.{chad_alone, sig_alone, view_alone, xyz_alone, cicp_alone, meas_alone, date_alone}
use Rattle.small_meaning.proofs.Inside.{chad_inside, sig_inside, view_inside, xyz_inside, cicp_inside, meas_inside, date_inside}
use Rattle.demands.specs.Readers.{lut, trc, string, small, Call, meaning, slots_after, value, small_outcome, Library, ends, Promised, answered}
use Rattle.demands.specs.Demands.{tag, curve_tag, ElementInside, curve_at, record_in, CurveInside, NoMatrix, MatrixThere, NoGrid, GridThere, AbmInside, MftInside, LocalizedInside, TextInside, FieldsInside, SameFields, on_profile, Demand1}
use Rattle.demands.proofs.Ends.{Spares, numbered, ends_so, leaves_spared}
use Rattle.demands.proofs.Evaluations.{evaluation_ends, refusal_leaves_words, accepted_evaluates}

-- ---- a lone curve, by the words of its record

data_end_lem : (s : Shape) → data_end (words_of 12 s) ≡ size_of s
data_end_lem s = words_end 0 s ∙ zero-add (size_of s)

-- ---- a small reader's value

with_value : {P : Type 0} (a : Small-as-Answer) → ((ns : List ℕ) → a ≡ Small-as-Answer.value ns → P) → small_outcome a ≡ value → P
with_value (Small-as-Answer.value ns) f e = f ns refl
with_value Small-as-Answer.default f e = never cc
with_value Small-as-Answer.absent f e = never cc
with_value (Small-as-Answer.refused n) f e = never cc

small_inside : (s : Small) (c : Call) (ns : List ℕ) → small_of s c.profile c.entry c.size ≡ Small-as-Answer.value ns → FieldsInside s c
small_inside chad c ns e = let i = chad_inside c.profile c.entry c.size ns e in (i.in_tag, i.in_profile)
small_inside sig c ns e = let i = sig_inside c.profile c.entry c.size ns e in (i.in_tag, i.in_profile)
small_inside date c ns e = date_inside c.profile c.entry c.size ns e
small_inside meas c ns e = meas_inside c.profile c.entry c.size ns e
small_inside view c ns e = let i = view_inside c.profile c.entry c.size ns e in (i.in_tag, i.in_profile)
small_inside xyz c ns e = let i = xyz_inside c.profile c.entry c.size ns e in (i.in_tag, i.in_profile)
small_inside cicp c ns e = let i = cicp_inside c.profile c.entry c.size ns e in (i.in_tag, i.in_profile)

small_alone : (s : Small) (c : Call) (p : List ℕ) → length c.profile ≤ length p → SameFields s c p → (ns : List ℕ) → small_of s c.profile c.entry c.size ≡ Small-as-Answer.value ns → small_of s p c.entry c.size ≡ small_of s c.profile c.entry c.size
small_alone chad c p l e ns v = chad_alone c.profile p c.entry c.size l ns e v ∙ sym v
small_alone sig c p l e ns v = sig_alone c.profile p c.entry c.size l ns e v ∙ sym v
small_alone date c p l e ns v = date_alone c.profile p c.entry c.size l ns e.0 e.1 v ∙ sym v
small_alone meas c p l e ns v = meas_alone c.profile p c.entry c.size l ns e v ∙ sym v
small_alone view c p l e ns v = view_alone c.profile p c.entry c.size l ns e v ∙ sym v
small_alone xyz c p l e ns v = xyz_alone c.profile p c.entry c.size l ns e v ∙ sym v
small_alone cicp c p l e ns v = cicp_alone c.profile p c.entry c.size l ns e v ∙ sym v

-- ---- a record of `mluc`

localized : (t : List ℕ) (k : ℕ) (words : List ℕ) → ReadAt t k words → LocalizedInside t words k
unfolding even
localized t k words r =
    record { header_in_tag = r.header_in_tag; record_is = r.record_is; string_in_tag = rw r.record_is (omega (arith, r.string_in_tag)) }

-- ---- the parts of a lookup table, as they are told

matrix_of_lem : (t : List ℕ) (a : Lut-as-Answer) → MatrixTold t a.matrix a.bias → NoMatrix t a ⊎ MatrixThere t a
matrix_of_lem t a (inl m) = inl record { not_there = m.0; matrix_is = m.1; bias_is = m.2 }
matrix_of_lem t a (inr m) = inr record { there = m.0; in_tag = m.1; matrix_is = m.2; bias_is = m.3 }

grid_of_lem : (t : List ℕ) (a : Lut-as-Answer) (f : Abm) (table : Table) → f.start ≡ table.start → f.bytes ≡ length_of table → f.size ≡ table.size → f.start + f.bytes ≤ length t → GridTold t table a.grid → NoGrid t a f ⊎ GridThere t a f
grid_of_lem t a f table start bytes size within (inl m) =
    inl record { not_there = m.0; grid_is = m.2; start_is = start ∙ rw m.1; bytes_are = bytes ∙ rw m.1 (omega arith); size_is = size ∙ rw m.1 }
grid_of_lem t a f table start bytes size within (inr m) =
    inr record { there = m.0; in_tag = omega (arith, start, m.1, within); grid_is = m.3; start_is = start ∙ m.1; size_is = size ∙ m.2 }

module _ (l : Library) (p : Promised l) where
  abm_inside : (walk : Walk) (c : Call) (f : Abm) → (answered l (lut walk) c).state ≡ abm f → AbmInside walk c (answered l (lut walk) c) f (l.leaves (lut walk) c)
  abm_inside walk c f h =
      let e = p.answers (lut walk) c in
      let s : (meaning (lut walk) c).state ≡ abm f = ap (λ (a : Lut-as-Answer). a.state) (sym e) ∙ h in
      let i = lut_inside walk c.entries c.points c.profile c.entry c.size (length c.slots) f s in
      let curves : List Placed = curves_of walk c.entries (tag c) in
      let recorded : (k : ℕ) → k < f.a + f.m + f.b → CurveInside c.entries (tag c) (record_in (slots_after (lut walk) c) k) (curve_at walk c k) =
      λ k low.
      let few : k < length curves = omega (arith, low, i.curves_counted) in
      let is = record_at_lem curves (drop (length (records_of curves)) c.slots) (placed 0 empty) k few in
      let stands = each_at (CurveStands c.entries (tag c)) curves (placed 0 empty) i.curves_in_tag k few in
      rw s record { record_is = is; stands = stands; data_in_tag = omega (arith, ap data_end is ∙ words_end (curve_at walk c k).at (curve_at walk c k).shape, stands.ends_in_tag) } in
      rw (e, p.leaves_so (lut walk) c)
      record {
        tag_in_profile = i.tag_in_profile;
        direction_is = i.direction_is;
        inputs_are = i.inputs_are;
        outputs_are = i.outputs_are;
        curves_in_tag = recorded;
        matrix_in_tag = matrix_of_lem (tag c) (meaning (lut walk) c) i.matrix_is;
        grid_in_tag = grid_of_lem (tag c) (meaning (lut walk) c) f i.table i.start_is i.bytes_are i.size_is i.table_in_tag i.grid_is;
        table_in_tag = i.table_in_tag;
        index_in_table = λ sized index channel valid. i.entry_in_table sized index channel valid.0 valid.1;
      }

  mft_inside : (walk : Walk) (c : Call) (f : Fields) → (answered l (lut walk) c).state ≡ mft f → MftInside c (answered l (lut walk) c) f
  mft_inside walk c f h =
      let e = p.answers (lut walk) c in
      let s : (meaning (lut walk) c).state ≡ mft f = ap (λ (a : Lut-as-Answer). a.state) (sym e) ∙ h in
      let i = mft-in-tag walk c.entries c.points c.profile c.entry c.size (length c.slots) f s in
      record {
        tag_in_profile = i.0;
        type_is = i.1.type_is;
        numbers_are = (i.1.inputs_are, i.1.outputs_are, i.1.points_are);
        matrix_in_tag = i.1.matrix_in_tag;
        matrix_is = ap (λ (a : Lut-as-Answer). a.matrix) (e ∙ i.2);
        no_grid = ap (λ (a : Lut-as-Answer). a.grid) (e ∙ i.2);
        no_bias = ap (λ (a : Lut-as-Answer). a.bias) (e ∙ i.2);
        input_in_tag = i.1.input_in_tag;
        table_in_tag = i.1.clut_in_tag;
        output_in_tag = i.1.output_in_tag;
        index_in_table = λ index channel valid. i.1.entry_in_table index channel valid.0 valid.1;
      }

  curve_inside : (walk : Walk) (c : Call) (words : List ℕ) (consumed : ℕ) → answered l (trc walk) c ≡ Curve-as-Answer.value words consumed → (data_end words ≤ length (curve_tag c)) × ElementInside c
  curve_inside walk c words consumed h =
      let i = accepted_inside walk c.entries c.profile c.entry c.size words consumed (sym (p.answers (trc walk) c) ∙ h) in
      (omega (arith, ap data_end i.curve.record_is ∙ data_end_lem i.curve.shape, i.curve_in_tag), i.tag_in_profile)

  text_inside : (c : Call) → TextInside c (l.leaves string c) (answered l string c)
  text_inside c = rw (p.leaves_so string c, p.answers string c) (by (meaning string c) (value_inside c.profile c.entry c.size (length c.slots)))
    where
      by : (a : Text-as-Answer) → (Value a → ValueInside c.profile c.entry c.size a) → TextInside c (Text·slotsWith a (words_in (records_in (tag c)).records) c.slots) a
      by (Text-as-Answer.text s) h = ((h tt).tag_in_profile, (h tt).ranges_in_tag)
      by (Text-as-Answer.desc s u) h = ((h tt).tag_in_profile, (h tt).ranges_in_tag.0, (h tt).ranges_in_tag.1)
      by (Text-as-Answer.mluc n) h = ((h tt).tag_in_profile, λ k low. localized (tag c) k _ ((h tt).ranges_in_tag c.slots k low))
      by Text-as-Answer.absent h = tt
      by (Text-as-Answer.refused n) h = tt

  fields_inside : (s : Small) (c : Call) → ends l (small s) c ≡ value → FieldsInside s c
  fields_inside s c h = with_value (small_of s c.profile c.entry c.size) (small_inside s c) (sym (ends_so l p (small s) c) ∙ h)

  fields_alone : (s : Small) (c : Call) (q : List ℕ) → ends l (small s) c ≡ value → length c.profile ≤ length q → SameFields s c q → answered l (small s) (on_profile q c) ≡ answered l (small s) c
  fields_alone s c q h long same =
      let e = with_value (small_of s c.profile c.entry c.size) (small_alone s c q long same) (sym (ends_so l p (small s) c) ∙ h) in
      p.answers (small s) (on_profile q c) ∙ e ∙ sym (p.answers (small s) c)

  pub demand1 : Demand1 l
  demand1 =
      record {
        numbered = numbered l p;
        refusal_leaves_slots = λ r c n e. leaves_spared l p r c (subst Spares (sym e) tt);
        absence_leaves_slots = λ r c e. leaves_spared l p r c (subst Spares (sym e) tt);
        abm_inside = abm_inside;
        mft_inside = mft_inside;
        curve_inside = curve_inside;
        text_inside = text_inside;
        fields_inside = fields_inside;
        fields_alone = fields_alone;
        evaluation_ends = evaluation_ends l p;
        refusal_leaves_words = refusal_leaves_words l p;
        accepted_evaluates = accepted_evaluates l p;
      }
