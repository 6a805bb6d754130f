-- Demand 2's proved half, of every library that keeps the contracts: one answer a call, and conformance to what the standards write.
-- Assumes nothing.
use Prim.Native.Nat.{ℕ, ◌≤◌, ◌<◌, ◌^◌}
use mathlib.Core.Path.{◌≡◌, refl, sym, ap, subst, ◌∙◌}
use mathlib.Core.List.{List}
use mathlib.Core.Logic.{◌⊎◌}
use lib.ListN.{length}
use Rattle.icc.specs.Elements.{numbers as numbers_in, ClutAt, no_clut, the_clut}
use Rattle.icc.specs.Numbers.{Bytes}
use Rattle.icc.specs.Small.{signature_type, measurement_type, viewing_conditions_type, cicp_type}
use Rattle.lut_clut_meaning.specs.Table.{Table}
use Rattle.curve_meaning.specs.declared.Walk.{Walk}
use Rattle.curve_meaning.proofs.Conforms.{lone_read, lone_written}
use Rattle.curve_meaning.proofs.Unique.{unique as curve-unique}
use Rattle.lut_mft_meaning.specs.Answer.{Fields, told_table as Mft·toldTable}
use Rattle.lut_mft_meaning.specs.Standard.{fields_told16, fields_told8, Begins16, Begins8}
use Rattle.lut_meaning.specs.Abm.{told_table as Abm·toldTable}
use Rattle.lut_meaning.specs.Answer.{mft, abm, Abm, State, Answer as Lut-as-Answer}
use Rattle.lut_meaning.specs.Standard.{answer_told, PartsAs, TagAs, PassesBy}
use Rattle.lut_meaning.proofs.Conforms.{profile_read, profile_slots, profile_parts, profile_written, profile_counts, profile_read16, profile_read8, profile_written_mft}
use Rattle.lut_meaning.proofs.Unique.{unique as lut-unique}
use Rattle.small_meaning.specs.Readers.{Small, chad, sig, date, meas, view, xyz, cicp, small_of}
use Rattle.small_meaning.specs.Standard.{signature_told, some_xyz_type, first_told, measurement_told, view_told, cicp_told, WrittenRead, ReadWritten}
use Rattle.small_meaning.proofs.Conforms as Small-as-Conforms
use Rattle.small_meaning.proofs.Unique.{small_unique}
use Rattle.lut_view_meaning.specs.Standard.{ShowsColours, ShowsClut}
use Rattle.lut_view_meaning.specs.View.{numbers_of, table_by, entry_of}
use Rattle.lut_view_meaning.specs.declared.TableNumbers.{TableNumbers}
use Rattle.lut_view_meaning.proofs.Any.{invalid_absent}
use Rattle.lut_view_meaning.proofs.Conforms.{abm_colours, wide_colours, narrow_colours}
use Rattle.lut_view_meaning.proofs.Shows.{Shows as View-as-Shows, abm_shows, mft_shows}
use Rattle.text_meaning.specs.Standard.{ReadLocalized}
use Rattle.text_meaning.proofs.Conforms as Text
use Rattle.text_meaning.proofs.Unique.{unique as text-unique}
use Rattle.demands.specs.Readers.{Reader, lut, trc, string, small, Call, Result, Numbers, numbers, meaning, Library, Promised, answered}
use Rattle.demands.specs.Demands.{tag, element, ElementInside, reader, shown, Shows, Demand2}
use Rattle.demands.proofs.Evaluations.{evaluated_once, coloured, calls, row_of_one}

-- ---- one call, one answer: a result is determined by its numbers

pub unique : (r : Reader) (a : Numbers r) (x y : Result r) → numbers r x ≡ a → numbers r y ≡ a → x ≡ y
unique (lut walk) = lut-unique
unique (trc walk) = curve-unique
unique string = text-unique
unique (small s) = small_unique s

module _ (l : Library) (p : Promised l) where
  -- what the meaning of lookup tables says, the library returns
  lut_state : (walk : Walk) (c : Call) → (answered l (lut walk) c).state ≡ (meaning (lut walk) c).state
  lut_state walk c = ap (λ (a : Lut-as-Answer). a.state) (p.answers (lut walk) c)

  -- ---- lookup tables

  module _ (walk : Walk) (c : Call) (b : Bytes c.profile) (f : Abm) (h : (answered l (lut walk) c).state ≡ abm f) (few : 1 ≤ f.size → f.inputs ≤ 16) where
    abm_written : ElementInside c × PartsAs (element c) (answered l (lut walk) c)
    abm_written =
        let w = profile_parts c.entries c.points c.profile b c.entry c.size walk (length c.slots) f (sym (lut_state walk c) ∙ h) few in
        (w.0, subst (PartsAs (element c)) (sym (p.answers (lut walk) c)) w.1)

    curves_written : PassesBy walk (l.leaves (lut walk) c) f.a f.m f.b → TagAs walk c.entries (element c) (answered l (lut walk) c) c.slots (l.leaves (lut walk) c)
    curves_written pass =
        let w = profile_written c.entries c.points c.profile b c.entry c.size walk (length c.slots) f (sym (lut_state walk c) ∙ h) few c.slots (l.leaves (lut walk) c) refl (sym (p.leaves_so (lut walk) c)) pass in
        subst (λ (a : Lut-as-Answer). TagAs walk c.entries (element c) a c.slots (l.leaves (lut walk) c)) (sym (p.answers (lut walk) c)) w.1

  mft_written : (walk : Walk) (c : Call) → Bytes c.profile → (f : Fields) → (answered l (lut walk) c).state ≡ mft f → let matrix : List ℕ = (answered l (lut walk) c).matrix in ElementInside c × (Begins8 c.points (element c) f matrix ⊎ Begins16 c.points (element c) f matrix)
  mft_written walk c b f h =
      let e = p.answers (lut walk) c in
      let w = profile_written_mft c.entries c.points c.profile b c.entry c.size walk (length c.slots) f (sym (lut_state walk c) ∙ h) in
      (w.0, rw (← e) at w.1)

  -- ---- the view

  shows : (t : List ℕ) (n : TableNumbers) (table : Table) (bytes : ℕ) → View-as-Shows t n table bytes → Shows l t n table bytes
  shows t n table bytes h index channel valid =
      (p.reads_so t n index channel ∙ h.entry_is index channel valid.0 valid.1, h.entry_in_table index channel valid.0 valid.1)

  abm_shown : (walk : Walk) (c : Call) (f : Abm) → c.size < 2 ^ 32 → (answered l (lut walk) c).state ≡ abm f → 1 ≤ f.size → Shows l (tag c) (numbers_of (abm f)) (Abm·toldTable (answered l (lut walk) c).grid f) f.bytes
  abm_shown walk c f low h sized =
      subst (λ (g : List ℕ). Shows l (tag c) (numbers_of (abm f)) (Abm·toldTable g f) f.bytes) (ap (λ (a : Lut-as-Answer). a.grid) (sym (p.answers (lut walk) c)))
      (shows _ _ _ _ (abm_shows walk c.entries c.points c.profile c.entry c.size (length c.slots) low f (sym (lut_state walk c) ∙ h) sized))

  mft_shown : (walk : Walk) (c : Call) (f : Fields) → c.size < 2 ^ 32 → (answered l (lut walk) c).state ≡ mft f → Shows l (tag c) (numbers_of (mft f)) (Mft·toldTable f) f.clut_bytes
  mft_shown walk c f low h =
      shows _ _ _ _ (mft_shows walk c.entries c.points c.profile c.entry c.size (length c.slots) low f (sym (lut_state walk c) ∙ h))

  -- its colours
  shows_colours : (c : Call) (state : State) (grid : List ℕ) (outputs : ℕ) (ns : List ℕ) → ShowsColours (λ point channel. entry_of (element c) (table_by (element c) (numbers_of state)) point channel) grid outputs ns → ShowsColours (shown l c state) grid outputs ns
  shows_colours c state grid outputs ns h colour k point channel i low = p.reads_so (element c) (numbers_of state) point channel ∙ h colour k point channel i low

  shows_clut : (c : Call) (state : State) {offset i o : ℕ} (x : ClutAt (element c) offset i o) → ShowsClut (λ point channel. entry_of (element c) (table_by (element c) (numbers_of state)) point channel) x → ShowsClut (shown l c state) x
  unfolding ShowsClut
  shows_clut c state (no_clut e) h = λ point channel. p.reads_so (element c) (numbers_of state) point channel ∙ h point channel
  shows_clut c state {o = o} (the_clut n x s z) h = shows_colours c state x.grid o (numbers_in x.entries) h

  -- ---- the small readers

  abbrev of_tag : Call → List ℕ → ℕ → ℕ → Call
  of_tag c q entry size = record { profile = q; entry = entry; size = size; entries = c.entries; points = c.points; slots = c.slots }

  small_read : {A : Type 0} (s : Small) (write : ℕ → A → List ℕ) (tells : A → List ℕ) (Fit : A → Type 0) → WrittenRead (small_of s) write tells Fit → (c : Call) → WrittenRead (reader l c s) write tells Fit
  small_read s write tells Fit h c q entry size reserved x rest f i e = p.answers (small s) (of_tag c q entry size) ∙ h q entry size reserved x rest f i e

  small_written : {A : Type 0} (s : Small) (write : ℕ → A → List ℕ) (tells : A → List ℕ) (Asked : List ℕ → ℕ → ℕ → Type 0) → ReadWritten (small_of s) write tells Asked → (c : Call) → ReadWritten (reader l c s) write tells Asked
  small_written s write tells Asked h c q entry size ws b a v = h q entry size ws b a (sym (p.answers (small s) (of_tag c q entry size)) ∙ v)

  pub demand2 : Demand2 l
  demand2 =
      record {
        promised = p;
        once = λ r c x h. unique r (meaning r c) x (l.returns r c) h (p.answers r c);
        curve_read = λ walk c x rest f e. p.answers (trc walk) c ∙ lone_read walk c.entries c.profile c.entry c.size x rest f e;
        curve_written = λ walk c b ws consumed h. lone_written walk c.entries c.profile b c.entry c.size ws consumed (sym (p.answers (trc walk) c) ∙ h);
        abm_read =
            λ walk c x i long f k room.
            let read = profile_read c.entries c.points c.profile c.entry c.size (length c.slots) i long walk x.parts f x.curves k room in
            let leaves = profile_slots c.entries c.points c.profile c.entry c.size (length c.slots) i long walk x.parts f x.curves k room c.slots refl in
            (p.answers (lut walk) c ∙ read, p.leaves_so (lut walk) c ∙ leaves);
        abm_written = abm_written;
        curves_written = curves_written;
        abm_counts = λ walk c f h. profile_counts c.entries c.points c.profile c.entry c.size walk (length c.slots) f (sym (lut_state walk c) ∙ h);
        wide_read = λ walk c reserved reserved2 n m x rest i long f en em z e. p.answers (lut walk) c ∙ profile_read16 c.entries c.points c.profile c.entry c.size (length c.slots) i long walk reserved reserved2 n m x rest f en em z e;
        narrow_read = λ walk c reserved reserved2 x rest i long f z e. p.answers (lut walk) c ∙ profile_read8 c.entries c.points c.profile c.entry c.size (length c.slots) i long walk reserved reserved2 x rest f z e;
        mft_written = mft_written;
        text_read = λ c reserved cs h i e. p.answers string c ∙ Text.text_read c.profile c.entry c.size i (length c.slots) reserved cs h e;
        text_written = λ c b s e. Text.text_written c.profile b c.entry c.size (length c.slots) s (sym (p.answers string c) ∙ e);
        desc_read = λ c reserved d rest h i e. p.answers string c ∙ Text.desc_read c.profile c.entry c.size i (length c.slots) reserved d rest h e;
        desc_written = λ c b s u e. Text.desc_written c.profile b c.entry c.size (length c.slots) s u (sym (p.answers string c) ∙ e);
        mluc_read =
            λ c t h i room.
            (p.answers string c ∙ Text.mluc_read c.profile c.entry c.size i (length c.slots) t h room, p.leaves_so string c ∙ Text.mluc_slots c.profile c.entry c.size i c.slots t h room);
        mluc_written =
            λ c b n e.
            subst (ReadLocalized c.profile c.entry c.size n c.slots) (sym (p.leaves_so string c)) (Text.mluc_written c.profile b c.entry c.size c.slots n (sym (p.answers string c) ∙ e));
        chad_read = λ c reserved ns n f i e. p.answers (small chad) c ∙ Small-as-Conforms.chad_read c.profile c.entry c.size reserved ns n f i e;
        chad_written = λ c ws b v. Small-as-Conforms.chad_written c.profile c.entry c.size ws b (sym (p.answers (small chad) c) ∙ v);
        sig_read = small_read sig signature_type signature_told _ Small-as-Conforms.sig_read;
        sig_written = small_written sig signature_type signature_told _ Small-as-Conforms.sig_written;
        date_read = λ c reserved x y rest i e f. p.answers (small date) c ∙ Small-as-Conforms.date_read c.profile c.entry c.size reserved x y rest i e f;
        date_written = λ c ws b v. Small-as-Conforms.date_written c.profile c.entry c.size ws b (sym (p.answers (small date) c) ∙ v);
        meas_read = small_read meas measurement_type measurement_told _ Small-as-Conforms.meas_read;
        meas_written = small_written meas measurement_type measurement_told _ Small-as-Conforms.meas_written;
        view_read = small_read view viewing_conditions_type view_told _ Small-as-Conforms.view_read;
        view_written = small_written view viewing_conditions_type view_told _ Small-as-Conforms.view_written;
        xyz_read = small_read xyz some_xyz_type first_told _ Small-as-Conforms.xyz_read;
        xyz_written = small_written xyz some_xyz_type first_told _ Small-as-Conforms.xyz_written;
        cicp_read = small_read cicp cicp_type cicp_told _ Small-as-Conforms.cicp_read;
        cicp_written = small_written cicp cicp_type cicp_told _ Small-as-Conforms.cicp_written;
        abm_shown = abm_shown;
        mft_shown = mft_shown;
        abm_in_order = λ walk c x low long f e. shows_clut c (answer_told x).state x.clut (abm_colours walk c.entries c.points c.profile c.entry c.size (length c.slots) low long x f (sym (p.answers (lut walk) c) ∙ e));
        wide_in_order = λ walk c reserved reserved2 n m x rest low long z fits e h. shows_colours c (mft (fields_told16 n m x)) _ _ _ (wide_colours walk c.entries c.points c.profile c.entry c.size (length c.slots) low long reserved reserved2 n m x rest z fits e (sym (lut_state walk c) ∙ h));
        narrow_in_order = λ walk c reserved reserved2 x rest low long z e h. shows_colours c (mft (fields_told8 x)) _ _ _ (narrow_colours walk c.entries c.points c.profile c.entry c.size (length c.slots) low long reserved reserved2 x rest z e (sym (lut_state walk c) ∙ h));
        not_shown = λ t n index channel h. p.reads_so t n index channel ∙ invalid_absent t (table_by t n) index channel h;
        evaluated_once = evaluated_once l p;
        pixel_coloured = coloured l p;
        row_is_calls = calls l p;
        row_of_one = row_of_one l p;
      }
