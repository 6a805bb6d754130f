-- Conformance of the small readers to their types, both ways: a tag that begins with what the standard writes, with any reserved bytes and
-- anything behind it, is answered with what was written; and what is answered is what the standard writes of it. What keeps them apart is
-- asked by name: the date at the front of the profile, a measurement that its tag holds, and for `view` an end in the profile.
-- Assumes nothing.
use Prim.Native.Nat.{ℕ, ◌+◌, ◌-◌, ◌*◌, ◌/◌, ◌≤◌}
use native.Mathlib.Omega.{arith}
use mathlib.Core.Path.{◌≡◌, refl, sym, ap, ◌∙◌}
use mathlib.Core.List.{List, [], ◌∷◌, ◌++◌, append-nil}
use lib.ListN.{length, get_or, take, drop, drop_of_length-le, length-append, length-take, length-drop, take-append-drop}
use lib.Seq.{take-take, length-take-le}
use borrow.Author.Tests.{le-ltb, eq-eqb}
use Rattle.icc.specs.Numbers.{be32, each32, Is32, Each32, Bytes}
use Rattle.icc.specs.Small.{XYZNumber, DateTime, date_time_number, Measurement, ViewingConditions, Cicp, s15_fixed16_array_type, signature_type, date_time_type, measurement_type, viewing_conditions_type, each_xyz, xyz_type, cicp_type}
use Rattle.fields.proofs.Written.{read32, length32, words_drop, words_written, bytes_drop, part_bytes, then8, then16, then32, row32}
use Rattle.std.specs.Prelude.{Some, Ok}
use Rattle.fields.specs.Bytes.{u16_at, u32_at, bytes_at, words_at}
use Rattle.fields.specs.Place.{tag_at}
use Rattle.fields.specs.Tag.{signature_of}
use Rattle.fields.specs.declared.Kind.{Kind}
use Rattle.fields.specs.declared.Kind.TheVariants.{Xyz, Meas, View, Cicp as KindCicp, Sig, Dtim}
use Rattle.fields.proofs.Append.{u32_append}
use Rattle.fields.proofs.Words.{words_length}
use Rattle.small_meaning.specs.Answer.{Answer, value, default, absent, refused, chad_in_numbers, sig_in_numbers, cicp_in_numbers, xyz_in_numbers, meas_in_numbers, view_in_numbers}
use Rattle.small_meaning.specs.Layout.{nine_numbers, signature_in, date_bytes, measurement, conditions, first_xyz, code_points}
use Rattle.small_meaning.specs.Order.{found_of, answer_to}
use Rattle.small_meaning.specs.Small.{chad_matrix_of, chad_of, sig_of, date_of, window_of, meas_of, view_of, triple_of, xyz_of, cicp_of}
use Rattle.small_meaning.specs.Standard.{signature_told, SomeXyz, some_xyz_type, first_told, measurement_told, view_told, cicp_told, WrittenRead, ReadWritten, BeginsNine, BeginsDate}
use Rattle.small_meaning.specs.declared.XyzNumber.{XyzNumber}
use Rattle.small_meaning.proofs.Laid.{fields_are, Nine, chad_behind, window_behind, triple_behind}
use Rattle.small_meaning.proofs.Order.{Silent, met, reaches, no_absence, no_default, no_refusal}

-- bytes 4 to 7
abbrev four_at : List ℕ → ℕ
four_at t = u32_at t 4

-- ---- a reader that answers by the bytes of its tag

-- what the tag's bytes are, if it answers so
record Says (signature least : ℕ) (says : List ℕ → Answer) (t ws : List ℕ) : Type 0 where
  typed : u32_at t 0 ≡ signature
  long : least ≤ length t
  given : says t ≡ value ws

module _ {A : Type 0} (kind : Kind) (least : ℕ) (short other : Answer) (says : List ℕ → Answer) (element : ℕ → A → List ℕ) (told : A → List ℕ) where
  abbrev reader : List ℕ → ℕ → ℕ → Answer
  reader p entry size = answer_to (found_of least size (signature_of kind) p entry size) short other (says (tag_at p entry size))

  plain_read : (Fits : A → Type 0) → ((reserved : ℕ) (x : A) (rest : List ℕ) → Fits x → Says (signature_of kind) least says (element reserved x ++ rest) (told x)) → WrittenRead reader element told Fits
  plain_read Fits good p entry size reserved x rest f i e =
      let g = good reserved x rest f in
      let l : least ≤ size = omega (arith, ap length e, g.long, length-take size (drop entry p)) in
      reaches least size (signature_of kind) p entry size short other (says (tag_at p entry size)) l i (ap (λ (t : List ℕ). u32_at t 0) e ∙ g.typed) ∙ ap says e ∙ g.given

  plain_written : Silent short → Silent other → (said : List ℕ → A) (rest : List ℕ → List ℕ) → ((t ws : List ℕ) → Bytes t → Says (signature_of kind) least says t ws → (ws ≡ told (said t)) × (t ≡ element (four_at t) (said t) ++ rest t)) → ReadWritten reader element told (λ p entry size. Unit)
  plain_written s o said rest back p entry size ws b _ v =
      let m = met least size (signature_of kind) p entry size short other (says (tag_at p entry size)) ws s o v in
      let t : List ℕ = take size (drop entry p) in
      let l : least ≤ length t = omega (arith, m.long, m.fits, length-take size (drop entry p), length-drop entry p) in
      let r = back t ws (part_bytes p b entry size) record { typed = m.typed; long = l; given = m.says } in
      record { inside = m.fits; reserved = four_at t; said = said t; rest = rest t; answer_is = r.0; is = r.1 }

-- ---- `sig `

pub sig_read : WrittenRead sig_of signature_type signature_told Is32
unfolding signature_type signature_of signature_in
sig_read = plain_read Sig 12 (refused 2) absent (λ t. value (signature_in t)) signature_type signature_told Is32
    (λ reserved x rest f. record { typed = refl; long = omega arith; given = ap (λ (z : ℕ). value (z ∷ [])) (read32 x f) })

pub sig_written : ReadWritten sig_of signature_type signature_told (λ p entry size. Unit)
unfolding signature_type signature_of signature_in
sig_written = plain_written Sig 12 (refused 2) absent (λ t. value (signature_in t)) signature_type signature_told (no_refusal 2) no_absence (λ t. u32_at t 8) (λ t. drop 12 t)
    (λ t ws b h. let l = h.long in (sym (fields_are h.given), then32 t b 0 (omega arith) h.typed (then32 t b 4 (omega arith) refl (then32 t b 8 (omega arith) refl refl))))

-- ---- `cicp`

abbrev Any : {A : Type 0} → A → Type 0
Any x = Unit

pub cicp_read : WrittenRead cicp_of cicp_type cicp_told Any
unfolding cicp_type signature_of code_points bytes_at
cicp_read = plain_read KindCicp 12 absent absent (λ t. value (code_points t)) cicp_type cicp_told Any
    (λ reserved x rest f. record { typed = refl; long = omega arith; given = refl })

abbrev cicp_at : List ℕ → Cicp
cicp_at t = record { primaries = get_or t 8 0; transfer = get_or t 9 0; matrix = get_or t 10 0; range = get_or t 11 0 }

pub cicp_written : ReadWritten cicp_of cicp_type cicp_told (λ p entry size. Unit)
unfolding cicp_type signature_of code_points bytes_at
cicp_written = plain_written KindCicp 12 absent absent (λ t. value (code_points t)) cicp_type cicp_told no_absence no_absence cicp_at (λ t. drop 12 t)
    (λ t ws b h.
    let l = h.long in
    (sym (fields_are h.given), then32 t b 0 (omega arith) h.typed (then32 t b 4 (omega arith) refl (then8 t 8 (omega arith) refl (then8 t 9 (omega arith) refl (then8 t 10 (omega arith) refl (then8 t 11 (omega arith) refl refl)))))))

-- ---- the readers of 32-bit numbers from byte 8 on

-- a row of them behind a signature and four reserved bytes
row_given : (signature reserved : ℕ) (ns rest : List ℕ) → Each32 ns → words_at (be32 signature ++ be32 reserved ++ each32 ns ++ rest) 8 (length ns) ≡ ns
row_given signature reserved ns rest h = sym (words_drop (be32 signature ++ be32 reserved ++ each32 ns ++ rest) 8 0 (length ns)) ∙ words_written ns rest h

row_is : (t : List ℕ) → Bytes t → (signature n : ℕ) → 8 + 4 * n ≤ length t → u32_at t 0 ≡ signature → t ≡ be32 signature ++ (be32 (four_at t) ++ (each32 (words_at t 8 n) ++ drop (8 + 4 * n) t))
row_is t b signature n l e = then32 t b 0 (omega arith) e (then32 t b 4 (omega arith) refl (row32 t b n 8 l refl refl))

-- `XYZ `
abbrev xyz_at : List ℕ → ℕ → XYZNumber
xyz_at t i = record { X = u32_at t i; Y = u32_at t (i + 4); Z = u32_at t (i + 8) }

triple_whole : (t : List ℕ) → 20 ≤ length t → triple_of t ≡ value (first_xyz t)
unfolding triple_of
triple_whole t l = rw (le-ltb (length t) 20 l)

pub xyz_read : WrittenRead xyz_of some_xyz_type first_told (λ x. Each32 (first_told x))
unfolding xyz_type each_xyz signature_of first_xyz each32
xyz_read = plain_read Xyz 12 default default triple_of some_xyz_type first_told (λ x. Each32 (first_told x))
    (λ reserved x rest f.
    let l : 20 ≤ length (some_xyz_type reserved x ++ rest) = omega arith in
    record { typed = refl; long = omega arith; given = triple_whole (some_xyz_type reserved x ++ rest) l ∙ ap value (row_given 0x58595A20 reserved (first_told x) (each_xyz x.others ++ rest) f) })

pub xyz_written : ReadWritten xyz_of some_xyz_type first_told (λ p entry size. Unit)
unfolding xyz_type each_xyz signature_of first_xyz each32 words_at
xyz_written = plain_written Xyz 12 default default triple_of some_xyz_type first_told no_default no_default (λ t. record { first = xyz_at t 8; others = [] }) (λ t. drop 20 t)
    (λ t ws b h. let k = triple_behind t ws h.given in (sym k.1, row_is t b _ 3 k.0 h.typed))

-- `meas`
abbrev measurement_at : List ℕ → Measurement
measurement_at t = record { observer = u32_at t 8; backing = xyz_at t 12; geometry = u32_at t 24; flare = u32_at t 28; illuminant = u32_at t 32 }

-- the first 36 bytes of a tag
front : (p : List ℕ) (entry size : ℕ) → 36 ≤ size → take 36 (drop entry p) ≡ take 36 (take size (drop entry p))
front p entry size l = sym (take-take 36 size (drop entry p) l)

-- a tag that begins with 36 such bytes has them all
long_enough : (p : List ℕ) (entry size : ℕ) (bytes rest : List ℕ) → length bytes ≡ 36 → take size (drop entry p) ≡ bytes ++ rest → 36 ≤ size
long_enough p entry size bytes rest n e = omega (arith, ap length e, length-append bytes rest, length-take size (drop entry p))

pub meas_read : WrittenRead meas_of measurement_type measurement_told (λ m. Each32 (measurement_told m))
unfolding measurement_type signature_of measurement each32 window_of
meas_read p entry size reserved x rest f i e =
    let l : 36 ≤ size = long_enough p entry size (measurement_type reserved x) rest refl e in
    let w : take 36 (drop entry p) ≡ measurement_type reserved x = front p entry size l ∙ ap (take 36) e in
    let g : measurement (take 36 (drop entry p)) ≡ measurement_told x = ap measurement w ∙ row_given 0x6D656173 reserved (measurement_told x) [] f in
    let m : entry + 36 ≤ length p = omega arith in
    let s : 12 ≤ size = omega arith in
    reaches 12 size (signature_of Meas) p entry size absent absent (window_of p entry) s i (ap (λ (t : List ℕ). u32_at t 0) e) ∙ simp (le-ltb (length p) (entry + 36) m) (ap value g)

-- `view`
abbrev view_at : List ℕ → ViewingConditions
view_at t = record { illuminant = xyz_at t 8; surround = xyz_at t 20; type = u32_at t 32 }

pub view_read : WrittenRead view_of viewing_conditions_type view_told (λ v. Each32 (view_told v))
unfolding viewing_conditions_type signature_of conditions each32
view_read p entry size reserved x rest f i e =
    let l : 36 ≤ size = long_enough p entry size (viewing_conditions_type reserved x) rest refl e in
    let w : take 36 (drop entry p) ≡ viewing_conditions_type reserved x = front p entry size l ∙ ap (take 36) e in
    let g : conditions (take 36 (drop entry p)) ≡ view_told x = ap conditions w ∙ row_given 0x76696577 reserved (view_told x) [] f in
    let m : entry + 36 ≤ length p = omega arith in
    reaches 36 36 (signature_of View) p entry size absent absent (value (conditions (take 36 (drop entry p)))) l m (ap (λ (t : List ℕ). u32_at t 0) w) ∙ ap value g

-- a tag of 36 bytes and more, by its first 36
module _ (p : List ℕ) (b : Bytes p) (entry size signature : ℕ) (l : 36 ≤ size) (m : entry + 36 ≤ length p) where
  abbrev first36 : List ℕ
  first36 = take 36 (drop entry p)

  abbrev whole_tag : List ℕ
  whole_tag = take size (drop entry p)

  parts : whole_tag ≡ first36 ++ drop 36 whole_tag
  parts = sym (take-append-drop 36 whole_tag) ∙ ap (λ (z : List ℕ). z ++ drop 36 whole_tag) (sym (front p entry size l))

  first_length : length first36 ≡ 36
  first_length = length-take-le 36 (drop entry p) (omega (arith, length-drop entry p))

  same_type : u32_at whole_tag 0 ≡ u32_at first36 0
  same_type = ap (λ (z : List ℕ). u32_at z 0) parts ∙ u32_append first36 (drop 36 whole_tag) 0 (omega (arith, first_length))

  first_is : u32_at first36 0 ≡ signature → whole_tag ≡ be32 signature ++ be32 (four_at first36) ++ each32 (words_at first36 8 7) ++ drop 36 whole_tag
  first_is e =
      let none : drop 36 first36 ≡ [] = drop_of_length-le first36 {i = 36} (omega (arith, first_length)) in
      let r = row_is first36 (part_bytes p b entry 36) signature 7 (omega (arith, first_length)) e in
      parts ∙ ap (λ (z : List ℕ). z ++ drop 36 whole_tag) (r ∙ ap (λ (z : List ℕ). be32 signature ++ (be32 (four_at first36) ++ (each32 (words_at first36 8 7) ++ z))) none) ∙ simp append-nil

pub meas_written : ReadWritten meas_of measurement_type measurement_told (λ p entry size. 36 ≤ size)
unfolding measurement_type signature_of measurement each32 words_at
meas_written p entry size ws b l v =
    let m = met 12 size (signature_of Meas) p entry size absent absent (window_of p entry) ws no_absence no_absence v in
    let w = window_behind p entry ws m.says in
    let t : List ℕ = take 36 (drop entry p) in
    record {
      inside = m.fits;
      reserved = four_at t;
      said = measurement_at t;
      rest = drop 36 (take size (drop entry p));
      answer_is = sym w.1;
      is = first_is p b entry size 0x6D656173 l w.0 (sym (same_type p b entry size 0x6D656173 l w.0) ∙ m.typed);
    }

pub view_written : ReadWritten view_of viewing_conditions_type view_told (λ p entry size. entry + size ≤ length p)
unfolding viewing_conditions_type signature_of conditions each32 words_at
view_written p entry size ws b i v =
    let t : List ℕ = take 36 (drop entry p) in
    let m = met 36 36 (signature_of View) p entry size absent absent (value (conditions t)) ws no_absence no_absence v in
    record {
      inside = i;
      reserved = four_at t;
      said = view_at t;
      rest = drop 36 (take size (drop entry p));
      answer_is = sym (fields_are m.says);
      is = first_is p b entry size 0x76696577 m.long m.fits m.typed;
    }

-- ---- `chad`

nine_laid : (reserved : ℕ) (ns : List ℕ) → length ns ≡ 9 → Each32 ns → Nine (s15_fixed16_array_type reserved ns) ns
unfolding s15_fixed16_array_type signature_of nine_numbers
nine_laid reserved ns n h =
    let g = row_given 0x73663332 reserved ns [] h in
    record { signature = refl; filled = omega (arith, length32 ns); given = rw (n, append-nil) at g }

pub chad_read : (p : List ℕ) (entry size reserved : ℕ) (ns : List ℕ) → length ns ≡ 9 → Each32 ns → entry + size ≤ length p → take size (drop entry p) ≡ s15_fixed16_array_type reserved ns → chad_of p entry size ≡ value ns
unfolding chad_of chad_matrix_of
chad_read p entry size reserved ns n h i e =
    let w = nine_laid reserved ns n h in
    let k : size ≡ 44 = omega (arith, ap length e, w.filled, length-take size (drop entry p), length-drop entry p) in
    let m : entry + 8 ≤ length p = omega arith in
    let l : 8 ≤ size = omega arith in
    let q : (size - 8) / 4 ≡ 9 = omega arith in
    simp (le-ltb _ _ i, le-ltb _ _ m, le-ltb _ _ l, eq-eqb _ _ q, e, eq-eqb _ _ w.signature, eq-eqb _ _ w.filled) (ap value w.given)

pub chad_written : (p : List ℕ) (entry size : ℕ) (ws : List ℕ) → Bytes p → chad_of p entry size ≡ value ws → BeginsNine p entry size ws
unfolding s15_fixed16_array_type signature_of nine_numbers
chad_written p entry size ws b v =
    let w = chad_behind p entry size ws v in
    let t : List ℕ = take size (drop entry p) in
    let h = w.1 in
    let g : words_at t 8 9 ≡ ws = h.given in
    let none : drop 44 t ≡ [] = drop_of_length-le t {i = 44} (omega (arith, h.filled)) in
    let r = row_is t (part_bytes p b entry size) 0x73663332 9 (omega (arith, h.filled)) h.signature in
    record { inside = w.0; count_is = rw g at (words_length t 8 9); reserved = four_at t; is = rw (g, none, append-nil) at r }

-- ---- `dtim`

abbrev date_at : List ℕ → DateTime
date_at t = record { year = u16_at t 8; month = u16_at t 10; day = u16_at t 12; hours = u16_at t 14; minutes = u16_at t 16; seconds = u16_at t 18 }

date_there : (t : List ℕ) → Bytes t → 20 ≤ length t → drop 8 t ≡ date_time_number (date_at t) ++ drop 20 t
date_there t b l =
    then16 t b 8 (omega arith) refl (then16 t b 10 (omega arith) refl (then16 t b 12 (omega arith) refl (then16 t b 14 (omega arith) refl (then16 t b 16 (omega arith) refl (then16 t b 18 (omega arith) refl refl)))))

-- twelve bytes from byte 8 on, in the front of the profile
front_told : (p : List ℕ) (d : DateTime) → drop 8 (take 20 p) ≡ date_time_number d → date_bytes (take 20 p) ≡ date_time_number d
unfolding date_bytes bytes_at
front_told p d e = sym (bytes_drop (take 20 p) 8 0 12) ∙ ap (λ (s : List ℕ). bytes_at s 0 12) e

pub date_read : (p : List ℕ) (entry size reserved : ℕ) (in_tag in_front_lem : DateTime) (rest : List ℕ) → entry + size ≤ length p → take size (drop entry p) ≡ date_time_type reserved in_tag ++ rest → drop 8 (take 20 p) ≡ date_time_number in_front_lem → date_of p entry size ≡ value (date_time_number in_front_lem)
unfolding date_time_type signature_of
date_read p entry size reserved in_tag in_front_lem rest i e f =
    let l : 20 ≤ size = omega (arith, ap length e, length-take size (drop entry p)) in
    reaches 20 size (signature_of Dtim) p entry size absent absent (value (date_bytes (take 20 p))) l i (ap (λ (t : List ℕ). u32_at t 0) e) ∙ ap value (front_told p in_front_lem f)

-- a tag at the front of the profile is answered with its own date
pub date_read_first : (p : List ℕ) (size reserved : ℕ) (d : DateTime) (rest : List ℕ) → size ≤ length p → take size p ≡ date_time_type reserved d ++ rest → date_of p 0 size ≡ value (date_time_number d)
unfolding date_time_type
date_read_first p size reserved d rest i e =
    let l : 20 ≤ size = omega (arith, ap length e, length-take size p) in
    let f : take 20 p ≡ take 20 (take size p) = sym (take-take 20 size p l) in
    date_read p 0 size reserved d d rest (omega arith) e (ap (drop 8) (f ∙ ap (take 20) e))

pub date_written : (p : List ℕ) (entry size : ℕ) (ws : List ℕ) → Bytes p → date_of p entry size ≡ value ws → BeginsDate p entry size ws
unfolding date_time_type signature_of
date_written p entry size ws b v =
    let m = met 20 size (signature_of Dtim) p entry size absent absent (value (date_bytes (take 20 p))) ws no_absence no_absence v in
    let t : List ℕ = take size (drop entry p) in
    let l : 20 ≤ length t = omega (arith, m.fits, m.long, length-take size (drop entry p), length-drop entry p) in
    let c = part_bytes p b entry size in
    let n : length (take 20 p) ≡ 20 = omega (arith, m.fits, m.long, length-take 20 p) in
    let none : drop 20 (take 20 p) ≡ [] = drop_of_length-le (take 20 p) {i = 20} (omega (arith, n)) in
    let front : drop 8 (take 20 p) ≡ date_time_number (date_at (take 20 p)) = date_there (take 20 p) (part_bytes p b 0 20) (omega (arith, n)) ∙ ap (λ (z : List ℕ). date_time_number (date_at (take 20 p)) ++ z) none in
    record {
      inside = m.fits;
      reserved = four_at t;
      in_tag = date_at t;
      rest = drop 20 t;
      is = then32 t c 0 (omega arith) m.typed (then32 t c 4 (omega arith) refl (date_there t c l));
      in_front_lem = date_at (take 20 p);
      front_is = front;
      answer_is = sym (fields_are m.says) ∙ front_told p (date_at (take 20 p)) front;
    }

-- ---- the numbers of an answer stand under the standard's names in what the code answers

pub chad_named : (e1 e2 e3 e4 e5 e6 e7 e8 e9 : ℕ) → chad_in_numbers (Ok (Some record { e00 = e1; e01 = e2; e02 = e3; e10 = e4; e11 = e5; e12 = e6; e20 = e7; e21 = e8; e22 = e9 })) ≡ value (e1 ∷ e2 ∷ e3 ∷ e4 ∷ e5 ∷ e6 ∷ e7 ∷ e8 ∷ e9 ∷ [])
chad_named e1 e2 e3 e4 e5 e6 e7 e8 e9 = refl

pub sig_named : (n : ℕ) → sig_in_numbers (Ok (Some n)) ≡ value (signature_told n)
sig_named n = refl

pub cicp_named : (c : Cicp) → cicp_in_numbers (Ok (Some record { primaries = c.primaries; transfer = c.transfer; matrix = c.matrix; range = c.range })) ≡ value (cicp_told c)
cicp_named c = refl

abbrev named : XYZNumber → XyzNumber
named n = record { x = n.X; y = n.Y; z = n.Z }

pub xyz_named : (x : SomeXyz) → xyz_in_numbers (Ok (Some (named x.first))) ≡ value (first_told x)
xyz_named x = refl

pub meas_named : (m : Measurement) → meas_in_numbers (Ok (Some record { observer = m.observer; backing = named m.backing; geometry = m.geometry; flare = m.flare; illuminant = m.illuminant })) ≡ value (measurement_told m)
meas_named m = refl

pub view_named : (v : ViewingConditions) → view_in_numbers (Ok (Some record { illuminant = named v.illuminant; surround = named v.surround; number = v.type })) ≡ value (view_told v)
view_named v = refl
