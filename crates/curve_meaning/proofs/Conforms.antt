-- Conformance to curveType and parametricCurveType, both ways: a curve that the standard writes, with any reserved bytes and anything behind it,
-- is seen as what was written; and a curve that is seen is what the standard writes of its fields.
-- Assumes nothing.
use Prim.Native.Nat.{ℕ, zero, suc, ◌+◌, ◌≤◌}
use native.Mathlib.Omega.{arith}
use mathlib.Core.Path.{◌≡◌, refl, sym, ap, ◌∙◌}
use mathlib.Core.Bool.{true, false, and-false, false≢true}
use mathlib.Core.List.{List, [], ◌∷◌, ◌++◌}
use lib.Dec.{eqb}
use lib.ListN.{length, get_or, take, drop, length-append, length-take, length-drop}
use borrow.Author.Tests.{le-ltb, ne_eqb}
use Rattle.fields.specs.Checked.{good}
use Rattle.icc.specs.Curves.{Curve, sampled, parametric, curve_element, curve_type, Function, type0, type1, type2, type3, type4, encoded, parameters, Defined, parametric_curve_type}
use Rattle.icc.specs.Numbers.{each16, each32, Is32, Each32, Bytes}
use Rattle.fields.proofs.Written.{read16, read32, length16, length32, words_drop, words_written, below32, words_below, rest_bytes, part_bytes, then16, then32, row16, row32, halves_at, halves_length}
use Rattle.fields.specs.Bytes.{u16_at, u32_at, words_at}
use Rattle.fields.specs.House.{tag_size}
use Rattle.fields.specs.Tag.{signature_of}
use Rattle.curve_meaning.specs.Answer.{value, answer_of}
use Rattle.curve_meaning.specs.Curve.{trc_of, curve_of, divides}
use Rattle.curve_meaning.specs.Layout.{parameter_count, entries_end, parameters_end}
use Rattle.curve_meaning.specs.Shape.{Shape, empty, table, para, size_of, step_of, words_of}
use Rattle.curve_meaning.specs.Standard.{shape_of, CurveFits, BeginsCurve, record_told, step_told, Tag, Lone}
use Rattle.curve_meaning.specs.declared.Walk.{Walk}
use Rattle.curve_meaning.specs.declared.Walk.TheVariants.{Crate, Book}
use Rattle.curve_meaning.proofs.Laid.{CurveType, ParametricCurveType, Laid, Within, accepted, laid}
use Rattle.curve_meaning.proofs.Inside.{book_step, size_least, Accepted, accepted_inside}

-- the five functions: each has a type, and as many parameters as the type says
known : (f : Function) → encoded f ≤ 4
unfolding encoded
known (type0 g) = omega arith
known (type1 g a b) = omega arith
known (type2 g a b c) = omega arith
known (type3 g a b c d) = omega arith
known (type4 g a b c d e f) = omega arith

counted : (f : Function) → parameter_count (encoded f) ≡ length (parameters f)
unfolding encoded parameters parameter_count
counted (type0 g) = refl
counted (type1 g a b) = refl
counted (type2 g a b c) = refl
counted (type3 g a b c d) = refl
counted (type4 g a b c d e f) = refl

-- where the reader takes a function for one that divides, the standard does
steep : (f : Function) → Defined f → divides (encoded f) ≡ true → get_or (parameters f) 1 0 ≡ 0 → ⊥
unfolding encoded parameters Defined divides
steep (type0 g) d e = absurd (false≢true e)
steep (type1 g a b) d e = d
steep (type2 g a b c) d e = d
steep (type3 g a b c d) u e = absurd (false≢true e)
steep (type4 g a b c d e f) u k = absurd (false≢true k)

-- ---- written, then read

module _ (reserved : ℕ) (rest : List ℕ) where
  curve_laid : (entries : List ℕ) → Is32 (length entries) → CurveType (curve_type reserved entries ++ rest) (length entries)
  unfolding curve_type signature_of
  curve_laid entries h =
      record { signature = refl; count = read32 (length entries) h; whole = omega (arith, length-append (each16 entries) rest, length16 entries) }

  function_laid : (reserved2 : ℕ) (f : Function) → Each32 (parameters f) → ParametricCurveType (parametric_curve_type reserved reserved2 f ++ rest) (encoded f) (parameters f)
  unfolding parametric_curve_type signature_of
  function_laid reserved2 f h =
      let t : List ℕ = parametric_curve_type reserved reserved2 f ++ rest in
      let type : u16_at t 8 ≡ encoded f = read16 (encoded f) (omega (arith, known f)) in
      record {
        signature = refl;
        function = type;
        known = known f;
        given = rw (type, counted f, ← words_drop t 12 0 (length (parameters f))) (words_written (parameters f) rest h);
        whole = omega (arith, counted f, length-append (each32 (parameters f)) rest, length32 (parameters f));
      }

-- a curve that the standard writes is seen as its shape
pub written_read : (limit : ℕ) (c : Curve) (rest : List ℕ) → CurveFits limit c → curve_of limit (curve_element c ++ rest) ≡ good (shape_of c)
unfolding curve_element shape_of CurveFits Laid Within
written_read limit (sampled reserved []) rest (h, l) = accepted limit _ empty (curve_laid reserved rest [] h) tt
written_read limit (sampled reserved (e ∷ es)) rest (h, l) =
    accepted limit _ (table (suc (length es))) (omega arith, curve_laid reserved rest (e ∷ es) h) l
written_read limit (parametric reserved reserved2 f) rest (h, d) =
    accepted limit _ (para (encoded f) (parameters f)) (function_laid reserved rest reserved2 f h) (steep f d)

-- and its size is that of what is written
pub written_size : (c : Curve) → size_of (shape_of c) ≡ length (curve_element c)
unfolding curve_element shape_of curve_type parametric_curve_type size_of each16
written_size (sampled reserved []) = refl
written_size (sampled reserved (e ∷ es)) = omega (arith, length16 es)
written_size (parametric reserved reserved2 f) = omega (arith, counted f, length32 (parameters f))

-- ---- read, then written

abbrev second : List ℕ → ℕ
second l = get_or l 1 0

module _ (limit : ℕ) (t : List ℕ) (b : Bytes t) where
  abbrev p : ℕ → ℕ
  p i = u32_at t i

  -- entries that stand there
  curve_at_lem : (s : Shape) (n : ℕ) → s ≡ shape_of (sampled (p 4) (halves_at t 12 n)) → CurveType t n → n ≤ limit → BeginsCurve limit t s
  unfolding curve_element curve_type signature_of CurveFits
  curve_at_lem s n e h m =
      let l = h.whole in
      let c = halves_length t 12 n in
      record {
        curve = sampled (p 4) (halves_at t 12 n);
        rest = drop (entries_end n) t;
        shape_is = e;
        fits = (omega (arith, c, h.count, below32 t b 8), omega (arith, c));
        is = then32 t b 0 (omega arith) h.signature (then32 t b 4 (omega arith) refl (then32 t b 8 (omega arith) (h.count ∙ sym c) (row16 t b n 12 l refl refl)));
      }

  -- a function whose type and parameters stand there
  function_at : (ps : List ℕ) (f : Function) → u16_at t 8 ≡ encoded f → words_at t 12 (length (parameters f)) ≡ parameters f → ParametricCurveType t (encoded f) ps → (ps ≡ parameters f → Defined f) → BeginsCurve limit t (para (encoded f) ps)
  unfolding curve_element shape_of parametric_curve_type signature_of CurveFits
  function_at ps f e w h d =
      let n : ℕ = length (parameters f) in
      let l : parameters_end n ≤ length t = omega (arith, h.whole, counted f) in
      let g : ps ≡ parameters f = sym h.given ∙ rw (e, counted f) w in
      record {
        curve = parametric (p 4) (u16_at t 10) f;
        rest = drop (parameters_end n) t;
        shape_is = ap (para (encoded f)) g;
        fits = (rw w at (words_below t b 12 n), d g);
        is = then32 t b 0 (omega arith) h.signature (then32 t b 4 (omega arith) refl (then16 t b 8 (omega arith) e (then16 t b 10 (omega arith) refl (row32 t b n 12 l w refl))));
      }

  function_is : (type : ℕ) (ps : List ℕ) → ParametricCurveType t type ps → (divides type ≡ true → second ps ≡ 0 → ⊥) → BeginsCurve limit t (para type ps)
  unfolding encoded parameters Defined divides words_at
  function_is zero ps h d = function_at ps (type0 (p 12)) h.function refl h (λ g. tt)
  function_is (suc zero) ps h d = function_at ps (type1 (p 12) (p 16) (p 20)) h.function refl h (λ g z. d refl (ap second g ∙ z))
  function_is (suc (suc zero)) ps h d = function_at ps (type2 (p 12) (p 16) (p 20) (p 24)) h.function refl h (λ g z. d refl (ap second g ∙ z))
  function_is (suc (suc (suc zero))) ps h d = function_at ps (type3 (p 12) (p 16) (p 20) (p 24) (p 28)) h.function refl h (λ g. tt)
  function_is (suc (suc (suc (suc zero)))) ps h d = function_at ps (type4 (p 12) (p 16) (p 20) (p 24) (p 28) (p 32) (p 36)) h.function refl h (λ g. tt)
  function_is (suc (suc (suc (suc (suc n))))) ps h d = absurd (omega (arith, h.known))

  -- a curve that is seen is what the standard writes
  pub read_written : (s : Shape) → curve_of limit t ≡ good s → BeginsCurve limit t s
  unfolding Laid Within shape_of halves_at
  read_written empty h = curve_at_lem empty 0 refl (laid limit t empty h).0 (omega arith)
  read_written (table zero) h = let w = laid limit t (table zero) h in absurd (omega (arith, w.0.0))
  read_written (table (suc n)) h =
      let w = laid limit t (table (suc n)) h in
      curve_at_lem (table (suc n)) (suc n) (ap (λ (k : ℕ). table (suc k)) (sym (halves_length t 14 n))) w.0.1 w.1
  read_written (para type ps) h = let w = laid limit t (para type ps) h in function_is type ps w.0 w.1

-- ---- the lone reader: a tag of the profile, and the words of its answer

pub told_words : (start : ℕ) (c : Curve) → words_of start (shape_of c) ≡ record_told start c
unfolding record_told words_of shape_of encoded parameters parameter_count
told_words start (sampled reserved []) = refl
told_words start (sampled reserved (e ∷ es)) = refl
told_words start (parametric reserved reserved2 (type0 g)) = refl
told_words start (parametric reserved reserved2 (type1 g a b)) = refl
told_words start (parametric reserved reserved2 (type2 g a b c)) = refl
told_words start (parametric reserved reserved2 (type3 g a b c d)) = refl
told_words start (parametric reserved reserved2 (type4 g a b c d e f)) = refl

-- and the step
pub told_step : (walk : Walk) (c : Curve) → step_of walk (shape_of c) ≡ step_told walk c
unfolding step_told step_of shape_of
told_step Book c = book_step (shape_of c) ∙ written_size c
told_step Crate (sampled reserved []) = refl
told_step Crate (sampled reserved (e ∷ es)) = written_size (sampled reserved (e ∷ es))
told_step Crate (parametric reserved reserved2 f) = written_size (parametric reserved reserved2 f)

-- a curve has its first 12 bytes
long : (c : Curve) (rest : List ℕ) → tag_size ≤ length (curve_element c ++ rest)
long c rest = omega (arith, length-append (curve_element c) rest, written_size c, size_least (shape_of c))

-- a size that is not 0
some : (n : ℕ) → eqb (suc n) 0 ≡ false
some n = ne_eqb (suc n) 0 (λ z. omega arith)

pub lone_read : (walk : Walk) (limit : ℕ) (profile : List ℕ) (entry size : ℕ) (c : Curve) (rest : List ℕ) → CurveFits limit c → Tag profile entry size (curve_element c ++ rest) → trc_of walk limit profile entry size ≡ value (record_told tag_size c) (step_told walk c)
unfolding trc_of answer_of Tag
lone_read walk limit profile entry zero c rest f e =
    let l : entry + tag_size ≤ length profile = omega (arith, ap length e, long c rest, length-drop entry profile) in
    let first : entry + 4 ≤ length profile = omega arith in
    let inside : entry + 0 ≤ length profile = omega arith in
    simp (le-ltb (length profile) (entry + 4) first, le-ltb (length profile) (entry + 0) inside, e, written_read limit c rest f, told_words tag_size c, told_step walk c)
lone_read walk limit profile entry (suc n) c rest f (e, inside) =
    let l : tag_size ≤ suc n = omega (arith, ap length e, long c rest, length-take (suc n) (drop entry profile)) in
    let first : entry + 4 ≤ length profile = omega arith in
    simp (le-ltb (length profile) (entry + 4) first, le-ltb (suc n) tag_size l, and-false, le-ltb (length profile) (entry + suc n) inside, some n, e, written_read limit c rest f, told_words tag_size c, told_step walk c)

-- and a value is of such a tag
pub lone_written : (walk : Walk) (limit : ℕ) (profile : List ℕ) → Bytes profile → (entry size : ℕ) (ws : List ℕ) (consumed : ℕ) → trc_of walk limit profile entry size ≡ value ws consumed → Lone walk limit profile entry size ws consumed
unfolding Tag
lone_written walk limit profile b entry size ws consumed h = by size (accepted_inside walk limit profile entry size ws consumed h)
  where
    of : (size : ℕ) (t : List ℕ) → Bytes t → (s : Shape) → curve_of limit t ≡ good s → ws ≡ words_of tag_size s → consumed ≡ step_of walk s → ((x : List ℕ) → t ≡ x → Tag profile entry size x) → Lone walk limit profile entry size ws consumed
    of size t bt s seen w k stands =
        let c = read_written limit t bt s seen in
        record {
          curve = c.curve;
          rest = c.rest;
          fits = c.fits;
          words_are = w ∙ ap (words_of tag_size) c.shape_is ∙ told_words tag_size c.curve;
          consumed_is = k ∙ ap (step_of walk) c.shape_is ∙ told_step walk c.curve;
          stands = stands _ c.is;
        }

    by : (size : ℕ) → Accepted walk limit profile entry size ws consumed → Lone walk limit profile entry size ws consumed
    by zero a = of zero (drop entry profile) (rest_bytes profile b entry) a.curve.shape a.curve.seen a.curve.record_is a.curve.step_is (λ x e. e)
    by (suc n) a = of (suc n) (take (suc n) (drop entry profile)) (part_bytes profile b entry (suc n)) a.curve.shape (rw (some n) at a.curve.seen) a.curve.record_is a.curve.step_is (λ x e. (e, a.tag_in_profile))
