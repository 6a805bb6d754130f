-- Conformance of a run to curves as the standard writes them, both ways, on the book walk, and on the crate walk where no curve before the last
-- is empty: those that stand one behind the other in a tag, each at the next multiple of 4, are the run; and a run's curves are what the
-- standard writes there.
-- Assumes nothing.
use Prim.Native.Nat.{ℕ, ◌+◌, ◌*◌, ◌/◌, ◌≤◌}
use native.Mathlib.Omega.{arith}
use mathlib.Core.Path.{◌≡◌, refl, sym, ap, ◌∙◌}
use mathlib.Core.List.{List, [], ◌∷◌, ◌++◌, map, append_assoc}
use lib.ListN.{length, get_or, drop, length-map, length-append, length-drop}
use lib.Seq.{get_or_at}
use borrow.Author.Tests.{le-ltb}
use Rattle.icc.specs.Each.{Each}
use Rattle.fields.specs.House.{tag_size}
use Rattle.fields.specs.Checked.{good}
use Rattle.icc.specs.Curves.{Curve, curve_element}
use Rattle.icc.specs.Elements.{Stands, PlacedCurve, CurvesFrom}
use Rattle.icc.specs.Numbers.{Bytes, NextMultipleOf4}
use Rattle.fields.proofs.Written.{rest_bytes}
use Rattle.curve_meaning.specs.Shape.{Shape, empty, table, para, size_of, step_of, record_words, words_of}
use Rattle.curve_meaning.specs.Standard.{shape_of, CurveFits}
use Rattle.curve_meaning.specs.declared.Walk.{Walk}
use Rattle.curve_meaning.specs.declared.Walk.TheVariants.{Crate, Book}
use Rattle.curve_meaning.proofs.Inside.{book_step, size_least}
use Rattle.curve_meaning.proofs.Conforms.{written_read, written_size, told_words, read_written}
use Rattle.lut_run_meaning.specs.Run.{Placed, placed, whole, aligned, curve_at_offset, run_at, records_of}
use Rattle.lut_run_meaning.specs.Standard.{seen_of, AllFit, Passes, Standing, records_told, NoneEmpty}
use Rattle.lut_run_meaning.proofs.Runs.{entry_there, Reads, run_reads, reads_run}
use Rattle.lut_run_meaning.proofs.Writing.{words_length}

-- ---- the next multiple of 4

pub aligned_next : (n : ℕ) → NextMultipleOf4 n (aligned n)
unfolding aligned
aligned_next n = record { quarter = (n + 3) / 4; multiple = omega arith; not_below = omega arith; least = λ k h. omega arith }

pub next_raised : (n next : ℕ) → NextMultipleOf4 n next → next ≡ aligned n
next_raised n next h =
    let r = aligned_next n in
    let e = r.multiple in
    let low : next ≤ aligned n = rw e (h.least r.quarter (rw e at r.not_below)) in
    let f = h.multiple in
    let high : aligned n ≤ next = rw f (r.least h.quarter (rw f at h.not_below)) in
    omega arith

-- ---- one curve

entry_written : (limit : ℕ) (t : List ℕ) (at : ℕ) (c : Curve) → Stands t at (curve_element c) → CurveFits limit c → curve_at_offset limit t at ≡ good (shape_of c)
unfolding curve_at_offset
entry_written limit t at c s f =
    let l : at + tag_size ≤ length t = omega (arith, ap length s.is, length-append (curve_element c) s.behind, written_size c, size_least (shape_of c), length-drop at t) in
    rw (le-ltb (length t) (at + tag_size) l, s.is) (written_read limit c s.behind f)

-- where the walk steps over a curve, it goes on by its bytes
over : (walk : Walk) (c d : Placed) (cs : List Placed) → Passes walk (c ∷ d ∷ cs) → step_of walk c.shape ≡ size_of c.shape
unfolding Passes step_of
over Book c d cs h = book_step c.shape
over Crate c d cs (h, _) = by c.shape h
  where
    by : (s : Shape) → (s ≡ empty → ⊥) → step_of Crate s ≡ size_of s
    by empty h = absurd (h refl)
    by (table n) h = refl
    by (para type ps) h = refl

rest_passes : (walk : Walk) (c d : Placed) (cs : List Placed) → Passes walk (c ∷ d ∷ cs) → Passes walk (d ∷ cs)
unfolding Passes
rest_passes Book c d cs h = tt
rest_passes Crate c d cs (_, h) = h

-- ---- written, then read

-- the records of such curves
pub records_are : (cs : List PlacedCurve) → records_of (map seen_of cs) ≡ records_told cs
unfolding records_of records_told
records_are [] = refl
records_are (c ∷ cs) = rw (told_words (c.offset + tag_size) c.curve, records_are cs)

module _ (walk : Walk) (limit : ℕ) (t : List ℕ) where
  reads : (at : ℕ) (cs : List PlacedCurve) → CurvesFrom t at cs → AllFit limit cs → Passes walk (map seen_of cs) → Reads walk limit t at (map seen_of cs)
  unfolding CurvesFrom Reads Each
  reads at [] h f p = tt
  reads at (c ∷ []) (e, s, rest) (f, fs) p = (e, entry_written limit t at c.curve s f, tt)
  reads at (c ∷ d ∷ cs) (e, s, (next, n, rest)) (f, fs) p =
      let k : step_of walk (shape_of c.curve) ≡ length (curve_element c.curve) = over walk (seen_of c) (seen_of d) (map seen_of cs) p ∙ written_size c.curve in
      let q : next ≡ aligned (at + step_of walk (shape_of c.curve)) = next_raised _ next n ∙ ap (λ (i : ℕ). aligned (at + i)) (sym k) in
      (e, entry_written limit t at c.curve s f, rw q at (reads next (d ∷ cs) rest fs (rest_passes walk (seen_of c) (seen_of d) (map seen_of cs) p)))

  pub written_run : (at : ℕ) (cs : List PlacedCurve) → CurvesFrom t at cs → AllFit limit cs → Passes walk (map seen_of cs) → run_at walk limit t at (length cs) ≡ record { curves = map seen_of cs; end = whole }
  written_run at cs h f p = ap (run_at walk limit t at) (sym (length-map cs seen_of)) ∙ reads_run walk limit t at (map seen_of cs) (reads at cs h f p)

  -- ---- read, then written

  module _ (b : Bytes t) where
    -- a curve that is seen, and those that stand behind it
    front : (at : ℕ) (p : Placed) (ps : List Placed) → p.at ≡ at → curve_at_offset limit t at ≡ good p.shape → Standing limit t (aligned (at + size_of p.shape)) ps → Standing limit t at (p ∷ ps)
    unfolding CurvesFrom Each
    front at p ps e s r =
        let c = read_written limit (drop at t) (rest_bytes t b at) p.shape (entry_there limit t at p.shape s).1 in
        let far : ℕ = at + size_of p.shape in
        let q : far ≡ at + length (curve_element c.curve) = ap (λ (i : ℕ). at + i) (ap size_of c.shape_is ∙ written_size c.curve) in
        let pe : p ≡ seen_of record { offset = at; curve = c.curve } = ap (λ (x : ℕ). placed x p.shape) e ∙ ap (placed at) c.shape_is in
        record {
          curves = record { offset = at; curve = c.curve } ∷ r.curves;
          stand = (refl, record { behind = c.rest; is = c.is }, (aligned far, rw (← q) (aligned_next far), r.stand));
          fit = (c.fits, r.fit);
          seen = ap (λ (x : Placed). x ∷ ps) pe ∙ ap (λ (xs : List Placed). seen_of record { offset = at; curve = c.curve } ∷ xs) r.seen;
        }

    none : (at : ℕ) → Standing limit t at []
    unfolding CurvesFrom Each
    none at = record { curves = []; stand = tt; fit = tt; seen = refl }

    back : (at : ℕ) (ps : List Placed) → Reads walk limit t at ps → Passes walk ps → Standing limit t at ps
    unfolding Reads
    back at [] h p = none at
    back at (c ∷ []) (e, s, rest) p = front at c [] e s (none _)
    back at (c ∷ d ∷ cs) (e, s, rest) p =
        let r = back (aligned (at + step_of walk c.shape)) (d ∷ cs) rest (rest_passes walk c d cs p) in
        front at c (d ∷ cs) e s (rw (over walk c d cs p) at r)

  pub run_written : Bytes t → (at n : ℕ) → Passes walk (run_at walk limit t at n).curves → Standing limit t at (run_at walk limit t at n).curves
  run_written b at n p = back b at (run_at walk limit t at n).curves (run_reads walk limit t at n) p

-- ---- by the records in the slots

-- an empty curve's record behind the words of i others is of kind 0
kind_0 : (front : List ℕ) (i : ℕ) → length front ≡ i * record_words → (c : Placed) (rest : List ℕ) → c.shape ≡ empty → get_or (front ++ (words_of (c.at + tag_size) c.shape ++ rest)) ((i + 0) * record_words) 0 ≡ 0
unfolding words_of
kind_0 front i n c rest e =
    let m : length front ≡ (i + 0) * record_words = omega arith in
    rw e (get_or_at front _ _ 0 ((i + 0) * record_words) m)

-- where none but the last is, the crate walk steps over each
pub passes_by : (front : List ℕ) (i : ℕ) → length front ≡ i * record_words → (cs : List Placed) (rest : List ℕ) → NoneEmpty (front ++ (records_of cs ++ rest)) i (length cs) → Passes Crate cs
unfolding Passes records_of
passes_by front i n [] rest h = tt
passes_by front i n (c ∷ []) rest h = tt
passes_by front i n (c ∷ d ∷ cs) rest h =
    let w : List ℕ = words_of (c.at + tag_size) c.shape in
    let behind : List ℕ = records_of (d ∷ cs) ++ rest in
    let all : front ++ (w ++ records_of (d ∷ cs) ++ rest) ≡ front ++ (w ++ behind) = ap (λ (x : List ℕ). front ++ x) (append_assoc w (records_of (d ∷ cs)) rest) in
    let n' : length (front ++ w) ≡ (i + 1) * record_words = length-append front w ∙ omega (arith, words_length (c.at + tag_size) c.shape) in
    let next : NoneEmpty (front ++ w ++ behind) (i + 1) (length (d ∷ cs)) = λ k l z. h (k + 1) (omega arith) (ap (λ (x : List ℕ). get_or x ((i + (k + 1)) * record_words) 0) (all ∙ sym (append_assoc front w behind)) ∙ ap (λ (j : ℕ). get_or (front ++ w ++ behind) (j * record_words) 0) (omega arith) ∙ z) in
    (λ e. h 0 (omega arith) (ap (λ (x : List ℕ). get_or x ((i + 0) * record_words) 0) all ∙ kind_0 front i n c behind e), passes_by (front ++ w) (i + 1) n' (d ∷ cs) rest next)
