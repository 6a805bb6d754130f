-- Each record in lent slots is that of its curve, and its data, by its words, end where the curve ends.
-- Assumes nothing.
use Prim.Native.Nat.{ℕ, zero, suc, ◌+◌, ◌*◌, ◌<◌}
use native.Mathlib.Omega.{arith}
use mathlib.Core.Path.{◌≡◌, sym, ap, ◌∙◌}
use mathlib.Core.List.{List, [], ◌∷◌, ◌++◌, append_assoc}
use lib.ListN.{length, get_or, take, drop}
use lib.Seq.{drop-drop, take_at, drop_at}
use borrow.Author.Tests.{ne_eqb}
use Rattle.icc.specs.Each.{Each}
use Rattle.fields.specs.House.{tag_size}
use Rattle.curve_meaning.specs.Shape.{Shape, empty, table, para, size_of, words_of, record_words}
use Rattle.lut_run_meaning.specs.Run.{Placed, records_of, data_end}
use Rattle.lut_run_meaning.proofs.Writing.{words_length}

-- where the data of a curve end, by the words of its record
pub words_end : (at : ℕ) (s : Shape) → data_end (words_of (at + tag_size) s) ≡ at + size_of s
unfolding words_of size_of
words_end at empty = omega arith
words_end at (table n) = omega arith
words_end at (para type ps) = rw (ne_eqb (2 + type) 1 (λ e. omega (arith, e))) (omega arith)

-- the record behind the first is the first of the rest
behind : (w rest : List ℕ) (k : ℕ) → length w ≡ record_words → drop (suc k * record_words) (w ++ rest) ≡ drop (k * record_words) rest
behind w rest k e =
    let m : suc k * record_words ≡ record_words + k * record_words = omega arith in
    ap (λ (i : ℕ). drop i (w ++ rest)) m ∙ sym (drop-drop (k * record_words) record_words (w ++ rest)) ∙ ap (drop (k * record_words)) (drop_at w rest record_words e)

-- record k is that of curve k
pub record_at_lem : (cs : List Placed) (rest : List ℕ) (d : Placed) (k : ℕ) → k < length cs → take record_words (drop (k * record_words) (records_of cs ++ rest)) ≡ words_of ((get_or cs k d).at + tag_size) (get_or cs k d).shape
unfolding records_of
record_at_lem [] rest d k l = absurd (omega arith)
record_at_lem (c ∷ cs) rest d zero l =
    let w : List ℕ = words_of (c.at + tag_size) c.shape in
    ap (take record_words) (append_assoc w (records_of cs) rest) ∙ take_at w (records_of cs ++ rest) record_words (words_length (c.at + tag_size) c.shape)
record_at_lem (c ∷ cs) rest d (suc k) l =
    let w : List ℕ = words_of (c.at + tag_size) c.shape in
    let e : drop (suc k * record_words) (w ++ records_of cs ++ rest) ≡ drop (k * record_words) (records_of cs ++ rest) = ap (drop (suc k * record_words)) (append_assoc w (records_of cs) rest) ∙ behind w (records_of cs ++ rest) k (words_length (c.at + tag_size) c.shape) in
    ap (take record_words) e ∙ record_at_lem cs rest d k (omega arith)

-- what holds of each curve holds of curve k
pub each_at : (P : Placed → Type 0) (cs : List Placed) (d : Placed) → Each P cs → (k : ℕ) → k < length cs → P (get_or cs k d)
unfolding Each
each_at P [] d h k l = absurd (omega arith)
each_at P (c ∷ cs) d h zero l = h.0
each_at P (c ∷ cs) d h (suc k) l = each_at P cs d h.1 k (omega arith)
