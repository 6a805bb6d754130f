-- What holds of every answer that a curve can have holds of the one that it has: the checks walked once, for all that is said of each answer.
-- Assumes nothing.
use Prim.Native.Nat.{ℕ, ◌+◌}
use mathlib.Core.Bool.{◌&&◌}
use mathlib.Core.List.{List}
use lib.Dec.{ltb, leb, eqb}
use lib.ListN.{length, get_or}
use Rattle.fields.specs.Checked.{Checked, good, bad}
use Rattle.fields.specs.Bytes.{u32_at}
use Rattle.fields.specs.House.{tag_size}
use Rattle.fields.specs.Tag.{signature_of}
use Rattle.fields.specs.declared.Kind.TheVariants.{Curv, Para}
use Rattle.fields.proofs.Choice.{each}
use Rattle.curve_meaning.specs.Answer.{Answer, absent, refused, answer_of}
use Rattle.curve_meaning.specs.Curve.{curv_of, divides, para_of, curve_of, tag_of, trc_of}
use Rattle.curve_meaning.specs.Layout.{entry_count, entries_end, function_type, parameter_count, parameters_end, parameters}
use Rattle.curve_meaning.specs.Shape.{Shape}
use Rattle.curve_meaning.specs.declared.Walk.{Walk}

-- one curve: a shape, or refusal 9 to 13
pub curve_each : (P : Checked Shape → Type 0) → ((s : Shape) → P (good s)) → P (bad 9) → P (bad 10) → P (bad 11) → P (bad 12) → P (bad 13) → (limit : ℕ) (t : List ℕ) → P (curve_of limit t)
unfolding curve_of curv_of para_of
curve_each P is p9 p10 p11 p12 p13 limit t =
    each P (ltb (length t) tag_size) _ _ (λ _. p11)
    (λ _. each P (eqb (u32_at t 0) (signature_of Curv)) _ _
    (λ _. each P (eqb (entry_count t) 0) _ _ (λ _. is _)
    (λ _. each P (ltb limit (entry_count t)) _ _ (λ _. p10)
    (λ _. each P (ltb (length t) (entries_end (entry_count t))) _ _ (λ _. p11) (λ _. is _))))
    (λ _. each P (eqb (u32_at t 0) (signature_of Para)) _ _
    (λ _. each P (ltb 4 (function_type t)) _ _ (λ _. p12)
    (λ _. each P (ltb (length t) (parameters_end (parameter_count (function_type t)))) _ _ (λ _. p11)
    (λ _. each P (divides (function_type t) && eqb (get_or (parameters t) 1 0) 0) _ _ (λ _. p13) (λ _. is _))))
    (λ _. p9)))

-- the lone reader: an absence, refusal 11, or what the curve is answered by
pub trc_each : (P : Answer → Type 0) → P absent → P (refused 11) → (walk : Walk) (limit : ℕ) (p : List ℕ) (entry size : ℕ) → P (answer_of walk tag_size (curve_of limit (tag_of p entry size))) → P (trc_of walk limit p entry size)
unfolding trc_of
trc_each P none past walk limit p entry size curve =
    each P (ltb (length p) (entry + 4)) _ _ (λ _. none)
    (λ _. each P (leb 1 size && ltb size tag_size) _ _ (λ _. none) (λ _. each P (ltb (length p) (entry + size)) _ _ (λ _. past) (λ _. curve)))
