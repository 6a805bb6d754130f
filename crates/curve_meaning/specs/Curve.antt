-- The tone curve: what each call must answer.
use Rattle.std.specs.Prelude.{ℕ, ◌+◌, Bool, cond, ◌&&◌, List, ltb, leb, eqb, length, get_or, take, drop}
use Rattle.fields.specs.Checked.{Checked, good, bad}
use Rattle.fields.specs.Bytes.{u32_at}
use Rattle.fields.specs.House.{tag_size}
use Rattle.fields.specs.Tag.{signature_of}
use Rattle.fields.specs.declared.Kind.TheVariants.{Curv, Para}
use Rattle.curve_meaning.specs.Layout.{entry_count, entries_end, function_type, parameter_count, parameters_end, parameters}
use Rattle.curve_meaning.specs.Shape.{Shape, empty, table, para}
use Rattle.curve_meaning.specs.Answer.{Answer, absent, refused, answer_of}
use Rattle.curve_meaning.specs.declared.Walk.{Walk}

-- `curv`
unfoldable pub curv_of : ℕ → List ℕ → Checked Shape
curv_of limit t =
    let n = entry_count t in
    cond (eqb n 0) (good empty) (
    cond (ltb limit n) (bad 10) (
    cond (ltb (length t) (entries_end n)) (bad 11) (
    good (table n))))

-- types 1 and 2 divide by their second parameter
unfoldable pub divides : ℕ → Bool
divides type = leb 1 type && leb type 2

-- `para`
unfoldable pub para_of : List ℕ → Checked Shape
para_of t =
    let type = function_type t in
    cond (ltb 4 type) (bad 12) (
    cond (ltb (length t) (parameters_end (parameter_count type))) (bad 11) (
    cond (divides type && eqb (get_or (parameters t) 1 0) 0) (bad 13) (
    good (para type (parameters t)))))

-- the curve at the front of the bytes t
unfoldable pub curve_of : ℕ → List ℕ → Checked Shape
curve_of limit t =
    cond (ltb (length t) tag_size) (bad 11) (
    cond (eqb (u32_at t 0) (signature_of Curv)) (curv_of limit t) (
    cond (eqb (u32_at t 0) (signature_of Para)) (para_of t) (bad 9)))

-- the bytes of the tag: as many as the size says, or all up to the profile's end where it is 0
abbrev pub tag_of : List ℕ → ℕ → ℕ → List ℕ
tag_of profile entry size = cond (eqb size 0) (drop entry profile) (take size (drop entry profile))

-- the lone reader
unfoldable pub trc_of : Walk → ℕ → List ℕ → ℕ → ℕ → Answer
trc_of walk limit profile entry size =
    cond (ltb (length profile) (entry + 4)) absent (
    cond (leb 1 size && ltb size tag_size) absent (
    cond (ltb (length profile) (entry + size)) (refused 11) (
    answer_of walk tag_size (curve_of limit (tag_of profile entry size)))))
