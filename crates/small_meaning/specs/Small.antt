-- The small readers: what each call must answer.
use Rattle.std.specs.Prelude.{ℕ, ◌+◌, ◌-◌, ◌/◌, cond, List, ltb, eqb, length}
use Rattle.fields.specs.Bytes.{u32_at}
use Rattle.fields.specs.House.{tag_size}
use Rattle.fields.specs.Place.{tag_at}
use Rattle.fields.specs.Tag.{signature_of}
use Rattle.fields.specs.declared.Kind.TheVariants.{Xyz, Sf32, Meas, View, Cicp, Sig, Dtim}
use Rattle.small_meaning.specs.Answer.{Answer, value, default, absent, refused}
use Rattle.small_meaning.specs.Layout.{nine_numbers, signature_in, date_bytes, measurement, conditions, first_xyz, code_points}
use Rattle.small_meaning.specs.Order.{found_of, answer_to}

-- `chad`, of a tag that has room for nine numbers and not for ten
unfoldable pub chad_matrix_of : List ℕ → Answer
chad_matrix_of t =
    cond (eqb (u32_at t 0) (signature_of Sf32)) (
    cond (eqb (length t) 44) (value (nine_numbers t)) (refused 17)) (
    refused 17)

unfoldable pub chad_of : List ℕ → ℕ → ℕ → Answer
chad_of profile entry size =
    cond (ltb (length profile) (entry + size)) (refused 1) (
    cond (ltb (length profile) (entry + 8)) (refused 1) (
    cond (ltb size 8) absent (
    cond (eqb ((size - 8) / 4) 9) (chad_matrix_of (tag_at profile entry size)) absent)))

-- `sig `
abbrev pub sig_of : List ℕ → ℕ → ℕ → Answer
sig_of profile entry size =
    answer_to (found_of tag_size size (signature_of Sig) profile entry size) (refused 2) absent (value (signature_in (tag_at profile entry size)))

-- `dtim`: the bytes are those of a tag at the front of the profile, wherever the tag stands
abbrev pub date_of : List ℕ → ℕ → ℕ → Answer
date_of profile entry size =
    answer_to (found_of 20 size (signature_of Dtim) profile entry size) absent absent (value (date_bytes (tag_at profile 0 20)))

-- `meas`: 36 bytes are read, whatever the size
unfoldable pub window_of : List ℕ → ℕ → Answer
window_of profile entry =
    cond (ltb (length profile) (entry + 36)) (refused 1) (value (measurement (tag_at profile entry 36)))

abbrev pub meas_of : List ℕ → ℕ → ℕ → Answer
meas_of profile entry size =
    answer_to (found_of tag_size size (signature_of Meas) profile entry size) absent absent (window_of profile entry)

-- `view`: the declared end is not looked at
abbrev pub view_of : List ℕ → ℕ → ℕ → Answer
view_of profile entry size =
    answer_to (found_of 36 36 (signature_of View) profile entry size) absent absent (value (conditions (tag_at profile entry 36)))

-- `XYZ `
unfoldable pub triple_of : List ℕ → Answer
triple_of t = cond (ltb (length t) 20) (refused 2) (value (first_xyz t))

abbrev pub xyz_of : List ℕ → ℕ → ℕ → Answer
xyz_of profile entry size =
    answer_to (found_of tag_size size (signature_of Xyz) profile entry size) default default (triple_of (tag_at profile entry size))

-- `cicp`
abbrev pub cicp_of : List ℕ → ℕ → ℕ → Answer
cicp_of profile entry size =
    answer_to (found_of tag_size size (signature_of Cicp) profile entry size) absent absent (value (code_points (tag_at profile entry size)))
