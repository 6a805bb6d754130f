-- The status and the words of a text's answer, and how they are laid out.
use Rattle.std.specs.Prelude.{ℕ, cond, List, [], ◌∷◌, eqb}
use Rattle.fields.specs.Tag.{signature_of}
use Rattle.fields.specs.declared.Kind.TheVariants.{Mluc, Desc, Text}
use Rattle.text_meaning.specs.Answer.{Answer}
use Rattle.text_meaning.specs.declared.TextValue.{TextValue}
use Rattle.export_words.specs.Exported.{Exported, value, only, absent, unsigned}
use Rattle.export_words.specs.declared.Layout.{Layout}

-- the type, and of `text` its range, of `desc` the ASCII range, the language and the Unicode range, of `mluc` the number of records
abbrev pub text_exported : Answer → Exported
text_exported (Answer.text s) = value (signature_of Text ∷ s.start ∷ s.bytes ∷ [])
text_exported (Answer.desc s u) = value (signature_of Desc ∷ s.start ∷ s.bytes ∷ u.language ∷ u.string.start ∷ u.string.bytes ∷ [])
text_exported (Answer.mluc n) = value (signature_of Mluc ∷ n ∷ [])
text_exported Answer.absent = absent
text_exported (Answer.refused n) = only n

-- the same of what is read
abbrev pub value_words : TextValue → List ℕ
value_words (TextValue.Text r) = signature_of Text ∷ r.start.0 ∷ r.length ∷ []
value_words (TextValue.Desc d) = signature_of Desc ∷ d.ascii.start.0 ∷ d.ascii.length ∷ d.language ∷ d.unicode.start.0 ∷ d.unicode.length ∷ []
value_words (TextValue.Mluc n) = signature_of Mluc ∷ n ∷ []

-- of each type
abbrev pub text_layout : Layout
text_layout = unsigned 3

abbrev pub desc_layout : Layout
desc_layout = unsigned 6

abbrev pub mluc_layout : Layout
mluc_layout = unsigned 2

-- by the first word, the type's signature
unfoldable pub string_layout : ℕ → Layout
string_layout type = cond (eqb type (signature_of Text)) text_layout (cond (eqb type (signature_of Desc)) desc_layout mluc_layout)
