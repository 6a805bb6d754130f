-- The text of what a reader told, without the end of the line: the status's word and, behind "value", the words in decimal, each behind a space.
use Rattle.std.specs.Prelude.{ℕ, ◌/◌, ◌%◌, Bool, cond, List, [], ◌∷◌, ◌++◌, eqb, get_or, take, drop}
use Rattle.lines.specs.Text.{number, numbers, row_from, word_text}
use Rattle.export_words.specs.Exported.{Exported}
use Rattle.export_words.specs.declared.Layout.{Layout}

-- "value", "absent", "default"
abbrev pub value_word : List ℕ
value_word = 0x76 ∷ 0x61 ∷ 0x6c ∷ 0x75 ∷ 0x65 ∷ []

abbrev pub absent_word : List ℕ
absent_word = 0x61 ∷ 0x62 ∷ 0x73 ∷ 0x65 ∷ 0x6e ∷ 0x74 ∷ []

abbrev pub default_word : List ℕ
default_word = 0x64 ∷ 0x65 ∷ 0x66 ∷ 0x61 ∷ 0x75 ∷ 0x6c ∷ 0x74 ∷ []

-- "refused N"
unfoldable pub refused_text : ℕ → List ℕ
refused_text n = (0x72 ∷ 0x65 ∷ 0x66 ∷ 0x75 ∷ 0x73 ∷ 0x65 ∷ 0x64 ∷ []) ++ number 0x20 n

-- a type's name behind a space: the four letters of its signature, a trailing space left out
unfoldable pub name_text : ℕ → List ℕ
name_text s =
    0x20 ∷ s / 0x100_0000 % 256 ∷ s / 0x1_0000 % 256 ∷ s / 0x100 % 256 ∷ cond (eqb (s % 256) 0x20) [] (s % 256 ∷ [])

-- the words of a value; where the reader serves several types the first is its type's signature, and the name stands for it
unfoldable pub words_text : Bool → Layout → ℕ → List ℕ → List ℕ
words_text several l first ws =
    cond several
    (name_text first ++ row_from (word_text l.from l.to) 1 (drop 1 ws))
    (row_from (word_text l.from l.to) 0 ws)

-- what was told, the words of a value by the layout that the first of them tells
unfoldable pub exported_text : Bool → (ℕ → Layout) → Exported → List ℕ
exported_text several layout e =
    let first = get_or e.words 0 0 in
    let l = layout first in
    cond (eqb e.status 0) (value_word ++ words_text several l first (take l.words e.words)) (
    cond (eqb e.status 100) absent_word (
    cond (eqb e.status 101) default_word (
    refused_text e.status)))

-- the lent words behind a bar, as they are after the call
unfoldable pub lent_text : List ℕ → List ℕ
lent_text ws = (0x20 ∷ 0x7c ∷ []) ++ numbers ws
