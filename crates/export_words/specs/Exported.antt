-- What an exported function tells its caller: a status, and words in front of the lent `out`.
use Rattle.std.specs.Prelude.{ℕ, ◌≡◌, cond, List, [], ltb, length, get_or, map, Option, Some, None, Result, Ok, Err}
use Rattle.std.proofs.lemmas.List.Edits.{sets}
use Rattle.fields.specs.Refusals.{refusal_number}
use Rattle.fields.specs.declared.Refusal.{Refusal}
use Rattle.export_words.specs.declared.Layout.{Layout}
use Rattle.export_words.specs.declared.Missing.{Missing}
use Rattle.export_words.specs.declared.Missing.TheVariants.{Absent, Default}

-- 0 value, 1 to 17 and 19 the number of a refusal, 100 absent, 101 default, 102 no room
pub record Exported : Type 0 where
  pub status : ℕ
  pub words : List ℕ

abbrev pub value : List ℕ → Exported
value ws = record { status = 0; words = ws }

-- a status alone
abbrev pub only : ℕ → Exported
only n = record { status = n; words = [] }

abbrev pub absent : Exported
absent = only 100

abbrev pub default : Exported
default = only 101

-- of a value that is missing
abbrev pub without : Missing → Exported
without Absent = absent
without Default = default

-- of a reader's answer: the words of a value, `none` where it is missing, and the number of a refusal
abbrev pub told : {A : Type 0} → (A → List ℕ) → Exported → Result (Option A) Refusal → Exported
told words none (Ok (Some x)) = value (words x)
told words none (Ok None) = none
told words none (Err why) = only (refusal_number why)

-- the layout of a value by its first word: where a reader serves several types that is the type's signature, and else the layout is one
abbrev pub always : Layout → ℕ → Layout
always layout first = layout

-- so many words, none of them signed; and with those from `from` up to `to` signed
abbrev pub unsigned : ℕ → Layout
unsigned n = record { words = n; from = 0; to = 0 }

abbrev pub signed_from : ℕ → ℕ → ℕ → Layout
signed_from n from to = record { words = n; from = from; to = to }

-- the words of a value are as many as its layout has
abbrev pub AsLaidOut : (ℕ → Layout) → Exported → Type 0
AsLaidOut layout t = t.status ≡ 0 → length t.words ≡ (layout (get_or t.words 0 0)).words

-- words shorter than the room that is asked for, mostly those of `out`, are told so, and nothing else
unfoldable pub within : ℕ → List ℕ → Exported → Exported
within room words t = cond (ltb (length words) room) (only 102) t

-- the status is returned, and the words stand in front of `out`, as many as the layout has; the rest of it stays
pub record Gave (layout : ℕ → Layout) (t : Exported) (r : ℕ) (before after : List ℕ) : Type 0 where
  pub status_is : r ≡ t.status
  pub out_is : after ≡ sets before 0 t.words
  pub as_laid_out : AsLaidOut layout t

-- the same beside lent slots, which are `slots_after` after the call; where `out` is too short they stay as well
pub record GaveWith (layout : ℕ → Layout) (room : ℕ) (t : Exported) (slots_after : List ℕ) (r : ℕ) (before after slots slots' : List ℕ) : Type 0 where
  pub gave : Gave layout (within room before t) r before after
  pub slots_are : slots' ≡ cond (ltb (length before) room) slots slots_after

-- words of any type stand from `at` on, one behind the other, each as the number that it converts to
pub record Stored {W : Type 0} (converts : W → ℕ → Type 0) (before : List ℕ) (at : ℕ) (words : List W) (after : List ℕ) : Type 0 where
  pub by : (number : W → ℕ) → ((x : W) (n : ℕ) → converts x n → n ≡ number x) → after ≡ sets before at (map number words)
