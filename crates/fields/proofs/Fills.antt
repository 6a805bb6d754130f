-- A loop that fills a list with a row of 32-bit numbers, or of bytes: what is left to store makes of the list the row.
-- Assumes nothing.
use Prim.Native.Nat.{ℕ, ◌+◌, ◌*◌, ◌≤◌, ◌<◌}
use native.Mathlib.Omega.{arith}
use mathlib.Core.Path.{◌≡◌, sym, ◌∙◌}
use mathlib.Core.List.{List}
use lib.ListN.{length, get_or, drop, set}
use lib.Seq.{sets}
use Rattle.fields.specs.Bytes.{u32_at, bytes_at, words_at}
use Rattle.fields.proofs.Stores.{fill_begins, fill_turns, fill_ends}
use Rattle.fields.proofs.Words.{words_length, word_at, bytes_length, byte_at}

module _ (t : List ℕ) (at n : ℕ) (l : List ℕ) (e : length l ≡ n) where
  pub words_begin : sets l 0 (drop 0 (words_at t at n)) ≡ words_at t at n
  words_begin = fill_begins (words_at t at n) l (e ∙ sym (words_length t at n))

  pub bytes_begin : sets l 0 (drop 0 (bytes_at t at n)) ≡ bytes_at t at n
  bytes_begin = fill_begins (bytes_at t at n) l (e ∙ sym (bytes_length t at n))

  pub words_turn : (i : ℕ) → i < length l → (v : ℕ) → v ≡ u32_at t (at + 4 * i) → sets l i (drop i (words_at t at n)) ≡ words_at t at n → sets (set l i v) (i + 1) (drop (i + 1) (words_at t at n)) ≡ words_at t at n
  words_turn i h v f w = fill_turns (words_at t at n) l i v (omega (arith, words_length t at n)) (f ∙ sym (word_at t at n i (omega arith))) w

  pub words_end : (i : ℕ) → n ≤ i → sets l i (drop i (words_at t at n)) ≡ words_at t at n → l ≡ words_at t at n
  words_end i h w = fill_ends (words_at t at n) l i (omega (arith, words_length t at n)) w

  pub bytes_turn : (i : ℕ) → i < length l → sets l i (drop i (bytes_at t at n)) ≡ bytes_at t at n → sets (set l i (get_or t (at + i) 0)) (i + 1) (drop (i + 1) (bytes_at t at n)) ≡ bytes_at t at n
  bytes_turn i h w = fill_turns (bytes_at t at n) l i (get_or t (at + i) 0) (omega (arith, bytes_length t at n)) (sym (byte_at t at n i (omega arith))) w

  pub bytes_end : (i : ℕ) → length l ≤ i → sets l i (drop i (bytes_at t at n)) ≡ bytes_at t at n → l ≡ bytes_at t at n
  bytes_end i h w = fill_ends (bytes_at t at n) l i (omega (arith, bytes_length t at n)) w
