-- Rows of words one behind the other, and words that are stored as they are.
-- Assumes nothing.
use Prim.Native.Nat.{ℕ, ◌+◌}
use native.Mathlib.Nat.{zero-add}
use mathlib.Core.Path.{◌≡◌, sym, ap, ◌∙◌}
use mathlib.Core.List.{List, ◌++◌}
use lib.ListN.{length, length-append}
use lib.Seq.{sets}
use Rattle.std.proofs.lemmas.List.{map-id}
use Rattle.fields.proofs.Stores.{sets_append}
use Rattle.export_words.specs.Exported.{Stored}

-- words that convert to their own number are stored as they are
pub stored_numbers : {l m ws : List ℕ} {at : ℕ} → Stored (λ (x y : ℕ). y ≡ x) l at ws m → m ≡ sets l at ws
stored_numbers {l} {m} {ws} {at} h = h.by (λ x. x) (λ x n e. e) ∙ ap (sets l at) (map-id ws)

pub two_rows : (xs ys l m k : List ℕ) (n : ℕ) → length xs ≡ n → m ≡ sets l 0 xs → k ≡ sets m n ys → k ≡ sets l 0 (xs ++ ys)
two_rows xs ys l m k n e f g = g ∙ rw (f, ← e) (sym (sets_append xs ys l 0 ∙ rw zero-add))

pub three_rows : (l l₁ l₂ l₃ xs ys zs : List ℕ) {n i : ℕ} → length xs ≡ n → length ys ≡ i → l₁ ≡ sets l 0 xs → l₂ ≡ sets l₁ n ys → l₃ ≡ sets l₂ (n + i) zs → l₃ ≡ sets l 0 (xs ++ ys ++ zs)
three_rows l l₁ l₂ l₃ xs ys zs {n} {i} a b e f g = two_rows (xs ++ ys) zs l l₂ l₃ (n + i) (length-append xs ys ∙ rw (a, b)) (two_rows xs ys l l₁ l₂ n a e f) g
