-- The blend of the corners around a pixel, by their places in the tag: from the lowest corner it is u bytes to the upper neighbour in the last
-- dimension and r is the rest there; v and s, w and q, z and p are those of the dimensions before it. Of one that the table does not have both
-- are 0.
use Rattle.std.specs.Prelude.{ℕ, zero, suc, ◌+◌, ◌*◌, ◌≤◌, ◌≡◌, List, [], ◌∷◌, length}
use Rattle.std.proofs.lemmas.List.Edits.{sets}
use Rattle.evaluate_meaning.specs.Colour.{blend, sample_at}

unfoldable pub line_of : List ℕ → ℕ → ℕ → ℕ → ℕ → ℕ
line_of t size at u r = blend (sample_at t at size) (sample_at t (at + u) size) r

unfoldable pub plane_of : List ℕ → ℕ → ℕ → ℕ → ℕ → ℕ → ℕ → ℕ
plane_of t size at u r v s = blend (line_of t size at u r) (line_of t size (at + v) u r) s

unfoldable pub cube_of : List ℕ → ℕ → ℕ → ℕ → ℕ → ℕ → ℕ → ℕ → ℕ → ℕ
cube_of t size at u r v s w q = blend (plane_of t size at u r v s) (plane_of t size (at + w) u r v s) q

unfoldable pub four_of : List ℕ → ℕ → ℕ → ℕ → ℕ → ℕ → ℕ → ℕ → ℕ → ℕ → ℕ → ℕ
four_of t size at u r v s w q z p = blend (cube_of t size at u r v s w q) (cube_of t size (at + z) u r v s w q) p

-- those of so many channels, whose entries stand side by side
unfoldable pub channels_of : List ℕ → ℕ → ℕ → ℕ → ℕ → ℕ → ℕ → ℕ → ℕ → ℕ → ℕ → ℕ → List ℕ
channels_of t size at u r v s w q z p zero = []
channels_of t size at u r v s w q z p (suc k) = four_of t size at u r v s w q z p ∷ channels_of t size (at + size) u r v s w q z p k

-- k channels, one at least: all their corners lie in the tag, and there is room for them from `to` on
pub record Reach (t : List ℕ) (hop at u v w z k : ℕ) (words : List ℕ) (to : ℕ) : Type 0 where
  pub inside : at + u + v + w + z + k * (hop + 1) ≤ length t
  pub room : to + k ≤ length words
  pub any : 1 ≤ k
  pub small : hop ≤ 1

-- n of the channels that are left were written from `to` on
pub record Wrote (t : List ℕ) (size at u r v s w q z p left n : ℕ) (before : List ℕ) (to : ℕ) (after : List ℕ) : Type 0 where
  pub some : 1 ≤ n
  pub most : n ≤ left
  pub is : after ≡ sets before to (channels_of t size at u r v s w q z p n)
