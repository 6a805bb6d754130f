-- Trailing zeros cut: of a string of units, how many are left.
use Rattle.std.specs.Prelude.{ℕ, zero, suc, ◌+◌, ◌*◌, ◌≤◌, ◌<◌, ◌≡◌, cond, List, eqb, get_or}
use Rattle.fields.specs.Bytes.{u16_at}

-- the units of the string that starts at a place of t: its bytes, and its numbers of two bytes
unfoldable pub byte_of : List ℕ → ℕ → ℕ → ℕ
byte_of t start i = get_or t (start + i) 0

unfoldable pub unit_of : List ℕ → ℕ → ℕ → ℕ
unit_of t start i = u16_at t (start + 2 * i)

-- of n units so many are left: where the last is zero, as many as are left without it
unfoldable pub kept_of : (ℕ → ℕ) → ℕ → ℕ
kept_of unit zero = 0
kept_of unit (suc n) = cond (eqb (unit n) 0) (kept_of unit n) (suc n)

-- that says: of n units the first m are left, if all behind them are zero and the last of them is not
pub record Cut (unit : ℕ → ℕ) (n m : ℕ) : Type 0 where
  pub within : m ≤ n
  pub zeros : (i : ℕ) → m ≤ i → i < n → unit i ≡ 0
  pub last : (i : ℕ) → suc i ≡ m → unit i ≡ 0 → ⊥
