-- A loop that stores a row of words one behind the other, as far as there is room: what is left to store makes of the list what the whole row
-- makes of it.
-- Assumes nothing.
use Prim.Native.Nat.{ℕ, ◌+◌, ◌≤◌, ◌<◌}
use native.Mathlib.Numerals.{add-one}
use mathlib.Core.Path.{◌≡◌, refl, sym, ◌∙◌}
use mathlib.Core.List.{List}
use lib.ListN.{length, get_or, drop, set, length-set, drop_of_length-le}
use lib.Seq.{sets, drop-cons}
use Rattle.fields.proofs.Stores.{sets_past}

-- i of the words are stored
pub record Putting (l : List ℕ) (at : ℕ) (ws l' : List ℕ) (end i : ℕ) : Type 0 where
  pub same : length l' ≡ length l
  pub left : sets l' end (drop i ws) ≡ sets l at ws

module _ (l : List ℕ) (at : ℕ) (ws : List ℕ) where
  pub begins : Putting l at ws l at 0
  begins = record { same = refl; left = refl }

  module _ (l' : List ℕ) (end i : ℕ) (p : Putting l at ws l' end i) where
    pub turns : (w : ℕ) → i < length ws → w ≡ get_or ws i 0 → Putting l at ws (set l' end w) (end + 1) (i + 1)
    turns w h e =
        record {
          same = length-set l' end w ∙ p.same;
          left = rw e (simp add-one (rw (drop-cons ws i 0 h) at p.left));
        }

    -- no room is left
    pub full : length l' ≤ end → l' ≡ sets l at ws
    full h = sym (sets_past (drop i ws) l' end h) ∙ p.left

    -- nothing is left to store
    pub done : length ws ≤ i → l' ≡ sets l at ws
    done h = rw (drop_of_length-le ws {i = i} h) at p.left
