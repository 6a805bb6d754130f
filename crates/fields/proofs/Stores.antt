-- Stores one behind the other: two rows of them make one, those past the end change nothing, a part that is written goes back in its place,
-- and a loop that fills a list.
-- Assumes nothing.
use Prim.Native.Nat.{ℕ, zero, suc, ◌+◌, ◌-◌, ◌≤◌, ◌<◌}
use native.Mathlib.Omega.{arith}
use native.Mathlib.Nat.{zero-add, add-zero, add-suc, suc-add}
use native.Mathlib.Numerals.{add-one}
use mathlib.Core.Path.{◌≡◌, refl, sym, ap, ◌∙◌}
use mathlib.Core.List.{List, [], ◌∷◌, ◌++◌, append-nil, append_assoc}
use lib.ListN.{length, get_or, take, drop, set, length-drop, drop_of_length-le, take-append-drop}
use lib.Seq.{sets, sets-eq, drop-cons, drop-drop, drop-append-le, length-take-le}
use borrow.Rule.Slice.PartMut.{put_mid}

pub sets_append : (xs ys l : List ℕ) (i : ℕ) → sets l i (xs ++ ys) ≡ sets (sets l i xs) (i + length xs) ys
sets_append [] ys l i = rw add-zero
sets_append (x ∷ xs) ys l i = rw (add-suc, ← suc-add) (sets_append xs ys (set l i x) (suc i))

-- a store past the end changes nothing
set_past : (l : List ℕ) (i a : ℕ) → length l ≤ i → set l i a ≡ l
set_past [] i a h = refl
set_past (x ∷ l) zero a h = absurd (omega arith)
set_past (x ∷ l) (suc i) a h = ap (λ (k : List ℕ). x ∷ k) (set_past l i a (omega arith))

pub sets_past : (vs l : List ℕ) (i : ℕ) → length l ≤ i → sets l i vs ≡ l
sets_past [] l i h = refl
sets_past (a ∷ vs) l i h = rw (set_past l i a h) (sets_past vs l (suc i) (omega arith))

-- what is written from the first on
pub front : (s vs : List ℕ) (n : ℕ) → length vs ≡ n → n ≤ length s → vs ++ drop n s ≡ sets s 0 vs
front s vs n e h = sym (sets-eq vs s 0 (omega arith) ∙ rw (zero-add, e))

-- the part of s from a to b, with vs written in front of it, back in its place
pub put_back : (s vs y : List ℕ) (a b : ℕ) → a ≤ b → b ≤ length s → length vs ≤ b - a → y ≡ sets (take (b - a) (drop a s)) 0 vs → put_mid a (b - a) s y ≡ sets s a vs
put_back s vs y a b h m n f =
    let rest : List ℕ = drop a s in
    let part : List ℕ = take (b - a) rest in
    let long : length part ≡ b - a = length-take-le (b - a) rest (simp length-drop (omega arith)) in
    let g : y ≡ vs ++ drop (length vs) part = f ∙ sym (front part vs (length vs) refl (omega (arith, long))) in
    let behind : drop (length vs) part ++ drop (b - a) rest ≡ drop (a + length vs) s = sym (drop-append-le (length vs) part (drop (b - a) rest) (omega (arith, long))) ∙ ap (drop (length vs)) (take-append-drop (b - a) rest) ∙ drop-drop (length vs) a s in
    ap (λ (z : List ℕ). take a s ++ (z ++ drop (b - a) rest)) g
    ∙ ap (λ (z : List ℕ). take a s ++ z) (append_assoc vs (drop (length vs) part) (drop (b - a) rest))
    ∙ ap (λ (z : List ℕ). take a s ++ (vs ++ z)) behind
    ∙ sym (append_assoc (take a s) vs (drop (a + length vs) s))
    ∙ sym (sets-eq vs s a (omega arith))

-- the same of the part from a on
pub rejoined : (s vs : List ℕ) (a n : ℕ) → length vs ≡ n → a + n ≤ length s → (y : List ℕ) → y ≡ vs ++ drop n (take (length s - a) (drop a s)) → put_mid a (length s - a) s y ≡ sets s a vs
rejoined s vs a n e h y f =
    let long : length (take (length s - a) (drop a s)) ≡ length s - a = length-take-le (length s - a) (drop a s) (simp length-drop (omega arith)) in
    put_back s vs y a (length s) (omega arith) (omega arith) (omega arith) (f ∙ front (take (length s - a) (drop a s)) vs n e (omega (arith, long)))

-- ---- a loop that fills a list with a row ws: what is left to store makes of it the row

module _ (ws : List ℕ) where
  pub fill_begins : (l : List ℕ) → length l ≡ length ws → sets l 0 (drop 0 ws) ≡ ws
  fill_begins l h = sets-eq ws l 0 (omega arith) ∙ rw (zero-add, drop_of_length-le l {i = length ws} (omega arith)) (append-nil ws)

  pub fill_turns : (l : List ℕ) (i v : ℕ) → i < length ws → v ≡ get_or ws i 0 → sets l i (drop i ws) ≡ ws → sets (set l i v) (i + 1) (drop (i + 1) ws) ≡ ws
  fill_turns l i v h e w = rw (add-one, e) (rw (drop-cons ws i 0 h) at w)

  pub fill_ends : (l : List ℕ) (i : ℕ) → length ws ≤ i → sets l i (drop i ws) ≡ ws → l ≡ ws
  fill_ends l i h w = rw (drop_of_length-le ws {i = i} h) at w
