-- The blends of corners: a mix fits 32 bits, an entry is read as the definition has it, and channels stand one after the other.
-- Assumes nothing.
use Prim.Native.Nat.{ℕ, zero, suc, ◌+◌, ◌-◌, ◌*◌, ◌/◌, ◌^◌, ◌≤◌, ◌<◌}
use native.Mathlib.Omega.{arith}
use native.Mathlib.Nat.{mul-le-mul_right, add-zero, sub-zero}
use native.Mathlib.Numerals.{add-one}
use mathlib.Core.Path.{◌≡◌, refl, sym, ap, ◌∙◌}
use mathlib.Core.List.{List, [], ◌∷◌, ◌++◌}
use lib.ListN.{length, get_or, set, length-set}
use lib.Seq.{sets, length-sets}
use mir.Syntax.{w16, w32, w64}
use mir.Val.{Fits}
use Rattle.evaluate_meaning.specs.Colour.{blend, sample_at}
use Rattle.evaluate_meaning.proofs.Blend.{blend_none, blend_small, sum_small, nearest}
use Rattle.evaluate.specs.Corners.{line_of, plane_of, cube_of, four_of, channels_of, Reach, Wrote}

-- ---- a mix

module _ (low high r : ℕ) (a : low < 65536) (b : high < 65536) (l : r < 65536) where
  sum_most : low * (65535 - r) + high * r ≤ 65535 * 65535
  sum_most = sum_small low high r a b (omega arith)

  pub low_fits : Fits w32 (low * (65535 - r))
  low_fits = record { fits = omega (arith, sum_most) }

  pub high_fits : Fits w32 (high * r)
  high_fits = record { fits = omega (arith, sum_most) }

  pub sum_fits : Fits w32 (low * (65535 - r) + high * r)
  sum_fits = record { fits = omega (arith, sum_most) }

  module _ (h : ℕ) (k : h ≤ 32768) where
    pub half_fits : Fits w32 (low * (65535 - r) + high * r + h)
    half_fits = record { fits = omega (arith, sum_most) }

    pub carry_fits : Fits w32 (low * (65535 - r) + high * r + h + (low * (65535 - r) + high * r + h) / 65536)
    carry_fits = record { fits = omega (arith, sum_most) }

  pub mixed : (low * (65535 - r) + high * r + 32768 + (low * (65535 - r) + high * r + 32768) / 65536) / 65536 ≡ blend low high r
  unfolding blend
  mixed = nearest (low * (65535 - r) + high * r) sum_most

  pub mixed_fits : Fits w16 ((low * (65535 - r) + high * r + 32768 + (low * (65535 - r) + high * r + 32768) / 65536) / 65536)
  mixed_fits = record { fits = omega (arith, mixed, blend_small low high r a b (omega arith)) }

pub ruleset mix-fits = (low_fits, high_fits, sum_fits, half_fits, carry_fits, mixed_fits)

-- ---- an entry: one byte stands for both

module _ (t : List ℕ) (at hop a b : ℕ) (h : hop ≤ 1) (e : a ≡ get_or t at 0) (l : a < 256) (f : b ≡ get_or t (at + hop) 0) (m : b < 256) where
  pub sampled : a * 256 + b ≡ sample_at t at (hop + 1)
  unfolding sample_at
  sampled = by_hop hop h f
    where
      by_hop : (k : ℕ) → k ≤ 1 → b ≡ get_or t (at + k) 0 → a * 256 + b ≡ sample_at t at (k + 1)
      by_hop zero _ g =
          let z : at + 0 ≡ at = omega arith in
          let n : b ≡ get_or t at 0 = rw z at g in
          omega arith
      by_hop (suc zero) _ g = rw (← e, ← g)
      by_hop (suc (suc k)) n g = absurd (omega arith)

-- ---- blends of blends

module _ (t : List ℕ) (size at u r y low high : ℕ) where
  pub lined : low ≡ sample_at t at size → high ≡ sample_at t (at + u) size → y ≡ blend low high r → y ≡ line_of t size at u r
  unfolding line_of
  lined a b e = rw (← a, ← b) e

  module _ (v s : ℕ) where
    pub planed : low ≡ line_of t size at u r → high ≡ line_of t size (at + v) u r → y ≡ blend low high s → y ≡ plane_of t size at u r v s
    unfolding plane_of
    planed a b e = rw (← a, ← b) e

    module _ (w q : ℕ) where
      pub cubed : low ≡ plane_of t size at u r v s → high ≡ plane_of t size (at + w) u r v s → y ≡ blend low high q → y ≡ cube_of t size at u r v s w q
      unfolding cube_of
      cubed a b e = rw (← a, ← b) e

      pub foured : (z p : ℕ) → low ≡ cube_of t size at u r v s w q → high ≡ cube_of t size (at + z) u r v s w q → y ≡ blend low high p → y ≡ four_of t size at u r v s w q z p
      unfolding four_of
      foured z p a b e = rw (← a, ← b) e

-- a dimension with rest 0 adds nothing

pub cube_four : (t : List ℕ) (size at u r v s w q z : ℕ) → cube_of t size at u r v s w q ≡ four_of t size at u r v s w q z 0
unfolding four_of
cube_four t size at u r v s w q z = sym (blend_none (cube_of t size at u r v s w q) (cube_of t size (at + z) u r v s w q))

plane_four : (t : List ℕ) (size at u r v s : ℕ) → plane_of t size at u r v s ≡ four_of t size at u r v s 0 0 0 0
unfolding cube_of
plane_four t size at u r v s = sym (blend_none (plane_of t size at u r v s) (plane_of t size (at + 0) u r v s)) ∙ cube_four t size at u r v s 0 0 0

line_four : (t : List ℕ) (size at u r : ℕ) → line_of t size at u r ≡ four_of t size at u r 0 0 0 0 0 0
unfolding plane_of
line_four t size at u r = sym (blend_none (line_of t size at u r) (line_of t size (at + 0) u r)) ∙ plane_four t size at u r 0 0

-- ---- channels written out

module _ (o : List ℕ) (to a : ℕ) where
  pub second_in : to + 3 ≤ length o → to + 1 < length (set o to a)
  second_in l = omega (arith, length-set o to a)

  pub second_of_four : to + 4 ≤ length o → to + 1 < length (set o to a)
  second_of_four l = second_in (omega arith)

  module _ (b : ℕ) where
    pub third_in : to + 3 ≤ length o → to + 2 < length (set (set o to a) (to + 1) b)
    third_in l = omega (arith, length-set (set o to a) (to + 1) b, length-set o to a)

    pub third_of_four : to + 4 ≤ length o → to + 2 < length (set (set o to a) (to + 1) b)
    third_of_four l = third_in (omega arith)

    pub fourth_in : (c : ℕ) → to + 4 ≤ length o → to + 3 < length (set (set (set o to a) (to + 1) b) (to + 2) c)
    fourth_in c l = omega (arith, length-set (set (set o to a) (to + 1) b) (to + 2) c, length-set (set o to a) (to + 1) b, length-set o to a)

pub ruleset places-in = (second_in, third_in, second_of_four, third_of_four, fourth_in)

module _ (t : List ℕ) (size at u r v s w q z p : ℕ) (o : List ℕ) (to a b c : ℕ) (e : a ≡ four_of t size at u r v s w q z p)
    (f : b ≡ four_of t size (at + size) u r v s w q z p) (g : c ≡ four_of t size (at + size + size) u r v s w q z p) where
  pub three_of : set (set (set o to a) (to + 1) b) (to + 2) c ≡ sets o to (channels_of t size at u r v s w q z p 3)
  unfolding channels_of
  three_of =
      let i : to + 1 ≡ suc to = add-one to in
      let j : to + 2 ≡ suc (suc to) = omega arith in
      rw (← e, ← f, ← g, i, j)

  four_of_lem : (d : ℕ) → d ≡ four_of t size (at + size + size + size) u r v s w q z p → set (set (set (set o to a) (to + 1) b) (to + 2) c) (to + 3) d ≡ sets o to (channels_of t size at u r v s w q z p 4)
  unfolding channels_of
  four_of_lem d h =
      let i : to + 1 ≡ suc to = add-one to in
      let j : to + 2 ≡ suc (suc to) = omega arith in
      let k : to + 3 ≡ suc (suc (suc to)) = omega arith in
      rw (← e, ← f, ← g, ← h, i, j, k)

module _ (t : List ℕ) (size at u r : ℕ) (o : List ℕ) (to a b c : ℕ) where
  pub three_lines : a ≡ line_of t size at u r → b ≡ line_of t size (at + size) u r → c ≡ line_of t size (at + size + size) u r
      → set (set (set o to a) (to + 1) b) (to + 2) c ≡ sets o to (channels_of t size at u r 0 0 0 0 0 0 3)
  three_lines e f g =
      three_of t size at u r 0 0 0 0 0 0 o to a b c (e ∙ line_four t size at u r)
      (f ∙ line_four t size (at + size) u r) (g ∙ line_four t size (at + size + size) u r)

  pub three_planes : (v s : ℕ) → a ≡ plane_of t size at u r v s → b ≡ plane_of t size (at + size) u r v s → c ≡ plane_of t size (at + size + size) u r v s
      → set (set (set o to a) (to + 1) b) (to + 2) c ≡ sets o to (channels_of t size at u r v s 0 0 0 0 3)
  three_planes v s e f g =
      three_of t size at u r v s 0 0 0 0 o to a b c (e ∙ plane_four t size at u r v s)
      (f ∙ plane_four t size (at + size) u r v s) (g ∙ plane_four t size (at + size + size) u r v s)

  pub three_cubes : (v s w q : ℕ) → a ≡ cube_of t size at u r v s w q → b ≡ cube_of t size (at + size) u r v s w q → c ≡ cube_of t size (at + size + size) u r v s w q
      → set (set (set o to a) (to + 1) b) (to + 2) c ≡ sets o to (channels_of t size at u r v s w q 0 0 3)
  three_cubes v s w q e f g =
      three_of t size at u r v s w q 0 0 o to a b c (e ∙ cube_four t size at u r v s w q 0)
      (f ∙ cube_four t size (at + size) u r v s w q 0) (g ∙ cube_four t size (at + size + size) u r v s w q 0)

  pub four_cubes : (v s w q d : ℕ) → a ≡ cube_of t size at u r v s w q → b ≡ cube_of t size (at + size) u r v s w q → c ≡ cube_of t size (at + size + size) u r v s w q
      → d ≡ cube_of t size (at + size + size + size) u r v s w q
      → set (set (set (set o to a) (to + 1) b) (to + 2) c) (to + 3) d ≡ sets o to (channels_of t size at u r v s w q 0 0 4)
  four_cubes v s w q d e f g h =
      four_of_lem t size at u r v s w q 0 0 o to a b c (e ∙ cube_four t size at u r v s w q 0)
      (f ∙ cube_four t size (at + size) u r v s w q 0) (g ∙ cube_four t size (at + size + size) u r v s w q 0)
      d (h ∙ cube_four t size (at + size + size + size) u r v s w q 0)

-- ---- by the bytes of an entry

one_byte : (hop : ℕ) → hop ≤ 1 → (hop ≡ 1 → ⊥) → hop ≡ 0
one_byte zero l n = refl
one_byte (suc k) l n = absurd (n (omega arith))

module _ (t : List ℕ) (hop at u r v s w q z p k : ℕ) (o : List ℕ) (to : ℕ) (o' : List ℕ) where
  pub by_words : hop ≡ 1 → o' ≡ sets o to (channels_of t 2 at u r v s w q z p k) → o' ≡ sets o to (channels_of t (hop + 1) at u r v s w q z p k)
  by_words h g = rw h g

  pub by_bytes : hop ≤ 1 → (hop ≡ 1 → ⊥) → o' ≡ sets o to (channels_of t 1 at u r v s w q z p k) → o' ≡ sets o to (channels_of t (hop + 1) at u r v s w q z p k)
  by_bytes l n g = let h : hop ≡ 0 = one_byte hop l n in rw h g

pub ruleset by_size = (by_words, by_bytes)

-- ---- no fourth dimension

flat : (t : List ℕ) (size at u r v s w q z k : ℕ) → channels_of t size at u r v s w q 0 0 k ≡ channels_of t size at u r v s w q z 0 k
unfolding channels_of
flat t size at u r v s w q z zero = refl
flat t size at u r v s w q z (suc k) = rw (← cube_four t size at u r v s w q 0, ← cube_four t size at u r v s w q z, flat t size (at + size) u r v s w q z k)

pub flatly : (t : List ℕ) (size at u r v s w q z p k : ℕ) (o : List ℕ) (to : ℕ) (o' : List ℕ) → p ≡ 0 → o' ≡ sets o to (channels_of t size at u r v s w q 0 0 k)
    → o' ≡ sets o to (channels_of t size at u r v s w q z p k)
flatly t size at u r v s w q z p k o to o' e g = rw e (g ∙ ap (sets o to) (flat t size at u r v s w q z k))

-- ---- the next channels of those that are left

module _ (t : List ℕ) (size at u r v s w q z p left : ℕ) (o : List ℕ) (to : ℕ) (o' : List ℕ) where
  pub wrote_four : p ≡ 0 → 4 ≤ left → o' ≡ sets o to (channels_of t size at u r v s w q 0 0 4) → Wrote t size at u r v s w q z p left 4 o to o'
  wrote_four e l g = record { some = omega arith; most = l; is = flatly t size at u r v s w q z p 4 o to o' e g }

  pub wrote_three : 3 ≤ left → o' ≡ sets o to (channels_of t size at u r v s w q z p 3) → Wrote t size at u r v s w q z p left 3 o to o'
  wrote_three l g = record { some = omega arith; most = l; is = g }

pub wrote_one : (t : List ℕ) (size at u r v s w q z p left : ℕ) (o : List ℕ) (to x : ℕ) → 1 ≤ left → x ≡ four_of t size at u r v s w q z p
    → Wrote t size at u r v s w q z p left 1 o to (set o to x)
unfolding channels_of
wrote_one t size at u r v s w q z p left o to x l e = record { some = omega arith; most = l; is = rw (← e) }

pub ruleset wrote = (wrote_four, wrote_three, wrote_one)

module _ (t : List ℕ) (hop at u v w z left : ℕ) (o : List ℕ) (to : ℕ) (g : Reach t hop at u v w z left o to) where
  left_in : (k : ℕ) → k ≤ left → at + u + v + w + z + k * (hop + 1) ≤ length t
  left_in k l = omega (arith, mul-le-mul_right (hop + 1) l, g.inside)

  pub four_left : 4 ≤ left → at + u + v + w + 4 * (hop + 1) ≤ length t
  four_left l = omega (arith, left_in 4 l)

  pub three_left : 3 ≤ left → at + u + v + w + z + 3 * (hop + 1) ≤ length t
  three_left l = left_in 3 l

  pub one_left : at + u + v + w + z + hop < length t
  one_left = omega (arith, left_in 1 g.any)

pub ruleset left-fits = (four_left, three_left, one_left)

-- ---- the loop over the channels

pub sets_append : (vs ws s : List ℕ) (o : ℕ) → sets s o (vs ++ ws) ≡ sets (sets s o vs) (o + length vs) ws
sets_append [] ws s o = rw add-zero
sets_append (v ∷ vs) ws s o =
    let e : o + suc (length vs) ≡ suc o + length vs = omega arith in
    sets_append vs ws (set s o v) (suc o) ∙ rw e

length_channels : (t : List ℕ) (size at u r v s w q z p k : ℕ) → length (channels_of t size at u r v s w q z p k) ≡ k
unfolding channels_of
length_channels t size at u r v s w q z p zero = refl
length_channels t size at u r v s w q z p (suc k) = ap suc (length_channels t size (at + size) u r v s w q z p k)

-- some channels, and those behind them
channels_split : (t : List ℕ) (size at u r v s w q z p j k : ℕ) → channels_of t size at u r v s w q z p (j + k) ≡ channels_of t size at u r v s w q z p j ++ channels_of t size (at + j * size) u r v s w q z p k
unfolding channels_of
channels_split t size at u r v s w q z p zero k = let e : at + 0 * size ≡ at = omega arith in let n : 0 + k ≡ k = omega arith in rw (e, n)
channels_split t size at u r v s w q z p (suc j) k =
    let e : at + suc j * size ≡ at + size + j * size = omega arith in
    let n : suc j + k ≡ suc (j + k) = omega arith in
    rw (e, n) (ap (λ (l : List ℕ). four_of t size at u r v s w q z p ∷ l) (channels_split t size (at + size) u r v s w q z p j k))

pub record Painting (t : List ℕ) (hop at u r v s w q z p outs : ℕ) (o₀ : List ℕ) (to : ℕ) (o : List ℕ) (place ch : ℕ) : Type 0 where
  pub within : ch ≤ outs
  pub long : length o ≡ length o₀
  pub is_at : place ≡ at + ch * (hop + 1)
  pub left : sets o (to + ch) (channels_of t (hop + 1) place u r v s w q z p (outs - ch)) ≡ sets o₀ to (channels_of t (hop + 1) at u r v s w q z p outs)

module _ (t : List ℕ) (hop at u r v s w q z p outs : ℕ) (o₀ : List ℕ) (to : ℕ) where
  pub paint_begins : Painting t hop at u r v s w q z p outs o₀ to o₀ at 0
  paint_begins = record { within = omega arith; long = refl; is_at = omega arith; left = rw (sub-zero, add-zero) }

  module _ (o : List ℕ) (place ch : ℕ) (y : Painting t hop at u r v s w q z p outs o₀ to o place ch) where
    module _ (h : ch < outs) where
      module _ (g : Reach t hop at u v w z outs o₀ to) where
        rest_in : place + u + v + w + z + (outs - ch) * (hop + 1) ≤ length t
        rest_in =
            let n : outs ≡ outs - ch + ch = omega (arith, y.within) in
            let e : outs * (hop + 1) ≡ (outs - ch) * (hop + 1) + ch * (hop + 1) = ap (λ (m : ℕ). m * (hop + 1)) n ∙ omega arith in
            omega (arith, y.is_at, g.inside)

        pub paint_reach : Reach t hop place u v w z (outs - ch) o (to + ch)
        paint_reach =
            record {
              inside = rest_in;
              room = omega (arith, y.long, y.within, g.room);
              any = omega arith;
              small = g.small;
            }

        pub to_fits : length o₀ < 2 ^ 64 → Fits w64 (to + ch)
        to_fits l = record { fits = omega (arith, y.within, g.room) }

        module _ (n : ℕ) (o' : List ℕ) (x : Wrote t (hop + 1) place u r v s w q z p (outs - ch) n o (to + ch) o') where
          step_in : place + n * (hop + 1) ≤ length t
          step_in = omega (arith, rest_in, mul-le-mul_right (hop + 1) x.most)

          pub step_fits : length t < 2 ^ 64 → Fits w64 (n * (hop + 1))
          step_fits l = record { fits = omega (arith, step_in) }

          pub place_fits : length t < 2 ^ 64 → Fits w64 (place + n * (hop + 1))
          place_fits l = record { fits = omega (arith, step_in) }

      module _ (n : ℕ) (o' : List ℕ) (x : Wrote t (hop + 1) place u r v s w q z p (outs - ch) n o (to + ch) o') where
        pub channel_fits : outs < 2 ^ 64 → Fits w64 (ch + n)
        channel_fits l = record { fits = omega (arith, x.most, y.within) }

        pub paint_less : outs - (ch + n) < outs - ch
        paint_less = omega (arith, x.some, x.most)

        pub paint_turns : Painting t hop at u r v s w q z p outs o₀ to o' (place + n * (hop + 1)) (ch + n)
        paint_turns =
            let vs : List ℕ = channels_of t (hop + 1) place u r v s w q z p n in
            let k : outs - ch ≡ n + (outs - (ch + n)) = omega (arith, x.most) in
            let m : length vs ≡ n = length_channels t (hop + 1) place u r v s w q z p n in
            let j : to + (ch + n) ≡ to + ch + length vs = omega (arith, m) in
            let split : sets o (to + ch) (vs ++ channels_of t (hop + 1) (place + n * (hop + 1)) u r v s w q z p (outs - (ch + n))) ≡ sets o₀ to (channels_of t (hop + 1) at u r v s w q z p outs) = rw (k, channels_split t (hop + 1) place u r v s w q z p n (outs - (ch + n))) at y.left in
            record {
              within = omega (arith, x.most, y.within);
              long = ap length x.is ∙ length-sets o (to + ch) vs ∙ y.long;
              is_at = omega (arith, y.is_at);
              left = rw (j, x.is) (sym (sets_append vs (channels_of t (hop + 1) (place + n * (hop + 1)) u r v s w q z p (outs - (ch + n))) o (to + ch)) ∙ split);
            }

    pub paint_ends : outs ≤ ch → o ≡ sets o₀ to (channels_of t (hop + 1) at u r v s w q z p outs)
    unfolding channels_of
    paint_ends h = let n : outs - ch ≡ 0 = omega arith in rw n at y.left

pub ruleset paint-fits = (step_fits, place_fits, to_fits, channel_fits)
