-- What a choice by a test has, what one check behind another has, and what two tests together say.
-- Assumes nothing.
use Prim.Native.Nat.{ℕ}
use mathlib.Core.Path.{◌≡◌, refl}
use mathlib.Core.Bool.{Bool, true, false, cond, ◌&&◌, ◌||◌, false≢true, true≢false}
use Rattle.fields.proofs.Never.{never}
use Rattle.fields.specs.Checked.{Checked, good, bad, and_then}

-- what holds of both choices
pub each : {A : Type 0} (P : A → Type 0) (t : Bool) (a b : A) → (t ≡ true → P a) → (t ≡ false → P b) → P (cond t a b)
each P true a b f g = f refl
each P false a b f g = g refl

-- what holds of each refusal of a check, and of what comes behind it
pub through : {A B : Type 0} (P : Checked B → Type 0) (c : Checked A) (next : Checked B) → ((n : ℕ) → c ≡ bad n → P (bad n)) → ((x : A) → c ≡ good x → P next) → P (and_then c next)
through P (good x) next f g = g x refl
through P (bad n) next f g = f n refl

-- what is refused is not good
pub refused_good : {A B : Type 0} {n : ℕ} {x : A} → bad n ≡ good x → B
refused_good e = never cc

-- where two tests hold together, each does
pub first_holds : (a b : Bool) → a && b ≡ true → a ≡ true
first_holds true b e = refl
first_holds false b e = e

pub second_holds : (a b : Bool) → a && b ≡ true → b ≡ true
second_holds true b e = e
second_holds false b e = absurd (false≢true e)

-- where the first test holds and both together do not, the second does not
pub second_fails : (a b : Bool) → a && b ≡ false → a ≡ true → b ≡ false
second_fails true b h e = h
second_fails false b h e = absurd (false≢true e)

-- where one test or the other would do and neither holds
pub neither_left : (a b : Bool) → a || b ≡ false → a ≡ false
neither_left true b e = e
neither_left false b e = refl

pub neither_right : (a b : Bool) → a || b ≡ false → b ≡ false
neither_right true b e = absurd (true≢false e)
neither_right false b e = e
