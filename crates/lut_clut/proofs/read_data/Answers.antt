-- `lut_clut::read_data` meets its contract: each way out is a law of `data_of`.
-- Assumes nothing.
use mathlib.Core.Logic.{inl, inr}
use mathlib.Core.Path.{ap, ◌∙◌}
use Prim.Native.Nat.{ℕ, ◌*◌, ◌≤◌, ◌<◌}
use native.Mathlib.Omega.{arith}
use Rattle.std.proofs.lemmas.Bool.Decides.{nat_tests}
use Rattle.lut_clut.proofs.Laws.{data_none, data_three, data_past, data_value, length_fits}
use Rattle.lut_clut.proofs.read_data.Goals as goal

pub returns-then-not-contains : goal.returns-then-not-contains
returns-then-not-contains c =
    let s : ℕ = c.u8_at-entry_size.result in
    elim c.if-not-contains.ensures.cases [
      | inl e ↦ data_none _ _ _ c.requires _ c.u8_at-entry_size.ensures (let e₁ = rw c.new.ensures.start at e in grind (arith, nat_tests))
      | inr e ↦ let e₂ = rw c.new.ensures.end at e in let two : 2 < s = grind (arith, nat_tests) in data_three _ _ _ c.requires _ c.u8_at-entry_size.ensures (omega arith) two
    ]

pub overflow_mul-length : goal.overflow_mul-length
overflow_mul-length c =
    let e = rw c.new.ensures.end at c.if-not-contains.ensures.cases.1 in
    let two : c.u8_at-entry_size.result ≤ 2 = grind (arith, nat_tests) in
    length_fits _ _ c.args.counts c.requires _ c.u8_at-entry_size.ensures _ (ap (λ (n : ℕ). c.args.counts.entries * n) c.from.ensures) two

pub returns-then-tag-start : goal.returns-then-tag-start
returns-then-tag-start c =
    let d = rw c.new.ensures.start at c.if-not-contains.ensures.cases.0 in
    let e = rw c.new.ensures.end at c.if-not-contains.ensures.cases.1 in
    let one : 1 ≤ c.u8_at-entry_size.result = grind (arith, nat_tests) in
    let two : c.u8_at-entry_size.result ≤ 2 = grind (arith, nat_tests) in
    data_past _ _ _ c.requires _ c.u8_at-entry_size.ensures one two _ (c.from-2.ensures ∙ ap (λ (n : ℕ). c.args.counts.entries * n) c.from.ensures) c.if-tag-start.true

pub returns : goal.returns
returns c =
    let d = rw c.new.ensures.start at c.if-not-contains.ensures.cases.0 in
    let e = rw c.new.ensures.end at c.if-not-contains.ensures.cases.1 in
    let one : 1 ≤ c.u8_at-entry_size.result = grind (arith, nat_tests) in
    let two : c.u8_at-entry_size.result ≤ 2 = grind (arith, nat_tests) in
    data_value _ _ _ c.requires _ c.u8_at-entry_size.ensures one two _ (ap (λ (n : ℕ). c.args.counts.entries * n) c.from.ensures) (omega (arith, c.from-2.ensures))
