-- `lut_view::entry_by_number` meets its contract: each way out is a law of `entry_from`.
-- Assumes nothing.
use Prim.Native.Nat.{ℕ, ◌+◌, ◌*◌, ◌^◌, ◌≤◌, ◌<◌}
use mathlib.Core.Path.{◌≡◌, ap, ◌∙◌}
use mathlib.Core.Logic.{inl, inr}
use lib.ListN.{length, get_or}
use Rattle.fields.specs.Bytes.{u16_at}
use native.Mathlib.Omega.{arith}
use borrow.Author.Rules.{rules}
use Rattle.std.proofs.lemmas.Bool.Decides.{nat_tests}
use Rattle.lut_view.proofs.Laws.{from_none, from_three, past, from_one, from_two}
use Rattle.lut_view.proofs.entry_by_number.Goals as goal

pub returns-then-not-contains : goal.returns-then-not-contains
returns-then-not-contains c =
    let s : ℕ = c.args.numbers.entry_size in
    elim c.if-not-contains.ensures.cases [
      | inl e ↦ let e₁ = rw c.new.ensures.start at e in from_none _ _ _ _ (grind (arith, nat_tests))
      | inr e ↦ let e₂ = rw c.new.ensures.end at e in let two : 2 < s = grind (arith, nat_tests) in from_three _ _ _ _ (omega arith) two
    ]

pub returns-in_err-room : goal.returns-in_err-room
returns-in_err-room c =
    let d = rw c.new.ensures.start at c.if-not-contains.ensures.cases.0 in
    let e = rw c.new.ensures.end at c.if-not-contains.ensures.cases.1 in
    let one : 1 ≤ c.args.numbers.entry_size = grind (arith, nat_tests) in
    let two : c.args.numbers.entry_size ≤ 2 = grind (arith, nat_tests) in
    let over : c.args.numbers.start.0 ≤ length c.args.tag.now → ⊥ = c.in_err-room.ensures in
    rw c.from_residual.ensures (past c.args.tag.now c.args.numbers.start.0 c.args.numbers.entry_size c.args.number one two (omega arith))

pub returns-in_err-before : goal.returns-in_err-before
returns-in_err-before c =
    let d = rw c.new.ensures.start at c.if-not-contains.ensures.cases.0 in
    let e = rw c.new.ensures.end at c.if-not-contains.ensures.cases.1 in
    let one : 1 ≤ c.args.numbers.entry_size = grind (arith, nat_tests) in
    let two : c.args.numbers.entry_size ≤ 2 = grind (arith, nat_tests) in
    let short : length c.args.tag.now * 1 < 2 ^ 63 = search rules in
    let over : c.args.number * c.from.result < 2 ^ 64 → ⊥ = c.in_err-before.ensures in
    let same : c.args.number * c.from.result ≡ c.args.number * c.args.numbers.entry_size = ap (λ (n : ℕ). c.args.number * n) c.from.ensures in
    rw c.from_residual-in_err-before.ensures (past c.args.tag.now c.args.numbers.start.0 c.args.numbers.entry_size c.args.number one two (omega arith))

pub returns-in_err-checked_add : goal.returns-in_err-checked_add
returns-in_err-checked_add c =
    let d = rw c.new.ensures.start at c.if-not-contains.ensures.cases.0 in
    let e = rw c.new.ensures.end at c.if-not-contains.ensures.cases.1 in
    let one : 1 ≤ c.args.numbers.entry_size = grind (arith, nat_tests) in
    let two : c.args.numbers.entry_size ≤ 2 = grind (arith, nat_tests) in
    let short : length c.args.tag.now * 1 < 2 ^ 63 = search rules in
    let over : c.in_ok-before.before + c.from-2.result < 2 ^ 64 → ⊥ = c.in_err-checked_add.ensures in
    let before : c.in_ok-before.before ≡ c.args.number * c.args.numbers.entry_size = c.in_ok-before.ensures.1 ∙ ap (λ (n : ℕ). c.args.number * n) c.from.ensures in
    rw c.from_residual-in_err-checked_add.ensures (past c.args.tag.now c.args.numbers.start.0 c.args.numbers.entry_size c.args.number one two (omega arith))

pub returns-then-branch : goal.returns-then-branch
returns-then-branch c =
    let d = rw c.new.ensures.start at c.if-not-contains.ensures.cases.0 in
    let e = rw c.new.ensures.end at c.if-not-contains.ensures.cases.1 in
    let one : 1 ≤ c.args.numbers.entry_size = grind (arith, nat_tests) in
    let two : c.args.numbers.entry_size ≤ 2 = grind (arith, nat_tests) in
    let before : c.in_ok-before.before ≡ c.args.number * c.args.numbers.entry_size = c.in_ok-before.ensures.1 ∙ ap (λ (n : ℕ). c.args.number * n) c.from.ensures in
    past c.args.tag.now c.args.numbers.start.0 c.args.numbers.entry_size c.args.number one two (omega (arith, c.in_ok-room.ensures, c.in_ok-checked_add.ensures))

pub returns-then-size-eq1 : goal.returns-then-size-eq1
returns-then-size-eq1 c =
    let before : c.in_ok-before.before ≡ c.args.number * c.args.numbers.entry_size = c.in_ok-before.ensures.1 ∙ ap (λ (n : ℕ). c.args.number * n) c.from.ensures in
    from_one c.args.tag.now c.args.numbers.start.0 c.args.numbers.entry_size c.args.number (omega arith) (omega arith) (omega (arith, c.in_ok-room.ensures)) (omega (arith, c.in_ok-room.ensures, c.in_ok-checked_add.ensures)) _ c.if-size-eq1.true (c.from-then-size-eq1.ensures ∙ c.u8_at.ensures ∙ ap (λ (n : ℕ). get_or c.args.tag.now (c.args.numbers.start.0 + n) 0) before)

pub returns : goal.returns
returns c =
    let d = rw c.new.ensures.start at c.if-not-contains.ensures.cases.0 in
    let e = rw c.new.ensures.end at c.if-not-contains.ensures.cases.1 in
    let one : 1 ≤ c.args.numbers.entry_size = grind (arith, nat_tests) in
    let two : c.args.numbers.entry_size ≤ 2 = grind (arith, nat_tests) in
    let before : c.in_ok-before.before ≡ c.args.number * c.args.numbers.entry_size = c.in_ok-before.ensures.1 ∙ ap (λ (n : ℕ). c.args.number * n) c.from.ensures in
    from_two c.args.tag.now c.args.numbers.start.0 c.args.numbers.entry_size c.args.number one two (omega (arith, c.in_ok-room.ensures)) (omega (arith, c.in_ok-room.ensures, c.in_ok-checked_add.ensures)) _ c.if-size-eq1.false (c.u16_at.ensures ∙ ap (λ (n : ℕ). u16_at c.args.tag.now (c.args.numbers.start.0 + n)) before)
