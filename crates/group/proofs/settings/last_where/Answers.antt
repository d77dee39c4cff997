-- The numbers below `g` give what all of them do.
use Rattle.std.proofs.Common.{◌≡◌, ℕ, true, false, ◌-◌, sym, ◌∙◌, arith}
use Rattle.group.proofs.Loops.{last_more, last_end}
use Rattle.group.proofs.settings.last_where.Goals as goal

pub returns-then-test : goal.returns-then-test
returns-then-test g c = λ p same.
    let k : ℕ = c.loop-g.g - 1 in
    let is : c.test.result ≡ p k = same k c.test.result (omega arith) c.test.ensures in
    let yes : p k ≡ true = sym is ∙ c.if-test.true in
    sym (c.loop-g.invariant p same ∙ last_more p c.loop-g.g (omega arith) ∙ rw yes)

pub loop-g-preserved : goal.loop-g-preserved
loop-g-preserved g c = λ p same.
    let k : ℕ = c.loop-g.g - 1 in
    let is : c.test.result ≡ p k = same k c.test.result (omega arith) c.test.ensures in
    let no : p k ≡ false = sym is ∙ c.if-test.false in
    c.loop-g.invariant p same ∙ last_more p c.loop-g.g (omega arith) ∙ rw no

pub returns : goal.returns
returns g c = λ p same.
    let none : c.loop-g.g ≡ 0 = omega arith in
    sym (c.loop-g.invariant p same ∙ rw none (last_end p))
