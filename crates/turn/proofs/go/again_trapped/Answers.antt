-- `go::again_trapped` meets its contract: by its calls and its tests. Assumes nothing.
use Rattle.turn.specs.Retry.{again_at}
use borrow.Author.Tests.{eq-eqb, ne_eqb}
use Rattle.turn.proofs.go.again_trapped.Goals as goal

pub returns-then-left-eq0 : goal.returns-then-left-eq0
unfolding again_at
returns-then-left-eq0 c =
    let h1 = eq-eqb _ _ c.if-left-eq0.true in
    simp (h1)

pub returns-in-Some : goal.returns-in-Some
unfolding again_at
returns-in-Some c =
    let h1 = ne_eqb _ _ c.if-left-eq0.false in
    let e1 = c.front_at.ensures in
    let h2 = simp (e1) at c.in-Some.is in
    let e2 = c.slot_at-slot.ensures in
    let e3 = c.hand-hand.ensures in
    let e4 = c.again_first.ensures in
    simp (e1, e2, e3, e4, h1, h2)

pub returns-in-None : goal.returns-in-None
unfolding again_at
returns-in-None c =
    let h1 = ne_eqb _ _ c.if-left-eq0.false in
    let e1 = c.front_at.ensures in
    let h2 = simp (e1) at c.in-None.is in
    simp (e1, h1, h2)
