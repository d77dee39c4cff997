-- `play::step` meets its contract: by the call, each the definition of what was called. Assumes nothing.
use Rattle.std.proofs.Common.{rules}
use Rattle.theorem.specs.Rail.{call_of}
use Rattle.replay.proofs.play.step.Goals as goal

pub returns-in-Admit : goal.returns-in-Admit
unfolding call_of
returns-in-Admit c =
    let kind = c.in-Admit in
    let admit = c.admit in
    simp kind.is (admit.ensures _ _)

pub returns-in-Turn : goal.returns-in-Turn
unfolding call_of
returns-in-Turn c =
    let enum_told = c.in-Turn in
    let turn = c.turn in
    simp enum_told.is turn.ensures

pub returns-in-Reply : goal.returns-in-Reply
unfolding call_of
returns-in-Reply c =
    let kind2 = c.in-Reply in
    let reply = c.reply in
    simp kind2.is reply.ensures

pub returns-in-Sync : goal.returns-in-Sync
unfolding call_of
returns-in-Sync c = simp c.in-Sync.is (search rules)

pub returns-in-Close : goal.returns-in-Close
unfolding call_of
returns-in-Close c = simp c.in-Close.is (c.close.ensures _ _ _ _ _ _ _ _)
