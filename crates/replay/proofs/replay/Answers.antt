-- `replay` meets its contract: blank tables are lent, and the count is put at the front at the end. Assumes nothing.
use Rattle.replay.proofs.PlayLaws.{replay_small, count_room, replay_whole}
use Rattle.replay.specs.Replay.{blank}
use mathlib.Core.Path.{refl}
use Rattle.replay.proofs.replay.Goals as goal

pub returns-then-out-lt8 : goal.returns-then-out-lt8
returns-then-out-lt8 c = replay_small _ _ _ _ c.if-out-lt8.true

pub play-done-requires : goal.play-done-requires
unfolding blank
play-done-requires c = (refl, refl, refl, refl, refl, refl, refl)

pub overflow_sub-done : goal.overflow_sub-done
overflow_sub-done c = count_room _ _ _ _ c.play-done.ensures

pub returns : goal.returns
returns c =
    let if1 = c.if-out-lt8 in
    let play = c.play-done in
    let output-numbers = c.output_numbers in
    replay_whole _ _ _ _ play.ensures if1.false output-numbers.ensures
