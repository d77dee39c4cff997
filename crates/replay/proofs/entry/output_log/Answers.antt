-- By the test; the part begins at 0, so it is the first bytes.
use mathlib.Core.Path.{◌≡◌, refl, ap, ◌∙◌}
use Prim.Native.Nat.{◌-◌}
use native.Mathlib.Omega.{arith}
use lib.ListN.{take}
use Rattle.text.specs.Bytes.{part}
use borrow.Author.Tests.{lt-ltb, le-ltb}
use Rattle.wire.specs.Output.{output}
use Rattle.replay.specs.Entry.{output_log}
use Rattle.replay.proofs.entry.output_log.Goals as goal

pub returns-then-show-lt1 : goal.returns-then-show-lt1
unfolding output_log
returns-then-show-lt1 c = rw (lt-ltb c.args.show 1 c.if-show-lt1.true)

pub returns : goal.returns
unfolding output_log
returns c =
    let args = c.args in
    let all : args.size - 0 ≡ args.size = omega arith in
    let front : part args.log.now 0 args.size ≡ take args.size args.log.now = rw all refl in
    rw (le-ltb args.show 1 c.if-show-lt1.false)
    (c.output_bytes.ensures ∙ ap (output _) (c.bytes_in.ensures ∙ front))
