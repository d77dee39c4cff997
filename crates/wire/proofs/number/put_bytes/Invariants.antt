-- The bytes from `i` on, written over what is there now, give the whole.
use mathlib.Core.Path.{◌≡◌}
use Prim.Native.Nat.{◌+◌}
use lib.ListN.{length, drop}
use Rattle.text.specs.Bytes.{write}
use Rattle.wire.proofs.number.put_bytes.Given as goal

abbrev pub invariant-loop-i : goal.invariant-loop-i
invariant-loop-i l =
    (length l.out ≡ length l.initial.out)
    × (write l.out (l.at + l.i) (drop l.i l.s) ≡ write l.initial.out l.at l.s)
