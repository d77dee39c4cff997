-- The bytes from `i` on, written over what is there now, give the whole.
use mathlib.Core.Path.{◌≡◌}
use Prim.Native.Nat.{◌+◌}
use lib.ListN.{length, drop}
use Rattle.text.specs.Bytes.{write}
use Rattle.actor.proofs.entry.put_bytes.Given as goal

abbrev pub invariant-loop-i : goal.invariant-loop-i
invariant-loop-i l =
    (length l.store ≡ length l.initial.store)
    × (write l.store (l.at + l.i) (drop l.i l.bytes) ≡ write l.initial.store l.at l.bytes)
