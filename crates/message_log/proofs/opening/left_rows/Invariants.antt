-- Each pass adds the rows of a further window of ids (`Below`); ids below 2^64 run out.
-- Each pass adds the rows of a further window of ids (`Below`); ids below 2^64 run out.
use mathlib.Core.Path.{◌≡◌}
use Prim.Native.Nat.{◌-◌, ◌≤◌, ◌<◌, ◌^◌}
use lib.ListN.{length, take}
use Rattle.message_log.proofs.LeftLaws.{Below}
use Rattle.message_log.proofs.opening.left_rows.Given as goal

abbrev pub invariant-loop-p : goal.invariant-loop-p
invariant-loop-p l = (length l.rows ≡ length l.initial.rows) × (l.count ≤ 256) ×
    (l.lo < 2 ^ 64 - 1) × Below l.file l.lo (take l.count l.rows)

abbrev pub decreases-loop-p : goal.decreases-loop-p
decreases-loop-p l = 2 ^ 64 - l.lo
