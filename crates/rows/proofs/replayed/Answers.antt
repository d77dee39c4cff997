-- Each part lent is as long as the script or the expected output says.
use lib.ListN.{length}
use lib.Seq.{length-take-le}
use mathlib.Core.Path.{sym}
use Rattle.rows.proofs.replayed.Goals as goal

pub slice_bounds-replay-end-2 : goal.slice_bounds-replay-end-2
slice_bounds-replay-end-2 c = sym (length-take-le _ c.args.log.now c.if-log-l.false)

pub slice_bounds-replay-end-4 : goal.slice_bounds-replay-end-4
slice_bounds-replay-end-4 c = sym (length-take-le _ c.args.store.now c.if-store-m.false)

pub slice_bounds-replay-end-6 : goal.slice_bounds-replay-end-6
slice_bounds-replay-end-6 c = sym (length-take-le (length c.args.expected.now) c.args.out.now c.if-out-n.false)
