-- The loop keeps that the rows left, stored from this entry on, give the whole (`Storing`).
use mathlib.Core.List.{[]}
use mathlib.Core.Path.{ap, ◌∙◌}
use native.Mathlib.Omega.{arith}
use lib.ListN.{get_or, set, drop_of_length-le}
use Rattle.message_log.specs.Log.{row, row_id, row_tried}
use Rattle.message_log.specs.Opened.{stored_at}
use Rattle.message_log.proofs.StoreLaws.{storing_ends, storing_line, storing_more}
use Rattle.message_log.proofs.TableLaws.{here_row}
use Rattle.message_log.proofs.opening.store_rows.Goals as goal

pub copy_row-l-requires : goal.copy_row-l-requires
copy_row-l-requires c =
    let pre = c.requires in
    let loop = c.loop-i in
    let test = c.loop-i-test.true in
    let rows = c.args.rows.now in (
      omega (arith, test, pre.0, pre.1, loop.invariant.long),
      storing_line loop.invariant (get_or rows loop.i []) test (omega
          (arith, test, pre.0, pre.2, loop.invariant.many)) (here_row [] rows loop.i test),
    )

pub loop-i-preserved : goal.loop-i-preserved
unfolding stored_at
loop-i-preserved c =
    let pre = c.requires in
    let loop = c.loop-i in
    let test = c.loop-i-test.true in
    let rows = c.args.rows.now in
    let r = get_or rows loop.i [] in
    storing_more loop.invariant r test (omega (arith, test, pre.0, pre.2, loop.invariant.many))
    (here_row [] rows loop.i test) _ (omega (arith, test, pre.0, pre.1, loop.invariant.long))
    c.copy_row-l.ensures.copied
    _ (c.set_row.ensures ∙ ap (λ l. set loop.left loop.i (row (row_id r) l.name l.body
    (row_tried r))) c.copy_row-l.ensures.lengths)

pub returns : goal.returns
returns c =
    let all = storing_ends c.loop-i.invariant (drop_of_length-le c.args.rows.now c.loop-i-test.false) in
    record { store = all.0; left = all.1 }
