-- The done line goes behind the others, or the log is rewritten.
use Rattle.message_log.proofs.WalLaws.{keeps_room, line_behind_lem, marked_behind, marked_anew}
use Rattle.message_log.specs.Log.{state}
use Rattle.text.proofs.AnswerLaws.{filled_part}
use Rattle.text.specs.Format.{done_line}
use lib.ListN.{length}
use native.Mathlib.Omega.{arith}
use Prim.Native.Nat.{◌+◌}
use mathlib.Core.Path.{refl, sym, ◌∙◌}
use Rattle.message_log.proofs.wal.mark_done.Goals as goal

pub slice_bounds-encode_done-count : goal.slice_bounds-encode_done-count
slice_bounds-encode_done-count c =
    let args = c.args in
    let done-len = c.done_len-n in
    let Keeps-on = c.keeps_on in
    let if1 = c.if-keeps_on in
    let room =
    keeps_room args.limit (length args.log.now) args.counters.now.live (args.counters.now.size + done-len.result)
    (sym Keeps-on.ensures ∙ if1.true) in
    omega (arith, room)

pub slice_bounds-encode_done-start : goal.slice_bounds-encode_done-start
slice_bounds-encode_done-start c =
    let args = c.args in
    let done-len = c.done_len-n in
    let Keeps-on = c.keeps_on in
    let if1 = c.if-keeps_on in
    let room =
    keeps_room args.limit (length args.log.now) args.counters.now.live (args.counters.now.size + done-len.result)
    (sym Keeps-on.ensures ∙ if1.true) in
    omega (arith, room)

pub overflow_add-counters : goal.overflow_add-counters
overflow_add-counters c =
    let args = c.args in
    let done-len = c.done_len-n in
    let Keeps-on = c.keeps_on in
    let if1 = c.if-keeps_on in
    let room =
    keeps_room args.limit (length args.log.now) args.counters.now.live (args.counters.now.size + done-len.result)
    (sym Keeps-on.ensures ∙ if1.true) in
    omega (arith, room)

pub returns-then-keeps_on : goal.returns-then-keeps_on
returns-then-keeps_on c =
    let args = c.args in
    let done-len = c.done_len-n in
    let Keeps-on = c.keeps_on in
    let if1 = c.if-keeps_on in
    let encode-done = c.encode_done in
    let w = state args.log.now args.records.now args.counters.now in
    let fit = sym Keeps-on.ensures ∙ if1.true in
    let room =
    keeps_room args.limit (length args.log.now) args.counters.now.live (args.counters.now.size + done-len.result)
    fit in
    line_behind_lem w (done_line args.id) done-len.result done-len.ensures _ refl _
    (filled_part args.log.now args.counters.now.size (done_line args.id) _ _
    (omega (arith, done-len.ensures)) encode-done.ensures)
    ∙ marked_behind args.limit w args.id done-len.result done-len.ensures fit

pub returns : goal.returns
returns c =
    let args = c.args in
    let done-len = c.done_len-n in
    let Keeps-on = c.keeps_on in
    let if1 = c.if-keeps_on in
    let rewrite-all = c.rewrite_all in
    let w = state args.log.now args.records.now args.counters.now in
    rewrite-all.ensures
    ∙ marked_anew args.limit w args.id done-len.result done-len.ensures
    (sym Keeps-on.ensures ∙ if1.false)
