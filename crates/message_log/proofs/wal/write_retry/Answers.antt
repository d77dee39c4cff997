-- The line fills the part of the log that starts at size; else the rewrite.
use Rattle.message_log.proofs.WalLaws.{line_behind_lem, retry_behind, retry_anew}
use Rattle.message_log.specs.Log.{state}
use Rattle.text.proofs.AnswerLaws.{filled_part}
use Rattle.text.specs.Format.{retry_line}
use lib.ListN.{length}
use borrow.Author.Tests.{leb-true}
use native.Mathlib.Omega.{arith}
use Prim.Native.Nat.{◌+◌}
use mathlib.Core.Path.{refl, sym, ◌∙◌}
use Rattle.message_log.proofs.wal.write_retry.Goals as goal

pub returns-then-fits_behind : goal.returns-then-fits_behind
returns-then-fits_behind c =
    let args = c.args in
    let retry-len = c.retry_len-n in
    let fits-behind = c.fits_behind in
    let if1 = c.if-fits_behind in
    let encode-retry = c.encode_retry in
    let w = state args.log.now args.records.now args.counters.now in
    let fit = sym fits-behind.ensures ∙ if1.true in
    let room = leb-true (args.counters.now.size + retry-len.result) (length args.log.now) fit in
    line_behind_lem w (retry_line args.id args.attempts) retry-len.result retry-len.ensures _ refl _
    (filled_part args.log.now args.counters.now.size (retry_line args.id args.attempts) _ _
    (omega (arith, retry-len.ensures)) encode-retry.ensures)
    ∙ retry_behind w args.id args.attempts retry-len.result retry-len.ensures fit

pub returns : goal.returns
returns c =
    let args = c.args in
    let retry-len = c.retry_len-n in
    let fits-behind = c.fits_behind in
    let if1 = c.if-fits_behind in
    let rewrite-all = c.rewrite_all in
    let w = state args.log.now args.records.now args.counters.now in
    rewrite-all.ensures
    ∙ retry_anew w args.id args.attempts retry-len.result retry-len.ensures
    (sym fits-behind.ensures ∙ if1.false)
