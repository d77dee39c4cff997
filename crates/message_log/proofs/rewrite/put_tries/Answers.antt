-- No attempts have no line; else the retry line fills the part of the log that starts at the place.
use mathlib.Core.Path.{ap, sym, ◌∙◌, subst}
use native.Mathlib.Omega.{arith}
use lib.ListN.{length}
use Rattle.text.specs.Bytes.{Wrote, write}
use Rattle.text.specs.Format.{retry_line}
use Rattle.text.proofs.AnswerLaws.{filled_part}
use Rattle.text.proofs.WriteLaws.{wrote_none}
use Rattle.message_log.proofs.RewriteLaws.{no_tries, some_tries}
use Rattle.message_log.proofs.rewrite.put_tries.Goals as goal

pub returns-then-tried-eq0 : goal.returns-then-tried-eq0
returns-then-tried-eq0 c =
    let args = c.args in
    let none = no_tries args.id args.tried c.if-tried-eq0.true in
    subst (λ t. Wrote args.log.now args.at t args.log.now args.at) (sym none)
    (wrote_none args.log.now args.at)

pub overflow_add-result : goal.overflow_add-result
overflow_add-result c =
    let args = c.args in
    let pre = c.requires in
    let if1 = c.if-tried-eq0 in
    let retry-len = c.retry_len-n in
    let n = ap length (some_tries args.id args.tried if1.false) in
    omega (arith, pre, retry-len.ensures)

pub returns : goal.returns
returns c =
    let args = c.args in
    let pre = c.requires in
    let if1 = c.if-tried-eq0 in
    let retry-len = c.retry_len-n in
    let encode-retry = c.encode_retry in
    let line = some_tries args.id args.tried if1.false in
    let n = ap length line in
    record {
      past = omega (arith, retry-len.ensures);
      bytes = filled_part args.log.now args.at (retry_line args.id args.tried) _ _
          (omega (arith, pre)) encode-retry.ensures ∙ ap (write args.log.now args.at) (sym line);
    }
