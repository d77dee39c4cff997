-- A record, a done line, a retry line, or nothing to take in.
use Rattle.std.specs.Prelude.{Some, None}
use Rattle.message_log.proofs.RowLaws.{rise_wide, took_line}
use Rattle.message_log.specs.Scan.{TookLine}
use Rattle.text.proofs.LineLaws.{kind_of, kind_says}
use lib.ListN.{take}
use native.Mathlib.Omega.{arith}
use mathlib.Core.Path.{refl, sym, ap, ◌∙◌, subst}
use Rattle.message_log.proofs.opening.pass_line.Goals as goal

pub returns-then-id : goal.returns-then-id
returns-then-id c =
    let args = c.args in
    let line-kind = c.line_kind in
    let id = c.in-Put in
    let if1 = c.if-id in
    subst (λ l. TookLine args.lo args.p args.rows.now l args.at None args.rows.now)
    (ap (kind_of args.line.now) (sym id.is ∙ line-kind.ensures) ∙ kind_says args.line.now)
    (omega (arith, if1.true))

pub take_row-requires : goal.take_row-requires
take_row-requires c =
    let args = c.args in
    let pre = c.requires in
    (pre.0, rise_wide (take args.p.count args.rows.now) args.lo args.p.hi (omega arith) pre.2)

pub retry_row-requires : goal.retry_row-requires
retry_row-requires c =
    let args = c.args in
    let pre = c.requires in
    (pre.0, rise_wide (take args.p.count args.rows.now) args.lo args.p.hi (omega arith) pre.2)

pub returns-else-id : goal.returns-else-id
returns-else-id c =
    let args = c.args in
    let line-kind = c.line_kind in
    let id = c.in-Put in
    let if1 = c.if-id in
    let next-after = c.next_after-next in
    let put-row = c.put_row in
    took_line args.lo args.p args.rows.now _ _ args.at (Some put-row.result) _
    (ap (kind_of args.line.now) (sym id.is ∙ line-kind.ensures) ∙ kind_says args.line.now) (
      put-row.ensures.within,
      (put-row.ensures.took, put-row.ensures.next ∙ next-after.ensures, omega (arith, if1.false)),
    )

pub returns-in-Done : goal.returns-in-Done
returns-in-Done c =
    let args = c.args in
    let line-kind = c.line_kind in
    let id2 = c.in-Done in
    let take_row = c.take_row in
    took_line args.lo args.p args.rows.now _ _ args.at (Some take_row.result) _
    (ap (kind_of args.line.now) (sym id2.is ∙ line-kind.ensures) ∙ kind_says args.line.now)
    (take_row.ensures.within, (take_row.ensures.out, take_row.ensures.same.0, take_row.ensures.same.1))

pub returns-in-Retry : goal.returns-in-Retry
returns-in-Retry c =
    let args = c.args in
    let pre = c.requires in
    let line-kind = c.line_kind in
    let id3 = c.in-Retry in
    let retry-row = c.retry_row in
    took_line args.lo args.p args.rows.now _ _ args.at (Some args.p) _
    (ap (kind_of args.line.now) (sym id3.is ∙ line-kind.ensures) ∙ kind_says args.line.now)
    (omega (arith, pre.0, retry-row.auto.rows), (retry-row.ensures, refl, refl))

pub returns-in-Other : goal.returns-in-Other
returns-in-Other c =
    let args = c.args in
    let pre = c.requires in
    let line-kind = c.line_kind in
    let enum_told = c.in-Other in
    subst (λ l. TookLine args.lo args.p args.rows.now l args.at (Some args.p) args.rows.now)
    (ap (kind_of args.line.now) (sym enum_told.is ∙ line-kind.ensures) ∙ kind_says args.line.now)
    (pre.0, (refl, refl, refl))
