-- Each pass adds the rows of a further window of ids (`Below`); ids below 2^64 run out.
-- Each pass adds the rows of a further window of ids (`Below`); ids below 2^64 run out.
use mathlib.Core.Path.{refl, sym, ◌∙◌}
use native.Mathlib.Omega.{arith}
use Rattle.std.proofs.lemmas.Result.{err_from_is_err_and}
use Rattle.message_log.proofs.LeftLaws.{below_begin, left_all, further}
use Rattle.message_log.proofs.RowLaws.{scanned_ok, scanned_err}
use Rattle.message_log.proofs.opening.left_rows.Goals as goal

pub loop-p-init : goal.loop-p-init
loop-p-init c =
    let args = c.args in
    (refl, omega arith, omega arith, below_begin args.file.now)

pub returns-then-count-gt-RECORDS : goal.returns-then-count-gt-RECORDS
returns-then-count-gt-RECORDS c =
    let args = c.args in
    let pre = c.requires in
    let loop = c.loop-p in
    let scan = c.scan in
    let p = c.in_ok-p in
    let if1 = c.if-count-gt-RECORDS in
    let passed = scanned_ok args.file.now loop.lo _ _ p.p (sym c.ok_or.ensures.value ∙ p.was) scan.ensures in
    let f = further args.file.now loop.rows _ loop.count loop.lo p.p (omega
    (arith, loop.invariant.0, loop.invariant.1, pre)) scan.auto.rows loop.invariant.3 passed in
    (omega (arith, passed.next), omega (arith, f.many, if1.true))

pub returns-then-p : goal.returns-then-p
returns-then-p c =
    let args = c.args in
    let pre = c.requires in
    let loop = c.loop-p in
    let scan = c.scan in
    let p = c.in_ok-p in
    let if1 = c.if-count-gt-RECORDS in
    let if2 = c.if-p in
    let passed = scanned_ok args.file.now loop.lo _ _ p.p (sym c.ok_or.ensures.value ∙ p.was) scan.ensures in
    let f = further args.file.now loop.rows _ loop.count loop.lo p.p (omega
    (arith, loop.invariant.0, loop.invariant.1, pre)) scan.auto.rows loop.invariant.3 passed in
    record {
      few = omega (arith, if1.false);
      next_is = passed.next;
      left_are = left_all args.file.now p.p.hi _
          f.below (omega (arith, passed.next, if2.true));
    }

pub loop-p-preserved : goal.loop-p-preserved
loop-p-preserved c =
    let args = c.args in
    let pre = c.requires in
    let loop = c.loop-p in
    let scan = c.scan in
    let p = c.in_ok-p in
    let if1 = c.if-count-gt-RECORDS in
    let if2 = c.if-p in
    let passed = scanned_ok args.file.now loop.lo _ _ p.p (sym c.ok_or.ensures.value ∙ p.was) scan.ensures in
    let f = further args.file.now loop.rows _ loop.count loop.lo p.p (omega
    (arith, loop.invariant.0, loop.invariant.1, pre)) scan.auto.rows loop.invariant.3 passed in
    (f.long ∙ loop.invariant.0, omega (arith, if1.false), omega (arith, if2.false), f.below)

pub returns-in_err-p : goal.returns-in_err-p
returns-in_err-p c =
    let p = err_from_is_err_and c.from_residual.result c.from_residual.ensures.1 in
    rw (p.1, p.2) (scanned_err c.args.file.now c.loop-p.lo _ _ _ _
    (sym c.ok_or.ensures.value ∙ c.in_err-p.was) c.scan.ensures)
