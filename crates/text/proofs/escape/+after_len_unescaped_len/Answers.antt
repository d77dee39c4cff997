-- Each byte read is counted or passed over.
use Rattle.std.proofs.Common.{length, ap, arith}
use Rattle.text.proofs.EscapeLaws.{plain_end, next_end, plain_backslash, plain_more, next_more}
use Rattle.text.proofs.escape.+after_len_unescaped_len.Goals as goal

pub after_len-returns-then-s-i : goal.after_len-returns-then-s-i
after_len-returns-then-s-i t c =
    let e = ap length (next_end c.args.s.now c.args.i c.if-s-i.true) in omega arith

pub after_len-returns : goal.after_len-returns
after_len-returns t c =
    let e = ap length (next_more c.args.s.now c.args.i c.if-s-i.false) in omega (arith, c.unescaped_len.ensures)

pub unescaped_len-returns-then-s-i : goal.unescaped_len-returns-then-s-i
unescaped_len-returns-then-s-i t c =
    let e = ap length (plain_end c.args.s.now c.args.i c.if-s-i.true) in omega arith

pub unescaped_len-returns-then-s-i-eq92 : goal.unescaped_len-returns-then-s-i-eq92
unescaped_len-returns-then-s-i-eq92 t c =
    let e = ap length (plain_backslash c.args.s.now c.args.i c.if-s-i.false c.if-s-i-eq92.true) in
    omega (arith, c.after_len.ensures)

pub unescaped_len-returns : goal.unescaped_len-returns
unescaped_len-returns t c =
    let e = ap length (plain_more c.args.s.now c.args.i c.if-s-i.false c.if-s-i-eq92.false) in
    omega (arith, c.unescaped_len.ensures)
