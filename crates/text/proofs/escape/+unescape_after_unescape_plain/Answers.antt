-- Each byte read is passed over or written.
use Rattle.std.proofs.Common.{◌∷◌, ◌+◌, length, drop, ap, sym, ◌∙◌, arith}
use Rattle.text.specs.Format.{unescape}
use Rattle.text.proofs.WriteLaws.{both, is_text, wrote_none}
use Rattle.text.proofs.EscapeLaws.{plain_end, next_end, plain_backslash, plain_more, next_more}
use Rattle.text.proofs.escape.+unescape_after_unescape_plain.Goals as goal

pub unescape_after-returns-then-s-i : goal.unescape_after-returns-then-s-i
unescape_after-returns-then-s-i t c = is_text _ (next_end _ _ c.if-s-i.true) (wrote_none _ _)

pub unescape_after-put-p-requires : goal.unescape_after-put-p-requires
unescape_after-put-p-requires t c =
    let e = ap length (next_more c.args.s.now c.args.i c.if-s-i.false) in omega (arith, c.requires)

pub unescape_after-unescape_plain-requires : goal.unescape_after-unescape_plain-requires
unescape_after-unescape_plain-requires t c =
    let e = ap length (next_more c.args.s.now c.args.i c.if-s-i.false) in
    omega (arith, c.requires, c.put-p.ensures.past, c.put-p.auto.out)

pub unescape_after-returns : goal.unescape_after-returns
unescape_after-returns t c =
    let e = ap (λ b. b ∷ unescape (drop (c.args.i + 1) c.args.s.now)) (sym c.escaped_byte-b.ensures) in
    both _ c.requires (next_more c.args.s.now c.args.i c.if-s-i.false ∙ e) c.put-p.ensures c.unescape_plain.ensures

pub unescape_plain-returns-then-s-i : goal.unescape_plain-returns-then-s-i
unescape_plain-returns-then-s-i t c = is_text _ (plain_end _ _ c.if-s-i.true) (wrote_none _ _)

pub unescape_plain-unescape_after-requires : goal.unescape_plain-unescape_after-requires
unescape_plain-unescape_after-requires t c =
    let e = ap length (plain_backslash c.args.s.now c.args.i c.if-s-i.false c.if-b-eq92.true) in
    omega (arith, c.requires)

pub unescape_plain-returns-then-b-eq92 : goal.unescape_plain-returns-then-b-eq92
unescape_plain-returns-then-b-eq92 t c =
    is_text _ (plain_backslash c.args.s.now c.args.i c.if-s-i.false c.if-b-eq92.true) c.unescape_after.ensures

pub unescape_plain-put-p-requires : goal.unescape_plain-put-p-requires
unescape_plain-put-p-requires t c =
    let e = ap length (plain_more c.args.s.now c.args.i c.if-s-i.false c.if-b-eq92.false) in omega (arith, c.requires)

pub unescape_plain-unescape_plain-requires : goal.unescape_plain-unescape_plain-requires
unescape_plain-unescape_plain-requires t c =
    let e = ap length (plain_more c.args.s.now c.args.i c.if-s-i.false c.if-b-eq92.false) in
    omega (arith, c.requires, c.put-p.ensures.past, c.put-p.auto.out)

pub unescape_plain-returns : goal.unescape_plain-returns
unescape_plain-returns t c =
    both _ c.requires (plain_more c.args.s.now c.args.i c.if-s-i.false c.if-b-eq92.false) c.put-p.ensures
    c.unescape_plain.ensures
