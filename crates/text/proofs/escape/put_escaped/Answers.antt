-- The loop keeps that what is left of the escaped text, written from here on, gives the whole.
use Rattle.text.proofs.WriteLaws.{begin, further, finish}
use Rattle.text.proofs.EscapeLaws.{escape_end, escape_more}
use Rattle.text.proofs.escape.put_escaped.Goals as goal

pub loop-b-init : goal.loop-b-init
loop-b-init c = begin _ _ _ c.requires

pub loop-b-preserved : goal.loop-b-preserved
loop-b-preserved c =
    further c.loop-b.invariant (escape_more c.args.s.now c.loop-b.b-index c.loop-b-test.true)
    c.put_escaped_byte-p.ensures

pub returns : goal.returns
returns c = finish c.loop-b.invariant (escape_end _ _ c.loop-b-test.false)
