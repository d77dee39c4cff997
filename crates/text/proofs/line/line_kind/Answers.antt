-- The places of the first three TABs part the line into its fields.
use Rattle.std.proofs.Common.{◌+◌, ◌∙◌, length, take, sym, ap, arith}
use lib.Seq.{length-take-le}
use Rattle.text.specs.Format.{read_id}
use Rattle.text.specs.Answers.{done_kind, retry_kind, put_kind}
use Rattle.text.proofs.LineLaws.{from, kind_one, kind_two, kind_more, kind_three}
use Rattle.text.proofs.line.line_kind.Goals as goal

pub returns-then-a-n : goal.returns-then-a-n
returns-then-a-n c =
    let kind = kind_one c.args.line.now c.find-a.result c.find-a.ensures (omega (arith, c.if-a-n.true)) in
    c.done_kind.ensures ∙ (ap done_kind c.read_id.ensures ∙ sym kind)

pub slice_bounds-read_id-end : goal.slice_bounds-read_id-end
slice_bounds-read_id-end c = sym (length-take-le c.find-a.result c.args.line.now c.find-a.ensures.within)

pub returns-then-b-n : goal.returns-then-b-n
returns-then-b-n c =
    let s = c.args.line.now in
    let a = c.find-a.result in
    let within = c.find-a.ensures.within in
    let kind = kind_two s a _ c.find-a.ensures (omega (arith, c.if-a-n.false)) c.find_from-b.ensures (omega (
      arith,
      c.if-b-n.true,
    )) in
    c.retry_kind.ensures
    ∙ (ap (λ i. retry_kind i c.read_id-then-b-n-2.result) c.read_id-then-b-n.ensures
    ∙ (ap (retry_kind (read_id (take a s))) (c.read_id-then-b-n-2.ensures ∙ ap read_id (from s (a + 1)))
    ∙ sym kind))

pub returns-then-c-n : goal.returns-then-c-n
returns-then-c-n c =
    let a = c.find-a.ensures.within in
    let b = c.find_from-b.ensures.within in
    sym (kind_more c.args.line.now _ _ c.find-a.ensures (omega (arith, c.if-a-n.false)) c.find_from-b.ensures (omega (
      arith,
      c.if-b-n.false,
    )) _ c.find_from-c.ensures c.if-c-n.true)

pub slice_bounds-read_id-end-2 : goal.slice_bounds-read_id-end-2
slice_bounds-read_id-end-2 c = sym (length-take-le c.find-a.result c.args.line.now c.find-a.ensures.within)

pub returns : goal.returns
returns c =
    let s = c.args.line.now in
    let a = c.find-a.ensures.within in
    let b = c.find_from-b.ensures.within in
    let kind = kind_three s c.find-a.result c.find_from-b.result c.find-a.ensures (omega (
      arith,
      c.if-a-n.false,
    )) c.find_from-b.ensures (omega (arith, c.if-b-n.false)) _ c.find_from-c.ensures c.if-c-n.false in
    c.put_kind.ensures
    ∙ (ap (λ i. put_kind i (c.find-a.result + 1) c.find_from-b.result (c.find_from-b.result + 1) (length s))
    c.read_id-2.ensures ∙ sym kind)
