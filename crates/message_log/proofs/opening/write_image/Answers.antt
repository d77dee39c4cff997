-- The loop keeps that the messages left, written from here on, give the whole (`Imaging`).
use mathlib.Core.List.{[]}
use native.Mathlib.Omega.{arith}
use lib.ListN.{get_or, drop_of_length-le}
use Rattle.message_log.proofs.StoreLaws.{imaging_ends, imaging_fits, size_fits, tries_fit, imaging_more}
use Rattle.message_log.proofs.TableLaws.{here_row}
use Rattle.message_log.proofs.opening.write_image.Goals as goal

pub overflow_add-name : goal.overflow_add-name
overflow_add-name c =
    let pre = c.requires in
    let loop = c.loop-i in
    let test = c.loop-i-test.true in
    let left = c.args.left.now in
    let f = imaging_fits loop.invariant (get_or left loop.i []) test (omega
    (arith, test, pre.0, pre.2, loop.invariant.many)) (here_row [] left loop.i test) in
    omega (arith, f.name, test, pre.0)

pub slice_bounds-encode_record-end-in-loop-i : goal.slice_bounds-encode_record-end-in-loop-i
slice_bounds-encode_record-end-in-loop-i c =
    let pre = c.requires in
    let loop = c.loop-i in
    let test = c.loop-i-test.true in
    let left = c.args.left.now in
    let f = imaging_fits loop.invariant (get_or left loop.i []) test (omega
    (arith, test, pre.0, pre.2, loop.invariant.many)) (here_row [] left loop.i test) in
    omega (arith, f.name, test, pre.0, pre.1)

pub overflow_add-body-in-loop-i : goal.overflow_add-body-in-loop-i
overflow_add-body-in-loop-i c =
    let pre = c.requires in
    let loop = c.loop-i in
    let test = c.loop-i-test.true in
    let left = c.args.left.now in
    let f = imaging_fits loop.invariant (get_or left loop.i []) test (omega
    (arith, test, pre.0, pre.2, loop.invariant.many)) (here_row [] left loop.i test) in
    omega (arith, f.body, test, pre.0)

pub slice_bounds-encode_record-end-in-loop-i-2 : goal.slice_bounds-encode_record-end-in-loop-i-2
slice_bounds-encode_record-end-in-loop-i-2 c =
    let pre = c.requires in
    let loop = c.loop-i in
    let test = c.loop-i-test.true in
    let left = c.args.left.now in
    let f = imaging_fits loop.invariant (get_or left loop.i []) test (omega
    (arith, test, pre.0, pre.2, loop.invariant.many)) (here_row [] left loop.i test) in
    omega (arith, f.body, test, pre.0, pre.1)

pub overflow_add-p : goal.overflow_add-p
overflow_add-p c =
    let pre = c.requires in
    let loop = c.loop-i in
    let test = c.loop-i-test.true in
    let left = c.args.left.now in
    omega (
      arith,
      size_fits loop.invariant (get_or left loop.i []) test (omega (arith, test, pre.0, pre.2, loop.invariant.many))
          (here_row [] left loop.i test) _ _ c.encode_record.ensures c.unwrap_or-n.result c.unwrap_or-n.ensures,
    )

pub put_tries-p-requires : goal.put_tries-p-requires
put_tries-p-requires c =
    let pre = c.requires in
    let loop = c.loop-i in
    let test = c.loop-i-test.true in
    let left = c.args.left.now in
    tries_fit loop.invariant (get_or left loop.i []) test (omega (arith, test, pre.0, pre.2, loop.invariant.many))
    (here_row [] left loop.i test) _ _ c.encode_record.ensures c.unwrap_or-n.result c.unwrap_or-n.ensures

pub loop-i-preserved : goal.loop-i-preserved
loop-i-preserved c =
    let pre = c.requires in
    let loop = c.loop-i in
    let test = c.loop-i-test.true in
    let left = c.args.left.now in
    imaging_more loop.invariant (get_or left loop.i []) test (omega (arith, test, pre.0, pre.2, loop.invariant.many))
    (here_row [] left loop.i test) _ _ c.encode_record.ensures c.unwrap_or-n.result c.unwrap_or-n.ensures
    _ _ c.put_tries-p.ensures _ c.set_row.ensures

pub returns : goal.returns
returns c = imaging_ends c.loop-i.invariant (drop_of_length-le c.args.left.now c.loop-i-test.false)
