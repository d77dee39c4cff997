-- The loop keeps that the search that is left, from `lo` on and below `hi`, finds what the whole search finds.
use mathlib.Core.Path.{◌≡◌, sym}
use native.Mathlib.Omega.{arith}
use borrow.Author.Rules.{rules}
use lib.ListN.{length, take, length-take}
use Rattle.message_log.proofs.SearchLaws.{left_all, left_none, left_here, left_above, left_below}
use Rattle.message_log.proofs.table.search_row.Goals as goal

pub loop-lo-init : goal.loop-lo-init
loop-lo-init c =
    let args = c.args in
    let all : c.min-hi.result ≡ length (take args.count args.rows.now) = omega
    (arith, length-take args.count args.rows.now, c.min-hi.ensures) in
    (omega (arith, c.min-hi.ensures), left_all args.id (take args.count args.rows.now) _ all)

pub returns-then-here-id : goal.returns-then-here-id
returns-then-here-id c =
    let args = c.args in
    let loop = c.loop-lo in
    let loop-test = c.loop-lo-test in
    sym (left_here args.rows.now args.count args.id loop.lo loop.hi loop-test.true
    loop.invariant.1 c.if-here-id.true)

pub loop-lo-preserved-then-here-id-2 : goal.loop-lo-preserved-then-here-id-2
loop-lo-preserved-then-here-id-2 c =
    let args = c.args in
    let loop = c.loop-lo in
    let loop-test = c.loop-lo-test in
    let left = left_above args.rows.now args.count args.id loop.lo loop.hi loop-test.true
    loop.invariant.1 c.if-here-id-2.true in
    (search rules, left)

pub loop-lo-preserved : goal.loop-lo-preserved
loop-lo-preserved c =
    let args = c.args in
    let loop = c.loop-lo in
    let loop-test = c.loop-lo-test in
    let left = left_below args.rows.now args.count args.id loop.lo loop.hi loop-test.true
    loop.invariant.1 (omega (arith, c.if-here-id.false, c.if-here-id-2.false)) in
    (search rules, left)

pub returns : goal.returns
returns c =
    let args = c.args in
    let loop = c.loop-lo in
    sym (left_none args.id (take args.count args.rows.now) loop.lo loop.hi loop.invariant.1
    c.loop-lo-test.false)
