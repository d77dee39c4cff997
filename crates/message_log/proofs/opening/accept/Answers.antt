-- What was stored is read back from the store, and its image is no longer than the file.
use mathlib.Core.Path.{sym}
use native.Mathlib.Omega.{arith}
use lib.Seq.{length-take-le}
use lib.ListN.{length-take}
use Rattle.message_log.proofs.DecisionLaws.{fit, ready, opened_is}
use Rattle.message_log.proofs.OpenLaws.{sized_all}
use Rattle.message_log.proofs.opening.accept.Goals as goal

pub slice_bounds-store_rows-end : goal.slice_bounds-store_rows-end
slice_bounds-store_rows-end c =
    let pre = c.requires in
    omega (arith, (sized_all _ _ _ _ _ pre.0).file)

pub slice_bounds-store_rows-end-2 : goal.slice_bounds-store_rows-end-2
slice_bounds-store_rows-end-2 c =
    let args = c.args in
    let pre = c.requires in
    sym (length-take-le args.n args.log.now (sized_all _ _ _ _ _ pre.0).file)

pub store_rows-requires : goal.store_rows-requires
store_rows-requires c =
    let args = c.args in
    let pre = c.requires in
    let lent = sized_all _ _ _ _ _ pre.0 in (
      omega (arith, length-take args.kept.count args.rows.now, pre.2.rows.few),
      lent.store_is,
      lent.left_is,
      fit
          args.log.now args.n args.store.now args.records.now args.left.now args.rows.now args.kept pre.0 pre.1 pre.2,
    )

pub slice_bounds-write_image-end : goal.slice_bounds-write_image-end
slice_bounds-write_image-end c =
    let pre = c.requires in
    omega (arith, pre.2.rows.few, (sized_all _ _ _ _ _ pre.0).left_is, c.store_rows.auto.left)

pub slice_bounds-write_image-end-2 : goal.slice_bounds-write_image-end-2
slice_bounds-write_image-end-2 c =
    let pre = c.requires in
    sym (length-take-le c.args.kept.count c.store_rows.new.left (omega (
      arith,
      pre.2.rows.few,
      (sized_all _ _ _ _ _ pre.0).left_is,
      c.store_rows.auto.left,
    )))

pub write_image-size-requires : goal.write_image-size-requires
write_image-size-requires c =
    let args = c.args in
    let pre = c.requires in
    let store-rows = c.store_rows in
    ready args.log.now args.n args.store.now args.records.now args.left.now args.rows.now args.kept pre.0 pre.1 pre.2
    _ store-rows.ensures.store _ store-rows.ensures.left

pub returns : goal.returns
returns c =
    let args = c.args in
    let pre = c.requires in
    let store-rows = c.store_rows in
    let write-image = c.write_image-size in
    opened_is args.log.now args.n args.store.now args.records.now args.left.now args.rows.now args.kept pre.0 pre.1
    pre.2 _ store-rows.ensures.store _ store-rows.ensures.left _ _ write-image.result write-image.ensures
