-- Ids rise, so that the search by halving finds the row of the id, which is the only one.
use Rattle.std.specs.Prelude.{Some}
use mathlib.Core.Path.{◌≡◌, sym, ◌∙◌}
use mathlib.Core.List.{List}
use Prim.Native.Nat.{ℕ, ◌^◌, ◌≤◌, ◌<◌}
use native.Mathlib.Omega.{arith}
use lib.ListN.{length, take}
use Rattle.message_log.specs.Log.{search_row}
use Rattle.message_log.specs.Scan.{RowsRise}
use Rattle.message_log.proofs.SearchLaws.{search_finds}
use Rattle.message_log.proofs.RowLaws.{retry_missing, row_tried_lem}
use Rattle.message_log.proofs.opening.retry_row.Goals as goal

-- the row that the search finds is one of the table's
in_table : (rows : List (List ℕ)) (count id n i : ℕ) → count ≤ length rows → RowsRise 0 (take count rows) (2 ^ 64)
    → Some i ≡ search_row id (take count rows) → i < length rows
in_table rows count id n i h r found =
    let same = search_finds id 0 (2 ^ 64) (take count rows) r in
    let there = row_tried_lem rows count id n i h r (sym same ∙ sym found) in
    omega (arith, there.short, h)

pub returns-in_default : goal.returns-in_default
returns-in_default c =
    let args = c.args in
    let these = take args.count args.rows.now in
    let same = search_finds args.id 0 (2 ^ 64) these c.requires.1 in
    sym (retry_missing args.id args.attempts 0 these (sym same ∙ sym c.in_default.ensures))

pub offset_bounds-rows-i : goal.offset_bounds-rows-i
offset_bounds-rows-i c =
    let here = in_table c.args.rows.now c.args.count c.args.id c.args.attempts _ c.requires.0 c.requires.1
    c.in-Some.ensures in
    omega (arith, here)

pub slice_copy_out-r : goal.slice_copy_out-r
slice_copy_out-r c =
    let here = in_table c.args.rows.now c.args.count c.args.id c.args.attempts _ c.requires.0 c.requires.1
    c.in-Some.ensures in
    omega (arith, here)

pub offset_bounds-rows-i-2 : goal.offset_bounds-rows-i-2
offset_bounds-rows-i-2 c =
    let here = in_table c.args.rows.now c.args.count c.args.id c.args.attempts _ c.requires.0 c.requires.1
    c.in-Some.ensures in
    omega (arith, here)

pub bounds-rows-i : goal.bounds-rows-i
bounds-rows-i c =
    let here = in_table c.args.rows.now c.args.count c.args.id c.args.attempts _ c.requires.0 c.requires.1
    c.in-Some.ensures in
    omega (arith, here)

pub returns : goal.returns
returns c =
    let args = c.args in
    let same = search_finds args.id 0 (2 ^ 64) (take args.count args.rows.now) c.requires.1 in
    (row_tried_lem args.rows.now args.count args.id args.attempts c.in-Some.i c.requires.0 c.requires.1
    (sym same ∙ sym c.in-Some.ensures)).now
