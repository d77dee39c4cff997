-- Ids rise, so that the search by halving finds the row of the id, which is the only one.
use mathlib.Core.Path.{refl, sym, ap, ◌∙◌}
use Prim.Native.Nat.{◌-◌, ◌^◌}
use native.Mathlib.Omega.{arith}
use lib.ListN.{take}
use Rattle.message_log.proofs.RowLaws.{remove_missing, row_out}
use Rattle.message_log.proofs.SearchLaws.{search_finds}
use Rattle.message_log.proofs.opening.take_row.Goals as goal

pub returns-in_default : goal.returns-in_default
returns-in_default c =
    let args = c.args in
    let pre = c.requires in
    let enum_told = c.in_default in
    let these = take args.p.count args.rows.now in
    let same = search_finds args.id 0 (2 ^ 64) these pre.1 in
    let missing = sym enum_told.ensures in
    record { within = pre.0; out = sym (remove_missing args.id 0 these (sym same ∙ missing)); same = (refl, refl) }

pub overflow_sub-result : goal.overflow_sub-result
overflow_sub-result c =
    let args = c.args in
    let pre = c.requires in
    let i = c.in-Some in
    let these = take args.p.count args.rows.now in
    let same = search_finds args.id 0 (2 ^ 64) these pre.1 in
    let found = sym i.ensures in
    let out = row_out args.rows.now args.p.count args.id i.i pre.0 pre.1
    (sym same ∙ found) in
    omega (arith, out.short)

pub returns : goal.returns
returns c =
    let args = c.args in
    let pre = c.requires in
    let i = c.in-Some in
    let close_row = c.close_row in
    let these = take args.p.count args.rows.now in
    let same = search_finds args.id 0 (2 ^ 64) these pre.1 in
    let found = sym i.ensures in
    let out = row_out args.rows.now args.p.count args.id i.i pre.0 pre.1
    (sym same ∙ found) in
    record {
      within = omega (arith, pre.0, close_row.auto.rows);
      out = ap (take
          (args.p.count - 1)) close_row.ensures ∙ out.gone;
      same = (refl, refl);
    }
