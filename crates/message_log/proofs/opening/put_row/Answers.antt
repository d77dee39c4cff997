-- One way for each case of `Took`.
use mathlib.Core.List.{[]}
use mathlib.Core.Path.{refl, sym, ap, ◌∙◌}
use Prim.Native.Nat.{◌+◌, ◌-◌, ◌≤◌}
use native.Mathlib.Omega.{arith}
use lib.Seq.{length-take-le}
use lib.ListN.{take, get_or, length-set}
use Rattle.message_log.specs.Scan.{set_in, evicted}
use Rattle.message_log.specs.Log.{row}
use Rattle.message_log.proofs.RowLaws.{rise_wide, held, placed_same, placed_in, placed_last, in_full}
use Rattle.message_log.proofs.TableLaws.{put_in}
use Rattle.message_log.proofs.opening.put_row.Goals as goal

pub row_place-i-requires : goal.row_place-i-requires
row_place-i-requires c =
    let args = c.args in
    let pre = c.requires in
    (pre.0, rise_wide (take args.p.count args.rows.now) args.lo args.p.hi (omega arith) pre.2)

pub bounds-rows-i : goal.bounds-rows-i
bounds-rows-i c =
    let args = c.args in
    let pre = c.requires in
    let row-place = c.row_place-i in
    let row-is = c.row_is in
    let if3 = c.if-row_is in
    let here = held args.rows.now args.p.count row-place.result args.id pre.0 (sym row-is.ensures ∙ if3.true) in
    omega (arith, here.short, pre.0)

pub returns-then-row_is : goal.returns-then-row_is
returns-then-row_is c =
    let args = c.args in
    let pre = c.requires in
    let if1 = c.if-id-lo in
    let if2 = c.if-p-id in
    let row-place = c.row_place-i in
    let row-is = c.row_is in
    let if3 = c.if-row_is in
    let here = held args.rows.now args.p.count row-place.result args.id pre.0 (sym row-is.ensures ∙ if3.true) in
    record {
      within = simp length-set pre.0;
      took = set_in if1.false if2.false refl
          (placed_same args.rows.now args.p.count row-place.result
          (row args.id args.at 0 0) pre.0 row-place.ensures here);
      next = refl;
    }

pub returns-then-count-rows : goal.returns-then-count-rows
returns-then-count-rows c =
    let args = c.args in
    let pre = c.requires in
    let if1 = c.if-id-lo in
    let if2 = c.if-p-id in
    let row-place = c.row_place-i in
    let row-is = c.row_is in
    let if3 = c.if-row_is in
    let if4 = c.if-count-rows in
    let open_row = c.open_row in
    let rows = args.rows.now in
    let count = args.p.count in
    let e = row args.id args.at 0 0 in
    let i = row-place.result in
    let within : i ≤ count = omega (arith, row-place.ensures.within, length-take-le count rows pre.0) in
    record {
      within = omega (arith, if4.true, open_row.auto.rows);
      took = set_in if1.false if2.false refl (ap (take
          (count + 1)) open_row.ensures ∙ (put_in rows i count e within if4.true ∙ sym
          (placed_in rows count i e pre.0 row-place.ensures (sym row-is.ensures ∙ if3.false))));
      next = refl;
    }

pub returns-then-count-i : goal.returns-then-count-i
returns-then-count-i c =
    let args = c.args in
    let pre = c.requires in
    let if1 = c.if-id-lo in
    let if2 = c.if-p-id in
    let row-place = c.row_place-i in
    let row-is = c.row_is in
    let if3 = c.if-row_is in
    let if4 = c.if-count-rows in
    let if5 = c.if-count-i in
    let rows = args.rows.now in
    let count = args.p.count in
    let e = row args.id args.at 0 0 in
    record {
      within = pre.0;
      took = evicted if1.false if2.false e
          (placed_last rows count row-place.result e pre.0 row-place.ensures
          (sym row-is.ensures ∙ if3.false) if5.true) refl (omega
          (arith, length-take-le count rows pre.0, pre.1, if4.false));
      next = refl;
    }

pub returns : goal.returns
returns c =
    let args = c.args in
    let pre = c.requires in
    let if1 = c.if-id-lo in
    let if2 = c.if-p-id in
    let row-place = c.row_place-i in
    let row-is = c.row_is in
    let if3 = c.if-row_is in
    let if5 = c.if-count-i in
    let open-row2 = c.open_row-2 in
    let rows = args.rows.now in
    let count = args.p.count in
    let e = row args.id args.at 0 0 in
    let i = row-place.result in
    let full = in_full rows count (count - 1) i e pre.0 row-place.ensures (sym row-is.ensures ∙ if3.false) (omega
    (arith, if5.false)) (omega (arith, if5.false)) _ open-row2.ensures in
    record {
      within = omega (arith, pre.0, open-row2.auto.rows);
      took = evicted if1.false if2.false (get_or rows
          (count - 1) []) full.0 refl full.1;
      next = refl;
    }
