-- What a turn of a pass over the file keeps (`Inv`), at the place where the reader is; how a pass begins and ends.
use Rattle.std.specs.Prelude.{Option, Some, None}
use Rattle.message_log.specs.declared.opening.Pass.{Pass}
use mathlib.Core.Path.{◌≡◌, sym, ap, ◌∙◌, subst}
use mathlib.Core.List.{List}
use Prim.Native.Nat.{ℕ, ◌-◌, ◌≤◌, ◌<◌, ◌^◌}
use native.Mathlib.Omega.{arith}
use lib.ListN.{length, drop}
use Rattle.text.specs.Bytes.{part}
use Rattle.text.specs.Format.{lines}
use Rattle.text.specs.Line.{read_line}
use Rattle.text.specs.Lines.{next_at}
use Rattle.text.specs.declared.lines.NextLine.{NextLine}
use Rattle.text.proofs.NextLaws.{found, no_line}
use Rattle.message_log.specs.Scan.{pass_rows, RowsRise, TookLine, Passed}
use Rattle.message_log.specs.Opening.{read_file}
use Rattle.message_log.proofs.ScanLaws.{rows_rise, Tracked, tracked_begin, tracked_end, tracked_line, next_lines_lem}
use Rattle.message_log.proofs.ScanLaws.{next_file, next_none, next_line, next_over}
use Rattle.message_log.proofs.RowLaws.{took_next, took_over}

pub record Inv (file : List ℕ) (lo at : ℕ) (p : Pass) (rows : List (List ℕ)) : Type 0 where
  pub inside : at ≤ length file
  pub some : 0 < length rows
  pub room : p.count ≤ length rows
  pub tracked : Tracked file lo p.hi (pass_rows p rows) (lines (drop at file))
  pub next : next_lines_lem p.next (lines (drop at file)) ≡ (read_file file).next

pub begins : (file : List ℕ) (lo : ℕ) (rows : List (List ℕ)) → 0 < length rows → lo < 2 ^ 64 - 1
    → Inv file lo 0 (record { count = 0; hi = 18446744073709551615; next = 0 }) rows
begins file lo rows some low = record {
  inside = omega arith;
  some = some;
  room = omega arith;
  tracked = tracked_begin _ _ _ low (omega arith);
  next = next_file file;
}

module _ (file : List ℕ) (lo at : ℕ) (p : Pass) (rows : List (List ℕ)) (i : Inv file lo at p rows) (t : NextLine)
    (is : t ≡ next_at file at) where
  pub ends : t.line ≡ None → Passed file lo p rows
  ends el =
      let n = no_line file at t is el in
      record { room = i.room; next = sym (next_none p.next _ n) ∙ i.next; window = tracked_end i.tracked n }

  module _ (a z : ℕ) (el : t.line ≡ Some (a, z)) where
    pub within : (a ≤ z) × (z ≤ length file)
    within = let f = found file at t is a z el in (f.low, omega (arith, f.inside))

    pub can : (p.count ≤ length rows) × (0 < length rows) × RowsRise lo (pass_rows p rows) p.hi
    can = (i.room, i.some, rows_rise file (pass_rows p rows) lo p.hi i.tracked.mid)

    module _ (r : Option Pass) (rows' : List (List ℕ)) (took : TookLine lo p rows (read_line (part file a z)) a r rows')
      where
        pub over : r ≡ None → 2 ^ 64 ≤ (read_file file).next
        over e =
            let f = found file at t is a z el in
            subst (λ n. 2 ^ 64 ≤ n) i.next (next_over p.next _ _ _ f.whole (took_over lo p rows _ a r rows' e took))

        pub goes : (q : Pass) → r ≡ Some q → length rows' ≡ length rows → Inv file lo t.at q rows'
        goes q e len =
            let f = found file at t is a z el in
            let k = took_next lo p rows _ a r rows' q e took in
            let here = ap (λ j. lines (drop j file)) f.start in
            let kept = subst (Tracked file _ _ _) (sym here) i.tracked in
            record {
              inside = omega (arith, f.past, f.inside);
              some = omega (arith, len, i.some);
              room = k.0;
              tracked = tracked_line _ _ _ _ _ _ _ q _ kept (here ∙ f.whole) k.1;
              next = next_line _ _ _ _ q _ _ _ _ f.whole k.1 ∙ i.next;
            }
