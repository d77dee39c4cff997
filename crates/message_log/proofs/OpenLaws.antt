-- The accepted opening: its state stands for the messages left, and its order is their image.
use mathlib.Core.Path.{◌≡◌, refl, sym, ap, ◌∙◌, subst}
use mathlib.Core.Bool.{Bool, true, ◌&&◌}
use mathlib.Core.List.{List}
use Prim.Native.Nat.{ℕ, ◌+◌, ◌≤◌}
use native.Mathlib.Omega.{arith}
use borrow.Author.Tests.{leb-true, le-leb, eqb-true, eq-eqb}
use lib.Dec.{eqb, leb}
use lib.ListN.{length, take}
use lib.Seq.{length-take-le}
use Rattle.text.specs.Format.{lines}
use Rattle.text.specs.Bytes.{write}
use Rattle.text.proofs.WriteLaws.{length_write, take_written}
use Rattle.message_log.specs.declared.Order.TheVariants.{Replace}
use Rattle.message_log.specs.Stands.{Stands, Tabled}
use Rattle.message_log.specs.Opening.{Read, nothing_read, read_file, opened, opening, image}
use Rattle.message_log.specs.Log.{Wal}
use Rattle.message_log.specs.Opened.{sized, rows_from, opened_log_by, open_log}
use Rattle.message_log.specs.Recovery.{sent, replacing, opened_wal}
use Rattle.message_log.proofs.OpeningLaws.{read_lines_in_order, read_lines_tries, and_left, and_right, judge_opened}
use Rattle.message_log.proofs.Room.{image_short}
use Rattle.message_log.proofs.TabledLaws.{small_few, tabled_image, rows_from_lem}

-- the lent sizes are right
pub record Sized (log n store table left : ℕ) : Type 0 where
  pub least : 16 ≤ log
  pub most : log ≤ 65536
  pub file : n ≤ log
  pub store_is : store ≡ 40960
  pub table_is : table ≡ 256
  pub left_is : left ≡ 256

pub sized_all : (log n store table left : ℕ) → sized log n store table left ≡ true → Sized log n store table left
unfolding sized
sized_all log n store table left e =
    let a : Bool = leb 16 log in
    let b : Bool = leb log 65536 in
    let c : Bool = leb n log in
    let d : Bool = eqb store 40960 in
    let f : Bool = eqb table 256 in
    let e5 : (a && b && c && d && f) ≡ true = and_left (a && b && c && d && f) (eqb left 256) e in
    let e4 : (a && b && c && d) ≡ true = and_left (a && b && c && d) f e5 in
    let e3 : (a && b && c) ≡ true = and_left (a && b && c) d e4 in
    let e2 : (a && b) ≡ true = and_left (a && b) c e3 in
    record {
      least = leb-true 16 log (and_left a b e2);
      most = leb-true log 65536 (and_right a b e2);
      file = leb-true n log (and_right (a && b) c e3);
      store_is = eqb-true store 40960 (and_right (a && b && c) d e4);
      table_is = eqb-true table 256 (and_right (a && b && c && d) f e5);
      left_is = eqb-true left 256 (and_right (a && b && c && d && f) (eqb left 256) e);
    }

pub sized_true : (log n store table left : ℕ) → Sized log n store table left → sized log n store table left ≡ true
unfolding sized
sized_true log n store table left s =
    cc (
      le-leb 16 log s.least,
      le-leb log 65536 s.most,
      le-leb n log s.file,
      eq-eqb store 40960 s.store_is,
      eq-eqb table 256 s.table_is,
      eq-eqb left 256 s.left_is,
    )

-- what opening does with a file that it accepts
pub open_accepts : (log : List ℕ) (n : ℕ) (store : List ℕ) (table left : List (List ℕ)) (r : Read)
    → sized (length log) n (length store) (length table) (length left) ≡ true → opening (take n log) ≡ opened r
    → open_log log n store table left ≡ opened_log_by log store table left r
unfolding open_log
open_accepts log n store table left r s e = cc

module _ (log : List ℕ) (n : ℕ) (store : List ℕ) (table left : List (List ℕ)) (r : Read) (s : sized (length log) n
    (length store) (length table) (length left) ≡ true) (ok : opening (take n log) ≡ opened r) where
  abbrev lent : Sized (length log) n (length store) (length table) (length left)
  lent = sized_all (length log) n (length store) (length table) (length left) s

  -- the image fits where the file was
  pub image_fits : length (image r.left) ≤ length log
  unfolding opening
  image_fits =
      let g = judge_opened (read_file (take n log)) r ok in
      omega (arith, rw g.same at (image_short (take n log)), length-take-le n log lent.file, lent.file)

  abbrev after : Wal
  after = opened_wal (opened_log_by log store table left r)

  pub opened_long : length after.bytes ≡ length log
  opened_long = length_write log 0 (image r.left) (omega (arith, image_fits))

  pub opened_stands : Stands after r.left
  unfolding opening read_file
  opened_stands =
      let g = judge_opened (read_file (take n log)) r ok in
      let few : length r.left ≤ 256 = small_few r.left (rw g.same at g.small) in
      let all : 0 + length (rows_from 0 r.left) ≡ length r.left = omega (arith, rows_from_lem 0 r.left) in
      let rows : take (length r.left) (write table 0 (rows_from 0 r.left)) ≡ rows_from 0 r.left =
      ap (λ k. take k (write table 0 (rows_from 0 r.left))) (sym all)
      ∙ take_written table 0 (rows_from 0 r.left) (omega arith) in
      let size : 0 + length (image r.left) ≡ length (image r.left) = omega arith in
      record {
        rising = rw g.same at (read_lines_in_order (lines (take n log)) nothing_read (omega arith));
        small = rw g.same at g.small;
        tries = rw g.same at (read_lines_tries (lines (take n log)) nothing_read tt);
        top = rw g.same at g.next;
        room = omega (arith, opened_long, image_fits);
        live = refl;
        fits = omega arith;
        count = refl;
        rows = length_write table 0 (rows_from 0 r.left) (omega (arith, lent.table_is)) ∙ lent.table_is;
        tabled = rw rows (subst (λ k. Tabled (write log 0 (image r.left)) 0 r.left (rows_from 0 r.left) k) size
            (tabled_image log 0 r.left (omega (arith, image_fits))));
      }

  pub opened_sent : sent after.bytes (Replace after.counters.size) ≡ replacing (image r.left)
  unfolding sent
  opened_sent = let z : 0 + length (image r.left) ≡ length (image r.left) = omega arith in
      ap replacing (ap (λ k. take k (write log 0 (image r.left))) (sym z) ∙ take_written log 0 (image r.left)
      (omega arith))
