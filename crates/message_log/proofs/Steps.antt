-- Every step of the log keeps that its state stands for the messages logged and not done.
use Rattle.std.specs.Prelude.{Some}
use mathlib.Core.Path.{◌≡◌, refl, ap, sym, ◌∙◌, subst}
use mathlib.Core.Bool.{Bool, true, false}
use mathlib.Core.List.{List, [], ◌∷◌, ◌++◌}
use Prim.Native.Nat.{ℕ, suc, ◌+◌, ◌-◌, ◌^◌, ◌≤◌, ◌<◌}
use native.Mathlib.Omega.{arith}
use native.Mathlib.Numerals.{add-one}
use borrow.Author.Tests.{eqb-true, ne_eqb}
use lib.Dec.{eqb}
use lib.ListN.{length, take, drop, get_or, set, length-append, length-set}
use lib.Seq.{take-suc-set, length-take-le, get_or-take, take-set-lt}
use Rattle.text.specs.Format.{ATTEMPTS, Message, record_text, record_line, retry_line, attempts_line, message_lines}
use Rattle.text.specs.Bytes.{write, part}
use Rattle.text.proofs.WriteLaws.{length_write, take_written, part_written, length_part}
use Rattle.message_log.specs.Stands.{Small, Tries, Stands, Tabled}
use Rattle.message_log.specs.Opening.{Rising, remove, tried_times, retried, fits, image, RECORDS}
use Rattle.message_log.specs.Log.{row, row_id, row_at, row_len, row_tried, row_tries, row_span, Wal, open_rows, extended}
use Rattle.message_log.specs.Log.{rewritable, rewrite, compacted, with_record, logged, find_row, without_row, with_tried}
use Rattle.message_log.specs.Opened.{rows_from}
use Rattle.message_log.specs.Scan.{retry_row}
use Rattle.message_log.proofs.TableLaws.{taken_out}
use Rattle.message_log.proofs.RowLaws.{retry_found_lem}
use Rattle.message_log.proofs.SearchLaws.{tabled_rise}
use Rattle.message_log.proofs.OpeningLaws.{Rising-low, Rising-snoc, Rising-remove, Rising-le, Small-remove, Small-snoc}
use Rattle.message_log.proofs.OpeningLaws.{Tries-remove, Tries-snoc, Tries-retried, Rising-retried, Small-retried}
use Rattle.message_log.proofs.OpeningLaws.{length_retried, retried_above, image_snoc, untried_lines}
use Rattle.message_log.proofs.TabledLaws.{small_few, tabled_start, tabled_behind, tabled_snoc, tabled_retried, span_is}
use Rattle.message_log.proofs.TabledLaws.{tabled_image, rows_from_lem, rows_image_lem, rows_placed_lem, rows_rewritable}

-- the state stands for these messages, but for how much room the file has for them
pub record Laid (w : Wal) (ms : List Message) : Type 0 where
  pub rising : Rising 0 ms w.counters.next
  pub small : Small ms
  pub tries : Tries ms
  pub top : w.counters.next < 2 ^ 64
  pub room : w.counters.size ≤ length w.bytes
  pub live : w.counters.live ≡ length (image ms)
  pub count : w.counters.count ≡ length ms
  pub rows : length w.table ≡ RECORDS
  pub tabled : Tabled w.bytes 0 ms (open_rows w) w.counters.size

pub laid : (w : Wal) (ms : List Message) → Stands w ms → Laid w ms
laid w ms s = record {
  rising = s.rising;
  small = s.small;
  tries = s.tries;
  top = s.top;
  room = s.room;
  live = s.live;
  count = s.count;
  rows = s.rows;
  tabled = s.tabled;
}

stands : (w : Wal) (ms : List Message) → Laid w ms → w.counters.live ≤ w.counters.size → Stands w ms
stands w ms s fits = record {
  rising = s.rising;
  small = s.small;
  tries = s.tries;
  top = s.top;
  room = s.room;
  live = s.live;
  fits = fits;
  count = s.count;
  rows = s.rows;
  tabled = s.tabled;
}

-- a text behind the others that says nothing of the open records' places
pub extended_stands : (w : Wal) (ms : List Message) (text : List ℕ) → Laid w ms
    → w.counters.size + length text ≤ length w.bytes → w.counters.live ≤ w.counters.size + length text
    → Stands (extended w text) ms
unfolding extended
extended_stands w ms text s h fits = record {
  rising = s.rising;
  small = s.small;
  tries = s.tries;
  top = s.top;
  room = omega (arith, length_write w.bytes w.counters.size text h);
  live = s.live;
  fits = fits;
  count = s.count;
  rows = s.rows;
  tabled = tabled_behind w.bytes w.counters.size text h 0 ms (open_rows w) (w.counters.size + length text)
      (omega arith) s.tabled;
}

-- a new message and its record
pub logged_stands : (w : Wal) (ms : List Message) (m : Message) → Stands w ms → m.id ≡ w.counters.next
    → m.attempts ≡ 0 → fits m ≡ true → w.counters.next < 2 ^ 64 - 1 → w.counters.count < length w.table
    → w.counters.size + length (record_line m) ≤ length w.bytes → Stands (logged w m) (ms ++ (m ∷ []))
unfolding extended with_record
logged_stands w ms m s named fresh fit id few room =
    let r : List ℕ = row m.id w.counters.size (length (record_line m)) 0 in
    let more : take (w.counters.count + 1) (set w.table w.counters.count r) ≡ open_rows w ++ (r ∷ []) =
    rw add-one (take-suc-set w.table w.counters.count r few) in
    let old : Tabled (write w.bytes w.counters.size (record_line m)) 0 ms (open_rows w) w.counters.size =
    tabled_behind w.bytes w.counters.size (record_line m) room 0 ms (open_rows w) w.counters.size
    (omega arith) s.tabled in
    let here : part (write w.bytes w.counters.size (record_line m)) w.counters.size
    (w.counters.size + length (record_line m)) ≡ record_line m = part_written w.bytes w.counters.size
    (record_line m) room in
    let lines : length (message_lines m) ≡ length (record_line m) = ap length (untried_lines m fresh) in
    record {
      rising = rw (add-one, ← named) (Rising-snoc m ms 0 w.counters.next (omega arith) s.rising);
      small = Small-snoc m ms s.small (omega (arith, s.count, s.rows)) fit;
      tries = Tries-snoc m ms (omega arith) s.tries;
      top = omega arith;
      room = omega (arith, length_write w.bytes w.counters.size (record_line m) room);
      live = rw (image_snoc, length-append) (omega (arith, s.live));
      fits = omega (arith, s.fits);
      count = rw length-append (ap (λ n. n + 1) s.count);
      rows = length-set w.table w.counters.count r ∙ s.rows;
      tabled = rw more (tabled_snoc (write w.bytes w.counters.size (record_line m)) 0 ms (open_rows w)
          w.counters.size m fresh here old);
    }

-- the rewrite, where the messages' image fits into the log
module _ (w : Wal) (ms : List Message) (s : Laid w ms) (h : w.counters.live ≤ length w.bytes) where
  can : rewritable (length w.bytes) 0 0 (open_rows w) ≡ true
  can = rows_rewritable w.bytes w.counters.size s.room 0 0 ms (open_rows w) s.tabled
      (omega (arith, s.live))

  pub compacted_bytes : (compacted w).bytes ≡ write w.bytes 0 (image ms)
  unfolding compacted rewrite
  compacted_bytes =
      let is = rows_image_lem w.bytes w.counters.size s.room 0 ms (open_rows w) s.tabled in
      cc can

  compacted_table : (compacted w).table ≡ write w.table 0 (rows_from 0 ms)
  unfolding compacted rewrite
  compacted_table =
      let is = rows_placed_lem w.bytes w.counters.size s.room 0 0 ms (open_rows w) s.tabled in
      cc can

  compacted_rows : open_rows (compacted w) ≡ rows_from 0 ms
  unfolding compacted
  compacted_rows =
      let n : 0 + length (rows_from 0 ms) ≡ w.counters.count = omega (arith, rows_from_lem 0 ms, s.count) in
      ap (take w.counters.count) compacted_table
      ∙ (ap (λ k. take k (write w.table 0 (rows_from 0 ms))) (sym n)
      ∙ take_written w.table 0 (rows_from 0 ms) (omega arith))

  pub compacted_stands : Stands (compacted w) ms
  unfolding compacted
  compacted_stands =
      let fit : 0 + length (image ms) ≤ length w.bytes = omega (arith, s.live) in
      let long : length (write w.bytes 0 (image ms)) ≡ length w.bytes = length_write w.bytes 0 (image ms) fit
      in
      let size : 0 + length (image ms) ≡ w.counters.live = omega (arith, s.live) in
      record {
        rising = s.rising;
        small = s.small;
        tries = s.tries;
        top = s.top;
        room = omega (arith, ap length compacted_bytes);
        live = s.live;
        fits = omega arith;
        count = s.count;
        rows = ap length compacted_table ∙ (length_write w.table 0 (rows_from 0 ms) (omega (
          arith,
          rows_from_lem 0 ms,
          s.rows,
          small_few ms s.small,
        )) ∙ s.rows);
        tabled = subst (λ d. Tabled d 0 ms (open_rows (compacted w)) w.counters.live) (sym compacted_bytes)
            (subst (λ rs. Tabled (write w.bytes 0 (image ms)) 0 ms rs w.counters.live) (sym compacted_rows)
            (subst (λ k. Tabled (write w.bytes 0 (image ms)) 0 ms (rows_from 0 ms) k) size
            (tabled_image w.bytes 0 ms fit)));
      }

-- an open record taken out
remove_none : (id : ℕ) (ms : List Message) (high : ℕ) → Rising (suc id) ms high → remove id ms ≡ ms
unfolding remove
remove_none id [] high r = refl
remove_none id (x ∷ xs) high r = cc (
  ne_eqb x.id id (omega (arith, r.0)),
  remove_none id xs high
      (Rising-low xs (suc x.id) (suc id) high (omega (arith, r.0)) r.1),
)

-- a row is found no lower than where the rows begin
find_low : (id j k : ℕ) (rs : List (List ℕ)) → find_row j id rs ≡ Some k → j ≤ k
unfolding find_row
find_low id j k [] e = let z : ◌≡◌ {A = ℕ} 0 1 = cc in absurd (omega arith)
find_low id j k (x ∷ rs) e = at (eqb (row_id x) id) refl (find_low id (suc j) k rs)
  where
    at : (t : Bool) → eqb (row_id x) id ≡ t → (find_row (suc j) id rs ≡ Some k → suc j ≤ k) → j ≤ k
    at true p later = let here : j ≡ k = cc in omega arith
    at false p later = omega (arith, later (cc))

-- the row found at place k of rows that begin at place j: it is the message's own
pub record Found (bytes : List ℕ) (start id : ℕ) (ms : List Message) (rs : List (List ℕ)) (size high j k : ℕ) : Type 0
  where
    pub low : j ≤ k
    pub within : k < j + length rs
    pub below : id < high
    pub less : length (image (remove id ms)) + row_span (get_or rs (k - j) []) ≡ length (image ms)
    pub fewer : suc (length (remove id ms)) ≡ length ms
    pub others : Tabled bytes start (remove id ms) (take (k - j) rs ++ drop (suc (k - j)) rs) size

module _ (bytes : List ℕ) (id size high : ℕ) where
  pub found_row : (ms : List Message) (rs : List (List ℕ)) (low start j k : ℕ) → Rising low ms high
      → Tabled bytes start ms rs size → find_row j id rs ≡ Some k → Found bytes start id ms rs size high j k
  unfolding find_row remove image
  found_row [] [] low start j k r t e = let z : ◌≡◌ {A = ℕ} 0 1 = cc in absurd (omega arith)
  found_row [] (x ∷ rs) low start j k r t e = absurd t
  found_row (m ∷ ms) [] low start j k r t e = absurd t
  found_row (m ∷ ms) (x ∷ rs) low start j k r t e = at (eqb (row_id x) id) refl (found_row ms rs (suc m.id)
      (row_at x + length (record_line m)) (suc j) k r.1 t.3)
    where
      named : row_id x ≡ m.id
      named = ap row_id t.0

      sized : row_span x ≡ length (message_lines m)
      sized = span_is m x t.0

      at : (c : Bool) → eqb (row_id x) id ≡ c → (find_row (suc j) id rs ≡ Some k
          → Found bytes (row_at x + length (record_line m)) id ms rs size high (suc j) k) → Found bytes start id (m ∷ ms)
          (x ∷ rs) size high j k
      at true c ih =
          let same : m.id ≡ id = sym named ∙ eqb-true (row_id x) id c in
          let mine : eqb m.id id ≡ true = ap (λ n. eqb n id) (sym named) ∙ c in
          let here : j ≡ k = cc in
          let zero : k - j ≡ 0 = omega arith in
          let gone : remove id (m ∷ ms) ≡ ms = cc (remove_none id ms high (rw same at r.1)) in
          record {
            low = omega arith;
            within = omega arith;
            below = omega (arith, Rising-le ms (suc m.id) high r.1);
            less = let first : row_span (get_or (x ∷ rs) 0 []) ≡ length (message_lines m) = sized in
                rw (gone, zero) (simp length-append (omega (arith, first)));
            fewer = ap (λ l. suc (length l)) gone;
            others = rw (gone, zero) (tabled_start bytes (row_at x + length (record_line m)) start ms rs size
                (omega (arith, t.1)) t.3);
          }
      at false c ih =
          let f = ih (cc) in
          let other : eqb m.id id ≡ false = ap (λ n. eqb n id) (sym named) ∙ c in
          let kept : remove id (m ∷ ms) ≡ m ∷ remove id ms = cc in
          let one : k - j ≡ suc (k - suc j) = omega (arith, f.low) in
          record {
            low = omega (arith, f.low);
            within = omega (arith, f.within);
            below = f.below;
            less = rw (kept, one) (simp length-append (omega (arith, f.less)));
            fewer = rw kept (ap suc f.fewer);
            others = rw (kept, one) (t.0, t.1, t.2, f.others);
          }

tried_line : (id n : ℕ) → 0 < n → attempts_line id n ≡ retry_line id n
unfolding attempts_line
tried_line id n told = cc (ne_eqb n 0 (λ z. omega arith))

-- a message whose attempts are set: its new line takes the place of the old one
tried_lines : (m : Message) (n : ℕ) → 0 < n
    → length (message_lines (tried_times m n)) + length (attempts_line m.id m.attempts)
    ≡ length (message_lines m) + length (retry_line m.id n)
unfolding message_lines record_line record_text
tried_lines m n told =
    let line : attempts_line m.id n ≡ retry_line m.id n = tried_line m.id n told in
    simp length-append (omega (arith, ap length line))

module _ (bytes : List ℕ) (id n size high : ℕ) (some_tries : 0 < n) where
  pub tried_image : (ms : List Message) (rs : List (List ℕ)) (low start j k : ℕ) → Rising low ms high
      → Tabled bytes start ms rs size → find_row j id rs ≡ Some k
      → length (image (retried id n ms)) + length (row_tries (get_or rs (k - j) []))
      ≡ length (image ms) + length (retry_line id n)
  unfolding find_row retried image
  tried_image [] [] low start j k r t e = let z : ◌≡◌ {A = ℕ} 0 1 = cc in absurd (omega arith)
  tried_image [] (x ∷ rs) low start j k r t e = absurd t
  tried_image (m ∷ ms) [] low start j k r t e = absurd t
  tried_image (m ∷ ms) (x ∷ rs) low start j k r t e = at (eqb (row_id x) id) refl (tried_image ms rs (suc m.id)
      (row_at x + length (record_line m)) (suc j) k r.1 t.3)
    where
      named : row_id x ≡ m.id
      named = ap row_id t.0

      own : row_tries x ≡ attempts_line m.id m.attempts
      own = let tried : row_tried x ≡ m.attempts = ap row_tried t.0 in cc

      at : (c : Bool) → eqb (row_id x) id ≡ c → (find_row (suc j) id rs ≡ Some k
          → length (image (retried id n ms)) + length (row_tries (get_or rs (k - suc j) []))
          ≡ length (image ms) + length (retry_line id n))
          → length (image (retried id n (m ∷ ms))) + length (row_tries (get_or (x ∷ rs) (k - j) []))
          ≡ length (message_lines m ++ image ms) + length (retry_line id n)
      at true c ih =
          let same : m.id ≡ id = sym named ∙ eqb-true (row_id x) id c in
          let mine : eqb m.id id ≡ true = ap (λ k. eqb k id) (sym named) ∙ c in
          let here : j ≡ k = cc in
          let zero : k - j ≡ 0 = omega arith in
          let rest : retried id n ms ≡ ms = retried_above id n ms high (rw same at r.1) in
          let now : retried id n (m ∷ ms) ≡ tried_times m n ∷ ms = cc in
          let lines = tried_lines m n some_tries in
          let told : length (retry_line m.id n) ≡ length (retry_line id n) = ap (λ k. length (retry_line k n)) same in
          rw (now, zero) (simp length-append (omega (arith, ap length own)))
      at false c ih =
          let f = ih (cc) in
          let other : eqb m.id id ≡ false = ap (λ k. eqb k id) (sym named) ∙ c in
          let kept : retried id n (m ∷ ms) ≡ m ∷ retried id n ms = cc in
          let place : (j ≤ k) × (k - j ≡ suc (k - suc j)) = behind c in
          rw (kept, place.1) (simp length-append (omega (arith, f)))
        where
          -- the row is found behind the first one
          behind : eqb (row_id x) id ≡ false → (j ≤ k) × (k - j ≡ suc (k - suc j))
          behind c =
              let p = find_low id (suc j) k rs (cc) in
              (omega arith, omega arith)

module _ (w : Wal) (ms : List Message) (s : Stands w ms) (id i : ℕ) (e : find_row 0 id (open_rows w) ≡ Some i) where
  abbrev found : Found w.bytes 0 id ms (open_rows w) w.counters.size w.counters.next 0 i
  found = found_row w.bytes id w.counters.size w.counters.next ms (open_rows w) 0 0 0 i s.rising
      s.tabled e

  pub known_below : id < w.counters.next
  known_below = found.below

  few : w.counters.count ≤ length w.table
  few = omega (arith, s.count, s.rows, small_few ms s.small)

  within : i < w.counters.count
  within = omega (arith, found.within, length-take-le w.counters.count w.table few)

  same_row : get_or w.table i [] ≡ get_or (open_rows w) i []
  same_row = sym (get_or-take w.counters.count w.table i [] within)

  own : row_span (get_or w.table i []) ≡ row_span (get_or (open_rows w) (i - 0) [])
  own = let z : i - 0 ≡ i = omega arith in
      rw z (ap (λ (r : List ℕ). row_span r) same_row)

  pub without_stands : Stands (without_row w i) (remove id ms)
  unfolding without_row
  without_stands =
      let z : i - 0 ≡ i = omega arith in
      let out : take (w.counters.count - 1) (write w.table i (part w.table (i + 1) w.counters.count))
      ≡ take (i - 0) (open_rows w) ++ drop (suc (i - 0)) (open_rows w) =
      rw z (taken_out w.table i w.counters.count within few) in
      record {
        rising = Rising-remove id ms 0 w.counters.next s.rising;
        small = Small-remove id ms s.small;
        tries = Tries-remove id ms s.tries;
        top = s.top;
        room = s.room;
        live = omega (arith, s.live, found.less, own);
        fits = omega (arith, s.fits);
        count = omega (arith, s.count, found.fewer);
        rows = length_write w.table i (part w.table (i + 1) w.counters.count)
            (omega (
              arith,
              within,
              few,
              length_part w.table (i + 1) w.counters.count (omega (arith, within))
                  few,
            )) ∙ s.rows;
        tabled = rw out found.others;
      }

  -- its attempts set: the row says so, and live has the new line in place of the old one
  pub tried_laid : (n : ℕ) → 0 < n → n ≤ ATTEMPTS → Laid (with_tried w id i n) (retried id n ms)
  unfolding with_tried
  tried_laid n told l =
      let tried = row_tried_lem n in
      record {
        rising = Rising-retried id n ms 0 w.counters.next s.rising;
        small = Small-retried id n ms s.small;
        tries = Tries-retried id n ms l s.tries;
        top = s.top;
        room = s.room;
        live = omega (arith, s.live, image_tried n told, found.less, own);
        count = s.count ∙ sym (length_retried id n ms);
        rows = length-set w.table i _ ∙ s.rows;
        tabled = subst (λ rs. Tabled w.bytes 0 (retried id n ms) rs w.counters.size) (sym tried)
            (tabled_retried w.bytes id n 0 ms (open_rows w) w.counters.size s.tabled);
      }
    where
      -- the rows are those with the attempts of the id
      row_tried_lem : (n : ℕ)
          → take w.counters.count (set w.table i
          (row id (row_at (get_or w.table i [])) (row_len (get_or w.table i [])) n)) ≡ retry_row id n (open_rows w)
      row_tried_lem n =
          ap (λ (r : List ℕ). take w.counters.count (set w.table i (row id (row_at r) (row_len r) n))) same_row
          ∙ (take-set-lt w.counters.count w.table i _ within
          ∙ sym (rw z at (retry_found_lem id n 0 i 0 w.counters.next (open_rows w)
          (tabled_rise w.bytes 0 ms (open_rows w) w.counters.size 0 w.counters.next s.tabled s.rising)
          e).is))
        where
          z : i - 0 ≡ i
          z = omega arith

      image_tried : (n : ℕ) → 0 < n → length (image (retried id n ms)) + length (row_tries (get_or w.table i []))
          ≡ length (image ms) + length (retry_line id n)
      image_tried n told =
          omega (
            arith,
            ap (λ (r : List ℕ). length (row_tries r)) same_row,
            rw z at (tried_image w.bytes id n w.counters.size w.counters.next told ms (open_rows w) 0 0 0 i
                s.rising s.tabled e),
          )
        where
          z : i - 0 ≡ i
          z = omega arith
