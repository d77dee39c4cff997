-- Laws of the decision, and of what follows it.
use Rattle.std.specs.Prelude.{Ok, Err}
use mathlib.Core.Path.{◌≡◌, refl, ap, sym, ◌∙◌}
use mathlib.Core.Bool.{true, false}
use mathlib.Core.List.{List, map}
use Prim.Native.Nat.{ℕ, ◌+◌, ◌*◌, ◌^◌, ◌≤◌, ◌<◌}
use native.Mathlib.Omega.{arith}
use borrow.Author.Tests.{le-leb, lt-leb, lt-ltb, le-ltb}
use lib.ListN.{length, take, length-map, length-take}
use lib.Seq.{length-take-le}
use Rattle.text.specs.Format.{Message}
use Rattle.text.specs.Bytes.{write}
use Rattle.text.proofs.WriteLaws.{take_written, length_write}
use Rattle.message_log.specs.declared.Refusal.{Refusal}
use Rattle.message_log.specs.declared.Refusal.TheVariants.{Sizes, LastId, TooMuch, TooLong, Full, NoId, NoRoom}
use Rattle.message_log.specs.declared.Order.TheVariants.{Replace}
use Rattle.message_log.specs.declared.Answered.{Answered}
use Rattle.message_log.specs.declared.opening.Kept.{Kept}
use Rattle.message_log.specs.Opening.{read_file, all_fit, refused, opened, judge, opening, image}
use Rattle.message_log.specs.Opened.{Opened, sized, stored, left_row, rows_from, no_counters, opened_log_by, open_log}
use Rattle.message_log.specs.Scan.{row_message, row_messages, LeftIn, AllRows, Accepted, Imaged, imaged, fit_left}
use Rattle.message_log.specs.Scan.{from_store}
use Rattle.message_log.proofs.Room.{image_short}
use Rattle.message_log.proofs.OpenLaws.{Sized, sized_all}
use Rattle.message_log.proofs.StoreLaws.{stored_long, read_back, left_fit}

module _ (file : List ℕ) where
  refuse_id : 2 ^ 64 ≤ (read_file file).next → opening file ≡ refused LastId
  unfolding opening judge
  refuse_id h = cc (le-ltb (read_file file).next (2 ^ 64) h)

  refuse_many : (read_file file).next < 2 ^ 64 → 256 < length (read_file file).left → opening file ≡ refused TooMuch
  unfolding opening judge
  refuse_many h l = cc (lt-ltb (read_file file).next (2 ^ 64) h, lt-leb (length (read_file file).left) 256 l)

  refuse_long : (read_file file).next < 2 ^ 64 → length (read_file file).left ≤ 256 → all_fit (read_file file).left
      ≡ false → opening file ≡ refused TooMuch
  unfolding opening judge
  refuse_long h l f = cc (lt-ltb (read_file file).next (2 ^ 64) h, le-leb (length (read_file file).left) 256 l, f)

  accepts : (read_file file).next < 2 ^ 64 → length (read_file file).left ≤ 256 → all_fit (read_file file).left ≡ true
      → opening file ≡ opened (read_file file)
  unfolding opening judge
  accepts h l f = cc (lt-ltb (read_file file).next (2 ^ 64) h, le-leb (length (read_file file).left) 256 l, f)

  -- the refusals of the reader, by cases
  pub left_refused : (rows : List (List ℕ)) (e : Refusal) → LeftIn file (Err e) rows → opening file ≡ refused e
  left_refused rows LastId h = refuse_id h
  left_refused rows TooMuch h = refuse_many h.0 h.1
  left_refused rows Sizes h = absurd h
  left_refused rows TooLong h = absurd h
  left_refused rows Full h = absurd h
  left_refused rows NoId h = absurd h
  left_refused rows NoRoom h = absurd h

  module _ (rows : List (List ℕ)) (kept : Kept) (top : kept.next < 2 ^ 64) (a : AllRows file kept rows) where
    few : length (read_file file).left ≤ 256
    few = omega (
      arith,
      ap length a.left_are ∙ length-map (take kept.count rows) (row_message file),
      length-take kept.count rows,
      a.few,
    )

    pub rows_too_long : false ≡ all_fit (row_messages file (take kept.count rows)) → opening file ≡ refused TooMuch
    rows_too_long f = refuse_long (omega (arith, a.next_is)) few (ap all_fit a.left_are ∙ sym f)

    pub rows_accepted : true ≡ all_fit (row_messages file (take kept.count rows)) → Accepted file kept rows
    rows_accepted f = let fit : all_fit (read_file file).left ≡ true = ap all_fit a.left_are ∙ sym f in
        record { rows = a; fit = fit; opens = accepts (omega (arith, a.next_is)) few fit }

-- an accepted file
opened_shape : (log store : List ℕ) (table left : List (List ℕ)) (ms : List Message) (next count size : ℕ)
    (log' store' : List ℕ) (table' left' : List (List ℕ))
    → log' ≡ write log 0 (image ms) → store' ≡ stored 0 ms store → table' ≡ write table 0 (rows_from 0 ms) → left'
    ≡ write left 0 (map left_row ms) → size ≡ length (image ms) → count ≡ length ms
    → ◌≡◌ {A = Opened} (record {
      log = log';
      store = store';
      table = table';
      left = left';
      step = record {
        counters = record { next = next; live = size; size = size; dirty = false; count = count };
        answer = Ok (Replace size);
      };
    }) (opened_log_by log store table left (record { left = ms; next = next }))
opened_shape log store table left ms next count size log' store' table' left' l p b q z c = rw (l, p, b, q, z, c) refl

module _ (log : List ℕ) (n : ℕ) (store : List ℕ) (table left rows : List (List ℕ)) (kept : Kept)
    (s : sized (length log) n (length store) (length table) (length left) ≡ true) (wide : length rows ≡ 257)
    (a : Accepted (take n log) kept rows) where
  abbrev count : ℕ
  count = kept.count

  abbrev lent : Sized (length log) n (length store) (length table) (length left)
  lent = sized_all (length log) n (length store) (length table) (length left) s

  abbrev ms : List Message
  ms = row_messages (take n log) (take count rows)

  same : (read_file (take n log)).left ≡ ms
  same = a.rows.left_are

  count_is : length ms ≡ count
  count_is = length-map (take count rows) (row_message (take n log))
      ∙ length-take-le count rows (omega (arith, wide, a.rows.few))

  pub fit : all_fit ms ≡ true
  fit = ap all_fit (sym same) ∙ a.fit

  small : 160 * (0 + length ms) ≤ length store
  small = omega (arith, count_is, a.rows.few, lent.store_is)

  module _ (store' : List ℕ) (p : store' ≡ stored 0 ms store) (left' : List (List ℕ)) (q : left'
      ≡ write left 0 (map left_row ms)) where
    store_long : length store' ≡ 40960
    store_long = ap length p ∙ (stored_long ms 0 store fit small ∙ lent.store_is)

    rows_are : take count left' ≡ map left_row ms
    rows_are =
        let k : 0 + length (map left_row ms) ≡ count = omega (arith, length-map ms left_row, count_is) in
        ap (take count) q ∙ (ap (λ j. take j (write left 0 (map left_row ms))) (sym k)
        ∙ take_written left 0 (map left_row ms) (omega arith))

    left_long : length left' ≡ 256
    left_long = ap length q ∙ (length_write left 0 (map left_row ms) (omega (
      arith,
      length-map ms left_row,
      count_is,
      a.rows.few,
      lent.left_is,
    )) ∙ lent.left_is)

    rows_fit_lem : fit_left (take count left') ≡ true
    rows_fit_lem = ap fit_left rows_are ∙ left_fit ms fit

    back : from_store 0 (take count left') store' ≡ ms
    back = ap (λ x. from_store 0 x store') rows_are ∙ (ap (from_store 0 (map left_row ms)) p
        ∙ read_back ms 0 store fit small)

    image_room : length (image (from_store 0 (take count left') store')) ≤ length log
    image_room = rw back (omega (
      arith,
      ap (λ x. length (image x)) same,
      image_short (take n log),
      length-take-le n log
          lent.file,
      lent.file,
    ))

    pub ready : (length (take count left') ≤ 256) × (length store' ≡ 40960) × (length table ≡ 256)
        × (fit_left (take count left') ≡ true) × (length (image (from_store 0 (take count left') store')) ≤ length log)
    ready = (omega (arith, length-take count left', a.rows.few), store_long, lent.table_is, rows_fit_lem, image_room)

    pub opened_is : (log' : List ℕ) (table' : List (List ℕ)) (size : ℕ)
        → ◌≡◌ {A = Imaged} (record { log = log'; table = table'; size = size })
        (imaged log table (from_store 0 (take count left') store'))
        → ◌≡◌ {A = Opened} (record {
          log = log';
          store = store';
          table = table';
          left = left';
          step = record {
            counters = record { next = kept.next; live = size; size = size; dirty = false; count = count };
            answer = Ok (Replace size);
          };
        }) (opened_log_by log store table left (read_file (take n log)))
    opened_is log' table' size i =
        let im : ◌≡◌ {A = Imaged} (record { log = log'; table = table'; size = size }) (imaged log table ms) = i
        ∙ ap (imaged log table) back in
        let l : log' ≡ write log 0 (image ms) = ap (λ x. x.log) im in
        let b : table' ≡ write table 0 (rows_from 0 ms) = ap (λ x. x.table) im in
        let z : size ≡ length (image ms) = ap (λ x. x.size) im in
        opened_shape log store table left ms kept.next count size log' store' table' left' l p b q z (sym count_is)
        ∙ (ap (λ k. opened_log_by log store table left (record { left = ms; next = k })) a.rows.next_is
        ∙ ap (λ l. opened_log_by log store table left (record { left = l; next = (read_file (take n log)).next }))
        (sym same))

-- a refused one
pub open_wrong : (log : List ℕ) (n : ℕ) (store : List ℕ) (table left : List (List ℕ)) (step : Answered)
    → sized (length log) n (length store) (length table) (length left) ≡ false → step
    ≡ record { counters = no_counters; answer = Err Sizes }
    → ◌≡◌ {A = Opened} (record { log = log; store = store; table = table; left = left; step = step })
    (open_log log n store table left)
unfolding open_log
open_wrong log n store table left step s e = cc

pub open_refused : (log : List ℕ) (n : ℕ) (store : List ℕ) (table left : List (List ℕ)) (step : Answered) (r : Refusal)
    → sized (length log) n (length store) (length table) (length left) ≡ true → opening (take n log) ≡ refused r
    → step ≡ record { counters = no_counters; answer = Err r }
    → ◌≡◌ {A = Opened} (record { log = log; store = store; table = table; left = left; step = step })
    (open_log log n store table left)
unfolding open_log
open_refused log n store table left step r s o e = cc

pub open_yes : (log : List ℕ) (n : ℕ) (store : List ℕ) (table left : List (List ℕ))
    → sized (length log) n (length store) (length table) (length left) ≡ true → opening (take n log)
    ≡ opened (read_file (take n log))
    → opened_log_by log store table left (read_file (take n log)) ≡ open_log log n store table left
unfolding open_log
open_yes log n store table left s o = cc
