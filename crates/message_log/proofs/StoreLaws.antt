-- Laws of the store at opening: messages put into its entries, read back, and written into the log.
use Rattle.std.specs.Prelude.{Option, unwrap_or}
use Rattle.std.specs.List.{list_all}
use mathlib.Core.Path.{◌≡◌, refl, ap, sym, ◌∙◌}
use mathlib.Core.Bool.{true, ◌&&◌}
use mathlib.Core.List.{List, [], ◌∷◌, ◌++◌, map}
use Prim.Native.Nat.{ℕ, suc, ◌+◌, ◌-◌, ◌*◌, ◌≤◌, ◌<◌}
use native.Mathlib.Numerals.{add-one}
use native.Mathlib.Omega.{arith}
use borrow.Author.Tests.{leb-true}
use borrow.Rule.Slice.PartMut.{put_mid}
use lib.Dec.{leb}
use lib.ListN.{length, take, drop, get_or, set, length-append, length-take, length-drop, length-set}
use lib.Seq.{length-take-le, drop_at, take-add}
use Rattle.text.specs.Format.{Message, record_text, record_line, attempts_line, message_lines}
use Rattle.text.specs.Line.{line_at}
use Rattle.text.specs.Bytes.{write, Wrote}
use Rattle.text.specs.Answers.{Filled, filled}
use Rattle.text.proofs.WriteLaws.{write_none, write_cons, length_write, take_write, take_written, write_write}
use Rattle.text.proofs.AnswerLaws.{filled_part, filled_answer}
use Rattle.message_log.specs.Opening.{fits, all_fit, image}
use Rattle.message_log.specs.Log.{row, row_at}
use Rattle.message_log.specs.Opened.{stored_at, stored, left_row, rows_from}
use Rattle.message_log.specs.Scan.{row_message, row_messages, fit_line, fit_left, from_store, Imaged, imaged}
use Rattle.message_log.proofs.OpeningLaws.{and_left, and_right}

-- the limits, row by row
pub all_fits : (file : List ℕ) (rs : List (List ℕ)) → list_all (λ r. fit_line (line_at file (row_at r))) rs
    ≡ all_fit (row_messages file rs)
unfolding all_fit fits fit_line
all_fits file [] = refl
all_fits file (r ∷ rs) = ap (λ b. fit_line (line_at file (row_at r)) && b) (all_fits file rs)

-- what the first of messages that fit says
pub record FitFirst (m : Message) (ms : List Message) : Type 0 where
  pub name : length m.name ≤ 32
  pub body : length m.body ≤ 128
  pub first : fits m ≡ true
  pub others : all_fit ms ≡ true

pub fit_first : (m : Message) (ms : List Message) → all_fit (m ∷ ms) ≡ true → FitFirst m ms
unfolding all_fit fits
fit_first m ms e =
    let f : (leb (length m.name) 32 && leb (length m.body) 128)
    ≡ true = and_left (leb (length m.name) 32 && leb (length m.body) 128) (all_fit ms) e in
    record {
      name = leb-true (length m.name) 32 (and_left (leb (length m.name) 32) (leb (length m.body) 128) f);
      body = leb-true (length m.body) 128 (and_right (leb (length m.name) 32) (leb (length m.body) 128) f);
      first = f;
      others = and_right (leb (length m.name) 32 && leb (length m.body) 128) (all_fit ms) e;
    }

take_drop : (l : List ℕ) (a n : ℕ) → a ≤ length l → take n (drop a l) ≡ drop a (take (a + n) l)
take_drop l a n h = sym (ap (drop a) (take-add a n l) ∙ drop_at (take a l) (take n (drop a l)) a
    (length-take-le a l h))

-- an entry of the store
module _ (i : ℕ) (m : Message) (st : List ℕ) (p : length m.name ≤ 32) (q : length m.body ≤ 128)
    (h : 160 * i + 160 ≤ length st) where
  named : List ℕ
  named = write st (160 * i) m.name

  named_long : length named ≡ length st
  unfolding named
  named_long = length_write st (160 * i) m.name (omega arith)

  at_long : length (stored_at i m st) ≡ length st
  unfolding named stored_at
  at_long = length_write named (160 * i + 32) m.body (omega (arith, named_long)) ∙ named_long

  at_below : (k : ℕ) → k ≤ 160 * i → take k (stored_at i m st) ≡ take k st
  unfolding named stored_at
  at_below k l = take_write named (160 * i + 32) k m.body (omega arith) (omega (arith, named_long))
      ∙ take_write st (160 * i) k m.name l (omega arith)

  at_name : take (160 * i + length m.name) (stored_at i m st) ≡ take (160 * i) st ++ m.name
  unfolding named stored_at
  at_name = take_write named (160 * i + 32) (160 * i + length m.name) m.body (omega arith)
      (omega (arith, named_long)) ∙ take_written st (160 * i) m.name (omega arith)

  at_body : take (160 * i + 32 + length m.body) (stored_at i m st) ≡ take (160 * i + 32) named ++ m.body
  unfolding named stored_at
  at_body = take_written named (160 * i + 32) m.body (omega (arith, named_long))

  -- of any store that has the same bytes below the next entry
  module _ (s : List ℕ) (same : (k : ℕ) → k ≤ 160 * suc i → take k s ≡ take k (stored_at i m st)) (l : length s
      ≡ length st) where
    read_name : take (length m.name) (drop (160 * i) s) ≡ m.name
    read_name = take_drop s (160 * i) (length m.name) (omega arith)
        ∙ (ap (drop (160 * i)) (same (160 * i + length m.name) (omega arith) ∙ at_name)
        ∙ drop_at (take (160 * i) st) m.name (160 * i) (length-take-le (160 * i) st (omega arith)))

    read_body : take (length m.body) (drop (160 * i + 32) s) ≡ m.body
    read_body = take_drop s (160 * i + 32) (length m.body) (omega arith)
        ∙ (ap (drop (160 * i + 32)) (same (160 * i + 32 + length m.body) (omega arith) ∙ at_body)
        ∙ drop_at (take (160 * i + 32) named) m.body (160 * i + 32) (length-take-le (160 * i + 32) named
        (omega (arith, named_long))))

pub stored_long : (ms : List Message) (i : ℕ) (st : List ℕ) → all_fit ms ≡ true → 160 * (i + length ms) ≤ length st
    → length (stored i ms st) ≡ length st
unfolding stored
stored_long [] i st f h = refl
stored_long (m ∷ ms) i st f h =
    let g = fit_first m ms f in
    let e = at_long i m st g.name g.body (omega arith) in
    stored_long ms (suc i) (stored_at i m st) g.others (omega (arith, e)) ∙ e

stored_below : (ms : List Message) (i k : ℕ) (st : List ℕ) → k ≤ 160 * i → all_fit ms ≡ true
    → 160 * (i + length ms) ≤ length st → take k (stored i ms st) ≡ take k st
unfolding stored
stored_below [] i k st l f h = refl
stored_below (m ∷ ms) i k st l f h =
    let g = fit_first m ms f in
    let e = at_long i m st g.name g.body (omega arith) in
    stored_below ms (suc i) k (stored_at i m st) (omega arith) g.others (omega (arith, e))
    ∙ at_below i m st g.name g.body (omega arith) k l

-- what was stored is read back, by the lengths handed back
pub read_back : (ms : List Message) (i : ℕ) (st : List ℕ) → all_fit ms ≡ true → 160 * (i + length ms) ≤ length st
    → from_store i (map left_row ms) (stored i ms st) ≡ ms
unfolding stored from_store
read_back [] i st f h = refl
read_back (m ∷ ms) i st f h =
    let g = fit_first m ms f in
    let e = at_long i m st g.name g.body (omega arith) in
    let s : List ℕ = stored (suc i) ms (stored_at i m st) in
    let b : (k : ℕ) → k ≤ 160 * suc i → take k s ≡ take k (stored_at i m st) = λ k l. stored_below ms (suc i) k
    (stored_at i m st) l g.others (omega (arith, e)) in
    let l : length s ≡ length st = stored_long ms (suc i) (stored_at i m st) g.others (omega (arith, e)) ∙ e in
    rw (
      read_name i m st g.name g.body (omega arith) s b l,
      read_body i m st g.name g.body (omega arith) s
          b l,
    ) (ap (λ r. m ∷ r) (read_back ms (suc i) (stored_at i m st) g.others (omega (arith, e))))

pub left_fit : (ms : List Message) → all_fit ms ≡ true → fit_left (map left_row ms) ≡ true
unfolding fit_left all_fit fits
left_fit [] f = refl
left_fit (m ∷ ms) f = let g = fit_first m ms f in cc (g.first, left_fit ms g.others)

-- storing, entry by entry
pub record Storing (file : List ℕ) (rows : List (List ℕ)) (store₀ : List ℕ) (left₀ : List (List ℕ))
    (store : List ℕ) (left : List (List ℕ)) (i : ℕ) : Type 0 where
  pub long : length store ≡ length store₀
  pub many : length left ≡ length left₀
  pub within : i ≤ length rows
  pub entries : stored i (row_messages file (drop i rows)) store
      ≡ stored 0 (row_messages file rows) store₀
  pub table : write left i (map left_row (row_messages file (drop i rows)))
      ≡ write left₀ 0 (map left_row (row_messages file rows))
  pub fit : all_fit (row_messages file (drop i rows)) ≡ true

module _ {file : List ℕ} {rows : List (List ℕ)} {store₀ : List ℕ} {left₀ : List (List ℕ)} {store : List ℕ}
    {left : List (List ℕ)} {i : ℕ} (s : Storing file rows store₀ left₀ store left i) where
  pub storing_ends : drop i rows ≡ [] → (store ≡ stored 0 (row_messages file rows) store₀)
      × (left ≡ write left₀ 0 (map left_row (row_messages file rows)))
  unfolding stored
  storing_ends e = (
    sym (ap (λ l. stored i (row_messages file l) store) e) ∙ s.entries,
    sym (ap (λ l. write left i (map left_row (row_messages file l))) e ∙ write_none left i) ∙ s.table,
  )

  module _ (r : List ℕ) (h : i < length rows) (l : i < length left) (e : drop i rows
      ≡ r ∷ drop (i + 1) rows) where
    pub storing_fits : FitFirst (row_message file r) (row_messages file (drop (i + 1) rows))
    storing_fits = fit_first (row_message file r) (row_messages file (drop (i + 1) rows))
        (ap (λ x. all_fit (row_messages file x)) (sym e) ∙ s.fit)

    pub storing_line : fit_line (line_at file (row_at r)) ≡ true
    unfolding fit_line fits
    storing_line = storing_fits.first

    pub storing_more : (store' : List ℕ) → 160 * i + 160 ≤ length store → store' ≡ stored_at i (row_message file r) store
        → (left' : List (List ℕ)) → left' ≡ set left i (left_row (row_message file r)) → Storing file rows store₀
        left₀ store' left' (i + 1)
    unfolding stored
    storing_more store' room p left' q =
        let m = row_message file r in
        let more = row_messages file (drop (i + 1) rows) in
        record {
          long = ap length p ∙ (at_long i m store storing_fits.name storing_fits.body room ∙ s.long);
          many = ap length q ∙ (length-set left i (left_row m) ∙ s.many);
          within = omega arith;
          entries = ap (λ k. stored k more store') (add-one i) ∙ (ap (stored (suc i) more) p
              ∙ (ap (λ x. stored i (row_messages file x) store) (sym e) ∙ s.entries));
          table = ap (λ x. write x (i + 1) (map left_row more)) q ∙ (write_cons left i (left_row m) (map left_row more) l
              ∙ (ap (λ x. write left i (map left_row (row_messages file x))) (sym e) ∙ s.table));
          fit = storing_fits.others;
        }

-- the image, record by record
pub record Imaging (log₀ : List ℕ) (table₀ : List (List ℕ)) (store : List ℕ) (left : List (List ℕ))
    (log : List ℕ) (table : List (List ℕ)) (at i : ℕ) : Type 0 where
  pub long : length log ≡ length log₀
  pub many : length table ≡ length table₀
  pub within : i ≤ length left
  pub room : at + length (image (from_store i (drop i left) store)) ≤ length log
  pub ends : at + length (image (from_store i (drop i left) store))
      ≡ length (image (from_store 0 left store))
  pub bytes : write log at (image (from_store i (drop i left) store))
      ≡ write log₀ 0 (image (from_store 0 left store))
  pub rows : write table i (rows_from at (from_store i (drop i left) store))
      ≡ write table₀ 0 (rows_from 0 (from_store 0 left store))
  pub fit : fit_left (drop i left) ≡ true

-- the message of an entry
abbrev pub entry_of : ℕ → List ℕ → List ℕ → Message
entry_of i x store = record {
  id = get_or x 0 0;
  name = take (get_or x 1 0) (drop (160 * i) store);
  body =
      take (get_or x 2 0) (drop (160 * i + 32) store);
  attempts = get_or x 3 0;
}

-- .. as the code's slices have it, for its record
abbrev pub sliced_of : ℕ → List ℕ → List ℕ → Message
sliced_of i x store = record {
  id = get_or x 0 0;
  name = take (160 * i + get_or x 1 0 - 160 * i) (drop (160 * i) store);
  body = take (160 * i + 32 + get_or x 2 0 - (160 * i + 32)) (drop (160 * i + 32) store);
  attempts = 0;
}

same_entry : (i : ℕ) (x store : List ℕ) → record_line (sliced_of i x store) ≡ record_line (entry_of i x store)
unfolding record_line record_text
same_entry i x store =
    let a : 160 * i + get_or x 1 0 - 160 * i ≡ get_or x 1 0 = omega arith in
    let b : 160 * i + 32 + get_or x 2 0 - (160 * i + 32) ≡ get_or x 2 0 = omega arith in
    rw (a, b) refl

pub record FitRow (x : List ℕ) (xs : List (List ℕ)) : Type 0 where
  pub name : get_or x 1 0 ≤ 32
  pub body : get_or x 2 0 ≤ 128
  pub others : fit_left xs ≡ true

fit_row : (x : List ℕ) (xs : List (List ℕ)) → fit_left (x ∷ xs) ≡ true → FitRow x xs
unfolding fit_left
fit_row x xs e =
    let f : (leb (get_or x 1 0) 32 && leb (get_or x 2 0) 128) ≡ true = and_left (leb (get_or x 1 0) 32 && leb (get_or x 2 0)
    128) (fit_left xs) e in
    record {
      name = leb-true (get_or x 1 0) 32 (and_left (leb (get_or x 1 0) 32) (leb (get_or x 2 0) 128) f);
      body = leb-true (get_or x 2 0) 128 (and_right (leb (get_or x 1 0) 32) (leb (get_or x 2 0) 128) f);
      others = and_right (leb (get_or x 1 0) 32 && leb (get_or x 2 0) 128) (fit_left xs) e;
    }

module _ {log₀ : List ℕ} {table₀ : List (List ℕ)} {store : List ℕ} {left : List (List ℕ)} {log : List ℕ}
    {table : List (List ℕ)} {at i : ℕ} (s : Imaging log₀ table₀ store left log table at i) where
  pub imaging_ends : drop i left ≡ [] → ◌≡◌ {A = Imaged} (record { log = log; table = table; size = at })
      (imaged log₀ table₀ (from_store 0 left store))
  unfolding from_store image rows_from
  imaging_ends e =
      let b : log ≡ write log₀ 0 (image (from_store 0 left store)) =
      sym (ap (λ l. write log at (image (from_store i l store))) e ∙ write_none log at) ∙ s.bytes in
      let t : table ≡ write table₀ 0 (rows_from 0 (from_store 0 left store)) =
      sym (ap (λ l. write table i (rows_from at (from_store i l store))) e ∙ write_none table i) ∙ s.rows in
      let n : at ≡ length (image (from_store 0 left store)) =
      omega (arith, s.ends, ap (λ l. length (image (from_store i l store))) e) in
      rw (b, t, n) refl

  module _ (x : List ℕ) (h : i < length left) (l : i < length table) (e : drop i left
      ≡ x ∷ drop (i + 1) left) where
    abbrev rest : List Message
    rest = from_store (i + 1) (drop (i + 1) left) store

    abbrev m : Message
    m = entry_of i x store

    here : from_store i (drop i left) store ≡ m ∷ rest
    unfolding from_store
    here = ap (λ y. from_store i y store) e ∙ ap (λ k. m ∷ from_store k (drop (i + 1) left) store)
        (sym (add-one i))

    pub imaging_fits : FitRow x (drop (i + 1) left)
    imaging_fits = fit_row x (drop (i + 1) left) (ap fit_left (sym e) ∙ s.fit)

    -- the retry line of the message
    abbrev tries : List ℕ
    tries = attempts_line (get_or x 0 0) (get_or x 3 0)

    split : length (image (from_store i (drop i left) store))
        ≡ length (record_line m) + length tries + length (image rest)
    unfolding image message_lines
    split = ap (λ y. length (image y)) here ∙ simp length-append refl

    module _ (last : List ℕ) (r : Option ℕ) (f : ◌≡◌ {A = Filled} (record { bytes = last; answer = r })
        (filled (take (length log - at) (drop at log)) (record_line (sliced_of i x store)))) (n : ℕ) (q : n ≡
        unwrap_or r 0)
      where
        filled_here : ◌≡◌ {A = Filled} (record { bytes = last; answer = r })
            (filled (take (length log - at) (drop at log)) (record_line m))
        filled_here = f ∙ ap (filled (take (length log - at) (drop at log))) (same_entry i x store)

        fits_here : at + length (record_line m) ≤ length log
        fits_here = omega (arith, s.room, split)

        record_length : n ≡ length (record_line m)
        record_length =
            let room : length (record_line m) ≤ length (take (length log - at) (drop at log)) =
            simp (length-take, length-drop) (omega (arith, fits_here)) in
            q ∙ ap (λ k. unwrap_or k 0) (filled_answer (take (length log - at) (drop at log)) (record_line m) last r room
            filled_here)

        pub size_fits : at + n ≤ length log
        size_fits = omega (arith, fits_here, record_length)

        -- the log with the message's record
        abbrev recorded : List ℕ
        recorded = put_mid at (length log - at) log last

        recorded_is : recorded ≡ write log at (record_line m)
        recorded_is = filled_part log at (record_line m) last r fits_here filled_here

        recorded_long : length recorded ≡ length log
        recorded_long = ap length recorded_is ∙ length_write log at (record_line m) fits_here

        pub tries_fit : at + n + length tries ≤ length recorded
        tries_fit = omega (arith, s.room, split, record_length, recorded_long)

        pub imaging_more : (log' : List ℕ) (end : ℕ) → Wrote recorded (at + n) tries log' end → (table' : List (List ℕ))
            → table' ≡ set table i (row (get_or x 0 0) at n (get_or x 3 0))
            → Imaging log₀ table₀ store left log' table' end (i + 1)
        unfolding image rows_from message_lines
        imaging_more log' end w table' t =
            let behind : at + n ≡ at + length (record_line m) = omega (arith, record_length) in
            let both : log' ≡ write log at (record_line m ++ tries) =
            w.bytes ∙ rw (recorded_is, behind) (write_write log at (record_line m) tries fits_here) in
            let size : length (record_line m ++ tries) ≡ length (record_line m) + length tries =
            length-append (record_line m) tries in
            let fit : at + length (record_line m ++ tries) ≤ length log = omega (arith, s.room, split) in
            let ends : end ≡ at + length (record_line m ++ tries) = omega (arith, w.past, record_length) in
            let new : List ℕ = row m.id at (length (record_line m)) m.attempts in
            let set_new : table' ≡ set table i new =
            t ∙ ap (λ k. set table i (row m.id at k m.attempts)) record_length in
            let long : length log' ≡ length log =
            ap length both ∙ length_write log at (record_line m ++ tries) fit in
            record {
              long = long ∙ s.long;
              many = ap length set_new ∙ (length-set table i new ∙ s.many);
              within = omega arith;
              room = omega (arith, s.room, split);
              ends = omega (arith, s.ends, split);
              bytes = rw (both, ends) (write_write log at (record_line m ++ tries) (image rest) fit
                  ∙ (ap (λ y. write log at (image y)) (sym here) ∙ s.bytes));
              rows = rw (set_new, ends) (write_cons table i new (rows_from (at + length (record_line m ++ tries)) rest) l
                  ∙ (ap (λ y. write table i (rows_from at y)) (sym here) ∙ s.rows));
              fit = imaging_fits.others;
            }
