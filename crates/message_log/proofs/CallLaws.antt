-- What each call does, on a log that stands for the messages logged and not done: the log after it, its order, and
-- what the order is to a reader of the file.
use Rattle.std.specs.Prelude.{Some, Ok, Option, None}
use mathlib.Core.Path.{◌≡◌, refl, ap, sym, ◌∙◌, subst}
use mathlib.Core.Bool.{Bool, true, false}
use mathlib.Core.List.{List, [], ◌∷◌, ◌++◌}
use Prim.Native.Nat.{ℕ, ◌+◌, ◌-◌, ◌^◌, ◌≤◌, ◌<◌}
use native.Mathlib.Omega.{arith}
use borrow.Author.Tests.{ltb-true, leb-true}
use lib.Dec.{leb, ltb}
use lib.ListN.{length, take, drop, length-append}
use Rattle.text.specs.Format.{LF, ATTEMPTS, Message, record_text, record_line, done_line, line, print_id, retry_text}
use Rattle.text.specs.Format.{retry_line}
use Rattle.text.specs.Line.{put, done, retry, read_line}
use Rattle.text.specs.Bytes.{Free, write}
use Rattle.text.proofs.FormatLaws.{record_text_free, print_id_free, retry_text_free}
use Rattle.text.proofs.WriteLaws.{length_write, write_write, take_written, drop_written, part_written}
use Rattle.message_log.specs.declared.Order.{Order}
use Rattle.message_log.specs.declared.Order.TheVariants.{Append, Replace, Flush}
use Rattle.message_log.specs.declared.Refusal.{Refusal}
use Rattle.message_log.specs.declared.Refusal.TheVariants.{TooLong, Full, NoId, NoRoom}
use Rattle.message_log.specs.Stands.{Stands}
use Rattle.message_log.specs.Opening.{insert, remove, retried, Read, take_in, fits, image}
use Rattle.message_log.specs.Log.{Wal, turned_away, extended, compacted, with_record, logged, new_message, append_refusal}
use Rattle.message_log.specs.Log.{appended, append_of, open_rows, find_row, without_row, keeps, marked_done, mark_found}
use Rattle.message_log.specs.Log.{mark_of, nothing_due, with_tried, retry_written, retried_at, retry_found}
use Rattle.message_log.specs.Log.{counts_tries, retry_of, sync_log}
use Rattle.message_log.specs.Recovery.{LogCall, append, mark, sync, Called, by_append, by_mark, by_sync, did_call, Sent}
use Rattle.message_log.specs.Recovery as calls
use Rattle.message_log.specs.Recovery.{appending, replacing, flushing, sent, call_effect}
use Rattle.message_log.proofs.OpeningLaws.{read_line_record, read_line_done, read_line_retry, insert_last, image_snoc}
use Rattle.message_log.proofs.OpeningLaws.{and_left, and_right, untried_lines}
use Rattle.message_log.proofs.Steps.{Laid, laid, extended_stands, logged_stands, compacted_bytes, compacted_stands}
use Rattle.message_log.proofs.Steps.{known_below, without_stands, tried_laid}
use Rattle.message_log.proofs.SearchLaws.{open_finds}

-- what a reader of the file would have: the messages, and the next id
abbrev pub held : Wal → List Message → Read
held w ms = record { left = ms; next = w.counters.next }

-- a line that takes what is read as h to what is read as h'
abbrev pub Takes : Read → Read → List ℕ → Type 0
Takes h h' t = (r : Read) → r.left ≡ h.left → r.next ≤ h.next → ((take_in r (read_line t)).left ≡ h'.left)
    × ((take_in r (read_line t)).next ≤ h'.next)

-- what an order is to the file: one whole line more; the open records alone; nothing new
pub data Kind (h h' : Read) (size size' : ℕ) (s : Sent) : Type 0 where
  appends : (t : List ℕ) → s ≡ appending (line t) → Free LF t → Takes h h' t → size' ≡ size + length (line t)
      → Kind h h' size size' s
  replaces : s ≡ replacing (image h'.left) → size' ≡ length (image h'.left) → Kind h h' size size' s
  flushes : s ≡ flushing → h'.left ≡ h.left → h'.next ≡ h.next → size' ≡ size → Kind h h' size size' s

-- a call whose order goes out
pub record Orders (w : Wal) (ms : List Message) (c : LogCall) (after : Wal) (o : Order) : Type 0 where
  pub stands : Stands after (call_effect w c ms)
  pub long : length after.bytes ≡ length w.bytes
  pub tail : drop after.counters.size after.bytes ≡ drop after.counters.size w.bytes
  pub kind : Kind (held w ms) (held after (call_effect w c ms)) w.counters.size after.counters.size
      (sent after.bytes o)

-- a call: its order goes out, or nothing changes
abbrev pub ActsBy : Wal → List Message → LogCall → Wal → Option Order → Type 0
ActsBy w ms c after (Some o) = Orders w ms c after o
ActsBy w ms c after None = after ≡ w

abbrev pub Acts : Wal → List Message → LogCall → Called → Type 0
Acts w ms c did = ActsBy w ms c did.wal did.order

-- a text behind the others, and the log rewritten: the bytes after it
module _ (w : Wal) (text : List ℕ) (h : w.counters.size + length text ≤ length w.bytes) where
  extended_long : length (extended w text).bytes ≡ length w.bytes
  unfolding extended
  extended_long = length_write w.bytes w.counters.size text h

  extended_tail : drop (extended w text).counters.size (extended w text).bytes
      ≡ drop (extended w text).counters.size w.bytes
  unfolding extended
  extended_tail = drop_written w.bytes w.counters.size text (omega arith)

  extended_sent : sent (extended w text).bytes (Append w.counters.size (w.counters.size + length text))
      ≡ appending text
  unfolding extended sent
  extended_sent = ap appending (part_written w.bytes w.counters.size text h)

front : (bytes new : List ℕ) (n : ℕ) → n ≡ length new → new ≡ take n (write bytes 0 new)
front bytes new n e = let z : 0 + length new ≡ n = omega arith in sym (ap (λ k. take k (write bytes 0 new)) (sym z)
    ∙ take_written bytes 0 new (omega arith))

behind : (bytes new : List ℕ) (n : ℕ) → n ≡ length new → drop n (write bytes 0 new) ≡ drop n bytes
behind bytes new n e = let z : 0 + length new ≡ n = omega arith in subst (λ k. drop k (write bytes 0 new)
    ≡ drop k bytes) z (drop_written bytes 0 new (omega arith))

module _ (w : Wal) (ms : List Message) (s : Stands w ms) where
  live_fits : w.counters.live ≤ length w.bytes
  live_fits = omega (arith, s.fits, s.room)

  image_room : 0 + length (image ms) ≤ length w.bytes
  image_room = omega (arith, s.fits, s.live, s.room)

  abbrev packed_bytes : (compacted w).bytes ≡ write w.bytes 0 (image ms)
  packed_bytes = compacted_bytes w ms (laid w ms s) live_fits

  compacted_long : length (compacted w).bytes ≡ length w.bytes
  compacted_long = ap length packed_bytes ∙ length_write w.bytes 0 (image ms) image_room

  -- a new message: read behind the others, it is one more
  module _ (name body : List ℕ) (fit : fits (new_message w name body) ≡ true) where
    abbrev m : Message
    m = new_message w name body

    abbrev len : ℕ
    len = length (record_line m)

    takes_record : (after : Wal) → after.counters.next ≡ w.counters.next + 1
        → Takes (held w ms) (held after (ms ++ (m ∷ []))) (record_text m)
    unfolding take_in
    takes_record after n r a b =
        let said : read_line (record_text m) ≡ put m = read_line_record m s.top in
        let p : insert m ms ≡ ms ++ (m ∷ []) = insert_last m ms 0 w.counters.next (omega arith) s.rising in
        (cc, rw (said, take_in) (omega arith))

    module _ (few : w.counters.count < length w.table) (id : w.counters.next < 2 ^ 64 - 1)
        (room : w.counters.live + len ≤ length w.bytes) where
      append_grown : w.counters.size + len ≤ length w.bytes → Orders w ms (append name body) (logged w m)
          (Append w.counters.size (w.counters.size + len))
      unfolding call_effect extended with_record record_line
      append_grown h = record {
        stands = logged_stands w ms m s refl refl fit id few h;
        long = extended_long (with_record w m) (record_line m) h;
        tail = extended_tail (with_record w m) (record_line m) h;
        kind = appends (record_text m) (extended_sent (with_record w m) (record_line m) h) (record_text_free m)
            (takes_record (logged w m) refl) refl;
      }

      -- a new message adds its record to the image
      image_new : image (ms ++ (m ∷ [])) ≡ image ms ++ record_line m
      image_new = image_snoc ms m ∙ ap (λ t. image ms ++ t) (untried_lines m refl)

      both : (logged (compacted w) m).bytes ≡ write w.bytes 0 (image (ms ++ (m ∷ [])))
      unfolding extended with_record compacted
      both =
          let size : 0 + length (image ms) ≡ w.counters.live = omega (arith, s.live) in
          ap (λ d. write d w.counters.live (record_line m)) packed_bytes
          ∙ (ap (λ k. write (write w.bytes 0 (image ms)) k (record_line m)) (sym size)
          ∙ (write_write w.bytes 0 (image ms) (record_line m) image_room
          ∙ ap (write w.bytes 0) (sym (image_new))))

      new_size : w.counters.live + len ≡ length (image (ms ++ (m ∷ [])))
      new_size = rw (image_new, length-append) (omega (arith, s.live))

      append_replaced : Orders w ms (append name body) (logged (compacted w) m) (Replace (w.counters.live + len))
      unfolding call_effect sent extended with_record compacted
      append_replaced =
          let good = compacted_stands w ms (laid w ms s) live_fits in
          record {
            stands = logged_stands (compacted w) ms m good refl refl fit id (omega (arith, good.rows, s.rows))
                (omega (arith, compacted_long, room));
            long = ap length both ∙ length_write w.bytes 0 (image (ms ++ (m ∷ []))) (omega (arith, new_size, room));
            tail = ap (drop (w.counters.live + len)) both ∙ behind w.bytes (image (ms ++ (m ∷ [])))
                (w.counters.live + len) new_size;
            kind = replaces (ap (λ d. replacing (take (w.counters.live + len) d)) both
                ∙ ap replacing (sym (front w.bytes (image (ms ++ (m ∷ []))) (w.counters.live + len) new_size)))
                new_size;
          }

  append_acts : (name body : List ℕ) → Acts w ms (append name body) (by_append (append_of w name body))
  unfolding append_of append_refusal appended
  append_acts name body = at_fit (fits (new_message w name body)) refl
    where
      c : LogCall
      c = append name body

      n : Message
      n = new_message w name body

      at_room : fits n ≡ true → ltb w.counters.count (length w.table) ≡ true
          → ltb w.counters.next (2 ^ 64 - 1) ≡ true → leb (w.counters.live + length (record_line n))
          (length w.bytes) ≡ true
          → (t : Bool) → leb (w.counters.size + length (record_line n)) (length w.bytes) ≡ t
          → Acts w ms c (by_append (append_of w name body))
      at_room fit p q r true e =
          let d : append_of w name body ≡ record {
            wal = logged w n;
            answer =
                Ok (Append w.counters.size (w.counters.size + length (record_line n)));
          } = cc in
          subst (λ x. Acts w ms c (by_append x)) (sym d) (append_grown name body fit (ltb-true _ _ p) (ltb-true _ _ q)
          (leb-true _ _ r) (leb-true _ _ e))
      at_room fit p q r false e =
          let d : append_of w name body ≡ record {
            wal = logged (compacted w) n;
            answer =
                Ok (Replace (w.counters.live + length (record_line n)));
          } = cc in
          subst (λ x. Acts w ms c (by_append x)) (sym d) (append_replaced name body fit (ltb-true _ _ p)
          (ltb-true _ _ q) (leb-true _ _ r))

      away : (r : Refusal) → append_of w name body ≡ turned_away w r → Acts w ms c (by_append (append_of w name body))
      away r d = subst (λ x. Acts w ms c (by_append x)) (sym d) refl

      at_live : fits n ≡ true → ltb w.counters.count (length w.table) ≡ true
          → ltb w.counters.next (2 ^ 64 - 1) ≡ true
          → (t : Bool) → leb (w.counters.live + length (record_line n)) (length w.bytes) ≡ t
          → Acts w ms c (by_append (append_of w name body))
      at_live fit p q true e = at_room fit p q e (leb (w.counters.size + length (record_line n)) (length w.bytes))
          refl
      at_live fit p q false e = away NoRoom cc

      at_id : fits n ≡ true → ltb w.counters.count (length w.table) ≡ true → (t : Bool)
          → ltb w.counters.next (2 ^ 64 - 1) ≡ t → Acts w ms c (by_append (append_of w name body))
      at_id fit p true e = at_live fit p e (leb (w.counters.live + length (record_line n)) (length w.bytes)) refl
      at_id fit p false e = away NoId cc

      at_few : fits n ≡ true → (t : Bool) → ltb w.counters.count (length w.table) ≡ t
          → Acts w ms c (by_append (append_of w name body))
      at_few fit true e = at_id fit e (ltb w.counters.next (2 ^ 64 - 1)) refl
      at_few fit false e = away Full cc

      at_fit : (t : Bool) → fits n ≡ t → Acts w ms c (by_append (append_of w name body))
      at_fit true e = at_few e (ltb w.counters.count (length w.table)) refl
      at_fit false e = away TooLong cc

  -- a mark: its line read behind the others takes the message off
  module _ (id i : ℕ) (found : find_row 0 id (open_rows w) ≡ Some i) where
    abbrev without : Wal
    without = without_row w i

    abbrev rest : List Message
    rest = remove id ms

    abbrev standing : Stands without rest
    standing = without_stands w ms s id i found

    takes_done : (after : Wal) → after.counters.next ≡ w.counters.next → Takes (held w ms) (held after rest)
        (print_id id)
    unfolding take_in
    takes_done after n r a b =
        let said : read_line (print_id id) ≡ done id =
        read_line_done id (omega (arith, s.top, known_below w ms s id i found)) in
        (cc, rw (said, take_in) (omega arith))

    mark_grown : without.counters.size + length (done_line id) ≤ length without.bytes
        → Orders w ms (mark id) (extended without (done_line id)) (Append without.counters.size
        (without.counters.size + length (done_line id)))
    unfolding call_effect extended without_row done_line
    mark_grown h = record {
      stands =
          extended_stands without rest (done_line id) (laid without rest standing) h (omega (arith, standing.fits));
      long = extended_long without (done_line id) h;
      tail = extended_tail without (done_line id) h;
      kind = appends (print_id id) (extended_sent without (done_line id) h) (print_id_free id)
          (takes_done (extended without (done_line id)) refl) refl;
    }

    mark_replaced : Orders w ms (mark id) (compacted without) (Replace without.counters.live)
    unfolding call_effect sent compacted without_row
    mark_replaced =
        let fits : without.counters.live ≤ length without.bytes = omega (arith, standing.fits, standing.room) in
        let bytes = compacted_bytes without rest (laid without rest standing) fits in
        let n : without.counters.live ≡ length (image rest) = standing.live in
        let room : 0 + length (image rest) ≤ length without.bytes =
        omega (arith, n) in
        record {
          stands = compacted_stands without rest (laid without rest standing) fits;
          long = ap length bytes ∙ length_write without.bytes 0 (image rest) room;
          tail = ap (drop without.counters.live) bytes ∙ behind without.bytes (image rest)
              without.counters.live n;
          kind = replaces (ap (λ d. replacing (take without.counters.live d)) bytes
              ∙ ap replacing (sym (front without.bytes (image rest) without.counters.live n))) n;
        }

    marked_acts : (compactAt : ℕ) → Acts w ms (mark id) (by_mark (marked_done compactAt without id))
    unfolding marked_done keeps
    marked_acts compactAt = at (keeps compactAt (length without.bytes) without.counters.live
        (without.counters.size + length (done_line id))) refl
      where
        at : (t : Bool) → keeps compactAt (length without.bytes) without.counters.live (without.counters.size
            + length (done_line id)) ≡ t → Acts w ms (mark id) (by_mark (marked_done compactAt without id))
        at true e =
            let d : marked_done compactAt without id ≡ record {
              wal = extended without (done_line id);
              due =
                  Some (Append without.counters.size (without.counters.size + length (done_line id)));
            } =
            cc in
            subst (λ x. Acts w ms (mark id) (by_mark x)) (sym d)
            (mark_grown (leb-true _ _ (and_left (leb (without.counters.size + length (done_line id))
            (length without.bytes)) _ e)))
        at false e =
            let d : marked_done compactAt without id ≡ record {
              wal = compacted without;
              due =
                  Some (Replace without.counters.live);
            } = cc in
            subst (λ x. Acts w ms (mark id) (by_mark x)) (sym d) mark_replaced

  mark_acts : (compactAt id : ℕ) → Acts w ms (mark id) (by_mark (mark_of compactAt w id))
  unfolding mark_of
  mark_acts compactAt id =
      subst (λ o. Acts w ms (mark id) (by_mark (mark_found compactAt w id o))) (sym (open_finds w ms s id))
      (at (find_row 0 id (open_rows w)) refl)
    where
      at : (o : Option ℕ) → find_row 0 id (open_rows w) ≡ o
          → Acts w ms (mark id) (by_mark (mark_found compactAt w id (find_row 0 id (open_rows w))))
      at None e = subst (λ o. Acts w ms (mark id) (by_mark (mark_found compactAt w id o))) (sym e) refl
      at (Some i) e = subst (λ o. Acts w ms (mark id) (by_mark (mark_found compactAt w id o))) (sym e)
          (marked_acts id i e compactAt)

  -- a retry: its line read behind the others sets the attempts
  module _ (id i n : ℕ) (found : find_row 0 id (open_rows w) ≡ Some i) (told : 0 < n) (most : n ≤ ATTEMPTS) where
    abbrev tried : Wal
    tried = with_tried w id i n

    abbrev again : List Message
    again = retried id n ms

    abbrev lies : Laid tried again
    lies = tried_laid w ms s id i found n told most

    live_less : tried.counters.live ≤ w.counters.size + length (retry_line id n)
    unfolding with_tried
    live_less = omega (arith, s.fits)

    takes_retry : (after : Wal) → after.counters.next ≡ w.counters.next → Takes (held w ms) (held after again)
        (retry_text id n)
    unfolding take_in
    takes_retry after same r a b =
        let said : read_line (retry_text id n) ≡ retry id n =
        read_line_retry id n (omega (arith, s.top, known_below w ms s id i found)) most in
        (cc, rw (said, take_in) (omega arith))

    retry_grown : tried.counters.size + length (retry_line id n) ≤ length tried.bytes
        → Orders w ms (calls.retry id n) (extended tried (retry_line id n)) (Append tried.counters.size
        (tried.counters.size + length (retry_line id n)))
    unfolding call_effect extended with_tried retry_line
    retry_grown h = record {
      stands = extended_stands tried again (retry_line id n) lies h live_less;
      long = extended_long tried (retry_line id n) h;
      tail = extended_tail tried (retry_line id n) h;
      kind = appends (retry_text id n) (extended_sent tried (retry_line id n) h) (retry_text_free id n)
          (takes_retry (extended tried (retry_line id n)) refl) refl;
    }

    retry_replaced : tried.counters.live ≤ length tried.bytes
        → Orders w ms (calls.retry id n) (compacted tried) (Replace tried.counters.live)
    unfolding call_effect sent compacted with_tried
    retry_replaced fits =
        let bytes = compacted_bytes tried again lies fits in
        let k : tried.counters.live ≡ length (image again) = lies.live in
        let room : 0 + length (image again) ≤ length tried.bytes = omega (arith, k) in
        record {
          stands = compacted_stands tried again lies fits;
          long = ap length bytes ∙ length_write tried.bytes 0 (image again) room;
          tail = ap (drop tried.counters.live) bytes ∙ behind tried.bytes (image again)
              tried.counters.live k;
          kind = replaces (ap (λ d. replacing (take tried.counters.live d)) bytes
              ∙ ap replacing (sym (front tried.bytes (image again) tried.counters.live k))) k;
        }

    written_acts : tried.counters.live ≤ length tried.bytes
        → Acts w ms (calls.retry id n) (by_mark (retry_written tried id n))
    unfolding retry_written
    written_acts fits = at (leb (tried.counters.size + length (retry_line id n)) (length tried.bytes)) refl
      where
        at : (t : Bool) → leb (tried.counters.size + length (retry_line id n)) (length tried.bytes) ≡ t
            → Acts w ms (calls.retry id n) (by_mark (retry_written tried id n))
        at true e =
            let d : retry_written tried id n ≡ record {
              wal = extended tried (retry_line id n);
              due = Some (Append tried.counters.size (tried.counters.size + length (retry_line id n)));
            } = cc in
            subst (λ x. Acts w ms (calls.retry id n) (by_mark x)) (sym d) (retry_grown (leb-true _ _ e))
        at false e =
            let d : retry_written tried id n
            ≡ record { wal = compacted tried; due = Some (Replace tried.counters.live) } = cc in
            subst (λ x. Acts w ms (calls.retry id n) (by_mark x)) (sym d) (retry_replaced fits)

    same_bytes_lem : tried.counters.live ≤ length w.bytes → tried.counters.live ≤ length tried.bytes
    unfolding with_tried
    same_bytes_lem h = h

    retried_acts : Acts w ms (calls.retry id n) (by_mark (retried_at w id n i))
    unfolding retried_at
    retried_acts = at (leb tried.counters.live (length w.bytes)) refl
      where
        at : (t : Bool) → leb tried.counters.live (length w.bytes) ≡ t
            → Acts w ms (calls.retry id n) (by_mark (retried_at w id n i))
        at true e =
            let d : retried_at w id n i ≡ retry_written tried id n = cc in
            subst (λ x. Acts w ms (calls.retry id n) (by_mark x)) (sym d) (written_acts (same_bytes_lem (leb-true _ _ e)))
        at false e =
            let d : retried_at w id n i ≡ nothing_due w = cc in
            subst (λ x. Acts w ms (calls.retry id n) (by_mark x)) (sym d) refl

  retry_acts : (id n : ℕ) → Acts w ms (calls.retry id n) (by_mark (retry_of w id n))
  unfolding retry_of counts_tries
  retry_acts id n = counted (counts_tries n) refl
    where
      at : 0 < n → n ≤ ATTEMPTS → (o : Option ℕ) → find_row 0 id (open_rows w) ≡ o
          → Acts w ms (calls.retry id n) (by_mark (retry_found w id n o))
      at told most None e = refl
      at told most (Some i) e = retried_acts id i n e told most

      counted : (t : Bool) → counts_tries n ≡ t → Acts w ms (calls.retry id n) (by_mark (retry_of w id n))
      counted true e =
          let told : 0 < n = ltb-true 0 n (and_left (ltb 0 n) (leb n ATTEMPTS) e) in
          let most : n ≤ ATTEMPTS = leb-true n ATTEMPTS (and_right (ltb 0 n) (leb n ATTEMPTS) e) in
          let d : retry_of w id n ≡ retry_found w id n (find_row 0 id (open_rows w)) = cc (open_finds w ms s id) in
          subst (λ x. Acts w ms (calls.retry id n) (by_mark x)) (sym d) (at told most (find_row 0 id (open_rows w)) refl)
      counted false e =
          let d : retry_of w id n ≡ nothing_due w = cc in
          subst (λ x. Acts w ms (calls.retry id n) (by_mark x)) (sym d) refl

  abbrev flushed : Called
  flushed = record {
    wal = record {
      bytes = w.bytes;
      table = w.table;
      counters = record {
        next = w.counters.next;
        live =
            w.counters.live;
        size = w.counters.size;
        dirty = false;
        count = w.counters.count;
      };
    };
    order = Some Flush;
  }

  sync_acts : Acts w ms sync (by_sync w (sync_log w.counters))
  unfolding sync_log call_effect sent
  sync_acts = at w.counters.dirty refl
    where
      at : (t : Bool) → w.counters.dirty ≡ t → Acts w ms sync (by_sync w (sync_log w.counters))
      at true e =
          let d : by_sync w (sync_log w.counters) ≡ flushed = cc in
          subst (Acts w ms sync) (sym d) (record {
            stands = record {
              rising = s.rising;
              small = s.small;
              tries = s.tries;
              top = s.top;
              room = s.room;
              live = s.live;
              fits = s.fits;
              count = s.count;
              rows = s.rows;
              tabled = s.tabled;
            };
            long = refl;
            tail = refl;
            kind = flushes refl refl refl refl;
          })
      at false e = let d : by_sync w (sync_log w.counters)
          ≡ record { wal = record { bytes = w.bytes; table = w.table; counters = w.counters }; order = None } =
          cc in subst (Acts w ms sync) (sym d) refl

-- every call, on a log that stands for the messages
pub acts : (compactAt : ℕ) (w : Wal) (ms : List Message) (c : LogCall) → Stands w ms
    → Acts w ms c (did_call compactAt w c)
unfolding did_call
acts compactAt w ms (append name body) s = append_acts w ms s name body
acts compactAt w ms (mark id) s = mark_acts w ms s compactAt id
acts compactAt w ms (calls.retry id n) s = retry_acts w ms s id n
acts compactAt w ms sync s = sync_acts w ms s
