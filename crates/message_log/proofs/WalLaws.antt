-- What the code of a step has made is what its definition says: one law for each way through a step.
use Rattle.std.specs.Prelude.{Some, None, Ok, Err, Option, ok_or, SomeIff}
use mathlib.Core.Path.{◌≡◌, refl, sym, ap, ◌∙◌, subst}
use mathlib.Core.Bool.{Bool, true, false, ◌&&◌}
use mathlib.Core.List.{List, []}
use Prim.Native.Nat.{ℕ, ◌+◌, ◌-◌, ◌*◌, ◌/◌, ◌^◌, ◌≤◌, ◌<◌, max}
use native.Mathlib.Omega.{arith}
use borrow.Author.Tests.{le-leb, lt-leb, leb-true, lt-ltb, le-ltb, ltb-true, ltb-false}
use lib.Dec.{leb, ltb}
use lib.ListN.{length, take, set, get_or}
use Rattle.text.specs.Format.{ATTEMPTS, Message, record_line, done_line, retry_line}
use Rattle.text.specs.Bytes.{write}
use Rattle.message_log.specs.declared.Counters.{Counters}
use Rattle.message_log.specs.declared.Order.TheVariants.{Append, Replace}
use Rattle.message_log.specs.declared.Refusal.TheVariants.{TooLong, Full, NoId, NoRoom}
use Rattle.message_log.specs.Log.{row, Wal, state, open_rows, DidAppend, DidMark, AnsweredDue, turned_away, extended}
use Rattle.message_log.specs.Log.{Rewritten}
use Rattle.message_log.specs.Log.{rewrite, row_at, row_len, row_tries, nothing_due, with_tried, retry_written}
use Rattle.message_log.specs.Log.{retried_at}
use Rattle.message_log.specs.Log.{counts_tries, retry_of}
use Rattle.message_log.specs.Log.{compacted, with_record, logged, new_message, append_refusal, appended, append_of}
use Rattle.message_log.specs.Log.{search_row, without_row, keeps, grown, line_behind, all_anew, marked_done, mark_of}
use Rattle.message_log.specs.Log.{sync_log}
use Rattle.message_log.specs.Opening.{fits}
use Rattle.message_log.proofs.OpeningLaws.{and_left}

-- whether a done line is appended
module _ (limit long live to : ℕ) where
  pub keeps_long : long < to → keeps limit long live to ≡ false
  unfolding keeps
  keeps_long h = cc (lt-leb to long h)

  pub keeps_room : keeps limit long live to ≡ true → to ≤ long
  unfolding keeps
  keeps_room e = leb-true to long (and_left (leb to long) (ltb to (max limit (2 * live))) e)

  pub keeps_limit : to ≤ long → to < limit → keeps limit long live to ≡ true
  unfolding keeps
  keeps_limit h l = cc (le-leb to long h, lt-ltb to (max limit (2 * live)) (omega arith))

  pub keeps_live : to ≤ long → limit ≤ to → keeps limit long live to ≡ ltb (to / 2) live
  unfolding keeps
  keeps_live h l = at (ltb (to / 2) live) refl
    where
      at : (t : Bool) → ltb (to / 2) live ≡ t → (leb to long && ltb to (max limit (2 * live))) ≡ ltb (to / 2) live
      at true e = let less = ltb-true (to / 2) live e in cc (
        le-leb to long h,
        lt-ltb to (max limit (2 * live))
            (omega arith),
      )
      at false e = let more = ltb-false (to / 2) live e in cc (
        le-leb to long h,
        le-ltb to (max limit (2 * live))
            (omega arith),
      )

-- the rewrite
pub compacted_is : (log log' : List ℕ) (rows rows' : List (List ℕ)) (c : Counters)
    → ◌≡◌ {A = Rewritten} (record { bytes = log'; table = rows' }) (rewrite log rows (take c.count rows))
    → state log' rows' (record { next = c.next; live = c.live; size = c.live; dirty = c.dirty; count = c.count })
    ≡ compacted (state log rows c)
unfolding compacted
compacted_is log log' rows rows' c e =
    let p : log' ≡ (rewrite log rows (take c.count rows)).bytes = ap (λ x. x.bytes) e in
    let q : rows' ≡ (rewrite log rows (take c.count rows)).table = ap (λ x. x.table) e in
    rw (p, q) refl

-- append
pub logged_is : (log log' : List ℕ) (rows rows' : List (List ℕ)) (c : Counters) (m : Message) (len : ℕ) → len
    ≡ length (record_line m) → log' ≡ write log c.size (record_line m) → rows'
    ≡ set rows c.count (row m.id c.size len 0)
    → state log' rows' (record {
      next = c.next + 1;
      live = c.live + len;
      size = c.size + len;
      dirty = true;
      count =
          c.count + 1;
    }) ≡ logged (state log rows c) m
unfolding extended with_record
logged_is log log' rows rows' c m len e p q = rw (p, q, e) refl

module _ (w after : Wal) (m : Message) (len : ℕ) (e : len ≡ length (record_line m)) where
  pub appended_behind : leb (w.counters.size + len) (length w.bytes) ≡ true → after ≡ logged w m
      → ◌≡◌ {A = DidAppend} (record {
        wal = after;
        answer = Ok (Append w.counters.size
            (w.counters.size + len));
      })
      (appended w m)
  unfolding appended
  appended_behind t a = let yes : leb (w.counters.size + length (record_line m)) (length w.bytes)
      ≡ true = rw e at t in cc

  pub appended_anew : leb (w.counters.size + len) (length w.bytes) ≡ false → after ≡ logged (compacted w) m
      → ◌≡◌ {A = DidAppend} (record { wal = after; answer = Ok (Replace (w.counters.live + len)) })
      (appended w m)
  unfolding appended
  appended_anew t a = let no : leb (w.counters.size + length (record_line m)) (length w.bytes) ≡ false =
      rw e at t in cc

module _ (w : Wal) (name body : List ℕ) where
  abbrev m : Message
  m = new_message w name body

  pub append_long_name : 32 < length name → turned_away w TooLong ≡ append_of w name body
  unfolding append_of append_refusal fits
  append_long_name h = cc (lt-leb (length name) 32 h)

  pub append_long_body : 128 < length body → turned_away w TooLong ≡ append_of w name body
  unfolding append_of append_refusal fits
  append_long_body h = at (leb (length name) 32) refl
    where
      at : (t : Bool) → leb (length name) 32 ≡ t → turned_away w TooLong ≡ append_of w name body
      at true e = cc (lt-leb (length body) 128 h)
      at false e = cc

  module _ (small : length name ≤ 32) (short : length body ≤ 128) where
    fit : fits m ≡ true
    unfolding fits
    fit = cc (le-leb (length name) 32 small, le-leb (length body) 128 short)

    pub append_full : length w.table ≤ w.counters.count → turned_away w Full ≡ append_of w name body
    unfolding append_of append_refusal
    append_full h = cc (fit, le-ltb w.counters.count (length w.table) h)

    module _ (few : w.counters.count < length w.table) where
      pub append_no_id : 2 ^ 64 - 1 ≤ w.counters.next → turned_away w NoId ≡ append_of w name body
      unfolding append_of append_refusal
      append_no_id h = cc (
        fit,
        lt-ltb w.counters.count (length w.table) few,
        le-ltb w.counters.next
            (2 ^ 64 - 1) h,
      )

      module _ (id : w.counters.next < 2 ^ 64 - 1) where
        abbrev more : ℕ
        more = w.counters.live + length (record_line m)

        pub append_no_room : length w.bytes < more → turned_away w NoRoom ≡ append_of w name body
        unfolding append_of append_refusal
        append_no_room h =
            cc (
              fit,
              lt-ltb w.counters.count (length w.table) few,
              lt-ltb w.counters.next (2 ^ 64 - 1) id,
              lt-leb more (length w.bytes) h,
            )

        pub append_goes : more ≤ length w.bytes → appended w m ≡ append_of w name body
        unfolding append_of append_refusal
        append_goes h =
            cc (
              fit,
              lt-ltb w.counters.count (length w.table) few,
              lt-ltb w.counters.next (2 ^ 64 - 1) id,
              le-leb more (length w.bytes) h,
            )

-- an answer that is given, or a refusal where there is none
pub given : {A E : Type 0} (o : Option A) (e : E) (x : A) → Ok x ≡ ok_or o e → Some x ≡ o
given (Some y) e x is = cc
given None e x is = absurd (cc)

pub refused_with : {A E : Type 0} (o : Option A) (e r : E) → Err r ≡ ok_or o e → (None ≡ o) × (r ≡ e)
refused_with (Some y) e r is = absurd (cc)
refused_with None e r is = (refl, cc)

-- a difference, where there is one
pub less : (a b x : ℕ) (o : Option ℕ) → Some x ≡ o → SomeIff o (b ≤ a) (a - b) → (b ≤ a) × (x ≡ a - b)
less a b x o e s = subst (λ k. SomeIff k (b ≤ a) (a - b)) (sym e) s

pub no_less : (a b : ℕ) (o : Option ℕ) → None ≡ o → SomeIff o (b ≤ a) (a - b) → a < b
no_less a b o e s = let n : ¬ (b ≤ a) = subst (λ k. SomeIff k (b ≤ a) (a - b)) (sym e) s in omega (arith, n)

-- mark
pub mark_unknown : (limit : ℕ) (w : Wal) (id : ℕ) → search_row id (open_rows w) ≡ None
    → record { wal = w; due = None } ≡ mark_of limit w id
unfolding mark_of
mark_unknown limit w id e = rw e refl

pub mark_known : (limit : ℕ) (w : Wal) (id i : ℕ) → search_row id (open_rows w) ≡ Some i
    → marked_done limit (without_row w i) id ≡ mark_of limit w id
unfolding mark_of
mark_known limit w id i e = rw e refl

-- a row taken out, whatever the bytes
pub without_any : (log : List ℕ) (rows rows' : List (List ℕ)) (c c' : Counters) (i : ℕ) → state [] rows' c'
    ≡ without_row (state [] rows c) i → state log rows' c' ≡ without_row (state log rows c) i
unfolding without_row
without_any log rows rows' c c' i e = ap (λ v. state log v.table v.counters) e

-- the log rewritten
pub all_anew_lem : (w after : Wal) → after ≡ compacted w
    → ◌≡◌ {A = DidMark} (record { wal = after; due = Some (Replace w.counters.live) }) (all_anew w)
all_anew_lem w after a = rw a refl

-- a line of n bytes behind the file
pub line_behind_lem : (w : Wal) (line : List ℕ) (n : ℕ) → n ≡ length line → (c : Counters) → c ≡ grown w.counters n
    → (log' : List ℕ) → log' ≡ write w.bytes w.counters.size line
    → ◌≡◌ {A = DidMark} (record {
      wal = state log' w.table c;
      due = Some (Append w.counters.size (w.counters.size + n));
    }) (line_behind w line)
unfolding extended
line_behind_lem w line n e c g log' p = rw (g, p, e) refl

module _ (limit : ℕ) (w : Wal) (id n : ℕ) (e : n ≡ length (done_line id)) where
  pub marked_behind : keeps limit (length w.bytes) w.counters.live (w.counters.size + n) ≡ true
      → line_behind w (done_line id) ≡ marked_done limit w id
  unfolding marked_done
  marked_behind t = let yes : keeps limit (length w.bytes) w.counters.live (w.counters.size + length
      (done_line id)) ≡ true = rw e at t in cc

  pub marked_anew : keeps limit (length w.bytes) w.counters.live (w.counters.size + n) ≡ false
      → all_anew w ≡ marked_done limit w id
  unfolding marked_done
  marked_anew t = let no : keeps limit (length w.bytes) w.counters.live (w.counters.size + length
      (done_line id)) ≡ false = rw e at t in cc

-- retry
module _ (w : Wal) (id n len : ℕ) (e : len ≡ length (retry_line id n)) where
  pub retry_behind : leb (w.counters.size + len) (length w.bytes) ≡ true
      → line_behind w (retry_line id n) ≡ retry_written w id n
  unfolding retry_written
  retry_behind t =
      let yes : leb (w.counters.size + length (retry_line id n)) (length w.bytes) ≡ true = rw e at t in cc

  pub retry_anew : leb (w.counters.size + len) (length w.bytes) ≡ false → all_anew w ≡ retry_written w id n
  unfolding retry_written
  retry_anew t =
      let no : leb (w.counters.size + length (retry_line id n)) (length w.bytes) ≡ false = rw e at t in cc

module _ (log : List ℕ) (rows : List (List ℕ)) (c : Counters) (id n i : ℕ) where
  -- the row and the counters with the new attempts
  abbrev tried_rows : List (List ℕ)
  tried_rows = set rows i (row id (row_at (get_or rows i [])) (row_len (get_or rows i [])) n)

  abbrev tried_counters : ℕ → Counters
  tried_counters live = record { next = c.next; live = live; size = c.size; dirty = c.dirty; count = c.count }

  module _ (rest len : ℕ) (p : rest ≡ c.live - length (row_tries (get_or rows i []))) (e : len ≡ length
      (retry_line id n))
    where
      tried_is : state log tried_rows (tried_counters (rest + len)) ≡ with_tried (state log rows c) id i n
      unfolding with_tried
      tried_is = rw (p, e) refl

      pub retry_fits : leb (rest + len) (length log) ≡ true → (did : DidMark)
          → did ≡ retry_written (state log tried_rows (tried_counters (rest + len))) id n
          → did ≡ retried_at (state log rows c) id n i
      unfolding retried_at with_tried
      retry_fits t did d =
          let yes : leb (c.live - length (row_tries (get_or rows i [])) + length (retry_line id n))
          (length log) ≡ true =
          subst (λ k. leb k (length log) ≡ true) (rw (p, e) refl) t in
          d ∙ (ap (λ v. retry_written v id n) tried_is ∙ cc)

      pub retry_no_room : leb (rest + len) (length log) ≡ false
          → nothing_due (state log rows c) ≡ retried_at (state log rows c) id n i
      unfolding retried_at with_tried
      retry_no_room t =
          let no : leb (c.live - length (row_tries (get_or rows i [])) + length (retry_line id n))
          (length log) ≡ false =
          subst (λ k. leb k (length log) ≡ false) (rw (p, e) refl) t in
          cc

module _ (w : Wal) (id n : ℕ) where
  pub retry_uncounted : counts_tries n ≡ false → nothing_due w ≡ retry_of w id n
  unfolding retry_of
  retry_uncounted e = cc

  pub retry_unknown : counts_tries n ≡ true → search_row id (open_rows w) ≡ None → nothing_due w ≡ retry_of w id n
  unfolding retry_of
  retry_unknown c e = cc

  pub retry_known : (i : ℕ) → counts_tries n ≡ true → search_row id (open_rows w) ≡ Some i
      → retried_at w id n i ≡ retry_of w id n
  unfolding retry_of
  retry_known i c e = cc

-- of a number that is not 0, only that it is at most the largest one is left to ask
pub counts_most : (n : ℕ) → (n ≡ 0 → ⊥) → leb n ATTEMPTS ≡ counts_tries n
unfolding counts_tries
counts_most n above = cc (lt-ltb 0 n (omega arith))

-- sync where nothing is due
pub sync_clean : (c : Counters) → c.dirty ≡ false → ◌≡◌ {A = AnsweredDue} (record { counters = c; due = None })
    (sync_log c)
unfolding sync_log
sync_clean c e = cc
