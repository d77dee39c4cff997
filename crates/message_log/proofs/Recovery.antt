-- THE LOG'S THEOREM: recovery, over every list of calls and answers from an accepted opening. Its definitions are
-- specs/Opening, Log, Opened and Recovery.
use Rattle.std.specs.Prelude.{Option, Some, None}
use mathlib.Core.Path.{◌≡◌, refl, sym, ap, ◌∙◌, subst}
use mathlib.Core.Bool.{Bool, true, false}
use mathlib.Core.Logic.{◌⊎◌, inl, inr}
use mathlib.Core.List.Memᴰ
use mathlib.Core.List.{List, [], ◌∷◌, append-nil}
use Prim.Native.Nat.{ℕ, ◌+◌, ◌≤◌}
use native.Mathlib.Omega.{arith}
use lib.Dec.{leb}
use lib.ListN.{length, take, drop}
use lib.Seq.{take-nil, length-take-le}
use Rattle.text.specs.Format.{Message, record_line, done_line, retry_line}
use Rattle.text.proofs.WriteLaws.{drop_write}
use Rattle.message_log.specs.declared.Order.{Order}
use Rattle.message_log.specs.declared.Refusal.{Refusal}
use Rattle.message_log.specs.Opening.{Read, Opening, refused, opened, opening, image}
use Rattle.message_log.specs.Log.{Wal, open_rows, new_message, append_refusal, appended, append_judged, append_of, search_row}
use Rattle.message_log.specs.Log.{without_row, keeps, marked_done, mark_found, mark_of, with_tried, retry_written, retried_at}
use Rattle.message_log.specs.Log.{retry_found, counts_tries, retry_of, sync_log}
use Rattle.message_log.specs.Opened.{Opened, sized, opened_log_by, open_judged, open_log}
use Rattle.message_log.specs.Recovery.{LogCall, append, mark, sync, order_of_answer, ordered_due, by_sync, did_call, Cut}
use Rattle.message_log.specs.Recovery.{Status, retry}
use Rattle.message_log.specs.Recovery.{settled, waits, lost, LogWorld, issue, issued, called, Event, call, stored, failed}
use Rattle.message_log.specs.Recovery.{step_log, run_log, begin_log, stored_order, failed_order, firm_moment, confirm}
use Rattle.message_log.specs.Recovery.{replacing}
use Rattle.message_log.specs.Recovery.{Recovers, Recoverable, TailKept, TailKeptThrough}
use Rattle.message_log.specs.Stands.{Stands, Standing}
use Rattle.message_log.proofs.OpenLaws.{sized_all, sized_true, open_accepts, image_fits, opened_long, opened_stands}
use Rattle.message_log.proofs.OpenLaws.{opened_sent}
use Rattle.message_log.proofs.RecoveryLaws.{ReadBack, stands_fit, stored_replace, whole_image, Sound, waiting}
use Rattle.message_log.proofs.RecoveryLaws.{step_sound, run_sound, sound_reads, sound_stands}
use Rattle.message_log.proofs.WalLaws.{sync_clean}
use Rattle.message_log.proofs.CallLaws.{ActsBy, acts}

-- the accepted opening
module _ (log : List ℕ) (n : ℕ) (store : List ℕ) (table left : List (List ℕ)) (r : Read) (s : sized (length log) n
    (length store) (length table) (length left) ≡ true) (ok : opening (take n log) ≡ opened r) where
  abbrev start : LogWorld
  start = begin_log (opened_log_by log store table left r) (take n log) r.left

  start_reads : (found : List ℕ) → Cut (take n log) [] found ⊎ (found ≡ image r.left) → ReadBack (length log) found
      (r.left ∷ [])
  unfolding begin_log
  start_reads found (inl c) =
      let lent = sized_all (length log) n (length store) (length table) (length left) s in
      let e : found ≡ take n log = cc (c.1, take-nil {A = ℕ} c.0, append-nil (take n log)) in
      record {
        short = omega (arith, ap length e, length-take-le n log lent.file, lent.file);
        found = r;
        accepted =
            ap opening e ∙ ok;
        among = Memᴰ.head refl;
      }
  start_reads found (inr e) =
      let stands = opened_stands log n store table left r s ok in
      whole_image (length log) start.disk r (stands_fit start.wal r.left stands) (image_fits log n store table
      left r s ok) found e

  start_sound : Sound (length log) start
  unfolding begin_log stored_order failed_order firm_moment confirm
  start_sound =
      let stands = opened_stands log n store table left r s ok in
      waiting (replacing (image r.left)) (ap waits (opened_sent log n store table left r s ok))
      (record {
        stands = stands;
        bytes = opened_long log n store table left r s ok;
        on_disk = stored_replace (length log) start.disk r (stands_fit start.wal r.left stands);
        firm = omega arith;
      })
      start_reads

-- a file that opening accepts, and that fits, is accepted in every lent log of the same length
next_opening : (long : ℕ) (file : List ℕ) (moments : List (List Message)) → 16 ≤ long → long ≤ 65536
    → ReadBack long file moments → Recovers long file moments
next_opening long file moments least most b = record {
  short = b.short;
  found = b.found;
  among = b.among;
  accepted = λ log store table left is begins st tb lf.
      open_accepts log (length file) store table left b.found
      (sized_true (length log) (length file) (length store) (length table) (length left) (record {
        least = omega arith;
        most = omega arith;
        file = omega (arith, b.short);
        store_is = st;
        table_is = tb;
        left_is = lf;
      }))
      (ap opening begins ∙ b.accepted);
}

-- Recovery: after an accepted opening and any list of calls and answers, whatever file a cut leaves, the next opening
-- accepts it, and the messages left are those logged and not done at a moment up to the cut and no earlier than the
-- last confirmed flush or replace.
pub recovery : (compactAt : ℕ) (log : List ℕ) (n : ℕ) (store : List ℕ) (table left : List (List ℕ)) (r : Read)
    → sized (length log) n (length store) (length table) (length left) ≡ true → opening (take n log) ≡ opened r
    → (events : List Event)
    → Recoverable (length log) (run_log compactAt (begin_log (open_log log n store table left) (take n log) r.left)
    events)
recovery compactAt log n store table left r s ok events =
    let lent = sized_all (length log) n (length store) (length table) (length left) s in
    subst (λ o. Recoverable (length log) (run_log compactAt (begin_log o (take n log) r.left) events))
    (sym (open_accepts log n store table left r s ok))
    (λ file p. next_opening (length log) file _ lent.least lent.most
    (sound_reads (length log) (run_log compactAt (start log n store table left r s ok) events)
    (run_sound (length log) compactAt events (start log n store table left r s ok) (start_sound log n store table
    left r s ok)) file p))

-- The table is what the bytes say, after every such list: open ids rise and stand below the next id, and the open
-- records' length is live ≤ size ≤ L.
pub standing : (compactAt : ℕ) (log : List ℕ) (n : ℕ) (store : List ℕ) (table left : List (List ℕ)) (r : Read)
    → sized (length log) n (length store) (length table) (length left) ≡ true → opening (take n log) ≡ opened r
    → (events : List Event)
    → Standing (length log) (run_log compactAt (begin_log (open_log log n store table left) (take n log) r.left) events)
standing compactAt log n store table left r s ok events =
    subst (λ o. Standing (length log) (run_log compactAt (begin_log o (take n log) r.left) events))
    (sym (open_accepts log n store table left r s ok))
    (sound_stands (length log) (run_log compactAt (start log n store table left r s ok) events)
    (run_sound (length log) compactAt events (start log n store table left r s ok) (start_sound log n store table
    left r s ok)))

-- The bytes at and after the new size keep their value from before the call: of an opening, accepted or turned away ..
pub open_tail : (log : List ℕ) (n : ℕ) (store : List ℕ) (table left : List (List ℕ))
    → drop (open_log log n store table left).step.counters.size (open_log log n store table left).log
    ≡ drop (open_log log n store table left).step.counters.size log
unfolding open_log
open_tail log n store table left = at_sizes (sized (length log) n (length store) (length table) (length left)) refl
  where
    Kept : Opened → Type 0
    Kept o = drop o.step.counters.size o.log ≡ drop o.step.counters.size log

    at_file : sized (length log) n (length store) (length table) (length left) ≡ true → (x : Opening)
        → opening (take n log) ≡ x → Kept (open_judged log store table left x)
    at_file s (refused r) e = refl
    at_file s (opened r) e = drop_write log 0 (length (image r.left)) (image r.left) (omega arith)
        (omega (arith, image_fits log n store table left r s e))

    at_sizes : (b : Bool) → sized (length log) n (length store) (length table) (length left) ≡ b
        → Kept (open_log log n store table left)
    at_sizes true e = rw (e, open_log) (at_file e (opening (take n log)) refl)
    at_sizes false e = rw (e, open_log) refl

-- .. and of a call on a log that stands for the messages logged and not done.
pub call_tail : (compactAt : ℕ) (w : Wal) (ms : List Message) (c : LogCall) → Stands w ms
    → TailKept w (did_call compactAt w c).wal
call_tail compactAt w ms c s = by (did_call compactAt w c).wal (did_call compactAt w c).order (acts compactAt w ms c s)
  where
    by : (after : Wal) (a : Option Order) → ActsBy w ms c after a → TailKept w after
    by after (Some o) x = x.tail
    by after None x = ap (λ v. drop after.counters.size v.bytes) x

-- one event
issued_tail : (compactAt : ℕ) (w : LogWorld) (c : LogCall) (wal : Wal) (o : Option Order) → TailKept w.wal wal
    → TailKept w.wal (issued w c wal o).wal
unfolding issue
issued_tail compactAt w c wal (Some o) t = t
issued_tail compactAt w c wal None t = t

step_tail : (compactAt : ℕ) (q : Status) (w : LogWorld) (e : Event) → Stands w.wal w.now
    → TailKept w.wal (step_log compactAt q w e).wal
unfolding step_log called stored_order failed_order
step_tail compactAt settled w (call c) s =
    issued_tail compactAt w c (did_call compactAt w.wal c).wal (did_call compactAt w.wal c).order
    (call_tail compactAt w.wal w.now c s)
step_tail compactAt settled w stored s = refl
step_tail compactAt settled w failed s = refl
step_tail compactAt (waits o) w (call c) s = refl
step_tail compactAt (waits o) w stored s = refl
step_tail compactAt (waits o) w failed s = refl
step_tail compactAt (lost o) w e s = refl

steps_tail : (long compactAt : ℕ) (es : List Event) (w : LogWorld) → Sound long w → TailKeptThrough compactAt w es
steps_tail long compactAt [] w s = tt
steps_tail long compactAt (e ∷ es) w s = (
  step_tail compactAt w.disk.status w e (sound_stands long w s).stands,
  steps_tail long compactAt es
      (step_log compactAt w.disk.status w e) (step_sound long compactAt w e s),
)

-- So in every run from an accepted opening, at every event of it.
pub tails_kept : (compactAt : ℕ) (log : List ℕ) (n : ℕ) (store : List ℕ) (table left : List (List ℕ)) (r : Read)
    → sized (length log) n (length store) (length table) (length left) ≡ true → opening (take n log) ≡ opened r
    → (events : List Event)
    → TailKeptThrough compactAt (begin_log (open_log log n store table left) (take n log) r.left) events
tails_kept compactAt log n store table left r s ok events =
    subst (λ o. TailKeptThrough compactAt (begin_log o (take n log) r.left) events)
    (sym (open_accepts log n store table left r s ok))
    (steps_tail (length log) compactAt events (start log n store table left r s ok) (start_sound log n store table left
    r s ok))

-- A call that orders nothing, since it is turned away or has nothing to do, changes nothing, on any log.
pub call_idle : (compactAt : ℕ) (w : Wal) (c : LogCall) → (did_call compactAt w c).order ≡ None
    → (did_call compactAt w c).wal
    ≡ w
unfolding did_call append_of mark_of appended marked_done retry_of retried_at retry_written sync_log
call_idle compactAt w (append name body) = judged (append_refusal w (new_message w name body))
  where
    m : Message
    m = new_message w name body

    put : (t : Bool) → leb (w.counters.size + length (record_line m)) (length w.bytes) ≡ t
        → order_of_answer (appended w m).answer ≡ None → (appended w m).wal ≡ w
    put true e q = let z : ◌≡◌ {A = ℕ} 0 1 = cc in absurd (omega arith)
    put false e q = let z : ◌≡◌ {A = ℕ} 0 1 = cc in absurd (omega arith)

    judged : (x : Option Refusal) → order_of_answer (append_judged w m x).answer ≡ None → (append_judged w m x).wal ≡ w
    judged None q = put (leb (w.counters.size + length (record_line m)) (length w.bytes)) refl q
    judged (Some r) q = refl
call_idle compactAt w (mark id) = found (search_row id (open_rows w))
  where
    done : (v : Wal) (t : Bool) → keeps compactAt (length v.bytes) v.counters.live (v.counters.size + length
        (done_line id)) ≡ t → ordered_due (marked_done compactAt v id).due ≡ None → ◌≡◌ {A = ℕ} 0 1
    done v true e q = cc
    done v false e q = cc

    found : (x : Option ℕ) → ordered_due (mark_found compactAt w id x).due ≡ None → (mark_found compactAt w id x).wal ≡ w
    found None q = refl
    found (Some i) q = let z : ◌≡◌ {A = ℕ} 0 1 = done (without_row w i) _ refl q in absurd (omega arith)
call_idle compactAt w (retry id n) = counted (counts_tries n) refl
  where
    written : (v : Wal) (t : Bool) → leb (v.counters.size + length (retry_line id n)) (length v.bytes) ≡ t
        → ordered_due (retry_written v id n).due ≡ None → ◌≡◌ {A = ℕ} 0 1
    written v true e q = cc
    written v false e q = cc

    tried : (i : ℕ) (t : Bool) → leb (with_tried w id i n).counters.live (length w.bytes) ≡ t
        → ordered_due (retried_at w id n i).due ≡ None → (retried_at w id n i).wal ≡ w
    tried i true e q =
        let d : retried_at w id n i ≡ retry_written (with_tried w id i n) id n = cc in
        let z : ◌≡◌ {A = ℕ} 0 1 = written (with_tried w id i n) _ refl (ap (λ x. ordered_due x.due) (sym d) ∙ q) in
        absurd (omega arith)
    tried i false e q = cc

    found : (x : Option ℕ) → ordered_due (retry_found w id n x).due ≡ None → (retry_found w id n x).wal ≡ w
    found None q = refl
    found (Some i) q = tried i _ refl q

    counted : (t : Bool) → counts_tries n ≡ t → ordered_due (retry_of w id n).due ≡ None → (retry_of w id n).wal ≡ w
    counted true e q =
        let d : retry_of w id n ≡ retry_found w id n (search_row id (open_rows w)) = cc in
        ap (λ x. x.wal) d ∙ found (search_row id (open_rows w)) (ap (λ x. ordered_due x.due) (sym d) ∙ q)
    counted false e q = cc
call_idle compactAt w sync = by w.counters.dirty refl
  where
    by : (t : Bool) → w.counters.dirty ≡ t → ordered_due (sync_log w.counters).due ≡ None
        → (by_sync w (sync_log w.counters)).wal ≡ w
    by true e q = let z : ◌≡◌ {A = ℕ} 0 1 = cc in absurd (omega arith)
    by false e q = ap (λ s. (by_sync w s).wal) (sym (sync_clean w.counters e))
