-- Retry lines: the examples, computed; and that the rule is that of the tests one by one.
use mathlib.Core.Path.{◌≡◌, refl}
use mathlib.Core.Bool.{Bool, true, false}
use Prim.Native.Nat.{◌+◌}
use native.Mathlib.Omega.{arith}
use borrow.Author.Tests.{leb-true, le-leb}
use lib.Dec.{leb}
use lib.ListN.{length}
use Rattle.text.specs.Format
use Rattle.text.specs.Line
use Rattle.text.specs.Bytes
use Rattle.message_log.specs.Opening
use Rattle.message_log.specs.Opened
use Rattle.message_log.specs.Log
use Rattle.message_log.specs.Log.{Wal, with_tried, retry_written, retried_at}
use Rattle.message_log.specs.Recovery
use Rattle.message_log.specs.RowEnds
use Rattle.message_log.specs.RowEnds.{all_true}
use Rattle.message_log.specs.Retries
use Rattle.message_log.specs.Retries.{RetryAsAsked, retry_asked, retry_files, retry_calls}

pub retry_as_asked : RetryAsAsked
unfolding retried_at retry_asked retry_written with_tried
retry_as_asked w id n i fits = go (leb (w.counters.size + length (Format.retry_line id n)) (length w.bytes)) refl
  where
    go : (t : Bool) → leb (w.counters.size + length (Format.retry_line id n)) (length w.bytes) ≡ t
        → retried_at w id n i ≡ retry_asked w id n i
    go true e =
        let room = leb-true (w.counters.size + length (Format.retry_line id n)) (length w.bytes) e in
        let live : leb (with_tried w id i n).counters.live (length w.bytes) ≡ true =
        le-leb (with_tried w id i n).counters.live (length w.bytes) (omega arith) in
        cc
    go false e = at (leb (with_tried w id i n).counters.live (length w.bytes)) refl
      where
        at : (t : Bool) → leb (with_tried w id i n).counters.live (length w.bytes) ≡ t
            → retried_at w id n i ≡ retry_asked w id n i
        at true f = cc
        at false f = cc

pub retry_files_lem : all_true retry_files ≡ true
unfolding RowEnds.all_true Retries.retry_files Retries.tried_left Retries.pair_line
    RowEnds.same_bytes RowEnds.ids RowEnds.leaves RowEnds.row_name RowEnds.respelled RowEnds.last_id
    Format.escape_byte Format.escape Format.escaped Format.unescape Format.digits Format.print_id Format.decimal
    Format.below64 Format.read_digits Format.read_id Format.record_text Format.line Format.record_line Format.retry_text
    Format.retry_line Format.attempts_line Format.message_lines
    Format.join_head Format.split Format.all_but_last Format.lines Format.fields
    Line.put_of Line.done_of Line.attempts_of Line.read_fields Line.read_line
    Opening.insert Opening.remove Opening.retried Opening.take_in Opening.read_lines Opening.read_file Opening.fits
    Opening.all_fit Opening.judge Opening.opening Opening.image
retry_files_lem = refl

pub retry_calls_lem : all_true retry_calls ≡ true
unfolding RowEnds.all_true Retries.retry_calls Retries.tried_left Retries.pair_line
    RowEnds.same_bytes RowEnds.ids RowEnds.leaves RowEnds.row_name RowEnds.respelled RowEnds.last_id RowEnds.message
    RowEnds.empty_log RowEnds.wal_after RowEnds.two
    Format.escape_byte Format.escape Format.escaped Format.unescape Format.digits Format.print_id Format.decimal
    Format.below64 Format.read_digits Format.read_id Format.record_text Format.line Format.record_line Format.done_line
    Format.retry_text Format.retry_line Format.attempts_line Format.message_lines
    Format.join_head Format.split Format.all_but_last Format.lines Format.fields
    Line.put_of Line.done_of Line.attempts_of Line.read_fields Line.read_line Bytes.write
    Opening.insert Opening.remove Opening.retried Opening.take_in Opening.read_lines Opening.read_file Opening.fits
    Opening.all_fit Opening.judge Opening.opening Opening.image Opened.rows_from Opened.stored Opened.stored_at
    Log.extended Log.rewritable Log.rows_image Log.rows_placed Log.rewrite Log.compacted Log.with_record
    Log.append_refusal Log.appended Log.append_of Log.halved Log.search_row Log.without_row Log.keeps Log.marked_done
    Log.mark_of Log.with_tried Log.retry_written Log.retried_at Log.counts_tries Log.retry_of Log.sync_log
    Recovery.did_call
retry_calls_lem = refl
