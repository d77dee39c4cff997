-- The row ends, the refusals' examples and the spellings of ids, computed.
use mathlib.Core.Path.{◌≡◌, refl}
use mathlib.Core.Bool.{true}
use Rattle.message_log.specs.RowEnds.{row_ends, refusals, spellings, all_true}
use Rattle.text.specs.Format
use Rattle.text.specs.Line
use Rattle.text.specs.Bytes
use Rattle.message_log.specs.Opening
use Rattle.message_log.specs.Log
use Rattle.message_log.specs.Recovery
use Rattle.message_log.specs.RowEnds

pub row_ends_lem : all_true row_ends ≡ true
unfolding RowEnds.all_true RowEnds.row_ends RowEnds.same_bytes RowEnds.ids RowEnds.leaves RowEnds.message RowEnds.row_name
    RowEnds.empty_log RowEnds.wal_after RowEnds.size_after RowEnds.two RowEnds.done_three RowEnds.torn_one
    Format.escape_byte Format.escape Format.escaped Format.unescape Format.digits Format.print_id Format.decimal
    Format.below64 Format.read_digits Format.read_id Format.record_text Format.line Format.record_line Format.done_line
    Format.join_head Format.split Format.all_but_last Format.lines Format.fields Format.attempts_line Format.message_lines
    Line.put_of Line.done_of Line.attempts_of Line.read_fields Line.read_line Bytes.write
    Opening.insert Opening.remove Opening.take_in Opening.read_lines Opening.read_file Opening.fits Opening.all_fit
    Opening.judge Opening.opening Opening.image
    Log.extended Log.rewritable Log.rows_image Log.rows_placed Log.rewrite Log.compacted Log.with_record
    Log.append_refusal Log.appended Log.append_of Log.halved Log.search_row Log.without_row Log.keeps Log.marked_done
    Log.mark_of Log.sync_log Recovery.did_call
row_ends_lem = refl

pub refusals_hold : all_true refusals ≡ true
unfolding RowEnds.all_true RowEnds.refusals RowEnds.refused_by RowEnds.turned_away_by RowEnds.message RowEnds.row_name
    RowEnds.empty_log RowEnds.full_log RowEnds.wal_after RowEnds.two RowEnds.records
    Format.escape_byte Format.escape Format.escaped Format.unescape Format.digits Format.print_id Format.decimal
    Format.below64 Format.read_digits Format.read_id Format.record_text Format.line Format.record_line Format.done_line
    Format.join_head Format.split Format.all_but_last Format.lines Format.fields Format.attempts_line Format.message_lines
    Line.put_of Line.done_of Line.attempts_of Line.read_fields Line.read_line Bytes.write
    Opening.insert Opening.remove Opening.take_in Opening.read_lines Opening.read_file Opening.fits Opening.all_fit
    Opening.judge Opening.opening Opening.image
    Log.extended Log.rewritable Log.rows_image Log.rows_placed Log.rewrite Log.compacted Log.with_record
    Log.append_refusal Log.appended Log.append_of Log.halved Log.search_row Log.without_row Log.keeps Log.marked_done
    Log.mark_of Log.sync_log Recovery.did_call
refusals_hold = refl

pub spellings_hold : all_true spellings ≡ true
unfolding RowEnds.all_true RowEnds.spellings RowEnds.same_bytes RowEnds.ids RowEnds.leaves RowEnds.refused_by
    RowEnds.row_name RowEnds.respelled RowEnds.five RowEnds.zero_five RowEnds.plus_five RowEnds.last_id
    Format.escape_byte Format.escape Format.escaped Format.unescape Format.digits Format.print_id Format.decimal
    Format.below64 Format.read_digits Format.read_id Format.record_text Format.line Format.record_line
    Format.join_head Format.split Format.all_but_last Format.lines Format.fields Format.attempts_line Format.message_lines
    Line.put_of Line.done_of Line.attempts_of Line.read_fields Line.read_line
    Opening.insert Opening.remove Opening.take_in Opening.read_lines Opening.read_file Opening.fits Opening.all_fit
    Opening.judge Opening.opening Opening.image
spellings_hold = refl
