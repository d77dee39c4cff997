-- The tests stand in the order of the refusals; a message that passes them is appended.
use mathlib.Core.Path.{◌∙◌}
use native.Mathlib.Omega.{arith}
use lib.ListN.{length}
use Rattle.std.proofs.lemmas.Result.{err_from_is_err_and}
use Rattle.text.specs.Format.{untried, record_line}
use Rattle.text.proofs.AnswerLaws.{told, told_over}
use Rattle.message_log.specs.Log.{state}
use Rattle.message_log.proofs.WalLaws.{append_long_name, append_long_body, append_full, append_no_id, append_no_room}
use Rattle.message_log.proofs.WalLaws.{append_goes}
use Rattle.message_log.proofs.WalLaws.{given, refused_with, less, no_less}
use Rattle.message_log.proofs.wal.append.Goals as goal
use Rattle.message_log.proofs.wal.append.Goals.{then-name-gt-NAME-via-then-name-gt-NAME}
use Rattle.message_log.proofs.wal.append.Goals.{then-name-gt-NAME-via-else-name-gt-NAME+then-body-gt-BODY}

pub returns-then-name-gt-NAME : goal.returns-then-name-gt-NAME
returns-then-name-gt-NAME c =
    let args = c.args in
    let w = state args.log.now args.records.now args.counters.now in
    elim c.then-name-gt-NAME.branch [
      | then-name-gt-NAME-via-then-name-gt-NAME v ↦ append_long_name w args.name.now args.body.now (omega
          (arith, v.if-name-gt-NAME.true))
      | then-name-gt-NAME-via-else-name-gt-NAME+then-body-gt-BODY v ↦ append_long_body w args.name.now args.body.now
          (omega (arith, v.if-body-gt-BODY.true))
    ]

pub returns-then-records-counters : goal.returns-then-records-counters
returns-then-records-counters c =
    let args = c.args in
    let w = state args.log.now args.records.now args.counters.now in
    append_full w args.name.now args.body.now (omega (arith, c.if-name-gt-NAME.false)) (omega
    (arith, c.if-body-gt-BODY.false)) c.if-records-counters.true

pub returns-then-counters : goal.returns-then-counters
returns-then-counters c =
    let args = c.args in
    let w = state args.log.now args.records.now args.counters.now in
    append_no_id w args.name.now args.body.now (omega (arith, c.if-name-gt-NAME.false)) (omega
    (arith, c.if-body-gt-BODY.false)) c.if-records-counters.false (omega (arith, c.if-counters.true))

pub returns-in_err-room : goal.returns-in_err-room
returns-in_err-room c =
    let args = c.args in
    let w = state args.log.now args.records.now args.counters.now in
    let p = err_from_is_err_and c.from_residual.result c.from_residual.ensures.1 in
    let none = refused_with c.checked_sub.result _ _ c.in_err-room.ensures.value in
    let short = no_less (length args.log.now) args.counters.now.live _ none.0 c.checked_sub.ensures in
    rw (p.1, p.2, none.1) (append_no_room w args.name.now args.body.now (omega (arith, c.if-name-gt-NAME.false))
    (omega (arith, c.if-body-gt-BODY.false)) c.if-records-counters.false (omega (arith, c.if-counters.false))
    (omega (arith, short)))

pub returns-in_err-len : goal.returns-in_err-len
returns-in_err-len c =
    let args = c.args in
    let w = state args.log.now args.records.now args.counters.now in
    let p = err_from_is_err_and c.from_residual-in_err-len.result c.from_residual-in_err-len.ensures.1 in
    let none = refused_with c.record_len.result _ _ c.in_err-len.ensures.value in
    let room = less (length args.log.now) args.counters.now.live _ _
    (given c.checked_sub.result _ _ c.in_ok-room.ensures.value) c.checked_sub.ensures in
    let over = told_over (length (record_line (untried args.counters.now.next args.name.now args.body.now)))
    c.in_ok-room.room (none.0 ∙ c.record_len.ensures) in
    rw (p.1, p.2, none.1) (append_no_room w args.name.now args.body.now (omega (arith, c.if-name-gt-NAME.false))
    (omega (arith, c.if-body-gt-BODY.false)) c.if-records-counters.false (omega (arith, c.if-counters.false))
    (omega (arith, over, room.0, room.1)))

pub append_record-requires : goal.append_record-requires
append_record-requires c =
    let args = c.args in
    let room = less (length args.log.now) args.counters.now.live _ _
    (given c.checked_sub.result _ _ c.in_ok-room.ensures.value) c.checked_sub.ensures in
    let fits = told (length (record_line (untried args.counters.now.next args.name.now args.body.now)))
    c.in_ok-room.room c.in_ok-len.len (given c.record_len.result _ _ c.in_ok-len.ensures.value ∙
    c.record_len.ensures) in
    record {
      len_is = fits.is;
      id = omega (arith, c.if-counters.false);
      few = c.if-records-counters.false;
      live =
          omega (arith, fits.is, fits.small, room.0, room.1);
    }

pub returns : goal.returns
returns c =
    let args = c.args in
    let w = state args.log.now args.records.now args.counters.now in
    let room = less (length args.log.now) args.counters.now.live _ _
    (given c.checked_sub.result _ _ c.in_ok-room.ensures.value) c.checked_sub.ensures in
    let fits = told (length (record_line (untried args.counters.now.next args.name.now args.body.now)))
    c.in_ok-room.room c.in_ok-len.len (given c.record_len.result _ _ c.in_ok-len.ensures.value ∙
    c.record_len.ensures) in
    c.append_record.ensures ∙ append_goes w args.name.now args.body.now (omega (arith, c.if-name-gt-NAME.false))
    (omega (arith, c.if-body-gt-BODY.false)) c.if-records-counters.false (omega (arith, c.if-counters.false))
    (omega (arith, fits.is, fits.small, room.0, room.1))
