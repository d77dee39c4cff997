-- `calls::reply` meets its contract: by its table, and by what the reply is. Assumes nothing.
use Rattle.std.proofs.Common.{rules}
use mathlib.Core.Path.{refl, ap}
use Rattle.std.proofs.lemmas.Result.{err_from_is_err_and}
use Rattle.answers.specs.Refusals.{is_message}
use Rattle.answers.proofs.RefusalLaws.{by_refused, by_effect}
use Rattle.pool.proofs.ReplyLaws.{stores, fails, sends, resumes, answers_turn}
use Rattle.pool.specs.Calls.{stored_in, reply_of}
use Rattle.pool.proofs.calls.reply.Goals as goal

pub returns-in_err-reply_check : goal.returns-in_err-reply_check
unfolding reply_of
returns-in_err-reply_check c =
    let p = err_from_is_err_and c.from_residual.result c.from_residual.ensures.1 in
    rw (p.1, p.2) (by_refused _ _ _ _ _ (c.reply_check.ensures _ _ _ _ _ _) _ c.in_err-reply_check.was refl)

pub returns-in-Stored : goal.returns-in-Stored
unfolding reply_of
returns-in-Stored c =
    let did = c.stored.ensures.did in
    by_effect _ _ _ _ _ (c.reply_check.ensures _ _ _ _ _ _) c.in_ok-reply_check.was
    (stores _ c.args.reply _ _ _ (ap stored_in c.in-Stored.is) (search (rules, did)))

pub returns-in-Failed : goal.returns-in-Failed
unfolding reply_of
returns-in-Failed c =
    let did = c.failed.ensures.did in
    by_effect _ _ _ _ _ (c.reply_check.ensures _ _ _ _ _ _) c.in_ok-reply_check.was
    (fails _ c.args.reply _ _ _ (ap stored_in c.in-Failed.is) (search (rules, did)))

pub returns-in-Message : goal.returns-in-Message
unfolding reply_of
returns-in-Message c =
    by_effect _ _ _ _ _ (c.reply_check.ensures _ _ _ _ _ _) c.in_ok-reply_check.was
    (sends _ _ _ _ _ (ap stored_in c.in-Message.is) (ap is_message c.in-Message.is)
    (c.collect_send.ensures _ _ _ _ _))

pub returns-in_default-reply : goal.returns-in_default-reply
unfolding reply_of
returns-in_default-reply c =
    let other = answers_turn _ c.in_default-reply.not-Stored c.in_default-reply.not-Failed c.in_default.not-Message in
    let did = c.resumed.ensures.did in
    by_effect _ _ _ _ _ (c.reply_check.ensures _ _ _ _ _ _) c.in_ok-reply_check.was
    (resumes _ _ _ _ _ other.0 other.1 (search (rules, did)))
