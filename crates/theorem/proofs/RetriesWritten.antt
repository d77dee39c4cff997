-- A message whose attempts a call changed: the log has them then, or had no room for them. Assumes nothing.
use Rattle.std.specs.Prelude.{Option, Some, None, Ok, Err, Result}
use Rattle.actor.specs.declared.message.CallerId.{CallerId}
use mathlib.Core.Path.{◌≡◌, refl, sym, ap, ◌∙◌, subst}
use mathlib.Core.Bool.{Bool, true, false, false≢true, ◌&&◌}
use mathlib.Core.Logic.{inl, inr, ◌≢◌}
use mathlib.Core.List.Memᴰ
use mathlib.Core.List.{List, [], ◌∷◌}
use Prim.Native.Nat.{ℕ, ◌<◌}
use native.Mathlib.Omega.{arith}
use borrow.Author.Tests.{eqb-true}
use lib.Dec.{eqb}
use lib.ListN.{length}
use Rattle.text.specs.Format.{Message}
use Rattle.lists.specs.Links.{FREE, INBOX, PENDING, HAND}
use Rattle.lists.specs.Family.{count, view}
use Rattle.message_log.specs.declared.LogId.{LogId}
use Rattle.message_log.specs.declared.Order.{Order}
use Rattle.message_log.specs.Opening.{tried_times, retried, image}
use Rattle.message_log.specs.declared.Refusal as of-log
use Rattle.message_log.specs.Log.{append_of}
use Rattle.message_log.specs.Recovery as disk
use Rattle.actor.specs.declared.question.Reply.{Reply}
use Rattle.actor.specs.Messages.{message_at}
use Rattle.actor.specs.Entry.{Arrival, keep_of}
use Rattle.points.specs.declared.at.At.{At}
use Rattle.points.specs.declared.at.At.TheVariants as at
use Rattle.points.specs.declared.at.Ask.{Ask}
use Rattle.points.specs.declared.at.Ask.TheVariants as asks
use Rattle.turn.specs.declared.state.Disk.TheVariants as order
use Rattle.turn.specs.State.{State, wal_of, with_pool, with_log, closed_pool, is_free}
use Rattle.turn.specs.Resume.{resume_of}
use Rattle.turn.specs.Step.{advanced}
use Rattle.turn.specs.declared.state.OrderFor.{OrderFor}
use Rattle.turn.specs.declared.state.Limits.{Limits}
use Rattle.answers.specs.declared.answer.Refusal.{Refusal}
use Rattle.answers.specs.declared.answer.Answer.{Answer}
use Rattle.answers.specs.declared.answer.Answer.TheVariants as answer
use Rattle.answers.specs.Answers.{Did, log_refusal, refused, shown, messages_in, kept}
use Rattle.answers.specs.Refusals.{judged, in_turn, is_message, no_entry_free, admit_refusals, turn_refusals, reply_refusals}
use Rattle.answers.specs.Refusals.{sync_refusals, close_refusals}
use Rattle.pool.specs.Stored.{StoredIn}
use Rattle.pool.specs.Stored as stored
use Rattle.pool.specs.Run.{run_of}
use Rattle.pool.specs.Admit as one
use Rattle.pool.specs.Calls as pool
use Rattle.pool.specs.Calls.{begun_turn, freed, resume_in, resume_at, stored_in}
use Rattle.theorem.specs.Rail.{World, Call, admit, turn, reply, sync, close, call_of, step_did, world_after}
use Rattle.theorem.specs.Rail.{accepted, order_shown, ordered, ordered_for, answered}
use Rattle.theorem.specs.Rail.{out_of_places, last_in, LastTried}
use Rattle.theorem.specs.Handing.{ids_of}
use Rattle.theorem.specs.Places.{NotMailbox}
use Rattle.theorem.specs.Retries.{attempts_in, Says, Noted, CallRetries}
use Rattle.theorem.proofs.PlaceMoves.{not_mailbox_inbox, not_mailbox_pending}
use Rattle.theorem.proofs.Steps.{pick_rule}
use Rattle.theorem.proofs.Invariant.{Working, Runs, still, marks, tries, retried_as, Steady}
use Rattle.theorem.proofs.After.{order_of, ordered_in, Marking, retried_effect, shown_rule, answered_rule}
use Rattle.theorem.proofs.After.{table_rule, turn_fine, reply_fine}
use Rattle.theorem.proofs.OrderShown.{Waiting, FitsOn, reply_fits, resumed_aside, order_shown_lem}
use Rattle.theorem.proofs.Refusals.{fine_check}
use Rattle.theorem.proofs.Refused.{refused_stays}
use Rattle.theorem.proofs.Admit.{kept_arrives}
use Rattle.theorem.proofs.Replies.{begun_works, replying, freed_works, from, still_from, resumed_works}
use Rattle.theorem.proofs.Left.{retried_none}
use Rattle.theorem.proofs.Running.{Aside}
use Rattle.theorem.proofs.GroupsKept.{InGroups, begun_in, resumed_in}
use Rattle.theorem.proofs.RetriesRun.{Tells, as_before, no_room, goes_out, run_follows}

-- ---- the log has them

-- an id that is open has the attempts that were set
retried_says : (x n : ℕ) (ms : List Message) → 0 < count x (ids_of ms) → Says (retried x n ms) x n
unfolding retried count
retried_says x n [] there = absurd (omega arith)
retried_says x n (m ∷ ms) there = at (eqb m.id x) refl (retried_says x n ms)
  where
    at : (b : Bool) → eqb m.id x ≡ b → (0 < count x (ids_of ms) → Says (retried x n ms) x n)
        → Says (retried x n (m ∷ ms)) x n
    at true is rest = rw (is, retried) (record {
      message = tried_times m n;
      among = Memᴰ.head refl;
      own = eqb-true m.id x is;
      told = refl;
    })
    at false is rest =
        let later = rest (omega (arith, rw is at there)) in
        rw (is, retried) (record {
          message = later.message;
          among = Memᴰ.tail later.among;
          own = later.own;
          told = later.told;
        })

-- ---- how a call ends

module _ (w : World) (c : Call) where
  -- what an accepted call makes of the messages that are logged and not done, by the pool's own order
  abbrev now_by : State → List Message
  now_by s = (ordered_in c w s (answered w.journal c) s.pool.turn.disk).journal.now

  -- as `CallRetries`, of any answer
  abbrev Writes : Did → Type 0
  Writes d = (e : ℕ) (id : LogId) → count e (view w.state.links FREE) ≡ 0
      → (message_at w.state.rows e).id ≡ Some id → attempts_in d.state e ≢ attempts_in w.state e
      → Noted w (now_by d.state) id.0 (attempts_in d.state e)

  -- the rows of those that were not free are as they were
  still_writes : (s : State) (a : Answer)
      → ((e : ℕ) → count e (view w.state.links FREE) ≡ 0 → message_at s.rows e ≡ message_at w.state.rows e)
      → Writes (record { state = s; answer = a })
  still_writes s a kept e id busy owns changed = absurd (changed (ap (λ m. m.attempts) (kept e busy)))

  -- a run: its order is the retry, or there was no room
  module _ (long : ℕ) (own : Marking w c) (s : State) (j : disk.LogWorld) (now : j.now ≡ w.journal.now)
      (rows : s.rows ≡ w.state.rows) (bytes : s.bytes ≡ w.state.bytes) (from : answered w.journal c ≡ j)
      (free : s.pool.turn.disk ≡ order.Free) (works : Working long j s) (within : InGroups s) where
    module _ (e : ℕ) (id : LogId) (owns : (message_at w.state.rows e).id ≡ Some id)
        (changed : attempts_in (advanced s) e ≢ attempts_in w.state e) where
      abbrev end : State
      end = advanced s

      abbrev Written : Type 0
      Written = Noted w (now_by end) id.0 (attempts_in end e)

      -- the retry of the last of pending, which the entry is
      retry_says : (o : Order) (for : OrderFor) (l : LastTried end j.now)
          → end.pool.turn.disk ≡ order.Waits o for
          → Working long (retried_as j end o l.id (message_at end.rows l.entry).attempts) end
          → last_in (view end.links PENDING) ≡ Some e → (message_at end.rows e).id ≡ Some id
          → Says (now_by end) id.0 (attempts_in end e)
      unfolding disk.issue
      retry_says o for l waits then last ends =
          let same : l.entry ≡ e = cc (l.last, last) in
          let mine : l.id ≡ id = cc (l.own, ends, same) in
          let n = (message_at end.rows l.entry).attempts in
          let none : out_of_places end j.now ≡ [] = retried_none end l.id.0 n j.now then.ids in
          let made : now_by end ≡ retried l.id.0 n j.now =
          ap (λ k. (ordered_in c w end k end.pool.turn.disk).journal.now) from
          ∙ (ap (λ d. (ordered_in c w end j d).journal.now) waits
          ∙ (ap (λ k. (ordered_for w end j o k).journal.now) own.0 ∙ retried_effect end j.now l none)) in
          subst (λ ms. Says ms id.0 (attempts_in end e)) (sym made)
          (subst (λ k. Says (retried l.id.0 n j.now) k.0 (attempts_in end e)) mine
          (subst (λ k. Says (retried l.id.0 n j.now) l.id.0 (attempts_in end k)) same
          (retried_says l.id.0 n j.now l.among)))

      by : Runs long j end → (message_at end.rows e).id ≡ Some id
          → Tells long j e id (attempts_in w.state e) end → Written
      by runs ends (as_before is) = absurd (changed is)
      by runs ends (no_room few more) = (
        few,
        inr (subst (λ ms. length w.state.bytes < length (image (retried id.0 (attempts_in end e) ms))) now
            (subst (λ b. length b < length (image (retried id.0 (attempts_in end e) j.now)))
            (ap (λ v. v.bytes) works.wal ∙ bytes) more)),
      )
      by (still was works) ends (goes_out few o waits last) =
          absurd (false≢true (sym (ap is_free waits) ∙ ap is_free was))
      by (marks p x is there next tail works) ends (goes_out few o waits last) =
          let z : ◌≡◌ {A = ℕ} 0 1 = cc (waits, is) in absurd (omega arith)
      by (tries p for l is next tail works) ends (goes_out few o waits last) =
          (few, inl (retry_says p for l is works last ends))

      run_written : Written
      run_written =
          let h = run_follows long j e id (attempts_in w.state e) s free works within
          (ap (λ r. (message_at r e).id) rows ∙ owns) (ap (λ r. (message_at r e).attempts) rows) in
          by h.runs h.owns h.tells

    run_writes : Writes (run_of s)
    unfolding run_of
    run_writes =
        answered_rule Writes (advanced s) (λ a ok e id busy owns changed. run_written e id owns changed)

-- ---- each call

-- no reply to the turn's question changes a row
resume_rows : (s : State) (a : Ask) (r : Reply) → (resume_of s a r).rows ≡ s.rows
unfolding resume_of
resume_rows s (asks.SeedBoot g) r = refl
resume_rows s (asks.RouteBoot g left) r = refl
resume_rows s asks.TickClock r = refl
resume_rows s (asks.WakePoll g k clock left) r = refl
resume_rows s (asks.Fixed c a) r = refl
resume_rows s (asks.Eval c a) r = refl
resume_rows s (asks.Sends c step) r = refl
resume_rows s (asks.Trap c) r = refl
resume_rows s (asks.Trapped c k) r = refl

resumed_rows : (s : State) (r : Reply) → (resume_at s r).rows ≡ s.rows
unfolding resume_at
resumed_rows s r = go s.pool.turn.at
  where
    go : (a : At) → (resume_in s a r).rows ≡ s.rows
    go at.Rest = refl
    go (at.Asks a) = resume_rows s a r
    go (at.Runs p) = refl

module _ (long : ℕ) (limits : Limits) (w : World) (steady : Steady long limits w) (within : InGroups w.state) where
  abbrev s : State
  s = w.state

  -- the rows are all as they were
  rest_writes : (c : Call) (s' : State) → s'.rows ≡ s.rows → Writes w c (shown s')
  rest_writes c s' rows =
      shown_rule (Writes w c) s' (λ a ok. still_writes w c s' a (λ e busy. ap (λ r. message_at r e) rows))

  away_writes : (c : Call) (r : Refusal) → Writes w c (refused s r)
  away_writes c r = still_writes w c s (answer.Refused r) (λ e busy. refl)

  -- a message that comes takes a free entry
  comes_writes : (c : Call) (to : ℕ) → NotMailbox to → to < HAND → no_entry_free s.links ≡ false → (a : Arrival)
      (s' : State) → s'.rows ≡ (keep_of (messages_in s) a to).rows → Writes w c (shown s')
  comes_writes c to place low room a s' rows =
      let came = kept_arrives s steady.works.sound steady.works.ok a to place low room in
      shown_rule (Writes w c) s'
      (λ x ok. still_writes w c s' x (λ e busy. ap (λ r. message_at r e) rows ∙ came.comes.kept e busy))

  turn_writes : Writes w turn (call_of s turn)
  unfolding call_of pool.turn_of
  turn_writes =
      table_rule (Writes w turn) s (judged (turn_refusals s.pool)) _ (away_writes turn)
      (λ fine. let (free, rests) = turn_fine s.pool fine in
      run_writes w turn long (refl, λ s o h. h) (with_pool s (begun_turn s.pool)) w.journal refl refl refl refl free
      (begun_works long limits w steady rests) (begun_in s within))

  sync_writes : Writes w sync (call_of s sync)
  unfolding call_of pool.sync_of
  sync_writes =
      table_rule (Writes w sync) s (judged (sync_refusals s.pool)) _ (away_writes sync)
      (λ fine. rest_writes sync (with_pool s (pool.sync_effect s.pool)) refl)

  close_writes : Writes w close (call_of s close)
  unfolding call_of pool.close_of
  close_writes =
      table_rule (Writes w close) s (judged (close_refusals s.pool)) _ (away_writes close)
      (λ fine. rest_writes close (with_pool s (closed_pool s.pool)) refl)

  module _ (name body : List ℕ) where
    admitted_writes : (who : Option CallerId) → judged (admit_refusals s name body who) ≡ Ok tt
        → Writes w (admit name body who) (one.admit_effect s name body who)
    unfolding one.admit_called one.admit_logged one.recorded_by
    admitted_writes (Some who) fine =
        comes_writes (admit name body (Some who)) INBOX not_mailbox_inbox (omega arith)
        (fine_check s name body (Some who) fine).room
        (record { name = name; body = body; caller = Some who; id = None })
        (kept s (record { name = name; body = body; caller = Some who; id = None }) INBOX) refl
    admitted_writes None fine = by (append_of (wal_of s) name body).answer
      where
        by : (a : Result Order of-log.Refusal)
            → Writes w (admit name body None) (one.recorded_in s name body (append_of (wal_of s) name body) a)
        by (Ok o) =
            comes_writes (admit name body None) INBOX not_mailbox_inbox (omega arith)
            (fine_check s name body None fine).room
            (record { name = name; body = body; caller = None; id = Some (one.next_id s) })
            (kept (one.recorded s (append_of (wal_of s) name body) o)
            (record { name = name; body = body; caller = None; id = Some (one.next_id s) }) INBOX) refl
        by (Err r) =
            still_writes w (admit name body None)
            (with_log s (append_of (wal_of s) name body).wal.bytes (append_of (wal_of s) name body).wal.table)
            (answer.Refused (log_refusal r)) (λ e busy. refl)

    admit_writes : (who : Option CallerId) → Writes w (admit name body who) (call_of s (admit name body who))
    unfolding call_of one.admit_of
    admit_writes who =
        table_rule (Writes w (admit name body who)) s (judged (admit_refusals s name body who)) _
        (away_writes (admit name body who)) (admitted_writes who)

    module _ (r : Reply) where
      abbrev c : Call
      c = reply r name body

      stored_writes : stored_in r ≡ stored.Stored → Waiting s.pool.turn.disk → Writes w c (pool.stored_of s)
      unfolding pool.stored_of disk.stored_order
      stored_writes is waits =
          pick_rule (Writes w c) (in_turn s.pool.turn.at)
          (λ e. run_writes w c long (replying long limits w steady r name body) (freed s)
          (disk.stored_order w.journal (disk.sent s.bytes waits.out)) refl refl refl
          (from long limits w steady r name body waits stored.Stored is) refl
          (freed_works long limits w steady r name body waits) within)
          (λ e. rest_writes c (freed s) refl)

      replied_writes : (is_message r && no_entry_free s.links) ≡ false → (x : StoredIn) → stored_in r ≡ x
          → FitsOn s.pool.turn.disk x → Writes w c (pool.reply_by s r name body x)
      unfolding pool.failed_of pool.collect_send pool.resumed_of
      replied_writes room stored.Stored is waits = stored_writes is waits
      replied_writes room stored.Failed is waits = rest_writes c _ refl
      replied_writes room stored.Other is free =
          pick_rule (Writes w c) (is_message r)
          (λ e. comes_writes c PENDING not_mailbox_pending (omega arith)
          (subst (λ b. (b && no_entry_free s.links) ≡ false) e room)
          (record { name = name; body = body; caller = None; id = None })
          (kept s (record { name = name; body = body; caller = None; id = None }) PENDING) refl)
          (λ e. let aside = resumed_aside s r in
          run_writes w c long (replying long limits w steady r name body) (resume_at s r) w.journal refl
          (resumed_rows s r) (ap (λ (a : Aside). a.wal.bytes) aside)
          (still_from long limits w steady r name body free) (ap (λ (a : Aside). a.disk) aside ∙ free)
          (resumed_works long limits w steady r name body free) (resumed_in s within r))

      reply_writes : Writes w c (call_of s c)
      unfolding call_of pool.reply_of pool.reply_effect
      reply_writes =
          table_rule (Writes w c) s (judged (reply_refusals s r name body)) _ (away_writes c)
          (λ fine. let (fits, room) = reply_fine s r name body fine in
          replied_writes room (stored_in r) refl (reply_fits s r fits))

  call_writes : (c : Call) → Writes w c (call_of s c)
  call_writes (admit name body who) = admit_writes name body who
  call_writes turn = turn_writes
  call_writes (reply r name body) = reply_writes name body r
  call_writes sync = sync_writes
  call_writes close = close_writes

-- ---- what the call leaves is what the order did

-- the messages logged and not done after an accepted call, whose answer shows the order that waits
now_after : (w : World) (c : Call) (d : Did) → accepted d.answer ≡ true
    → order_shown d.answer ≡ order_of d.state.pool.turn.disk
    → (step_did w c d).journal.now ≡ now_by w c d.state
now_after w c d ok shown = at d.answer refl
  where
    at : (a : Answer) → d.answer ≡ a → (step_did w c d).journal.now ≡ now_by w c d.state
    at (answer.Refused r) is = let z : ◌≡◌ {A = ℕ} 0 1 = cc in absurd (omega arith)
    at (answer.Open a) is =
        ap (λ x. (world_after w c d.state x).journal.now) is
        ∙ ap (λ o. (ordered c w d.state (answered w.journal c) o).journal.now)
        (sym (ap order_shown is) ∙ shown)
    at (answer.Ended busy waiters) is =
        ap (λ x. (world_after w c d.state x).journal.now) is
        ∙ ap (λ o. (ordered c w d.state (answered w.journal c) o).journal.now)
        (sym (ap order_shown is) ∙ shown)

pub call_retries : (long : ℕ) (limits : Limits) (w : World) (c : Call) → Steady long limits w → InGroups w.state
    → CallRetries w c
call_retries long limits w c steady within e id busy owns changed =
    at (accepted (call_of w.state c).answer) refl
  where
    tried : ℕ
    tried = attempts_in (call_of w.state c).state e

    Written : Type 0
    Written = Noted w (step_did w c (call_of w.state c)).journal.now id.0 tried

    at : (b : Bool) → accepted (call_of w.state c).answer ≡ b → Written
    at true ok =
        subst (λ ms. Noted w ms id.0 tried)
        (sym (now_after w c (call_of w.state c) ok (order_shown_lem w.state c ok)))
        (call_writes long limits w steady within c e id busy owns changed)
    at false off = absurd (changed (ap (λ x. attempts_in x e) (refused_stays w.state c off)))
