-- Turn, reply, sync and close: each refused with the state as it was, or accepted with the invariant kept. Assumes
-- nothing.
use Rattle.std.specs.Prelude.{Some, None}
use mathlib.Core.Path.{◌≡◌, refl, sym, ap, ◌∙◌, subst}
use mathlib.Core.Bool.{Bool, true, false, ◌&&◌, false≢true}
use mathlib.Core.Logic.{inl, inr}
use mathlib.Core.List.{List}
use Prim.Native.Nat.{ℕ, ◌≤◌}
use native.Mathlib.Omega.{arith}
use lib.ListN.{drop}
use Rattle.lists.specs.Links.{Table, PENDING}
use Rattle.message_log.specs.declared.Counters.{Counters}
use Rattle.message_log.specs.declared.Order.TheVariants.{Flush}
use Rattle.message_log.specs.Log.{AnsweredDue}
use Rattle.message_log.specs.Log as log
use Rattle.message_log.specs.Recovery as disk
use Rattle.message_log.proofs.RecoveryLaws as sound
use Rattle.actor.specs.declared.question.Reply.{Reply}
use Rattle.points.specs.declared.at.At.{At}
use Rattle.points.specs.declared.at.At.TheVariants as at
use Rattle.actor.specs.Entry.{Arrival, keep_of}
use Rattle.theorem.proofs.PlaceMoves.{not_mailbox_pending}
use Rattle.theorem.proofs.Steps.{pick_rule}
use Rattle.theorem.specs.Keeping.{PointOk}
use Rattle.theorem.specs.Handing.{AllTried}
use Rattle.theorem.specs.Living.{step_hand, AtLives}
use Rattle.theorem.proofs.Turn.{resume_keeps}
use Rattle.theorem.proofs.LivingTurn.{resume_lives}
use Rattle.turn.specs.declared.state.OrderFor.TheVariants as orderFor
use Rattle.turn.specs.declared.state.Limits.{Limits}
use Rattle.turn.specs.declared.state.Disk.{Disk}
use Rattle.turn.specs.declared.state.Disk.TheVariants as order
use Rattle.turn.specs.State.{Pool, State, wal_of, with_pool, with_disk, closed_pool}
use Rattle.turn.specs.Resume.{resume_of}
use Rattle.turn.specs.Step.{advanced}
use Rattle.answers.specs.Answers.{shown, messages_in, kept}
use Rattle.answers.specs.Refusals.{judged, in_turn, is_message, no_entry_free, turn_refusals, reply_refusals, sync_refusals}
use Rattle.answers.specs.Refusals.{close_refusals}
use Rattle.pool.specs.Stored.{StoredIn}
use Rattle.pool.specs.Stored as stored
use Rattle.pool.specs.Run.{run_of}
use Rattle.pool.specs.Calls as pool
use Rattle.pool.specs.Calls.{first_point, begun_turn, freed, resume_in, resume_at, stored_in}
use Rattle.theorem.specs.Rail.{Call, turn, reply, sync, close, call_of, World, answered, answered_by}
use Rattle.theorem.specs.Rail.{order_answered}
use Rattle.theorem.specs.Rail.{nothing, OrderFits}
use Rattle.theorem.proofs.Invariant.{Agrees, Ledger, Working, Steady}
use Rattle.theorem.proofs.Running.{Lasting, lasting_of, Aside, moved_works, run_lasting, run_runs}
use Rattle.theorem.proofs.After.{order_of, ordered_in, Marking, Ends, turned, took, still_steady, rest_steady}
use Rattle.theorem.proofs.After.{runs_steady, none_fits, runs_fits, runs_tail, call_sound, shown_rule}
use Rattle.theorem.proofs.After.{answered_rule, table_rule, turn_fine, sync_fine, reply_fine}
use Rattle.theorem.proofs.OrderShown.{Waiting, FitsOn, reply_fits, resume_aside, resumed_aside}
use Rattle.theorem.proofs.Admit.{kept_arrives, unlogged_works}

-- ---- the journal, where an order is answered

confirmed_settled : (s : disk.Sent) (d : disk.Disk) → (disk.confirm s d).status ≡ disk.settled
unfolding disk.confirm
confirmed_settled (disk.appending new) d = refl
confirmed_settled (disk.replacing new) d = refl
confirmed_settled disk.flushing d = refl

module _ (long : ℕ) (j : disk.LogWorld) (s : disk.Sent) (waits : j.disk.status ≡ disk.waits s) where
  stored_sound : sound.Sound long j → sound.Sound long (disk.stored_order j s)
  unfolding disk.step_log
  stored_sound good = subst (λ q. sound.Sound long (disk.step_log 0 q j disk.stored)) waits (sound.step_sound long 0 j
      disk.stored good)

  failed_sound : sound.Sound long j → sound.Sound long (disk.failed_order j s)
  unfolding disk.step_log
  failed_sound good = subst (λ q. sound.Sound long (disk.step_log 0 q j disk.failed)) waits (sound.step_sound long 0 j
      disk.failed good)

  answered_waits : (x : StoredIn) → answered_by j j.disk.status x ≡ order_answered j s x
  answered_waits x = ap (λ q. answered_by j q x) waits

answered_settled : (j : disk.LogWorld) (x : StoredIn) → j.disk.status ≡ disk.settled
    → answered_by j j.disk.status x
    ≡ j
answered_settled j x settled = ap (λ q. answered_by j q x) settled

-- a journal with the same messages and the same next id
same_ledger : (j j' : disk.LogWorld) (top : ℕ) (logged done : List ℕ) → Ledger j top logged done → j'.now ≡ j.now
    → j'.wal.counters.next ≡ j.wal.counters.next → Ledger j' top logged done
same_ledger j j' top logged done old now next = record {
  next_is = old.next_is ∙ sym next;
  adds =
      λ x. rw now (old.adds x);
  once = old.once;
  below = λ x some. omega (arith, old.below x some);
}

-- ---- sync

-- nothing to flush, or a flush
data Syncs (n : Counters) (s : AnsweredDue) : Type 0 where
  idle : s ≡ record { counters = n; due = None } → Syncs n s
  flush : s.due ≡ Some Flush → s.counters.next ≡ n.next → Syncs n s

sync_view : (n : Counters) → Syncs n (log.sync_log n)
unfolding log.sync_log
sync_view n = go n.dirty refl
  where
    go : (b : Bool) → n.dirty ≡ b → Syncs n (log.sync_log n)
    go true e = rw (e, log.sync_log) (flush refl refl)
    go false e = idle cc

-- the journal after a flush was ordered
abbrev synced : disk.LogWorld → log.Wal → disk.LogWorld
synced j v = disk.issue j (record {
  bytes = v.bytes;
  table = v.table;
  counters = (log.sync_log v.counters
      ).counters;
}) j.now (disk.sent v.bytes Flush)

synced_sound : (long : ℕ) (j : disk.LogWorld) (v : log.Wal) → sound.Sound long j → j.disk.status ≡ disk.settled
    → j.wal
    ≡ v
    → (log.sync_log v.counters).due ≡ Some Flush → sound.Sound long (synced j v)
unfolding disk.called disk.did_call disk.call_effect
synced_sound long j v good settled is ordered = subst (λ u. (log.sync_log u.counters).due ≡ Some Flush
    → sound.Sound long (synced j u)) is here ordered
  where
    here : (log.sync_log j.wal.counters).due ≡ Some Flush → sound.Sound long (synced j j.wal)
    here e =
        subst (λ a. sound.Sound long (disk.issued j disk.sync (disk.by_sync j.wal (log.sync_log j.wal.counters)
        ).wal (disk.ordered_due a))) e
        (call_sound long j good settled disk.sync)

-- ---- a run

module _ (long : ℕ) (limits : Limits) (w : World) (c : Call) where
  -- nothing runs, and no order goes out
  rest_ends : (s : State) (j : disk.LogWorld) → OrderFits w c s nothing → s.bytes ≡ w.state.bytes
      → answered w.journal c ≡ j → s.pool.turn.disk ≡ order.Free → Working long j s
      → Ledger j w.next w.logged w.done → s.pool.limits ≡ limits → Ends long limits w c (shown s)
  rest_ends s j fits same from free works ledger is =
      shown_rule (Ends long limits w c) s
      (λ a ok. took ok (ap (drop s.pool.turn.counters.size) same)
      (subst (λ d. OrderFits w c s (order_of d)) (sym free) fits)
      (rest_steady long limits c w s j from free works ledger is))

  run_ends : Marking w c → (s : State) (j : disk.LogWorld) → j.now ≡ w.journal.now → s.bytes ≡ w.state.bytes
      → answered w.journal c ≡ j → s.pool.turn.disk ≡ order.Free → Working long j s
      → Ledger j w.next w.logged w.done → s.pool.limits ≡ limits → Ends long limits w c (run_of s)
  unfolding run_of
  run_ends own s j now same from free works ledger is =
      let runs = run_runs long j s free works in
      answered_rule (Ends long limits w c) (advanced s)
      (λ a ok. took ok
      (runs_tail long limits j (advanced s) w.state.bytes (ap (λ v. v.bytes) works.wal ∙ same) runs)
      (runs_fits long limits c w (advanced s) j own now runs ledger)
      (runs_steady long limits c w (advanced s) j own from runs ledger
      (ap (λ (l : Lasting). l.limits) (run_lasting (lasting_of s) s refl) ∙ is)))

-- ---- the calls

-- a turn begins at no step of an actor
first_ok : (t : Table) (seeded : Bool) → PointOk (first_point seeded) t
first_ok t true = omega arith
first_ok t false = omega arith

first_lives : (t keys actors : Table) (seeded : Bool) → step_hand t ≤ 0 → AtLives (first_point seeded) t keys actors
first_lives t keys actors true h = h
first_lives t keys actors false h = h

-- at rest the step's hand is empty
rest_hand : (a : At) (t keys actors : Table) → in_turn a ≡ false → AtLives a t keys actors → step_hand t ≤ 0
rest_hand at.Rest t keys actors e h = h
rest_hand (at.Asks a) t keys actors e h = absurd (false≢true (sym e))
rest_hand (at.Runs p) t keys actors e h = absurd (false≢true (sym e))

module _ (long : ℕ) (limits : Limits) (w : World) (steady : Steady long limits w) where
  abbrev s : State
  s = w.state

  abbrev p : Pool
  p = s.pool

  abbrev j : disk.LogWorld
  j = w.journal

  works : Working long j s
  works = steady.works

  -- no order is out
  settled : p.turn.disk ≡ order.Free → j.disk.status ≡ disk.settled
  settled free = subst (λ q. Agrees q j.disk.status s.bytes) free works.agrees

  -- the disk and the journal change, and the messages stay
  disk_works : (j' : disk.LogWorld) (n : Counters) (d : Disk) → j'.now ≡ j.now
      → j'.wal ≡ wal_of (with_pool s (with_disk p n d)) → Agrees d j'.disk.status s.bytes → sound.Sound long j'
      → Working long j' (with_pool s (with_disk p n d))
  disk_works j' n d now wal agrees journal = record {
    sound = works.sound;
    ids = λ x. rw now (works.ids x);
    ok = works.ok;
    lives = works.lives;
    here = works.here;
    tried = subst (AllTried s.links s.rows) (sym now) works.tried;
    wal = wal;
    agrees = agrees;
    journal = journal;
  }

  -- ---- turn

  pub begun_works : in_turn p.turn.at ≡ false → Working long j (with_pool s (begun_turn p))
  begun_works rests = record {
    sound = works.sound;
    ids = works.ids;
    ok = first_ok s.links p.seeded;
    lives = works.lives;
    here = first_lives s.links s.keys s.actors p.seeded
        (rest_hand p.turn.at s.links s.keys s.actors rests works.here);
    tried = works.tried;
    wal = works.wal;
    agrees = works.agrees;
    journal = works.journal;
  }

  pub turn_ends : Ends long limits w turn (call_of s turn)
  unfolding call_of pool.turn_of
  turn_ends =
      table_rule (Ends long limits w turn) s (judged (turn_refusals p)) _ (λ r. turned r refl)
      (λ fine. let (free, rests) = turn_fine p fine in
      run_ends long limits w turn (refl, λ s o h. h) (with_pool s (begun_turn p)) j refl refl refl free
      (begun_works rests) steady.ledger steady.limits_are)

  -- ---- close and sync

  closed_works : Working long j (with_pool s (closed_pool p))
  closed_works = record {
    sound = works.sound;
    ids = works.ids;
    ok = works.ok;
    lives = works.lives;
    here = works.here;
    tried = works.tried;
    wal = works.wal;
    agrees = works.agrees;
    journal = works.journal;
  }

  pub close_ends : Ends long limits w close (call_of s close)
  unfolding call_of pool.close_of
  close_ends =
      table_rule (Ends long limits w close) s (judged (close_refusals p)) _ (λ r. turned r refl)
      (λ fine. rest_ends long limits w close (with_pool s (closed_pool p)) j refl refl refl (sync_fine p fine)
      closed_works steady.ledger steady.limits_are)

  synced_ends : p.turn.disk ≡ order.Free → Syncs p.turn.counters (log.sync_log p.turn.counters)
      → Ends long limits w sync (shown (with_pool s (pool.sync_effect p)))
  unfolding pool.sync_effect pool.synced_by disk.issue
  synced_ends free (idle is) =
      subst (λ d. Ends long limits w sync (shown (with_pool s (pool.synced_in p d d.due)))) (sym is)
      (rest_ends long limits w sync s j (inl refl) refl refl free works steady.ledger steady.limits_are)
  synced_ends free (flush is next) =
      subst (λ a. Ends long limits w sync (shown (with_pool s (pool.synced_in p (log.sync_log p.turn.counters) a))))
      (sym is)
      (shown_rule (Ends long limits w sync)
      (with_pool s (with_disk p (log.sync_log p.turn.counters).counters (order.Waits Flush orderFor.Nothing)))
      (λ a ok. took ok refl (inr refl) (record {
        works = disk_works (synced j (wal_of s)) (log.sync_log p.turn.counters).counters
            (order.Waits Flush orderFor.Nothing) refl refl refl
            (synced_sound long j (wal_of s) works.journal (settled free) works.wal is);
        ledger = same_ledger j (synced j (wal_of s)) w.next w.logged w.done steady.ledger refl
            (next ∙ ap (λ u. u.counters.next) (sym works.wal));
        limits_are = steady.limits_are;
      })))

  pub sync_ends : Ends long limits w sync (call_of s sync)
  unfolding call_of pool.sync_of
  sync_ends =
      table_rule (Ends long limits w sync) s (judged (sync_refusals p)) _ (λ r. turned r refl)
      (λ fine. synced_ends (sync_fine p fine) (sync_view p.turn.counters))

  -- ---- reply

  module _ (r : Reply) (name body : List ℕ) where
    abbrev c : Call
    c = reply r name body

    pub replying : Marking w c
    replying = (refl, λ s o h. h)

    -- to an order
    module _ (waits : Waiting p.turn.disk) where
      abbrev out : disk.Sent
      out = disk.sent s.bytes waits.out

      waiting : j.disk.status ≡ disk.waits out
      waiting = subst (λ q. Agrees q j.disk.status s.bytes) waits.is works.agrees

      pub from : (x : StoredIn) → stored_in r ≡ x → answered j c ≡ order_answered j out x
      from x is = ap (answered_by j j.disk.status) is ∙ answered_waits long j out waiting x

      pub freed_works : Working long (disk.stored_order j out) (freed s)
      unfolding disk.stored_order
      freed_works =
          disk_works (disk.stored_order j out) p.turn.counters order.Free refl works.wal
          (confirmed_settled out j.disk) (stored_sound long j out waiting works.journal)

      freed_ledger : Ledger (disk.stored_order j out) w.next w.logged w.done
      unfolding disk.stored_order
      freed_ledger = same_ledger j (disk.stored_order j out) w.next w.logged w.done steady.ledger refl refl

      stored_ends : stored_in r ≡ stored.Stored → Ends long limits w c (pool.stored_of s)
      unfolding pool.stored_of disk.stored_order
      stored_ends is =
          pick_rule (Ends long limits w c) (in_turn p.turn.at)
          (λ e. run_ends long limits w c replying (freed s) (disk.stored_order j out) refl refl (from stored.Stored is)
          refl freed_works freed_ledger steady.limits_are)
          (λ e. rest_ends long limits w c (freed s) (disk.stored_order j out)
          (none_fits long limits c w (freed s) (disk.stored_order j out) replying refl freed_works) refl
          (from stored.Stored is) refl freed_works freed_ledger steady.limits_are)

      abbrev failed : State
      failed = with_pool s (with_disk p p.turn.counters order.Failed)

      failed_works : Working long (disk.failed_order j out) failed
      unfolding disk.failed_order
      failed_works =
          disk_works (disk.failed_order j out) p.turn.counters order.Failed refl works.wal (out, refl)
          (failed_sound long j out waiting works.journal)

      failed_ledger : Ledger (disk.failed_order j out) w.next w.logged w.done
      unfolding disk.failed_order
      failed_ledger = same_ledger j (disk.failed_order j out) w.next w.logged w.done steady.ledger refl refl

      failed_ends : stored_in r ≡ stored.Failed → Ends long limits w c (pool.failed_of s)
      unfolding pool.failed_of disk.failed_order
      failed_ends is =
          shown_rule (Ends long limits w c) failed
          (λ a ok. took ok refl (none_fits long limits c w failed (disk.failed_order j out) replying refl failed_works)
          (subst (λ k. Steady long limits (ordered_in c w failed k order.Failed)) (sym (from stored.Failed is))
          (still_steady long limits w failed (disk.failed_order j out) failed_works failed_ledger
          steady.limits_are)))

    -- to the turn's question
    module _ (free : p.turn.disk ≡ order.Free) where
      pub still_from : answered j c ≡ j
      still_from = answered_settled j (stored_in r) (settled free)

      -- a message that was sent
      abbrev sent : Arrival
      sent = record { name = name; body = body; caller = None; id = None }

      sent_works : no_entry_free s.links ≡ false → Working long j (kept s sent PENDING)
      sent_works room =
          unlogged_works long j s (keep_of (messages_in s) sent PENDING) works
          (kept_arrives s works.sound works.ok sent PENDING not_mailbox_pending (omega arith) room)

      sent_ends : no_entry_free s.links ≡ false → Ends long limits w c (pool.collect_send s name body)
      unfolding pool.collect_send
      sent_ends room =
          rest_ends long limits w c (kept s sent PENDING) j
          (none_fits long limits c w (kept s sent PENDING) j replying refl (sent_works room)) refl still_from free
          (sent_works room) steady.ledger steady.limits_are

      -- any other: the turn goes on
      pub resumed_works : Working long j (resume_at s r)
      unfolding resume_at
      resumed_works = go p.turn.at refl
        where
          go : (a : At) → p.turn.at ≡ a → Working long j (resume_in s a r)
          go at.Rest is = works
          go (at.Asks a) is =
              moved_works long j s (resume_of s a r) works (resume_aside s a r)
              (resume_keeps s a r works.sound (subst (λ x. PointOk x s.links) is works.ok))
              (resume_lives s a r works.sound.good works.lives
              (subst (λ x. AtLives x s.links s.keys s.actors) is works.here))
          go (at.Runs p) is = works

      resumed_ends : Ends long limits w c (pool.resumed_of s r)
      unfolding pool.resumed_of
      resumed_ends =
          let aside = resumed_aside s r in
          run_ends long limits w c replying (resume_at s r) j refl (ap (λ (a : Aside). a.wal.bytes) aside) still_from
          (ap (λ (a : Aside). a.disk) aside ∙ free) resumed_works steady.ledger
          (ap (λ (a : Aside). a.lasting.limits) aside ∙ steady.limits_are)

    effect_ends : (is_message r && no_entry_free s.links) ≡ false → (x : StoredIn) → stored_in r ≡ x
        → FitsOn p.turn.disk x → Ends long limits w c (pool.reply_by s r name body x)
    effect_ends room stored.Stored is waits = stored_ends waits is
    effect_ends room stored.Failed is waits = failed_ends waits is
    effect_ends room stored.Other is free =
        pick_rule (Ends long limits w c) (is_message r)
        (λ e. sent_ends free (subst (λ b. (b && no_entry_free s.links) ≡ false) e room))
        (λ e. resumed_ends free)

    pub reply_ends : Ends long limits w c (call_of s c)
    unfolding call_of pool.reply_of pool.reply_effect
    reply_ends =
        table_rule (Ends long limits w c) s (judged (reply_refusals s r name body)) _ (λ x. turned x refl)
        (λ fine. let (fits, room) = reply_fine s r name body fine in
        effect_ends room (stored_in r) refl (reply_fits s r fits))
