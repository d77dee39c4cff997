-- Admit: refused with the state as it was, or a message comes to the inbox, logged or not; and a message that was sent
-- comes to pending. Assumes nothing.
use Rattle.std.specs.Prelude.{Option, Some, None, Ok}
use Rattle.message_log.specs.declared.LogId.{LogId}
use mathlib.Core.Path.{◌≡◌, refl, sym, ap, ◌∙◌, subst}
use mathlib.Core.Bool.{Bool, true, false}
use mathlib.Core.List.{List, [], ◌∷◌, ◌++◌}
use Prim.Native.Nat.{ℕ, ◌+◌, ◌≤◌, ◌<◌}
use native.Mathlib.Omega.{arith}
use native.Mathlib.Decide.{ℕ_discrete}
use borrow.Author.Tests.{eqb-true, eqb-false}
use lib.Dec.{eqb}
use lib.ListN.{length, drop}
use Rattle.text.specs.Format.{Message}
use Rattle.lists.specs.Links.{pick, Table, FREE, head_of, len_of, move_first, INBOX, HAND}
use Rattle.lists.specs.Family.{count, Moved}
use Rattle.lists.proofs.Family.{length_view}
use Rattle.lists.proofs.Moves.{move_first_lem}
use Rattle.message_log.specs.declared.Order.{Order}
use Rattle.message_log.specs.Log as log
use Rattle.message_log.specs.Stands.{Stands}
use Rattle.message_log.specs.Recovery as disk
use Rattle.message_log.proofs.RecoveryLaws as sound
use Rattle.message_log.proofs.Recovery.{call_tail}
use Rattle.actor.specs.declared.message.CallerId.{CallerId}
use Rattle.steps.specs.declared.fixed.FixedAsk.TheVariants as fixed
use Rattle.points.specs.declared.at.At.{At}
use Rattle.points.specs.declared.at.At.TheVariants as at
use Rattle.points.specs.declared.at.Ask.{Ask}
use Rattle.points.specs.declared.at.Ask.TheVariants as asks
use Rattle.actor.specs.Entry.{Messages, Arrival, new_row, keep_at, keep_found, keep_of}
use Rattle.theorem.specs.Places.{NotMailbox, Comes}
use Rattle.theorem.proofs.PlaceMoves.{not_mailbox_inbox, comes}
use Rattle.theorem.specs.Keeping.{AskOk, PointOk}
use Rattle.theorem.proofs.Living.{Less, less_lives, at_less, first_less}
use Rattle.theorem.proofs.Turn.{StateSound}
use Rattle.turn.specs.declared.state.Limits.{Limits}
use Rattle.turn.specs.State.{State, wal_of}
use Rattle.answers.specs.Answers.{messages_in, with_messages, kept}
use Rattle.answers.specs.Refusals.{no_entry_free, judged, admit_refusals}
use Rattle.pool.specs.Admit as one
use Rattle.theorem.specs.Rail.{Call, admit, call_of, World, ordered_for, orders_in, of_record}
use Rattle.theorem.proofs.Invariant.{Agrees, Ledger, Working, Steady}
use Rattle.theorem.proofs.Ids.{count_snoc, now_count}
use Rattle.theorem.proofs.Tried.{comes_tried, snoc_tried}
use Rattle.theorem.proofs.After.{order_of, Ends, turned, took, rest_steady, call_sound, shown_rule, table_rule}
use Rattle.theorem.proofs.Refusals.{Fine, fine_check, Appends, fine_appends}

-- ---- a message comes

-- where the step's hand is as long as before, a turn may stand where it stood
ask_kept : (a : Ask) (t r : Table) → len_of r HAND ≡ len_of t HAND → AskOk a t → AskOk a r
ask_kept (asks.SeedBoot g) t r same ok = ok
ask_kept (asks.RouteBoot g left) t r same ok = ok
ask_kept asks.TickClock t r same ok = ok
ask_kept (asks.WakePoll g k clock left) t r same ok = ok
ask_kept (asks.Fixed c (fixed.Run start)) t r same ok = ok
ask_kept (asks.Fixed c fixed.Drain) t r same ok = ok
ask_kept (asks.Fixed c fixed.Push) t r same ok = (ok.0, omega (arith, ok.1))
ask_kept (asks.Fixed c fixed.Dispatch) t r same ok = ok
ask_kept (asks.Eval c a) t r same ok = ok
ask_kept (asks.Sends c s) t r same ok = ok
ask_kept (asks.Trap c) t r same ok = ok
ask_kept (asks.Trapped c k) t r same ok = ok

at_kept : (a : At) (t r : Table) → len_of r HAND ≡ len_of t HAND → PointOk a t → PointOk a r
at_kept at.Rest t r same ok = ok
at_kept (at.Asks a) t r same ok = ask_kept a t r same ok
at_kept (at.Runs p) t r same ok = ok

-- what a message that is kept changes: its id stands once more, and the turn may stand where it stood
pub record Arrives (s : State) (id : Option LogId) (m : Messages) : Type 0 where
  pub comes : Comes s.links s.rows m.links m.rows s.pool.turn.counts.queued id
  pub ok : PointOk s.pool.turn.at m.links
  pub less : Less s.links m.links

module _ (s : State) (sound : StateSound s) (ok : PointOk s.pool.turn.at s.links) (a : Arrival) (to : ℕ)
    (not-mailbox : NotMailbox to) (low : to < HAND) where
  abbrev t : Table
  t = s.links

  hand_kept : len_of (move_first t FREE to) HAND ≡ len_of t HAND
  hand_kept =
      let moved : Moved t FREE to 1 (move_first t FREE to) = move_first_lem (record {
        good = sound.good;
        from_is =
            omega arith;
        to_is = not-mailbox.is;
        apart = λ e. omega (arith, not-mailbox.place);
      }) in
      omega (
        arith,
        length_view t HAND,
        length_view (move_first t FREE to) HAND,
        ap length (moved.others HAND (λ e. omega arith) (λ e. omega arith)),
      )

  pub kept_arrives : no_entry_free t ≡ false → Arrives s a.id (keep_of (messages_in s) a to)
  unfolding keep_of keep_at
  kept_arrives room =
      subst (λ f. Arrives s a.id (keep_found (messages_in s) a to
      (pick f None (Some (head_of t FREE))))) (sym room)
      (record {
        comes = comes t s.rows s.pool.turn.counts.queued sound to
            (new_row (length a.name) (length a.body) a.caller a.id) not-mailbox
            (omega (arith, eqb-false (len_of t FREE) 0 room));
        ok = at_kept s.pool.turn.at t (move_first t FREE to) hand_kept ok;
        less = first_less t sound.good FREE to low;
      })

-- a message that is not logged: every id stands as often as before
pub unlogged_works : (long : ℕ) (j : disk.LogWorld) (s : State) (m : Messages) → Working long j s → Arrives s None m
    → Working long j (with_messages s m)
unlogged_works long j s m works came = record {
  sound = came.comes.sound;
  ids = λ x. omega (arith, came.comes.more x, works.ids x);
  ok = came.ok;
  lives = less_lives s.links m.links s.keys s.actors came.less works.lives;
  here = at_less s.links m.links came.less s.keys s.actors s.pool.turn.at works.here;
  tried = comes_tried came.comes j.now works.tried;
  wal = works.wal;
  agrees = works.agrees;
  journal = works.journal;
}

-- ---- the log's order

-- the journal after an order with a new record
abbrev recorded : disk.LogWorld → log.Wal → List ℕ → List ℕ → Order → disk.LogWorld
recorded j v name body o =
    disk.issue j (log.append_of v name body).wal (j.now ++ (log.new_message v name body ∷ []))
    (disk.sent (log.append_of v name body).wal.bytes o)

recorded_sound : (long : ℕ) (j : disk.LogWorld) (v : log.Wal) (name body : List ℕ) (o : Order) → sound.Sound long j
    → j.disk.status ≡ disk.settled → j.wal ≡ v
    → (log.append_of v name body).answer ≡ Ok o → sound.Sound long (recorded j v name body o)
unfolding disk.called disk.did_call disk.call_effect
recorded_sound long j v name body o good settled is ordered =
    subst (λ u. (log.append_of u name body).answer ≡ Ok o → sound.Sound long (recorded j u name body o)) is
    here ordered
  where
    here : (log.append_of j.wal name body).answer ≡ Ok o
        → sound.Sound long (recorded j j.wal name body o)
    here e =
        subst (λ a. sound.Sound long (disk.issued j (disk.append name body) (log.append_of j.wal name body).wal
        (disk.order_of_answer a))) e
        (call_sound long j good settled (disk.append name body))

-- the log's bytes at and after the new size are as they were
recorded_tail : (v : log.Wal) (ms : List Message) (name body : List ℕ) → Stands v ms
    → drop (log.append_of v name body).wal.counters.size (log.append_of v name body).wal.bytes
    ≡ drop (log.append_of v name body).wal.counters.size v.bytes
unfolding disk.did_call
recorded_tail v ms name body stands = call_tail 0 v ms (disk.append name body) stands

-- the next id is not logged
next_new : (j : disk.LogWorld) (top : ℕ) (logged done : List ℕ) (x : ℕ) → Ledger j top logged done → x
    ≡ j.wal.counters.next → count x logged ≡ 0
next_new j top logged done x old is = go (ℕ_discrete (count x logged) 0)
  where
    go : Dec (count x logged ≡ 0) → count x logged ≡ 0
    go (yes e) = e
    go (no e) = absurd (omega (arith, old.below x (omega arith)))

-- one id more is logged
recorded_ledger : (j j' : disk.LogWorld) (top : ℕ) (logged done : List ℕ) (m : Message) → Ledger j top logged done
    → m.id
    ≡ j.wal.counters.next
    → j'.now ≡ j.now ++ (m ∷ []) → j'.wal.counters.next ≡ j.wal.counters.next + 1
    → Ledger j' (top + 1) (logged ++ (m.id ∷ [])) done
recorded_ledger j j' top logged done m old new now next = record {
  next_is = omega (arith, old.next_is);
  adds = λ x. rw (now, now_count x m j.now, count_snoc x m.id logged) (omega (arith, old.adds x));
  once = λ x. rw (count_snoc x m.id logged) (once x (eqb m.id x) refl);
  below = λ x some. below x (rw (count_snoc x m.id logged) at some) (eqb m.id x) refl;
}
  where
    once : (x : ℕ) (b : Bool) → eqb m.id x ≡ b → count x logged + pick (eqb m.id x) 1 0 ≤ 1
    once x true e = rw e (omega (arith, next_new j top logged done x old (sym (eqb-true m.id x e) ∙ new)))
    once x false e = rw e (omega (arith, old.once x))

    below : (x : ℕ) → 0 < count x logged + pick (eqb m.id x) 1 0 → (b : Bool) → eqb m.id x ≡ b
        → x < j'.wal.counters.next
    below x there true e = omega (arith, eqb-true m.id x e)
    below x there false e = omega (arith, old.below x (omega (arith, rw e at there)))

abbrev with_next : World → ℕ → World
with_next w n = record { state = w.state; journal = w.journal; next = n; logged = w.logged; done = w.done }

-- ---- admit

module _ (long : ℕ) (limits : Limits) (w : World) (steady : Steady long limits w) (name body : List ℕ) where
  abbrev s : State
  s = w.state

  abbrev j : disk.LogWorld
  j = w.journal

  abbrev comer : Option CallerId → Option LogId → Arrival
  comer who l = record { name = name; body = body; caller = who; id = l }

  module _ (fine : Fine s name body) where
    arrives : (who : Option CallerId) (l : Option LogId) → Arrives s l (keep_of (messages_in s) (comer who l) INBOX)
    arrives who l =
        kept_arrives s steady.works.sound steady.works.ok (comer who l) INBOX not_mailbox_inbox (omega arith)
        fine.room

    -- a caller waits: no order goes out
    called_ends : (who : CallerId)
        → Ends long limits w (admit name body (Some who)) (one.admit_called s name body who)
    unfolding one.admit_called
    called_ends who =
        let c = admit name body (Some who) in
        let a = comer (Some who) None in
        shown_rule (Ends long limits w c) (kept s a INBOX)
        (λ x ok. took ok refl (ap (λ d. orders_in (order_of d)) fine.free)
        (rest_steady long limits c w (kept s a INBOX) j refl fine.free
        (unlogged_works long j s (keep_of (messages_in s) a INBOX) steady.works
        (arrives (Some who) None)) steady.ledger steady.limits_are))

    -- nobody waits: its order goes out
    module _ (out : Appends (wal_of s) (log.append_of (wal_of s) name body)) where
      abbrev c : Call
      c = admit name body None

      abbrev v : log.Wal
      v = wal_of s

      abbrev d : log.DidAppend
      d = log.append_of v name body

      abbrev new : Arrival
      new = comer None (Some (one.next_id s))

      abbrev after : State
      after = kept (one.recorded s d out.order) new INBOX

      -- the world's next id is the log's
      top : w.next ≡ v.counters.next
      top = steady.ledger.next_is ∙ ap (λ u. u.counters.next) steady.works.wal

      settled : j.disk.status ≡ disk.settled
      settled = subst (λ q. Agrees q j.disk.status s.bytes) fine.free steady.works.agrees

      standing : Stands v j.now
      standing = subst (λ u. Stands u j.now) steady.works.wal (sound.sound_stands long j
          steady.works.journal).stands

      after_steady : Steady long limits (ordered_for (with_next w v.counters.next) after j out.order
          (of_record name body))
      unfolding disk.issue
      after_steady =
          let came = arrives None (Some (one.next_id s)) in
          let old : j.wal ≡ v = steady.works.wal in
          record {
            works = record {
              sound = came.comes.sound;
              ids = λ x. omega (
                arith,
                came.comes.more x,
                steady.works.ids x,
                now_count x (log.new_message v name body) j.now,
              );
              ok = came.ok;
              lives = less_lives s.links after.links s.keys s.actors came.less steady.works.lives;
              here = at_less s.links after.links came.less s.keys s.actors s.pool.turn.at
                  steady.works.here;
              tried = snoc_tried j.now (log.new_message v name body)
                  (comes_tried came.comes j.now steady.works.tried)
                  (record {
                    entry = came.comes.entry;
                    busy = came.comes.there;
                    own = came.comes.own;
                    most = omega arith;
                  });
              wal = refl;
              agrees = refl;
              journal = recorded_sound long j v name body out.order steady.works.journal settled old
                  out.answer_is;
            };
            ledger = recorded_ledger j (recorded j v name body out.order) v.counters.next w.logged w.done
                (log.new_message v name body) (subst (λ n. Ledger j n w.logged w.done) top steady.ledger)
                (ap (λ u. u.counters.next) (sym old)) refl
                (out.next_is ∙ ap (λ u. u.counters.next + 1) (sym old));
            limits_are = steady.limits_are;
          }

      logged_ends : Ends long limits w c (one.admit_logged s name body)
      unfolding one.admit_logged one.recorded_by
      logged_ends =
          subst (λ a. Ends long limits w c (one.recorded_in s name body d a)) (sym out.answer_is)
          (shown_rule (Ends long limits w c) after
          (λ a ok. took ok (recorded_tail v j.now name body standing) refl
          (subst (λ n. Steady long limits (ordered_for (with_next w n) after j out.order (of_record name body)))
          (sym top) after_steady)))

  effect_ends : (who : Option CallerId) → judged (admit_refusals s name body who) ≡ Ok tt
      → Ends long limits w (admit name body who) (one.admit_effect s name body who)
  effect_ends (Some who) is = called_ends (fine_check s name body (Some who) is) who
  effect_ends None is = logged_ends (fine_check s name body None is) (fine_appends s name body is)

  pub admit_ends : (who : Option CallerId) → Ends long limits w (admit name body who) (call_of s (admit name body who))
  unfolding call_of one.admit_of
  admit_ends who =
      table_rule (Ends long limits w (admit name body who)) s (judged (admit_refusals s name body who))
      (one.admit_effect s name body who) (λ r. turned r refl) (effect_ends who)
