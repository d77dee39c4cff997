-- An accepted admission is for a program that is loaded, and one that is refused with 17 is not (statements:
-- specs/Rail.antt). The message stands in the entry that was the first free one, since the body store keeps its
-- length. Assumes nothing.
use Rattle.std.specs.Prelude.{Option, Some, None, Err, Ok}
use Rattle.message_log.specs.declared.LogId.{LogId}
use Rattle.actor.specs.declared.message.CallerId.{CallerId}
use mathlib.Core.Path.{◌≡◌, refl, sym, ap, ◌∙◌, subst}
use mathlib.Core.Bool.{true, false, false≢true, not}
use mathlib.Core.Logic.{◌⊎◌, inl, inr}
use mathlib.Core.List.{List, [], ◌∷◌, ◌++◌}
use Prim.Native.Nat.{ℕ, ◌≤◌, ◌<◌}
use native.Mathlib.Omega.{arith}
use borrow.Author.Tests.{eqb-false, not-true}
use lib.ListN.{length, take, drop}
use Rattle.lists.specs.Links.{Table, FREE, len_of, first_of, move_first, INBOX, PENDING}
use Rattle.lists.specs.Family.{view, first_in, Moved}
use Rattle.lists.proofs.Family.{length_view, first_is, count_at, entry}
use Rattle.lists.proofs.Moves.{move_first_lem}
use Rattle.message_log.specs.declared.Order.{Order}
use Rattle.message_log.specs.Log as log
use Rattle.message_log.specs.Recovery as disk
use Rattle.actor.specs.declared.question.Reply.{Reply}
use Rattle.group.specs.Settings.{loaded_in}
use Rattle.actor.specs.Entry.{Messages, Arrival, keep_at, keep_of}
use Rattle.actor.proofs.Parts.{keep_long}
use Rattle.theorem.specs.Places.{Sound}
use Rattle.theorem.proofs.Steps.{pick_rule}
use Rattle.turn.specs.State.{State, wal_of, with_pool, closed_pool}
use Rattle.turn.specs.Step.{advanced}
use Rattle.theorem.proofs.Turn.{StateSound}
use Rattle.answers.specs.declared.answer.Answer.{Answer}
use Rattle.answers.specs.declared.answer.Answer.TheVariants as answer
use Rattle.answers.specs.declared.answer.Refusal.TheVariants.{NotLoaded}
use Rattle.answers.specs.Answers.{Did, shown, messages_in, kept}
use Rattle.answers.specs.Refusals.{judged, no_entry_free, in_turn, is_message, admit_refusals_first, admit_refusals_logged}
use Rattle.answers.specs.Refusals.{admit_refusals, turn_refusals, reply_refusals, sync_refusals, close_refusals}
use Rattle.pool.specs.Admit as admits
use Rattle.pool.specs.Loaded.{LoadedAt}
use Rattle.pool.proofs.AdmitLaws.{short_both}
use Rattle.pool.proofs.Names.{kept_loaded, unloaded_lost}
use Rattle.pool.specs.Stored.{StoredIn}
use Rattle.pool.specs.Stored as stored
use Rattle.pool.specs.Run.{run_of}
use Rattle.pool.specs.Calls as one
use Rattle.theorem.specs.Rail.{Call, admit, turn, reply, sync, close, call_of, Shown, nothing, shows, order_open}
use Rattle.theorem.specs.Rail.{accepted, World, ordered, answered, world_after, step, run}
use Rattle.theorem.specs.Rail.{ComesLoaded, AcceptsLoaded, RefusesUnloaded}
use Rattle.theorem.proofs.After.{answered_rule, table_rule}
use Rattle.theorem.proofs.Running.{Lasting, lasting_of, Aside, run_lasting}
use Rattle.theorem.proofs.OrderShown.{resumed_aside}
use Rattle.theorem.proofs.Refusals.{Says, refuse_says, Fine, fine_check, fine_appends, by_the_table}

-- ---- what an admission leaves

module _ (s : State) (name body : List ℕ) where
  -- 17: the name fits, and the program is not loaded
  unloaded_check : (who : Option CallerId) → judged (admit_refusals s name body who) ≡ Err NotLoaded
      → (length name ≤ 32) × (loaded_in s.groups name s.pool.limits.groups ≡ false)
  unfolding admit_refusals_first admit_refusals_logged
  unloaded_check who is =
      let says = refuse_says (admit_refusals s name body who) NotLoaded is in
      ((short_both name body says.1.1.0).0, go says.1.1.1)
    where
      go : (not (loaded_in s.groups name s.pool.limits.groups) ≡ true)
          ⊎ Says 17 (drop 4 (admit_refusals s name body who))
          → loaded_in s.groups name s.pool.limits.groups ≡ false
      go (inl e) = not-true _ e
      go (inr others) = absurd others.1.1.1.1.1.1

  abbrev comer : Option CallerId → Option LogId → Arrival
  comer who l = record { name = name; body = body; caller = who; id = l }

  -- where no line holds the message is kept, and with it the log's order, if nobody waits
  pub effect_rule : (P : State → Type 0) (who : Option CallerId) → judged (admit_refusals s name body who) ≡ Ok tt
      → ((l : Option LogId) → P (kept s (comer who l) INBOX))
      → ((l : Option LogId) (d : log.DidAppend) (o : Order) → P (kept (admits.recorded s d o) (comer who l) INBOX))
      → P (admits.admit_effect s name body who).state
  unfolding admits.admit_called admits.admit_logged admits.recorded_by shown
  effect_rule P (Some who) fine plain logs = plain None
  effect_rule P None fine plain logs =
      let d = log.append_of (wal_of s) name body in
      subst (λ a. P (admits.recorded_in s name body d a).state) (sym (fine_appends s name body fine).answer_is)
      (logs (Some (admits.next_id s)) d (fine_appends s name body fine).order)

-- ---- the body store keeps its length

run_stored : (s : State) → (run_of s).state.store ≡ s.store
unfolding run_of
run_stored s =
    answered_rule (λ d. d.state.store ≡ s.store) (advanced s)
    (λ a ok. ap (λ (l : Lasting). l.store) (run_lasting (lasting_of s) s refl))

module _ (s : State) where
  abbrev Long : Did → Type 0
  Long d = length d.state.store ≡ length s.store

  reply_long : (r : Reply) (name body : List ℕ) (x : StoredIn) → Long (one.reply_by s r name body x)
  unfolding one.stored_of one.failed_of one.collect_send one.resumed_of shown
  reply_long r name body stored.Stored =
      pick_rule Long (in_turn s.pool.turn.at) (λ e. ap length (run_stored (one.freed s))) (λ e. refl)
  reply_long r name body stored.Failed = refl
  reply_long r name body stored.Other =
      pick_rule Long (is_message r) (λ e. keep_long (messages_in s) (comer s name body None None) PENDING)
      (λ e. ap length (run_stored (one.resume_at s r) ∙ ap (λ (a : Aside). a.lasting.store) (resumed_aside s r)))

  call_long : (c : Call) → Long (call_of s c)
  unfolding call_of admits.admit_of one.turn_of one.reply_of one.reply_effect one.sync_of one.close_of shown
  call_long (admit name body who) =
      table_rule Long s (judged (admit_refusals s name body who)) (admits.admit_effect s name body who) (λ r. refl)
      (λ fine. effect_rule s name body (λ s'. length s'.store ≡ length s.store) who fine
      (λ l. keep_long (messages_in s) (comer s name body who l) INBOX)
      (λ l d o. keep_long (messages_in s) (comer s name body who l) INBOX))
  call_long turn =
      let begun = with_pool s (one.begun_turn s.pool) in
      table_rule Long s (judged (turn_refusals s.pool)) (run_of begun) (λ r. refl)
      (λ fine. ap length (run_stored begun))
  call_long (reply r name body) =
      table_rule Long s (judged (reply_refusals s r name body)) (one.reply_effect s r name body) (λ x. refl)
      (λ fine. reply_long r name body (one.stored_in r))
  call_long sync =
      table_rule Long s (judged (sync_refusals s.pool)) (shown (with_pool s (one.sync_effect s.pool))) (λ r. refl)
      (λ fine. refl)
  call_long close =
      table_rule Long s (judged (close_refusals s.pool)) (shown (with_pool s (closed_pool s.pool)))
      (λ r. refl) (λ fine. refl)

-- the state after a call is what the call made of it, whatever is ordered
ordered_state : (w : World) (c : Call) (s : State) (j : disk.LogWorld) (o : Shown) → (ordered c w s j o).state ≡ s
ordered_state w c s j nothing = refl
ordered_state w c s j (shows o) = refl

pub step_state : (w : World) (c : Call) → (step w c).state ≡ (call_of w.state c).state
unfolding step
step_state w c = go (call_of w.state c).state (call_of w.state c).answer
  where
    go : (s : State) (a : Answer) → (world_after w c s a).state ≡ s
    go s (answer.Refused r) = refl
    go s (answer.Open a) = ordered_state w c s (answered w.journal c) (order_open a)
    go s (answer.Ended busy waiters) = refl

pub run_long : (calls : List Call) (w : World) → length (run w calls).state.store ≡ length w.state.store
unfolding run
run_long [] w = refl
run_long (c ∷ calls) w =
    run_long calls (step w c) ∙ (ap (λ s. length s.store) (step_state w c) ∙ call_long w.state c)

-- ---- whom an admission is for

-- the first free entry
record First (t : Table) : Type 0 where
  pub entry : ℕ
  pub is : first_of t FREE ≡ Some entry
  pub alone : take 1 (view t FREE) ≡ entry ∷ []
  pub inside : entry < 256

first_free : (t rows : Table) (q : ℕ) → Sound t rows q → no_entry_free t ≡ false → First t
first_free t rows q sound room = go (view t FREE) refl
  where
    go : (free : List ℕ) → view t FREE ≡ free → First t
    go [] none = absurd (omega (arith, eqb-false (len_of t FREE) 0 room, length_view t FREE, ap length none))
    go (e ∷ es) is = record {
      entry = e;
      is = first_is t FREE ∙ ap first_in is;
      alone = ap (take 1) is;
      inside = entry t sound.good e FREE (omega arith) (rw is (count_at (e ∷ es) 0 (omega arith)));
    }

module _ (s : State) (sound : StateSound s) (long : length s.store ≡ 40960) (name body : List ℕ) where
  -- the message is the last of the inbox, and its program is loaded
  record Comes (m : Messages) : Type 0 where
    pub entry : ℕ
    pub last : view m.links INBOX ≡ view s.links INBOX ++ (entry ∷ [])
    pub loaded : LoadedAt s.groups s.pool.limits.groups m.store m.rows entry

  kept_comes : Fine s name body → (who : Option CallerId) (l : Option LogId)
      → Comes (keep_of (messages_in s) (comer s name body who l) INBOX)
  unfolding keep_of keep_at
  kept_comes fine who l =
      let first = first_free s.links s.rows s.pool.turn.counts.queued sound fine.room in
      let moved : Moved s.links FREE INBOX 1 (move_first s.links FREE INBOX) = move_first_lem (record {
        good = sound.good;
        from_is = omega arith;
        to_is = omega arith;
        apart = λ e. omega arith;
      }) in
      record {
        entry = first.entry;
        last = rw first.is (moved.joined ∙ ap (λ l. view s.links INBOX ++ l) first.alone);
        loaded =
            kept_loaded s.groups s.pool.limits.groups name (messages_in s) body who l INBOX first.entry long
            sound.sized first.inside fine.short_name first.is fine.loaded;
      }

  pub admit_comes : (who : Option CallerId) → AcceptsLoaded s name body who
  unfolding call_of admits.admit_of
  admit_comes who =
      table_rule (λ d. accepted d.answer ≡ true → ComesLoaded s d.state) s
      (judged (admit_refusals s name body who)) (admits.admit_effect s name body who)
      (λ r ok. absurd (false≢true ok))
      (λ is ok.
      let came = kept_comes (fine_check s name body who is) who in
      effect_rule s name body (ComesLoaded s) who is
      (λ l. record { entry = (came l).entry; last = (came l).last; loaded = (came l).loaded })
      (λ l d o. record { entry = (came l).entry; last = (came l).last; loaded = (came l).loaded }))

  pub admit_away : (who : Option CallerId) → RefusesUnloaded s name body who
  unfolding call_of
  admit_away who gone e inside routed =
      let none = unloaded_check s name body who ((by_the_table.admits s name body who).only NotLoaded gone) in
      unloaded_lost s.groups s.pool.limits.groups name s.store body e long inside none.0 none.1 routed
