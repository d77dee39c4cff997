-- A call stops where nothing runs (statement: specs/Stopping.antt). Assumes nothing.
use Rattle.std.specs.Prelude.{Option, Some, None, Result, Ok, Err}
use Rattle.answers.specs.declared.answer.Refusal.{Refusal}
use Rattle.actor.specs.declared.message.CallerId.{CallerId}
use Rattle.message_log.specs.declared.Order.{Order}
use mathlib.Core.Path.{◌≡◌, refl, sym, ap, ◌∙◌}
use mathlib.Core.Bool.{false, false≢true, ◌&&◌}
use mathlib.Core.List.{List, [], ◌∷◌}
use Prim.Native.Nat.{ℕ}
use Rattle.message_log.specs.declared.Refusal as of-log
use Rattle.message_log.specs.Log.{AnsweredDue}
use Rattle.message_log.specs.Log as log
use Rattle.message_log.specs.Opened as opened
use Rattle.actor.specs.declared.question.Reply.{Reply}
use Rattle.theorem.proofs.Steps.{pick_rule}
use Rattle.points.specs.declared.at.At.{At}
use Rattle.points.specs.declared.at.At.TheVariants as at
use Rattle.points.specs.declared.at.Point.{Point}
use Rattle.turn.specs.declared.state.Disk.{Disk}
use Rattle.turn.specs.declared.state.Disk.TheVariants as disk
use Rattle.turn.specs.State.{Pool, State, is_free, runs_at, running_of}
use Rattle.turn.specs.Step.{advanced}
use Rattle.turn.specs.Advance.{Stops}
use Rattle.turn.proofs.Advance.{settled}
use Rattle.answers.specs.declared.answer.Answer.{Answer}
use Rattle.answers.specs.declared.answer.Answer.TheVariants as answer
use Rattle.answers.specs.Answers as answers
use Rattle.answers.specs.Answers.{shown}
use Rattle.answers.specs.Refusals.{Lent, file_in, judged, by_table, in_turn, is_message, open_refusals, admit_refusals}
use Rattle.answers.specs.Refusals.{turn_refusals, reply_refusals, sync_refusals, close_refusals}
use Rattle.pool.specs.Open as opens
use Rattle.pool.specs.Admit.{recorded_in, recorded_by, admit_logged, admit_called, admit_effect, admit_of}
use Rattle.pool.specs.Stored.{StoredIn}
use Rattle.pool.specs.Stored as stored
use Rattle.pool.specs.Run.{answered_of, run_of}
use Rattle.pool.specs.Calls.{freed, stored_of, failed_of, collect_send, resumed_of, stored_in, reply_by, reply_effect, turn_of}
use Rattle.pool.specs.Calls.{reply_of, synced_in, synced_by, sync_effect, sync_of, close_of}
use Rattle.theorem.specs.Rail.{Call, admit, turn, reply, sync, close, call_of, World, step, run, begin}
use Rattle.theorem.specs.Rail as rail
use Rattle.theorem.specs.Stopping.{CallsStop}

abbrev Done : answers.Did → Type 0
Done d = Stops d.state

-- nothing runs at rest, whatever the disk is
rest_stops : (d : Disk) (a : At) → in_turn a ≡ false → (is_free d && runs_at a) ≡ false
rest_stops disk.Free at.Rest e = refl
rest_stops disk.Free (at.Asks a) e = refl
rest_stops disk.Free (at.Runs p) e = e
rest_stops (disk.Waits o for) a e = refl
rest_stops disk.Failed a e = refl

by_table_lem : (s : State) (k : Result Unit Refusal) (effect : answers.Did) → Stops s → Done effect → Done (by_table s k effect)
by_table_lem s (Err r) effect stops does = stops
by_table_lem s (Ok tt) effect stops does = does

shown_stops : (s : State) → Stops s → Done (shown s)
unfolding shown
shown_stops s stops = stops

answered_stops : (s : State) → Stops s → Done (answered_of s)
unfolding answered_of
answered_stops s stops =
    pick_rule Done (in_turn s.pool.turn.at) (λ e. shown_stops s stops) (λ e. stops)

-- a turn that runs goes on until nothing does
run_stops : (s : State) → Done (run_of s)
unfolding run_of
run_stops s = answered_stops (advanced s) (settled s)

stored_stops : (s : State) → Done (stored_of s)
unfolding stored_of running_of
stored_stops s =
    pick_rule Done (in_turn s.pool.turn.at) (λ e. run_stops (freed s))
    (λ e. shown_stops (freed s) (rest_stops disk.Free s.pool.turn.at e))

reply_stops : (s : State) (r : Reply) (name body : List ℕ) (k : StoredIn) → Stops s → Done (reply_by s r name body k)
unfolding failed_of collect_send resumed_of running_of
reply_stops s r name body stored.Stored stops = stored_stops s
reply_stops s r name body stored.Failed stops = shown_stops _ refl
reply_stops s r name body stored.Other stops =
    pick_rule Done (is_message r) (λ e. shown_stops _ stops) (λ e. run_stops _)

logged_stops : (s : State) (name body : List ℕ) (d : log.DidAppend) (a : Result Order of-log.Refusal) → Stops s
    → Done (recorded_in s name body d a)
unfolding running_of
logged_stops s name body d (Ok o) stops = shown_stops _ refl
logged_stops s name body d (Err r) stops = stops

admit_stops : (s : State) (name body : List ℕ) (who : Option CallerId) → Stops s → Done (admit_effect s name body who)
unfolding admit_logged recorded_by admit_called
admit_stops s name body (Some who) stops = shown_stops _ stops
admit_stops s name body None stops =
    let d = log.append_of (record { bytes = s.bytes; table = s.records; counters = s.pool.turn.counters })
    name body in
    logged_stops s name body d d.answer stops

synced_stops : (p : Pool) (d : AnsweredDue) (x : Option Order) → running_of p ≡ false → running_of (synced_in p d x) ≡ false
unfolding running_of
synced_stops p d (Some o) stops = refl
synced_stops p d None stops = stops

call_stops : (s : State) (c : Call) → Stops s → Stops (call_of s c).state
unfolding call_of admit_of turn_of reply_of reply_effect sync_of sync_effect synced_by close_of running_of
call_stops s (admit name body who) stops =
    by_table_lem s (judged (admit_refusals s name body who)) _ stops (admit_stops s name body who stops)
call_stops s turn stops = by_table_lem s (judged (turn_refusals s.pool)) _ stops (run_stops _)
call_stops s (reply r name body) stops =
    by_table_lem s (judged (reply_refusals s r name body)) _ stops (reply_stops s r name body (stored_in r) stops)
call_stops s sync stops =
    let d = log.sync_log s.pool.turn.counters in
    by_table_lem s (judged (sync_refusals s.pool)) _ stops (shown_stops _ (synced_stops s.pool d d.due stops))
call_stops s close stops = by_table_lem s (judged (close_refusals s.pool)) _ stops (shown_stops _ stops)

opened_stops : (l : Lent) (o : opened.Opened) (a : Result Order of-log.Refusal) → Done (opens.opened_in l o a)
unfolding opens.filled_by running_of
opened_stops l o (Ok order) = refl
opened_stops l o (Err r) = refl

open_stops : (l : Lent) → Done (opens.open_of l)
unfolding opens.open_of opens.open_effect opens.opened_by running_of
open_stops l =
    let o = opened.open_log l.bytes l.size l.store l.records opens.no_left in
    by_table_lem (opens.unopened l) (judged (open_refusals l)) _ refl (opened_stops l o o.step.answer)

-- a step of the world leaves the state as its call does
step_state : (w : World) (c : Call) → (step w c).state ≡ (call_of w.state c).state
unfolding step
step_state w c = go (call_of w.state c)
  where
    shows : (s : State) (j : _) (o : rail.Shown) → (rail.ordered c w s j o).state ≡ s
    shows s j rail.nothing = refl
    shows s j (rail.shows o) = refl

    go : (d : answers.Did) → (rail.step_did w c d).state ≡ d.state
    go d = by d.answer
      where
        by : (a : Answer) → (rail.world_after w c d.state a).state ≡ d.state
        by (answer.Refused r) = refl
        by (answer.Open a) = shows d.state (rail.answered w.journal c) (rail.order_open a)
        by (answer.Ended busy waiters) = refl

run_list : (w : World) (cs : List Call) → Stops w.state → Stops (run w cs).state
unfolding run
run_list w [] stops = stops
run_list w (c ∷ cs) stops = run_list (step w c) cs (rw (step_state w c) (call_stops w.state c stops))

pub calls_stop : CallsStop
calls_stop = record {
  openings = open_stops;
  calls = call_stops;
  lists = λ l cs. run_list (begin (opens.open_of l) (file_in l)) cs (open_stops l);
}

-- A pool that only shows what is open once an order is stored, and leaves its turn at a point, does not stop so.
pub stays_refused : (s : State) (p : Point) → s.pool.turn.at ≡ at.Runs p → Done (shown (freed s)) → ⊥
unfolding shown running_of
stays_refused s p is stops = false≢true (sym stops ∙ ap runs_at is)
