-- An order that waits after an accepted call is the one that the call's answer shows; a reply fits that order, or,
-- with none waiting, the turn's question. Assumes nothing.
use Rattle.std.specs.Prelude.{Option, Some, None, Ok, Err, Result}
use Rattle.message_log.specs.declared.LogId.{LogId}
use Rattle.actor.specs.declared.question.Question.{Question}
use Rattle.actor.specs.declared.message.CallerId.{CallerId}
use mathlib.Core.Path.{◌≡◌, refl, sym, ap, ◌∙◌}
use mathlib.Core.Bool.{Bool, true, false, false≢true}
use mathlib.Core.Logic.{◌⊎◌, inl, inr}
use mathlib.Core.List.{List}
use Prim.Native.Nat.{ℕ, ◌<◌, ◌≤◌}
use native.Mathlib.Omega.{arith}
use borrow.Author.Tests.{eqb-true}
use lib.Dec.{eqb, leb}
use Rattle.lists.specs.Links.{Table, first_of, HAND}
use Rattle.lists.specs.KeyLists.{keys_at, front_of}
use Rattle.message_log.specs.declared.Refusal as of-log
use Rattle.message_log.specs.declared.Order.{Order}
use Rattle.message_log.specs.Log as log
use Rattle.actor.specs.declared.question.Who.{Who}
use Rattle.actor.specs.declared.question.Outcome.{Outcome}
use Rattle.actor.specs.declared.question.Reply.{Reply}
use Rattle.actor.specs.declared.question.Reply.TheVariants as reply
use Rattle.actor.specs.Questions.{kind_of, kind_wanted, fits_of}
use Rattle.steps.specs.Steps.{caller_first}
use Rattle.steps.specs.declared.fixed.FixedAsk.{FixedAsk}
use Rattle.steps.specs.declared.fixed.FixedAsk.TheVariants as fixed
use Rattle.steps.specs.declared.eval.EvalAsk.{EvalAsk}
use Rattle.steps.specs.declared.eval.EvalAsk.TheVariants as eval
use Rattle.steps.specs.StepFixed.{fixed_asks}
use Rattle.steps.specs.StepEval.{ask_tell, eval_asks}
use Rattle.actor.specs.Messages.{message_at}
use Rattle.points.specs.declared.at.Point.{Point}
use Rattle.points.specs.declared.at.Point.TheVariants as point
use Rattle.points.specs.declared.at.At.{At}
use Rattle.points.specs.declared.at.At.TheVariants as at
use Rattle.points.specs.declared.at.Ask.{Ask}
use Rattle.points.specs.declared.at.Ask.TheVariants as asks
use Rattle.points.specs.At.{who_of}
use Rattle.turn.specs.declared.state.OrderFor.{OrderFor}
use Rattle.turn.specs.declared.state.Disk.{Disk}
use Rattle.turn.specs.declared.state.Disk.TheVariants as order
use Rattle.turn.specs.State.{State, wal_of, with_pool, is_free, running_of}
use Rattle.turn.specs.Asks.{asked_by, asked_at, asked_in, open_in}
use Rattle.group.specs.Roster.{TRAPPED}
use Rattle.tick.specs.Crash.{crash_trapped, crash_trapped_key}
use Rattle.turn.specs.Go.{go_of}
use Rattle.turn.specs.Retry.{again_at, retry_logged, retry_entry, ran_of}
use Rattle.turn.specs.Resume.{resume_of}
use Rattle.turn.specs.Step.{mark_at, turn_step, advanced}
use Rattle.theorem.proofs.Steps.{pick_rule}
use Rattle.answers.specs.declared.answer.Refusal.{Refusal}
use Rattle.answers.specs.Answers.{Did, refused, shown}
use Rattle.answers.specs.Refusals.{judged, in_turn, fits_in, is_message, admit_refusals, turn_refusals, reply_refusals}
use Rattle.answers.specs.Refusals.{sync_refusals, close_refusals}
use Rattle.pool.specs.Admit as admits
use Rattle.pool.specs.Stored.{StoredIn}
use Rattle.pool.specs.Stored as stored
use Rattle.pool.specs.Run.{answered_of, run_of}
use Rattle.pool.specs.Calls as pool
use Rattle.pool.specs.Calls.{begun_turn, stored_in, freed, resume_in, resume_at}
use Rattle.theorem.specs.Rail.{nothing, order_asked, order_open, order_shown, accepted, Call, admit, turn, reply}
use Rattle.theorem.specs.Rail.{sync}
use Rattle.theorem.specs.Rail.{close, call_of}
use Rattle.theorem.proofs.Running.{Aside, aside_of, go_aside, mark_stays, advanced_rule, step_rule}
use Rattle.theorem.proofs.After.{order_of, table_rule, turn_fine, reply_fine}

unfoldable pub Shows : Did → Type 0
Shows d = accepted d.answer ≡ true → order_shown d.answer ≡ order_of d.state.pool.turn.disk

refused_shows : (s : State) (r : Refusal) → Shows (refused s r)
unfolding Shows
refused_shows s r ok = absurd (false≢true ok)

-- ---- what is open

-- no question of the turn is an order, nor of an order's kind
abbrev OfTurn : Option Question → Type 0
OfTurn (Some q) = (order_asked q ≡ nothing) × (kind_wanted q < 7)
OfTurn None = 0 ≤ 0

tell_asks : (c : Option CallerId) (o : Outcome) → OfTurn (ask_tell c o)
tell_asks (Some x) o = (refl, omega arith)
tell_asks None o = omega arith

fixed_asks_lem : (t : Table) (who : Who) (a : FixedAsk) → OfTurn (fixed_asks t who a)
unfolding fixed_asks
fixed_asks_lem t who (fixed.Run start) = (refl, omega arith)
fixed_asks_lem t who fixed.Drain = (refl, omega arith)
fixed_asks_lem t who fixed.Push = (refl, omega arith)
fixed_asks_lem t who fixed.Dispatch = (refl, omega arith)

eval_asks_lem : (t rows : Table) (who : Who) (a : EvalAsk) → OfTurn (eval_asks t rows who a)
unfolding eval_asks
eval_asks_lem t rows who eval.Clock = (refl, omega arith)
eval_asks_lem t rows who eval.Boot = (refl, omega arith)
eval_asks_lem t rows who eval.StartClock = (refl, omega arith)
eval_asks_lem t rows who (eval.Run start) = (refl, omega arith)
eval_asks_lem t rows who eval.Dispatch = (refl, omega arith)
eval_asks_lem t rows who (eval.Tell o) = tell_asks (caller_first rows (first_of t HAND)) o

ask_asks : (a : Ask) (t rows : Table) → OfTurn (asked_by a t rows)
unfolding asked_by
ask_asks (asks.SeedBoot g) t rows = (refl, omega arith)
ask_asks (asks.RouteBoot g left) t rows = (refl, omega arith)
ask_asks asks.TickClock t rows = (refl, omega arith)
ask_asks (asks.WakePoll g k clock left) t rows = (refl, omega arith)
ask_asks (asks.Fixed c a) t rows = fixed_asks_lem t (who_of c.group c.key) a
ask_asks (asks.Eval c a) t rows = eval_asks_lem t rows (who_of c.group c.key) a
ask_asks (asks.Sends c s) t rows = (refl, omega arith)
ask_asks (asks.Trap c) t rows = (refl, omega arith)
ask_asks (asks.Trapped c k) t rows = (refl, omega arith)

at_asks : (a : At) (t rows : Table) → OfTurn (asked_at a t rows)
at_asks at.Rest t rows = omega arith
at_asks (at.Asks a) t rows = ask_asks a t rows
at_asks (at.Runs p) t rows = omega arith

turn_shows : (a : Option Question) → OfTurn a → order_open a ≡ nothing
turn_shows (Some q) is = is.0
turn_shows None is = refl

disk_shows : (d : Disk) (a : At) (t rows : Table) → order_open (asked_in d a t rows) ≡ order_of d
unfolding asked_in
disk_shows order.Free a t rows = turn_shows (asked_at a t rows) (at_asks a t rows)
disk_shows (order.Waits o for) a t rows = refl
disk_shows order.Failed a t rows = refl

shown_shows : (s : State) → Shows (shown s)
unfolding Shows shown
shown_shows s ok = disk_shows s.pool.turn.disk s.pool.turn.at s.links s.rows

-- ---- which reply fits

turn_fits : (a : Option Question) (r : Reply) → OfTurn a → fits_in a r ≡ true → kind_of r < 7
unfolding fits_of
turn_fits (Some q) r is fits = omega (arith, is.1, eqb-true (kind_wanted q) (kind_of r) fits)
turn_fits None r is fits = absurd (false≢true fits)

-- a reply to an order is of the order's kind, and no other is
abbrev OfKind : StoredIn → ℕ → Type 0
OfKind stored.Stored k = k ≡ 7
OfKind stored.Failed k = k ≡ 7
OfKind stored.Other k = k < 7

reply_kind : (r : Reply) → OfKind (stored_in r) (kind_of r)
reply_kind reply.Yes = omega arith
reply_kind reply.No = omega arith
reply_kind (reply.Clock ns) =
    pick_rule (λ (k : ℕ). k < 7) (leb ns 9223372036854775807) (λ e. omega arith) (λ e. omega arith)
reply_kind (reply.Count n) = omega arith
reply_kind (reply.Ran s) = omega arith
reply_kind reply.Message = omega arith
reply_kind reply.End = omega arith
reply_kind reply.Told = omega arith
reply_kind reply.Stored = refl
reply_kind reply.Failed = refl

-- an order waits
pub record Waiting (d : Disk) : Type 0 where
  pub out : Order
  pub for : OrderFor
  pub is : d ≡ order.Waits out for

-- a reply to an order fits where one waits, any other where none does
abbrev pub FitsOn : Disk → StoredIn → Type 0
FitsOn d stored.Stored = Waiting d
FitsOn d stored.Failed = Waiting d
FitsOn d stored.Other = d ≡ order.Free

pub reply_fits : (s : State) (r : Reply) → fits_in (open_in s) r ≡ true
    → FitsOn s.pool.turn.disk (stored_in r)
unfolding asked_in fits_of
reply_fits s r fits = go s.pool.turn.disk (stored_in r) (reply_kind r) fits
  where
    other : fits_in (asked_at s.pool.turn.at s.links s.rows) r ≡ true → kind_of r < 7
    other =
        turn_fits (asked_at s.pool.turn.at s.links s.rows) r
        (at_asks s.pool.turn.at s.links s.rows)

    go : (d : Disk) (x : StoredIn) → OfKind x (kind_of r)
        → fits_in (asked_in d s.pool.turn.at s.links s.rows) r ≡ true → FitsOn d x
    go order.Free stored.Stored kind e = absurd (omega (arith, other e))
    go order.Free stored.Failed kind e = absurd (omega (arith, other e))
    go order.Free stored.Other kind e = refl
    go (order.Waits o for) stored.Stored kind e = record { out = o; for = for; is = refl }
    go (order.Waits o for) stored.Failed kind e = record { out = o; for = for; is = refl }
    go (order.Waits o for) stored.Other kind e = absurd (omega (arith, eqb-true 7 (kind_of r) e))
    go order.Failed x kind e = absurd (false≢true e)

-- ---- a run

-- where an order waits the turn is under way
abbrev Moving : State → Type 0
Moving s = (is_free s.pool.turn.disk ≡ true) ⊎ (in_turn s.pool.turn.at ≡ true)

-- a point that tried a message again leaves the turn at a point
entry_moving : (s : State) (f : Option ℕ) → is_free s.pool.turn.disk ≡ true
    → ((e : ℕ) → f ≡ Some e → in_turn s.pool.turn.at ≡ true) → Moving (retry_entry s f)
unfolding retry_entry retry_logged
entry_moving s None free under = inl free
entry_moving s (Some e) free under = by (message_at s.rows e).id
  where
    by : (l : Option LogId) → Moving (retry_logged s l (message_at s.rows e).attempts)
    by (Some id) = inr (under e refl)
    by None = inl free

again_in_turn : (s : State) (p : Point) (e : ℕ) → again_at s p ≡ Some e
    → in_turn (go_of s p).pool.turn.at ≡ true
unfolding again_at go_of crash_trapped crash_trapped_key
again_in_turn s (point.Seed g) e is = let z : ◌≡◌ {A = ℕ} 0 1 = cc in absurd (omega arith)
again_in_turn s (point.Intake left) e is = let z : ◌≡◌ {A = ℕ} 0 1 = cc in absurd (omega arith)
again_in_turn s (point.Route left) e is = let z : ◌≡◌ {A = ℕ} 0 1 = cc in absurd (omega arith)
again_in_turn s (point.Wake g clock) e is = let z : ◌≡◌ {A = ℕ} 0 1 = cc in absurd (omega arith)
again_in_turn s (point.WakeNext g clock left) e is = let z : ◌≡◌ {A = ℕ} 0 1 = cc in absurd (omega arith)
again_in_turn s (point.Ready g clock pops) e is = let z : ◌≡◌ {A = ℕ} 0 1 = cc in absurd (omega arith)
again_in_turn s (point.StepEnd c x) e is = let z : ◌≡◌ {A = ℕ} 0 1 = cc in absurd (omega arith)
again_in_turn s (point.Settle c x) e is = let z : ◌≡◌ {A = ℕ} 0 1 = cc in absurd (omega arith)
again_in_turn s (point.Crash c) e is = refl
again_in_turn s (point.AskTrap c) e is = let z : ◌≡◌ {A = ℕ} 0 1 = cc in absurd (omega arith)
again_in_turn s (point.CrashTrapped c left) e is = at (eqb left 0) refl
  where
    by : eqb left 0 ≡ false → (k : Option ℕ) → front_of (keys_at s.keys TRAPPED) ≡ k
        → in_turn (go_of s (point.CrashTrapped c left)).pool.turn.at ≡ true
    by b (Some k) front = rw (b, front) refl
    by b None front = rw (b, front) refl

    at : (b : Bool) → eqb left 0 ≡ b → in_turn (go_of s (point.CrashTrapped c left)).pool.turn.at ≡ true
    at true b = rw b refl
    at false b = by b (front_of (keys_at s.keys TRAPPED)) refl

ran_moving : (s : State) (p : Point) → is_free (go_of s p).pool.turn.disk ≡ true → Moving (ran_of s p)
unfolding ran_of
ran_moving s p free = entry_moving (go_of s p) (again_at s p) free (again_in_turn s p)

step_moving : (s : State) → running_of s.pool ≡ true → Moving s → Moving (turn_step s)
step_moving s run moves =
    step_rule Moving s run
    (λ p at-is free. pick_rule Moving (is_free (mark_at s p).pool.turn.disk)
    (λ e. ran_moving (mark_at s p) p (ap (λ (a : Aside). is_free a.disk) (go_aside (mark_at s p) p) ∙ e))
    (λ e. inr (ap in_turn ((mark_stays s p).0 ∙ at-is))))

free_none : (d : Disk) → is_free d ≡ true → order_of d ≡ nothing
free_none order.Free e = refl
free_none (order.Waits o for) e = absurd (false≢true e)
free_none order.Failed e = refl

answered_shows : (s : State) → Moving s → Shows (answered_of s)
unfolding Shows answered_of
answered_shows s moves = pick_rule Shows (in_turn s.pool.turn.at) (λ e. shown_shows s) (λ e ok. rest moves e)
  where
    rest : Moving s → in_turn s.pool.turn.at ≡ false → nothing ≡ order_of s.pool.turn.disk
    rest (inl free) e = sym (free_none s.pool.turn.disk free)
    rest (inr moves) e = absurd (false≢true (sym e ∙ moves))

run_shows : (s : State) → s.pool.turn.disk ≡ order.Free → Shows (run_of s)
unfolding run_of
run_shows s free = answered_shows (advanced s) (advanced_rule Moving step_moving s (inl (ap is_free free)))

-- ---- the calls

-- no reply changes what no point changes
pub resume_aside : (s : State) (a : Ask) (r : Reply) → aside_of (resume_of s a r) ≡ aside_of s
unfolding resume_of
resume_aside s (asks.SeedBoot g) r = refl
resume_aside s (asks.RouteBoot g left) r = refl
resume_aside s asks.TickClock r = refl
resume_aside s (asks.WakePoll g k clock left) r = refl
resume_aside s (asks.Fixed c a) r = refl
resume_aside s (asks.Eval c a) r = refl
resume_aside s (asks.Sends c step) r = refl
resume_aside s (asks.Trap c) r = refl
resume_aside s (asks.Trapped c k) r = refl

pub resumed_aside : (s : State) (r : Reply) → aside_of (resume_at s r) ≡ aside_of s
unfolding resume_at
resumed_aside s r = go s.pool.turn.at
  where
    go : (a : At) → aside_of (resume_in s a r) ≡ aside_of s
    go at.Rest = refl
    go (at.Asks a) = resume_aside s a r
    go (at.Runs p) = refl

module _ (s : State) where
  logged_shows : (name body : List ℕ) (d : log.DidAppend) (a : Result Order of-log.Refusal)
      → Shows (admits.recorded_in s name body d a)
  logged_shows name body d (Ok o) = shown_shows _
  logged_shows name body d (Err r) = refused_shows _ _

  admit_shows : (name body : List ℕ) (who : Option CallerId) → Shows (admits.admit_effect s name body who)
  unfolding admits.admit_called admits.admit_logged admits.recorded_by
  admit_shows name body (Some who) = shown_shows _
  admit_shows name body None =
      logged_shows name body (log.append_of (wal_of s) name body) (log.append_of (wal_of s) name body).answer

  reply_shows : (r : Reply) (name body : List ℕ) (x : StoredIn) → FitsOn s.pool.turn.disk x
      → Shows (pool.reply_by s r name body x)
  unfolding pool.stored_of pool.failed_of pool.collect_send pool.resumed_of
  reply_shows r name body stored.Stored fits =
      pick_rule Shows (in_turn s.pool.turn.at) (λ e. run_shows (freed s) refl) (λ e. shown_shows _)
  reply_shows r name body stored.Failed fits = shown_shows _
  reply_shows r name body stored.Other free =
      pick_rule Shows (is_message r) (λ e. shown_shows _)
      (λ e. run_shows (resume_at s r) (ap (λ (a : Aside). a.disk) (resumed_aside s r) ∙ free))

call_shows : (s : State) (c : Call) → Shows (call_of s c)
unfolding call_of admits.admit_of pool.turn_of pool.reply_of pool.reply_effect pool.sync_of pool.close_of
call_shows s (admit name body who) =
    table_rule Shows s (judged (admit_refusals s name body who)) _ (refused_shows s)
    (λ fine. admit_shows s name body who)
call_shows s turn =
    table_rule Shows s (judged (turn_refusals s.pool)) _ (refused_shows s)
    (λ fine. run_shows (with_pool s (begun_turn s.pool)) (turn_fine s.pool fine).0)
call_shows s (reply r name body) =
    table_rule Shows s (judged (reply_refusals s r name body)) _ (refused_shows s)
    (λ fine. reply_shows s r name body (stored_in r) (reply_fits s r (reply_fine s r name body fine).0))
call_shows s sync =
    table_rule Shows s (judged (sync_refusals s.pool)) _ (refused_shows s) (λ fine. shown_shows _)
call_shows s close =
    table_rule Shows s (judged (close_refusals s.pool)) _ (refused_shows s) (λ fine. shown_shows _)

-- After every accepted call the order that waits is the one that the answer shows.
pub order_shown_lem : (s : State) (c : Call) → accepted (call_of s c).answer ≡ true
    → order_shown (call_of s c).answer ≡ order_of (call_of s c).state.pool.turn.disk
unfolding Shows
order_shown_lem s c = call_shows s c
