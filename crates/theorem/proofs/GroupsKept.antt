-- The pool's groups through every list of calls: a turn works on one of them, and each tries a message again at most
-- 255 times. Assumes nothing.
use Rattle.std.specs.Prelude.{Option, Some, None}
use Rattle.message_log.specs.declared.Order.{Order}
use mathlib.Core.Path.{◌≡◌, refl, sym, ap, ◌∙◌, subst}
use mathlib.Core.Bool.{Bool, true, false, false≢true, ◌&&◌}
use mathlib.Core.List.{List, [], ◌∷◌}
use Prim.Native.Nat.{ℕ, zero, suc, ◌+◌, ◌≤◌, ◌<◌}
use native.Mathlib.Omega.{arith}
use borrow.Author.Tests.{ltb-true, ltb-false}
use lib.Dec.{eqb, ltb}
use lib.ListN.{length, get_or, set, drop}
use Rattle.text.specs.Format.{ATTEMPTS}
use Rattle.lists.specs.Links.{pick, Table, GROUPS, KEYS, HAND, capped, first_of, hand_of}
use Rattle.lists.specs.KeyLists.{keys_at, front_of}
use Rattle.message_log.specs.Opening.{NAME}
use Rattle.message_log.specs.Log.{AnsweredDue}
use Rattle.message_log.specs.Log as log
use Rattle.message_log.proofs.OpeningLaws.{and_left, and_right}
use Rattle.actor.specs.declared.question.Reply.{Reply}
use Rattle.actor.specs.Messages.{message_at}
use Rattle.points.specs.declared.at.At.{At}
use Rattle.points.specs.declared.at.At.TheVariants as at
use Rattle.points.specs.declared.at.Point.{Point}
use Rattle.points.specs.declared.at.Point.TheVariants as point
use Rattle.group.specs.Settings.{group_at}
use Rattle.group.specs.Roster.{TRAPPED, slot_at}
use Rattle.settings.specs.declared.ranges.Settings.{Settings}
use Rattle.settings.specs.Ranges.{all_bytes, row_fits, rows_fit, numbers_fit, settings_fit, pool_row, groups_from}
use Rattle.tick.specs.Crash.{again_first}
use Rattle.turn.specs.State.{State, with_pool, closed_pool, is_free, running_of}
use Rattle.turn.specs.Go.{go_of}
use Rattle.turn.specs.Resume.{resume_of}
use Rattle.turn.specs.Retry.{again_trapped, again_at, ran_of}
use Rattle.turn.specs.Step.{mark_at, turn_step, advanced}
use Rattle.answers.specs.Answers.{Did, shown}
use Rattle.answers.specs.Refusals.{Lent, judged, in_turn, is_message, admit_refusals, turn_refusals, reply_refusals}
use Rattle.answers.specs.Refusals.{sync_refusals, close_refusals, file_in}
use Rattle.pool.specs.Stored.{StoredIn}
use Rattle.pool.specs.Stored as stored
use Rattle.pool.specs.Run.{run_of}
use Rattle.pool.specs.Admit as admits
use Rattle.pool.specs.Calls as one
use Rattle.pool.specs.Open.{open_of}
use Rattle.theorem.specs.Rail.{World, Call, admit, turn, reply, sync, close, call_of, step, run, begin, Accepts}
use Rattle.theorem.specs.Rail.{after}
use Rattle.theorem.proofs.Steps.{pick_rule}
use Rattle.theorem.proofs.Groups.{AtIn, go_in, resume_in_lem}
use Rattle.theorem.proofs.Retries.{found_again}
use Rattle.theorem.proofs.Running.{Lasting, lasting_of, Aside, Stays, go_aside, mark_stays, ran_stays, step_rule}
use Rattle.theorem.proofs.Running.{advanced_rule}
use Rattle.theorem.proofs.After.{answered_rule, table_rule}
use Rattle.theorem.proofs.OrderShown.{resume_aside}
use Rattle.theorem.proofs.Loaded.{effect_rule, step_state}
use Rattle.theorem.proofs.Opened.{accepted_taken, opens_as}

-- the turn works on one of the n groups, and each of these has a retry of at most 255
pub record Within (n : ℕ) (groups : Table) (a : At) : Type 0 where
  pub here : AtIn n a
  pub few : (g : ℕ) → g < n → (group_at groups g).retry ≤ ATTEMPTS

abbrev WithinBy : Lasting → At → Type 0
WithinBy l a = Within l.limits.groups l.groups a

abbrev pub InGroups : State → Type 0
InGroups s = WithinBy (lasting_of s) s.pool.turn.at

-- ---- a run

-- what changes neither these nor where the turn stands
same_in : (s s' : State) → Stays s s' → InGroups s → InGroups s'
same_in s s' (at-is, lasts) h =
    subst (WithinBy (lasting_of s')) (sym at-is) (subst (λ l. WithinBy l s.pool.turn.at) (sym lasts) h)

point_in : (s : State) (p : Point) → s.pool.turn.at ≡ at.Runs p → InGroups s → InGroups (go_of s p)
point_in s p is h =
    subst (λ l. WithinBy l (go_of s p).pool.turn.at) (sym (ap (λ (a : Aside). a.lasting) (go_aside s p)))
    (record { here = go_in s p (subst (AtIn s.pool.limits.groups) is h.here); few = h.few })

ran_in_lem : (s : State) (p : Point) → s.pool.turn.at ≡ at.Runs p → InGroups s → InGroups (ran_of s p)
ran_in_lem s p is h = same_in (go_of s p) (ran_of s p) (ran_stays s p) (point_in s p is h)

pub marked_in : (s : State) (p : Point) → InGroups s → InGroups (mark_at s p)
marked_in s p h = same_in s (mark_at s p) (mark_stays s p) h

pub step_in : (s : State) → running_of s.pool ≡ true → InGroups s → InGroups (turn_step s)
step_in s running h =
    step_rule InGroups s running
    (λ p is free. pick_rule InGroups (is_free (mark_at s p).pool.turn.disk)
    (λ e. ran_in_lem (mark_at s p) p ((mark_stays s p).0 ∙ is) (marked_in s p h)) (λ e. marked_in s p h))

run_in : (s : State) → InGroups s → InGroups (run_of s).state
unfolding run_of
run_in s h =
    answered_rule (λ d. InGroups d.state) (advanced s) (λ a ok. advanced_rule InGroups step_in s h)

-- ---- what a point tries again had fewer than 255 attempts

module _ (s : State) (h : InGroups s) (e : ℕ) where
  first_few : (g from : ℕ) → g < s.pool.limits.groups
      → again_first s.groups s.links s.rows g from ≡ Some e → (message_at s.rows e).attempts < ATTEMPTS
  unfolding again_first
  first_few g from here is =
      omega (
        arith,
        h.few g here,
        ltb-true (message_at s.rows e).attempts (group_at s.groups g).retry
            (found_again s.groups s.rows g e (first_of s.links from) is).1,
      )

  pub again_few : (p : Point) → s.pool.turn.at ≡ at.Runs p → again_at s p ≡ Some e
      → (message_at s.rows e).attempts < ATTEMPTS
  unfolding again_at
  again_few (point.Seed g) at-is is = let z : ◌≡◌ {A = ℕ} 0 1 = cc in absurd (omega arith)
  again_few (point.Intake left) at-is is = let z : ◌≡◌ {A = ℕ} 0 1 = cc in absurd (omega arith)
  again_few (point.Route left) at-is is = let z : ◌≡◌ {A = ℕ} 0 1 = cc in absurd (omega arith)
  again_few (point.Wake g clock) at-is is = let z : ◌≡◌ {A = ℕ} 0 1 = cc in absurd (omega arith)
  again_few (point.WakeNext g clock left) at-is is = let z : ◌≡◌ {A = ℕ} 0 1 = cc in absurd (omega arith)
  again_few (point.Ready g clock pops) at-is is = let z : ◌≡◌ {A = ℕ} 0 1 = cc in absurd (omega arith)
  again_few (point.StepEnd c x) at-is is = let z : ◌≡◌ {A = ℕ} 0 1 = cc in absurd (omega arith)
  again_few (point.Settle c x) at-is is = let z : ◌≡◌ {A = ℕ} 0 1 = cc in absurd (omega arith)
  again_few (point.Crash c) at-is is =
      first_few c.group HAND (subst (AtIn s.pool.limits.groups) at-is h.here) is
  again_few (point.AskTrap c) at-is is = let z : ◌≡◌ {A = ℕ} 0 1 = cc in absurd (omega arith)
  again_few (point.CrashTrapped c left) at-is is = at (eqb left 0) refl
    where
      by : (k : Option ℕ) → again_trapped s c k ≡ Some e → (message_at s.rows e).attempts < ATTEMPTS
      by (Some k) is =
          first_few c.group (hand_of (slot_at c.group k)) (subst (AtIn s.pool.limits.groups) at-is h.here)
          is
      by None is = let z : ◌≡◌ {A = ℕ} 0 1 = cc in absurd (omega arith)

      at : (b : Bool) → eqb left 0 ≡ b → (message_at s.rows e).attempts < ATTEMPTS
      at true b = let z : ◌≡◌ {A = ℕ} 0 1 = cc in absurd (omega arith)
      at false b = by (front_of (keys_at s.keys TRAPPED)) (rw b at is)

-- so it has at most 255 then
pub one_more : (n : ℕ) → n < ATTEMPTS → capped (n + 1) ≤ ATTEMPTS
one_more n few = omega arith

-- ---- the calls

module _ (s : State) (h : InGroups s) where
  pub begun_in : InGroups (with_pool s (one.begun_turn s.pool))
  begun_in = record { here = first s.pool.seeded; few = h.few }
    where
      first : (b : Bool) → AtIn s.pool.limits.groups (one.first_point b)
      first true = omega arith
      first false = omega arith

  pub resumed_in : (r : Reply) → InGroups (one.resume_at s r)
  unfolding one.resume_at
  resumed_in r = go s.pool.turn.at refl
    where
      go : (a : At) → s.pool.turn.at ≡ a → InGroups (one.resume_in s a r)
      go at.Rest is = h
      go (at.Asks a) is =
          subst (λ l. WithinBy l (resume_of s a r).pool.turn.at)
          (sym (ap (λ (x : Aside). x.lasting) (resume_aside s a r)))
          (record { here = resume_in_lem s a r (subst (AtIn s.pool.limits.groups) is h.here); few = h.few })
      go (at.Runs p) is = h

  abbrev DidIn : Did → Type 0
  DidIn d = InGroups d.state

  reply_in_lem : (r : Reply) (name body : List ℕ) (x : StoredIn) → DidIn (one.reply_by s r name body x)
  unfolding one.stored_of one.failed_of one.collect_send one.resumed_of shown
  reply_in_lem r name body stored.Stored =
      pick_rule DidIn (in_turn s.pool.turn.at) (λ e. run_in (one.freed s) h) (λ e. h)
  reply_in_lem r name body stored.Failed = h
  reply_in_lem r name body stored.Other =
      pick_rule DidIn (is_message r) (λ e. h) (λ e. run_in (one.resume_at s r) (resumed_in r))

  by_due_in : (d : AnsweredDue) (x : Option Order) → InGroups (with_pool s (one.synced_in s.pool d x))
  by_due_in d (Some o) = h
  by_due_in d None = h

  synced_in_lem : InGroups (with_pool s (one.sync_effect s.pool))
  unfolding one.sync_effect one.synced_by
  synced_in_lem = let d = log.sync_log s.pool.turn.counters in by_due_in d d.due

  call_in : (c : Call) → DidIn (call_of s c)
  unfolding call_of admits.admit_of one.turn_of one.reply_of one.reply_effect one.sync_of one.close_of shown
  call_in (admit name body who) =
      table_rule DidIn s (judged (admit_refusals s name body who)) (admits.admit_effect s name body who) (λ r. h)
      (λ fine. effect_rule s name body InGroups who fine (λ l. h) (λ l d o. h))
  call_in turn =
      table_rule DidIn s (judged (turn_refusals s.pool)) (run_of (with_pool s (one.begun_turn s.pool))) (λ r. h)
      (λ fine. run_in (with_pool s (one.begun_turn s.pool)) begun_in)
  call_in (reply r name body) =
      table_rule DidIn s (judged (reply_refusals s r name body)) (one.reply_effect s r name body) (λ x. h)
      (λ fine. reply_in_lem r name body (one.stored_in r))
  call_in sync =
      table_rule DidIn s (judged (sync_refusals s.pool)) (shown (with_pool s (one.sync_effect s.pool))) (λ r. h)
      (λ fine. synced_in_lem)
  call_in close =
      table_rule DidIn s (judged (close_refusals s.pool)) (shown (with_pool s (closed_pool s.pool))) (λ r. h)
      (λ fine. h)

calls_in : (calls : List Call) (w : World) → InGroups w.state → InGroups (run w calls).state
unfolding run
calls_in [] w h = h
calls_in (c ∷ calls) w h =
    calls_in calls (step w c) (subst InGroups (sym (step_state w c)) (call_in w.state h c))

-- ---- the opening

-- both tests hold
pick_first : (b c : Bool) → pick b false c ≡ true → b ≡ false
pick_first true c is = absurd (false≢true is)
pick_first false c is = refl

pick_second : (b c : Bool) → pick b false c ≡ true → c ≡ true
pick_second true c is = absurd (false≢true is)
pick_second false c is = is

-- the retry of a group that is in its ranges
row_few : (row : List ℕ) → row_fits row ≡ true → get_or row 3 0 ≤ ATTEMPTS
unfolding row_fits
row_few row fits =
    let retry = ltb ATTEMPTS (get_or row 3 0) in
    let named = pick (ltb NAME (get_or row 4 0)) false (all_bytes (drop 5 row)) in
    let timed = pick (ltb 86400 (get_or row 2 0)) false (pick retry false named) in
    let evals = pick (ltb 1 (get_or row 1 0)) false timed in
    ltb-false ATTEMPTS (get_or row 3 0)
    (pick_first retry named
    (pick_second (ltb 86400 (get_or row 2 0)) (pick retry false named)
    (pick_second (ltb 1 (get_or row 1 0)) timed (pick_second (ltb KEYS (get_or row 0 0)) evals fits))))

-- another ceiling leaves the retry
ceiling_other : (row : List ℕ) (most : ℕ) → get_or (set row 0 most) 3 0 ≡ get_or row 3 0
ceiling_other [] most = refl
ceiling_other (x ∷ row) most = refl

given_few : (most : ℕ) (olds given : Table) → rows_fit given ≡ true → (g : ℕ) → g < length given
    → (group_at (groups_from most olds given) g).retry ≤ ATTEMPTS
unfolding group_at groups_from rows_fit pool_row
given_few most [] given fits g here = omega arith
given_few most (old ∷ olds) [] fits g here = absurd (omega arith)
given_few most (old ∷ olds) (row ∷ rows) fits zero here =
    let own = row_few row (and_left (row_fits row) (rows_fit rows) fits) in
    pick_rule (λ (r : List ℕ). get_or r 3 0 ≤ ATTEMPTS) (ltb most (get_or row 0 0))
    (λ e. omega (arith, ceiling_other row most, own)) (λ e. own)
given_few most (old ∷ olds) (row ∷ rows) fits (suc g) here =
    given_few most olds rows (and_right (row_fits row) (rows_fit rows) fits) g (omega arith)

rows_fit_lem : (s : Settings) (given : Table) → settings_fit s given ≡ true → rows_fit given ≡ true
unfolding settings_fit
rows_fit_lem s given fits =
    let all = numbers_fit s && rows_fit given in
    and_right (numbers_fit s) (rows_fit given)
    (pick_second (ltb GROUPS (length given)) all
    (pick_second (eqb (length given) 0) (pick (ltb GROUPS (length given)) false all) fits))

open_in : (l : Lent) → Accepts l → InGroups (open_of l).state
open_in l ok =
    let t = accepted_taken l ok in
    subst (λ (d : Did). InGroups d.state) (sym (opens_as l t))
    (record {
      here = omega arith;
      few = given_few l.settings.max_actors l.groups l.groups_given
          (rows_fit_lem l.settings l.groups_given t.fit);
    })

pub after_in : (l : Lent) → Accepts l → (calls : List Call) → InGroups (after l calls).state
after_in l ok calls = calls_in calls (begin (open_of l) (file_in l)) (open_in l ok)
