-- Waking, stepping, settling and crashing keep the invariant of who holds messages. Assumes nothing.
use Rattle.std.specs.Prelude.{Option, Some, None, Bool, true, false}
use mathlib.Core.Path.{◌≡◌, refl, sym, ap, ◌∙◌, subst}
use mathlib.Core.Bool.{Bool, true, false}
use mathlib.Core.List.{[]}
use Prim.Native.Nat.{ℕ, ◌+◌, ◌*◌, ◌-◌, ◌≤◌, ◌<◌}
use native.Mathlib.Omega.{arith}
use borrow.Author.Tests.{eqb-true}
use lib.Dec.{eqb, ltb, leb}
use lib.ListN.{length, set}
use Rattle.lists.specs.Links.{LISTS, Table, len_of, head_of, move_all, mailbox_of, hand_of, PENDING, HAND}
use Rattle.lists.specs.Family.{Good}
use Rattle.lists.specs.KeyLists.{blank_row, keys_at, front_of, pop_front}
use Rattle.lists.proofs.Family.{length_view}
use Rattle.lists.proofs.Moves.{move_all_good}
use Rattle.actor.specs.declared.question.Reply.{Reply}
use Rattle.actor.specs.declared.state.Mode.{Mode}
use Rattle.actor.specs.declared.state.Mode.TheVariants as mode
use Rattle.actor.specs.Questions.{yes_in, count_in}
use Rattle.actor.specs.Messages.{message_at}
use Rattle.actor.specs.Actors.{actor_at, put_actor, scheduled_as, began_step, started_as, blocked_to, yielded_as, woken_as}
use Rattle.steps.specs.declared.step.Step.{Step}
use Rattle.steps.specs.declared.step.Step.TheVariants as step
use Rattle.steps.specs.declared.step.End.{End}
use Rattle.steps.specs.declared.step.End.TheVariants as end
use Rattle.steps.specs.declared.step.Parked.{Parked}
use Rattle.steps.specs.declared.step.Parked.TheVariants as parked
use Rattle.steps.specs.declared.fixed.FixedAsk.{FixedAsk}
use Rattle.steps.specs.declared.fixed.FixedNext.{FixedNext}
use Rattle.steps.specs.declared.fixed.FixedNext.TheVariants as fixed
use Rattle.steps.specs.declared.eval.EvalNext.{EvalNext}
use Rattle.steps.specs.declared.eval.EvalNext.TheVariants as eval
use Rattle.steps.specs.StepFixed.{fixed_start}
use Rattle.steps.specs.StepEval.{eval_start}
use Rattle.points.specs.declared.at.At.{At}
use Rattle.points.specs.declared.at.Ask.TheVariants as asks
use Rattle.points.specs.declared.at.Cursor.{Cursor}
use Rattle.points.specs.At.{fixed_after, eval_after}
use Rattle.group.specs.Settings.{group_at}
use Rattle.group.specs.Roster.{REST, TRAPPED, ready_row, idle_row, waiting_row, slot_at, Keyed, live_of, over_all}
use Rattle.tick.specs.declared.crash.Losses.{Losses}
use Rattle.tick.specs.Waking as waking
use Rattle.tick.specs.Waking.{Listed, Waked, wake_of, wake_next, poll_reply}
use Rattle.tick.specs.Ready as starting
use Rattle.tick.specs.Ready.{Stepping, Readied, ready_of}
use Rattle.tick.specs.Settle as settling
use Rattle.tick.specs.Settle.{step_end, settle_of}
use Rattle.tick.specs.Crash as crashing
use Rattle.tick.specs.Crash.{Dying, Crashing, crash_of, trap_reply, trapped_reply, crash_trapped}
use Rattle.theorem.proofs.Steps.{pick_rule}
use Rattle.theorem.specs.Mailboxes.{mailbox}
use Rattle.theorem.proofs.MailMoves.{empty_out_lem}
use Rattle.theorem.proofs.Unread.{unread}
use Rattle.theorem.specs.Living.{mail_len, hand_len, step_hand, Lives, StepHands, EndHands, Lively, IsFixed}
use Rattle.theorem.specs.Living.{AskLives, AtLives}
use Rattle.theorem.proofs.Living.{Slot, Less, less_same, less_then, less_at, less_lives, first_less}
use Rattle.theorem.proofs.Living.{first_left, all_less, over_less, over_left, over_all_less, Same, same_both}
use Rattle.theorem.proofs.Living.{same_then, same_lives, set_row}
use Rattle.theorem.proofs.Living.{ready_row_lem, idle_row_lem, waiting_row_lem, high_row, push_row, put_same, put_schedule}
use Rattle.theorem.proofs.Living.{remove_lives}
use Rattle.theorem.proofs.LivingSteps.{FixedNextHands, EvalNextHands, eval_begins}
use Rattle.group.specs.Roster.{slot_on, turn_tables, keyed, mailed}
use Rattle.tick.specs.Ready.{readying}
use Rattle.tick.specs.Crash.{retiring, dying}
use Rattle.points.specs.At.{who_of}

-- ---- waking changes keys and actors elsewhere

module _ (keys actors : Table) where
  abbrev WakedSame : Waked → Type 0
  WakedSame s = Same keys actors s.keys s.actors

  woken_same : (g k : ℕ) (b : Bool) → Same keys actors (waking.woken_to keys actors g k b).keys
      (waking.woken_to keys actors g k b).actors
  unfolding waking.woken_to
  woken_same g k true = put_schedule keys actors g k (woken_as (actor_at actors (slot_at g k))) refl refl
  woken_same g k false =
      pick_rule (λ (s : Keyed). Same keys actors s.keys s.actors) (actor_at actors (slot_at g k)).idle
      (λ e. same_both keys actors)
      (λ e. push_row keys actors (waiting_row g) k (waiting_row_lem g))

  one_same : (g k clock left : ℕ) → WakedSame (waking.wake_one (keyed keys actors) g k clock left)
  unfolding waking.wake_one
  one_same g k clock left =
      pick_rule WakedSame (live_of keys g k)
      (λ e. pick_rule WakedSame (waking.late_at (actor_at actors (slot_at g k)).wake_at clock)
      (λ e. woken_same g k true)
      (λ e. pick_rule WakedSame (waking.polls_of (actor_at actors (slot_at g k))) (λ e. same_both keys actors)
      (λ e. woken_same g k false)))
      (λ e. same_both keys actors)

  by_poll : (g k clock left : ℕ) (n : Option ℕ) → WakedSame (waking.poll_by (keyed keys actors) (who_of g k) clock left n)
  by_poll g k clock left (Some n) = woken_same g k (ltb 0 n)
  by_poll g k clock left None = same_both keys actors

  pub poll_same : (g k clock left : ℕ) (r : Reply) → WakedSame (poll_reply (keyed keys actors) (who_of g k) clock left r)
  unfolding poll_reply
  poll_same g k clock left r = by_poll g k clock left (count_in r)

  pub wake_same : (n g clock : ℕ) → Same keys actors (wake_of keys n g clock).keys actors
  unfolding wake_of
  wake_same n g clock =
      pick_rule P (leb n g) (λ e. same_both keys actors)
      (λ e. pick_rule P (leb 8 g) (λ e. same_both keys actors)
      (λ e. same_then (set_row keys actors REST _ (high_row REST (omega arith))) (set_row _ actors (waiting_row g)
      blank_row (waiting_row_lem g))))
    where
      P : Listed → Type 0
      P s = Same keys actors s.keys actors

  trap_by_lem : (c : Cursor) (y : Option Bool) → Same keys actors (crashing.trap_by keys c y).keys actors
  trap_by_lem c (Some true) = set_row keys actors TRAPPED blank_row (high_row TRAPPED (omega arith))
  trap_by_lem c (Some false) = same_both keys actors
  trap_by_lem c None = same_both keys actors

  pub trap_same : (c : Cursor) (r : Reply) → Same keys actors (trap_reply keys c r).keys actors
  unfolding trap_reply
  trap_same c r = trap_by_lem c (yes_in r)

  trapped_by_lem : (c : Cursor) (k : ℕ) (y : Option Bool) → Same keys actors (crashing.trapped_by keys c k y).keys actors
  trapped_by_lem c k (Some true) = push_row keys actors TRAPPED k (high_row TRAPPED (omega arith))
  trapped_by_lem c k (Some false) = same_both keys actors
  trapped_by_lem c k None = same_both keys actors

  pub trapped_same : (c : Cursor) (k : ℕ) (r : Reply) → Same keys actors (trapped_reply keys c k r).keys actors
  unfolding trapped_reply
  trapped_same c k r = trapped_by_lem c k (yes_in r)

wake_first_same : (keys actors : Table) (g clock left : ℕ) (k : Option ℕ)
    → Same keys actors (waking.wake_first (keyed keys actors) g clock left k).keys
    (waking.wake_first (keyed keys actors) g clock left k
    ).actors
wake_first_same keys actors g clock left (Some k) =
    same_then (set_row keys actors REST _ (high_row REST (omega arith)))
    (one_same (set keys REST (pop_front (keys_at keys REST))) actors g k clock (left - 1))
wake_first_same keys actors g clock left None = same_both keys actors

pub wake_next_same : (keys actors : Table) (g clock left : ℕ)
    → Same keys actors (wake_next (keyed keys actors) g clock left).keys
    (wake_next (keyed keys actors) g clock left).actors
unfolding wake_next
wake_next_same keys actors g clock left =
    pick_rule (λ (s : Waked). Same keys actors s.keys s.actors) (eqb left 0) (λ e. same_both keys actors)
    (λ e. wake_first_same keys actors g clock left (front_of (keys_at keys REST)))

-- ---- a step begins

-- lives, and a point that fits
pub record Stands (a : At) (t keys actors : Table) : Type 0 where
  pub lives : Lives t keys actors
  pub ok : AtLives a t keys actors

pub fixed_after_lives : (t keys actors : Table) (c : Cursor) (n : FixedNext) → Lively keys c → IsFixed actors c
    → FixedNextHands c n t
    → AtLives (fixed_after c n) t keys actors
fixed_after_lives t keys actors c (fixed.Asks a) live is h = ((live, is), h)
fixed_after_lives t keys actors c (fixed.Ended s) live is h = h

pub eval_after_lives : (t keys actors : Table) (c : Cursor) (n : EvalNext) → Lively keys c → EvalNextHands c n t
    → AtLives (eval_after c n) t keys actors
eval_after_lives t keys actors c (eval.Asks a) live h = (live, h)
eval_after_lives t keys actors c (eval.Ended p) live h = h

module _ (t keys : Table) (good : Good t) (h : step_hand t ≤ 0) (q : ℕ) where
  abbrev StepStands : Stepping → Type 0
  StepStands s = Stands s.begun.at s.links keys s.actors

  fixed_begins : (actors : Table) → Lives t keys actors → (c : Cursor) → Lively keys c
      → (actor_at actors (slot_on c)).mode ≡ mode.Fixed
      → StepStands (starting.fixed_begun t q (starting.begin_fixed actors c (slot_on c)))
  unfolding starting.begin_fixed fixed_start
  fixed_begins actors l c live is = record {
    lives = same_lives started l;
    ok = pick_rule (λ (a : FixedAsk). AskLives (asks.Fixed c a) t keys (put_actor actors (slot_on c)
        (started_as (actor_at actors (slot_on c))))) (actor_at actors (slot_on c)).started
        (λ e. ((live, started.modes (slot_on c) ∙ is), h)) (λ e. ((live, started.modes (slot_on c) ∙ is), h));
  }
    where
      started : Same keys actors keys (put_actor actors (slot_on c) (started_as (actor_at actors (slot_on c))))
      started = put_same keys actors (slot_on c) (started_as (actor_at actors (slot_on c))) refl refl

  eval_starts : (actors : Table) → Lives t keys actors → (c : Cursor) → Lively keys c → (actor_at actors (slot_on c)).mode
      ≡ mode.Eval
      → StepStands (starting.begin_eval t actors c (slot_on c) q)
  unfolding starting.begin_eval
  eval_starts actors l c live is =
      let begun = eval_begins t t keys actors good l c live is q h in
      record {
        lives = begun.lives;
        ok = eval_after_lives _ keys _ c (eval_start t actors (slot_on c) q).step.next
            live begun.hands;
      }

  step_begins : (actors : Table) → Lives t keys actors → (c : Cursor) → Lively keys c
      → StepStands (starting.begin_step t actors c (slot_on c) q)
  unfolding starting.begin_step
  step_begins actors l c live = go (actor_at actors (slot_on c)).mode refl
    where
      began : Same keys actors keys (put_actor actors (slot_on c) (began_step (actor_at actors (slot_on c))))
      began = put_same keys actors (slot_on c) (began_step (actor_at actors (slot_on c))) refl refl

      go : (m : Mode) → (actor_at actors (slot_on c)).mode ≡ m
          → StepStands (starting.begin_by (mailed t q)
          (put_actor actors (slot_on c) (began_step (actor_at actors (slot_on c)))) c (slot_on c) m)
      go mode.Fixed e = fixed_begins _ (same_lives began l) c live (began.modes (slot_on c) ∙ e)
      go mode.Eval e = eval_starts _ (same_lives began l) c live (began.modes (slot_on c) ∙ e)

  ready_key_lem : (actors : Table) → Lives t keys actors → (c : Cursor) (stepped : Bool)
      → StepStands (starting.ready_key (readying t keys actors q stepped) c)
  unfolding starting.ready_key
  ready_key_lem actors l c stepped =
      pick_rule StepStands (live_of keys c.group c.key)
      (λ live. pick_rule StepStands (starting.rests_of (actor_at actors (slot_on c)) (len_of t (mailbox_of (slot_on c))))
      (λ e. record { lives = same_lives unscheduled l; ok = h })
      (λ e. step_begins _ (same_lives unscheduled l) c live))
      (λ e. record { lives = l; ok = h })
    where
      unscheduled : Same keys actors keys (starting.unscheduled actors (slot_on c))
      unscheduled = put_same keys actors (slot_on c) (scheduled_as (actor_at actors (slot_on c)) false) refl refl

module _ (t keys actors : Table) (good : Good t) (l : Lives t keys actors) (h : step_hand t ≤ 0) (q : ℕ)
    (stepped : Bool) (g clock pops : ℕ) where
  abbrev ReadyStands : Readied → Type 0
  ReadyStands s = Stands s.begun.at s.links s.keys s.actors

  ready_front_lem : (k : Option ℕ) → ReadyStands (starting.ready_front (readying t keys actors q stepped) g clock pops k)
  ready_front_lem (Some k) =
      ready_key_lem t (starting.pop_ready keys g) good h q actors
      (same_lives (set_row keys actors (ready_row g) _ (ready_row_lem g)) l) (starting.cursor_at g k clock (pops - 1))
      stepped
  ready_front_lem None = record { lives = l; ok = h }

  pub ready_stands : ReadyStands (ready_of (readying t keys actors q stepped) g clock pops)
  unfolding ready_of
  ready_stands = pick_rule ReadyStands (eqb pops 0) (λ e. record { lives = l; ok = h })
      (λ e. ready_front_lem (front_of (keys_at keys (ready_row g))))

-- ---- a step ends

pub step_end_lives : (t keys actors : Table) (c : Cursor) (e : End) → EndHands c e t → AtLives (step_end c e) t keys
    actors
step_end_lives t keys actors c (end.Fixed s) h = h
step_end_lives t keys actors c (end.Eval p) h = h

-- the mailbox of an actor that leaves its group
pub record Emptied (t r : Table) (g k : ℕ) : Type 0 where
  pub less : Less t r
  pub mail : Slot g k → mail_len r g k ≡ 0

no_mail : (r : Table) (g k : ℕ) → mailbox r (16 * g + k) ≡ [] → mail_len r g k ≡ 0
no_mail r g k none = sym (length_view r (6 + 2 * (16 * g + k))) ∙ ap length none

back_empties : (t : Table) → Good t → (g k : ℕ) → Emptied t (move_all t (mailbox_of (slot_at g k)) PENDING) g k
back_empties t good g k = record {
  less = all_less t good (mailbox_of (slot_at g k)) PENDING (omega arith);
  mail = λ S. rw S.is (no_mail _ g k (empty_out_lem (16 * g + k) (omega (arith, S.group, S.key)) t good PENDING
      (omega arith)).mail);
}

over_empties : (t rows : Table) → Good t → (g k : ℕ)
    → Emptied t (over_all t rows (mailbox_of (slot_at g k)) (len_of t (mailbox_of (slot_at g k)))) g k
over_empties t rows good g k = record {
  less = over_all_less (len_of t (mailbox_of (slot_at g k))) t rows good (mailbox_of (slot_at g k));
  mail = λ S. rw S.is (no_mail _ g k (unread (16 * g + k) (omega (arith, S.group, S.key)) t rows good).mail);
}

go_empties : (t rows : Table) → Good t → (g k : ℕ) (consumed : Bool) (q : ℕ)
    → Emptied t (settling.leftover_of t rows (slot_at g k) consumed q).links g k
unfolding settling.leftover_of
go_empties t rows good g k true q = back_empties t good g k
go_empties t rows good g k false q = over_empties t rows good g k

module _ (t rows keys actors : Table) (good : Good t) (l : Lives t keys actors) (c : Cursor) (q : ℕ) where
  abbrev SettleStands : settling.Settling → Type 0
  SettleStands s = Stands s.settled.at s.links s.keys s.actors

  leftover : Emptied t (settling.leftover_of t rows (slot_on c) (actor_at actors (slot_on c)).consumed q).links
      c.group
      c.key
  leftover = go_empties t rows good c.group c.key (actor_at actors (slot_on c)).consumed q

  release_lives : hand_len t c.group c.key ≤ 0
      → Lives (settling.release_of rows (turn_tables t keys actors q) c).links
      (settling.release_of rows (turn_tables t keys actors q) c).keys actors
  unfolding settling.release_of
  release_lives empty =
      remove_lives _ keys actors (less_lives t _ keys actors leftover.less l) c.group c.key
      (λ S. (
        leftover.mail S,
        omega (
          arith,
          less_at t _ leftover.less (7 + 2 * (16 * c.group + c.key))
              (omega arith),
        ),
      ))

  release_hand : (n : ℕ) → step_hand t ≤ n
      → step_hand (settling.release_of rows (turn_tables t keys actors q) c).links ≤ n
  unfolding settling.release_of
  release_hand n h = omega (arith, less_at t _ leftover.less 5 (omega arith))

  park_same : (p : Parked) → Same keys actors (settling.park_at keys actors c p).keys (settling.park_at keys actors c p
      ).actors
  unfolding settling.park_at settling.block_at settling.yield_at
  park_same parked.Waiting = push_row keys actors (idle_row c.group) c.key (idle_row_lem c.group)
  park_same (parked.Blocked until) =
      same_then (push_row keys actors (waiting_row c.group) c.key (waiting_row_lem c.group))
      (put_same _ actors (slot_on c) (blocked_to (actor_at actors (slot_on c)) until) refl refl)
  park_same parked.Yield = put_schedule keys actors c.group c.key (yielded_as (actor_at actors (slot_on c))) refl
      refl

  pub settle_stands : (s : Step) → StepHands c s t → SettleStands (settle_of rows (turn_tables t keys actors q) c s)
  unfolding settle_of
  settle_stands step.Done h = record { lives = release_lives h.1; ok = release_hand 0 h.0 }
  settle_stands (step.Parked p) h = record { lives = same_lives (park_same p) l; ok = h }
  settle_stands step.Failed h = record { lives = release_lives h.1; ok = release_hand 1 h.0 }

-- ---- a message crashed

pub record Crashes (t r : Table) (from : ℕ) : Type 0 where
  pub less : Less t r
  pub left : 5 ≤ from → from < LISTS → len_of r from ≡ len_of t from - 1

module _ (groups t rows : Table) (good : Good t) (g from dead : ℕ) where
  entry_crashes : (e : ℕ) → Crashes t (crashing.crashed_entry groups (dying t rows dead) g from e).links from
  unfolding crashing.crashed_entry
  entry_crashes e =
      pick_rule (λ (d : Dying). Crashes t d.links from) (ltb (message_at rows e).attempts (group_at groups g).retry)
      (λ b. record {
        less = first_less t good from PENDING (omega arith);
        left = λ high is. first_left t good from
            PENDING high is (omega arith);
      })
      (λ b. record { less = over_less t rows good from; left = λ high is. over_left t rows good from high is })

  pub first_crashes : Crashes t (crashing.handle_crash groups (dying t rows dead) g from).links from
  unfolding crashing.handle_crash
  first_crashes =
      pick_rule (λ (f : Option ℕ). Crashes t (crashing.crashed_found groups (dying t rows dead) g from f).links from)
      (eqb (len_of t from) 0)
      (λ e. record { less = less_same t; left = λ high is. omega (arith, eqb-true (len_of t from) 0 e) })
      (λ e. entry_crashes (head_of t from))

pub crash_lives : (groups t rows keys actors : Table) → Good t → Lives t keys actors → (c : Cursor) (x : Losses)
    → Lives (crash_of groups t rows c x).links keys actors
unfolding crash_of
crash_lives groups t rows keys actors good l c x = less_lives t _ keys actors (first_crashes groups t rows good
    c.group HAND x.dead).less l

pub crash_hand : (groups t rows : Table) → Good t → step_hand t ≤ 1 → (c : Cursor) (x : Losses)
    → step_hand (crash_of groups t rows c x).links ≤ 0
unfolding crash_of
crash_hand groups t rows good h c x = omega (
  arith,
  (first_crashes groups t rows good c.group HAND x.dead).left
      (omega arith) (omega arith),
)

-- ---- those that were trapped are retired

module _ (groups t rows keys actors : Table) (good : Good t) (l : Lives t keys actors) (h : step_hand t ≤ 0)
    (c : Cursor) (left q : ℕ) (x : Losses) where
  abbrev TrappedStands : Crashing → Type 0
  TrappedStands s = Lives s.links s.keys actors × (step_hand s.links ≤ 0)

  crash_trapped_key_lem : (names : Table) → Lives t names actors → (k n : ℕ)
      → TrappedStands (crashing.crash_trapped_key groups (retiring t rows names q x) c k n)
  unfolding crashing.crash_trapped_key
  crash_trapped_key_lem names ln k n = (
    remove_lives _ names actors (less_lives t _ names actors less ln) c.group k
        (λ S. (
          omega (arith, back.mail S, less_at _ _ crash.less (6 + 2 * (16 * c.group + k)) (omega arith)),
          held S,
        )),
    omega (arith, less_at t _ less 5 (omega arith)),
  )
    where
      mailed : Table
      mailed = crashing.mail_back t (slot_at c.group k)

      back : Emptied t mailed c.group k
      back = back_empties t good c.group k

      crash : Crashes mailed
          (crashing.handle_crash groups (dying mailed rows x.dead) c.group (hand_of (slot_at c.group k))).links
          (hand_of (slot_at c.group k))
      crash = first_crashes groups mailed rows (move_all_good t good (mailbox_of (slot_at c.group k)) PENDING)
          c.group (hand_of (slot_at c.group k)) x.dead

      less : Less t (crashing.handle_crash groups (dying mailed rows x.dead) c.group
          (hand_of (slot_at c.group k))
          ).links
      less = less_then t mailed _ back.less crash.less

      held : Slot c.group k
          → hand_len (crashing.handle_crash groups (dying mailed rows x.dead) c.group
          (hand_of (slot_at c.group k))).links c.group k ≡ 0
      held S =
          omega (
            arith,
            subst (λ j. len_of (crashing.handle_crash groups (dying mailed rows x.dead) c.group
                (hand_of (slot_at c.group k))).links j ≡ len_of mailed j - 1) S.hand
                (crash.left (omega (arith, S.hand)) (omega (arith, S.hand, S.group, S.key))),
            less_at t mailed back.less (7 + 2 * (16 * c.group + k)) (omega arith),
            l.one c.group k S.group S.key,
          )

  crash_trapped_front_lem : (k : Option ℕ)
      → TrappedStands (crashing.crash_trapped_front groups (retiring t rows keys q x) c left k)
  crash_trapped_front_lem (Some k) = crash_trapped_key_lem (set keys TRAPPED (pop_front (keys_at keys TRAPPED)))
      (same_lives (set_row keys actors TRAPPED _ (high_row TRAPPED (omega arith))) l) k (left - 1)
  crash_trapped_front_lem None = (l, h)

  pub crash_trapped_stands : TrappedStands (crash_trapped groups (retiring t rows keys q x) c left)
  unfolding crash_trapped
  crash_trapped_stands =
      pick_rule TrappedStands (eqb left 0) (λ e. (l, h)) (λ e. crash_trapped_front_lem (front_of (keys_at keys TRAPPED)))
