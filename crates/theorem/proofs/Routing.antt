-- Seeding, taking in and routing keep every message in a place, and lead to no step of an actor. Assumes nothing.
use Rattle.std.specs.Prelude.{Option, Some, None, Bool, true, false}
use mathlib.Core.Bool.{Bool, true, false}
use mathlib.Core.List.{List}
use Prim.Native.Nat.{ℕ, ◌+◌, ◌-◌}
use native.Mathlib.Omega.{arith}
use lib.Dec.{eqb, ltb, leb}
use Rattle.lists.specs.Links.{Table, len_of, capped, first_of, move_first, INBOX, PENDING, BATCH}
use Rattle.actor.specs.declared.question.Reply.{Reply}
use Rattle.actor.specs.Questions.{yes_in}
use Rattle.actor.specs.Messages.{message_at}
use Rattle.points.specs.declared.at.At.TheVariants as at
use Rattle.points.specs.declared.at.Ask.TheVariants as asks
use Rattle.points.specs.declared.at.Point.TheVariants as point
use Rattle.group.specs.Settings.{group_at, by_name}
use Rattle.group.specs.Roster.{slot_at, live_len, spawn_of, pop_idle_of, least_of}
use Rattle.route.specs.Seed.{Seeded, seed_of, seed_booted, seed_by, seed_reply}
use Rattle.route.specs.Intake.{Linked, batch_of, intake_of}
use Rattle.route.specs.Batch as to
use Rattle.route.specs.Batch.{RoutedTables, route_of, route_reply}
use Rattle.theorem.specs.Places.{Sound, Keeps}
use Rattle.theorem.proofs.PlaceMoves.{not_mailbox_inbox, not_mailbox_pending, not_mailbox_batch, same_keeps}
use Rattle.theorem.proofs.PlaceMoves.{move_keeps, move_all_keeps}
use Rattle.theorem.proofs.PlaceMoves.{over_keeps, to_mailbox}
use Rattle.theorem.proofs.Steps.{pick_rule}
use Rattle.theorem.specs.Keeping.{BetweenSteps}
use Rattle.group.specs.Roster.{turn_tables}
use Rattle.route.specs.Batch.{programs}

-- ---- the first turn's spawns

abbrev SeededBetween : Seeded → Type 0
SeededBetween s = BetweenSteps s.at

pub seed_between : (groups : Table) (count : ℕ) (keys actors : Table) (g : ℕ)
    → BetweenSteps (seed_of groups count keys actors g).at
unfolding seed_of
seed_between groups count keys actors g =
    pick_rule SeededBetween (leb count g) (λ e. omega arith)
    (λ e. pick_rule SeededBetween (leb 8 g) (λ e. omega arith)
    (λ e. pick_rule SeededBetween (eqb (group_at groups g).ceiling 0) (λ e. omega arith)
    (λ e. pick_rule SeededBetween (group_at groups g).eval (λ e. omega arith) (λ e. omega arith))))

booted_between : (keys actors : Table) (g : ℕ) (b : Bool) → BetweenSteps (seed_booted keys actors g b).at
unfolding seed_booted
booted_between keys actors g true = omega arith
booted_between keys actors g false = omega arith

seed_by_between : (keys actors : Table) (g : ℕ) (y : Option Bool) → BetweenSteps (seed_by keys actors g y).at
seed_by_between keys actors g (Some true) = booted_between keys actors g true
seed_by_between keys actors g (Some false) = booted_between keys actors g false
seed_by_between keys actors g None = omega arith

pub seed_reply_between : (keys actors : Table) (g : ℕ) (r : Reply) → BetweenSteps (seed_reply keys actors g r).at
unfolding seed_reply
seed_reply_between keys actors g r = seed_by_between keys actors g (yes_in r)

-- ---- the inbox is taken in

-- what holds of the batch and of one message more holds of the intake
pub intake_rule : (t : Table) (q backlog left : ℕ) (P : Linked → Type 0) → P (batch_of t)
    → P (record { links = move_first t INBOX PENDING; at = at.Runs (point.Intake (left - 1)) })
    → P (intake_of t q backlog left)
unfolding intake_of
intake_rule t q backlog left P batch more =
    pick_rule P (eqb left 0) (λ e. batch)
    (λ e. pick_rule P (leb backlog (capped (len_of t PENDING + q))) (λ e. batch)
    (λ e. pick_rule P (eqb (len_of t INBOX) 0) (λ e. batch) (λ e. more)))

batch_keeps : (t rows : Table) (q : ℕ) → Sound t rows q → Keeps t rows (batch_of t).links rows q
unfolding batch_of
batch_keeps t rows q sound = move_all_keeps t rows q sound PENDING BATCH not_mailbox_pending not_mailbox_batch

batch_between : (t : Table) → BetweenSteps (batch_of t).at
unfolding batch_of
batch_between t = omega arith

pub intake_keeps : (t rows : Table) (q backlog left : ℕ) → Sound t rows q
    → Keeps t rows (intake_of t q backlog left).links rows q
intake_keeps t rows q backlog left sound =
    intake_rule t q backlog left (λ (s : Linked). Keeps t rows s.links rows q) (batch_keeps t rows q sound)
    (move_keeps t rows q sound INBOX PENDING not_mailbox_inbox not_mailbox_pending)

pub intake_between : (t : Table) (q backlog left : ℕ) → BetweenSteps (intake_of t q backlog left).at
intake_between t q backlog left =
    intake_rule t q backlog left (λ (s : Linked). BetweenSteps s.at) (batch_between t) (omega arith)

-- ---- the batch is routed

-- a message is over, or delivered, or Boot is asked for it, or none is left
pub record Routes (t rows : Table) (q left : ℕ) (P : RoutedTables → Type 0) : Type 0 where
  pub over : (keys actors : Table) → P (to.lost_to (to.undeliverable t rows left) (turn_tables t keys actors q))
  pub sent : (keys actors : Table) (g k : ℕ) → P (to.deliver (turn_tables t keys actors q) g k left)
  pub asks : (keys actors : Table) (g : ℕ) → P (record {
    links = t;
    keys = keys;
    actors = actors;
    routed =
        to.routed_to (at.Asks (asks.RouteBoot g left)) q;
  })
  pub done : (keys actors : Table) → P (to.clock_next (turn_tables t keys actors q))

-- what holds of these four holds of every way through routing
module _ (t rows : Table) (q left : ℕ) (P : RoutedTables → Type 0) (ways : Routes t rows q left P) where
  by_key : (keys actors : Table) (g : ℕ) (k : Option ℕ) → P (to.deliver_key rows (turn_tables t keys actors q) g k left)
  unfolding to.deliver_key
  by_key keys actors g (Some k) = ways.sent keys actors g k
  by_key keys actors g None = ways.over keys actors

  by_least : (keys actors : Table) (g : ℕ) → P (to.route_least rows (turn_tables t keys actors q) g left)
  unfolding to.route_least
  by_least keys actors g = by_key keys actors g (least_of keys t g)

  by_spawned : (g : ℕ) (keys actors : Table) (k : Option ℕ) → P (to.spawned_sent rows (turn_tables t keys actors q) g left k)
  by_spawned g keys actors (Some k) = ways.sent keys actors g k
  by_spawned g keys actors None = by_least keys actors g

  by_spawn : (keys actors : Table) (g : ℕ) (eval : Bool)
      → P (to.route_spawned rows (turn_tables t keys actors q) g eval left)
  unfolding to.route_spawned
  by_spawn keys actors g eval = let s = spawn_of keys actors g eval in by_spawned g s.keys s.actors s.key

  by_new : (groups keys actors : Table) (g : ℕ) → P (to.route_new groups rows (turn_tables t keys actors q) g left)
  unfolding to.route_new
  by_new groups keys actors g =
      pick_rule P (ltb (live_len keys g) (group_at groups g).ceiling)
      (λ e. pick_rule P (group_at groups g).eval (λ e. by_spawn keys actors g true) (λ e. ways.asks keys actors g))
      (λ e. by_least keys actors g)

  by_idle : (groups keys actors : Table) (g : ℕ) (k : Option ℕ)
      → P (to.idle_else (turn_tables t keys actors q) g left k
      (to.route_new groups rows (turn_tables t keys actors q) g left))
  by_idle groups keys actors g (Some k) = ways.sent keys actors g k
  by_idle groups keys actors g None = by_new groups keys actors g

  by_group : (groups keys actors : Table) (g : ℕ) → P (to.pick_of groups rows (turn_tables t keys actors q) g left)
  unfolding to.pick_of
  by_group groups keys actors g = by_idle groups (pop_idle_of keys actors g).keys actors g (pop_idle_of keys actors g
      ).key

  by_named : (groups keys actors : Table) (n : Option ℕ)
      → P (to.route_named groups rows (turn_tables t keys actors q) left n)
  by_named groups keys actors (Some g) = by_group groups keys actors g
  by_named groups keys actors None = ways.over keys actors

  by_first : (groups : Table) (count : ℕ) (store : List ℕ) (keys actors : Table) (f : Option ℕ)
      → P (to.route_first (programs groups count store) rows (turn_tables t keys actors q) left f)
  unfolding to.route_one
  by_first groups count store keys actors (Some e) = by_named groups keys actors (by_name groups store e
      (message_at rows e).name_len count)
  by_first groups count store keys actors None = ways.done keys actors

  pub route_rule : (groups : Table) (count : ℕ) (store : List ℕ) (keys actors : Table)
      → P (route_of (programs groups count store) rows (turn_tables t keys actors q) left)
  unfolding to.route_of
  route_rule groups count store keys actors =
      pick_rule P (eqb left 0) (λ e. ways.done keys actors) (λ e. by_first groups count store keys actors
      (first_of t BATCH))

  by_boot : (keys actors : Table) (g : ℕ) (b : Bool) → P (to.route_booted rows (turn_tables t keys actors q) g left b)
  unfolding to.route_booted
  by_boot keys actors g true = by_spawn keys actors g false
  by_boot keys actors g false = by_least keys actors g

  by_reply : (keys actors : Table) (g : ℕ) (y : Option Bool) → P (to.route_by rows (turn_tables t keys actors q) g left y)
  by_reply keys actors g (Some true) = by_boot keys actors g true
  by_reply keys actors g (Some false) = by_boot keys actors g false
  by_reply keys actors g None = ways.asks keys actors g

  pub reply_rule : (keys actors : Table) (g : ℕ) (r : Reply)
      → P (route_reply rows (turn_tables t keys actors q) g left r)
  unfolding to.route_reply
  reply_rule keys actors g r = by_reply keys actors g (yes_in r)

abbrev SentKeeps : Table → Table → RoutedTables → Type 0
SentKeeps t rows s = Keeps t rows s.links rows s.routed.queued

abbrev SentBetween : RoutedTables → Type 0
SentBetween s = BetweenSteps s.routed.at

ways_keep : (t rows : Table) (q left : ℕ) → Sound t rows q → Routes t rows q left (SentKeeps t rows)
unfolding to.undeliverable to.deliver to.deliver_to
ways_keep t rows q left sound =
    record {
      over = λ keys actors. over_keeps t rows q sound BATCH not_mailbox_batch;
      sent = λ keys actors g k. to_mailbox t rows q sound BATCH (slot_at g k) not_mailbox_batch;
      asks = λ keys actors g. same_keeps t rows q sound;
      done = λ keys actors. same_keeps t rows q sound;
    }

ways_between : (t rows : Table) (q left : ℕ) → Routes t rows q left SentBetween
unfolding to.undeliverable to.deliver
ways_between t rows q left =
    record {
      over = λ keys actors. omega arith;
      sent = λ keys actors g k. omega arith;
      asks = λ keys actors g. omega
          arith;
      done = λ keys actors. omega arith;
    }

pub route_keeps : (groups : Table) (count : ℕ) (store : List ℕ) (t rows keys actors : Table) (q left : ℕ)
    → Sound t rows q
    → Keeps t rows (route_of (programs groups count store) rows (turn_tables t keys actors q) left).links rows
    (route_of (programs groups count store) rows (turn_tables t keys actors q) left).routed.queued
route_keeps groups count store t rows keys actors q left sound = route_rule t rows q left (SentKeeps t rows)
    (ways_keep t rows q left sound) groups count store keys actors

pub route_between : (groups : Table) (count : ℕ) (store : List ℕ) (t rows keys actors : Table) (q left : ℕ)
    → BetweenSteps (route_of (programs groups count store) rows (turn_tables t keys actors q) left).routed.at
route_between groups count store t rows keys actors q left =
    route_rule t rows q left SentBetween (ways_between t rows q left) groups count store keys actors

pub route_reply_keeps : (t rows keys actors : Table) (g q left : ℕ) (r : Reply) → Sound t rows q
    → Keeps t rows (route_reply rows (turn_tables t keys actors q) g left r).links rows
    (route_reply rows (turn_tables t keys actors q) g left r
    ).routed.queued
route_reply_keeps t rows keys actors g q left r sound = reply_rule t rows q left (SentKeeps t rows)
    (ways_keep t rows q left sound) keys actors g r

pub route_reply_between : (t rows keys actors : Table) (g q left : ℕ) (r : Reply)
    → BetweenSteps (route_reply rows (turn_tables t keys actors q) g left r).routed.at
route_reply_between t rows keys actors g q left r =
    reply_rule t rows q left SentBetween (ways_between t rows q left) keys actors g r
