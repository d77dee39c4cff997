-- What keeps the invariant of who holds messages: lists that get shorter, keys and actors that change elsewhere, a
-- spawn, a key that is freed. Assumes nothing.
use Rattle.std.specs.Prelude.{Option, Some, None}
use Rattle.message_log.specs.declared.LogId.{LogId}
use mathlib.Core.Path.{◌≡◌, refl, sym, ap, ◌∙◌, subst}
use mathlib.Core.Bool.{Bool, true, false, ◌&&◌}
use mathlib.Core.Logic.{◌≢◌}
use mathlib.Core.List.{List}
use Prim.Native.Nat.{ℕ, zero, suc, ◌+◌, ◌*◌, ◌-◌, ◌≤◌, ◌<◌}
use native.Mathlib.Omega.{arith}
use native.Mathlib.Decide.{ℕ_discrete, dec_lt}
use borrow.Author.Tests.{lt-ltb, le-ltb, ltb-true, leb-false}
use lib.Dec.{ltb, leb}
use lib.ListN.{length, set, take, drop, length-set, length-append, length-drop, take-append-drop}
use lib.Seq.{get_or-set_same, get_or-set_other, set_out}
use Rattle.lists.specs.Links.{pick, LISTS, Table, len_of, first_of, move_first, move_all, mailbox_of, hand_of}
use Rattle.lists.specs.Family.{view, Good, Pair, Moved, MovedAll}
use Rattle.lists.specs.KeyLists.{blank_row, keys_at}
use Rattle.lists.specs.Slabs as slab
use Rattle.lists.specs.Slabs.{contains_of, vacant_of, insert_of, remove_of}
use Rattle.lists.proofs.Family.{length_view}
use Rattle.lists.proofs.Moves.{move_first_lem, move_all_lem, move_first_good}
use Rattle.lists.proofs.Slabs.{Inserted, inserted_live, Removed, removed_dead, live_given}
use Rattle.actor.specs.declared.state.Actor.{Actor}
use Rattle.actor.specs.declared.state.Mode.TheVariants as mode
use Rattle.actor.specs.Questions.{slot_of}
use Rattle.actor.specs.Messages.{message_at}
use Rattle.actor.specs.Actors.{actor_at, put_actor, new_actor, scheduled_as, has_run}
use Rattle.actor.proofs.Back.{actor_put, actor_other}
use Rattle.steps.specs.declared.step.Step.{Step}
use Rattle.steps.specs.declared.step.Step.TheVariants as step
use Rattle.steps.specs.declared.step.End.{End}
use Rattle.steps.specs.declared.step.End.TheVariants as end
use Rattle.steps.specs.declared.fixed.FixedAsk.{FixedAsk}
use Rattle.steps.specs.declared.fixed.FixedAsk.TheVariants as fixed
use Rattle.steps.specs.declared.eval.EvalAsk.{EvalAsk}
use Rattle.steps.specs.declared.eval.EvalAsk.TheVariants as eval
use Rattle.steps.specs.Steps.{place_logged, place_over, over_first}
use Rattle.points.specs.declared.at.At.{At}
use Rattle.points.specs.declared.at.At.TheVariants as at
use Rattle.points.specs.declared.at.Ask.{Ask}
use Rattle.points.specs.declared.at.Ask.TheVariants as asks
use Rattle.points.specs.declared.at.Point.{Point}
use Rattle.points.specs.declared.at.Point.TheVariants as point
use Rattle.points.specs.declared.at.Cursor.{Cursor}
use Rattle.group.specs.Roster.{ROWS, slab_row, ready_row, idle_row, waiting_row, slot_at, push_key, live_of, Keyed}
use Rattle.group.specs.Roster.{schedule_of, Spawned, mode_for, spawn_key, spawn_by, spawn_of, over_all}
use Rattle.tick.specs.Settle.{retire_key}
use Rattle.theorem.proofs.Through.{mailbox_is, first_rule, all_rule}
use Rattle.theorem.proofs.PlaceMoves.{hand_is}
use Rattle.theorem.proofs.Steps.{pick_rule}
use Rattle.theorem.proofs.Operations.{low_slot}
use Rattle.theorem.specs.Living.{mail_len, hand_len, step_hand, given, Lives, StepHands, EndHands, FixedHands}
use Rattle.theorem.specs.Living.{EvalHands, PointLives, AskLives, AtLives}

-- ---- slots

pub record Slot (g k : ℕ) : Type 0 where
  pub group : g < 8
  pub key : k < 16
  pub is : slot_at g k ≡ 16 * g + k
  pub mail : mailbox_of (slot_at g k) ≡ 6 + 2 * (16 * g + k)
  pub hand : hand_of (slot_at g k) ≡ 7 + 2 * (16 * g + k)

slot_number_lem : (g k : ℕ) → slot_at g k < 128 → ((g < 8) × (k < 16)) × (slot_at g k ≡ 16 * g + k)
unfolding slot_of
slot_number_lem g k low = go (leb 8 g) refl (leb 16 k) refl
  where
    go : (a : Bool) → leb 8 g ≡ a → (b : Bool) → leb 16 k ≡ b → ((g < 8) × (k < 16)) × (slot_at g k ≡ 16 * g + k)
    go true e b f = absurd (omega (arith, rw e at low))
    go false e true f = absurd (omega (arith, rw (e, f) at low))
    go false e false f = ((leb-false 8 g e, leb-false 16 k f), rw (e, f))

pub slot_is : (g k : ℕ) → slot_at g k < 128 → Slot g k
slot_is g k low =
    let n = slot_number_lem g k low in
    record {
      group = n.0.0;
      key = n.0.1;
      is = n.1;
      mail = mailbox_is (slot_at g k) low ∙ ap (λ s. 6 + 2 * s) n.1;
      hand = hand_is (slot_at g k) low ∙ ap (λ s. 7 + 2 * s) n.1;
    }

slab_row_lem : (g : ℕ) → g < 8 → slab_row g ≡ 4 * g
slab_row_lem g low = rw (lt-ltb g 8 low)

slab_past : (g : ℕ) → (g < 8 → ⊥) → slab_row g ≡ 34
slab_past g out = rw (le-ltb g 8 (omega arith))

-- an actor that lives has a slot, and its key is given
live_both : (a b : Bool) → (a && b) ≡ true → (a ≡ true) × (b ≡ true)
live_both true b e = (refl, e)
live_both false b e = let z : ◌≡◌ {A = ℕ} 0 1 = cc in absurd (omega arith)

pub live_slot : (keys : Table) (g k : ℕ) → live_of keys g k ≡ true → Slot g k
unfolding live_of
live_slot keys g k live = slot_is g k (ltb-true (slot_at g k) 128 (live_both (ltb (slot_at g k) 128)
    (contains_of (keys_at keys (slab_row g)) k) live).0)

pub live_given_key : (keys : Table) (g k : ℕ) → live_of keys g k ≡ true → given keys g k ≡ true
unfolding live_of
live_given_key keys g k live =
    let s = live_slot keys g k live in
    subst (λ row. contains_of (keys_at keys row) k ≡ true) (slab_row_lem g s.group) (live_both (ltb (slot_at g k) 128)
    (contains_of (keys_at keys (slab_row g)) k) live).1

-- ---- lists that get shorter

-- the step's hand, the mailboxes and the hands are no longer than they were
pub Less : Table → Table → Type 0
Less t r = (j : ℕ) → 5 ≤ j → len_of r j ≤ len_of t j

pub less_same : (t : Table) → Less t t
unfolding Less
less_same t j low = omega arith

pub less_then : (t r u : Table) → Less t r → Less r u → Less t u
unfolding Less
less_then t r u a b j low = omega (arith, a j low, b j low)

pub less_at : (t r : Table) → Less t r → (j : ℕ) → 5 ≤ j → len_of r j ≤ len_of t j
unfolding Less
less_at t r less j low = less j low

-- the first of a list is taken off it
pub record FirstLens (t r : Table) (from to : ℕ) : Type 0 where
  pub left : len_of r from ≡ len_of t from - 1
  pub joined : len_of r to ≤ len_of t to + 1
  pub others : (j : ℕ) → j ≢ from → j ≢ to → len_of r j ≡ len_of t j

take_one_len : (xs : List ℕ) → length (take 1 xs) ≤ 1
take_one_len xs = omega (
  arith,
  length-append (take 1 xs) (drop 1 xs),
  ap length (take-append-drop 1 xs),
  length-drop 1 xs,
)

pub first_lens : {t : Table} {from to : ℕ} → Pair t from to → FirstLens t (move_first t from to) from to
first_lens {t = t} {from = from} {to = to} pair =
    let m : Moved t from to 1 (move_first t from to) = move_first_lem pair in
    record {
      left = omega (
        arith,
        length_view (move_first t from to) from,
        length_view t from,
        ap length m.left,
        length-drop 1 (view t from),
      );
      joined = omega (
        arith,
        length_view (move_first t from to) to,
        length_view t to,
        ap length m.joined,
        length-append (view t to) (take 1 (view t from)),
        take_one_len (view t from),
      );
      others = λ j p q. omega (
        arith,
        length_view (move_first t from to) j,
        length_view t j,
        ap length (m.others j p q),
      );
    }

pub first_less : (t : Table) → Good t → (from to : ℕ) → to < 5 → Less t (move_first t from to)
unfolding Less
first_less t good from to low = first_rule t good from to (λ (r : Table). Less t r) (less_same t)
    (λ pair. λ j high. go pair j high (ℕ_discrete j from))
  where
    go : Pair t from to → (j : ℕ) → 5 ≤ j → Dec (j ≡ from) → len_of (move_first t from to) j ≤ len_of t j
    go pair j high (yes p) = rw p (omega (arith, (first_lens pair).left))
    go pair j high (no p) = omega (arith, (first_lens pair).others j p (λ z. omega arith))

pub all_less : (t : Table) → Good t → (from to : ℕ) → to < 5 → Less t (move_all t from to)
unfolding Less
all_less t good from to low = all_rule t good from to (λ (r : Table). Less t r) (less_same t)
    (λ pair. λ j high. go pair (move_all_lem pair) j high (ℕ_discrete j from))
  where
    go : Pair t from to → MovedAll t from to (move_all t from to) → (j : ℕ) → 5 ≤ j → Dec (j ≡ from)
        → len_of (move_all t from to) j ≤ len_of t j
    go pair m j high (yes p) = rw p (omega (arith, length_view (move_all t from to) from, ap length m.left))
    go pair m j high (no p) = omega (
      arith,
      length_view (move_all t from to) j,
      length_view t j,
      ap length (m.others j p (λ z. omega arith)),
    )

over_place : (rows : Table) (f : Option ℕ) → place_over rows f < 5
unfolding place_over
over_place rows (Some e) = go (message_at rows e).id
  where
    go : (l : Option LogId) → place_logged l < 5
    go (Some id) = omega arith
    go None = omega arith
over_place rows None = omega arith

pub over_less : (t rows : Table) → Good t → (from : ℕ) → Less t (over_first t rows from)
unfolding over_first
over_less t rows good from = first_less t good from (place_over rows (first_of t from))
    (over_place rows (first_of t from))

pub over_good : (t rows : Table) → Good t → (from : ℕ) → Good (over_first t rows from)
unfolding over_first
over_good t rows good from = move_first_good t good from (place_over rows (first_of t from))

-- the first of a mailbox or a hand is over, or goes back to pending
pub first_left : (t : Table) → Good t → (from to : ℕ) → 5 ≤ from → from < LISTS → to < 5 → len_of (move_first t from to)
    from ≡ len_of t from - 1
first_left t good from to high is low = (first_lens {t = t} {from = from} {to = to} (record {
  good = good;
  from_is = is;
  to_is = omega arith;
  apart = λ e. omega arith;
})).left

pub over_left : (t rows : Table) → Good t → (from : ℕ) → 5 ≤ from → from < LISTS → len_of (over_first t rows from) from
    ≡ len_of t from - 1
unfolding over_first
over_left t rows good from high is = first_left t good from (place_over rows (first_of t from)) high is
    (over_place rows (first_of t from))

pub over_all_less : (n : ℕ) (t rows : Table) → Good t → (from : ℕ) → Less t (over_all t rows from n)
unfolding over_all
over_all_less zero t rows good from = less_same t
over_all_less (suc n) t rows good from =
    less_then t (over_first t rows from) _ (over_less t rows good from) (over_all_less n (over_first t rows from) rows
    (over_good t rows good from) from)

-- ---- what shorter lists keep

pub less_lives : (t r keys actors : Table) → Less t r → Lives t keys actors → Lives r keys actors
unfolding Less
less_lives t r keys actors less l = record {
  keys_are = l.keys_are;
  actors_are = l.actors_are;
  slabs = l.slabs;
  dead = λ g k g-is k-is d.
      let was = l.dead g k g-is k-is d in (
        omega (arith, was.0, less (6 + 2 * (16 * g + k)) (omega arith)),
        omega (arith, was.1, less (7 + 2 * (16 * g + k)) (omega arith)),
      );
  one = λ g k g-is k-is. omega (arith, l.one g k g-is k-is, less (7 + 2 * (16 * g + k)) (omega arith));
  runs = λ g k g-is k-is m n. omega (arith, l.runs g k g-is k-is m n, less (7 + 2 * (16 * g + k)) (omega arith));
}

module _ (t r : Table) (less : Less t r) where
  pub less_hand : (n : ℕ) → step_hand t ≤ n → step_hand r ≤ n
  less_hand n h = omega (arith, less_at t r less 5 (omega arith))

  less_held : (c : Cursor) → hand_len t c.group c.key ≤ 0 → hand_len r c.group c.key ≤ 0
  less_held c h = omega (arith, less_at t r less (7 + 2 * (16 * c.group + c.key)) (omega arith))

  step_less : (c : Cursor) (s : Step) → StepHands c s t → StepHands c s r
  step_less c step.Done (a, b) = (less_hand 0 a, less_held c b)
  step_less c (step.Parked p) a = less_hand 0 a
  step_less c step.Failed (a, b) = (less_hand 1 a, less_held c b)

  end_less : (c : Cursor) (e : End) → EndHands c e t → EndHands c e r
  end_less c (end.Fixed s) h = step_less c s h
  end_less c (end.Eval p) h = less_hand 0 h

  fixed_less : (c : Cursor) (a : FixedAsk) → FixedHands c a t → FixedHands c a r
  fixed_less c (fixed.Run start) h = less_hand 0 h
  fixed_less c fixed.Drain (a, b) = (less_hand 0 a, less_held c b)
  fixed_less c fixed.Push (a, b) = (less_hand 1 a, less_held c b)
  fixed_less c fixed.Dispatch h = less_hand 0 h

  eval_less : (c : Cursor) (a : EvalAsk) → EvalHands c a t → EvalHands c a r
  eval_less c eval.Clock h = less_hand 0 h
  eval_less c eval.Boot (a, b) = (less_hand 1 a, less_held c b)
  eval_less c eval.StartClock (a, b) = (less_hand 1 a, less_held c b)
  eval_less c (eval.Run start) h = less_hand 0 h
  eval_less c eval.Dispatch h = less_hand 0 h
  eval_less c (eval.Tell o) h = less_hand 1 h

  ask_less : (keys actors : Table) (a : Ask) → AskLives a t keys actors → AskLives a r keys actors
  ask_less keys actors (asks.SeedBoot g) h = less_hand 0 h
  ask_less keys actors (asks.RouteBoot g left) h = less_hand 0 h
  ask_less keys actors asks.TickClock h = less_hand 0 h
  ask_less keys actors (asks.WakePoll g k clock left) h = less_hand 0 h
  ask_less keys actors (asks.Fixed c a) (h, i) = (h, fixed_less c a i)
  ask_less keys actors (asks.Eval c a) (h, i) = (h, eval_less c a i)
  ask_less keys actors (asks.Sends c s) h = step_less c s h
  ask_less keys actors (asks.Trap c) h = less_hand 0 h
  ask_less keys actors (asks.Trapped c k) h = less_hand 0 h

  pub point_less : (p : Point) → PointLives p t → PointLives p r
  point_less (point.Seed g) h = less_hand 0 h
  point_less (point.Intake left) h = less_hand 0 h
  point_less (point.Route left) h = less_hand 0 h
  point_less (point.Wake g clock) h = less_hand 0 h
  point_less (point.WakeNext g clock left) h = less_hand 0 h
  point_less (point.Ready g clock pops) h = less_hand 0 h
  point_less (point.StepEnd c e) h = end_less c e h
  point_less (point.Settle c s) h = step_less c s h
  point_less (point.Crash c) h = less_hand 1 h
  point_less (point.AskTrap c) h = less_hand 0 h
  point_less (point.CrashTrapped c left) h = less_hand 0 h

  pub at_less : (keys actors : Table) (a : At) → AtLives a t keys actors → AtLives a r keys actors
  at_less keys actors at.Rest h = less_hand 0 h
  at_less keys actors (at.Asks a) h = ask_less keys actors a h
  at_less keys actors (at.Runs p) h = point_less p h

-- ---- keys and actors that change elsewhere

pub record Same (keys actors keys' actors' : Table) : Type 0 where
  pub keys_long : length keys' ≡ length keys
  pub actors_long : length actors' ≡ length actors
  pub slabs : (g : ℕ) → g < 8 → keys_at keys' (4 * g) ≡ keys_at keys (4 * g)
  pub modes : (slot : ℕ) → (actor_at actors' slot).mode ≡ (actor_at actors slot).mode
  pub runs : (slot : ℕ) → (actor_at actors' slot).run ≡ (actor_at actors slot).run

pub same_both : (keys actors : Table) → Same keys actors keys actors
same_both keys actors = record {
  keys_long = refl;
  actors_long = refl;
  slabs = λ g g-is. refl;
  modes = λ s. refl;
  runs = λ s. refl;
}

pub same_then : {keys actors keys₁ actors₁ keys₂ actors₂ : Table} → Same keys actors keys₁ actors₁
    → Same keys₁ actors₁ keys₂ actors₂ → Same keys actors keys₂ actors₂
same_then a b = record {
  keys_long = b.keys_long ∙ a.keys_long;
  actors_long = b.actors_long ∙ a.actors_long;
  slabs = λ g g-is. b.slabs g g-is ∙ a.slabs g g-is;
  modes = λ s. b.modes s ∙ a.modes s;
  runs = λ s. b.runs s ∙ a.runs s;
}

pub same_lives : {t keys actors keys' actors' : Table} → Same keys actors keys' actors' → Lives t keys actors
    → Lives t keys' actors'
same_lives s l = record {
  keys_are = s.keys_long ∙ l.keys_are;
  actors_are = s.actors_long ∙ l.actors_are;
  slabs = λ g g-is. rw (s.slabs g g-is) (l.slabs g g-is);
  dead = λ g k g-is k-is d. l.dead g k g-is k-is (rw (s.slabs g g-is) at d);
  one = l.one;
  runs = λ g k g-is k-is m n. l.runs g k g-is k-is (rw (s.modes (16 * g + k)) at m) (rw (s.runs (16 * g + k)) at n);
}

-- a row that is no slab
pub AsideRow : ℕ → Type 0
AsideRow row = (g : ℕ) → g < 8 → 4 * g ≢ row

pub set_row : (keys actors : Table) (row : ℕ) (x : List ℕ) → AsideRow row → Same keys actors (set keys row x) actors
unfolding AsideRow
set_row keys actors row x aside = record {
  keys_long = simp length-set;
  actors_long = refl;
  slabs = λ g g-is. get_or-set_other keys row (4 * g) x blank_row (aside g g-is);
  modes = λ s. refl;
  runs = λ s. refl;
}

module _ (g : ℕ) where
  row_by : (n : ℕ) → 0 < n → n < 4 → (b : Bool) → AsideRow (pick b (4 * g + n) ROWS)
  unfolding AsideRow
  row_by n some few true h h-is e = omega arith
  row_by n some few false h h-is e = omega arith

  pub ready_row_lem : AsideRow (ready_row g)
  ready_row_lem = row_by 1 (omega arith) (omega arith) (ltb g 8)

  pub idle_row_lem : AsideRow (idle_row g)
  idle_row_lem = row_by 2 (omega arith) (omega arith) (ltb g 8)

  pub waiting_row_lem : AsideRow (waiting_row g)
  waiting_row_lem = row_by 3 (omega arith) (omega arith) (ltb g 8)

pub high_row : (row : ℕ) → 32 ≤ row → AsideRow row
unfolding AsideRow
high_row row high g g-is e = omega arith

pub push_row : (keys actors : Table) (row k : ℕ) → AsideRow row → Same keys actors (push_key keys row k) actors
unfolding push_key
push_row keys actors row k aside = set_row keys actors row _ aside

-- an actor of the same mode and with the same run
pub put_same : (keys actors : Table) (slot : ℕ) (a : Actor) → a.mode ≡ (actor_at actors slot).mode → a.run
    ≡ (actor_at actors slot).run → Same keys actors keys (put_actor actors slot a)
unfolding put_actor
put_same keys actors slot a m r = record {
  keys_long = refl;
  actors_long = simp length-set;
  slabs = λ g g-is. refl;
  modes = λ s. modes s (ℕ_discrete s slot) (dec_lt slot (length actors));
  runs = λ s. runs s (ℕ_discrete s slot) (dec_lt slot (length actors));
}
  where
    modes : (s : ℕ) → Dec (s ≡ slot) → Dec (slot < length actors) → (actor_at (put_actor actors slot a) s).mode
        ≡ (actor_at actors s).mode
    modes s (no other) d = ap (λ x. x.mode) (actor_other actors slot a s other)
    modes s (yes here) (yes in-it) = rw here (ap (λ x. x.mode) (actor_put actors slot a in-it) ∙ m)
    modes s (yes here) (no out) = ap (λ l. (actor_at l s).mode) (set_out actors slot _ (omega arith))

    runs : (s : ℕ) → Dec (s ≡ slot) → Dec (slot < length actors) → (actor_at (put_actor actors slot a) s).run
        ≡ (actor_at actors s).run
    runs s (no other) d = ap (λ x. x.run) (actor_other actors slot a s other)
    runs s (yes here) (yes in-it) = rw here (ap (λ x. x.run) (actor_put actors slot a in-it) ∙ r)
    runs s (yes here) (no out) = ap (λ l. (actor_at l s).run) (set_out actors slot _ (omega arith))

pub schedule_same : (keys actors : Table) (g k : ℕ) → Same keys actors (schedule_of keys actors g k).keys
    (schedule_of keys actors g k).actors
unfolding schedule_of
schedule_same keys actors g k =
    pick_rule Kept (live_of keys g k)
    (λ e. pick_rule Kept (actor_at actors (slot_at g k)).scheduled (λ e. same_both keys actors)
    (λ e. same_then (push_row keys actors (ready_row g) k (ready_row_lem g)) (put_same _ actors (slot_at g k)
    (scheduled_as (actor_at actors (slot_at g k)) true) refl refl)))
    (λ e. same_both keys actors)
  where
    Kept : Keyed → Type 0
    Kept s = Same keys actors s.keys s.actors

-- put, then queued to run
pub put_schedule : (keys actors : Table) (g k : ℕ) (a : Actor) → a.mode ≡ (actor_at actors (slot_at g k)).mode → a.run
    ≡ (actor_at actors (slot_at g k)).run
    → Same keys actors (schedule_of keys (put_actor actors (slot_at g k) a) g k).keys
    (schedule_of keys (put_actor actors (slot_at g k) a) g k).actors
put_schedule keys actors g k a m r = same_then (put_same keys actors (slot_at g k) a m r)
    (schedule_same keys (put_actor actors (slot_at g k) a) g k)

-- who lives lives on
pub same_live : {keys actors keys' actors' : Table} → Same keys actors keys' actors' → (g k : ℕ) → live_of keys g k
    ≡ true → live_of keys' g k ≡ true
unfolding live_of
same_live {keys = keys} {keys' = keys'} s g k live =
    let slot = live_slot keys g k live in
    let row : keys_at keys' (slab_row g) ≡ keys_at keys (slab_row g) = rw (slab_row_lem g slot.group)
    (s.slabs g slot.group) in
    rw row live

-- ---- the slot of a living actor changes

pub record Changes (t r actors actors' : Table) (g k : ℕ) : Type 0 where
  pub actors_long : length actors' ≡ length actors
  pub others : (j : ℕ) → 6 ≤ j → j ≢ 6 + 2 * (16 * g + k) → j ≢ 7 + 2 * (16 * g + k) → len_of r j ≤ len_of t j
  pub modes : (slot : ℕ) → slot ≢ 16 * g + k → (actor_at actors' slot).mode ≡ (actor_at actors slot).mode
  pub runs : (slot : ℕ) → slot ≢ 16 * g + k → (actor_at actors' slot).run ≡ (actor_at actors slot).run
  pub one : hand_len r g k ≤ 1
  pub idle : (actor_at actors' (16 * g + k)).mode ≡ mode.Eval → has_run (actor_at actors' (16 * g + k)).run ≡ false
      → hand_len r g k ≡ 0

never : false ≡ true → ⊥
never e = let z : ◌≡◌ {A = ℕ} 0 1 = cc in omega arith

same_pair : (g k h i : ℕ) → k < 16 → i < 16 → 16 * h + i ≡ 16 * g + k → (h ≡ g) × (i ≡ k)
same_pair g k h i k-is i_is e = (omega arith, omega arith)

pub changes_lives : {t r keys actors actors' : Table} (g k : ℕ) → g < 8 → k < 16 → given keys g k ≡ true
    → Changes t r actors actors' g k → Lives t keys actors → Lives r keys actors'
changes_lives {t = t} {r = r} {keys = keys} {actors = actors} {actors' = actors'} g k g-is k-is live c l = record {
  keys_are = l.keys_are;
  actors_are = c.actors_long ∙ l.actors_are;
  slabs = l.slabs;
  dead = λ h i h-is i_is d. dead h i h-is i_is d (ℕ_discrete (16 * h + i) (16 * g + k));
  one = λ h i h-is i_is. one h i h-is i_is (ℕ_discrete (16 * h + i) (16 * g + k));
  runs = λ h i h-is i_is m n. runs h i h-is i_is m n (ℕ_discrete (16 * h + i) (16 * g + k));
}
  where
    dead : (h i : ℕ) → h < 8 → i < 16 → given keys h i ≡ false → Dec (16 * h + i ≡ 16 * g + k) → (mail_len r h i ≡ 0)
        × (hand_len r h i ≡ 0)
    dead h i h-is i_is d (yes p) =
        let q = same_pair g k h i k-is i_is p in
        absurd (never (sym (rw (q.0, q.1) at d) ∙ live))
    dead h i h-is i_is d (no p) =
        let was = l.dead h i h-is i_is d in (
          omega (
            arith,
            was.0,
            c.others (6 + 2 * (16 * h + i)) (omega arith) (λ e. p (omega arith))
                (λ e. omega arith),
          ),
          omega (
            arith,
            was.1,
            c.others (7 + 2 * (16 * h + i)) (omega arith) (λ e. omega arith)
                (λ e. p (omega arith)),
          ),
        )

    one : (h i : ℕ) → h < 8 → i < 16 → Dec (16 * h + i ≡ 16 * g + k) → hand_len r h i ≤ 1
    one h i h-is i_is (yes p) = rw p c.one
    one h i h-is i_is (no p) = omega (
      arith,
      l.one h i h-is i_is,
      c.others (7 + 2 * (16 * h + i)) (omega arith)
          (λ e. omega arith) (λ e. p (omega arith)),
    )

    runs : (h i : ℕ) → h < 8 → i < 16 → (actor_at actors' (16 * h + i)).mode ≡ mode.Eval
        → has_run (actor_at actors' (16 * h + i)).run ≡ false → Dec (16 * h + i ≡ 16 * g + k) → hand_len r h i ≡ 0
    runs h i h-is i_is m n (yes p) = rw p (c.idle (rw p at m) (rw p at n))
    runs h i h-is i_is m n (no p) =
        omega (
          arith,
          l.runs h i h-is i_is (rw (c.modes (16 * h + i) p) at m) (rw (c.runs (16 * h + i) p) at n),
          c.others (7 + 2 * (16 * h + i)) (omega arith) (λ e. omega arith) (λ e. p (omega arith)),
        )

-- ---- an actor is spawned

pub record SpawnLives (t : Table) (g : ℕ) (s : Spawned) : Type 0 where
  pub lives : Lives t s.keys s.actors
  pub live : (k : ℕ) → s.key ≡ Some k → slot_at g k < 128 → live_of s.keys g k ≡ true

-- the row of a group's slab changes for one key
module _ (t keys actors : Table) (l : Lives t keys actors) (g : ℕ) (g-is : g < 8) (k : ℕ) where
  abbrev old : List ℕ
  old = keys_at keys (4 * g)

  abbrev with_row : List ℕ → Table
  with_row x = set keys (4 * g) x

  row_here : (x : List ℕ) → keys_at (with_row x) (4 * g) ≡ x
  row_here x = get_or-set_same keys (4 * g) x blank_row (omega (arith, l.keys_are))

  row_there : (x : List ℕ) (h : ℕ) → h ≢ g → keys_at (with_row x) (4 * h) ≡ keys_at keys (4 * h)
  row_there x h other = get_or-set_other keys (4 * g) (4 * h) x blank_row (λ e. other (omega arith))

  row_slabs : (x : List ℕ) → slab.SlabSound x → (h : ℕ) → h < 8 → slab.SlabSound (keys_at (with_row x) (4 * h))
  row_slabs x sound h h-is = go (ℕ_discrete h g)
    where
      go : Dec (h ≡ g) → slab.SlabSound (keys_at (with_row x) (4 * h))
      go (yes p) = rw (p, row_here x) sound
      go (no p) = rw (row_there x h p) (l.slabs h h-is)

  -- who is not there now was not there, but for that key
  row_dead : (x : List ℕ) → ((j : ℕ) → j ≢ k → contains_of x j ≡ contains_of old j) → (h i : ℕ) → given (with_row x) h i
      ≡ false → ((h ≡ g) × (i ≡ k) → ⊥) → given keys h i ≡ false
  row_dead x same h i d other = go (ℕ_discrete h g)
    where
      go : Dec (h ≡ g) → given keys h i ≡ false
      go (yes p) = rw p (sym (same i (λ e. other (p, e))) ∙ (rw (p, row_here x) at d))
      go (no p) = rw (row_there x h p) at d

  -- the actor of this key is a new one
  inserted_lives : (a : Actor) → has_run a.run ≡ false → slab.SlabSound old → Inserted old k
      → Lives t (with_row (insert_of old)) (put_actor actors (16 * g + k) a)
  unfolding put_actor
  inserted_lives a none sound i = record {
    keys_are = simp length-set l.keys_are;
    actors_are = simp length-set l.actors_are;
    slabs = row_slabs (insert_of old) i.sound;
    dead = λ h j h-is j_is d. l.dead h j h-is j_is (row_dead (insert_of old) i.others h j d
        (λ e. never (sym (rw (e.0, e.1, row_here (insert_of old)) at d) ∙ i.live)));
    one = l.one;
    runs = λ h j h-is j_is m n. runs h j h-is j_is m n (ℕ_discrete (16 * h + j) (16 * g + k));
  }
    where
      empty : hand_len t g k ≡ 0
      empty = (l.dead g k g-is i.low i.was_free).1

      runs : (h j : ℕ) → h < 8 → j < 16 → (actor_at (put_actor actors (16 * g + k) a) (16 * h + j)).mode ≡ mode.Eval
          → has_run (actor_at (put_actor actors (16 * g + k) a) (16 * h + j)).run ≡ false → Dec (16 * h + j ≡ 16 * g + k)
          → hand_len t h j ≡ 0
      runs h j h-is j_is m n (yes p) = rw p empty
      runs h j h-is j_is m n (no p) =
          l.runs h j h-is j_is (rw (actor_other actors (16 * g + k) a (16 * h + j) p) at m)
          (rw (actor_other actors (16 * g + k) a (16 * h + j) p) at n)

  -- its key is free, where it holds nothing
  removed_lives : (mail_len t g k ≡ 0) × (hand_len t g k ≡ 0) → Lives t (with_row (remove_of old k)) actors
  unfolding remove_of
  removed_lives empty = go (contains_of old k) refl
    where
      go : (b : Bool) → contains_of old k ≡ b → Lives t (with_row (remove_of old k)) actors
      go true e = record {
        keys_are = simp length-set l.keys_are;
        actors_are = l.actors_are;
        slabs = row_slabs (remove_of old k) gone.sound;
        dead = λ h j h-is j_is d. dead h j h-is j_is d (ℕ_discrete (16 * h + j) (16 * g + k));
        one = l.one;
        runs = l.runs;
      }
        where
          gone : Removed old k
          gone = removed_dead old (l.slabs g g-is) k e

          low : k < 16
          low = omega (arith, (live_given old k e).0, (l.slabs g g-is).few)

          dead : (h j : ℕ) → h < 8 → j < 16 → given (with_row (remove_of old k)) h j ≡ false
              → Dec (16 * h + j ≡ 16 * g + k) → (mail_len t h j ≡ 0) × (hand_len t h j ≡ 0)
          dead h j h-is j_is d (yes p) = rw p empty
          dead h j h-is j_is d (no p) = l.dead h j h-is j_is (row_dead (remove_of old k) gone.others h j d
              (λ q. p (rw (q.0, q.1))))
      go false e = rw e (record {
        keys_are = simp length-set l.keys_are;
        actors_are = l.actors_are;
        slabs = row_slabs old (l.slabs g g-is);
        dead = λ h j h-is j_is d. l.dead h j h-is j_is (kept h j d (ℕ_discrete h g));
        one = l.one;
        runs = l.runs;
      })
        where
          kept : (h j : ℕ) → given (with_row old) h j ≡ false → Dec (h ≡ g) → given keys h j ≡ false
          kept h j d (yes p) = rw p (rw (p, row_here old) at d)
          kept h j d (no p) = rw (row_there old h p) at d

past_slot : (g k : ℕ) → (g < 8 → ⊥) → slot_at g k ≡ 128
unfolding slot_of
past_slot g k out = go (dec_lt (slot_at g k) 128)
  where
    go : Dec (slot_at g k < 128) → slot_at g k ≡ 128
    go (yes p) = absurd (out (slot_is g k p).group)
    go (no p) = by (leb 8 g) refl
      where
        by : (b : Bool) → leb 8 g ≡ b → slot_at g k ≡ 128
        by true e = rw e
        by false e = absurd (out (leb-false 8 g e))

live_here : (keys : Table) (g k : ℕ) → g < 8 → k < 16 → given keys g k ≡ true → live_of keys g k ≡ true
unfolding live_of
live_here keys g k g-is k-is is = rw (low_slot g k g-is k-is, lt-ltb (16 * g + k) 128 (omega arith), slab_row_lem g g-is)
    is

module _ (t keys actors : Table) (l : Lives t keys actors) (g : ℕ) (eval-is : Bool) where
  abbrev fresh : Actor
  fresh = new_actor (mode_for eval-is)

  spawn_in : g < 8 → (k : ℕ) → vacant_of (keys_at keys (slab_row g)) ≡ Some k
      → SpawnLives t g (spawn_by keys actors g eval-is (Some k))
  unfolding spawn_key
  spawn_in g-is k gives = record {
    lives = same_lives after (rw (slab_row_lem g g-is, low_slot g k g-is new.low) (inserted_lives t keys actors l g g-is
        k fresh refl (l.slabs g g-is) new));
    live = λ j is low. same_live after g j (rw (sym (told k j is)) here);
  }
    where
      new : Inserted (keys_at keys (4 * g)) k
      new = inserted_live (keys_at keys (4 * g)) (l.slabs g g-is) k (rw (slab_row_lem g g-is) at gives)

      keys₁ : Table
      keys₁ = set keys (slab_row g) (insert_of (keys_at keys (slab_row g)))

      actors₁ : Table
      actors₁ = put_actor actors (slot_at g k) fresh

      after : Same keys₁ actors₁ (schedule_of keys₁ actors₁ g k).keys (schedule_of keys₁ actors₁ g k).actors
      after = schedule_same keys₁ actors₁ g k

      told : (a b : ℕ) → ◌≡◌ {A = (Option ℕ)} (Some a) (Some b) → a ≡ b
      told a b e = cc

      here : live_of keys₁ g k ≡ true
      here = live_here keys₁ g k g-is new.low (rw (
        slab_row_lem g g-is,
        row_here t keys actors l g g-is k
            (insert_of (keys_at keys (4 * g))),
      ) new.live)

  spawn_out : (g < 8 → ⊥) → (k : ℕ) → SpawnLives t g (spawn_by keys actors g eval-is (Some k))
  unfolding spawn_key put_actor
  spawn_out out k = record {
    lives = same_lives (same_then (same_then rows puts) (schedule_same keys₁ actors₁ g k)) l;
    live = λ j is low. absurd (out (slot_is g j low).group);
  }
    where
      keys₁ : Table
      keys₁ = set keys (slab_row g) (insert_of (keys_at keys (slab_row g)))

      actors₁ : Table
      actors₁ = put_actor actors (slot_at g k) fresh

      rows : Same keys actors keys₁ actors
      rows = set_row keys actors (slab_row g) _ (rw (slab_past g out) (high_row 34 (omega arith)))

      puts : Same keys₁ actors keys₁ actors₁
      puts = subst (λ x. Same keys₁ actors keys₁ x)
          (sym (set_out actors (slot_at g k) _ (omega (arith, past_slot g k out, l.actors_are))))
          (same_both keys₁ actors)

  pub spawn_lives : SpawnLives t g (spawn_of keys actors g eval-is)
  unfolding spawn_of
  spawn_lives = go (vacant_of (keys_at keys (slab_row g))) refl
    where
      go : (k : Option ℕ) → vacant_of (keys_at keys (slab_row g)) ≡ k → SpawnLives t g (spawn_by keys actors g eval-is k)
      go (Some k) is = by (dec_lt g 8)
        where
          by : Dec (g < 8) → SpawnLives t g (spawn_by keys actors g eval-is (Some k))
          by (yes p) = spawn_in p k is
          by (no p) = spawn_out p k
      go None is = record { lives = l; live = λ j e low. none j e }
        where
          none : (j : ℕ) → ◌≡◌ {A = (Option ℕ)} None (Some j) → live_of keys g j ≡ true
          none j e = let z : ◌≡◌ {A = ℕ} 0 1 = cc in absurd (omega arith)

-- a key is freed whose slot, where there is one, is empty
pub remove_lives : (t keys actors : Table) → Lives t keys actors → (g k : ℕ) → (Slot g k → (mail_len t g k ≡ 0)
    × (hand_len t g k ≡ 0)) → Lives t (retire_key keys g k) actors
unfolding retire_key remove_of
remove_lives t keys actors l g k empty = go (dec_lt g 8) (dec_lt k 16)
  where
    go : Dec (g < 8) → Dec (k < 16) → Lives t (set keys (slab_row g) (remove_of (keys_at keys (slab_row g)) k)) actors
    go (yes p) (yes q) = rw (slab_row_lem g p) (removed_lives t keys actors l g p k
        (empty (slot_is g k (omega (arith, low_slot g k p q)))))
    go (yes p) (no q) = rw (slab_row_lem g p) (absent (contains_of (keys_at keys (4 * g)) k) refl)
      where
        absent : (b : Bool) → contains_of (keys_at keys (4 * g)) k ≡ b
            → Lives t (set keys (4 * g) (remove_of (keys_at keys (4 * g)) k)) actors
        absent true e = absurd (omega (arith, (live_given (keys_at keys (4 * g)) k e).0, (l.slabs g p).few))
        absent false e = rw e (unchanged t keys actors l g p)
          where
            unchanged : (t keys actors : Table) → Lives t keys actors → (g : ℕ) → g < 8
                → Lives t (set keys (4 * g) (keys_at keys (4 * g))) actors
            unchanged t keys actors l g p = same_lives (record {
              keys_long = simp length-set;
              actors_long = refl;
              slabs = λ h h-is. kept h (ℕ_discrete h g);
              modes = λ s. refl;
              runs = λ s. refl;
            }) l
              where
                kept : (h : ℕ) → Dec (h ≡ g) → keys_at (set keys (4 * g) (keys_at keys (4 * g))) (4 * h)
                    ≡ keys_at keys (4 * h)
                kept h (yes e) = rw e (get_or-set_same keys (4 * g) (keys_at keys (4 * g)) blank_row
                    (omega (arith, l.keys_are)))
                kept h (no e) = get_or-set_other keys (4 * g) (4 * h) (keys_at keys (4 * g)) blank_row
                    (λ z. e (omega arith))
    go (no p) d = same_lives (set_row keys actors (slab_row g) _ (rw (slab_past g p) (high_row 34 (omega arith)))) l
