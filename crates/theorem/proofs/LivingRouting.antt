-- Seeding, taking in and routing keep the invariant of who holds messages. Assumes nothing.
use Rattle.std.specs.Prelude.{Option, Some, None, Bool, true, false}
use mathlib.Core.Path.{◌≡◌, refl, ◌∙◌}
use mathlib.Core.Bool.{Bool, true, false}
use mathlib.Core.List.{List}
use Prim.Native.Nat.{ℕ, zero, suc, ◌+◌, ◌*◌, ◌≤◌, ◌<◌}
use native.Mathlib.Omega.{arith}
use native.Mathlib.Decide.{dec_lt}
use borrow.Author.Tests.{lt-ltb}
use lib.Dec.{eqb, ltb, leb}
use Rattle.lists.specs.Links.{pick, LISTS, Table, len_of, capped, first_of, move_first, mailbox_of, INBOX, PENDING, BATCH}
use Rattle.lists.specs.Family.{Good, Pair}
use Rattle.lists.specs.KeyLists.{keys_at, last_of, pop_end, count_of}
use Rattle.lists.specs.Slabs.{contains_of}
use Rattle.actor.specs.declared.question.Reply.{Reply}
use Rattle.actor.specs.Questions.{yes_in}
use Rattle.actor.specs.Messages.{message_at}
use Rattle.actor.specs.Actors.{actor_at, delivered_to}
use Rattle.group.specs.Settings.{group_at, by_name}
use Rattle.group.specs.Roster.{slab_row, idle_row, slot_at, live_of, live_len, spawn_of, pop_idle_of, Popped, pop_idle_row}
use Rattle.group.specs.Roster.{idle_key}
use Rattle.group.specs.Roster.{least_of, least_from, better_of, load_of}
use Rattle.route.specs.Seed.{Seeded, seed_of, seed_booted, seed_by, seed_reply}
use Rattle.route.specs.Intake.{Linked, batch_of, intake_of}
use Rattle.route.specs.Batch as to
use Rattle.route.specs.Batch.{RoutedTables, route_of, route_reply}
use Rattle.theorem.proofs.Through.{mailbox_past, first_rule}
use Rattle.theorem.proofs.Steps.{pick_rule}
use Rattle.theorem.specs.Living.{hand_len, step_hand, Lives}
use Rattle.theorem.proofs.Living.{Slot, live_slot, live_given_key, Less, less_at, less_lives, first_less}
use Rattle.theorem.proofs.Living.{all_less, over_less, FirstLens, first_lens, Same, same_lives, same_live}
use Rattle.theorem.proofs.Living.{set_row, idle_row_lem, put_schedule, changes_lives, spawn_lives}
use Rattle.group.specs.Roster.{turn_tables}
use Rattle.route.specs.Batch.{programs}

-- ---- the first turn's spawns

module _ (t keys actors : Table) (l : Lives t keys actors) where
  abbrev Seeds : Seeded → Type 0
  Seeds s = Lives t s.keys s.actors

  pub seed_lives : (groups : Table) (count g : ℕ) → Seeds (seed_of groups count keys actors g)
  unfolding seed_of
  seed_lives groups count g =
      pick_rule Seeds (leb count g) (λ e. l)
      (λ e. pick_rule Seeds (leb 8 g) (λ e. l)
      (λ e. pick_rule Seeds (eqb (group_at groups g).ceiling 0) (λ e. l)
      (λ e. pick_rule Seeds (group_at groups g).eval (λ e. (spawn_lives t keys actors l g true).lives) (λ e. l))))

  booted_lives : (g : ℕ) (b : Bool) → Seeds (seed_booted keys actors g b)
  unfolding seed_booted
  booted_lives g true = (spawn_lives t keys actors l g false).lives
  booted_lives g false = l

  by_seed : (g : ℕ) (y : Option Bool) → Seeds (seed_by keys actors g y)
  by_seed g (Some true) = booted_lives g true
  by_seed g (Some false) = booted_lives g false
  by_seed g None = l

  pub seed_reply_lives : (g : ℕ) (r : Reply) → Seeds (seed_reply keys actors g r)
  unfolding seed_reply
  seed_reply_lives g r = by_seed g (yes_in r)

-- ---- the inbox is taken in

batch_less : (t : Table) → Good t → Less t (batch_of t).links
unfolding batch_of
batch_less t good = all_less t good PENDING BATCH (omega arith)

pub intake_less : (t : Table) → Good t → (q backlog left : ℕ) → Less t (intake_of t q backlog left).links
unfolding intake_of
intake_less t good q backlog left =
    pick_rule P (eqb left 0) (λ e. batch_less t good)
    (λ e. pick_rule P (leb backlog (capped (len_of t PENDING + q))) (λ e. batch_less t good)
    (λ e. pick_rule P (eqb (len_of t INBOX) 0) (λ e. batch_less t good) (λ e. first_less t good INBOX PENDING
    (omega arith))))
  where
    P : Linked → Type 0
    P s = Less t s.links

-- ---- keys that are there

abbrev In : List ℕ → Option ℕ → Type 0
In s (Some k) = contains_of s k ≡ true
In s None = 0 ≤ 0

better_in : (s : List ℕ) (t : Table) (g : ℕ) (best : Option ℕ) (k : ℕ) → In s best → contains_of s k ≡ true
    → In s (better_of t g best k)
unfolding better_of
better_in s t g (Some b) k was is = pick_rule (In s) (ltb (load_of t g k) (load_of t g b)) (λ e. is) (λ e. was)
better_in s t g None k was is = is

least_in : (s : List ℕ) (t : Table) (g n k : ℕ) (best : Option ℕ) → In s best → In s (least_from s (better_of t g) n k best)
unfolding least_from
least_in s t g zero k best was = was
least_in s t g (suc n) k best was =
    least_in s t g n (k + 1) (pick (contains_of s k) (better_of t g best k) best) (pick_rule (In s) (contains_of s k)
    (λ e. better_in s t g best k was e) (λ e. was))

live_in : (keys : Table) (g k : ℕ) → contains_of (keys_at keys (slab_row g)) k ≡ true → slot_at g k < 128 → live_of keys g k
    ≡ true
unfolding live_of
live_in keys g k is low = rw (lt-ltb (slot_at g k) 128 low) is

-- a key whose actor lives, if it has a slot
abbrev Goes : Table → ℕ → Option ℕ → Type 0
Goes keys g (Some k) = slot_at g k < 128 → live_of keys g k ≡ true
Goes keys g None = 0 ≤ 0

in_goes : (keys : Table) (g : ℕ) (k : Option ℕ) → In (keys_at keys (slab_row g)) k → Goes keys g k
in_goes keys g (Some k) is = live_in keys g k is
in_goes keys g None is = is

least_goes : (keys t : Table) (g : ℕ) → Goes keys g (least_of keys t g)
unfolding least_of
least_goes keys t g = in_goes keys g (least_from (keys_at keys (slab_row g)) (better_of t g) 16 0 None)
    (least_in (keys_at keys (slab_row g)) t g 16 0 None (omega arith))

idle_live : (keys actors : Table) (g k : ℕ) → idle_key keys actors g k ≡ true → live_of keys g k ≡ true
unfolding idle_key
idle_live keys actors g k e = go (live_of keys g k) refl
  where
    go : (b : Bool) → live_of keys g k ≡ b → live_of keys g k ≡ true
    go true f = f
    go false f = let z : ◌≡◌ {A = ℕ} 0 1 = cc in absurd (omega arith)

pop_goes : (keys actors : Table) (g n : ℕ) (row : List ℕ) → Goes keys g (pop_idle_row keys actors g n row).key
unfolding pop_idle_row
pop_goes keys actors g zero row = omega arith
pop_goes keys actors g (suc n) row = go (last_of row) refl (pop_goes keys actors g n (pop_end row))
  where
    go : (k : Option ℕ) → last_of row ≡ k → Goes keys g (pop_idle_row keys actors g n (pop_end row)).key
        → Goes keys g (pop_idle_row keys actors g (suc n) row).key
    go (Some k) e later =
        rw (e, pop_idle_row) (pick_rule (λ (p : Popped). Goes keys g p.key) (idle_key keys actors g k)
        (λ f. λ low. idle_live keys actors g k f) (λ f. later))
    go None e later = rw (e, pop_idle_row) later

goes_same : {keys actors keys' actors' : Table} → Same keys actors keys' actors' → (g : ℕ) (k : Option ℕ) → Goes keys g k
    → Goes keys' g k
goes_same s g (Some k) goes = λ low. same_live s g k (goes low)
goes_same s g None goes = goes

idle_same : (keys actors : Table) (g : ℕ) → Same keys actors (pop_idle_of keys actors g).keys actors
unfolding pop_idle_of
idle_same keys actors g = set_row keys actors (idle_row g) _ (idle_row_lem g)

popped_goes : (keys actors : Table) (g : ℕ) → Goes keys g (pop_idle_of keys actors g).key
unfolding pop_idle_of
popped_goes keys actors g = pop_goes keys actors g (count_of (keys_at keys (idle_row g))) (keys_at keys (idle_row g))

idle_goes : (keys actors : Table) (g : ℕ) → Goes (pop_idle_of keys actors g).keys g (pop_idle_of keys actors g).key
idle_goes keys actors g = goes_same (idle_same keys actors g) g (pop_idle_of keys actors g).key (popped_goes keys actors
    g)

spawn_goes : (t keys actors : Table) (l : Lives t keys actors) (g : ℕ) (e : Bool)
    → Goes (spawn_of keys actors g e).keys g (spawn_of keys actors g e).key
spawn_goes t keys actors l g e = go (spawn_of keys actors g e).key refl
  where
    go : (k : Option ℕ) → (spawn_of keys actors g e).key ≡ k → Goes (spawn_of keys actors g e).keys g k
    go (Some k) is = λ low. (spawn_lives t keys actors l g e).live k is low
    go None is = omega arith

-- ---- delivery

module _ (t : Table) (good : Good t) (h : step_hand t ≤ 0) where
  pub record Rests (r keys actors : Table) : Type 0 where
    pub lives : Lives r keys actors
    pub free : step_hand r ≤ 0

  module _ (keys actors : Table) (l : Lives t keys actors) (g k : ℕ) where
    mailed_in : slot_at g k < 128 → live_of keys g k ≡ true → Rests (move_first t BATCH (mailbox_of (slot_at g k))) keys
        actors
    mailed_in low live = record {
      lives =
          changes_lives g k S.group S.key (live_given_key keys g k live) (record {
            actors_long = refl;
            others = λ j high m n. omega (arith, lens.others j (λ e. omega arith) m);
            modes = λ s other. refl;
            runs = λ s other. refl;
            one = omega (arith, held, l.one g k S.group S.key);
            idle = λ m n. held ∙ l.runs g k S.group S.key m n;
          }) l;
      free = omega (arith, lens.others 5 (λ e. omega arith) (λ e. omega arith));
    }
      where
        S : Slot g k
        S = live_slot keys g k live

        pair : Pair t BATCH (6 + 2 * (16 * g + k))
        pair = record {
          good = good;
          from_is = omega arith;
          to_is = omega (arith, S.group, S.key);
          apart =
              λ e. omega arith;
        }

        lens : FirstLens t (move_first t BATCH (mailbox_of (slot_at g k))) BATCH (6 + 2 * (16 * g + k))
        lens = rw S.mail (first_lens pair)

        held : hand_len (move_first t BATCH (mailbox_of (slot_at g k))) g k ≡ hand_len t g k
        held = lens.others (7 + 2 * (16 * g + k)) (λ e. omega arith) (λ e. omega arith)

    mailed_out : (slot_at g k < 128 → ⊥) → Rests (move_first t BATCH (mailbox_of (slot_at g k))) keys actors
    mailed_out out =
        rw (mailbox_past (slot_at g k) (omega arith))
        (first_rule t good BATCH LISTS (λ (r : Table). Rests r keys actors) (record { lives = l; free = h })
        (λ pair. absurd (omega (arith, pair.to_is))))

    mailed : Goes keys g (Some k) → Rests (move_first t BATCH (mailbox_of (slot_at g k))) keys actors
    mailed goes = go (dec_lt (slot_at g k) 128)
      where
        go : Dec (slot_at g k < 128) → Rests (move_first t BATCH (mailbox_of (slot_at g k))) keys actors
        go (yes p) = mailed_in p (goes p)
        go (no p) = mailed_out p

  same_rests : {r keys actors keys' actors' : Table} → Same keys actors keys' actors' → Rests r keys actors
      → Rests r keys' actors'
  same_rests s x = record { lives = same_lives s x.lives; free = x.free }

  abbrev SentRests : RoutedTables → Type 0
  SentRests s = Rests s.links s.keys s.actors

  module _ (rows : Table) (q left : ℕ) where
    sent : (keys actors : Table) → Lives t keys actors → (g k : ℕ) → Goes keys g (Some k)
        → SentRests (to.deliver (turn_tables t keys actors q) g k left)
    unfolding to.deliver to.deliver_to to.wake_at
    sent keys actors l g k goes =
        same_rests (put_schedule keys actors g k (delivered_to (actor_at actors (slot_at g k))) refl refl)
        (mailed keys actors l g k goes)

    lost : (keys actors : Table) → Lives t keys actors
        → SentRests (to.lost_to (to.undeliverable t rows left) (turn_tables t keys actors q))
    unfolding to.undeliverable
    lost keys actors l = record {
      lives = less_lives t _ keys actors (over_less t rows good BATCH) l;
      free = omega (arith, less_at t _ (over_less t rows good BATCH) 5 (omega arith));
    }

    by_key : (keys actors : Table) → Lives t keys actors → (g : ℕ) (k : Option ℕ) → Goes keys g k
        → SentRests (to.deliver_key rows (turn_tables t keys actors q) g k left)
    unfolding to.deliver_key
    by_key keys actors l g (Some k) goes = sent keys actors l g k goes
    by_key keys actors l g None goes = lost keys actors l

    by_least : (keys actors : Table) → Lives t keys actors → (g : ℕ)
        → SentRests (to.route_least rows (turn_tables t keys actors q) g left)
    unfolding to.route_least
    by_least keys actors l g = by_key keys actors l g (least_of keys t g) (least_goes keys t g)

    by_spawned : (keys actors : Table) → Lives t keys actors → (g : ℕ) (k : Option ℕ) → Goes keys g k
        → SentRests (to.spawned_sent rows (turn_tables t keys actors q) g left k)
    by_spawned keys actors l g (Some k) goes = sent keys actors l g k goes
    by_spawned keys actors l g None goes = by_least keys actors l g

    by_spawn : (keys actors : Table) → Lives t keys actors → (g : ℕ) (e : Bool)
        → SentRests (to.route_spawned rows (turn_tables t keys actors q) g e left)
    unfolding to.route_spawned
    by_spawn keys actors l g e =
        by_spawned _ _ (spawn_lives t keys actors l g e).lives g (spawn_of keys actors g e).key
        (spawn_goes t keys actors l g e)

    by_new : (groups keys actors : Table) → Lives t keys actors → (g : ℕ)
        → SentRests (to.route_new groups rows (turn_tables t keys actors q) g left)
    unfolding to.route_new
    by_new groups keys actors l g =
        pick_rule SentRests (ltb (live_len keys g) (group_at groups g).ceiling)
        (λ e. pick_rule SentRests (group_at groups g).eval (λ e. by_spawn keys actors l g true)
        (λ e. record { lives = l; free = h }))
        (λ e. by_least keys actors l g)

    by_idle : (groups keys actors : Table) → Lives t keys actors → (g : ℕ) (k : Option ℕ) → Goes keys g k
        → SentRests (to.idle_else (turn_tables t keys actors q) g left k
        (to.route_new groups rows (turn_tables t keys actors q) g left))
    by_idle groups keys actors l g (Some k) goes = sent keys actors l g k goes
    by_idle groups keys actors l g None goes = by_new groups keys actors l g

    by_group : (groups keys actors : Table) → Lives t keys actors → (g : ℕ)
        → SentRests (to.pick_of groups rows (turn_tables t keys actors q) g left)
    unfolding to.pick_of
    by_group groups keys actors l g =
        by_idle groups (pop_idle_of keys actors g).keys actors (same_lives (idle_same keys actors g) l) g
        (pop_idle_of keys actors g).key (idle_goes keys actors g)

    by_named : (groups keys actors : Table) → Lives t keys actors → (n : Option ℕ)
        → SentRests (to.route_named groups rows (turn_tables t keys actors q) left n)
    by_named groups keys actors l (Some g) = by_group groups keys actors l g
    by_named groups keys actors l None = lost keys actors l

    by_first : (groups : Table) (count : ℕ) (store : List ℕ) (keys actors : Table) → Lives t keys actors → (f : Option ℕ)
        → SentRests (to.route_first (programs groups count store) rows (turn_tables t keys actors q) left f)
    unfolding to.route_one
    by_first groups count store keys actors l (Some e) = by_named groups keys actors l (by_name groups store e
        (message_at rows e).name_len count)
    by_first groups count store keys actors l None = record { lives = l; free = h }

    pub route_rests : (groups : Table) (count : ℕ) (store : List ℕ) (keys actors : Table) → Lives t keys actors
        → SentRests (route_of (programs groups count store) rows (turn_tables t keys actors q) left)
    unfolding to.route_of
    route_rests groups count store keys actors l =
        pick_rule SentRests (eqb left 0) (λ e. record { lives = l; free = h }) (λ e. by_first groups count store keys
        actors l (first_of t BATCH))

    by_boot : (keys actors : Table) → Lives t keys actors → (g : ℕ) (b : Bool)
        → SentRests (to.route_booted rows (turn_tables t keys actors q) g left b)
    unfolding to.route_booted
    by_boot keys actors l g true = by_spawn keys actors l g false
    by_boot keys actors l g false = by_least keys actors l g

    by_yes : (keys actors : Table) → Lives t keys actors → (g : ℕ) (y : Option Bool)
        → SentRests (to.route_by rows (turn_tables t keys actors q) g left y)
    by_yes keys actors l g (Some true) = by_boot keys actors l g true
    by_yes keys actors l g (Some false) = by_boot keys actors l g false
    by_yes keys actors l g None = record { lives = l; free = h }

    pub route_reply_rests : (keys actors : Table) → Lives t keys actors → (g : ℕ) (r : Reply)
        → SentRests (route_reply rows (turn_tables t keys actors q) g left r)
    unfolding to.route_reply
    route_reply_rests keys actors l g r = by_yes keys actors l g (yes_in r)
