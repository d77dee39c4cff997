-- The first turn spawns one actor for each group whose ceiling is above 0. Spawn of a fixed actor asks Boot; eval
-- does not.
use Rattle.std.specs.Prelude.{Bool, true, false, ℕ, eqb, leb, Option, Some, None}
use Rattle.lists.specs.Links.{pick, Table, ENTRIES, GROUPS}
use Rattle.actor.specs.declared.question.Reply.{Reply}
use Rattle.actor.specs.Questions.{yes_in}
use Rattle.points.specs.declared.at.At.{At}
use Rattle.points.specs.declared.at.At.TheVariants as at
use Rattle.points.specs.declared.at.Ask.TheVariants as asks
use Rattle.points.specs.declared.at.Point.TheVariants as point
use Rattle.points.specs.At.{next_group}
use Rattle.group.specs.Settings.{group_at}
use Rattle.group.specs.Roster.{Spawned, spawn_of}

-- what a step over actors and their keys changes, and where the turn stands then
pub record Seeded : Type 0 where
  pub keys : Table
  pub actors : Table
  pub at : At

-- these key lists and actors, and the turn stands there
abbrev pub seeded_to : Table → Table → At → Seeded
seeded_to keys actors a = record { keys = keys; actors = actors; at = a }

-- the key lists and actors after a spawn, and the turn stands there
abbrev pub spawned_to : Spawned → At → Seeded
spawned_to s a = record { keys = s.keys; actors = s.actors; at = a }

-- group g, of `count` groups: a ceiling of 0 spawns nothing
unfoldable pub seed_of : Table → ℕ → Table → Table → ℕ → Seeded
seed_of groups count keys actors g =
    pick (leb count g) (seeded_to keys actors (at.Runs (point.Intake ENTRIES)))
    (pick (leb GROUPS g) (seeded_to keys actors (at.Runs (point.Intake ENTRIES)))
    (pick (eqb (group_at groups g).ceiling 0) (seeded_to keys actors (at.Runs (point.Seed (next_group g))))
    (pick (group_at groups g).eval (spawned_to (spawn_of keys actors g true) (at.Runs (point.Seed (next_group g))))
    (seeded_to keys actors (at.Asks (asks.SeedBoot g))))))

-- Boot yes: spawn; either: the next group
unfoldable pub seed_booted : Table → Table → ℕ → Bool → Seeded
seed_booted keys actors g true = spawned_to (spawn_of keys actors g false) (at.Runs (point.Seed (next_group g)))
seed_booted keys actors g false = seeded_to keys actors (at.Runs (point.Seed (next_group g)))

-- Boot yes: a spawn, and the next group; no: the next group; any other reply: nothing changes, and Boot stays open
abbrev pub seed_by : Table → Table → ℕ → Option Bool → Seeded
seed_by keys actors g (Some booted) = seed_booted keys actors g booted
seed_by keys actors g None = seeded_to keys actors (at.Asks (asks.SeedBoot g))

-- the reply to the Boot of group g's seed; one that is neither yes nor no leaves it open
unfoldable pub seed_reply : Table → Table → ℕ → Reply → Seeded
seed_reply keys actors g r = seed_by keys actors g (yes_in r)
