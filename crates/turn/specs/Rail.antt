-- What code lends as one: the state that it has, and that it is the same rail.
use Rattle.std.specs.Prelude.{◌≡◌}
use Rattle.turn.specs.declared.state.Rail.{Rail}
use Rattle.turn.specs.State.{State}
use Rattle.turn.specs.Words.{pool_of}

-- the state that a rail has now
abbrev pub state_in : Rail → State
state_in t = record {
  pool = pool_of t.pool.now;
  bytes = t.log.now;
  records = t.records.now;
  store = t.store.now;
  groups = t.groups.now;
  links = t.links.now;
  rows = t.rows.now;
  keys = t.keys.now;
  actors = t.actors.now;
}

-- these are the same cells, log and tables, with the values that they have now, and the same store and groups
abbrev pub RailKept : Rail → Rail → Type 0
RailKept t u =
    (u.pool.ghost_name ≡ t.pool.ghost_name) × (u.log.ghost_name ≡ t.log.ghost_name)
    × (u.records.ghost_name ≡ t.records.ghost_name) × (u.store.now ≡ t.store.now) × (u.groups.now ≡ t.groups.now)
    × (u.links.ghost_name ≡ t.links.ghost_name) × (u.rows.ghost_name ≡ t.rows.ghost_name)
    × (u.keys.ghost_name ≡ t.keys.ghost_name) × (u.actors.ghost_name ≡ t.actors.ghost_name)
