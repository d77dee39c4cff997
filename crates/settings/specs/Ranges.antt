-- Settings: their ranges, and the groups' rows that a pool works with.
use Rattle.std.specs.Prelude.{Bool, true, false, ◌&&◌, List, [], ◌∷◌, ℕ, eqb, ltb, leb, length, get_or, set, drop}
use Rattle.message_log.specs.Opening.{NAME}
use Rattle.lists.specs.Links.{pick, Table, ENTRIES, GROUPS, KEYS}
use Rattle.settings.specs.declared.ranges.Settings.{Settings}

-- n is in a range: at least `least`, and at most `most`
unfoldable pub within : ℕ → ℕ → ℕ → Bool
within least n most = pick (ltb n least) false (leb n most)

-- every number of the list is a byte, at most 255
unfoldable pub all_bytes : List ℕ → Bool
all_bytes [] = true
all_bytes (b ∷ bs) = pick (ltb 255 b) false (all_bytes bs)

-- a group: replicas 0 to 16, fixed (0) or eval (1), timeout 0 to 86,400 s, retry 0 to 255, a name of 0 to 32 bytes
unfoldable pub row_fits : List ℕ → Bool
row_fits row =
    pick (ltb KEYS (get_or row 0 0)) false
    (pick (ltb 1 (get_or row 1 0)) false
    (pick (ltb 86400 (get_or row 2 0)) false
    (pick (ltb 255 (get_or row 3 0)) false (pick (ltb NAME (get_or row 4 0)) false (all_bytes (drop 5 row))))))

-- every group's settings are in their ranges
unfoldable pub rows_fit : Table → Bool
rows_fit [] = true
rows_fit (row ∷ rows) = row_fits row && rows_fit rows

-- max_actors 0 to 16, inbox 1 to 64, backlog 1 to 256, compact_at 1 to 65,536, tick_ns 1 to 1,000,000,000
unfoldable pub numbers_fit : Settings → Bool
numbers_fit s =
    within 0 s.max_actors KEYS && within 1 s.inbox 64 && within 1 s.backlog ENTRIES
    && within 1 s.compact_at 65536 && within 1 s.tick 1000000000

-- groups 1 to 8, and everything in its range
unfoldable pub settings_fit : Settings → Table → Bool
settings_fit s given = pick (eqb (length given) 0) false (pick (ltb GROUPS (length given)) false
    (numbers_fit s && rows_fit given))

-- Ceiling = min(replicas, max_actors).
unfoldable pub pool_row : ℕ → List ℕ → List ℕ
pool_row most row = pick (ltb most (get_or row 0 0)) (set row 0 most) row

-- the groups' rows written over a table, from its first row on
unfoldable pub groups_from : ℕ → Table → Table → Table
groups_from most [] given = []
groups_from most (old ∷ olds) [] = old ∷ olds
groups_from most (old ∷ olds) (row ∷ rows) = pool_row most row ∷ groups_from most olds rows
