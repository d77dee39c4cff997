-- The keys of a group's actors as slab 0.4 gives them: the last freed key first, else the next that never was one.
-- A row of cells: the free keys, last freed last, as a list of keys; in the last cell how many keys were ever given.
use Rattle.std.specs.Prelude.{◌≡◌, Bool, true, false, List, ℕ, zero, suc, ◌+◌, ◌-◌, ◌≤◌, ◌<◌, eqb, ltb, length, get_or, set, Option, Some, None}
use Rattle.lists.specs.Links.{pick, KEYS}
use Rattle.lists.specs.Family.{count}
use Rattle.lists.specs.KeyLists.{count_of, keys_of, last_of, holds_of, pop_end, key_appended}

-- how many keys were ever given: the last of 65 cells
abbrev pub given_of : List ℕ → ℕ
given_of s = get_or s 64 0

-- an actor has key k
unfoldable pub contains_of : List ℕ → ℕ → Bool
contains_of s k = pick (ltb k (given_of s)) (pick (holds_of s k) false true) false

-- the key of the next actor
unfoldable pub vacant_of : List ℕ → Option ℕ
vacant_of s = pick (eqb (count_of s) 0) (pick (ltb (given_of s) KEYS) (Some (given_of s)) None) (last_of s)

-- the key of the next actor is taken: the one freed last, else the next that never was one; with none free and 16 given
-- nothing changes
unfoldable pub insert_of : List ℕ → List ℕ
insert_of s = pick (eqb (count_of s) 0) (pick (ltb (given_of s) KEYS) (set s 64 (given_of s + 1)) s) (pop_end s)

-- key k is free again, as the one freed last; where no actor has it, or 64 keys or more are free, nothing changes
unfoldable pub remove_of : List ℕ → ℕ → List ℕ
remove_of s k = pick (contains_of s k) (key_appended s k) s

-- how many actors there are: the keys given without those that are free, 0 if more are free than were given
abbrev pub live_count : List ℕ → ℕ
live_count s = given_of s - count_of s

-- the first key of an actor among the n from k on
unfoldable pub next_key : List ℕ → ℕ → ℕ → Option ℕ
next_key s zero k = None
next_key s (suc n) k = pick (contains_of s k) (Some k) (next_key s n (k + 1))

-- a row of keys that is well formed: 65 cells, at most 16 keys given, and the free ones different ones of them
pub record SlabSound (s : List ℕ) : Type 0 where
  pub sized : length s ≡ 65
  pub few : given_of s ≤ KEYS
  pub fewer : count_of s ≤ given_of s
  -- the free keys are different ones of those given
  pub once : (k : ℕ) → count k (keys_of s) ≤ 1
  pub given : (k : ℕ) → 0 < count k (keys_of s) → k < given_of s
