-- What an admission and the routing of its message have in common: they mean one group. The theorem is `one_group`, in
-- proofs/Names.antt; crates/theorem/specs/Rail says of every admission that it goes by this.
use Rattle.std.specs.Prelude.{◌≡◌, List, ℕ, ◌≤◌, ◌<◌, length, Some}
use Rattle.message_log.specs.Opening.{NAME, STORE}
use Rattle.lists.specs.Links.{Table, ENTRIES}
use Rattle.actor.specs.Messages.{message_at}
use Rattle.group.specs.Settings.{group_at, by_name, group_named}
use Rattle.actor.specs.Entry.{store_entry}

-- The group of a name given as bytes, as an admission has it, is the one that routing finds for the message of the
-- entry where the name was written.
abbrev pub OneGroup : Type 0
OneGroup = (groups : Table) (count : ℕ) (store name body : List ℕ) (e : ℕ) → length store ≡ STORE → e < ENTRIES
    → length name ≤ NAME
    → by_name groups (store_entry store e name body) e (length name) count ≡ group_named groups name count

-- routing finds a group for the message of an entry, whose name has len bytes, and this group may have an actor
pub record Routes (groups : Table) (count : ℕ) (store : List ℕ) (e len : ℕ) : Type 0 where
  pub group : ℕ
  pub found : by_name groups store e len count ≡ Some group
  pub ceiling : 0 < (group_at groups group).ceiling

-- the message of an entry is for a program that is loaded
abbrev pub LoadedAt : Table → ℕ → List ℕ → Table → ℕ → Type 0
LoadedAt groups count store rows e = Routes groups count store e (message_at rows e).name_len
