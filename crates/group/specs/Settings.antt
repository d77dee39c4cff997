-- A group's settings as cells; the group of a message's name, in an entry of the body store or as bytes; and whether
-- the program of a name is loaded.
use Rattle.std.specs.Prelude.{Bool, true, false, ◌&&◌, List, [], ℕ, zero, suc, ◌+◌, ◌*◌, eqb, ltb, leb, length, get_or, Option, Some, None}
use Rattle.message_log.specs.Opening.{NAME, ENTRY}
use Rattle.lists.specs.Links.{pick, Table, ENTRIES}
use Rattle.actor.specs.Actors.{bool_of}
use Rattle.group.specs.declared.settings.Group.{Group}

-- a group's settings, its row's first cells: ceiling, eval (0 no, any other yes), timeout, retry; a missing cell is 0
abbrev pub group_of : List ℕ → Group
group_of c =
    record {
      ceiling = get_or c 0 0;
      eval = bool_of (get_or c 1 0);
      timeout = get_or c 2 0;
      retry = get_or c 3 0;
    }

-- the settings of group g; past the table's end it is a fixed group with ceiling, timeout and retry 0
unfoldable pub group_at : Table → ℕ → Group
group_at groups g = group_of (get_or groups g [])

-- n bytes of a group's name, from byte i on, are those of the store, or of a name by itself, from `from` + i on
unfoldable pub agrees : List ℕ → List ℕ → ℕ → ℕ → ℕ → Bool
agrees row store from i zero = true
agrees row store from i (suc n) =
    eqb (get_or row (5 + i) 0) (get_or store (from + i) 0) && agrees row store from (suc i) n

-- the message of an entry, whose name has len bytes, is for the group of this row: the names are the same
unfoldable pub named : List ℕ → List ℕ → ℕ → ℕ → Bool
named row store entry len =
    pick (leb ENTRIES entry) false
    (pick (ltb NAME len) false (eqb (get_or row 4 0) len && agrees row store (ENTRY * entry) 0 len))

-- the last of the numbers below n that a test is true of; none where there is none
unfoldable pub last_where : (ℕ → Bool) → ℕ → Option ℕ
last_where p zero = None
last_where p (suc g) = pick (p g) (Some g) (last_where p g)

-- Two groups of one name: the later one gets the messages.
unfoldable pub by_name : Table → List ℕ → ℕ → ℕ → ℕ → Option ℕ
by_name groups store entry len zero = None
by_name groups store entry len (suc g) =
    pick (named (get_or groups g []) store entry len) (Some g) (by_name groups store entry len g)

-- the group of this row has this name, given as bytes: the names are the same
unfoldable pub has_name : List ℕ → List ℕ → Bool
has_name row name =
    pick (ltb NAME (length name)) false
    (eqb (get_or row 4 0) (length name) && agrees row name 0 0 (length name))

-- The group of a name given as bytes: of two groups of one name the later one, which gets the messages.
unfoldable pub group_named : Table → List ℕ → ℕ → Option ℕ
group_named groups name zero = None
group_named groups name (suc g) = pick (has_name (get_or groups g []) name) (Some g) (group_named groups name g)

-- a group may have an actor: its ceiling is above 0
abbrev pub may_run : Table → Option ℕ → Bool
may_run groups (Some g) = ltb 0 (group_at groups g).ceiling
may_run groups None = false

-- The program of a name is loaded: a group has the name, and the one that gets its messages may have an actor.
unfoldable pub loaded_in : Table → List ℕ → ℕ → Bool
loaded_in groups name count = may_run groups (group_named groups name count)
