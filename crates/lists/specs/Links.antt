-- The table of links, and what each operation makes of it: exact, and of every table.
use Rattle.std.specs.Prelude.{Bool, true, false, List, [], ◌∷◌, ℕ, zero, suc, ◌+◌, ◌-◌, ◌*◌, min, eqb, ltb, leb, length, get_or, set, Option, Some, None}
use Rattle.lists.specs.declared.Link.{Link}

-- the first value where the condition is true, else the second
abbrev pub pick : {A : Type 0} → Bool → A → A → A
pick true a b = a
pick false a b = b

-- the lists: six that are named below, and two for each slot
abbrev pub LISTS : ℕ
LISTS = 262

-- the entries of the body store, each for one message
abbrev pub ENTRIES : ℕ
ENTRIES = 256

-- the slots of actors: 8 groups of at most 16
abbrev pub SLOTS : ℕ
SLOTS = 128

-- the most groups of a pool
abbrev pub GROUPS : ℕ
GROUPS = 8

-- the most actors of a group, so that their keys are 0 to 15
abbrev pub KEYS : ℕ
KEYS = 16

-- the lists of messages that are no actor's

-- entries that are free
abbrev pub FREE : ℕ
FREE = 0

-- accepted, and not yet taken in by a turn
abbrev pub INBOX : ℕ
INBOX = 1

-- to be routed
abbrev pub PENDING : ℕ
PENDING = 2

-- being routed
abbrev pub BATCH : ℕ
BATCH = 3

-- over, with the mark not yet ordered
abbrev pub OVER : ℕ
OVER = 4

-- in the hands of the step under way
abbrev pub HAND : ℕ
HAND = 5

-- the list that is the mailbox of an actor's slot; for a number that is no slot, one that is no list
unfoldable pub mailbox_of : ℕ → ℕ
mailbox_of slot = pick (ltb slot SLOTS) (6 + 2 * slot) LISTS

-- the list that is the hand of an actor's slot; for a number that is no slot, one that is no list
unfoldable pub hand_of : ℕ → ℕ
hand_of slot = pick (ltb slot SLOTS) (7 + 2 * slot) LISTS

-- a number, held at the largest of 64 bits
abbrev pub capped : ℕ → ℕ
capped n = min n 18446744073709551615

-- ---- rows of cells

-- a table: rows of cells, which are numbers
abbrev pub Table : Type 0
Table = List (List ℕ)

-- what a row of four cells says: of a list its first entry, its last and its length, of an entry the one after it;
-- a missing cell is 0
abbrev pub link_of : List ℕ → Link
link_of c = record { head = get_or c 0 0; tail = get_or c 1 0; len = get_or c 2 0; next = get_or c 3 0 }

-- what row i says of list i and of entry i; past the table's end every number is 0
unfoldable pub link_at : Table → ℕ → Link
link_at t i = link_of (get_or t i [])

-- the first entry of list k; it means nothing where the list is empty
abbrev pub head_of : Table → ℕ → ℕ
head_of t k = (link_at t k).head

-- the last entry of list k; it means nothing where the list is empty
abbrev pub tail_of : Table → ℕ → ℕ
tail_of t k = (link_at t k).tail

-- how many entries list k has; past the table's end 0
abbrev pub len_of : Table → ℕ → ℕ
len_of t k = (link_at t k).len

-- the entry after entry e in its list; it means nothing where e is the last one
abbrev pub next_of : Table → ℕ → ℕ
next_of t e = (link_at t e).next

-- list k is stored to begin at h, end at a and have n entries; the rest of its row stays
unfoldable pub set_ends : Table → ℕ → ℕ → ℕ → ℕ → Table
set_ends t k h a n = set t k (h ∷ a ∷ n ∷ next_of t k ∷ [])

-- the entry after e is stored to be v, and the rest of its row stays; past the table's end nothing is stored
unfoldable pub set_next : Table → ℕ → ℕ → Table
set_next t e v = set t e (head_of t e ∷ tail_of t e ∷ len_of t e ∷ v ∷ [])

-- ---- operations

-- row i of the table at the start: every entry is free, in rising order
abbrev pub start_row : ℕ → List ℕ
start_row i = 0 ∷ pick (eqb i FREE) 255 0 ∷ pick (eqb i FREE) ENTRIES 0 ∷ (i + 1) ∷ []

-- n rows from row i on
unfoldable pub start_from : ℕ → ℕ → Table
start_from i zero = []
start_from i (suc n) = start_row i ∷ start_from (suc i) n

-- the first entry of list k; none where it is empty
abbrev pub first_of : Table → ℕ → Option ℕ
first_of t k = pick (eqb (len_of t k) 0) None (Some (head_of t k))

-- the first n entries of `from`, of which `last` is the last, leave it
unfoldable pub leave_of : Table → ℕ → ℕ → ℕ → Table
leave_of t from n last = set_ends t from (next_of t last) (tail_of t from) (len_of t from - n)

-- n entries from `head` to `last` join `to` at its end: its last entry, where it has one, links to `head`
unfoldable pub join_end : Table → ℕ → ℕ → ℕ → ℕ → Table
join_end t to head n last =
    pick (eqb (len_of t to) 0)
    (set_ends t to head last (capped (len_of t to + n)))
    (set_ends (set_next t (tail_of t to) head) to (head_of t to) last (capped (len_of t to + n)))

-- the same at its front: `last` links to its first entry
unfoldable pub join_front : Table → ℕ → ℕ → ℕ → ℕ → Table
join_front t to head n last =
    pick (eqb (len_of t to) 0)
    (set_ends (set_next t last (head_of t to)) to head last (capped (len_of t to + n)))
    (set_ends (set_next t last (head_of t to)) to head (tail_of t to) (capped (len_of t to + n)))

-- there are two lists, and the first has an entry
unfoldable pub can_move : Table → ℕ → ℕ → Bool
can_move t from to = pick (eqb from to) false (pick (leb (length t) to) false (pick (eqb (len_of t from) 0) false true))

-- r, where there are two lists and the first has an entry; else nothing changes
abbrev pub if_moves : Table → ℕ → ℕ → Table → Table
if_moves t from to r = pick (eqb from to) t (pick (leb (length t) to) t (pick (eqb (len_of t from) 0) t r))

-- the first entry of `from` goes to the end of `to`; nothing changes where `from` has none, the two are the same, or
-- one is no list
unfoldable pub move_first : Table → ℕ → ℕ → Table
move_first t from to = if_moves t from to (join_end (leave_of t from 1 (head_of t from)) to (head_of t from) 1
    (head_of t from))

-- the first entry of `from` goes to the front of `to`; nothing changes where `from` has none, the two are the same, or
-- one is no list
unfoldable pub move_first_to_front : Table → ℕ → ℕ → Table
move_first_to_front t from to = if_moves t from to (join_front (leave_of t from 1 (head_of t from)) to (head_of t from) 1
    (head_of t from))

-- every entry of `from` goes to the end of `to`, in order; nothing changes where `from` has none, the two are the same,
-- or one is no list
unfoldable pub move_all : Table → ℕ → ℕ → Table
move_all t from to = if_moves t from to (join_end (leave_of t from (len_of t from) (tail_of t from)) to (head_of t from)
    (len_of t from) (tail_of t from))
