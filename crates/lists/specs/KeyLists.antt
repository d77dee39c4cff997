-- Lists of at most 64 keys as rows of cells, and what each operation makes of a row: exact, and of every row.
-- `keys_of c` is the list that a row stands for.
use Rattle.std.specs.Prelude.{◌≡◌, Bool, true, false, List, [], ◌∷◌, ◌++◌, ℕ, zero, suc, ◌+◌, ◌-◌, ◌≤◌, eqb, ltb, length, get_or, set, take, drop, replicate, Option, Some, None}
use Rattle.lists.specs.Links.{pick}

-- the most keys of a list
abbrev pub FULL : ℕ
FULL = 64

-- an empty list
abbrev pub blank_row : List ℕ
blank_row = replicate 65 0

-- row i of a table of key lists; past the table's end a blank one
abbrev pub keys_at : List (List ℕ) → ℕ → List ℕ
keys_at t i = get_or t i blank_row

-- how many keys a row has: its first cell
abbrev pub count_of : List ℕ → ℕ
count_of c = get_or c 0 0

-- the keys, in order
abbrev pub keys_of : List ℕ → List ℕ
keys_of c = take (count_of c) (drop 1 c)

-- a row that holds a list of keys: it has 65 cells, and at most 64 keys
pub record Held (c : List ℕ) : Type 0 where
  pub sized : length c ≡ 65
  pub few : count_of c ≤ FULL

-- whether k stands in a list
unfoldable pub elem : ℕ → List ℕ → Bool
elem k [] = false
elem k (x ∷ xs) = pick (eqb x k) true (elem k xs)

-- element i taken out, and a put behind the others; past the end nothing changes
unfoldable pub moved_last : List ℕ → ℕ → ℕ → List ℕ
moved_last [] i a = []
moved_last (x ∷ xs) zero a = xs ++ (a ∷ [])
moved_last (x ∷ xs) (suc i) a = x ∷ moved_last xs i a

-- ---- operations on rows

-- the first key of a row; none where it has no keys
abbrev pub front_of : List ℕ → Option ℕ
front_of c = pick (eqb (count_of c) 0) None (Some (get_or c 1 0))

-- the last key of a row; none where it has no keys, or its count is above 64
abbrev pub last_of : List ℕ → Option ℕ
last_of c = pick (eqb (count_of c) 0) None (pick (ltb (count_of c) 65) (Some (get_or c (count_of c) 0)) None)

-- whether k is among the keys of a row
unfoldable pub holds_of : List ℕ → ℕ → Bool
holds_of c k = elem k (keys_of c)

-- the first key leaves: the cells after it move down by one, and the last cell is 0; without keys nothing changes
unfoldable pub pop_front : List ℕ → List ℕ
pop_front c = pick (eqb (count_of c) 0) c (set (moved_last c 1 0) 0 (count_of c - 1))

-- the last key leaves: the count falls by 1, and its cell stays as it was; without keys nothing changes
unfoldable pub pop_end : List ℕ → List ℕ
pop_end c = pick (eqb (count_of c) 0) c (set c 0 (count_of c - 1))

-- a key joins at the end; a full row stays as it is
unfoldable pub key_appended : List ℕ → ℕ → List ℕ
key_appended c k = pick (ltb (count_of c) FULL) (set (set c (count_of c + 1) k) 0 (count_of c + 1)) c

-- a key joins at the end unless it stands in the row; a full row stays as it is
unfoldable pub add_absent : List ℕ → ℕ → List ℕ
add_absent c k = pick (holds_of c k) c (key_appended c k)

-- each of some keys is added unless it is there
unfoldable pub squeeze_of : List ℕ → List ℕ → List ℕ
squeeze_of c [] = c
squeeze_of c (k ∷ ks) = squeeze_of (add_absent c k) ks

-- a full list first keeps only each key's first entry; then the key is added if absent
unfoldable pub push_of : List ℕ → ℕ → List ℕ
push_of c k = pick (ltb (count_of c) FULL) (key_appended c k) (add_absent (squeeze_of blank_row (drop 1 c)) k)

-- ---- the same of lists of keys

-- a key is added unless it is there
unfoldable pub with_key : List ℕ → ℕ → List ℕ
with_key ks k = pick (elem k ks) ks (ks ++ (k ∷ []))

-- each key's first entry, after those seen before
unfoldable pub firsts_from : List ℕ → List ℕ → List ℕ
firsts_from seen [] = seen
firsts_from seen (k ∷ ks) = firsts_from (with_key seen k) ks

-- the keys without repetition, in the order of their first entries
abbrev pub firsts : List ℕ → List ℕ
firsts ks = firsts_from [] ks

-- the rule for a list of 64 (docs/RULES.md, section 6): squeezed when full, then added if absent
abbrev pub pushed : List ℕ → ℕ → List ℕ
pushed ks k = pick (ltb (length ks) FULL) (ks ++ (k ∷ [])) (with_key (firsts ks) k)
