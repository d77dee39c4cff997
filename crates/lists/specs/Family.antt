-- What a table of links means. `view t k` is list k, as the list of its entries in order; `Good t` is that the links
-- are well formed and that every entry stands in exactly one of the lists, at one place.
use Rattle.std.specs.Prelude.{◌≡◌, List, [], ◌∷◌, ◌++◌, ℕ, zero, suc, ◌+◌, ◌-◌, ◌≤◌, ◌<◌, eqb, length, get_or, take, drop, Option, Some, None}
use Rattle.lists.specs.Links.{pick, LISTS, ENTRIES, FREE, Table, head_of, tail_of, len_of, next_of}

-- ---- lists, whatever they are used for

-- how often e stands in a list
unfoldable pub count : ℕ → List ℕ → ℕ
count e [] = 0
count e (x ∷ xs) = pick (eqb x e) 1 0 + count e xs

-- the last element, or d where there is none
unfoldable pub last_d : ℕ → List ℕ → ℕ
last_d d [] = d
last_d d (x ∷ xs) = last_d x xs

-- the sum of w over the lists f 0, .., f (n - 1)
unfoldable pub total : (List ℕ → ℕ) → ℕ → (ℕ → List ℕ) → ℕ
total w zero f = 0
total w (suc n) f = total w n f + w (f n)

-- h, h + 1, .., n of them
unfoldable pub up_from : ℕ → ℕ → List ℕ
up_from h zero = []
up_from h (suc n) = h ∷ up_from (suc h) n

-- the first of a list
abbrev pub first_in : List ℕ → Option ℕ
first_in [] = None
first_in (x ∷ xs) = Some x

-- ---- the family

-- the n entries from h on, along the links
unfoldable pub chain : Table → ℕ → ℕ → List ℕ
chain t zero h = []
chain t (suc n) h = h ∷ chain t n (next_of t h)

-- list k as its entries in order: from its first one on along the links, as many as its length says
unfoldable pub view : Table → ℕ → List ℕ
view t k = chain t (len_of t k) (head_of t k)

-- the links are well formed: 262 rows, tails that are last entries, and each of 256 entries in one list, at one place
pub record Good (t : Table) : Type 0 where
  pub sized : length t ≡ LISTS
  -- the tail of a list that is not empty is its last entry
  pub lasts : (k : ℕ) → last_d (tail_of t k) (view t k) ≡ tail_of t k
  -- every entry stands in one list, at one place, and nothing else stands in any
  pub once : (e : ℕ) → e < ENTRIES → total (count e) LISTS (view t) ≡ 1
  pub none : (e : ℕ) → ENTRIES ≤ e → total (count e) LISTS (view t) ≡ 0
  pub whole : total length LISTS (view t) ≡ ENTRIES

-- every entry is free, in rising order
pub record Started (t : Table) : Type 0 where
  pub good : Good t
  pub all : view t FREE ≡ up_from 0 ENTRIES
  pub others : (k : ℕ) → (k ≡ FREE → ⊥) → view t k ≡ []

-- r is what follows e, wherever e stands in a list and is not its last entry
abbrev pub Follows : Table → ℕ → ℕ → Type 0
Follows t e r = (k i : ℕ) → suc i < length (view t k) → get_or (view t k) i 0 ≡ e → r ≡ get_or (view t k) (suc i) 0

-- two lists of a well-formed family
pub record Pair (t : Table) (from to : ℕ) : Type 0 where
  pub good : Good t
  pub from_is : from < LISTS
  pub to_is : to < LISTS
  pub apart : from ≡ to → ⊥

-- n entries of `from`, at its front, of which `last` is the last
pub record Run (t : Table) (from to n last : ℕ) : Type 0 where
  pub pair : Pair t from to
  pub some : 0 < n
  pub enough : n ≤ length (view t from)
  pub last_is : last ≡ get_or (view t from) (n - 1) 0

-- the first n entries of `from` stand at the end of `to`, and every other list is as it was
pub record Moved (t : Table) (from to n : ℕ) (r : Table) : Type 0 where
  pub good : Good r
  pub left : view r from ≡ drop n (view t from)
  pub joined : view r to ≡ view t to ++ take n (view t from)
  pub others : (k : ℕ) → (k ≡ from → ⊥) → (k ≡ to → ⊥) → view r k ≡ view t k

-- all of `from` stands at the end of `to`
pub record MovedAll (t : Table) (from to : ℕ) (r : Table) : Type 0 where
  pub good : Good r
  pub left : view r from ≡ []
  pub joined : view r to ≡ view t to ++ view t from
  pub others : (k : ℕ) → (k ≡ from → ⊥) → (k ≡ to → ⊥) → view r k ≡ view t k

-- the first n entries of `from` stand at the front of `to`
pub record MovedToFront (t : Table) (from to n : ℕ) (r : Table) : Type 0 where
  pub good : Good r
  pub left : view r from ≡ drop n (view t from)
  pub joined : view r to ≡ take n (view t from) ++ view t to
  pub others : (k : ℕ) → (k ≡ from → ⊥) → (k ≡ to → ⊥) → view r k ≡ view t k
