-- Laws of the loops: one turn of each, by its definition. Assumes nothing.
use Rattle.std.specs.Prelude.{Option, Some, None}
use Rattle.std.specs.List.{list_all, range_with_len}
use mathlib.Core.Path.{◌≡◌, refl, ap}
use mathlib.Core.Bool.{Bool, ◌&&◌}
use mathlib.Core.List.{List, []}
use Prim.Native.Nat.{ℕ, zero, suc, ◌+◌, ◌-◌, ◌≤◌, ◌<◌}
use native.Mathlib.Numerals.{add-one}
use native.Mathlib.Nat.{not-suc-le-zero}
use native.Mathlib.Omega.{arith}
use lib.Dec.{eqb}
use lib.ListN.{get_or}
use Rattle.lists.specs.Links.{pick, Table}
use Rattle.lists.specs.KeyLists.{last_of, pop_end}
use Rattle.lists.specs.Slabs.{contains_of}
use Rattle.steps.specs.Steps.{over_first}
use Rattle.group.specs.Settings.{agrees, named, by_name, has_name, group_named, last_where}
use Rattle.group.specs.Roster.{idle_key, popped, pop_idle_row, better_of, least_from, over_all}

before : (n : ℕ) → suc n - 1 ≡ n
before n = omega arith

-- ---- a name and the store, byte by byte

pub agrees_all : (row store : List ℕ) (from i n : ℕ)
    → list_all (λ j. eqb (get_or row (5 + j) 0) (get_or store (from + j) 0)) (range_with_len i n)
    ≡ agrees row store from i n
unfolding agrees
agrees_all row store from i zero = refl
agrees_all row store from i (suc n) = rw add-one (ap (λ b. eqb (get_or row (5 + i) 0) (get_or store (from + i) 0) && b) (agrees_all row store from (suc i) n))

-- ---- the groups, from the last one down

pub last_more : (p : ℕ → Bool) (g : ℕ) → 0 < g → last_where p g ≡ pick (p (g - 1)) (Some (g - 1)) (last_where p (g - 1))
unfolding last_where
last_more p zero some = absurd (not-suc-le-zero some)
last_more p (suc g) some = rw (before g)

pub last_end : (p : ℕ → Bool) → last_where p 0 ≡ None
unfolding last_where
last_end p = refl

pub by_name_last : (groups : Table) (store : List ℕ) (entry len count : ℕ)
    → last_where (λ g. named (get_or groups g []) store entry len) count ≡ by_name groups store entry len count
unfolding by_name last_where
by_name_last groups store entry len zero = refl
by_name_last groups store entry len (suc g) =
    ap (pick (named (get_or groups g []) store entry len) (Some g)) (by_name_last groups store entry len g)

pub group_named_last : (groups : Table) (name : List ℕ) (count : ℕ)
    → last_where (λ g. has_name (get_or groups g []) name) count ≡ group_named groups name count
unfolding group_named last_where
group_named_last groups name zero = refl
group_named_last groups name (suc g) =
    ap (pick (has_name (get_or groups g []) name) (Some g)) (group_named_last groups name g)

pub named_more : (groups : Table) (name : List ℕ) (g : ℕ) → 0 < g → group_named groups name g
    ≡ pick (has_name (get_or groups (g - 1) []) name) (Some (g - 1)) (group_named groups name (g - 1))
unfolding group_named
named_more groups name zero some = absurd (not-suc-le-zero some)
named_more groups name (suc g) some = rw (before g)

pub named_end : (groups : Table) (name : List ℕ) (g : ℕ) → g ≤ 0 → group_named groups name g ≡ None
unfolding group_named
named_end groups name g out = let none : g ≡ 0 = omega arith in rw none

-- ---- an idle list, from its end

module _ (keys actors : Table) (g : ℕ) where
  pub idle_more : (n : ℕ) (row : List ℕ) (k : ℕ) → 0 < n → last_of row ≡ Some k → pop_idle_row keys actors g n row
      ≡ pick (idle_key keys actors g k) (popped (pop_end row) (Some k)) (pop_idle_row keys actors g (n - 1) (pop_end row))
  unfolding pop_idle_row
  idle_more zero row k some last = absurd (not-suc-le-zero some)
  idle_more (suc n) row k some last = rw (before n, last, pop_idle_row)

  pub idle_past : (n : ℕ) (row : List ℕ) → 0 < n → last_of row ≡ None → pop_idle_row keys actors g n row
      ≡ pop_idle_row keys actors g (n - 1) (pop_end row)
  unfolding pop_idle_row
  idle_past zero row some last = absurd (not-suc-le-zero some)
  idle_past (suc n) row some last = rw (before n, last, pop_idle_row)

  pub idle_end : (n : ℕ) (row : List ℕ) → n ≤ 0 → pop_idle_row keys actors g n row ≡ popped row None
  unfolding pop_idle_row
  idle_end n row out = let none : n ≡ 0 = omega arith in rw none

-- ---- the keys, in rising order

module _ (given : List ℕ) (links : Table) (g k : ℕ) (best : Option ℕ) where
  pub least_more : k < 16
      → least_from given (better_of links g) (16 - k) k best
      ≡ least_from given (better_of links g) (16 - (k + 1)) (k + 1)
      (pick (contains_of given k) (better_of links g best k) best)
  unfolding least_from
  least_more inside = let more : 16 - k ≡ suc (16 - (k + 1)) = omega arith in rw more

  pub least_end : 16 ≤ k → least_from given (better_of links g) (16 - k) k best ≡ best
  unfolding least_from
  least_end out = let none : 16 - k ≡ 0 = omega arith in rw none

pub ruleset least = (least_more, least_end)

-- ---- messages that are over

pub over_more : (links rows : Table) (from n : ℕ) → 0 < n → over_all links rows from n
    ≡ over_all (over_first links rows from) rows from (n - 1)
unfolding over_all
over_more links rows from zero some = absurd (not-suc-le-zero some)
over_more links rows from (suc n) some = rw (before n)

pub over_end : (links rows : Table) (from n : ℕ) → n ≤ 0 → over_all links rows from n ≡ links
unfolding over_all
over_end links rows from n out = let none : n ≡ 0 = omega arith in rw none

pub ruleset over = (over_more, over_end)
