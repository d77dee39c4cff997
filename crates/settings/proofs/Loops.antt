-- Laws of the loops: one turn of each, and its end. Assumes nothing.
use mathlib.Core.Path.{◌≡◌, refl, sym, ap, ◌∙◌}
use mathlib.Core.Bool.{true, false, ◌&&◌}
use mathlib.Core.List.{List, [], ◌∷◌, ◌++◌, append_assoc}
use Prim.Native.Nat.{ℕ, suc, ◌+◌, ◌-◌, ◌≤◌, ◌<◌}
use native.Mathlib.Numerals.{add-one}
use native.Mathlib.Omega.{arith}
use lib.Dec.{ltb}
use lib.ListN.{length, length-drop, get_or, take, drop, set, replicate, take-append-drop, drop_of_length-le}
use lib.ListN.{replicate-append-replicate}
use lib.Seq.{drop-cons, take-suc-set, drop-set-lt, take_all}
use Rattle.lists.specs.Links.{pick, Table, FREE, move_first, PENDING}
use Rattle.actor.specs.Messages.{put_message}
use Rattle.settings.specs.Ranges.{all_bytes, row_fits, rows_fit, pool_row, groups_from}
use Rattle.settings.specs.Tables.{left_at, left_message, put_left}

-- one element more of a list, as the code counts
more : {A : Type 0} (l : List A) (i : ℕ) (d : A) → i < length l → drop i l ≡ get_or l i d ∷ drop (i + 1) l
more l i d inside = rw add-one (drop-cons l i d inside)

-- ---- the bytes of a name

pub cells_more : (bs : List ℕ) (i : ℕ) → i < length bs
    → all_bytes (drop i bs) ≡ pick (ltb 255 (get_or bs i 0)) false (all_bytes (drop (i + 1) bs))
unfolding all_bytes
cells_more bs i inside = ap all_bytes (more bs i 0 inside)

pub cells_end : (bs : List ℕ) (i : ℕ) → length bs ≤ i → all_bytes (drop i bs) ≡ true
unfolding all_bytes
cells_end bs i out = rw (drop_of_length-le bs out)

-- the cells from 5 on are 32
pub cells_all : (row : List ℕ) → length row ≡ 37 → take 32 (drop 5 row) ≡ drop 5 row
cells_all row long = take_all 32 (drop 5 row) (omega (arith, length-drop 5 row))

pub ruleset cells = (cells_more, cells_end, cells_all)

-- ---- the groups' settings, row by row

pub rows_more : (given : Table) (g : ℕ) → g < length given
    → rows_fit (drop g given) ≡ (row_fits (get_or given g []) && rows_fit (drop (g + 1) given))
unfolding rows_fit
rows_more given g inside = ap rows_fit (more given g [] inside)

pub rows_end : (given : Table) (g : ℕ) → length given ≤ g → rows_fit (drop g given) ≡ true
unfolding rows_fit
rows_end given g out = rw (drop_of_length-le given out)

-- ---- the groups' rows: those below g are written, the others are left

abbrev pub written : ℕ → Table → Table → ℕ → Table
written most groups given g = take g groups ++ groups_from most (drop g groups) (drop g given)

none_given : (most : ℕ) (groups : Table) → groups_from most groups [] ≡ groups
unfolding groups_from
none_given most [] = refl
none_given most (old ∷ olds) = refl

module _ (most : ℕ) (groups given : Table) (g : ℕ) where
  pub groups_more : g < length groups → g < length given → written most (set groups g (pool_row most (get_or given g [])))
      given (g + 1) ≡ written most groups given g
  unfolding groups_from
  groups_more in_table in-given =
      let new = pool_row most (get_or given g []) in
      let below : take (g + 1) (set groups g new) ≡ take g groups ++ (new ∷ []) =
      rw add-one (take-suc-set groups g new in_table) in
      let above : drop (g + 1) (set groups g new) ≡ drop (g + 1) groups = drop-set-lt (g + 1) groups g new
      (omega arith) in
      rw (below, above, append_assoc, more groups g [] in_table, more given g [] in-given)

  pub groups_full : length groups ≤ g → written most groups given g ≡ groups
  unfolding groups_from
  groups_full full =
      let none = drop_of_length-le groups full in
      rw none (rw none at (take-append-drop g groups))

  pub groups_end : length given ≤ g → written most groups given g ≡ groups
  groups_end out = rw (drop_of_length-le given out, none_given most (drop g groups)) (take-append-drop g groups)

pub ruleset groups = (groups_more, groups_full, groups_end)

-- ---- lists of keys made empty: those below i are

pub blank_more : (t : Table) (row : List ℕ) (i : ℕ) → i < length t → take i t ≡ replicate i row
    → take (i + 1) (set t i row) ≡ replicate (i + 1) row
blank_more t row i inside below = rw (add-one, take-suc-set t i row inside, below) (replicate-append-replicate i 1 row
    ∙ ap (λ n. replicate n row) (add-one i))

pub blank_end : (t : Table) (row : List ℕ) (n i : ℕ) → length t ≡ n → n ≤ i → i ≤ n → take i t ≡ replicate i row
    → t ≡ replicate n row
blank_end t row n i long out within below =
    let all : i ≡ n = omega arith in
    sym (take_all i t (omega arith)) ∙ (below ∙ ap (λ k. replicate k row) all)

-- ---- the messages left, in order

module _ (t rows left : Table) (i n : ℕ) where
  pub left_more : i < n → put_left t rows left i (n - i) ≡ put_left (move_first t FREE PENDING)
      (put_message rows i (left_message (left_at left i))) left (i + 1) (n - (i + 1))
  unfolding put_left
  left_more inside = let some : n - i ≡ suc (n - (i + 1)) = omega arith in rw (some, add-one)

  pub left_end : n ≤ i → put_left t rows left i (n - i) ≡ record { links = t; rows = rows }
  unfolding put_left
  left_end out = let none : n - i ≡ 0 = omega arith in rw none
