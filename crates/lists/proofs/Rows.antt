-- Laws of the loops over a row of keys: the shift, the scan, the squeeze and the walk. Assumes nothing.
use Rattle.std.specs.Prelude.{Some, None}
use mathlib.Core.Path.{◌≡◌, refl, ap}
use mathlib.Core.List.{List, [], ◌∷◌}
use Prim.Native.Nat.{ℕ, zero, suc, ◌+◌, ◌-◌, ◌≤◌, ◌<◌}
use native.Mathlib.Numerals.{add-one}
use native.Mathlib.Nat.{not-suc-le-zero, le_of_suc-le-suc}
use native.Mathlib.Omega.{arith}
use native.Mathlib.Decide.{dec_lt}
use lib.Dec.{eqb}
use lib.ListN.{length, get_or, set, take, drop, drop_of_length-le, length-drop}
use lib.Seq.{take_all, drop-cons}
use Rattle.std.specs.List.{list_any}
use Rattle.std.specs.Prelude.{nat_eq, min}
use Rattle.std.proofs.lemmas.Grind.{common_steps}
use Rattle.lists.specs.Links.{pick}
use Rattle.lists.proofs.Tables.{row_in, again}
use Rattle.lists.specs.Slabs.{contains_of, next_key}
use Rattle.lists.specs.KeyLists.{elem, moved_last, add_absent, squeeze_of}

-- ---- the shift

shift_suc : (l : List ℕ) (j d a : ℕ) → suc j < length l → moved_last (set l j (get_or l (suc j) d)) (suc j) a
    ≡ moved_last l j a
unfolding moved_last
shift_suc [] j d a h = absurd (not-suc-le-zero h)
shift_suc (x ∷ []) zero d a h = absurd (not-suc-le-zero (le_of_suc-le-suc h))
shift_suc (x ∷ y ∷ r) zero d a h = refl
shift_suc (x ∷ []) (suc j) d a h = absurd (not-suc-le-zero (le_of_suc-le-suc h))
shift_suc (x ∷ y ∷ r) (suc j) d a h = ap {B = List ℕ} (λ s. x ∷ s) (shift_suc (y ∷ r) j d a (le_of_suc-le-suc h))

-- one turn of the loop that moves the cells after j down by one
pub shift_step : (l : List ℕ) (j d a : ℕ) → j + 1 < length l → moved_last (set l j (get_or l (j + 1) d)) (j + 1) a
    ≡ moved_last l j a
shift_step l j d a h = rw add-one (shift_suc l j d a (omega arith))

-- the store after the loop
pub shift_end : (l : List ℕ) (j a : ℕ) → length l ≡ suc j → set l j a ≡ moved_last l j a
unfolding moved_last
shift_end [] j a h = refl
shift_end (x ∷ []) zero a h = refl
shift_end (x ∷ y ∷ r) zero a h = absurd (omega arith)
shift_end (x ∷ []) (suc j) a h = refl
shift_end (x ∷ y ∷ r) (suc j) a h = ap {B = List ℕ} (λ s. x ∷ s) (shift_end (y ∷ r) j a (omega arith))

-- a row without a key has nothing to move
pub shift_short : (l : List ℕ) (a : ℕ) → length l < 2 → moved_last l 1 a ≡ l
unfolding moved_last
shift_short [] a h = refl
shift_short (x ∷ []) a h = refl
shift_short (x ∷ y ∷ r) a h = absurd (omega arith)

-- ---- the scan

-- the keys of a row are looked through by the library's `any`
pub elem_any : (k : ℕ) (l : List ℕ) → list_any (λ x. nat_eq x k) l ≡ elem k l
unfolding elem
elem_any k [] = refl
elem_any k (x ∷ xs) = grind (arith, common_steps, elem_any k xs)

-- what stands after the first cell is all of it
pub rest_all : (c : List ℕ) (n : ℕ) → length c ≤ n + 1 → take n (drop 1 c) ≡ drop 1 c
rest_all c n long = take_all n (drop 1 c) (omega (arith, length-drop 1 c))

-- the first n of them, as far as there are any
pub held_keys : (c : List ℕ) (n m k : ℕ) → length c ≤ m + 1 → k ≡ min (length (take m (drop 1 c))) n
    → take k (take m (drop 1 c)) ≡ take n (drop 1 c)
held_keys c n m k long least = rw (rest_all c m long) (cut (dec_lt n (length (drop 1 c))))
  where
    same : k ≡ min (length (drop 1 c)) n
    same = rw (rest_all c m long) at least

    cut : Dec (n < length (drop 1 c)) → take k (drop 1 c) ≡ take n (drop 1 c)
    cut (yes few) = let e : k ≡ n = omega (arith, same) in rw e
    cut (no more) = rw (take_all k (drop 1 c) (omega (arith, same)), take_all n (drop 1 c) (omega arith))

-- ---- the squeeze

pub squeeze_more : (out c : List ℕ) (i : ℕ) → i < length c → squeeze_of (add_absent out (get_or c i 0)) (drop (i + 1) c)
    ≡ squeeze_of out (drop i c)
unfolding squeeze_of
squeeze_more out c i inside = rw (drop-cons c i 0 inside, add-one)

pub squeeze_end : (out c : List ℕ) (i : ℕ) → length c ≤ i → squeeze_of out (drop i c) ≡ out
unfolding squeeze_of
squeeze_end out c i end = rw (drop_of_length-le c end)

-- what the functions over rows of keys need
pub ruleset rows = (shift_step, shift_end, shift_short, squeeze_more, squeeze_end, row_in, again)

-- ---- the walk

pub next_more : (s : List ℕ) (k : ℕ) → k < 16 → next_key s (16 - k) k ≡ pick (contains_of s k) (Some k)
    (next_key s (16 - (k + 1)) (k + 1))
unfolding next_key
next_more s k inside = let more : 16 - k ≡ suc (16 - (k + 1)) = omega arith in rw more

pub next_end : (s : List ℕ) (k : ℕ) → 16 ≤ k → next_key s (16 - k) k ≡ None
unfolding next_key
next_end s k out = let none : 16 - k ≡ 0 = omega arith in rw none
