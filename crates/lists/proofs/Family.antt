-- What holds of every well-formed family, and what keeps a family well formed. Assumes nothing.
use mathlib.Core.Path.{◌≡◌, refl, sym, ap, ◌∙◌}
use mathlib.Core.Logic.{◌≢◌}
use mathlib.Core.List.{List, [], ◌∷◌}
use Prim.Native.Nat.{ℕ, zero, suc, ◌+◌, ◌≤◌, ◌<◌}
use native.Mathlib.Omega.{arith}
use native.Mathlib.Decide.{ℕ_discrete, dec_lt}
use borrow.Author.Tests.{eq-eqb, ne_eqb}
use lib.ListN.{length, get_or, get_or-eq_default}
use Rattle.lists.specs.Links.{LISTS, ENTRIES, Table, link_at, head_of, tail_of, len_of, next_of, first_of}
use Rattle.lists.specs.Family.{count, last_d, total, first_in, chain, view, Good, Follows}
use Rattle.lists.proofs.Counts.{put, put_two, last_in_lem, count_same, total_kept, total_two, total_one}
use Rattle.lists.proofs.Chains.{length_chain, first_chain, after_chain}

-- ---- of every table

pub length_view : (t : Table) (k : ℕ) → length (view t k) ≡ len_of t k
unfolding view
length_view t k = length_chain t (len_of t k) (head_of t k)

pub view_none : (t : Table) (k : ℕ) → len_of t k ≡ 0 → view t k ≡ []
unfolding view chain
view_none t k none = rw none

pub first_view : (t : Table) (k : ℕ) → 0 < length (view t k) → get_or (view t k) 0 0 ≡ head_of t k
first_view t k some = unfold view in first_chain t (len_of t k) (head_of t k) (omega (arith, length_view t k))

-- `first` tells the first of the list, and that there is none
pub first_is : (t : Table) (k : ℕ) → first_of t k ≡ first_in (view t k)
unfolding view chain
first_is t k = go (len_of t k) refl
  where
    go : (n : ℕ) → len_of t k ≡ n → first_of t k ≡ first_in (chain t n (head_of t k))
    go zero p = rw (eq-eqb (len_of t k) 0 p)
    go (suc n) p = rw (ne_eqb (len_of t k) 0 (λ z. omega arith))

-- `after` tells what follows an entry in its list
pub after_is : (t : Table) (e : ℕ) → Follows t e (next_of t e)
after_is t e k i p here =
    let inside : suc i < len_of t k = omega (arith, length_view t k) in
    rw (← here) (unfold view in sym (after_chain t (len_of t k) (head_of t k) i inside))

pub count_none : (e : ℕ) → count e [] ≡ 0
unfolding count
count_none e = refl

-- what stands at a place of a list is counted in it
pub count_at : (xs : List ℕ) (i : ℕ) → i < length xs → 0 < count (get_or xs i 0) xs
unfolding count
count_at [] i p = absurd (omega arith)
count_at (x ∷ xs) zero p = omega (arith, count_same x x xs refl)
count_at (x ∷ xs) (suc i) p = omega (arith, count_at xs i (omega arith))

pub count_more : (e x : ℕ) (xs : List ℕ) → count e xs ≤ count e (x ∷ xs)
unfolding count
count_more e x xs = omega arith

-- of two places of a list that have the same, each counts
pub count_twice : (xs : List ℕ) (i j : ℕ) → i < j → j < length xs → get_or xs i 0 ≡ get_or xs j 0
    → 1 < count (get_or xs j 0) xs
count_twice [] i j p q same = absurd (omega arith)
count_twice (x ∷ xs) zero zero p q same = absurd (omega arith)
count_twice (x ∷ xs) zero (suc j) p q same = omega (
  arith,
  count_same (get_or xs j 0) x xs same,
  count_at xs j (omega arith),
)
count_twice (x ∷ xs) (suc i) zero p q same = absurd (omega arith)
count_twice (x ∷ xs) (suc i) (suc j) p q same = omega (
  arith,
  count_twice xs i j (omega arith) (omega arith) same,
  count_more (get_or xs j 0) x xs,
)

-- past the table's end every list is empty
pub len_past : (t : Table) (k : ℕ) → length t ≤ k → len_of t k ≡ 0
unfolding link_at
len_past t k out = rw (get_or-eq_default t [] {n = k} out)

-- ---- of a well-formed one

-- r is t but for the lists i and j, which are a and b, and hold together what they held
pub record Change (t r : Table) (i j : ℕ) (a b : List ℕ) : Type 0 where
  pub sized : length r ≡ LISTS
  pub i_is : i < LISTS
  pub j_is : j < LISTS
  pub apart : i ≢ j
  pub at_i : view r i ≡ a
  pub at_j : view r j ≡ b
  pub others : (k : ℕ) → k ≢ i → k ≢ j → view r k ≡ view t k
  pub last_i : last_d (tail_of r i) a ≡ tail_of r i
  pub last_j : last_d (tail_of r j) b ≡ tail_of r j
  pub last_others : (k : ℕ) → k ≢ i → k ≢ j → tail_of r k ≡ tail_of t k
  pub counts : (e : ℕ) → count e a + count e b ≡ count e (view t i) + count e (view t j)
  pub lengths : length a + length b ≡ length (view t i) + length (view t j)

module _ (t : Table) (good : Good t) where
  -- past the last list there is nothing
  pub view_past : (k : ℕ) → LISTS ≤ k → view t k ≡ []
  view_past k h = view_none t k (len_past t k (omega (arith, good.sized)))

  at_most_one : (e : ℕ) → total (count e) LISTS (view t) ≤ 1
  at_most_one e = go (dec_lt e ENTRIES)
    where
      go : Dec (e < ENTRIES) → total (count e) LISTS (view t) ≤ 1
      go (yes p) = omega (arith, good.once e p)
      go (no q) = omega (arith, good.none e (omega arith))

  -- an entry stands at most once in a list
  pub single : (e k : ℕ) → k < LISTS → count e (view t k) ≤ 1
  single e k k-is = omega (arith, at_most_one e, total_one (count e) LISTS (view t) k k-is (count_none e))

  -- so no chain has a circle: what stands at two places of a list is not the same
  pub no_circle : (k i j : ℕ) → k < LISTS → i < j → j < length (view t k) → get_or (view t k) i 0 ≢ get_or (view t k) j 0
  no_circle k i j k-is before inside same = omega (
    arith,
    count_twice (view t k) i j before inside same,
    single (get_or (view t k) j 0) k k-is,
  )

  -- an entry of one list stands in no other
  pub nowhere_else : (e k j : ℕ) → k < LISTS → 0 < count e (view t k) → j ≢ k → count e (view t j) ≡ 0
  nowhere_else e k j k-is there other = go (dec_lt j LISTS)
    where
      go : Dec (j < LISTS) → count e (view t j) ≡ 0
      go (yes p) = omega (arith, at_most_one e, total_two (count e) LISTS (view t) j k p k-is other (count_none e))
      go (no q) = ap (count e) (view_past j (omega arith)) ∙ count_none e

  -- what stands in a list is an entry
  pub entry : (e k : ℕ) → k < LISTS → 0 < count e (view t k) → e < ENTRIES
  entry e k k-is there = go (dec_lt e ENTRIES)
    where
      go : Dec (e < ENTRIES) → e < ENTRIES
      go (yes p) = p
      go (no q) = absurd (omega (
        arith,
        good.none e (omega arith),
        total_one (count e) LISTS (view t) k k-is
            (count_none e),
      ))

  -- a list holds no more than all the entries
  pub at_most_all : (k : ℕ) → k < LISTS → length (view t k) ≤ ENTRIES
  at_most_all k k-is = omega (arith, good.whole, total_one length LISTS (view t) k k-is refl)

  -- two lists hold no more than all the entries
  pub room : (i j : ℕ) → i < LISTS → j < LISTS → i ≢ j → len_of t i + len_of t j ≤ ENTRIES
  room i j i_is j_is apart =
      omega (
        arith,
        good.whole,
        total_two length LISTS (view t) i j i_is j_is apart refl,
        length_view t i,
        length_view t j,
      )

  -- the tail of a list that is not empty stands in it
  pub tail_in : (k : ℕ) → 0 < length (view t k) → 0 < count (tail_of t k) (view t k)
  tail_in k some = last_in_lem (tail_of t k) (view t k) some (good.lasts k)

  -- such a change keeps a family well formed
  module _ (r : Table) (i j : ℕ) (a b : List ℕ) (change : Change t r i j a b) where
    change_view : view r ≡ put (put (view t) i a) j b
    change_view = put_two (view r) (view t) i j a b change.apart change.at_i change.at_j change.others

    weigh : (w : List ℕ → ℕ) → w a + w b ≡ w (view t i) + w (view t j) → total w LISTS (view r)
        ≡ total w LISTS (view t)
    weigh w same = rw change_view (total_kept w LISTS (view t) i j change.i_is change.j_is change.apart a b
        same)

    change_lasts : (k : ℕ) → last_d (tail_of r k) (view r k) ≡ tail_of r k
    change_lasts k = go (ℕ_discrete k i) (ℕ_discrete k j)
      where
        go : Dec (k ≡ i) → Dec (k ≡ j) → last_d (tail_of r k) (view r k) ≡ tail_of r k
        go (yes p) d = rw (p, change.at_i) change.last_i
        go (no p) (yes q) = rw (q, change.at_j) change.last_j
        go (no p) (no q) = rw (change.others k p q, change.last_others k p q) (good.lasts k)

    pub change_good : Good r
    change_good =
        record {
          sized = change.sized;
          lasts = change_lasts;
          once = λ e p. weigh (count e) (change.counts e) ∙ good.once e p;
          none = λ e p. weigh (count e) (change.counts e) ∙ good.none e p;
          whole = weigh length change.lengths ∙ good.whole;
        }
