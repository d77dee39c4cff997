-- The table that `start` makes: every entry is free, in rising order. Assumes nothing.
use mathlib.Core.Path.{◌≡◌, refl, sym, ap, ◌∙◌}
use mathlib.Core.Logic.{◌≢◌}
use mathlib.Core.List.{List, []}
use Prim.Native.Nat.{ℕ, zero, suc, ◌+◌, ◌≤◌, ◌<◌}
use native.Mathlib.Omega.{arith}
use native.Mathlib.Decide.{ℕ_discrete, dec_lt}
use borrow.Author.Tests.{ne_eqb}
use lib.ListN.{length, get_or, set, get_or-eq_default}
use lib.Seq.{get_or-set_same, get_or-set_other, ext_get_or}
use Rattle.lists.specs.declared.Link.{Link}
use Rattle.lists.specs.Links.{LISTS, ENTRIES, FREE, Table, link_of, link_at, head_of, tail_of, len_of, next_of}
use Rattle.lists.specs.Links.{start_row, start_from}
use Rattle.lists.specs.Family.{count, last_d, total, up_from, view, Started}
use Rattle.lists.proofs.Counts.{put, put_one, total_single, length_up, last_d_up, count_up_in, count_up_past}
use Rattle.lists.proofs.Chains.{chain_up}
use Rattle.lists.proofs.Family.{count_none, view_none}

-- ---- the loop

pub length_start : (i n : ℕ) → length (start_from i n) ≡ n
unfolding start_from
length_start i zero = refl
length_start i (suc n) = ap suc (length_start (suc i) n)

pub at_start : (i n k j : ℕ) → k < n → i + k ≡ j → get_or (start_from i n) k [] ≡ start_row j
unfolding start_from
at_start i zero k j p e = absurd (omega arith)
at_start i (suc n) zero j p e = let same : i ≡ j = omega arith in rw same
at_start i (suc n) (suc k) j p e = at_start (suc i) n k j (omega arith) (omega arith)

-- the rows below i are those of the start
abbrev pub Below : Table → ℕ → Type 0
Below t i = (k : ℕ) → k < i → get_or t k [] ≡ start_row k

pub below_more : (t : Table) (i : ℕ) → i < length t → Below t i → Below (set t i (start_row i)) (i + 1)
below_more t i i_is below k p = go (ℕ_discrete k i)
  where
    go : Dec (k ≡ i) → get_or (set t i (start_row i)) k [] ≡ start_row k
    go (yes here) = rw (here, get_or-set_same t i (start_row i) [] i_is)
    go (no other) = rw (get_or-set_other t i k (start_row i) [] other) (below k (omega arith))

pub below_all : (t : Table) (n : ℕ) → length t ≡ n → Below t n → t ≡ start_from 0 n
below_all t n long below =
    ext_get_or [] t (start_from 0 n) (omega (arith, length_start 0 n))
    (λ k p. below k (omega arith) ∙ sym (at_start 0 n k k (omega arith) (omega arith)))

-- ---- what the table means

abbrev table : Table
table = start_from 0 LISTS

row : (k : ℕ) → k < LISTS → link_at table k ≡ link_of (start_row k)
unfolding link_at
row k p = rw (at_start 0 LISTS k k p (omega arith))

no_row : (k : ℕ) → LISTS ≤ k → link_at table k ≡ link_of []
unfolding link_at
no_row k p = rw (get_or-eq_default table [] {n = k} (omega (arith, length_start 0 LISTS)))

free_head : head_of table FREE ≡ 0
free_head = ap (λ (l : Link). l.head) (row FREE (omega arith))

free_tail : tail_of table FREE ≡ 255
free_tail = ap (λ (l : Link). l.tail) (row FREE (omega arith))

free_len : len_of table FREE ≡ ENTRIES
free_len = ap (λ (l : Link). l.len) (row FREE (omega arith))

next_up : (k : ℕ) → k < LISTS → next_of table k ≡ suc k
next_up k p = ap (λ (l : Link). l.next) (row k p) ∙ omega arith

view_free : view table FREE ≡ up_from 0 ENTRIES
unfolding view
view_free = rw (free_len, free_head) (chain_up table ENTRIES (λ k p. next_up k (omega arith)) ENTRIES 0 (omega arith))

-- but for the free list each list is empty
other_len : (k : ℕ) → k ≢ FREE → len_of table k ≡ 0
other_len k other = go (dec_lt k LISTS)
  where
    go : Dec (k < LISTS) → len_of table k ≡ 0
    go (yes p) = ap (λ (l : Link). l.len) (row k p) ∙ rw (ne_eqb k FREE other)
    go (no p) = ap (λ (l : Link). l.len) (no_row k (omega arith))

view_other : (k : ℕ) → k ≢ FREE → view table k ≡ []
view_other k other = view_none table k (other_len k other)

now_view : view table ≡ put (λ _. []) FREE (up_from 0 ENTRIES)
now_view = put_one (view table) (λ _. []) FREE (up_from 0 ENTRIES) view_free view_other

weigh : (w : List ℕ → ℕ) → w [] ≡ 0 → total w LISTS (view table) ≡ w (up_from 0 ENTRIES)
weigh w none = rw now_view (total_single w LISTS FREE (up_from 0 ENTRIES) (omega arith) none)

lasts : (k : ℕ) → last_d (tail_of table k) (view table k) ≡ tail_of table k
unfolding last_d
lasts k = go (ℕ_discrete k FREE)
  where
    go : Dec (k ≡ FREE) → last_d (tail_of table k) (view table k) ≡ tail_of table k
    go (yes p) = rw (p, view_free, free_tail) (last_d_up 255 0 255)
    go (no p) = rw (view_other k p)

pub started : Started (start_from 0 LISTS)
started =
    record {
      good =
          record {
            sized = length_start 0 LISTS;
            lasts = lasts;
            once = λ e p. weigh (count e) (count_none e) ∙ count_up_in e 0 ENTRIES (omega arith) (omega arith);
            none = λ e p. weigh (count e) (count_none e) ∙ count_up_past e 0 ENTRIES (omega arith);
            whole = weigh length refl ∙ length_up 0 ENTRIES;
          };
      all = view_free;
      others = view_other;
    }
