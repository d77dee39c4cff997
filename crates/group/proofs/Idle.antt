-- An idle list that is gone through where it lies, from its end: what one pop of it leaves gives what it gave. Assumes
-- nothing.
use Rattle.std.specs.Prelude.{Option, Some, None}
use mathlib.Core.Path.{◌≡◌, refl, sym, ap, ◌∙◌}
use mathlib.Core.Bool.{true, false}
use mathlib.Core.List.{List, [], ◌∷◌}
use Prim.Native.Nat.{ℕ, zero, suc, ◌+◌, ◌-◌, ◌*◌, ◌≤◌, ◌<◌}
use native.Mathlib.Omega.{arith}
use native.Mathlib.Decide.{dec_lt}
use lib.Dec.{eqb}
use borrow.Author.Tests.{eq-eqb, lt-ltb, le-leb, ne_eqb}
use lib.ListN.{length, length-set, set, get_or-eq_default}
use lib.Seq.{set-get_or, set-set, get_or-set_same, get_or-set_other}
use Rattle.lists.specs.Links.{pick, Table}
use Rattle.lists.specs.KeyLists.{blank_row, keys_at, count_of, last_of, pop_end}
use Rattle.actor.specs.Questions.{slot_of}
use Rattle.group.specs.Roster.{idle_row, live_of, idle_key, Popped, popped, pop_idle_row, pop_idle_in, pop_idle_of}
use Rattle.group.proofs.Loops.{idle_more, idle_past}

-- the idle list does not say who is live
live_aside : (keys : Table) (g k : ℕ) (c : List ℕ) → live_of (set keys (idle_row g) c) g k ≡ live_of keys g k
unfolding live_of slot_of
live_aside keys g k c = go (dec_lt g 8)
  where
    go : Dec (g < 8) → live_of (set keys (idle_row g) c) g k ≡ live_of keys g k
    go (yes below) =
        rw (lt-ltb g 8 below, get_or-set_other keys (4 * g + 2) (4 * g) c blank_row (λ e. omega arith))
    go (no above) = rw (le-leb 8 g (omega arith))

pub idle_aside : (keys actors : Table) (g k : ℕ) (c : List ℕ) → idle_key (set keys (idle_row g) c) actors g k
    ≡ idle_key keys actors g k
unfolding idle_key
idle_aside keys actors g k c = rw (live_aside keys g k c)

row_aside : (keys actors : Table) (g n : ℕ) (c row : List ℕ) → pop_idle_row (set keys (idle_row g) c) actors g n row
    ≡ pop_idle_row keys actors g n row
unfolding pop_idle_row
row_aside keys actors g zero c row = refl
row_aside keys actors g (suc n) c row = go (row_aside keys actors g n c (pop_end row)) (last_of row)
  where
    -- what is done with the key that was popped, by the tables before and after
    by : Table → Option ℕ → Popped
    by t (Some k) = pick (idle_key t actors g k) (popped (pop_end row) (Some k)) (pop_idle_row t actors g n (pop_end row))
    by t None = pop_idle_row t actors g n (pop_end row)

    go : by (set keys (idle_row g) c) None ≡ by keys None → (k : Option ℕ) → by (set keys (idle_row g) c) k ≡ by keys k
    go rest (Some k) = simp (idle_aside keys actors g k c, rest)
    go rest None = rest

fewer_keys : (c : List ℕ) → 0 < count_of c → count_of (pop_end c) ≡ count_of c - 1
unfolding pop_end
fewer_keys [] some = absurd (omega arith)
fewer_keys (n ∷ c) some = rw (ne_eqb n 0 (λ e. omega arith))

less : (c : List ℕ) → count_of (pop_end c) ≡ count_of c - 1
unfolding pop_end
less c = go (dec_lt 0 (count_of c))
  where
    go : Dec (0 < count_of c) → count_of (pop_end c) ≡ count_of c - 1
    go (yes some) = fewer_keys c some
    go (no none) =
        let is : eqb (count_of c) 0 ≡ true = eq-eqb _ _ (omega arith) in
        rw is (omega arith)

-- a row whose last key there is has keys
some : (c : List ℕ) (k : ℕ) → last_of c ≡ Some k → 0 < count_of c
some c k last = go (dec_lt 0 (count_of c))
  where
    go : Dec (0 < count_of c) → 0 < count_of c
    go (yes p) = p
    go (no p) = let none : count_of c ≡ 0 = omega arith in let e = rw none at last in cc

module _ (keys actors : Table) (g : ℕ) where
  abbrev pub row : List ℕ
  row = keys_at keys (idle_row g)

  abbrev pub next : Table
  next = set keys (idle_row g) (pop_end row)

  inside : 0 < count_of row → idle_row g < length keys
  inside h = go (dec_lt (idle_row g) (length keys))
    where
      go : Dec (idle_row g < length keys) → idle_row g < length keys
      go (yes p) = p
      go (no p) = absurd (omega (arith, h, ap (λ (c : List ℕ). count_of c) (get_or-eq_default keys blank_row {n = idle_row g} (omega arith))))

  left : 0 < count_of row → keys_at next (idle_row g) ≡ pop_end row
  left h = get_or-set_same keys (idle_row g) (pop_end row) blank_row (inside h)

  rest : 0 < count_of row → pop_idle_of next actors g
      ≡ pop_idle_in keys g (pop_idle_row keys actors g (count_of row - 1) (pop_end row))
  unfolding pop_idle_of
  rest h = simp (left h, less row, row_aside keys actors g (count_of row - 1) (pop_end row) (pop_end row), set-set keys (idle_row g))

  pub idle_found : (k : ℕ) → last_of row ≡ Some k → idle_key keys actors g k ≡ true
      → pop_idle_of keys actors g ≡ record { keys = next; key = Some k }
  unfolding pop_idle_of
  idle_found k last idle = rw (idle_more keys actors g (count_of row) row k (some row k last) last, idle)

  pub idle_passed : (k : ℕ) → last_of row ≡ Some k → idle_key keys actors g k ≡ false
      → pop_idle_of keys actors g ≡ pop_idle_of next actors g
  unfolding pop_idle_of
  idle_passed k last busy =
      rw (idle_more keys actors g (count_of row) row k (some row k last) last, busy) (sym (rest (some row k last)))

  pub idle_blank : last_of row ≡ None → pop_idle_of keys actors g ≡ pop_idle_of next actors g
  unfolding pop_end pop_idle_of
  idle_blank last = go (dec_lt 0 (count_of row))
    where
      go : Dec (0 < count_of row) → pop_idle_of keys actors g ≡ pop_idle_of next actors g
      go (yes p) = ap (pop_idle_in keys g) (idle_past keys actors g (count_of row) row p last) ∙ sym (rest p)
      go (no p) =
          let none : eqb (count_of row) 0 ≡ true = eq-eqb _ _ (omega arith) in
          rw (none, set-get_or keys (idle_row g) blank_row)

  pub idle_ends : count_of row ≡ 0 → pop_idle_of keys actors g ≡ record { keys = keys; key = None }
  unfolding pop_idle_of pop_idle_row
  idle_ends none = simp (none, set-get_or keys (idle_row g) blank_row)

pub fewer : (keys : Table) (i : ℕ) → count_of (keys_at (set keys i (pop_end (keys_at keys i))) i)
    ≡ count_of (keys_at keys i) - 1
fewer keys i = go (dec_lt i (length keys))
  where
    go : Dec (i < length keys) → count_of (keys_at (set keys i (pop_end (keys_at keys i))) i)
        ≡ count_of (keys_at keys i) - 1
    go (yes p) = rw (get_or-set_same keys i (pop_end (keys_at keys i)) blank_row p) (less (keys_at keys i))
    go (no p) =
        let out : length (set keys i (pop_end (keys_at keys i))) ≤ i = omega (arith, length-set {A = List ℕ}) in
        let empty = get_or-eq_default keys blank_row {n = i} (omega arith) in
        rw (get_or-eq_default (set keys i (pop_end (keys_at keys i))) blank_row {n = i} out, empty)

-- what one turn of the loop needs
pub ruleset popping = (idle_found, idle_passed, idle_blank, idle_ends, idle_aside, fewer)
