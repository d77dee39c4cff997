-- Laws of chains of links. Assumes nothing.
use mathlib.Core.Path.{◌≡◌, refl, ap}
use mathlib.Core.Logic.{◌≢◌}
use mathlib.Core.List.{List, ◌∷◌, ◌++◌}
use Prim.Native.Nat.{ℕ, zero, suc, ◌+◌, ◌-◌, ◌≤◌, ◌<◌}
use native.Mathlib.Nat.{zero-add, suc-add, suc-sub-suc, sub-zero}
use native.Mathlib.Omega.{arith}
use native.Mathlib.Decide.{ℕ_discrete}
use lib.ListN.{length, get_or, take, drop}
use Rattle.lists.specs.Links.{Table, next_of, set_ends, set_next}
use Rattle.lists.specs.Family.{count, last_d, chain, up_from}
use Rattle.lists.proofs.Counts.{count_same, count_other, count_last}
use Rattle.lists.proofs.Cells.{ends_next, next_same, next_other}

pub length_chain : (t : Table) (n h : ℕ) → length (chain t n h) ≡ n
unfolding chain
length_chain t zero h = refl
length_chain t (suc n) h = ap suc (length_chain t n (next_of t h))

pub first_chain : (t : Table) (n h : ℕ) → 0 < n → get_or (chain t n h) 0 0 ≡ h
unfolding chain
first_chain t zero h some = absurd (omega arith)
first_chain t (suc n) h some = refl

pub after_chain : (t : Table) (n h i : ℕ) → suc i < n → get_or (chain t n h) (suc i) 0
    ≡ next_of t (get_or (chain t n h) i 0)
unfolding chain
after_chain t zero h i p = absurd (omega arith)
after_chain t (suc zero) h i p = absurd (omega arith)
after_chain t (suc (suc n)) h zero p = refl
after_chain t (suc (suc n)) h (suc i) p = after_chain t (suc n) (next_of t h) i (omega arith)

pub take_chain : (t : Table) (i n h : ℕ) → i ≤ n → take i (chain t n h) ≡ chain t i h
unfolding chain
take_chain t zero n h p = refl
take_chain t (suc i) zero h p = absurd (omega arith)
take_chain t (suc i) (suc n) h p = ap (λ (l : List ℕ). h ∷ l) (take_chain t i n (next_of t h) (omega arith))

-- what follows the first i entries starts at the link of the last of them
pub drop_chain : (t : Table) (i n h : ℕ) → 0 < i → i ≤ n → drop i (chain t n h)
    ≡ chain t (n - i) (next_of t (get_or (chain t n h) (i - 1) 0))
unfolding chain
drop_chain t zero n h some p = absurd (omega arith)
drop_chain t (suc i) zero h some p = absurd (omega arith)
drop_chain t (suc zero) (suc n) h some p = rw (suc-sub-suc, sub-zero)
drop_chain t (suc (suc i)) (suc n) h some p =
    let same : suc (suc i) - 1 ≡ suc (suc i - 1) = omega arith in
    rw (same, suc-sub-suc n (suc i)) (drop_chain t (suc i) n (next_of t h) (omega arith) (omega arith))

-- the ends of a list do not matter to a chain
pub chain_ends : (t : Table) (k f a m : ℕ) (n h : ℕ) → chain (set_ends t k f a m) n h ≡ chain t n h
unfolding chain
chain_ends t k f a m zero h = refl
chain_ends t k f a m (suc n) h = rw (ends_next t k f a m h) (ap (λ (l : List ℕ). h ∷ l)
    (chain_ends t k f a m n (next_of t h)))

-- the link of an entry that is not in a chain does not matter to it
pub chain_frame : (t : Table) (e v n h : ℕ) → count e (chain t n h) ≡ 0 → chain (set_next t e v) n h ≡ chain t n h
unfolding chain
chain_frame t e v zero h p = refl
chain_frame t e v (suc n) h p = go (ℕ_discrete h e) (chain_frame t e v n (next_of t h))
  where
    rest : List ℕ
    rest = chain t n (next_of t h)

    go : Dec (h ≡ e) → (count e rest ≡ 0 → chain (set_next t e v) n (next_of t h) ≡ rest)
        → h ∷ chain (set_next t e v) n (next_of (set_next t e v) h) ≡ h ∷ rest
    go (yes q) below = absurd (omega (arith, count_same e h rest q))
    go (no q) below = rw (next_other t e v h q) (ap (λ (l : List ℕ). h ∷ l)
        (below (omega (arith, count_other e h rest q))))

-- the link of a chain's last entry is set to v: the chain goes on from v
pub chain_join : (t : Table) (e v m d n h : ℕ) → 0 < n → e < length t → last_d d (chain t n h) ≡ e
    → count e (chain t n h) ≡ 1
    → chain (set_next t e v) (n + m) h ≡ chain t n h ++ chain (set_next t e v) m v
unfolding chain last_d
chain_join t e v m d zero h some e-is is_last only = absurd (omega arith)
chain_join t e v m d (suc zero) h some e-is is_last only = rw (suc-add, zero-add, is_last, next_same t e v e-is)
chain_join t e v m d (suc (suc n)) h some e-is is_last only =
    rw (suc-add, next_other t e v h other)
    (ap (λ (l : List ℕ). h ∷ l) (chain_join t e v m h (suc n) (next_of t h) (omega arith) e-is is_last
    (omega (arith, count_other e h rest other))))
  where
    rest : List ℕ
    rest = chain t (suc n) (next_of t h)

    there : 0 < count e rest
    there = rw is_last at (count_last h (next_of t h) (chain t n (next_of t (next_of t h))))

    other : h ≢ e
    other q = omega (arith, there, count_same e h rest q)

-- where each entry links to the next number, a chain counts up
pub chain_up : (t : Table) (top : ℕ) → ((k : ℕ) → suc k < top → next_of t k ≡ suc k) → (n h : ℕ) → h + n ≤ top
    → chain t n h ≡ up_from h n
unfolding chain up_from
chain_up t top links zero h p = refl
chain_up t top links (suc zero) h p = refl
chain_up t top links (suc (suc n)) h p =
    rw (links h (omega arith)) (ap (λ (l : List ℕ). h ∷ l) (chain_up t top links (suc n) (suc h) (omega arith)))
