-- What a row of the table holds after a store to it or to another one. Assumes nothing.
use mathlib.Core.Path.{◌≡◌, refl, ap, ◌∙◌}
use mathlib.Core.Logic.{◌≢◌}
use mathlib.Core.List.{List, [], ◌∷◌}
use Prim.Native.Nat.{ℕ, ◌≤◌, ◌<◌}
use native.Mathlib.Omega.{arith}
use native.Mathlib.Decide.{ℕ_discrete, dec_lt}
use lib.ListN.{length, set, length-set}
use lib.Seq.{get_or-set_same, get_or-set_other, set_out}
use Rattle.lists.specs.declared.Link.{Link}
use Rattle.lists.specs.Links.{ENTRIES, Table, link_of, link_at, head_of, tail_of, len_of, next_of, set_ends, set_next}
use Rattle.lists.specs.Links.{capped}

pub capped_small : (x : ℕ) → x ≤ ENTRIES → capped x ≡ x
capped_small x small = omega arith

-- rows that a store does not reach
module _ (t : Table) (i : ℕ) (c : List ℕ) where
  row_other : (j : ℕ) → j ≢ i → link_at (set t i c) j ≡ link_at t j
  unfolding link_at
  row_other j other = rw (get_or-set_other t i j c [] other)

  row_same : i < length t → link_at (set t i c) i ≡ link_of c
  unfolding link_at
  row_same i_is = rw (get_or-set_same t i c [] i_is)

  -- what a store leaves of each row: all that the row's new cells have as before
  row_keeps : (p : Link → ℕ) → p (link_of c) ≡ p (link_at t i) → (j : ℕ) → p (link_at (set t i c) j) ≡ p (link_at t j)
  row_keeps p same j = go (ℕ_discrete j i) (dec_lt i (length t))
    where
      go : Dec (j ≡ i) → Dec (i < length t) → p (link_at (set t i c) j) ≡ p (link_at t j)
      go (no other) d = ap p (row_other j other)
      go (yes here) (yes i_is) = rw here (ap p (row_same i_is) ∙ same)
      go (yes here) (no out) = rw (set_out t i c (omega arith))

module _ (t : Table) (k h a n : ℕ) where
  pub ends_length : length (set_ends t k h a n) ≡ length t
  unfolding set_ends
  ends_length = simp length-set

  ends_same : k < length t → link_at (set_ends t k h a n) k ≡ record { head = h; tail = a; len = n; next = next_of t k }
  unfolding set_ends
  ends_same k-is = row_same t k (h ∷ a ∷ n ∷ next_of t k ∷ []) k-is

  ends_other : (j : ℕ) → j ≢ k → link_at (set_ends t k h a n) j ≡ link_at t j
  unfolding set_ends
  ends_other = row_other t k (h ∷ a ∷ n ∷ next_of t k ∷ [])

  -- its ends and its length
  pub ends_head : k < length t → head_of (set_ends t k h a n) k ≡ h
  ends_head k-is = ap (λ (l : Link). l.head) (ends_same k-is)

  pub ends_tail : k < length t → tail_of (set_ends t k h a n) k ≡ a
  ends_tail k-is = ap (λ (l : Link). l.tail) (ends_same k-is)

  pub ends_len : k < length t → len_of (set_ends t k h a n) k ≡ n
  ends_len k-is = ap (λ (l : Link). l.len) (ends_same k-is)

  -- and those of every other list
  module _ (j : ℕ) (other : j ≢ k) where
    pub ends_other_head : head_of (set_ends t k h a n) j ≡ head_of t j
    ends_other_head = ap (λ (l : Link). l.head) (ends_other j other)

    pub ends_other_tail : tail_of (set_ends t k h a n) j ≡ tail_of t j
    ends_other_tail = ap (λ (l : Link). l.tail) (ends_other j other)

    pub ends_other_len : len_of (set_ends t k h a n) j ≡ len_of t j
    ends_other_len = ap (λ (l : Link). l.len) (ends_other j other)

  -- no link changes
  pub ends_next : (e : ℕ) → next_of (set_ends t k h a n) e ≡ next_of t e
  unfolding set_ends
  ends_next = row_keeps t k (h ∷ a ∷ n ∷ next_of t k ∷ []) (λ (l : Link). l.next) refl

module _ (t : Table) (e v : ℕ) where
  abbrev cells : List ℕ
  cells = head_of t e ∷ tail_of t e ∷ len_of t e ∷ v ∷ []

  pub next_length : length (set_next t e v) ≡ length t
  unfolding set_next
  next_length = simp length-set

  pub next_same : e < length t → next_of (set_next t e v) e ≡ v
  unfolding set_next
  next_same e-is = ap (λ (l : Link). l.next) (row_same t e cells e-is)

  pub next_other : (j : ℕ) → j ≢ e → next_of (set_next t e v) j ≡ next_of t j
  unfolding set_next
  next_other j other = ap (λ (l : Link). l.next) (row_other t e cells j other)

  -- no list's ends and length change
  pub next_head : (k : ℕ) → head_of (set_next t e v) k ≡ head_of t k
  unfolding set_next
  next_head = row_keeps t e cells (λ (l : Link). l.head) refl

  pub next_tail : (k : ℕ) → tail_of (set_next t e v) k ≡ tail_of t k
  unfolding set_next
  next_tail = row_keeps t e cells (λ (l : Link). l.tail) refl

  pub next_len : (k : ℕ) → len_of (set_next t e v) k ≡ len_of t k
  unfolding set_next
  next_len = row_keeps t e cells (λ (l : Link). l.len) refl
