-- Links and operations that the statements rule out, each by the clause that is false of it. Assumes nothing.
use mathlib.Core.Path.{◌≡◌, sym, ap, ◌∙◌}
use mathlib.Core.Logic.{◌≢◌}
use mathlib.Core.List.{List, [], ◌∷◌, ◌++◌}
use Prim.Native.Nat.{ℕ, ◌-◌, ◌<◌}
use native.Mathlib.Omega.{arith}
use lib.ListN.{length, get_or}
use Rattle.lists.specs.Links.{Table, FREE, OVER}
use Rattle.lists.specs.Family.{count, view}
use Rattle.theorem.specs.Mailboxes.{cell, mail_list, mailbox, Chained, put_at_end, put_at_front, take_first}
use Rattle.theorem.specs.Mailboxes.{empty_out, Operated, logged_in, Unread}

-- ---- links

module _ (t : Table) (slot : ℕ) (low : slot < 128) where
  -- two chains share a message (`alone`)
  pub shared_refused : (other : ℕ) → slot ≢ other → (e : ℕ) → 0 < count e (mailbox t slot)
      → 0 < count e (mailbox t other) → Chained t → ⊥
  shared_refused other apart e here there chained = omega (
    arith,
    there,
    (chained slot low).alone e here (mail_list other) (λ same. apart (omega arith)),
  )

  -- a message of a chain is free too (`alone`)
  pub free_refused : (e : ℕ) → 0 < count e (mailbox t slot) → 0 < count e (view t FREE) → Chained t → ⊥
  free_refused e here there chained = omega (
    arith,
    there,
    (chained slot low).alone e here FREE (λ same. omega arith),
  )

  -- a chain comes back to a message that it had (`once`)
  pub circle_refused : (i j : ℕ) → i < j → j < length (mailbox t slot)
      → get_or (mailbox t slot) i 0 ≡ get_or (mailbox t slot) j 0 → Chained t → ⊥
  circle_refused i j before in-it same chained = (chained slot low).once i j before in-it same

  -- the tail is not the last message (`reads`)
  pub tail_refused : 0 < length (mailbox t slot)
      → cell t (mail_list slot) 1 ≢ get_or (mailbox t slot) (length (mailbox t slot) - 1) 0 → Chained t → ⊥
  tail_refused some lost chained = lost ((chained slot low).reads.last some)

-- ---- operations

first_of : (list : List ℕ) (a b : ℕ) (xs ys : List ℕ) → list ≡ a ∷ xs → list ≡ b ∷ ys → a ≡ b
first_of list a b xs ys p q = ap (λ l. get_or l 0 0) (sym p ∙ q)

-- a mailbox that begins with a, and with another message b behind a or, for the put operations, to be put
module _ (slot k : ℕ) (t r : Table) (a b : ℕ) (apart : a ≢ b) (xs ys : List ℕ) where
  -- b is put at the front, and the mailbox still begins with a
  pub end_for_front_refused : mailbox t slot ≡ a ∷ xs → view t k ≡ b ∷ ys → mailbox r slot ≡ a ∷ xs ++ (b ∷ [])
      → Operated put_at_front slot k t r → ⊥
  end_for_front_refused mail list now did =
      apart (first_of (mailbox r slot) a b (xs ++ (b ∷ [])) (a ∷ xs) now (rw (mail, list) at did.mail))

  -- b is put at the end, and the mailbox begins with it
  pub front_for_end_refused : mailbox t slot ≡ a ∷ xs → view t k ≡ b ∷ ys → mailbox r slot ≡ b ∷ a ∷ xs
      → Operated put_at_end slot k t r → ⊥
  front_for_end_refused mail list now did =
      apart (first_of (mailbox r slot) a b (xs ++ (b ∷ [])) (a ∷ xs) (rw (mail, list) at did.mail) now)

  -- the first message is taken, and the mailbox still begins with it
  pub other_taken_refused : mailbox t slot ≡ a ∷ b ∷ xs → mailbox r slot ≡ a ∷ ys → Operated take_first slot k t r → ⊥
  other_taken_refused mail now did =
      apart (first_of (mailbox r slot) a b ys xs now (rw mail at did.mail))

-- a mailbox is emptied, and has a message
pub one_left_refused : (slot k : ℕ) (t r : Table) → 0 < length (mailbox r slot) → Operated empty_out slot k t r → ⊥
one_left_refused slot k t r some did = omega (arith, ap length did.mail)

pub unread_left_refused : (rows : Table) (slot : ℕ) (t r : Table) → 0 < length (mailbox r slot)
    → Unread rows slot t r → ⊥
unread_left_refused rows slot t r some did = omega (arith, ap length did.mail)

-- emptied unread, the second of two logged messages is over before the first
pub unread_turned_refused : (rows : Table) (slot : ℕ) (t r : Table) (a b : ℕ) → a ≢ b
    → logged_in rows (mailbox t slot) ≡ a ∷ b ∷ [] → view t OVER ≡ [] → view r OVER ≡ b ∷ a ∷ []
    → Unread rows slot t r → ⊥
unread_turned_refused rows slot t r a b apart logged none now did =
    apart (first_of (view r OVER) a b (b ∷ []) (a ∷ []) (rw (none, logged) at did.over) now)
