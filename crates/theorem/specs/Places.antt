-- The six places of a message: the lists 1 to 261 of the family (inbox, pending, batch, over, the step's hand, and
-- for each actor's slot a mailbox and a hand); list 0 is what is free. How often a log id stands in them, how many
-- messages are in mailboxes, and what every part of a turn keeps.
use Rattle.std.specs.Prelude.{◌≡◌, Bool, false, ◌≢◌, List, [], ◌∷◌, ℕ, suc, ◌+◌, ◌*◌, ◌^◌, ◌≤◌, ◌<◌, eqb, length, Option, Some, None}
use Rattle.lists.specs.Links.{pick, LISTS, FREE, Table, len_of, ENTRIES, HAND, SLOTS}
use Rattle.lists.specs.Family.{count, total, view, Good}
use Rattle.message_log.specs.declared.LogId.{LogId}
use Rattle.actor.specs.Messages.{message_at}
use Rattle.steps.specs.declared.fixed.FixedAsk.{FixedAsk}
use Rattle.steps.specs.declared.fixed.FixedAsk.TheVariants as fixed
use Rattle.steps.specs.declared.fixed.FixedNext.{FixedNext}
use Rattle.steps.specs.declared.fixed.FixedNext.TheVariants as next

-- a message is logged under id x
abbrev pub is_id : ℕ → Option LogId → Bool
is_id x (Some id) = eqb id.0 x
is_id x None = false

-- how many entries of a list are logged under id x
unfoldable pub id_count : ℕ → Table → List ℕ → ℕ
id_count x rows [] = 0
id_count x rows (e ∷ es) = pick (is_id x (message_at rows e).id) 1 0 + id_count x rows es

-- how often id x stands in the six places, every mailbox and every actor counted
unfoldable pub stands : ℕ → Table → Table → ℕ
stands x t rows = total (id_count x rows) 261 (λ (k : ℕ). view t (suc k))

-- how many messages are in mailboxes
unfoldable pub mail_total : Table → ℕ
mail_total t = total length SLOTS (λ (slot : ℕ). view t (6 + 2 * slot))

-- the lists are well formed, every entry has a row, and queued is the sum of the mailbox lengths
pub record Sound (t rows : Table) (queued : ℕ) : Type 0 where
  pub good : Good t
  pub sized : length rows ≡ ENTRIES
  pub mail : queued ≡ mail_total t

-- a part of a turn: sound before, sound after, and every log id stands as often as before; no entry with a log id
-- comes to what is free, and every row has its log id as before and no fewer attempts
pub record Keeps (t rows t' rows' : Table) (queued' : ℕ) : Type 0 where
  pub sound : Sound t' rows' queued'
  pub same : (x : ℕ) → stands x t' rows' ≡ stands x t rows
  pub busy : (e : ℕ) (id : LogId) → (message_at rows e).id ≡ Some id → count e (view t FREE) ≡ 0
      → count e (view t' FREE) ≡ 0
  pub named : (e : ℕ) → (message_at rows' e).id ≡ (message_at rows e).id
  pub tried : (e n : ℕ) → n < 2 ^ 64 → n ≤ (message_at rows e).attempts → n ≤ (message_at rows' e).attempts

-- a place that is no mailbox: the inbox, pending, the batch, over, the step's hand, an actor's hand
pub record NotMailbox (k : ℕ) : Type 0 where
  pub is : k < LISTS
  pub place : 0 < k
  pub no_mail : (slot : ℕ) → slot < SLOTS → k ≢ 6 + 2 * slot

-- a message comes from the free entries: sound after, and its log id stands once more, at an entry that is not free
-- then; the rows of those that were not free are as they were
pub record Comes (t rows t' rows' : Table) (queued' : ℕ) (id : Option LogId) : Type 0 where
  pub sound : Sound t' rows' queued'
  pub more : (x : ℕ) → stands x t' rows' ≡ stands x t rows + pick (is_id x id) 1 0
  pub busy : (e : ℕ) → count e (view t FREE) ≡ 0 → count e (view t' FREE) ≡ 0
  pub kept : (e : ℕ) → count e (view t FREE) ≡ 0 → message_at rows' e ≡ message_at rows e
  pub entry : ℕ
  pub there : count entry (view t' FREE) ≡ 0
  pub own : (message_at rows' entry).id ≡ id

-- a message goes to the free entries: sound after, and its log id stands once less; no entry with another id goes
pub record Goes (t rows t' rows' : Table) (queued' : ℕ) (id : Option LogId) : Type 0 where
  pub sound : Sound t' rows' queued'
  pub less : (x : ℕ) → stands x t' rows' + pick (is_id x id) 1 0 ≡ stands x t rows
  pub busy : (e : ℕ) (other : LogId) → (message_at rows e).id ≡ Some other → (message_at rows e).id ≢ id
      → count e (view t FREE) ≡ 0 → count e (view t' FREE) ≡ 0

-- while Push is open its message is in the step's hand
abbrev pub HandFull : FixedAsk → Table → Type 0
HandFull (fixed.Run start) t = 0 ≤ 0
HandFull fixed.Drain t = 0 ≤ 0
HandFull fixed.Push t = 0 < len_of t HAND
HandFull fixed.Dispatch t = 0 ≤ 0

-- a fixed step that goes on to Push has its message in the step's hand; of all else that it goes on to nothing is said
abbrev pub NextFull : FixedNext → Table → Type 0
NextFull (next.Asks a) t = HandFull a t
NextFull (next.Ended s) t = 0 ≤ 0
