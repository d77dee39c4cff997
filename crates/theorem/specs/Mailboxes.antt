-- CHAINED MAILBOXES, to be read from top to bottom: how a mailbox is read along its links; what `Chained` says of all
-- mailboxes; and what put at the end, put at the front, take and empty do to the order.
-- specs/Operations.antt says where the pool does each of them. That `Chained` holds after every accepted opening and
-- every list of calls is `MailboxesChained` (crates/theorem/specs/Rail).
use Rattle.std.specs.Prelude.{◌≡◌, Bool, true, false, ◌≢◌, List, [], ◌∷◌, ◌++◌, map, ℕ, suc, ◌+◌, ◌-◌, ◌*◌, ◌<◌, length, get_or, take, drop, Option, Some, None}
use Rattle.message_log.specs.declared.LogId.{LogId}
use Rattle.lists.specs.Links.{pick, Table, FREE, OVER, ENTRIES, SLOTS}
use Rattle.lists.specs.Family.{count, view, Good}
use Rattle.actor.specs.declared.message.Message.{Message}
use Rattle.actor.specs.Messages.{message_at}
use Rattle.actor.specs.Part.{bytes_in, part_at}

-- ---- a mailbox, read along its links

-- A message is named by its entry, 0 to 255. Row e of the links is that of message e, and its cell 3 names the message
-- after e. Of list k, row k has the first message (cell 0), the last one (cell 1) and how many there are (cell 2).
abbrev pub cell : Table → ℕ → ℕ → ℕ
cell t row i = get_or (get_or t row []) i 0

-- These messages stand along the links of list k, in this order. The chain ends by its length and its last message;
-- what the last one names as its next is no part of it.
pub record IsChain (t : Table) (k : ℕ) (es : List ℕ) : Type 0 where
  pub many : cell t k 2 ≡ length es
  pub first : 0 < length es → cell t k 0 ≡ get_or es 0 0
  pub following : (i : ℕ) → suc i < length es → cell t (get_or es i 0) 3 ≡ get_or es (suc i) 0
  pub last : 0 < length es → cell t k 1 ≡ get_or es (length es - 1) 0

-- the mailbox of an actor's slot, 0 to 127, is list 6 + 2 × slot
abbrev pub mail_list : ℕ → ℕ
mail_list slot = 6 + 2 * slot

-- its messages in order: from the first one on, each one's next, as many as there are
abbrev pub mailbox : Table → ℕ → List ℕ
mailbox t slot = view t (mail_list slot)

-- the mailbox of a slot is one chain of entries 0 to 255: its links are read whole and in one way, no message is met
-- twice, and none stands in another list
pub record ChainedAt (t : Table) (slot : ℕ) : Type 0 where
  -- the mailbox is what stands along its links, up to the last message, and nothing else does
  pub reads : IsChain t (mail_list slot) (mailbox t slot)
  pub only : (es : List ℕ) → IsChain t (mail_list slot) es → es ≡ mailbox t slot
  -- no message stands twice in it, so that the chain has no circle
  pub once : (i j : ℕ) → i < j → j < length (mailbox t slot) → get_or (mailbox t slot) i 0 ≢ get_or (mailbox t slot) j 0
  -- a message of it stands in no other list, so in no other mailbox
  pub alone : (e : ℕ) → 0 < count e (mailbox t slot) → (k : ℕ) → k ≢ mail_list slot → count e (view t k) ≡ 0
  -- and is one of the message table
  pub inside : (e : ℕ) → 0 < count e (mailbox t slot) → e < ENTRIES

-- every mailbox is such a chain
abbrev pub Chained : Table → Type 0
Chained t = (slot : ℕ) → slot < SLOTS → ChainedAt t slot

-- ---- the operations: on a mailbox, and on the list that its messages come from or go to

-- a list's first message, if any, comes to the mailbox's end or front; the mailbox's first one, if any, goes to the
-- list's end; or all of the mailbox does, in order
pub data Operation : Type 0 where
  put_at_end : Operation
  put_at_front : Operation
  take_first : Operation
  empty_out : Operation

-- the mailbox after it
abbrev pub mail_after : {A : Type 0} → Operation → List A → List A → List A
mail_after put_at_end mail list = mail ++ take 1 list
mail_after put_at_front mail list = take 1 list ++ mail
mail_after take_first mail list = drop 1 mail
mail_after empty_out mail list = []

-- the list after it
abbrev pub list_after : {A : Type 0} → Operation → List A → List A → List A
list_after put_at_end mail list = drop 1 list
list_after put_at_front mail list = drop 1 list
list_after take_first mail list = list ++ take 1 mail
list_after empty_out mail list = list ++ mail

-- a message as the pool has it: its row, and its name and its body in the body store
pub record FullMessage : Type 0 where
  pub row : Message
  pub name : List ℕ
  pub body : List ℕ

-- the message of entry e; past the last entry, or with a length over its limit in the row, name and body are empty
abbrev pub full_message : List ℕ → Table → ℕ → FullMessage
full_message store rows e = record {
  row = message_at rows e;
  name = bytes_in store (part_at rows e).name;
  body = bytes_in store (part_at rows e).body;
}

-- the messages of these entries, in their order
abbrev pub messages_of : List ℕ → Table → List ℕ → List FullMessage
messages_of store rows es = map (full_message store rows) es

-- From the links t to the links r an operation was done on the mailbox of a slot and on list k.
pub record Operated (op : Operation) (slot k : ℕ) (t r : Table) : Type 0 where
  -- read along the chain, the mailbox is the old one with the operation applied; so is the list
  pub mail : mailbox r slot ≡ mail_after op (mailbox t slot) (view t k)
  pub list : view r k ≡ list_after op (mailbox t slot) (view t k)
  -- with the same rows and store before and after, so they are as lists of messages
  pub messages : (store : List ℕ) (rows : Table) → messages_of store rows (mailbox r slot)
      ≡ mail_after op (messages_of store rows (mailbox t slot)) (messages_of store rows (view t k))
  pub list_messages : (store : List ℕ) (rows : Table) → messages_of store rows (view r k)
      ≡ list_after op (messages_of store rows (mailbox t slot)) (messages_of store rows (view t k))
  -- every other list is as it was
  pub others : (j : ℕ) → j ≢ mail_list slot → j ≢ k → view r j ≡ view t j
  -- the lists are well formed as before (`Good`: every entry stands in one list, once), and the mailboxes chained
  pub good : Good r
  pub chained : Chained r

-- ---- emptied unread: what is logged is over and waits for its mark, the other entries are free

-- a message is logged, under whatever id
abbrev pub has_log_id : Option LogId → Bool
has_log_id (Some id) = true
has_log_id None = false

-- of these entries, those whose messages are logged, in order ..
unfoldable pub logged_in : Table → List ℕ → List ℕ
logged_in rows [] = []
logged_in rows (e ∷ es) = pick (has_log_id (message_at rows e).id) (e ∷ logged_in rows es) (logged_in rows es)

-- .. and those whose messages are not
unfoldable pub unlogged_in : Table → List ℕ → List ℕ
unlogged_in rows [] = []
unlogged_in rows (e ∷ es) = pick (has_log_id (message_at rows e).id) (unlogged_in rows es) (e ∷ unlogged_in rows es)

-- The mailbox of a slot was emptied unread: its messages stand at the ends of over and of what is free, in order.
pub record Unread (rows : Table) (slot : ℕ) (t r : Table) : Type 0 where
  pub mail : mailbox r slot ≡ []
  pub over : view r OVER ≡ view t OVER ++ logged_in rows (mailbox t slot)
  pub free : view r FREE ≡ view t FREE ++ unlogged_in rows (mailbox t slot)
  pub others : (j : ℕ) → j ≢ mail_list slot → j ≢ OVER → j ≢ FREE → view r j ≡ view t j
  pub good : Good r
  pub chained : Chained r
