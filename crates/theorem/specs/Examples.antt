-- Examples of the operations on mailboxes, run by the definitions that the code equals. Each is a truth value;
-- proofs/Examples.antt proves all of them as one conjunction.
use Rattle.std.specs.Prelude.{Bool, List, [], ◌∷◌, ◌++◌, map, ℕ, Option, Some, None}
use Rattle.message_log.specs.declared.LogId.{LogId}
use Rattle.message_log.specs.RowEnds.{same_bytes}
use Rattle.lists.specs.Links.{LISTS, FREE, Table, start_from, move_first, PENDING, BATCH, OVER, HAND}
use Rattle.lists.specs.Family.{up_from, view}
use Rattle.actor.specs.declared.question.Reply.TheVariants as reply
use Rattle.actor.specs.declared.state.Mode.TheVariants as mode
use Rattle.actor.specs.Messages.{logged_number, message_cells, message_at}
use Rattle.actor.specs.Actors.{actor_onto, new_actor, consumed_as}
use Rattle.steps.specs.declared.fixed.FixedAsk.TheVariants as ask
use Rattle.steps.specs.Steps.{take_mail}
use Rattle.steps.specs.StepFixed.{step_fixed}
use Rattle.points.specs.declared.at.Cursor.{Cursor}
use Rattle.route.specs.Batch.{deliver}
use Rattle.tick.specs.Settle.{release_of}
use Rattle.theorem.specs.Mailboxes.{mailbox, mail_list}
use Rattle.group.specs.Roster.{turn_tables}
use Rattle.steps.specs.Steps.{step_tables}

-- a list has these entries, or ids, in this order
abbrev has : List ℕ → List ℕ → Bool
has list stated = same_bytes list stated

-- entry 0 goes to the first of these lists, entry 1 to the second, and so on; the others are free
unfoldable pub dealt : Table → List ℕ → Table
dealt t [] = t
dealt t (k ∷ ks) = dealt (move_first t FREE k) ks

-- the actor of key 0 in group 0, whose mailbox is that of slot 0
abbrev mail : ℕ
mail = mail_list 0

abbrev cursor : Cursor
cursor = record { group = 0; key = 0; now = 0; pops = 0 }

-- it never took a message, or did
abbrev fresh : Table
fresh = actor_onto [] (new_actor mode.Fixed) ∷ []

abbrev took : Table
took = actor_onto [] (consumed_as (new_actor mode.Fixed)) ∷ []

-- ---- the mailbox [4, 9], and 2 to be delivered

-- 4 and 9 stand in the mailbox, 2 in the batch, the others of 0 to 9 in pending; 10 to 255 are free
unfoldable pub waiting : Table
waiting =
    dealt (start_from 0 LISTS)
    (PENDING ∷ PENDING ∷ BATCH ∷ PENDING ∷ mail ∷ PENDING ∷ PENDING ∷ PENDING ∷ PENDING ∷ mail ∷ [])

-- the lists once 2 was delivered: the mailbox is [4, 9, 2], and the batch is empty
unfoldable pub delivered : Table
delivered = (deliver (turn_tables waiting [] fresh 2) 0 0 1).links

-- the lists once a step then took its mail: 4 is in the step's hand, and the mailbox is [9, 2]
unfoldable pub taken : Table
taken = (take_mail delivered fresh 0 3).links

-- the lists once Push of 4 was answered no: the mailbox is [4, 9, 2] again, and the step's hand is empty
unfoldable pub pushed_back : Table
pushed_back = (step_fixed (step_tables taken [] fresh) 0 2 ask.Push reply.No).links

-- the lists if the actor left instead, as one that ever took a message: 9 and 2 are at pending's end
unfoldable pub sent_back : Table
sent_back = (release_of [] (turn_tables taken [] took 2) cursor).links

-- ---- 7 goes to the front of an empty mailbox, then 8 to its end

-- the mailbox is empty; 7 is in the step's hand, 8 in the batch, 0 to 6 in pending; 9 to 255 are free
unfoldable pub in_hand : Table
in_hand =
    dealt (start_from 0 LISTS)
    (PENDING ∷ PENDING ∷ PENDING ∷ PENDING ∷ PENDING ∷ PENDING ∷ PENDING ∷ HAND ∷ BATCH ∷ [])

-- the lists once Push of 7 was answered no: the mailbox is [7]
unfoldable pub front_of_none : Table
front_of_none = (step_fixed (step_tables in_hand [] fresh) 0 0 ask.Push reply.No).links

-- the lists once 8 was then delivered: the mailbox is [7, 8]
unfoldable pub then_end : Table
then_end = (deliver (turn_tables front_of_none [] fresh 1) 0 0 1).links

-- ---- three messages with the log ids 5, none and 6, which the actor never took

abbrev row : Option LogId → List ℕ
row id = message_cells (record { attempts = 0; name_len = 0; body_len = 0; caller = None; id = id })

abbrev rows : Table
rows = row (Some (record { 0 = 5 })) ∷ row None ∷ row (Some (record { 0 = 6 })) ∷ []

-- the lists once the actor left: 0 and 2, which are logged, are over, and 1 is the last of the free entries
unfoldable pub unread : Table
unread = (release_of rows (turn_tables (dealt (start_from 0 LISTS) (mail ∷ mail ∷ mail ∷ [])) [] fresh 3) cursor).links

-- the log ids of the messages that are over then, in order (0 for one that has none)
unfoldable pub ids_over : List ℕ
ids_over = map (λ (e : ℕ). logged_number (message_at rows e).id) (view unread OVER)

-- the examples: each says which entries, in order, a mailbox has, or a list that messages came from or went to; one,
-- which log ids are over
unfoldable pub examples : List Bool
examples =
    has (mailbox waiting 0) (4 ∷ 9 ∷ []) ∷ has (view waiting BATCH) (2 ∷ []) ∷
    has (mailbox delivered 0) (4 ∷ 9 ∷ 2 ∷ []) ∷ has (view delivered BATCH) [] ∷
    has (mailbox taken 0) (9 ∷ 2 ∷ []) ∷ has (view taken HAND) (4 ∷ []) ∷
    has (mailbox pushed_back 0) (4 ∷ 9 ∷ 2 ∷ []) ∷ has (view pushed_back HAND) [] ∷
    has (mailbox sent_back 0) [] ∷ has (view sent_back PENDING) (view taken PENDING ++ (9 ∷ 2 ∷ [])) ∷
    has (mailbox front_of_none 0) (7 ∷ []) ∷ has (mailbox then_end 0) (7 ∷ 8 ∷ []) ∷
    has (mailbox unread 0) [] ∷ has (view unread OVER) (0 ∷ 2 ∷ []) ∷ has ids_over (5 ∷ 6 ∷ []) ∷
    has (view unread FREE) (up_from 3 253 ++ (1 ∷ [])) ∷
    []
