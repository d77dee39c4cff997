-- An admission that is logged, by what the log's words say. And an admission that its table lets through, as far as it
-- needs nothing of the log, goes by what the log answers.
use Rattle.std.specs.Prelude.{Option, Some, None, Err, Ok}
use Rattle.message_log.specs.declared.Order.{Order}
use mathlib.Core.Path.{◌≡◌, refl, sym, ap, ◌∙◌}
use mathlib.Core.Bool.{Bool, true, false, false≢true, ◌||◌}
use mathlib.Core.List.{List}
use Prim.Native.Nat.{ℕ, ◌+◌, ◌-◌, ◌^◌, ◌≤◌}
use lib.Dec.{ltb, leb}
use lib.ListN.{length}
use borrow.Author.Tests.{ltb-false, le-leb}
use Rattle.lists.specs.Links.{INBOX}
use Rattle.text.specs.Format.{record_line}
use Rattle.message_log.specs.declared.Refusal as of-log
use Rattle.message_log.specs.declared.Refusal.TheVariants as logged
use Rattle.message_log.specs.Opening.{fits}
use Rattle.message_log.specs.Log.{DidAppend, new_message, append_refusal, append_judged, append_of}
use Rattle.actor.specs.declared.message.CallerId.{CallerId}
use Rattle.turn.specs.State.{State, wal_of, with_log}
use Rattle.answers.specs.declared.answer.Refusal.{Refusal}
use Rattle.actor.specs.Entry.{Messages, keep_of}
use Rattle.answers.specs.Answers.{Did, log_refusal, refused, shown, messages_in, with_messages}
use Rattle.answers.specs.Refusals.{judged, by_table, too_long, admit_refusals_first}
use Rattle.answers.specs.Refusals.{admit_refusals_logged}
use Rattle.answers.proofs.RefusalLaws.{first_refuses, first_fine, fine_clear}
use Rattle.pool.specs.Admit.{next_id, recorded, recorded_in, recorded_by, admit_logged, admit_called, admit_of}

-- ---- by what the log answered

-- an order: the message is in the inbox, with its record ordered
pub logged_kept : (s : State) (name body : List ℕ) (d : DidAppend) (o : Order) (m : Messages)
    → d.answer ≡ Ok o
    → m
    ≡ keep_of (messages_in s)
    (record { name = name; body = body; caller = None; id = Some (next_id s) })
    INBOX
    → shown (with_messages (recorded s d o) m) ≡ recorded_by s name body d
unfolding recorded_by
logged_kept s name body d o m is keeps =
    ap (λ (x : Messages). shown (with_messages (recorded s d o) x)) keeps ∙ ap (recorded_in s name body d) (sym is)

-- none: it is refused
pub logged_refused : (s : State) (name body : List ℕ) (d : DidAppend) (r : of-log.Refusal)
    → d.answer ≡ Err r
    → refused (with_log s d.wal.bytes d.wal.table) (log_refusal r) ≡ recorded_by s name body d
unfolding recorded_by
logged_refused s name body d r is = ap (recorded_in s name body d) (sym is)

-- ---- by the table

-- what the table says of a message that is logged is what the log answers
module _ (s : State) (name body : List ℕ) (short : fits (new_message (wal_of s) name body) ≡ true) where
  abbrev has_row : Bool
  has_row = ltb s.pool.turn.counters.count (length s.records)

  abbrev has_id : Bool
  has_id = ltb s.pool.turn.counters.next (2 ^ 64 - 1)

  abbrev has_room : Bool
  has_room =
      leb (s.pool.turn.counters.live + length (record_line (new_message (wal_of s) name body))) (length s.bytes)

  abbrev AsLogged : Type 0
  AsLogged =
      admit_logged s name body
      ≡ by_table s (judged (admit_refusals_logged s name body None)) (admit_logged s name body)

  -- the log refuses: so does the admission
  log_refuses : (r : of-log.Refusal) → append_refusal (wal_of s) (new_message (wal_of s) name body) ≡ Some r
      → admit_logged s name body ≡ refused s (log_refusal r)
  unfolding admit_logged recorded_by append_of
  log_refuses r says =
      ap (λ (x : Option of-log.Refusal). recorded_by s name body
      (append_judged (wal_of s) (new_message (wal_of s) name body) x)) says

  says_full : has_row ≡ false → append_refusal (wal_of s) (new_message (wal_of s) name body) ≡ Some logged.Full
  unfolding append_refusal
  says_full row = cc (short, row)

  says_no_id : has_row ≡ true → has_id ≡ false
      → append_refusal (wal_of s) (new_message (wal_of s) name body) ≡ Some logged.NoId
  unfolding append_refusal
  says_no_id row id = cc (short, row, id)

  says_no_room : has_row ≡ true → has_id ≡ true → has_room ≡ false
      → append_refusal (wal_of s) (new_message (wal_of s) name body) ≡ Some logged.NoRoom
  unfolding append_refusal
  says_no_room row id room = cc (short, row, id, room)

  full : has_row ≡ false → AsLogged
  unfolding admit_refusals_logged judged
  full row = simp (row) (log_refuses logged.Full (says_full row))

  no_id : has_row ≡ true → has_id ≡ false → AsLogged
  unfolding admit_refusals_logged judged
  no_id row id = simp (row, id) (log_refuses logged.NoId (says_no_id row id))

  no_room : has_row ≡ true → has_id ≡ true → has_room ≡ false → AsLogged
  unfolding admit_refusals_logged judged
  no_room row id room = simp (row, id, room) (log_refuses logged.NoRoom (says_no_room row id room))

  taken : has_row ≡ true → has_id ≡ true → has_room ≡ true → AsLogged
  unfolding admit_refusals_logged judged
  taken row id room = simp (row, id, room)

  as_logged : AsLogged
  as_logged = by_row has_row refl
    where
      by_room : has_row ≡ true → has_id ≡ true → (b : Bool) → has_room ≡ b → AsLogged
      by_room row id true e = taken row id e
      by_room row id false e = no_room row id e

      by_id : has_row ≡ true → (b : Bool) → has_id ≡ b → AsLogged
      by_id row true e = by_room row e has_room refl
      by_id row false e = no_id row e

      by_row : (b : Bool) → has_row ≡ b → AsLogged
      by_row true e = by_id e has_id refl
      by_row false e = full e

-- a name and a body that are not too long
pub short_both : (name body : List ℕ) → too_long name body ≡ false → (length name ≤ 32) × (length body ≤ 128)
short_both name body e = go (ltb 32 (length name)) refl e
  where
    go : (a : Bool) → ltb 32 (length name) ≡ a → (a || ltb 128 (length body)) ≡ false
        → (length name ≤ 32) × (length body ≤ 128)
    go true is e = absurd (false≢true (sym e))
    go false is e = (ltb-false 32 (length name) is, ltb-false 128 (length body) e)

-- where no line of the first part holds, name and body are short enough for the log
short_enough : (s : State) (name body : List ℕ) → judged (admit_refusals_first s name body) ≡ Ok tt
    → fits (new_message (wal_of s) name body) ≡ true
unfolding fits admit_refusals_first
short_enough s name body says =
    let short = short_both name body (fine_clear (admit_refusals_first s name body) says).1.1.0 in
    simp (le-leb (length name) 32 short.0, le-leb (length body) 128 short.1)

module _ (s : State) (name body : List ℕ) (did : Did) where
  pub admit_refused : (who : Option CallerId) (r : Refusal) → judged (admit_refusals_first s name body) ≡ Err r
      → did ≡ refused s r → did ≡ admit_of s name body who
  unfolding admit_of
  admit_refused who r says does =
      let table = first_refuses (admit_refusals_first s name body) (admit_refusals_logged s name body who) r says in
      rw table does

  pub admit_called_lem : (who : CallerId) → judged (admit_refusals_first s name body) ≡ Ok tt
      → did ≡ admit_called s name body who → did ≡ admit_of s name body (Some who)
  unfolding admit_of admit_refusals_logged judged
  admit_called_lem who says does =
      let table =
      first_fine (admit_refusals_first s name body) (admit_refusals_logged s name body (Some who)) says in
      rw table does

  pub admit_logged_lem : judged (admit_refusals_first s name body) ≡ Ok tt → did ≡ admit_logged s name body
      → did ≡ admit_of s name body None
  unfolding admit_of
  admit_logged_lem says does =
      let table = first_fine (admit_refusals_first s name body) (admit_refusals_logged s name body None) says in
      rw table (does ∙ as_logged s name body (short_enough s name body says))
