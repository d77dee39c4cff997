-- Wrong pools, and the clause that refuses each, of `Holds` or of a law beside it. Whatever a pool makes of a call is
-- an outcome (`Did`), and the world goes by outcomes; so these are laws of any outcome of any pool. Assumes nothing.
use Rattle.std.specs.Prelude.{Option, Some, None}
use mathlib.Core.Path.{◌≡◌, refl, sym, ap, ◌∙◌, subst}
use mathlib.Core.Bool.{false, false≢true}
use mathlib.Core.Logic.{inl, inr, ◌≢◌}
use mathlib.Core.List.{List, [], ◌∷◌, ◌++◌, Memᴰ}
use Prim.Native.Nat.{ℕ, ◌+◌, ◌≤◌, ◌<◌}
use native.Mathlib.Omega.{arith}
use lib.ListN.{length, drop, replicate, length-append, length-drop, length-replicate}
use lib.Seq.{take-append_seam}
use Rattle.text.specs.Format
use Rattle.text.specs.Format.{ATTEMPTS, Message, untried}
use Rattle.text.specs.Line
use Rattle.text.specs.Bytes
use Rattle.lists.specs.Links.{Table, FREE}
use Rattle.lists.specs.Family.{count, view, up_from}
use Rattle.message_log.specs.Opening
use Rattle.message_log.specs.Opening.{Read, opening, opened, nothing_read, retried, image}
use Rattle.message_log.specs.declared.LogId.{LogId}
use Rattle.message_log.specs.declared.Order.TheVariants.{Append}
use Rattle.message_log.specs.Recovery as disk
use Rattle.message_log.proofs.OpenLaws.{sized_true}
use Rattle.theorem.specs.Places.{stands}
use Rattle.theorem.specs.Living.{given}
use Rattle.actor.specs.declared.message.CallerId.{CallerId}
use Rattle.actor.specs.declared.question.Question.TheVariants as ask
use Rattle.actor.specs.declared.question.Reply.TheVariants as say
use Rattle.actor.specs.Messages.{message_at}
use Rattle.pool.specs.Stored.{StoredIn}
use Rattle.pool.specs.Stored as stored
use Rattle.pool.specs.Calls.{stored_in}
use Rattle.pool.specs.Open.{open_of}
use Rattle.settings.specs.Tables as tables
use Rattle.theorem.specs.Handing.{put_messages, Hands}
use Rattle.theorem.proofs.Handing.{hands}
use Rattle.turn.specs.State.{State, with_links, with_rows, with_log}
use Rattle.answers.specs.declared.answer.Answer.{Answer}
use Rattle.answers.specs.declared.answer.Answer.TheVariants as answer
use Rattle.answers.specs.Answers.{Did}
use Rattle.answers.specs.Refusals.{Lent, file_in}
use Rattle.theorem.specs.Rail.{Call, admit, turn, reply, sync, close, World, nothing, step_did, unordered, ordered}
use Rattle.theorem.specs.Rail.{answered, answered_by, begin, turn_effect, last_in, LastTried, order_shown, mailbox_at}
use Rattle.theorem.specs.Rail.{hand_at, Placed, NextOpening, Holds}
use Rattle.theorem.specs.Retries.{attempts_in, Says, Noted, DidRetries}
use Rattle.theorem.proofs.Refusals.{Taken}
use Rattle.theorem.proofs.Opened.{tables_true, opens_as_lem, opens_as}
use Rattle.theorem.proofs.Opening.{lent, hands_back}
use Rattle.theorem.proofs.Instance.{rows_of, rows_are, lent_with, taken_with, nothing_left}
use Rattle.theorem.proofs.Left.{none_out, marked_in, marked_one}
use Rattle.theorem.proofs.After.{retried_effect, marked_effect}
use Rattle.theorem.proofs.Handing.{put_all}
use Rattle.theorem.proofs.Filling.{Left}

-- ---- `placed`: a message that was not done stands nowhere, and no order is shown

module _ (l : Lent) (w : World) (c : Call) (s : State) (x : ℕ) (there : 0 < count x w.logged)
    (undone : count x w.done ≡ 0) (gone : stands x s.links s.rows ≡ 0) where
  unordered_refused : (j : disk.LogWorld) → Holds l (unordered w s j) → ⊥
  unordered_refused j h = go (h.placed x there)
    where
      go : Placed (unordered w s j) x → ⊥
      go (inl p) = omega (arith, p.0, undone)
      go (inr p) = omega (arith, p.1, gone)

  -- so no pool frees a message without its mark, or hides the order of its mark
  pub lost_refused : (a : Answer) → order_shown a ≡ nothing → Holds l (step_did w c (record { state = s; answer = a }))
      → ⊥
  lost_refused (answer.Refused r) none = unordered_refused w.journal
  lost_refused (answer.Open a) none =
      subst (λ o. Holds l (ordered c w s (answered w.journal c) o) → ⊥) (sym none)
      (unordered_refused (answered w.journal c))
  lost_refused (answer.Ended busy waiters) none = unordered_refused (answered w.journal c)

-- ---- `living`: a message in the mailbox or in the hand of nobody

-- so no pool leaves what a trapped neighbour held in a dead hand
pub dead_refused : (l : Lent) (w : World) (g k : ℕ) → g < 8 → k < 16 → given w.state.keys g k ≡ false
    → 0 < length (mailbox_at w.state.links g k) + length (hand_at w.state.links g k) → Holds l w → ⊥
dead_refused l w g k g-is k-is dead some h = false≢true (sym dead ∙ (h.living g k g-is k-is).0 some)

-- ---- `DidRetries`: a message is tried again, and no order is shown

-- the answer to an order leaves the messages that are logged and not done
answered_now : (j : disk.LogWorld) (c : Call) → (answered j c).now ≡ j.now
unfolding disk.stored_order disk.failed_order
answered_now j (admit name body who) = refl
answered_now j turn = refl
answered_now j (reply r name body) = by j.disk.status (stored_in r)
  where
    by : (q : disk.Status) (x : StoredIn) → (answered_by j q x).now ≡ j.now
    by disk.settled x = refl
    by (disk.waits o) stored.Stored = refl
    by (disk.waits o) stored.Failed = refl
    by (disk.waits o) stored.Other = refl
    by (disk.lost o) x = refl
answered_now j sync = refl
answered_now j close = refl

module _ (w : World) (c : Call) (s : State) (e : ℕ) (id : LogId) (busy : count e (view w.state.links FREE) ≡ 0)
    (owns : (message_at w.state.rows e).id ≡ Some id) (changed : attempts_in s e ≢ attempts_in w.state e) where
  -- no pool counts further than a retry line can say
  pub over_refused : (a : Answer) → ATTEMPTS < attempts_in s e → DidRetries w c (record { state = s; answer = a }) → ⊥
  over_refused a over h = omega (arith, (h e id busy owns changed).0)

  -- the log has other attempts of it, and room for these; so no pool tries a message again without writing that
  module _ (silent : Says w.journal.now id.0 (attempts_in s e) → ⊥)
      (room : length (image (retried id.0 (attempts_in s e) w.journal.now)) ≤ length w.state.bytes) where
    pub unwritten_refused : (a : Answer) → order_shown a ≡ nothing
        → DidRetries w c (record { state = s; answer = a }) → ⊥
    unwritten_refused a hidden h = by (h e id busy owns changed)
      where
        stays : (x : Answer) → order_shown x ≡ nothing
            → (step_did w c (record { state = s; answer = x })).journal.now ≡ w.journal.now
        stays (answer.Refused r) is = refl
        stays (answer.Open q) is =
            ap (λ o. (ordered c w s (answered w.journal c) o).journal.now) is ∙ answered_now w.journal c
        stays (answer.Ended more waiters) is = answered_now w.journal c

        by : Noted w (step_did w c (record { state = s; answer = a })).journal.now id.0 (attempts_in s e) → ⊥
        by (few, inl says) = silent (subst (λ ms. Says ms id.0 (attempts_in s e)) (stays a hidden) says)
        by (few, inr more) = omega arith

-- ---- `safe`: a file that a cut may leave, and that reads as no moment

module _ (l : Lent) (t : Taken l) (file : List ℕ) (r : Read) (short : length file ≤ length l.bytes)
    (reads : opening file ≡ opened r) where
  -- the file, in a lent log of the same length
  abbrev bytes : List ℕ
  bytes = file ++ drop (length file) l.bytes

  abbrev next : Lent
  next = record {
    settings = l.settings;
    groups_given = l.groups_given;
    bytes = bytes;
    size = length file;
    store = replicate 40960 0;
    records = rows_of 256;
    groups = rows_of 8;
    links = rows_of 262;
    rows = rows_of 256;
    keys = rows_of 34;
    actors = rows_of 128;
  }

  follows : NextOpening l next file
  follows = record {
    settings = refl;
    groups_given = refl;
    bytes = omega (arith, length-append file (drop (length file) l.bytes), length-drop (length file) l.bytes);
    size = refl;
    begins = take-append_seam file (drop (length file) l.bytes);
    store = length-replicate {A = ℕ} 40960 0;
    records = rows_are 256;
    groups = rows_are 8;
    links = rows_are 262;
    rows = rows_are 256;
    keys = rows_are 34;
    actors = rows_are 128;
  }

  unfoldable next_taken : Taken next
  next_taken = record {
    fit = t.fit;
    tables =
        tables_true next (rows_are 8) (rows_are 262) (rows_are 256) (rows_are 34) (rows_are 128);
    sizes =
        sized_true (length bytes) (length file) (length next.store) (length next.records) 256
        (record {
          least = omega (arith, follows.bytes, (lent l t).least);
          most = omega (arith, follows.bytes, (lent l t).most);
          file = omega (arith, follows.bytes);
          store_is = length-replicate {A = ℕ} 40960 0;
          table_is = rows_are 256;
          left_is = refl;
        });
    found = r;
    reads = ap opening follows.begins ∙ reads;
  }

  pub unsafe_refused : (w : World) → disk.Possible w.journal.disk file
      → (Memᴰ r.left (drop w.journal.firm w.journal.moments) → ⊥) → Holds l w → ⊥
  unfolding next_taken
  unsafe_refused w possible strange h =
      let back = h.safe file possible in
      strange (subst (λ ms. Memᴰ ms (drop w.journal.firm w.journal.moments))
      (sym (back.back next follows) ∙ hands_back next next_taken) back.among)

-- so no pool writes a file that is longer than the lent log
pub long_refused : (l : Lent) (w : World) (file : List ℕ) → length l.bytes < length file
    → disk.Possible w.journal.disk file → Holds l w → ⊥
long_refused l w file long possible h = omega (arith, (h.safe file possible).fits)

-- ---- three pools with a file that reads as no moment: each opens, has its replace stored, and orders an append

-- the opening's replace is stored, and nothing else happens
abbrev begun : Lent → Did → World
begun l d =
    let w = begin d (file_in l) in
    step_did w (reply say.Stored [] []) (record { state = w.state; answer = answer.Open None })

-- the state with these bytes in the log, and with messages in these lists and rows
abbrev leaves : State → List ℕ → Table → Table → State
leaves s new t rows = with_rows (with_links (with_log s new s.records) t) rows

-- an accepted call that shows the order to append the log's bytes a to b
abbrev appends : State → ℕ → ℕ → Did
appends s a b = record { state = s; answer = answer.Open (Some (ask.Store (Append a b))) }

-- a message of no bytes, and its record, for ids below 10
abbrev bare : ℕ → Message
bare id = untried id [] []

abbrev bare_line : ℕ → List ℕ
bare_line digit = digit ∷ 9 ∷ 9 ∷ 10 ∷ []

-- the log empty: a pool that answers an admission with the record of a bare message
abbrev empty : Lent
empty = lent_with (replicate 16 0) 0

empty_taken : Taken empty
empty_taken = taken_with (replicate 16 0) 0 nothing_read (omega arith) (omega arith) (omega arith) nothing_left

abbrev admitted : Option CallerId → ℕ → Did → World
admitted who digit d =
    let w = begun empty d in
    step_did w (admit [] [] who)
    (appends (leaves w.state (bare_line digit ++ replicate 12 0) w.state.links w.state.rows) 0 4)

-- what a cut after it may leave
cut : (who : Option CallerId) (digit : ℕ)
    → disk.Possible (admitted who digit (opens_as_lem empty nothing_read)).journal.disk (bare_line digit)
unfolding disk.issue disk.stored_order disk.confirm disk.sent Opening.image
cut who digit = (4, refl)

-- id 0 and id 1, read back
zero_reads : opening (bare_line 48) ≡ opened (record { left = bare 0 ∷ []; next = 1 })
unfolding Format.unescape Format.decimal Format.below64 Format.read_digits Format.read_id Format.join_head Format.split
    Format.all_but_last Format.lines Format.fields Line.put_of Line.done_of Line.read_fields Line.read_line Opening.insert
    Opening.remove Opening.take_in Opening.read_lines Opening.read_file Opening.fits Opening.all_fit Opening.judge
    Opening.opening
zero_reads = refl

one_reads : opening (bare_line 49) ≡ opened (record { left = bare 1 ∷ []; next = 2 })
unfolding Format.unescape Format.decimal Format.below64 Format.read_digits Format.read_id Format.join_head Format.split
    Format.all_but_last Format.lines Format.fields Line.put_of Line.done_of Line.read_fields Line.read_line Opening.insert
    Opening.remove Opening.take_in Opening.read_lines Opening.read_file Opening.fits Opening.all_fit Opening.judge
    Opening.opening
one_reads = refl

-- what stands in a list of two is one of them
one_of_two : (ms a b : List Message) → (ms ≡ a → ⊥) → (ms ≡ b → ⊥) → Memᴰ ms (a ∷ b ∷ []) → ⊥
one_of_two ms a b not_a not-b (Memᴰ.head e) = not_a e
one_of_two ms a b not_a not-b (Memᴰ.tail (Memᴰ.head e)) = not-b e
one_of_two ms a b not_a not-b (Memᴰ.tail (Memᴰ.tail none_left)) = elim none_left [ ]

-- lists whose lengths, or whose first ids, differ
abbrev first_id : List Message → ℕ
first_id [] = 0
first_id (m ∷ ms) = m.id

longer : (ms a : List Message) → length a < length ms → ms ≡ a → ⊥
longer ms a more e = omega (arith, ap length e)

-- The cut after it: the record is on the disk. A pool that logs a message for which a caller waits: no moment has it.
pub caller_refused : (who : CallerId) → Holds empty (admitted (Some who) 48 (open_of empty)) → ⊥
unfolding empty_taken taken_with disk.issue disk.stored_order disk.firm_moment disk.sent Format.split Format.all_but_last
    Format.lines Opening.read_lines Opening.read_file Opening.all_fit Opening.judge Opening.opening Opening.image
caller_refused who =
    subst (λ d. Holds empty (admitted (Some who) 48 d) → ⊥) (sym (opens_as empty empty_taken))
    (unsafe_refused empty empty_taken (bare_line 48) (record { left = bare 0 ∷ []; next = 1 }) (omega arith) zero_reads
    (admitted (Some who) 48 (opens_as_lem empty nothing_read)) (cut (Some who) 48)
    (one_of_two (bare 0 ∷ []) [] [] (longer _ [] (omega arith)) (longer _ [] (omega arith))))

-- A pool that leaves out an id: the moment after it has the next id, 0, and the file says 1.
pub skipped_refused : Holds empty (admitted None 49 (open_of empty)) → ⊥
unfolding empty_taken taken_with disk.issue disk.stored_order disk.firm_moment disk.sent Format.split Format.all_but_last
    Format.lines Opening.read_lines Opening.read_file Opening.all_fit Opening.judge Opening.opening Opening.image
skipped_refused =
    subst (λ d. Holds empty (admitted None 49 d) → ⊥) (sym (opens_as empty empty_taken))
    (unsafe_refused empty empty_taken (bare_line 49) (record { left = bare 1 ∷ []; next = 2 }) (omega arith) one_reads
    (admitted None 49 (opens_as_lem empty nothing_read)) (cut None 49)
    (one_of_two (bare 1 ∷ []) [] (bare 0 ∷ []) (longer _ [] (omega arith)) (λ e. omega (arith, ap first_id e))))

-- ---- a pool that marks another message than the one that leaves: 0 leaves, and 1 is marked

abbrev two_lines : List ℕ
two_lines = bare_line 48 ++ bare_line 49

abbrev two : Lent
two = lent_with (two_lines ++ replicate 8 0) 8

abbrev two_read : Read
two_read = record { left = bare 0 ∷ bare 1 ∷ []; next = 2 }

two_reads : opening two_lines ≡ opened two_read
unfolding Format.unescape Format.decimal Format.below64 Format.read_digits Format.read_id Format.join_head Format.split
    Format.all_but_last Format.lines Format.fields Line.put_of Line.done_of Line.read_fields Line.read_line Opening.insert
    Opening.remove Opening.take_in Opening.read_lines Opening.read_file Opening.fits Opening.all_fit Opening.judge
    Opening.opening
two_reads = refl

-- with the done line of 1 behind them
zero_left : opening (two_lines ++ (49 ∷ 10 ∷ [])) ≡ opened (record { left = bare 0 ∷ []; next = 2 })
unfolding Format.unescape Format.decimal Format.below64 Format.read_digits Format.read_id Format.join_head Format.split
    Format.all_but_last Format.lines Format.fields Line.put_of Line.done_of Line.read_fields Line.read_line Opening.insert
    Opening.remove Opening.take_in Opening.read_lines Opening.read_file Opening.fits Opening.all_fit Opening.judge
    Opening.opening
zero_left = refl

two_taken : Taken two
two_taken = taken_with (two_lines ++ replicate 8 0) 8 two_read (omega arith) (omega arith) (omega arith) two_reads

-- 1 alone stands, in pending
abbrev one_stands_lem : tables.LeftPlaced
one_stands_lem = put_messages (rows_of 256) (bare 1 ∷ [])

one_stands : Hands (rows_of 256) (replicate 40960 0) (bare 1 ∷ [])
unfolding Opening.fits Opening.all_fit
one_stands =
    hands (rows_of 256) (replicate 40960 0) (bare 1 ∷ []) (rows_are 256)
    (length-replicate {A = ℕ} 40960 0) (omega arith) refl

abbrev new_bytes : List ℕ
new_bytes = two_lines ++ (49 ∷ 10 ∷ []) ++ replicate 6 0

abbrev turned : Did → World
turned d =
    let w = begun two d in
    step_did w turn
    (appends (leaves w.state new_bytes one_stands_lem.links one_stands_lem.rows) 8 10)

-- so 0 is the message that left
one_left : (s : State)
    → turn_effect (leaves s new_bytes one_stands_lem.links one_stands_lem.rows) (bare 0 ∷ bare 1 ∷ []) ≡ bare 1 ∷ []
unfolding count Opening.remove
one_left s =
    let left = leaves s new_bytes one_stands_lem.links one_stands_lem.rows in
    let both : List Message = bare 0 ∷ bare 1 ∷ [] in
    marked_effect left both (bare 1 ∷ [])
    (marked_one left 0 both (omega arith) (omega arith) one_stands.same)
    (marked_in left 0 both (omega arith) (omega arith) one_stands.same)

-- The moment after it has 1, and the file has 0.
pub other_refused : Holds two (turned (open_of two)) → ⊥
unfolding two_taken taken_with disk.issue disk.stored_order disk.confirm disk.firm_moment disk.sent Format.escape_byte
    Format.escape Format.escaped Format.digits Format.print_id Format.record_text Format.line Format.record_line
    Format.attempts_line Format.message_lines Format.unescape Format.decimal Format.below64 Format.read_digits
    Format.read_id Format.join_head Format.split Format.all_but_last Format.lines Format.fields Line.put_of Line.done_of
    Line.read_fields Line.read_line Opening.insert Opening.remove Opening.take_in Opening.read_lines Opening.read_file
    Opening.fits Opening.all_fit Opening.judge Opening.opening Opening.image Bytes.write
other_refused =
    subst (λ d. Holds two (turned d) → ⊥) (sym (opens_as two two_taken))
    (unsafe_refused two two_taken (two_lines ++ (49 ∷ 10 ∷ [])) (record { left = bare 0 ∷ []; next = 2 }) (omega arith)
    zero_left (turned (opens_as_lem two two_read)) (2, refl)
    (one_of_two (bare 0 ∷ []) (bare 0 ∷ bare 1 ∷ []) _ (λ e. omega (arith, ap length e))
    (λ e. omega (arith, ap first_id (e ∙ one_left (begun two (opens_as_lem two two_read)).state)))))

-- ---- a pool that writes another number than the message's attempts: 0 was tried once, and the line says 2

abbrev one : Lent
one = lent_with (bare_line 48 ++ replicate 12 0) 4

abbrev one_read : Read
one_read = record { left = bare 0 ∷ []; next = 1 }

one_taken : Taken one
one_taken = taken_with (bare_line 48 ++ replicate 12 0) 4 one_read (omega arith) (omega arith) (omega arith) zero_reads

-- a message of no bytes that was tried so often
abbrev tried_bare : ℕ → ℕ → Message
tried_bare id n = record { id = id; name = []; body = []; attempts = n }

-- with the line of 2 attempts behind it
twice_reads : opening (bare_line 48 ++ (48 ∷ 9 ∷ 50 ∷ 10 ∷ []))
    ≡ opened (record { left = tried_bare 0 2 ∷ []; next = 1 })
unfolding Format.unescape Format.decimal Format.below64 Format.read_digits Format.read_id Format.join_head Format.split
    Format.all_but_last Format.lines Format.fields Line.put_of Line.done_of Line.attempts_of Line.read_fields Line.read_line
    Opening.insert Opening.remove Opening.retried Opening.take_in Opening.read_lines Opening.read_file Opening.fits
    Opening.all_fit Opening.judge Opening.opening
twice_reads = refl

-- 0 stands in pending, and its row says 1
abbrev once_stands_lem : tables.LeftPlaced
once_stands_lem = put_messages (rows_of 256) (tried_bare 0 1 ∷ [])

once_put : Left (rows_of 256) 0 1 (tried_bare 0 1 ∷ []) once_stands_lem
once_put = put_all (rows_of 256) (tried_bare 0 1 ∷ []) (rows_are 256) (omega arith)

once_stands : Hands (rows_of 256) (replicate 40960 0) (tried_bare 0 1 ∷ [])
unfolding Opening.fits Opening.all_fit
once_stands =
    hands (rows_of 256) (replicate 40960 0) (tried_bare 0 1 ∷ []) (rows_are 256)
    (length-replicate {A = ℕ} 40960 0) (omega arith) refl

abbrev twice_bytes : List ℕ
twice_bytes = bare_line 48 ++ (48 ∷ 9 ∷ 50 ∷ 10 ∷ []) ++ replicate 8 0

abbrev told : Did → World
told d =
    let w = begun one d in
    step_did w turn
    (appends (leaves w.state twice_bytes once_stands_lem.links once_stands_lem.rows) 4 8)

once_last : (s : State) → LastTried (leaves s twice_bytes once_stands_lem.links once_stands_lem.rows) (bare 0 ∷ [])
unfolding last_in up_from count
once_last s = record {
  entry = 0;
  last = ap last_in once_put.filled.pending;
  id = record { 0 = 0 };
  own = ap (λ x. x.id) once_put.stand.0;
  among = omega arith;
  told = omega (arith, ap (λ x. x.attempts) once_put.stand.0);
  most = omega (arith, ap (λ x. x.attempts) once_put.stand.0);
}

-- so the moment after it says 1
once_tried : (s : State)
    → turn_effect (leaves s twice_bytes once_stands_lem.links once_stands_lem.rows) (bare 0 ∷ []) ≡ tried_bare 0 1 ∷ []
unfolding once_last Opening.retried
once_tried s =
    let left = leaves s twice_bytes once_stands_lem.links once_stands_lem.rows in
    retried_effect left (bare 0 ∷ []) (once_last s) (none_out left (bare 0 ∷ []) once_stands.same)
    ∙ ap (λ n. tried_bare 0 n ∷ []) (ap (λ x. x.attempts) once_put.stand.0)

abbrev first_tried : List Message → ℕ
first_tried [] = 0
first_tried (m ∷ ms) = m.attempts

-- The moment after it says 1, the one before 0, and the file 2.
pub told_refused : Holds one (told (open_of one)) → ⊥
unfolding one_taken taken_with once_last disk.issue disk.stored_order disk.confirm disk.firm_moment disk.sent
    Format.escape_byte Format.escape Format.escaped Format.digits Format.print_id Format.record_text Format.line
    Format.record_line Format.attempts_line Format.message_lines Format.unescape Format.decimal Format.below64
    Format.read_digits Format.read_id Format.join_head Format.split Format.all_but_last Format.lines Format.fields
    Line.put_of Line.done_of Line.read_fields Line.read_line Opening.insert Opening.remove Opening.take_in
    Opening.read_lines Opening.read_file Opening.fits Opening.all_fit Opening.judge Opening.opening Opening.image
    Bytes.write
told_refused =
    subst (λ d. Holds one (told d) → ⊥) (sym (opens_as one one_taken))
    (unsafe_refused one one_taken (bare_line 48 ++ (48 ∷ 9 ∷ 50 ∷ 10 ∷ []))
    (record { left = tried_bare 0 2 ∷ []; next = 1 }) (omega arith) twice_reads (told (opens_as_lem one one_read)) (4, refl)
    (one_of_two (tried_bare 0 2 ∷ []) (bare 0 ∷ []) _ (λ e. omega (arith, ap first_tried e))
    (λ e. omega (arith, ap first_tried (e ∙ once_tried (begun one (opens_as_lem one one_read)).state)))))
