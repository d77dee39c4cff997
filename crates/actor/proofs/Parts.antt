-- The part of the body store that a message is: it lies inside the store, it shows what was kept, and neither keeping
-- another message nor one more attempt changes what it shows. Assumes nothing.
use Rattle.std.specs.Prelude.{Option, Some, None}
use Rattle.message_log.specs.declared.LogId.{LogId}
use Rattle.actor.specs.declared.message.CallerId.{CallerId}
use mathlib.Core.Path.{◌≡◌, refl, ap, sym, ◌∙◌}
use mathlib.Core.Bool.{Bool, true, false, ◌&&◌}
use mathlib.Core.Logic.{◌≢◌}
use mathlib.Core.List.{List}
use Prim.Native.Nat.{ℕ, ◌+◌, ◌*◌, ◌≤◌, ◌<◌}
use native.Mathlib.Omega.{arith}
use lib.Dec.{ltb, leb}
use lib.ListN.{length}
use borrow.Author.Tests.{ltb-true, ltb-false, leb-true, lt-ltb, le-leb}
use Rattle.text.specs.Bytes.{write, part}
use Rattle.text.proofs.WriteLaws.{length_write, part_below, part_above, part_written}
use Rattle.message_log.proofs.OpeningLaws.{and_left, and_right}
use Rattle.lists.specs.Links.{pick, Table, FREE, first_of}
use Rattle.actor.specs.declared.message.Message.{Message}
use Rattle.actor.specs.Messages.{message_at, put_message, tried_of}
use Rattle.actor.proofs.Back.{message_put, message_other}
use Rattle.actor.specs.Entry.{Messages, Arrival, put_bytes, store_entry, new_row, keep_at, keep_found, keep_of}
use Rattle.actor.specs.Part.{bytes_in, no_part, row_part, in_limits, part_at, part_of, Inside, Shows}
use Rattle.actor.specs.declared.part.Part.{Part}

-- ---- a part by its row

-- a row within the limits
pub record Limits (m : Message) (e : ℕ) : Type 0 where
  pub entry : e < 256
  pub name : m.name_len ≤ 32
  pub body : m.body_len ≤ 128

limits : (m : Message) (e : ℕ) → in_limits m e ≡ true → Limits m e
limits m e h =
    let entry : Bool = ltb e 256 in
    let name : Bool = leb m.name_len 32 in
    let body : Bool = leb m.body_len 128 in
    let both = and_left (entry && name) body h in
    record {
      entry = ltb-true e 256 (and_left entry name both);
      name = leb-true m.name_len 32 (and_right entry name both);
      body = leb-true m.body_len 128 (and_right (entry && name) body h);
    }

module _ (rows : Table) (e : ℕ) where
  pub part_is : (m : Message) → m ≡ message_at rows e → Limits m e → row_part m e ≡ part_at rows e
  unfolding part_at
  part_is m row h =
      let name = le-leb m.name_len 32 h.name in
      let body = le-leb m.body_len 128 h.body in
      rw (sym row) (simp (lt-ltb e 256 h.entry, name, body))

  -- what holds of a row within the limits, and of no message, holds of the part
  part_rule : (P : Part → Type 0) → (Limits (message_at rows e) e → P (row_part (message_at rows e) e)) → P no_part
      → P (part_at rows e)
  unfolding part_at
  part_rule P some none = at (in_limits (message_at rows e) e) refl
    where
      at : (b : Bool) → in_limits (message_at rows e) e ≡ b → P (pick b (row_part (message_at rows e) e) no_part)
      at true t = some (limits (message_at rows e) e t)
      at false t = none

-- a row that is put changes no other entry's part
pub part_other : (rows : Table) (e : ℕ) (m : Message) (j : ℕ) → j ≢ e → part_at (put_message rows e m) j ≡ part_at rows j
unfolding part_at
part_other rows e m j other = rw (message_other rows e m j other) refl

-- one more attempt changes no part
pub tried_shows : (store : List ℕ) (rows : Table) (e : ℕ) (name body : List ℕ) → e < length rows
    → Shows store rows (Some e) name body
    → Shows store (put_message rows e (tried_of (message_at rows e))) (Some e) name body
unfolding part_at
tried_shows store rows e name body inside shows =
    let back = message_put rows e (tried_of (message_at rows e)) inside in
    record { name_is = rw back shows.name_is; body_is = rw back shows.body_is }

-- ---- inside the store

none_inside : Inside no_part
none_inside = record {
  name_forward = omega arith;
  name_stored = omega arith;
  body_forward = omega arith;
  body_stored = omega arith;
}

row_inside : (m : Message) (e : ℕ) → Limits m e → Inside (row_part m e)
row_inside m e h = record {
  name_forward = omega arith;
  name_stored = omega (arith, h.entry, h.name);
  body_forward = omega arith;
  body_stored = omega (arith, h.entry, h.body);
}

-- whatever the rows hold, the part lies inside the body store
pub part_inside : (rows : Table) (m : Option ℕ) → Inside (part_of rows m)
part_inside rows None = none_inside
part_inside rows (Some e) = part_rule rows e Inside (row_inside (message_at rows e) e) none_inside

-- ---- a message that is kept

-- bytes that are put leave those before them
put_below : (store : List ℕ) (at a b : ℕ) (bytes : List ℕ) → a ≤ b → b ≤ at
    → part (put_bytes store at bytes) a b ≡ part store a b
unfolding put_bytes
put_below store at a b bytes forward low = go (leb (at + length bytes) (length store)) refl
  where
    go : (t : Bool) → leb (at + length bytes) (length store) ≡ t
        → part (pick t (write store at bytes) store) a b ≡ part store a b
    go true fits = part_below store at a b bytes forward low (leb-true (at + length bytes) (length store) fits)
    go false none = refl

-- bytes that are put where they fit stand there
put_there : (store : List ℕ) (at : ℕ) (bytes : List ℕ) → at + length bytes ≤ length store
    → part (put_bytes store at bytes) at (at + length bytes) ≡ bytes
unfolding put_bytes
put_there store at bytes fits =
    rw (le-leb (at + length bytes) (length store) fits) (part_written store at bytes fits)

-- the name of an entry stands at its beginning, whatever the body
pub name_back : (store : List ℕ) (e : ℕ) (name body : List ℕ) → length store ≡ 40960 → e < 256 → length name ≤ 32
    → part (store_entry store e name body) (160 * e) (160 * e + length name) ≡ name
unfolding store_entry
name_back store e name body long inside short =
    rw (lt-ltb e 256 inside)
    (put_below (put_bytes store (160 * e) name) (160 * e + 32) (160 * e) (160 * e + length name) body (omega arith)
    (omega arith)
    ∙ put_there store (160 * e) name (omega arith))

-- the store keeps its length
put_long : (store : List ℕ) (at : ℕ) (bytes : List ℕ) → length (put_bytes store at bytes) ≡ length store
unfolding put_bytes
put_long store at bytes = go (leb (at + length bytes) (length store)) refl
  where
    go : (t : Bool) → leb (at + length bytes) (length store) ≡ t
        → length (pick t (write store at bytes) store) ≡ length store
    go true fits = length_write store at bytes (leb-true (at + length bytes) (length store) fits)
    go false none = refl

entry_long : (store : List ℕ) (e : ℕ) (name body : List ℕ) → length (store_entry store e name body) ≡ length store
unfolding store_entry
entry_long store e name body = go (ltb e 256)
  where
    go : (t : Bool)
        → length (pick t (put_bytes (put_bytes store (160 * e) name) (160 * e + 32) body) store) ≡ length store
    go true = put_long (put_bytes store (160 * e) name) (160 * e + 32) body ∙ put_long store (160 * e) name
    go false = refl

pub keep_long : (m : Messages) (a : Arrival) (to : ℕ) → length (keep_of m a to).store ≡ length m.store
unfolding keep_of keep_at
keep_long m a to = go (first_of m.links FREE)
  where
    go : (f : Option ℕ) → length (keep_found m a to f).store ≡ length m.store
    go (Some e) = entry_long m.store e a.name a.body
    go None = refl

-- name and body in an entry of the store
module _ (store : List ℕ) (e : ℕ) (name body : List ℕ) (long : length store ≡ 40960) (inside : e < 256)
    (short_name : length name ≤ 32) (short_body : length body ≤ 128) where
  abbrev named : List ℕ
  named = write store (160 * e) name

  named_long : length named ≡ length store
  named_long = length_write store (160 * e) name (omega arith)

  stored_is : store_entry store e name body ≡ write named (160 * e + 32) body
  unfolding store_entry put_bytes
  stored_is =
      let a = lt-ltb e 256 inside in
      let b = le-leb (160 * e + length name) (length store) (omega arith) in
      let c = le-leb (160 * e + 32 + length body) (length named) (omega (arith, named_long)) in
      simp (a, b, c)

  body_back : part (store_entry store e name body) (160 * e + 32) (160 * e + 32 + length body) ≡ body
  body_back = rw stored_is (part_written named (160 * e + 32) body (omega (arith, named_long)))

  -- the bytes of another entry are as they were
  bytes_other : (j a b : ℕ) → j ≢ e → a ≤ b → 160 * j ≤ a → b ≤ 160 * j + 160
      → part (store_entry store e name body) a b ≡ part store a b
  bytes_other j a b other forward low high = rw stored_is (at (ltb j e) refl)
    where
      at : (t : Bool) → ltb j e ≡ t → part (write named (160 * e + 32) body) a b ≡ part store a b
      at true t =
          let below : j < e = ltb-true j e t in
          part_below named (160 * e + 32) a b body forward (omega arith) (omega (arith, named_long))
          ∙ part_below store (160 * e) a b name forward (omega arith) (omega arith)
      at false t =
          let above : e < j = let h = ltb-false j e t in omega arith in
          part_above named (160 * e + 32) a b body (omega arith) (omega (arith, named_long))
          ∙ part_above store (160 * e) a b name (omega arith) (omega arith)

  module _ (t rows : Table) (caller : Option CallerId) (id : Option LogId) (to : ℕ) (sized : length rows ≡ 256) where
    abbrev before : Messages
    before = record { store = store; links = t; rows = rows }

    abbrev arrival : Arrival
    arrival = record { name = name; body = body; caller = caller; id = id }

    abbrev kept : Messages
    kept = keep_at before e arrival to

    -- what is kept in an entry is shown as it was given
    pub kept_shows : Shows kept.store kept.rows (Some e) name body
    unfolding keep_at
    kept_shows =
        let m : Message = new_row (length name) (length body) caller id in
        let there = sym (message_put rows e m (omega arith)) in
        let fits : Limits m e = record { entry = inside; name = short_name; body = short_body } in
        let p = sym (part_is (put_message rows e m) e m there fits) in
        record {
          name_is =
              ap (λ q. bytes_in (store_entry store e name body) q.name) p
              ∙ name_back store e name body long inside short_name;
          body_is = ap (λ q. bytes_in (store_entry store e name body) q.body) p ∙ body_back;
        }

    -- what another entry shows is as it was
    pub others_show : (j : ℕ) → j ≢ e → (n b : List ℕ) → Shows store rows (Some j) n b
        → Shows kept.store kept.rows (Some j) n b
    unfolding keep_at
    others_show j other n b shows =
        let m : Message = new_row (length name) (length body) caller id in
        let same : part_at (put_message rows e m) j ≡ part_at rows j = part_other rows e m j other in
        record {
          name_is =
              ap (λ q. bytes_in (store_entry store e name body) q.name) same
              ∙ (part_rule rows j (λ q. bytes_in (store_entry store e name body) q.name ≡ bytes_in store q.name)
              (λ h. bytes_other j (160 * j) (160 * j + (message_at rows j).name_len) other (omega arith) (omega arith)
              (omega (arith, h.name)))
              refl
              ∙ shows.name_is);
          body_is =
              ap (λ q. bytes_in (store_entry store e name body) q.body) same
              ∙ (part_rule rows j (λ q. bytes_in (store_entry store e name body) q.body ≡ bytes_in store q.body)
              (λ h. bytes_other j (160 * j + 32) (160 * j + 32 + (message_at rows j).body_len) other (omega arith)
              (omega arith) (omega (arith, h.body)))
              refl
              ∙ shows.body_is);
        }

    -- the first free entry is the one that is taken
    pub keep_shows : first_of t FREE ≡ Some e
        → Shows (keep_of before arrival to).store (keep_of before arrival to).rows (Some e) name body
    unfolding keep_of
    keep_shows free = rw free kept_shows
