-- Admission and routing mean one group: the group of a name given as bytes is the one that is found for the name in
-- the entry of the body store where it was written. So a message that is kept for a loaded program is routed to a
-- group that may have an actor, and one for any other program would not be. Assumes nothing.
use Rattle.std.specs.Prelude.{Option, Some, None}
use Rattle.message_log.specs.declared.LogId.{LogId}
use Rattle.actor.specs.declared.message.CallerId.{CallerId}
use mathlib.Core.Path.{◌≡◌, refl, sym, ap, ◌∙◌}
use mathlib.Core.Bool.{true, false}
use mathlib.Core.List.{List, []}
use Prim.Native.Nat.{ℕ, zero, suc, ◌+◌, ◌-◌, ◌*◌, ◌≤◌, ◌<◌}
use native.Mathlib.Omega.{arith}
use lib.Dec.{leb}
use lib.ListN.{length, drop, get_or}
use lib.Seq.{get_or-take, get_or-drop}
use borrow.Author.Tests.{ltb-true, lt-leb, lt-ltb}
use Rattle.text.specs.Bytes.{part}
use Rattle.lists.specs.Links.{Table, FREE, first_of}
use Rattle.actor.proofs.Back.{message_put}
use Rattle.group.specs.Settings.{group_at, agrees, named, by_name, has_name, group_named, may_run, loaded_in}
use Rattle.actor.specs.Entry.{Messages, Arrival, store_entry, new_row, keep_at, keep_of}
use Rattle.actor.proofs.Parts.{name_back}
use Rattle.pool.specs.Loaded.{OneGroup, Routes, LoadedAt}

-- ---- the group of a name

-- a text stands in the store from `from` on, byte by byte
abbrev Stands : List ℕ → ℕ → List ℕ → Type 0
Stands store from name = (k : ℕ) → k < length name → get_or store (from + k) 0 ≡ get_or name k 0

part_stands : (store : List ℕ) (from : ℕ) (name : List ℕ) → part store from (from + length name) ≡ name
    → Stands store from name
part_stands store from name is k inside =
    sym (get_or-drop from store k 0)
    ∙ (sym (get_or-take (from + length name - from) (drop from store) k 0 (omega arith)) ∙ ap (λ l. get_or l k 0) is)

-- a group's name agrees with a text in the store as it does with the text by itself
agrees_same : (row store name : List ℕ) (from : ℕ) → Stands store from name → (n i : ℕ) → i + n ≤ length name
    → agrees row store from i n ≡ agrees row name 0 i n
unfolding agrees
agrees_same row store name from there zero i fits = refl
agrees_same row store name from there (suc n) i fits =
    let none : 0 + i ≡ i = omega arith in
    rw (there i (omega arith), agrees_same row store name from there n (suc i) (omega arith), none)

named_same : (row store name : List ℕ) (e : ℕ) → e < 256 → Stands store (160 * e) name
    → named row store e (length name) ≡ has_name row name
unfolding named has_name
named_same row store name e inside there =
    let in-store : leb 256 e ≡ false = lt-leb 256 e inside in
    rw (in-store, agrees_same row store name (160 * e) there (length name) 0 (omega arith))

for_same : (groups : Table) (store name : List ℕ) (e : ℕ) → e < 256 → Stands store (160 * e) name → (count : ℕ)
    → by_name groups store e (length name) count ≡ group_named groups name count
unfolding by_name group_named
for_same groups store name e inside there zero = refl
for_same groups store name e inside there (suc g) =
    rw (named_same (get_or groups g []) store name e inside there, for_same groups store name e inside there g)

-- Admission and routing mean one group.
pub one_group : OneGroup
one_group groups count store name body e long inside short =
    for_same groups (store_entry store e name body) name e inside
    (part_stands (store_entry store e name body) (160 * e) name (name_back store e name body long inside short))
    count

-- ---- a program that is loaded

module _ (groups : Table) (count : ℕ) (name : List ℕ) where
  -- the group of a loaded program
  loaded_group : loaded_in groups name count ≡ true
      → (g : ℕ) × ((group_named groups name count ≡ Some g) × (0 < (group_at groups g).ceiling))
  unfolding loaded_in
  loaded_group loaded = go (group_named groups name count) refl
    where
      go : (n : Option ℕ) → group_named groups name count ≡ n
          → (g : ℕ) × ((group_named groups name count ≡ Some g) × (0 < (group_at groups g).ceiling))
      go (Some g) is =
          (g, (is, ltb-true 0 (group_at groups g).ceiling (ap (may_run groups) (sym is) ∙ loaded)))
      go None is = let z : ◌≡◌ {A = ℕ} 0 1 = cc in absurd (omega arith)

  -- what is kept in the first free entry, for a program that is loaded, is routed to a group that may have an actor
  pub kept_loaded : (m : Messages) (body : List ℕ) (who : Option CallerId) (id : Option LogId) (to e : ℕ)
      → length m.store ≡ 40960 → length m.rows ≡ 256 → e < 256 → length name ≤ 32
      → first_of m.links FREE ≡ Some e → loaded_in groups name count ≡ true
      → (let a : Arrival = record { name = name; body = body; caller = who; id = id } in
      LoadedAt groups count (keep_of m a to).store (keep_of m a to).rows e)
  unfolding keep_of keep_at
  kept_loaded m body who id to e long sized inside short free loaded =
      let g = loaded_group loaded in
      rw (free, message_put m.rows e (new_row (length name) (length body) who id) (omega arith))
      (record {
        group = g.0;
        found = one_group groups count m.store name body e long inside short ∙ g.1.0;
        ceiling = g.1.1;
      })

  -- and for one that is not loaded routing would find no such group
  pub unloaded_lost : (store body : List ℕ) (e : ℕ) → length store ≡ 40960 → e < 256 → length name ≤ 32
      → loaded_in groups name count ≡ false → Routes groups count (store_entry store e name body) e (length name) → ⊥
  unfolding loaded_in
  unloaded_lost store body e long inside short none r =
      let is = sym (one_group groups count store name body e long inside short) ∙ r.found in
      let runs = lt-ltb 0 (group_at groups r.group).ceiling r.ceiling in
      let both : false ≡ true = sym none ∙ (ap (may_run groups) is ∙ runs) in
      let z : ◌≡◌ {A = ℕ} 0 1 = cc in omega arith
