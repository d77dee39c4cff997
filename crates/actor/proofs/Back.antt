-- What is written to a table is read back, and every other row is as it was. Assumes nothing.
use Rattle.std.specs.Prelude.{Option, Some, None}
use Rattle.message_log.specs.declared.LogId.{LogId}
use Rattle.actor.specs.declared.message.CallerId.{CallerId}
use mathlib.Core.Path.{◌≡◌, refl, ap, ◌∙◌}
use mathlib.Core.Logic.{◌≢◌}
use mathlib.Core.List.{List, []}
use Prim.Native.Nat.{ℕ, ◌<◌}
use lib.ListN.{length, get_or}
use lib.Seq.{get_or-set_same, get_or-set_other}
use Rattle.actor.specs.declared.message.Message.{Message}
use Rattle.actor.specs.declared.state.Actor.{Actor}
use Rattle.actor.specs.Messages.{caller_of, caller_tag, caller_number, logged_of, logged_tag, logged_number, message_of}
use Rattle.actor.specs.Messages.{message_cells, message_at, put_message}
use Rattle.actor.specs.Actors.{actor_of, actor_onto, actor_at, put_actor}
use Rattle.actor.proofs.Onto.{onto_back}

-- ---- a message's row

caller_back : (c : Option CallerId) → caller_of (caller_tag c) (caller_number c) ≡ c
caller_back (Some id) = refl
caller_back None = refl

logged_back : (l : Option LogId) → logged_of (logged_tag l) (logged_number l) ≡ l
logged_back (Some id) = refl
logged_back None = refl

pub message_back : (m : Message) → message_of (message_cells m) ≡ m
message_back m = rw (caller_back m.caller, logged_back m.id)

module _ (rows : List (List ℕ)) (e : ℕ) (m : Message) where
  pub message_put : e < length rows → message_at (put_message rows e m) e ≡ m
  unfolding message_at put_message
  message_put e-is = ap message_of (get_or-set_same rows e (message_cells m) [] e-is) ∙ message_back m

  pub message_other : (j : ℕ) → j ≢ e → message_at (put_message rows e m) j ≡ message_at rows j
  unfolding message_at put_message
  message_other j other = ap message_of (get_or-set_other rows e j (message_cells m) [] other)

-- ---- an actor's state

module _ (l : List (List ℕ)) (slot : ℕ) (a : Actor) where
  pub actor_put : slot < length l → actor_at (put_actor l slot a) slot ≡ a
  unfolding actor_at put_actor
  actor_put slot_is =
      ap actor_of (get_or-set_same l slot (actor_onto (get_or l slot []) a) [] slot_is) ∙ onto_back (get_or l slot []) a

  pub actor_other : (j : ℕ) → j ≢ slot → actor_at (put_actor l slot a) j ≡ actor_at l j
  unfolding actor_at put_actor
  actor_other j other = ap actor_of (get_or-set_other l slot j (actor_onto (get_or l slot []) a) [] other)
