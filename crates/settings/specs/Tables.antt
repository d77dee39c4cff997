-- The messages that a log left, each in its entry and in pending, in rising id order.
use Rattle.std.specs.Prelude.{List, [], ◌∷◌, ℕ, zero, suc, get_or, Some, None}
use Rattle.lists.specs.Links.{Table, FREE, move_first, PENDING}
use Rattle.actor.specs.declared.message.Message.{Message}
use Rattle.actor.specs.Messages.{put_message}

-- the lists of messages and the messages' rows, with what the log left put into them
pub record LeftPlaced : Type 0 where
  pub links : Table
  pub rows : Table

-- row i of what the log left: the id, the lengths of name and body, and the attempts
abbrev pub left_at : Table → ℕ → List ℕ
left_at left i = get_or left i (0 ∷ 0 ∷ 0 ∷ 0 ∷ [])

-- with the attempts that the log left, and nobody waits for it
abbrev pub left_message : List ℕ → Message
left_message row = record {
  attempts = get_or row 3 0;
  name_len = get_or row 1 0;
  body_len = get_or row 2 0;
  caller = None;
  id =
      Some (record { 0 = get_or row 0 0 });
}

-- n of them, from the i-th on
unfoldable pub put_left : Table → Table → Table → ℕ → ℕ → LeftPlaced
put_left t rows left i zero = record { links = t; rows = rows }
put_left t rows left i (suc n) = put_left (move_first t FREE PENDING) (put_message rows i (left_message (left_at left i)))
    left (suc i) n
