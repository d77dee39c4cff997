-- Inbox to pending while pending + queued < backlog; then all of pending is the batch.
use Rattle.std.specs.Prelude.{ℕ, ◌+◌, ◌-◌, eqb, ltb, leb}
use Rattle.lists.specs.Links.{pick, Table, len_of, capped, move_first, move_all, INBOX, PENDING, BATCH, ENTRIES}
use Rattle.points.specs.declared.at.At.{At}
use Rattle.points.specs.declared.at.At.TheVariants as at
use Rattle.points.specs.declared.at.Point.TheVariants as point

-- what a step over the lists changes, and where the turn stands then
pub record Linked : Type 0 where
  pub links : Table
  pub at : At

-- how many messages of a batch of n are to be routed: n, but at most 256
abbrev pub batch_size : ℕ → ℕ
batch_size n = pick (ltb n ENTRIES) n ENTRIES

-- all of pending goes to the end of the batch, in its order, and the batch is to be routed, at most 256 messages
unfoldable pub batch_of : Table → Linked
batch_of t =
    record {
      links = move_all t PENDING BATCH;
      at = at.Runs (point.Route (batch_size (len_of (move_all t PENDING BATCH) BATCH)));
    }

-- one message more, while there is one and room for it; `left` counts what may still be taken in
unfoldable pub intake_of : Table → ℕ → ℕ → ℕ → Linked
intake_of t queued backlog left =
    pick (eqb left 0) (batch_of t)
    (pick (leb backlog (capped (len_of t PENDING + queued))) (batch_of t)
    (pick (eqb (len_of t INBOX) 0) (batch_of t)
    (record { links = move_first t INBOX PENDING; at = at.Runs (point.Intake (left - 1)) })))
