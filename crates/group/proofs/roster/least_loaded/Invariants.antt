-- The keys from `key` on give what all of them do, with the best so far.
use Rattle.std.specs.Prelude.{◌≡◌, ◌-◌, None}
use Rattle.lists.specs.KeyLists.{keys_at}
use Rattle.group.specs.Roster.{least_from, better_of}
use Rattle.group.proofs.roster.least_loaded.Given as goal

abbrev pub invariant-loop-key : goal.invariant-loop-key
invariant-loop-key l = least_from (keys_at l.keys l.row) (better_of l.links l.g) 16 0 None ≡ least_from (keys_at l.keys l.row) (better_of l.links l.g) (16 - l.key) l.key l.best
