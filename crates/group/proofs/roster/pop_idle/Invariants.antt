-- What the keys that are left in the list give is what the whole list does.
use Rattle.std.specs.Prelude.{◌≡◌, ◌-◌}
use Rattle.lists.specs.KeyLists.{keys_at, count_of}
use Rattle.group.specs.Roster.{pop_idle_of}
use Rattle.group.proofs.roster.pop_idle.Given as goal

abbrev pub invariant-loop : goal.invariant-loop
invariant-loop l = (pop_idle_of l.initial.keys l.actors l.g ≡ pop_idle_of l.keys l.actors l.g) × (count_of (keys_at l.keys l.row) ≡ l.end - l.counter)
