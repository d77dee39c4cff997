-- The messages that are left to be over give what all of them do.
use Rattle.std.specs.Prelude.{◌≡◌, ◌-◌}
use Rattle.group.specs.Roster.{over_all}
use Rattle.group.proofs.over.over_all.Given as goal

abbrev pub invariant-loop : goal.invariant-loop
invariant-loop l = over_all l.initial.links l.rows l.from l.n ≡ over_all l.links l.rows l.from (l.n - l.counter)
