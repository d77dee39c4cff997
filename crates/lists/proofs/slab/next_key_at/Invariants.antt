-- `slab::next_key_at` meets its contract: the walk from `key` on finds the same at every turn.
use Rattle.std.proofs.Common.{◌≡◌, ◌-◌}
use Rattle.lists.specs.KeyLists.{keys_at}
use Rattle.lists.specs.Slabs.{next_key}
use Rattle.lists.proofs.slab.next_key_at.Given as goal

abbrev pub invariant-loop-key : goal.invariant-loop-key
invariant-loop-key l = next_key (keys_at l.keys l.i) (16 - l.key) l.key ≡ next_key (keys_at l.keys l.i) (16 - l.from) l.from
