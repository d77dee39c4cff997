-- `tables::blank_keys` meets its contract: the lists before the loop's are empty.
use Rattle.std.proofs.Common.{◌≡◌, take, replicate}
use Rattle.lists.specs.KeyLists.{blank_row}
use Rattle.settings.proofs.tables.blank_keys.Given as goal

abbrev pub invariant-loop-row : goal.invariant-loop-row
invariant-loop-row l = take l.row-index l.row-items ≡ replicate l.row-index blank_row
