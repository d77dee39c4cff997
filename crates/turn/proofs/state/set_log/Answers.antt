-- `state::set_log` meets its contract: by the cells that it writes. Assumes nothing.
use Rattle.turn.specs.Words.{pool_of}
use Rattle.turn.proofs.CellLaws.{cells_read}
use Rattle.turn.proofs.state.set_log.Goals as goal

pub returns : goal.returns
unfolding pool_of
returns c = rw (c.set_disk.ensures, cells_read c.args.pool.now c.told-pool, c.flag_cell.ensures)
