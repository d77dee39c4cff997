-- `state::close` meets its contract: by the cells that it writes. Assumes nothing.
use Rattle.turn.specs.Words.{pool_of, is_yes}
use Rattle.turn.proofs.CellLaws.{cells_read}
use Rattle.turn.proofs.state.close.Goals as goal

pub returns : goal.returns
unfolding pool_of is_yes
returns c = rw (cells_read c.args.pool.now c.told-pool)
