-- `state::stand_at` meets its contract: by the cells that it writes. Assumes nothing.
use Rattle.turn.specs.Words.{pool_of}
use Rattle.turn.proofs.CellLaws.{cells_read}
use Rattle.turn.proofs.state.stand_at.Goals as goal

pub returns : goal.returns
unfolding pool_of
returns c = rw (cells_read c.args.pool.now c.told-pool)
