-- `show` meets its contract: by its calls. Assumes nothing.
use Rattle.drive.proofs.show.Goals as goal

pub returns : goal.returns
returns c = simp (c.answer_of.ensures, c.numbers_of-s.ensures, c.entry_number.ensures)
