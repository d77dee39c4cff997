-- Past the file there is no line; inside it the first LF from the place on ends the line, and where there is none the
-- rest is torn.
use Rattle.std.proofs.Common.{◌<◌, length, refl, arith}
use Rattle.text.proofs.LineLaws.{feed_from, whole_from, torn_from, none_past}
use Rattle.text.proofs.line.line_end.Goals as goal

pub returns-then-file-at : goal.returns-then-file-at
returns-then-file-at c =
    let size = length c.args.file.now in
    record {
      within = omega arith;
      low = λ (h : size < size). absurd (omega arith);
      whole = λ (h : size < size). absurd (omega arith);
      feed = λ (h : size < size). absurd (omega arith);
      torn = λ _. none_past c.args.file.now c.args.at c.if-file-at.true;
    }

pub returns : goal.returns
returns c =
    let f = c.find_from.ensures in
    record {
      within = f.within;
      low = λ _. f.low;
      whole = whole_from _ _ _ _ f refl;
      feed = feed_from _ _ _ _ f refl;
      torn = torn_from _ _ _ _ f refl;
    }
