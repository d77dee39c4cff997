-- A line that was handed back leaves less of the log.
use Rattle.std.specs.Prelude.{◌≡◌, ◌-◌, ⊤, ℕ, length, Option, Some, None}
use Rattle.std.specs.Iterator.{MakesProgress, at_most}
use Rattle.std.proofs.Common.{refl, arith}
use Rattle.text.specs.Lines.{next_at}
use Rattle.text.specs.declared.lines.Lines.{Lines}
use Rattle.text.specs.declared.lines.NextLine.{NextLine}
use Rattle.text.proofs.NextLaws.{found}
use Rattle.text.proofs.lines.LinesIterator.next.Goals as goal

less : (s : Lines) (t : NextLine) (r : Option (ℕ × ℕ)) → t ≡ next_at s.log.now s.at → t.line ≡ r
    → MakesProgress {S = Lines} (λ _. ⊤) (λ l. at_most (length l.log.now - l.at)) s r (record { log = s.log; at = t.at })
less s t None is e = record { on = λ _. tt; keeps = tt; rests = λ _. tt }
less s t (Some (a, z)) is e = record {
  on = λ _. let f = found _ _ t is a z e in (tt, tt, omega (arith, f.start, f.past, f.low, f.inside));
  keeps = tt;
  rests = λ _. tt;
}

pub returns-clause-goes : goal.returns-clause-goes
returns-clause-goes c = less c.args.self.now c.next_from-t.result _ c.next_from-t.ensures refl
