-- A backslash, and behind it the byte that says which one was escaped.
use Rattle.std.proofs.Common.{◌≡◌, [], ◌∷◌, refl}
use Rattle.text.specs.Format.{escape_byte}
use Rattle.text.proofs.WriteLaws.{both}
use Rattle.text.proofs.escape.put_escaped_byte.Goals as goal
use Rattle.text.proofs.escape.put_escaped_byte.Goals.{in-92, in-9, in-10}

pub returns : goal.returns
unfolding escape_byte
returns c =
    let e : escape_byte c.args.b ≡ 92 ∷ c.match-b.second ∷ [] = elim c.match-b.branch [
      | in-92 w ↦ rw (w.in-92.is, w.second-is) refl
      | in-9 w ↦ rw (w.in-9.is, w.second-is) refl
      | in-10 w ↦ rw (w.in-10.is, w.second-is) refl
    ] in
    both _ c.requires e c.put-a.ensures c.put-2.ensures
