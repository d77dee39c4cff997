-- What one more read put behind them is what it took from the reader.
use Rattle.std.proofs.Common.{◌≡◌, ℕ, ◌+◌, ◌-◌, ◌≤◌, List, ◌++◌, rules, arith, length, take, slice_range, sym, ap}
use Rattle.std.proofs.Common.{◌∙◌, subst, le_refl, drop_at, length-take-le}
use Rattle.std.proofs.lemmas.Slice.{take-put_mid_below}
use Rattle.std.specs.Io.KnownBytes.{Consumes}
use Rattle.std.proofs.KnownBytes.{Consumes-trans, Consumes-kept}
use borrow.Rule.Slice.PartMut.{put_mid, post_of}
use lib.Seq.{take-add, take-append-le}
use Rattle.reopening.proofs.read_full.Goals as goal
use Rattle.reopening.proofs.read_full.Goals.{in-Ok, in-Err+else-ne}

take_split : (a b : ℕ) (old new : List ℕ) → a ≤ b → take a new ≡ take a old
    → take a old ++ slice_range new a b ≡ take b new
take_split a b old new h front =
    let same : a + (b - a) ≡ b = omega arith in
    ap (λ l. l ++ slice_range new a b) (sym front) ∙ sym (take-add a (b - a) new) ∙ ap (λ n. take n new) same

slice_range-put_mid : (a k n : ℕ) (xs ys : List ℕ) → a ≤ length xs → n ≤ length ys
    → slice_range (put_mid a k xs ys) a (a + n) ≡ take n ys
slice_range-put_mid a k n xs ys within fits =
    let same : (a + n) - a ≡ n = omega arith in
    let after = post_of a k xs in
    ap (take ((a + n) - a)) (drop_at (take a xs) (ys ++ after) a (length-take-le a xs within))
    ∙ ap (λ m. take m (ys ++ after)) same
    ∙ take-append-le n ys after fits

pub loop-preserved : goal.loop-preserved
loop-preserved g c =
    let from = c.loop.n in
    let before = c.loop.space in
    let room = length before - from in
    let after = put_mid from room before c.read.new.buf in
    let within = c.loop.invariant.within in
    let front : take from after ≡ take from before = take-put_mid_below _ _ _ _ _ (le_refl _) within in
    elim c.match-read.branch [
      | in-Ok w ↦
          let n = w.in-Ok.more in
          let part : slice_range after from (from + n) ≡ take n c.read.new.buf =
          slice_range-put_mid from room n before c.read.new.buf within w.in-Ok.ensures.bound.0 in
          let joined : take from before ++ slice_range after from (from + n) ≡ take (from + n) after =
          take_split from (from + n) before after (omega arith) front in
          let both = Consumes-trans _ _ _ _ _ c.loop.invariant.read w.in-Ok.ensures.bytes.0 in
          rw w.n-is record {
            within = search rules;
            read = subst (Consumes _ _) (ap (λ l. take from before ++ l) (sym part) ∙ joined) both;
          }
      | in-Err+else-ne w ↦
          let kept = Consumes-kept _ _ _ _ c.loop.invariant.read w.in-Err.ensures.bytes in
          rw w.n-is record { within = search rules; read = subst (Consumes _ _) (sym front) kept }
    ]
