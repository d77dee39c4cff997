-- Laws of texts written one behind the other: what becomes of one text, and one row of a table after another.
use mathlib.Core.Path.{◌≡◌, ap, sym, ◌∙◌}
use mathlib.Core.Bool.{true, false}
use mathlib.Core.List.{List, [], ◌∷◌}
use Prim.Native.Nat.{ℕ, ◌+◌, ◌≤◌, ◌<◌}
use native.Mathlib.Numerals.{add-one}
use lib.Dec.{leb}
use lib.ListN.{length, drop, get_or, drop_of_length-le}
use lib.Seq.{drop-cons}
use borrow.Author.Tests.{eq-eqb, ne_eqb, leb-true}
use Rattle.std.proofs.lemmas.List.{get_or_default}
use Rattle.text.specs.Bytes.{Wrote}
use Rattle.lists.specs.Links.{Table}
use Rattle.wire.specs.Number.{numbers}
use Rattle.wire.specs.Output.{Output, output_with, output, output_rows, output_keys}

-- ---- one text: it has room, it has none, nothing goes out any more

module _ (text : List ℕ) {out : List ℕ} {at code : ℕ} where
  pub output_room : {out' : List ℕ} {end : ℕ} → code ≡ 0 → leb (at + length text) (length out) ≡ true
      → Wrote out at text out' end → output_with out' end 0 ≡ output (output_with out at code) text
  unfolding output
  output_room e r w = rw (eq-eqb code 0 e, r, w.bytes, w.past)

  pub output_full : code ≡ 0 → leb (at + length text) (length out) ≡ false → output_with out at 2
      ≡ output (output_with out at code) text
  unfolding output
  output_full e r = rw (eq-eqb code 0 e, r)

  pub output_over : (code ≡ 0 → ⊥) → output_with out at code ≡ output (output_with out at code) text
  unfolding output
  output_over e = rw (ne_eqb code 0 e)

-- ---- rows: the next one goes out, and the others follow

module _ (t : Table) (i : ℕ) where
  more : i < length t → drop i t ≡ get_or t i [] ∷ drop (i + 1) t
  more inside = rw add-one (drop-cons t i [] inside)

  module _ (d : Output) {d' whole : Output} (inside : i < length t) where
    pub rows_more : (row : List ℕ) → row ≡ get_or t i row → d' ≡ output d (numbers row)
        → output_rows d (drop i t) ≡ whole → output_rows d' (drop (i + 1) t) ≡ whole
    unfolding output_rows
    rows_more row r e h =
        let there : row ≡ get_or t i [] = r ∙ get_or_default t i row [] inside in
        rw e (rw there (sym (ap (output_rows d) (more inside)) ∙ h))

    pub keys_more : d' ≡ output d (get_or t i []) → output_keys d (drop i t) ≡ whole
        → output_keys d' (drop (i + 1) t) ≡ whole
    unfolding output_keys
    keys_more e h = rw e (sym (ap (output_keys d) (more inside)) ∙ h)

  module _ {d whole : Output} (out : length t ≤ i) where
    pub rows_end : output_rows d (drop i t) ≡ whole → d ≡ whole
    unfolding output_rows
    rows_end h = sym (ap (output_rows d) (drop_of_length-le t out)) ∙ h

    pub keys_end : output_keys d (drop i t) ≡ whole → d ≡ whole
    unfolding output_keys
    keys_end h = sym (ap (output_keys d) (drop_of_length-le t out)) ∙ h

-- what becomes of one text, as the code tests it
pub ruleset outputs = (output_full, output_over, leb-true)
