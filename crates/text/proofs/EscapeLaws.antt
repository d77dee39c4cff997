-- Laws of escaped text as the code meets it.
use mathlib.Core.Path.{◌≡◌, ap, ◌∙◌}
use mathlib.Core.List.{List, [], ◌∷◌, ◌++◌}
use Prim.Native.Nat.{ℕ, ◌+◌, ◌≤◌, ◌<◌}
use native.Mathlib.Numerals.{add-one}
use borrow.Author.Tests.{eq-eqb, ne_eqb}
use lib.ListN.{length, drop, get_or, length-append, drop_of_length-le}
use lib.Seq.{drop-cons}
use Rattle.text.specs.Format.{BACKSLASH, escape_byte, escape, escaped, unescape}
use Rattle.text.specs.Format.{unescape_next}
use Rattle.text.proofs.Bridge as Bridge

module _ (s : List ℕ) (i : ℕ) where
  pub escape_end : length s ≤ i → escape (drop i s) ≡ []
  unfolding escape
  escape_end h = rw (drop_of_length-le s h)

  pub escape_more : i < length s → escape (drop i s) ≡ escape_byte (get_or s i 0) ++ escape (drop (i + 1) s)
  unfolding escape
  escape_more h = rw (add-one, drop-cons s i 0)

  pub escape_width : i < length s → length (escape (drop i s)) ≡ length (escape_byte (get_or s i 0)) + length
      (escape (drop (i + 1) s))
  escape_width h = ap length (escape_more h) ∙ length-append (escape_byte (get_or s i 0)) (escape (drop (i + 1) s))

  pub plain_end : length s ≤ i → unescape (drop i s) ≡ []
  unfolding unescape
  plain_end h = rw (drop_of_length-le s h)

  pub next_end : length s ≤ i → unescape_next (drop i s) ≡ []
  unfolding unescape
  next_end h = rw (drop_of_length-le s h)

  pub plain_backslash : i < length s → get_or s i 0 ≡ 92 → unescape (drop i s) ≡ unescape_next (drop (i + 1) s)
  plain_backslash h e = Bridge.unescape_backslash s i h (eq-eqb (get_or s i 0) BACKSLASH e)

  pub plain_more : i < length s → (get_or s i 0 ≡ 92 → ⊥) → unescape (drop i s) ≡ get_or s i 0 ∷ unescape (drop (i + 1) s)
  plain_more h e = Bridge.unescape_plain s i h (ne_eqb (get_or s i 0) BACKSLASH e)

  pub next_more : i < length s → unescape_next (drop i s) ≡ escaped (get_or s i 0) ∷ unescape (drop (i + 1) s)
  next_more h = Bridge.unescape_after s i h

-- what a loop over a text that it escapes goes by
pub ruleset escapes = (escape_width, escape_end)
