-- Laws of a record's parts, in the order in which they are written.
use mathlib.Core.Path.{◌≡◌, refl}
use mathlib.Core.List.{List, [], ◌∷◌, ◌++◌, append_assoc}
use Prim.Native.Nat.{ℕ, ◌+◌, ◌≤◌}
use native.Mathlib.Omega.{arith}
use lib.ListN.{length, length-append}
use Rattle.text.specs.Format.{print_id, escape, Message, record_text, record_line, done_line}
use Rattle.text.specs.Format.{retry_text, retry_line, line}
use Rattle.text.specs.Bytes.{Wrote}
use Rattle.text.proofs.IdLaws.{print_short}
use Rattle.text.proofs.WriteLaws.{Writing, begin, further}

abbrev pub after_body : List ℕ
after_body = 10 ∷ []

abbrev pub after_name : Message → List ℕ
after_name m = 9 ∷ (escape m.body ++ after_body)

abbrev pub after_id : Message → List ℕ
after_id m = 9 ∷ (escape m.name ++ after_name m)

pub record_parts : (m : Message) → record_line m ≡ print_id m.id ++ after_id m
unfolding record_line record_text line
record_parts m = simp append_assoc

pub done_parts : (id : ℕ) → done_line id ≡ print_id id ++ after_body
unfolding done_line line
done_parts id = refl

abbrev pub after_tried : ℕ → List ℕ
after_tried n = 9 ∷ (print_id n ++ after_body)

pub retry_parts : (id n : ℕ) → retry_line id n ≡ print_id id ++ after_tried n
unfolding retry_line retry_text line
retry_parts id n = simp append_assoc

pub retry_length : (id n : ℕ) → length (retry_line id n) ≡ length (print_id id) + length (print_id n) + 2
retry_length id n = rw (retry_parts id n) (simp length-append (omega arith))

pub record_length : (m : Message) → length (record_line m) ≡ length (print_id m.id) + length (escape m.name)
    + length (escape m.body) + 3
record_length m = rw (record_parts m) (simp length-append (omega arith))

-- what measuring a record goes by
pub ruleset record_sizes = (record_length, print_short)

pub done_length : (id : ℕ) → length (done_line id) ≡ length (print_id id) + 1
done_length id = rw (done_parts id) (simp length-append)

pub wrote_id : (m : Message) {out d : List ℕ} {a : ℕ} → length (record_line m) ≤ length out
    → Wrote out 0 (print_id m.id) d a → Writing out 0 (record_line m) d a (after_id m)
wrote_id m {out} h p = further (begin out 0 (record_line m) (omega arith)) (record_parts m) p

pub wrote_tried : (id n : ℕ) {out d : List ℕ} {a : ℕ} → length (retry_line id n) ≤ length out
    → Wrote out 0 (print_id id) d a → Writing out 0 (retry_line id n) d a (after_tried n)
wrote_tried id n {out} h p = further (begin out 0 (retry_line id n) (omega arith)) (retry_parts id n) p

module _ {d₀ : List ℕ} {at₀ : ℕ} {t d : List ℕ} {a : ℕ} where
  pub byte : {b : ℕ} {r d' : List ℕ} {a' : ℕ} → Writing d₀ at₀ t d a (b ∷ r) → Wrote d a (b ∷ []) d' a'
      → Writing d₀ at₀ t d' a' r
  byte w p = further w refl p

  pub text : {x d' : List ℕ} {a' : ℕ} (r : List ℕ) → Writing d₀ at₀ t d a (x ++ r) → Wrote d a x d' a'
      → Writing d₀ at₀ t d' a' r
  text r w p = further w refl p
