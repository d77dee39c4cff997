-- Laws of a line's fields at opening: within the limits, and copied into an entry of the store.
use Rattle.std.specs.Prelude.{Option, unwrap_or}
use mathlib.Core.Path.{◌≡◌, refl, ap, sym, ◌∙◌}
use mathlib.Core.Bool.{Bool, true, false, ◌&&◌}
use mathlib.Core.List.{List}
use Prim.Native.Nat.{ℕ, ◌+◌, ◌-◌, ◌≤◌}
use native.Mathlib.Omega.{arith}
use borrow.Author.Tests.{leb-true}
use borrow.Rule.Slice.PartMut.{put_mid}
use lib.Dec.{leb}
use lib.ListN.{length, take, drop, length-take, length-drop}
use Rattle.text.specs.Format.{unescape, lines}
use Rattle.text.specs.Line.{Line, name_of, body_of, name_field, body_field, first_text, read_line, line_at}
use Rattle.text.specs.Bytes.{write}
use Rattle.text.specs.Answers.{Filled, filled}
use Rattle.text.proofs.LineLaws.{name_read, body_read}
use Rattle.text.proofs.AnswerLaws.{filled_part, filled_answer}
use Rattle.text.proofs.WriteLaws.{length_write}
use Rattle.message_log.specs.declared.opening.Lengths.{Lengths}
use Rattle.message_log.specs.Scan.{fit_line, lengths_of}
use Rattle.message_log.proofs.OpeningLaws.{and_left, and_right}

-- a field of the line at a place, unescaped
field_at : (P : Line → List ℕ) (file line field : List ℕ) (at : ℕ) → line ≡ first_text (lines (drop at file))
    → unescape field ≡ P (read_line line) → unescape field ≡ P (line_at file at)
unfolding line_at
field_at P file line field at e f = f ∙ ap (λ l. P (read_line l)) e

pub name_at : (file line field : List ℕ) (at : ℕ) → line ≡ first_text (lines (drop at file)) → field ≡ name_field line
    → unescape field ≡ name_of (line_at file at)
name_at file line field at e f = field_at name_of file line field at e (ap unescape f ∙ name_read line)

pub body_at : (file line field : List ℕ) (at : ℕ) → line ≡ first_text (lines (drop at file)) → field ≡ body_field line
    → unescape field ≡ body_of (line_at file at)
body_at file line field at e f = field_at body_of file line field at e (ap unescape f ∙ body_read line)

pub fit_both : (l : Line) (a b : Bool) → a ≡ leb (length (name_of l)) 32 → b ≡ leb (length (body_of l)) 128 → a ≡ true
    → b ≡ fit_line l
unfolding fit_line
fit_both l a b e f t = f ∙ sym (ap (λ x. x && leb (length (body_of l)) 128) (sym e ∙ t))

pub fit_not : (l : Line) (a : Bool) → a ≡ leb (length (name_of l)) 32 → a ≡ false → false ≡ fit_line l
unfolding fit_line
fit_not l a e t = sym (ap (λ x. x && leb (length (body_of l)) 128) (sym e ∙ t))

pub fit_name : (l : Line) → fit_line l ≡ true → length (name_of l) ≤ 32
unfolding fit_line
fit_name l e = leb-true (length (name_of l)) 32 (and_left (leb (length (name_of l)) 32) (leb (length (body_of l)) 128) e)

pub fit_body : (l : Line) → fit_line l ≡ true → length (body_of l) ≤ 128
unfolding fit_line
fit_body l e = leb-true (length (body_of l)) 128 (and_right (leb (length (name_of l)) 32) (leb (length (body_of l)) 128)
    e)

-- a field that was put into the part of a slice that begins at a
module _ (d : List ℕ) (a : ℕ) (text field last : List ℕ) (r : Option ℕ) (h : a + length text ≤ length d)
    (e : unescape field ≡ text)
    (f : ◌≡◌ {A = Filled} (record { bytes = last; answer = r }) (filled (take (length d - a) (drop a d))
    (unescape field))) where
  f' : ◌≡◌ {A = Filled} (record { bytes = last; answer = r }) (filled (take (length d - a) (drop a d)) text)
  f' = f ∙ ap (filled (take (length d - a) (drop a d))) e

  pub put_bytes_lem : put_mid a (length d - a) d last ≡ write d a text
  put_bytes_lem = filled_part d a text last r h f'

  pub put_length : (n : ℕ) → n ≡ unwrap_or r 0 → n ≡ length text
  put_length n q =
      let room : length text ≤ length (take (length d - a) (drop a d)) = simp (length-take, length-drop) (omega arith)
      in
      q ∙ ap (λ k. unwrap_or k 0) (filled_answer (take (length d - a) (drop a d)) text last r room f')

-- a name and a body put into an entry, one after the other
pub both_fields : (store named full : List ℕ) (base : ℕ) (name body field₁ field₂ last₁ last₂ : List ℕ)
    (r₁ r₂ : Option ℕ) (n₁ n₂ : ℕ) → base + 160 ≤ length store → length name ≤ 32 → length body ≤ 128
    → unescape field₁ ≡ name → unescape field₂ ≡ body
    → named ≡ put_mid base (length store - base) store last₁ → ◌≡◌ {A = Filled} (record { bytes = last₁; answer = r₁ })
    (filled (take (length store - base) (drop base store)) (unescape field₁))
    → full ≡ put_mid (base + 32) (length named - (base + 32)) named last₂
    → ◌≡◌ {A = Filled} (record { bytes = last₂; answer = r₂ })
    (filled (take (length named - (base + 32)) (drop (base + 32) named)) (unescape field₂))
    → n₁ ≡ unwrap_or r₁ 0 → n₂ ≡ unwrap_or r₂ 0
    → (◌≡◌ {A = Lengths} (record { name = n₁; body = n₂ }) (lengths_of name body))
    × (full ≡ write (write store base name) (base + 32) body)
both_fields store named full base name body field₁ field₂ last₁ last₂ r₁ r₂ n₁ n₂ h a b e f p x q y l m =
    let one : named ≡ write store base name = p ∙ put_bytes_lem store base name field₁ last₁ r₁ (omega arith) e x in
    let long : length named ≡ length store = ap length one ∙ length_write store base name (omega arith) in
    let two : full ≡ write named (base + 32) body = q ∙ put_bytes_lem named (base + 32) body field₂ last₂ r₂ (omega arith)
    f y in
    let n : n₁ ≡ length name = put_length store base name field₁ last₁ r₁ (omega arith) e x n₁ l in
    let k : n₂ ≡ length body = put_length named (base + 32) body field₂ last₂ r₂ (omega arith) f y n₂ m in
    (rw (n, k) refl, two ∙ ap (λ d. write d (base + 32) body) one)
