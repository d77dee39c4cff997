-- Laws of a turn: what a line that was handed back is in the log, and among its lines.
use Rattle.std.specs.Prelude.{Option, Some, None}
use mathlib.Core.Path.{◌≡◌, refl, ap, sym, ◌∙◌}
use mathlib.Core.Bool.{Bool, true, false, false≢true}
use mathlib.Core.List.{List, [], ◌∷◌}
use Prim.Native.Nat.{ℕ, suc, ◌+◌, ◌-◌, ◌≤◌, ◌<◌}
use native.Mathlib.Omega.{arith}
use borrow.Author.Tests.{eqb-true, leb-true, leb-false, ltb-true, ltb-false}
use lib.Dec.{eqb, leb, ltb}
use lib.ListN.{length, take, drop, length-take, length-drop}
use Rattle.text.specs.Format.{LF, lines}
use Rattle.text.specs.Bytes.{part}
use Rattle.text.specs.Answers.{First, LineEnd}
use Rattle.text.proofs.LineLaws.{first_from, feed_from, whole_from, torn_from, none_past}
use Rattle.text.specs.declared.lines.NextLine.{NextLine}
use Rattle.text.specs.Lines.{first_line, next_at}

-- the answer where the next line ends at e, and where there is none
part_length : (s : List ℕ) (a e : ℕ) → e ≤ length s → length (part s a e) ≡ e - a
part_length s a e h = simp (length-take, length-drop) (omega arith)

pub next_at_line : (s : List ℕ) (at e : ℕ) → LineEnd s at e → e < length s
    → ◌≡◌ {A = NextLine} (record { line = Some (at, e); at = e + 1 }) (next_at s at)
unfolding next_at
next_at_line s at e n h =
    let k : at + length (part s at e) ≡ e = omega (arith, part_length s at e n.within, n.low h) in
    sym (ap (λ ls. first_line ls at) (n.whole h) ∙ ap (λ j. record { line = Some (at, j); at = j + 1 }) k)

pub next_at_none : (s : List ℕ) (at : ℕ) → lines (drop at s) ≡ [] → ◌≡◌ {A = NextLine} (record { line = None; at = at })
    (next_at s at)
unfolding next_at
next_at_none s at h = sym (ap (λ ls. first_line ls at) h)

-- every text has a first LF, or none
record FirstLF (s : List ℕ) : Type 0 where
  place : ℕ
  first : First s LF place

first_lf : (s : List ℕ) → FirstLF s
first_lf [] = record {
  place = 0;
  first = record {
    within = omega arith;
    before = tt;
    there = λ (h : 0 < 0). absurd
        (omega arith);
  };
}
first_lf (b ∷ bs) = at (eqb b LF) refl (first_lf bs)
  where
    at : (t : Bool) → eqb b LF ≡ t → FirstLF bs → FirstLF (b ∷ bs)
    at true e f = record {
      place = 0;
      first = record {
        within = omega arith;
        before = tt;
        there =
            λ _. eqb-true b LF e;
      };
    }
    at false e f = record {
      place = suc f.place;
      first = record {
        within = omega (arith, f.first.within);
        before =
            (e, f.first.before);
        there = λ (h : suc f.place < suc (length bs)). f.first.there (omega arith);
      };
    }

-- so a next line from a place on ends somewhere, or nowhere
record Ends (s : List ℕ) (at : ℕ) : Type 0 where
  end : ℕ
  next : LineEnd s at end

ends : (s : List ℕ) (at : ℕ) → Ends s at
ends s at = by (leb at (length s)) refl
  where
    by : (t : Bool) → leb at (length s) ≡ t → Ends s at
    by true e =
        let l = first_lf (take (length s - at) (drop at s)) in
        let f = first_from s at LF l.place (leb-true at (length s) e) l.first in
        record {
          end = at + l.place;
          next = record {
            within = f.within;
            low = λ _. f.low;
            whole =
                whole_from _ _ _ _ f refl;
            feed = feed_from _ _ _ _ f refl;
            torn = torn_from _ _ _ _ f refl;
          };
        }
    by false e =
        let n : length s < length s → ⊥ = λ h. omega arith in
        let past : length s ≤ at = omega (arith, leb-false at (length s) e) in
        record {
          end = length s;
          next = record {
            within = omega arith;
            low = λ h. absurd (n h);
            whole =
                λ h. absurd (n h);
            feed = λ h. absurd (n h);
            torn = λ _. none_past s at past;
          };
        }

-- a line that was handed back: where it stands, and where the reader then is
pub record Found (s : List ℕ) (at a e to : ℕ) : Type 0 where
  pub start : a ≡ at
  pub past : to ≡ e + 1
  pub low : a ≤ e
  pub inside : e < length s
  pub whole : lines (drop at s) ≡ part s a e ∷ lines (drop to s)

abbrev is_at : Option (ℕ × ℕ) → Bool
is_at (Some (a, e)) = true
is_at None = false

abbrev start_of : Option (ℕ × ℕ) → ℕ
start_of (Some (a, e)) = a
start_of None = 0

abbrev end_of : Option (ℕ × ℕ) → ℕ
end_of (Some (a, e)) = e
end_of None = 0

module _ (s : List ℕ) (at : ℕ) (t : NextLine) (is : t ≡ next_at s at) where
  pub found : (a e : ℕ) → t.line ≡ Some (a, e) → Found s at a e t.at
  found a e l = by (ends s at) (ltb (ends s at).end (length s)) refl
    where
      by : (x : Ends s at) (b : Bool) → ltb x.end (length s) ≡ b → Found s at a e t.at
      by x true h =
          let i = ltb-true x.end (length s) h in
          let v = is ∙ sym (next_at_line s at x.end x.next i) in
          let m = sym l ∙ ap (λ u. u.line) v in
          let b : a ≡ at = ap start_of m in
          let f : e ≡ x.end = ap end_of m in
          let p : t.at ≡ x.end + 1 = ap (λ u. u.at) v in
          record {
            start = b;
            past = omega (arith, p, f);
            low = omega (arith, b, f, x.next.low i);
            inside =
                omega (arith, f);
            whole = rw (b, f, p) (x.next.whole i);
          }
      by x false h =
          let i = ltb-false x.end (length s) h in
          absurd (false≢true (sym
          (ap is_at (sym l ∙ ap (λ u. u.line) (is ∙ sym (next_at_none s at (x.next.torn i)))))))

  pub no_line : t.line ≡ None → lines (drop at s) ≡ []
  no_line l = by (ends s at) (ltb (ends s at).end (length s)) refl
    where
      by : (x : Ends s at) (b : Bool) → ltb x.end (length s) ≡ b → lines (drop at s) ≡ []
      by x true h =
          let i = ltb-true x.end (length s) h in
          absurd (false≢true (ap is_at (sym l ∙ ap (λ u. u.line) (is ∙ sym (next_at_line s at x.end x.next i)))))
      by x false h = x.next.torn (ltb-false x.end (length s) h)
