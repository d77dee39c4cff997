-- Bytes, or other elements, that are written over those of a lent slice; and what a text does not hold.
use Rattle.std.specs.Prelude.{◌≡◌, false, List, [], ◌∷◌, ◌++◌, ℕ, ◌+◌, ◌-◌, eqb, length, take, drop}

-- `new` written over what stands from `at` on; all else keeps its value
unfoldable pub write : {A : Type 0} → List A → ℕ → List A → List A
write old at new = take at old ++ new ++ drop (at + length new) old

-- what stands from a to b
abbrev pub part : {A : Type 0} → List A → ℕ → ℕ → List A
part l a b = take (b - a) (drop a l)

-- `text` was written over `before` from `at` on, and ends at `end`
pub record Wrote (before : List ℕ) (at : ℕ) (text after : List ℕ) (end : ℕ) : Type 0 where
  pub past : end ≡ at + length text
  pub bytes : after ≡ write before at text

-- every byte of a text has a property
abbrev pub All : (ℕ → Type 0) → List ℕ → Type 0
All P [] = Unit
All P (b ∷ bs) = P b × All P bs

-- a text without a separator
abbrev pub Free : ℕ → List ℕ → Type 0
Free sep = All (λ b. eqb b sep ≡ false)
