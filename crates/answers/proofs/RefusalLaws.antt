-- A call by its table: what it does where a line holds, and where none does.
use Rattle.std.specs.Prelude.{Option, Some, None, Result, Err, Ok}
use Rattle.actor.specs.declared.question.Question.{Question}
use mathlib.Core.Path.{◌≡◌, refl, sym, ap, ◌∙◌}
use mathlib.Core.Bool.{Bool, true, false}
use mathlib.Core.List.{List, [], ◌∷◌, ◌++◌}
use Prim.Native.Nat.{ℕ, ◌≤◌}
use native.Mathlib.Omega.{arith}
use lib.Dec.{eqb, leb}
use Rattle.lists.specs.Links.{pick}
use Rattle.actor.specs.declared.question.Reply.{Reply}
use Rattle.actor.specs.declared.question.Reply.TheVariants as reply
use Rattle.actor.specs.Questions.{kind_of, fits_of}
use Rattle.turn.specs.Asks.{wanted_by}
use Rattle.turn.specs.State.{Pool, State}
use Rattle.answers.specs.declared.answer.Refusal.{Refusal}
use Rattle.answers.specs.Answers.{Did, refused}
use Rattle.answers.specs.Refusals.{RefusalLine, judged, by_table, fits_in, is_failed, is_waiting, sync_refusals}

module _ (s : State) (table : Result Unit Refusal) (effect did : Did) (t : Result Unit Refusal) (is : t ≡ table) where
  -- as the table says, t, it is refused with r
  pub by_refused : (r : Refusal) → t ≡ Err r → did ≡ refused s r → did ≡ by_table s table effect
  by_refused r says does = does ∙ ap (λ (x : Result Unit Refusal). by_table s x effect) (sym says ∙ is)

  -- .. or has its effect
  pub by_effect : t ≡ Ok tt → did ≡ effect → did ≡ by_table s table effect
  by_effect says does = does ∙ ap (λ (x : Result Unit Refusal). by_table s x effect) (sym says ∙ is)

-- ---- one table behind another: the first one's refusal, else the second's

abbrev is_refusal : Result Unit Refusal → ℕ
is_refusal (Ok tt) = 0
is_refusal (Err r) = 1

line_refuses : (b : Bool) (own : Refusal) (x y : Result Unit Refusal) (r : Refusal) → (y ≡ Err r → x ≡ Err r)
    → pick b (Err own) y ≡ Err r → pick b (Err own) x ≡ Err r
line_refuses true own x y r h e = e
line_refuses false own x y r h e = h e

pub first_refuses : (a b : List RefusalLine) (r : Refusal) → judged a ≡ Err r
    → judged (a ++ b) ≡ Err r
unfolding judged
first_refuses [] b r says = let z : ◌≡◌ {A = ℕ} 0 1 = ap is_refusal says in absurd (omega arith)
first_refuses (l ∷ ls) b r says =
    line_refuses l.holds l.refusal (judged (ls ++ b)) (judged ls) r (first_refuses ls b r) says

line_fine : (b : Bool) (own : Refusal) (x y z : Result Unit Refusal) → (y ≡ Ok tt → x ≡ z)
    → pick b (Err own) y ≡ Ok tt → pick b (Err own) x ≡ z
line_fine true own x y z h e = let z : ◌≡◌ {A = ℕ} 1 0 = ap is_refusal e in absurd (omega arith)
line_fine false own x y z h e = h e

pub first_fine : (a b : List RefusalLine) → judged a ≡ Ok tt → judged (a ++ b) ≡ judged b
unfolding judged
first_fine [] b says = refl
first_fine (l ∷ ls) b says =
    line_fine l.holds l.refusal (judged (ls ++ b)) (judged ls) (judged b) (first_fine ls b) says

-- ---- a table that refuses nothing

-- no line holds
abbrev pub Clear : List RefusalLine → Type 0
Clear [] = 0 ≤ 0
Clear (l ∷ ls) = (l.holds ≡ false) × Clear ls

line_clear : (b : Bool) (own : Refusal) (rest : Result Unit Refusal) → pick b (Err own) rest ≡ Ok tt
    → (b ≡ false) × (rest ≡ Ok tt)
line_clear true own rest says = let z : ◌≡◌ {A = ℕ} 1 0 = ap is_refusal says in absurd (omega arith)
line_clear false own rest says = (refl, says)

pub fine_clear : (ls : List RefusalLine) → judged ls ≡ Ok tt → Clear ls
unfolding judged
fine_clear [] says = omega arith
fine_clear (l ∷ ls) says =
    let both = line_clear l.holds l.refusal (judged ls) says in
    (both.0, fine_clear ls both.1)

-- ---- whether a reply fits what is open: it is of the kind that is wanted, and where nothing is open no reply is

no_reply : (r : Reply) → eqb 8 (kind_of r) ≡ false
no_reply reply.Yes = refl
no_reply reply.No = refl
no_reply (reply.Clock ns) = go (leb ns 9223372036854775807)
  where
    go : (b : Bool) → eqb 8 (pick b 2 0) ≡ false
    go true = refl
    go false = refl
no_reply (reply.Count n) = refl
no_reply (reply.Ran s) = refl
no_reply reply.Message = refl
no_reply reply.End = refl
no_reply reply.Told = refl
no_reply reply.Stored = refl
no_reply reply.Failed = refl

pub fits_wanted : (a : Option Question) (r : Reply) → eqb (wanted_by a) (kind_of r) ≡ fits_in a r
unfolding wanted_by fits_of
fits_wanted (Some q) r = refl
fits_wanted None r = no_reply r

-- ---- the disk's lines, which stand first in every table but an opening's

-- where they refuse nothing, no order failed and none waits
pub disk_clear : (p : Pool) → judged (sync_refusals p) ≡ Ok tt
    → (is_failed p.turn.disk ≡ false) × (is_waiting p.turn.disk ≡ false)
unfolding sync_refusals
disk_clear p says =
    let clear = fine_clear (sync_refusals p) says in
    (clear.0, clear.1.0)
