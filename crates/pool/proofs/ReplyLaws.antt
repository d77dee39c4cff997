-- A reply by where the turn stands; and one that is no order's: a message that was sent, or the answer to the turn's
-- question.
use Rattle.std.specs.Prelude.{Ok}
use mathlib.Core.Path.{◌≡◌, refl, sym, ap, ◌∙◌}
use mathlib.Core.Bool.{true, false}
use mathlib.Core.List.{List}
use Prim.Native.Nat.{ℕ}
use Rattle.actor.specs.declared.question.Reply.{Reply}
use Rattle.actor.specs.declared.question.Reply.TheVariants as reply
use Rattle.points.specs.declared.at.At.{At}
use Rattle.points.specs.declared.at.At.TheVariants as at
use Rattle.points.specs.declared.at.Ask.{Ask}
use Rattle.points.specs.declared.words.Where.{Where}
use Rattle.points.specs.Words.{place_asks, place_of, at_of}
use Rattle.points.proofs.WordLaws.{at_unasked}
use Rattle.turn.specs.State.{Pool, State, with_pool}
use Rattle.turn.specs.Resume.{resume_of}
use Rattle.answers.specs.Answers.{Did}
use Rattle.answers.specs.Refusals.{judged, is_message, turn_refusals}
use Rattle.pool.specs.Stored as stored
use Rattle.pool.specs.Calls.{begun_turn, turn_of, stored_in, stored_of, failed_of, collect_send, resume_in, resume_at}
use Rattle.pool.specs.Calls.{resumed_of}
use Rattle.pool.specs.Calls.{reply_effect}
use Rattle.pool.specs.Run.{run_of}

-- ---- a turn begins

pub turn_runs : (s : State) (p : Pool) (did : Did) → judged (turn_refusals s.pool) ≡ Ok tt
    → p ≡ begun_turn s.pool → did ≡ run_of (with_pool s p) → did ≡ turn_of s
unfolding turn_of
turn_runs s p did fine begun runs = rw fine (runs ∙ ap (λ (q : Pool). run_of (with_pool s q)) begun)

-- ---- where a reply finds the turn

-- where nothing is asked the state is as it was
pub resume_unasked : (s : State) (w : Where) (r : Reply) → s.pool.turn.at ≡ at_of w
    → place_asks (place_of w.place) ≡ false → s ≡ resume_at s r
unfolding resume_at
resume_unasked s w r is none =
    sym (ap (λ (a : At). resume_in s a r) is ∙ at_unasked w (λ (a : At). resume_in s a r) s none refl (λ p. refl))

pub resume_asks : (s : State) (a : Ask) (r : Reply) → s.pool.turn.at ≡ at.Asks a → resume_of s a r ≡ resume_at s r
unfolding resume_at
resume_asks s a r is = ap (λ (a : At). resume_in s a r) (sym is)

-- ---- what a reply is

module _ (s : State) (r : Reply) (name body : List ℕ) (did : Did) where
  pub stores : stored_in r ≡ stored.Stored → did ≡ stored_of s → did ≡ reply_effect s r name body
  unfolding reply_effect
  stores is does = rw is does

  pub fails : stored_in r ≡ stored.Failed → did ≡ failed_of s → did ≡ reply_effect s r name body
  unfolding reply_effect
  fails is does = rw is does

module _ (s : State) (r : Reply) (name body : List ℕ) (did : Did) (other : stored_in r ≡ stored.Other) where
  pub sends : is_message r ≡ true → did ≡ collect_send s name body → did ≡ reply_effect s r name body
  unfolding reply_effect
  sends message does = rw (other, message) does

  pub resumes : is_message r ≡ false → did ≡ resumed_of s r → did ≡ reply_effect s r name body
  unfolding reply_effect
  resumes message does = rw (other, message) does

-- a reply that is not to an order, and no message that was sent
pub answers_turn : (r : Reply) → (r ≡ reply.Stored → ⊥) → (r ≡ reply.Failed → ⊥) → (r ≡ reply.Message → ⊥)
    → (stored_in r ≡ stored.Other) × (is_message r ≡ false)
answers_turn reply.Yes a b c = (refl, refl)
answers_turn reply.No a b c = (refl, refl)
answers_turn (reply.Clock ns) a b c = (refl, refl)
answers_turn (reply.Count n) a b c = (refl, refl)
answers_turn (reply.Ran s) a b c = (refl, refl)
answers_turn reply.Message a b c = absurd (c refl)
answers_turn reply.End a b c = (refl, refl)
answers_turn reply.Told a b c = (refl, refl)
answers_turn reply.Stored a b c = absurd (a refl)
answers_turn reply.Failed a b c = absurd (b refl)
