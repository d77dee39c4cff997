-- A turn runs on. It ends with busy (an actor was stepped, or pending is not empty) and waiters (some waiting list is
-- not empty).
use Rattle.std.specs.Prelude.{Bool, true, false, ℕ, zero, suc, ltb, Result}
use Rattle.lists.specs.Links.{pick, Table, len_of, PENDING}
use Rattle.lists.specs.KeyLists.{keys_at, count_of}
use Rattle.group.specs.Roster.{waiting_row}
use Rattle.turn.specs.declared.state.Rail.{Rail}
use Rattle.turn.specs.Words.{pool_of}
use Rattle.turn.specs.Rail.{state_in}
use Rattle.turn.specs.State.{Counts, State}
use Rattle.turn.specs.Step.{advanced}
use Rattle.answers.specs.declared.answer.Refusal.{Refusal}
use Rattle.answers.specs.declared.answer.Accepted.{Accepted}
use Rattle.answers.specs.declared.answer.Answer.TheVariants as answer
use Rattle.answers.specs.Answers.{Did, shown, answer_of}
use Rattle.answers.specs.Refusals.{in_turn}

-- the state that a call left in its hands, and its answer
abbrev pub did_in : Rail → Result Accepted Refusal → Did
did_in t c = record { state = state_in t; answer = answer_of c (pool_of t.pool.now) t.links.now t.rows.now }

-- some waiting list of the first n groups is not empty
unfoldable pub waiters_from : Table → ℕ → Bool
waiters_from keys zero = false
waiters_from keys (suc g) = pick (ltb 0 (count_of (keys_at keys (waiting_row g)))) true (waiters_from keys g)

-- an actor was stepped in this turn, or pending is not empty
unfoldable pub busy_of : Counts → Table → Bool
busy_of n t = pick n.stepped true (ltb 0 (len_of t PENDING))

-- the turn ended
abbrev pub ended : State → Did
ended s = record {
  state = s;
  answer = answer.Ended (busy_of s.pool.turn.counts s.links) (waiters_from s.keys s.pool.limits.groups);
}

-- something is open, or the turn ended
unfoldable pub answered_of : State → Did
answered_of s = pick (in_turn s.pool.turn.at) (shown s) (ended s)

-- as far as the turn runs by itself
unfoldable pub run_of : State → Did
run_of s = answered_of (advanced s)
