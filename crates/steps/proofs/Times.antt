-- Deadlines: nothing wraps, and row end 8 (docs/RULES.md, Row ends). Assumes nothing.
use Rattle.std.specs.Prelude.{Some}
use mathlib.Core.Path.{◌≡◌, refl}
use mathlib.Core.List.{List, [], ◌∷◌, ◌++◌}
use mathlib.Core.Bool.{Bool, true, false}
use Prim.Native.Nat.{ℕ, ◌+◌, ◌*◌, ◌/◌, ◌≤◌, ◌<◌}
use native.Mathlib.Nat.{div-mul-le_self, mul-zero}
use native.Mathlib.Omega.{arith}
use borrow.Author.Tests.{le-ltb}
use lib.Dec.{ltb}
use Rattle.lists.specs.Links.{pick, Table, capped, move_first, start_from, leave_of, join_end, set_ends, set_next, link_at}
use Rattle.lists.specs.Links.{hand_of, mailbox_of}
use Rattle.actor.specs.declared.question.Outcome.TheVariants as outcome
use Rattle.steps.specs.declared.eval.EvalAsk.TheVariants as ask
use Rattle.steps.specs.declared.eval.EvalNext.TheVariants as next
use Rattle.steps.specs.declared.eval.Limit.{Limit}
use Rattle.actor.specs.Messages.{message_at}
use Rattle.actor.specs.Actors.{actor_of, actor_onto, actor_at, put_actor, deadline_of}
use Rattle.steps.specs.Steps.{caller_first}
use Rattle.steps.specs.StepEval.{deadline_from, eval_tell, eval_finish, eval_clocked, eval_started, eval_clock_reply}
use Rattle.steps.specs.StepEval.{start_reply, step_eval}
use Rattle.message_log.specs.RowEnds.{all_true}
use Rattle.message_log.specs.RowEnds as Log
use Rattle.message_log.proofs.RowEnds.{row_ends_lem}
use Rattle.steps.specs.RowEnds.{begun, asked, deadlines, starred}
use Rattle.steps.specs.Steps.{step_tables}

pub capped_fits : (x : ℕ) → x ≤ 18446744073709551615 → capped x ≡ x
capped_fits x fits = omega arith

-- no tick, no time
pub no_tick : (c n tick : ℕ) → c ≤ 18446744073709551615 → tick ≡ 0 → capped (c + n / tick * tick) ≡ c
no_tick c n tick fits none =
    let zero-time : n / tick * tick ≡ 0 = rw none (mul-zero (n / 0)) in
    let same : c + n / tick * tick ≡ c = omega arith in
    rw same (capped_fits c fits)

-- the timeout in whole ticks fits
pub whole_fits : (timeout tick : ℕ) → timeout ≤ 86400 → timeout * 1000000000 / tick * tick ≤ 86400000000000
whole_fits timeout tick day = omega (arith, div-mul-le_self (timeout * 1000000000) tick)

-- a clock below 2^63 and a timeout of at most a day: the deadline is the sum itself, and fits 64 bits
pub deadline_exact : (c : ℕ) (limit : Limit) → c < 9223372036854775808 → limit.timeout ≤ 86400
    → (deadline_from c limit ≡ c + limit.timeout * 1000000000 / limit.tick * limit.tick)
    × (deadline_from c limit < 18446744073709551616)
unfolding deadline_from
deadline_exact c limit low day = (exact, omega (arith, exact, whole_fits limit.timeout limit.tick day))
  where
    exact : pick (ltb 86400 limit.timeout) c (capped (c + limit.timeout * 1000000000 / limit.tick * limit.tick))
        ≡ c + limit.timeout * 1000000000 / limit.tick * limit.tick
    exact = rw (le-ltb 86400 limit.timeout day)
        (capped_fits _ (omega (arith, whole_fits limit.timeout limit.tick day)))

-- ---- row end 8

deadlines_hold : all_true deadlines ≡ true
unfolding all_true deadlines begun asked step_eval start_reply eval_started eval_clock_reply eval_clocked eval_finish eval_tell
    deadline_from move_first start_from leave_of join_end set_ends set_next link_at hand_of mailbox_of caller_first
    message_at put_actor actor_at actor_of actor_onto
deadlines_hold = refl

both_hold : (a b : List Bool) → all_true a ≡ true → all_true b ≡ true → all_true (a ++ b) ≡ true
unfolding all_true
both_hold [] b p q = q
both_hold (true ∷ a) b p q = both_hold a b p q
both_hold (false ∷ a) b p q = p

-- the starred row ends are true, all examples proved as one conjunction
pub row_ends_hold : all_true starred ≡ true
unfolding starred
row_ends_hold = both_hold Log.row_ends deadlines row_ends_lem deadlines_hold

-- a run of that deadline ends at it, whatever else stands in the tables, and one earlier is resumed
module _ (t rows l : Table) (slot : ℕ) (waits : (actor_at l slot).run
    ≡ Some (deadline_from 100 (record { timeout = 1; tick = 300000000 }))) where
  until : deadline_of (actor_at l slot).run ≡ 900000100
  unfolding deadline_from
  until = rw waits

  pub row_end_8_ends : eval_clocked (step_tables t rows l) slot 900000100
      ≡ eval_finish (step_tables t rows l) slot outcome.Late
  unfolding eval_clocked
  row_end_8_ends = rw until

  pub row_end_8_resumes : eval_clocked (step_tables t rows l) slot 900000099 ≡ record {
    links = t;
    actors = l;
    next =
        next.Asks (ask.Run false);
  }
  unfolding eval_clocked
  row_end_8_resumes = rw until
