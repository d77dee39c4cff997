-- An opening that its table lets through as far as it needs nothing of the file goes by what the log answers.
use Rattle.std.specs.Prelude.{Some, Ok, Err}
use mathlib.Core.Path.{◌≡◌, refl, ap, ◌∙◌}
use mathlib.Core.Bool.{Bool, true, false, ◌&&◌}
use mathlib.Core.List.{List}
use Prim.Native.Nat.{ℕ, ◌^◌}
use lib.Dec.{ltb, leb}
use lib.ListN.{length, replicate}
use Rattle.lists.specs.Links.{Table, start_from}
use Rattle.lists.specs.KeyLists.{blank_row}
use Rattle.message_log.specs.declared.Order.{Order}
use Rattle.message_log.specs.declared.Refusal as of-log
use Rattle.message_log.specs.declared.Refusal.TheVariants as logged
use Rattle.message_log.specs.Opening as of-file
use Rattle.message_log.specs.Opening.{read_file, all_fit, judge, opening}
use Rattle.message_log.specs.Opened as log
use Rattle.actor.specs.declared.question.Question.TheVariants as question
use Rattle.points.specs.declared.at.At.{At}
use Rattle.settings.specs.Ranges.{groups_from}
use Rattle.settings.specs.Tables.{LeftPlaced, put_left}
use Rattle.turn.specs.declared.state.OrderFor.{OrderFor}
use Rattle.turn.specs.declared.state.OrderFor.TheVariants as orderFor
use Rattle.turn.specs.declared.state.Disk.{Disk}
use Rattle.turn.specs.declared.state.Disk.TheVariants as disk
use Rattle.turn.specs.State.{Pool, new_pool}
use Rattle.turn.specs.Asks.{asked_in}
use Rattle.answers.specs.declared.answer.Answer.{Answer}
use Rattle.answers.specs.declared.answer.Answer.TheVariants as answer
use Rattle.answers.specs.declared.answer.Refusal.{Refusal}
use Rattle.answers.specs.Answers.{Did, log_refusal, refused}
use Rattle.answers.specs.Refusals.{Lent, file_in, log_sized, judged, by_table, open_refusals_first, open_refusals_logged}
use Rattle.answers.proofs.RefusalLaws.{first_refuses, first_fine}
use Rattle.pool.specs.Open.{limits_from, Tables, FillFrom, PoolFilled, filled_by, no_left, unopened, opened_by}
use Rattle.pool.specs.Open.{open_effect, open_of}

-- the tables filled one by one, with the pool and the answer
pub filled : (f : FillFrom) (o : Order) (t : Tables) (groups links rows keys : Table) (p : Pool) (a : Answer)
    → groups ≡ groups_from f.settings.max_actors t.groups f.given
    → ◌≡◌ {A = LeftPlaced} (record { links = links; rows = rows })
    (put_left (start_from 0 (length t.links)) t.rows f.left 0 f.counters.count)
    → keys ≡ replicate (length t.keys) blank_row
    → p ≡ new_pool (limits_from f.settings (length f.given)) f.counters (disk.Waits o orderFor.Nothing)
    → a ≡ answer.Open (Some (question.Store o))
    → ◌≡◌ {A = PoolFilled}
    (record { groups = groups; links = links; rows = rows; keys = keys; pool = p; answer = a })
    (filled_by f o t)
unfolding filled_by
filled f o t groups links rows keys p a by-groups by_left by-keys by-pool by_answer =
    simp (by-groups, ← by_left, by-keys, by-pool, by_answer)

-- the order that waits is what is open
pub store_open : (d : Disk) (a : At) (links rows : Table) (o : Order) (w : OrderFor) → d ≡ disk.Waits o w
    → asked_in d a links rows ≡ Some (question.Store o)
unfolding asked_in
store_open d a links rows o w is = rw is

sizes_refuse : (bytes : List ℕ) (n : ℕ) (store : List ℕ) (records left : Table)
    → log.sized (length bytes) n (length store) (length records) (length left) ≡ false
    → log.open_log bytes n store records left ≡ log.closed_by bytes store records left logged.Sizes
unfolding log.open_log
sizes_refuse bytes n store records left sized = cc (sized)

-- what the table says of the file is what the log answers
module _ (l : Lent) where
  abbrev AsOpened : Type 0
  AsOpened = open_effect l ≡ by_table (unopened l) (judged (open_refusals_logged l)) (open_effect l)

  abbrev has_next : Bool
  has_next = ltb (read_file (file_in l)).next (2 ^ 64)

  abbrev few_left : Bool
  few_left = leb (length (read_file (file_in l)).left) 256 && all_fit (read_file (file_in l)).left

  abbrev log_opened : log.Opened
  log_opened = log.open_log l.bytes l.size l.store l.records no_left

  -- the log refuses: so does the opening
  log_refuses : (r : of-log.Refusal) → log_opened ≡ log.closed_by l.bytes l.store l.records no_left r
      → open_effect l ≡ refused (unopened l) (log_refusal r)
  unfolding open_effect opened_by
  log_refuses r says = ap (opened_by l) says

  file_refuses : (r : of-log.Refusal) → log_sized l ≡ true → opening (file_in l) ≡ of-file.refused r
      → log_opened ≡ log.closed_by l.bytes l.store l.records no_left r
  unfolding log.open_log
  file_refuses r sized says = cc (sized, says)

  says_not_sized : log_sized l ≡ false
      → log_opened ≡ log.closed_by l.bytes l.store l.records no_left logged.Sizes
  says_not_sized sized = sizes_refuse l.bytes l.size l.store l.records no_left sized

  says_last_id : has_next ≡ false → opening (file_in l) ≡ of-file.refused logged.LastId
  unfolding opening judge
  says_last_id next = cc (next)

  says_too_much : has_next ≡ true → few_left ≡ false → opening (file_in l) ≡ of-file.refused logged.TooMuch
  unfolding opening judge
  says_too_much next few = cc (next, few)

  not_sized : log_sized l ≡ false → AsOpened
  unfolding open_refusals_logged judged
  not_sized sized = simp (sized) (log_refuses logged.Sizes (says_not_sized sized))

  last_id_lem : log_sized l ≡ true → has_next ≡ false → AsOpened
  unfolding open_refusals_logged judged
  last_id_lem sized next =
      simp (sized, next) (log_refuses logged.LastId (file_refuses logged.LastId sized (says_last_id next)))

  too_much : log_sized l ≡ true → has_next ≡ true → few_left ≡ false → AsOpened
  unfolding open_refusals_logged judged
  too_much sized next few =
      simp (sized, next, few)
      (log_refuses logged.TooMuch (file_refuses logged.TooMuch sized (says_too_much next few)))

  opens : log_sized l ≡ true → has_next ≡ true → few_left ≡ true → AsOpened
  unfolding open_refusals_logged judged
  opens sized next few = simp (sized, next, few)

  as_opened : AsOpened
  as_opened = by_size (log_sized l) refl
    where
      by_few : log_sized l ≡ true → has_next ≡ true → (b : Bool) → few_left ≡ b → AsOpened
      by_few sized next true e = opens sized next e
      by_few sized next false e = too_much sized next e

      by_next : log_sized l ≡ true → (b : Bool) → has_next ≡ b → AsOpened
      by_next sized true e = by_few sized e few_left refl
      by_next sized false e = last_id_lem sized e

      by_size : (b : Bool) → log_sized l ≡ b → AsOpened
      by_size true e = by_next e has_next refl
      by_size false e = not_sized e

module _ (l : Lent) (did : Did) where
  pub open_refused : (r : Refusal) → judged (open_refusals_first l) ≡ Err r → did ≡ refused (unopened l) r
      → did ≡ open_of l
  unfolding open_of
  open_refused r says does = rw (first_refuses (open_refusals_first l) (open_refusals_logged l) r says) does

  pub open_effect_lem : judged (open_refusals_first l) ≡ Ok tt → did ≡ open_effect l → did ≡ open_of l
  unfolding open_of
  open_effect_lem says does =
      rw (first_fine (open_refusals_first l) (open_refusals_logged l) says) (does ∙ as_opened l)
