-- An opening: refused by its table (crates/answers/specs/Refusals); else the tables at the start, the messages left in
-- pending in rising id order, and the order of a replace.
use Rattle.std.specs.Prelude.{[], ◌∷◌, ℕ, length, replicate, Some, Ok, Err, Result}
use Rattle.lists.specs.Links.{Table, start_from}
use Rattle.lists.specs.KeyLists.{blank_row}
use Rattle.message_log.specs.declared.Counters.{Counters}
use Rattle.message_log.specs.declared.Order.{Order}
use Rattle.message_log.specs.declared.Refusal as of-log
use Rattle.message_log.specs.Opened as log
use Rattle.message_log.specs.Opening.{RECORDS}
use Rattle.actor.specs.declared.question.Question.TheVariants as question
use Rattle.settings.specs.declared.ranges.Settings.{Settings}
use Rattle.settings.specs.Ranges.{groups_from}
use Rattle.settings.specs.Tables.{LeftPlaced, put_left}
use Rattle.turn.specs.declared.state.OrderFor.TheVariants as orderFor
use Rattle.turn.specs.declared.state.Disk.TheVariants as disk
use Rattle.turn.specs.declared.state.Limits.{Limits}
use Rattle.turn.specs.State.{Pool, State, new_pool}
use Rattle.answers.specs.declared.answer.Answer.{Answer}
use Rattle.answers.specs.declared.answer.Answer.TheVariants as answer
use Rattle.answers.specs.Answers.{Did, log_refusal, refused}
use Rattle.answers.specs.Refusals.{Lent, judged, by_table, open_refusals}

-- the limits of a pool: how many groups it has, and its settings but for max_actors, which is in the ceilings
abbrev pub limits_from : Settings → ℕ → Limits
limits_from s groups = record {
  groups = groups;
  inbox = s.inbox;
  backlog = s.backlog;
  compact_at = s.compact_at;
  tick = s.tick;
}

-- the pool of an opening that is turned away: it takes no call
abbrev pub no_pool : Pool
no_pool = new_pool (record { groups = 0; inbox = 0; backlog = 0; compact_at = 0; tick = 0 }) log.no_counters disk.Failed

-- ---- the tables that an opening fills

-- the lent tables, but for the log's and the actors
pub record Tables : Type 0 where
  pub groups : Table
  pub links : Table
  pub rows : Table
  pub keys : Table

-- what they are filled from: the settings, and what the log left
pub record FillFrom : Type 0 where
  pub settings : Settings
  pub given : Table
  pub left : Table
  pub counters : Counters

-- the tables filled, with the pool and the answer
pub record PoolFilled : Type 0 where
  pub groups : Table
  pub links : Table
  pub rows : Table
  pub keys : Table
  pub pool : Pool
  pub answer : Answer

-- the order of the replace waits, and is shown
abbrev pub filled_with : FillFrom → Order → Tables → LeftPlaced → PoolFilled
filled_with f o t p = record {
  groups = groups_from f.settings.max_actors t.groups f.given;
  links = p.links;
  rows = p.rows;
  keys = replicate (length t.keys) blank_row;
  pool = new_pool (limits_from f.settings (length f.given)) f.counters (disk.Waits o orderFor.Nothing);
  answer = answer.Open (Some (question.Store o));
}

-- lists with every entry free at first; then the messages left, as many as records are open, go to pending
unfoldable pub filled_by : FillFrom → Order → Tables → PoolFilled
filled_by f o t =
    filled_with f o t (put_left (start_from 0 (length t.links)) t.rows f.left 0 f.counters.count)

-- ---- the opening

-- the table that the log fills with the rows of the messages left: 256 blank rows
abbrev pub no_left : Table
no_left = replicate RECORDS (0 ∷ 0 ∷ 0 ∷ 0 ∷ [])

-- the lent tables that an opening fills: groups, lists of messages, their rows, and keys
abbrev pub tables_in : Lent → Tables
tables_in l = record { groups = l.groups; links = l.links; rows = l.rows; keys = l.keys }

-- the settings and groups as given, and the messages left and the counters as the log has them once opened
abbrev pub fill_from : Lent → log.Opened → FillFrom
fill_from l o = record {
  settings = l.settings;
  given = l.groups_given;
  left = o.left;
  counters = o.step.counters;
}

-- refused: what was lent is as it was, and the pool takes no call
abbrev pub unopened : Lent → State
unopened l = record {
  pool = no_pool;
  bytes = l.bytes;
  records = l.records;
  store = l.store;
  groups = l.groups;
  links = l.links;
  rows = l.rows;
  keys = l.keys;
  actors = l.actors;
}

-- accepted: log, records and body store as the log left them, the other tables and the pool as filled; actors as lent
abbrev pub opened_with : Lent → log.Opened → PoolFilled → Did
opened_with l o f = record {
  state = record {
    pool = f.pool;
    bytes = o.log;
    records = o.table;
    store = o.store;
    groups = f.groups;
    links = f.links;
    rows = f.rows;
    keys = f.keys;
    actors = l.actors;
  };
  answer = f.answer;
}

-- what the log left, where it was not opened
abbrev pub left_alone : Lent → log.Opened → State
left_alone l o = record {
  pool = no_pool;
  bytes = o.log;
  records = o.table;
  store = o.store;
  groups = l.groups;
  links = l.links;
  rows = l.rows;
  keys = l.keys;
  actors = l.actors;
}

-- by what the log answered
abbrev pub opened_in : Lent → log.Opened → Result Order of-log.Refusal → Did
opened_in l o (Ok order) = opened_with l o (filled_by (fill_from l o) order (tables_in l))
opened_in l o (Err r) = refused (left_alone l o) (log_refusal r)

-- the log was asked to open: the tables are filled and its replace is open, or the opening is refused
unfoldable pub opened_by : Lent → log.Opened → Did
opened_by l o = opened_in l o o.step.answer

-- the log is opened: the file is the first bytes of the lent log
unfoldable pub open_effect : Lent → Did
open_effect l = opened_by l (log.open_log l.bytes l.size l.store l.records no_left)

-- open: refused by its table, and then what was lent is as it was; else the log is opened, and the tables filled
unfoldable pub open_of : Lent → Did
open_of l = by_table (unopened l) (judged (open_refusals l)) (open_effect l)
