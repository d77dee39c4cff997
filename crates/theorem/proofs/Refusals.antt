-- Every call goes by its table of refusals (statement: specs/Refusals.antt): what a table says, that a table which
-- refuses nothing has the log refuse nothing, and that no other effect refuses. Assumes nothing.
use Rattle.std.specs.Prelude.{Option, Some, None, Result, Ok, Err}
use Rattle.actor.specs.declared.message.CallerId.{CallerId}
use mathlib.Core.Path.{◌≡◌, refl, sym, ap, ◌∙◌, subst}
use mathlib.Core.Bool.{Bool, true, false, false≢true}
use mathlib.Core.Logic.{◌⊎◌, inl, inr}
use mathlib.Core.List.{List, [], ◌∷◌}
use Prim.Native.Nat.{ℕ, ◌+◌, ◌-◌, ◌^◌, ◌≤◌}
use native.Mathlib.Omega.{arith}
use borrow.Author.Tests.{ltb-true, leb-true, lt-ltb, eqb-false, not-false}
use lib.Dec.{eqb, leb}
use lib.ListN.{length}
use Rattle.text.specs.Format.{Message, record_line}
use Rattle.lists.specs.Links.{pick}
use Rattle.message_log.specs.declared.Order.{Order}
use Rattle.message_log.specs.Opening.{Read, opening, opened, read_file}
use Rattle.message_log.specs.Opened as log
use Rattle.message_log.specs.Log.{Wal, extended, compacted, with_record, new_message, appended, append_of}
use Rattle.message_log.specs.Log as wal
use Rattle.message_log.proofs.OpeningLaws.{judge_good, judge_opened}
use Rattle.message_log.proofs.OpenLaws.{open_accepts}
use Rattle.message_log.proofs.WalLaws.{append_goes}
use Rattle.actor.specs.declared.question.Reply.{Reply}
use Rattle.theorem.proofs.Steps.{pick_rule}
use Rattle.group.specs.Settings.{loaded_in}
use Rattle.settings.specs.Ranges.{settings_fit}
use Rattle.turn.specs.declared.state.Disk.{Disk}
use Rattle.turn.specs.declared.state.Disk.TheVariants as disk
use Rattle.turn.specs.State.{State, wal_of}
use Rattle.turn.specs.Step.{advanced}
use Rattle.answers.specs.declared.answer.Refusal.{Refusal}
use Rattle.answers.specs.declared.answer.Answer.{Answer}
use Rattle.answers.specs.declared.answer.Answer.TheVariants as answer
use Rattle.answers.specs.Answers as answers
use Rattle.answers.specs.Answers.{number_of, shown}
use Rattle.answers.specs.Refusals.{RefusalLine, judged, by_table, JudgedBy, Lent, file_in, tables_fit, log_sized}
use Rattle.answers.specs.Refusals.{open_refusals_first, open_refusals_logged, open_refusals, admit_refusals_first}
use Rattle.answers.specs.Refusals.{admit_refusals_logged, admit_refusals, in_turn, is_message, no_entry_free, is_failed}
use Rattle.answers.specs.Refusals.{is_waiting}
use Rattle.answers.proofs.RefusalLaws.{fine_clear}
use Rattle.pool.proofs.AdmitLaws.{short_both}
use Rattle.pool.specs.Open.{no_left, filled_by, opened_by, open_effect, open_of}
use Rattle.pool.specs.Admit.{recorded_in, recorded_by, admit_logged, admit_called, admit_effect, admit_of}
use Rattle.pool.specs.Stored.{StoredIn}
use Rattle.pool.specs.Stored as stored
use Rattle.pool.specs.Run.{answered_of, run_of}
use Rattle.pool.specs.Calls.{stored_of, failed_of, collect_send, resumed_of, stored_in, reply_by, reply_effect}
use Rattle.pool.specs.Calls.{turn_of, reply_of, sync_of, close_of}
use Rattle.theorem.specs.Rail.{accepted}
use Rattle.theorem.specs.Refusals.{ByTheTable}

-- ---- what a table says

-- refused with the refusal of this number: the first lines do not hold, up to one that has it
abbrev pub Says : ℕ → List RefusalLine → Type 0
Says n [] = ⊥
Says n (l ∷ ls) = elim (eqb (number_of l.refusal) n) [
  | true ↦ (l.holds ≡ true) ⊎ Says n ls
  | false ↦ (l.holds ≡ false) × Says n ls
]

pub refuse_says : (ls : List RefusalLine) (r : Refusal) → judged ls ≡ Err r → Says (number_of r) ls
unfolding judged
refuse_says [] r is = let z : ◌≡◌ {A = ℕ} 0 1 = cc in absurd (omega arith)
refuse_says (l ∷ ls) r is = go (eqb (number_of l.refusal) (number_of r)) refl l.holds refl is (refuse_says ls r)
  where
    go : (a : Bool) → eqb (number_of l.refusal) (number_of r) ≡ a → (b : Bool) → l.holds ≡ b
        → pick b (Err l.refusal) (judged ls) ≡ Err r
        → (judged ls ≡ Err r → Says (number_of r) ls) → Says (number_of r) (l ∷ ls)
    go true same true e is rest = rw (same, Says) (inl e)
    go true same false e is rest = rw (same, Says) (inr (rest is))
    go false same true e is rest =
        let alike : l.refusal ≡ r = cc in
        absurd (eqb-false (number_of l.refusal) (number_of r) same (ap number_of alike))
    go false same false e is rest = rw (same, Says) (e, rest is)

-- ---- a call by its table

abbrev Takes : answers.Did → Type 0
Takes d = accepted d.answer ≡ true

-- where the effect is no refusal, the call is judged by its table
judges : (s : State) (table : Result Unit Refusal) (effect : answers.Did) → (table ≡ Ok tt → Takes effect)
    → JudgedBy table s (by_table s table effect)
judges s (Err r) effect takes = record { refuses = λ q is. cc; only = λ q is. cc }
judges s (Ok tt) effect takes = record {
  refuses = λ q is. let z : ◌≡◌ {A = ℕ} 0 1 = cc in absurd (omega arith);
  only = λ q is. absurd (false≢true (sym (ap accepted is) ∙ takes refl));
}

-- a call that is judged by a table and refused leaves the state as it was
pub judged_stays : (table : Result Unit Refusal) (s : State) (d : answers.Did) → JudgedBy table s d → accepted d.answer ≡ false
    → d.state ≡ s
judged_stays table s d by turned = go d.answer refl
  where
    go : (a : Answer) → d.answer ≡ a → d.state ≡ s
    go (answer.Refused r) is = ap (λ (e : answers.Did). e.state) (by.refuses r (by.only r is))
    go (answer.Open a) is = absurd (false≢true (sym turned ∙ ap accepted is))
    go (answer.Ended busy waiters) is = absurd (false≢true (sym turned ∙ ap accepted is))

-- ---- what the effects answer

shown_taken : (s : State) → Takes (shown s)
unfolding shown
shown_taken s = refl

run_taken : (s : State) → Takes (run_of s)
unfolding run_of answered_of
run_taken s =
    pick_rule Takes (in_turn (advanced s).pool.turn.at) (λ e. shown_taken (advanced s)) (λ e. refl)

reply_taken : (s : State) (r : Reply) (name body : List ℕ) (x : StoredIn) → Takes (reply_by s r name body x)
unfolding stored_of failed_of collect_send resumed_of
reply_taken s r name body stored.Stored =
    pick_rule Takes (in_turn s.pool.turn.at) (λ e. run_taken _) (λ e. shown_taken _)
reply_taken s r name body stored.Failed = shown_taken _
reply_taken s r name body stored.Other = pick_rule Takes (is_message r) (λ e. shown_taken _) (λ e. run_taken _)

-- ---- an admission whose table refuses nothing

-- what it may lean on
pub record Fine (s : State) (name body : List ℕ) : Type 0 where
  pub free : s.pool.turn.disk ≡ disk.Free
  pub short_name : length name ≤ 32
  pub short_body : length body ≤ 128
  pub loaded : loaded_in s.groups name s.pool.limits.groups ≡ true
  pub room : no_entry_free s.links ≡ false

-- no order waits, and none has failed
pub is_free_lem : (d : Disk) → is_failed d ≡ false → is_waiting d ≡ false → d ≡ disk.Free
is_free_lem disk.Free failed waits = refl
is_free_lem (disk.Waits o for) failed waits = absurd (false≢true (sym waits))
is_free_lem disk.Failed failed waits = absurd (false≢true (sym failed))

-- the log has an order for it, with the next id one further
pub record Appends (w : Wal) (d : wal.DidAppend) : Type 0 where
  pub order : Order
  pub answer_is : d.answer ≡ Ok order
  pub next_is : d.wal.counters.next ≡ w.counters.next + 1

appended_out : (w : Wal) (m : Message) (t : Bool)
    → leb (w.counters.size + length (record_line m)) (length w.bytes) ≡ t → Appends w (appended w m)
unfolding appended extended with_record compacted
appended_out w m true e = rw (e, appended) (record { order = _; answer_is = refl; next_is = refl })
appended_out w m false e = rw (e, appended) (record { order = _; answer_is = refl; next_is = refl })

module _ (s : State) (name body : List ℕ) where
  pub fine_check : (who : Option CallerId) → judged (admit_refusals s name body who) ≡ Ok tt → Fine s name body
  unfolding admit_refusals_first admit_refusals_logged
  fine_check who fine =
      let c = fine_clear (admit_refusals s name body who) fine in
      let short = short_both name body c.1.1.0 in
      record {
        free = is_free_lem s.pool.turn.disk c.0 c.1.0;
        short_name = short.0;
        short_body = short.1;
        loaded = not-false _ c.1.1.1.0;
        room = c.1.1.1.1.1.1.0;
      }

  pub fine_appends : judged (admit_refusals s name body None) ≡ Ok tt
      → Appends (wal_of s) (append_of (wal_of s) name body)
  unfolding admit_refusals_first admit_refusals_logged
  fine_appends fine =
      let w = wal_of s in
      let m = new_message w name body in
      let c = (fine_clear (admit_refusals s name body None) fine).1.1.1.1.1.1.1 in
      let short = fine_check None fine in
      subst (Appends w)
      (append_goes w name body short.short_name short.short_body
      (ltb-true w.counters.count (length w.table) (not-false _ c.0))
      (ltb-true w.counters.next (2 ^ 64 - 1) (not-false _ c.1.0))
      (leb-true (w.counters.live + length (record_line m)) (length w.bytes) (not-false _ c.1.1.0)))
      (appended_out w m _ refl)

  admit_taken : (who : Option CallerId) → judged (admit_refusals s name body who) ≡ Ok tt
      → Takes (admit_effect s name body who)
  unfolding admit_called admit_logged recorded_by
  admit_taken (Some who) fine = shown_taken _
  admit_taken None fine =
      let d = append_of (wal_of s) name body in
      subst (λ a. Takes (recorded_in s name body d a)) (sym (fine_appends fine).answer_is) (shown_taken _)

-- ---- an opening whose table refuses nothing

-- settings in their ranges, tables and log of the right sizes, and a file that the log takes
pub record Taken (l : Lent) : Type 0 where
  pub fit : settings_fit l.settings l.groups_given ≡ true
  pub tables : tables_fit l ≡ true
  pub sizes : log_sized l ≡ true
  pub found : Read
  pub reads : opening (file_in l) ≡ opened found

module _ (l : Lent) where
  pub fine_taken : judged (open_refusals l) ≡ Ok tt → Taken l
  unfolding open_refusals_first open_refusals_logged opening
  fine_taken fine =
      let r = read_file (file_in l) in
      let c = fine_clear (open_refusals l) fine in
      let logs = c.1.1 in
      record {
        fit = not-false _ c.0;
        tables = not-false _ c.1.0;
        sizes = not-false _ logs.0;
        found = r;
        reads =
            judge_good r (ltb-true r.next (2 ^ 64) (not-false _ logs.1.0)) (not-false _ logs.1.1.0);
      }

  -- and the other way
  pub taken_fine : Taken l → judged (open_refusals l) ≡ Ok tt
  unfolding open_refusals_first open_refusals_logged opening judged
  taken_fine t =
      let r = read_file (file_in l) in
      let good = judge_opened r t.found t.reads in
      rw (t.fit, t.tables, t.sizes, lt-ltb r.next (2 ^ 64) good.next, good.small)

  -- the log as it opens the file
  pub log_opens : (t : Taken l)
      → log.open_log l.bytes l.size l.store l.records no_left
      ≡ log.opened_log_by l.bytes l.store l.records no_left t.found
  log_opens t =
      open_accepts l.bytes l.size l.store l.records no_left t.found t.sizes t.reads

  open_taken : judged (open_refusals l) ≡ Ok tt → Takes (open_effect l)
  unfolding open_effect opened_by filled_by
  open_taken fine = subst (λ o. Takes (opened_by l o)) (sym (log_opens (fine_taken fine))) refl

-- ---- the calls

pub by_the_table : ByTheTable
unfolding open_of admit_of turn_of reply_of reply_effect sync_of close_of
by_the_table = record {
  openings = λ l. judges _ _ _ (open_taken l);
  admits = λ s name body who. judges s _ _ (admit_taken s name body who);
  turns = λ s. judges s _ _ (λ fine. run_taken _);
  replies = λ s r name body. judges s _ _ (λ fine. reply_taken s r name body (stored_in r));
  syncs = λ s. judges s _ _ (λ fine. shown_taken _);
  closes = λ s. judges s _ _ (λ fine. shown_taken _);
}
