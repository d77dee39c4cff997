-- Calls run one after the other: what is still to come, from here on, gives the whole. And what is written never falls
-- back. Assumes nothing.
use Rattle.std.specs.Prelude.{Option, Some, None, Result, Ok, Err, is_ok}
use mathlib.Core.Path.{◌≡◌, refl, ap, sym, ◌∙◌}
use mathlib.Core.Bool.{Bool, true, false}
use mathlib.Core.List.{List, [], ◌∷◌}
use Prim.Native.Nat.{ℕ, zero, suc, ◌+◌, ◌-◌, ◌≤◌, ◌<◌}
use native.Mathlib.Omega.{arith}
use borrow.Author.Tests.{le-ltb, lt-ltb, eq-eqb, ne_eqb}
use lib.Dec.{eqb, leb, ltb}
use lib.ListN.{length, take, replicate, length-replicate}
use Rattle.lists.specs.Links.{pick, Table}
use Rattle.wire.specs.Number.{numbers}
use Rattle.wire.specs.Output.{Output, output_with, output, output_rows, output_keys}
use Rattle.wire.specs.Script.{header_of, groups_into, call_at}
use Rattle.wire.specs.declared.script.Header.{Header}
use Rattle.wire.specs.declared.script.CallAt.{CallAt}
use Rattle.turn.specs.State.{Pool, State}
use Rattle.answers.specs.declared.answer.Refusal.{Refusal}
use Rattle.answers.specs.declared.answer.Accepted.{Accepted}
use Rattle.answers.specs.declared.answer.Accepted.TheVariants as accepted
use Rattle.answers.specs.Answers.{Did, answer_of}
use Rattle.pool.specs.Open.{open_of}
use Rattle.theorem.specs.Rail.{call_of, accepted}
use Rattle.replay.specs.Entry.{ShownTables, output_message, output_log, output_tables, output_store, output_entry}
use Rattle.replay.specs.Replay.{decoded, Calls, ended, malformed, next, calls_at, Played, played, stopped}
use Rattle.replay.specs.Replay.{coded, play, blank, placed, play_opened, play_from, play_headed}
use Rattle.replay.specs.Replay.{play_script, replayed, counted, replay_of}

-- ---- the calls from p on

pub calls_none : (k : ℕ) (s : List ℕ) (p : ℕ) → length s ≤ p → calls_at k s p ≡ ended
unfolding calls_at
calls_none zero s p h = refl
calls_none (suc k) s p h = cc (le-ltb p (length s) h)

pub calls_torn : (k : ℕ) (s : List ℕ) (p : ℕ) → p < length s → None ≡ call_at s p → calls_at (suc k) s p
    ≡ malformed
unfolding calls_at
calls_torn k s p h e = cc (lt-ltb p (length s) h)

pub calls_next : (k : ℕ) (s : List ℕ) (p : ℕ) (c : CallAt) → p < length s → Some c ≡ call_at s p
    → calls_at (suc k) s p ≡ next (decoded s c) (calls_at k s c.end)
unfolding calls_at
calls_next k s p c h e = simp (lt-ltb p (length s) h, sym e)

-- ---- a list of calls

module _ (show : ℕ) (s : State) (d : Output) where
  pub play_ended : play show s d ended ≡ stopped s d
  unfolding play
  play_ended = refl

  -- nothing is run any more
  pub play_stopped : (cs : Calls) → (d.code ≡ 0 → ⊥) → play show s d cs ≡ stopped s d
  unfolding play coded
  play_stopped ended h = refl
  play_stopped malformed h = rw (ne_eqb d.code 0 h)
  play_stopped (next c cs) h = rw (ne_eqb d.code 0 h)

  module _ (h : d.code ≡ 0) where
    pub play_torn : play show s d malformed ≡ stopped s (output_with d.out d.at 1)
    unfolding play coded
    play_torn = rw (eq-eqb d.code 0 h)

    pub play_next : (c : _) (cs : Calls) → play show s d (next c cs) ≡ play show (call_of s c).state
        (output_entry show d (call_of s c)) cs
    unfolding play
    play_next c cs = rw (eq-eqb d.code 0 h)

-- the calls from p on, run from here, give the whole
pub record Running (whole : Played) (show : ℕ) (s : List ℕ) (st : State) (d : Output) (p : ℕ) : Type 0 where
  pub most : ℕ
  pub enough : length s ≤ p + most
  pub same : play show st d (calls_at most s p) ≡ whole

pub running_begins : (show : ℕ) (s : List ℕ) (st : State) (d : Output) (p : ℕ)
    → Running (play show st d (calls_at (length s) s p)) show s st d p
running_begins show s st d p = record { most = length s; enough = omega arith; same = refl }

module _ {whole : Played} {show : ℕ} {s : List ℕ} {st : State} {d : Output} {p : ℕ} (r : Running whole show s st d p)
  where
    pub running_stops : (d.code ≡ 0 → ⊥) → stopped st d ≡ whole
    running_stops h = sym (play_stopped show st d (calls_at r.most s p) h) ∙ r.same

    pub running_ends : length s ≤ p → stopped st d ≡ whole
    running_ends h = sym (ap (play show st d) (calls_none r.most s p h) ∙ play_ended show st d) ∙ r.same

    module _ (code : d.code ≡ 0) (h : p < length s) where
      more : r.most ≡ suc (r.most - 1)
      more = omega (arith, r.enough)

      pub running_torn : None ≡ call_at s p → stopped st (output_with d.out d.at 1) ≡ whole
      running_torn e =
          let torn : calls_at r.most s p ≡ malformed =
          ap (λ k. calls_at k s p) more ∙ calls_torn (r.most - 1) s p h e in
          sym (ap (play show st d) torn ∙ play_torn show st d code) ∙ r.same

      -- the next call is run, and its entry written
      pub running_on : (c : CallAt) → Some c ≡ call_at s p → p < c.end → {did : Did}
          → did ≡ call_of st (decoded s c)
          → {d' : Output} → d' ≡ output_entry show d did → Running whole show s did.state d' c.end
      running_on c read l {did} made {d'} wrote = record {
        most = r.most - 1;
        enough = omega (arith, r.enough);
        same =
            let calls : calls_at r.most s p ≡ next (decoded s c) (calls_at (r.most - 1) s c.end) =
            ap (λ k. calls_at k s p) more ∙ calls_next (r.most - 1) s p c h read in
            let goes_on : play show st d (calls_at r.most s p) ≡ play show did.state (output_entry show d did)
            (calls_at (r.most - 1) s c.end) =
            ap (play show st d) calls ∙ (play_next show st d code (decoded s c) (calls_at (r.most - 1) s c.end)
            ∙ ap (λ x. play show x.state (output_entry show d x) (calls_at (r.most - 1) s c.end)) (sym made)) in
            ap (λ x. play show did.state x (calls_at (r.most - 1) s c.end)) wrote ∙ (sym goes_on ∙ r.same);
      }

-- ---- what is written never falls back

-- what holds of both branches holds of the choice
pick_rule : {A : Type 0} (P : A → Type 0) (b : Bool) {x y : A} → P x → P y → P (pick b x y)
pick_rule P true p q = p
pick_rule P false p q = q

module _ (a : ℕ) where
  abbrev From : Output → Type 0
  From d = a ≤ d.at

  pub output_from : (d : Output) (text : List ℕ) → From d → From (output d text)
  unfolding output
  output_from d text h =
      pick_rule From (eqb d.code 0) (pick_rule From (leb (d.at + length text) (length d.out)) (omega arith) h) h

  pub rows_from_lem : (d : Output) (rows : Table) → From d → From (output_rows d rows)
  unfolding output_rows
  rows_from_lem d [] h = h
  rows_from_lem d (row ∷ rows) h = rows_from_lem (output d (numbers row)) rows (output_from d (numbers row) h)

  pub keys_from : (d : Output) (rows : Table) → From d → From (output_keys d rows)
  unfolding output_keys
  keys_from d [] h = h
  keys_from d (row ∷ rows) h = keys_from (output d row) rows (output_from d row h)

  pub message_from : (d : Output) (m : Option ℕ) (rows : Table) (store : List ℕ) → From d
      → From (output_message d m rows store)
  unfolding output_message
  message_from d None rows store h = output_from d _ h
  message_from d (Some e) rows store h = output_from _ _ (output_from _ _ (output_from d _ h))

  pub log_from : (show : ℕ) (d : Output) (bytes : List ℕ) (size : ℕ) → From d → From (output_log show d bytes size)
  unfolding output_log
  log_from show d bytes size h = pick_rule From (ltb show 1) h (output_from d _ h)

  pub tables_from : (show : ℕ) (d : Output) (x : ShownTables) → From d → From (output_tables show d x)
  unfolding output_tables
  tables_from show d x h =
      pick_rule From (ltb show 2) h
      (rows_from_lem _ x.actors
      (keys_from _ x.keys
      (rows_from_lem _ x.rows (rows_from_lem _ x.links (rows_from_lem _ x.groups (rows_from_lem d x.records h))))))

  pub store_from : (show : ℕ) (d : Output) (store : List ℕ) → From d → From (output_store show d store)
  unfolding output_store
  store_from show d store h = pick_rule From (ltb show 3) h (output_from d store h)

  pub entry_from : (show : ℕ) (d : Output) (did : Did) → From d → From (output_entry show d did)
  unfolding output_entry
  entry_from show d did h =
      store_from show _ _ (tables_from show _ _
      (log_from show _ _ _ (message_from _ _ _ _ (output_from d _ h))))

  pub coded_from : (d : Output) (n : ℕ) → From d → From (coded d n)
  unfolding coded
  coded_from d n h = pick_rule From (eqb d.code 0) h h

  abbrev PlayedFrom : Played → Type 0
  PlayedFrom p = From p.output

  pub play_from_lem : (show : ℕ) (s : State) (d : Output) (cs : Calls) → From d → PlayedFrom (play show s d cs)
  unfolding play
  play_from_lem show s d ended h = h
  play_from_lem show s d malformed h = coded_from d 1 h
  play_from_lem show s d (next c cs) h =
      pick_rule PlayedFrom (eqb d.code 0) (play_from_lem show (call_of s c).state (output_entry show d (call_of s c)) cs
      (entry_from show d (call_of s c) h)) h

  pub opened_from : (show : ℕ) (s : List ℕ) (start : ℕ) (did : Did) (d : Output) → From d
      → PlayedFrom (play_opened show s start did d)
  unfolding play_opened
  opened_from show s start did d h =
      pick_rule PlayedFrom (accepted did.answer) (play_from_lem show did.state (output_entry show d did)
      (calls_at (length s) s start) (entry_from show d did h)) (entry_from show d did h)

  headed_from : (s : List ℕ) (h : Option Header) (bytes store : List ℕ) (d : Output) → From d
      → PlayedFrom (play_headed s h bytes store d)
  headed_from s None bytes store d l = coded_from d 1 l
  headed_from s (Some h) bytes store d l =
      pick_rule PlayedFrom (eqb (length bytes) h.long)
      (pick_rule PlayedFrom (eqb (length store) h.stored) (opened_from h.show s (h.file + h.n) _ d l)
      (coded_from d 3 l))
      (coded_from d 3 l)

  pub script_from : (s bytes store : List ℕ) (d : Output) → From d → PlayedFrom (play_script s bytes store d)
  unfolding play_script
  script_from s bytes store d l = headed_from s (header_of s) bytes store d l

-- ---- the opening

-- an answer is no refusal where the call went well
pub accepted_ok : (c : Result Accepted Refusal) (p : Pool) (links rows : Table)
    → accepted (answer_of c p links rows) ≡ is_ok c
accepted_ok (Err r) p links rows = refl
accepted_ok (Ok accepted.Open) p links rows = refl
accepted_ok (Ok (accepted.Ended busy waiters)) p links rows = refl

module _ (show : ℕ) (s : List ℕ) (start : ℕ) (d : Output) {did x : Did} (opens : did ≡ x) {e : Output}
    (wrote : e ≡ output_entry show d did) where
  pub opened_refused : accepted did.answer ≡ false → stopped did.state e ≡ play_opened show s start x d
  unfolding play_opened
  opened_refused h =
      let no : play_opened show s start did d ≡ stopped did.state (output_entry show d did) = rw h in
      ap (stopped did.state) wrote ∙ (sym no ∙ ap (λ y. play_opened show s start y d) opens)

  pub opened_on : accepted did.answer ≡ true → {p : Played} → p ≡ play show did.state e
      (calls_at (length s) s start) → p ≡ play_opened show s start x d
  unfolding play_opened
  opened_on h q =
      let yes : play_opened show s start did d ≡ play show did.state (output_entry show d did)
      (calls_at (length s) s start) = rw h in
      q ∙ (ap (λ y. play show did.state y (calls_at (length s) s start)) wrote
      ∙ (sym yes ∙ ap (λ y. play_opened show s start y d) opens))

-- ---- a script by its header

module _ (s bytes store out : List ℕ) where
  abbrev whole : Played
  whole = play_script s bytes store (output_with out 8 0)

  pub script_torn : None ≡ header_of s → played bytes store (output_with out 8 1) ≡ whole
  unfolding play_script coded
  script_torn e = ap (λ r. play_headed s r bytes store (output_with out 8 0)) e

  module _ (h : Header) (read : Some h ≡ header_of s) where
    headed : play_headed s (Some h) bytes store (output_with out 8 0) ≡ whole
    unfolding play_script
    headed = ap (λ r. play_headed s r bytes store (output_with out 8 0)) read

    pub script_long : (length bytes ≡ h.long → ⊥) → played bytes store (output_with out 8 3) ≡ whole
    unfolding coded
    script_long l = cc (ne_eqb (length bytes) h.long l) ∙ headed

    module _ (long : length bytes ≡ h.long) where
      pub script_stored : (length store ≡ h.stored → ⊥) → played bytes store (output_with out 8 3) ≡ whole
      unfolding coded
      script_stored l = cc (eq-eqb (length bytes) h.long long, ne_eqb (length store) h.stored l) ∙ headed

      pub script_runs : length store ≡ h.stored → play_from s h bytes store (output_with out 8 0) ≡ whole
      script_runs l = cc (eq-eqb (length bytes) h.long long, eq-eqb (length store) h.stored l) ∙ headed

      -- what is lent beside log and store is blank; the groups are read, and the file is in its place
      pub script_opened : length store ≡ h.stored → {given given' records groups links rows keys actors : Table}
          {log : List ℕ}
          → given ≡ blank 16 37 → records ≡ blank 256 4 → groups ≡ blank 8 37 → links ≡ blank 262 4 → rows
          ≡ blank 256 7 → keys ≡ blank 34 65 → actors ≡ blank 128 12
          → given' ≡ groups_into h.groups s 88 given → log ≡ placed s h.file h.n bytes → {p : Played}
          → p ≡ play_opened h.show s (h.file + h.n)
          (open_of (record {
            settings = h.settings;
            groups_given = take h.groups given';
            bytes = log;
            size = h.n;
            store = store;
            records = records;
            groups = groups;
            links = links;
            rows = rows;
            keys = keys;
            actors = actors;
          }))
          (output_with out 8 0)
          → p ≡ whole
      script_opened l a b c d e f g grouped filed q = q ∙ (rw (grouped, filed, a, b, c, d, e, f, g) refl
          ∙ script_runs l)

-- so many groups fit
pub given_room : (k n : ℕ) {given : Table} → given ≡ blank 16 37 → n ≡ length given → k ≤ 16 → k ≤ n
unfolding blank
given_room k n e l h = omega (arith, ap length e, length-replicate {A = List ℕ} 16 (replicate 37 0))

-- ---- the whole

module _ (s bytes store out : List ℕ) where
  pub replay_small : length out < 8 → replayed bytes store out 2 ≡ replay_of s bytes store out
  unfolding replay_of
  replay_small h = cc (lt-ltb (length out) 8 h)

  module _ {p : Played} (e : p ≡ play_script s bytes store (output_with out 8 0)) where
    pub count_room : 8 ≤ p.output.at
    count_room = omega (
      arith,
      script_from 8 s bytes store (output_with out 8 0) (omega arith),
      ap
          (λ q. q.output.at) e,
    )

    pub replay_whole : 8 ≤ length out → {d : Output} → d ≡ output (output_with p.output.out 0 0)
        (numbers ((p.output.at - 8) ∷ []))
        → replayed p.bytes p.store d.out p.output.code ≡ replay_of s bytes store out
    unfolding replay_of
    replay_whole h w =
        ap (λ x. replayed p.bytes p.store x.out p.output.code) w
        ∙ (ap counted e ∙ cc (le-ltb (length out) 8 h))
