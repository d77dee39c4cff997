-- A step of an actor keeps the invariant of who holds messages: every transition of a fixed and of an eval actor.
-- Assumes nothing.
use Rattle.std.specs.Prelude.{Option, Some, None, Bool, true, false}
use Rattle.actor.specs.declared.message.CallerId.{CallerId}
use mathlib.Core.Path.{◌≡◌, refl, sym, ap, ◌∙◌, subst}
use mathlib.Core.Bool.{Bool, true, false}
use mathlib.Core.Logic.{◌≢◌}
use Prim.Native.Nat.{ℕ, ◌+◌, ◌*◌, ◌-◌, ◌≤◌, ◌<◌}
use native.Mathlib.Omega.{arith}
use lib.Dec.{eqb, ltb, leb}
use lib.ListN.{length, length-set, length-drop}
use Rattle.lists.specs.Links.{pick, Table, len_of, first_of, move_first, move_first_to_front, mailbox_of, hand_of, HAND}
use Rattle.lists.specs.Family.{view, Good, MovedToFront}
use Rattle.lists.proofs.Family.{length_view}
use Rattle.lists.proofs.Moves.{move_first_to_front_lem, move_first_good}
use Rattle.actor.specs.declared.question.Status.{Status}
use Rattle.actor.specs.declared.question.Status.TheVariants as status
use Rattle.actor.specs.declared.question.Outcome.{Outcome}
use Rattle.actor.specs.declared.question.Outcome.TheVariants as outcome
use Rattle.actor.specs.declared.question.Reply.{Reply}
use Rattle.actor.specs.declared.state.Mode.{Mode}
use Rattle.actor.specs.declared.state.Mode.TheVariants as mode
use Rattle.actor.specs.Questions.{yes_in, clock_in, count_in, ran_in, is_told}
use Rattle.actor.specs.Actors.{actor_at, put_actor, idled_as, consumed_as, running_to, has_run, deadline_of}
use Rattle.actor.proofs.Back.{actor_put, actor_other}
use Rattle.steps.specs.declared.step.Parked.TheVariants as parked
use Rattle.steps.specs.declared.fixed.FixedAsk.{FixedAsk}
use Rattle.steps.specs.declared.fixed.FixedAsk.TheVariants as fixed
use Rattle.steps.specs.declared.fixed.FixedNext.{FixedNext}
use Rattle.steps.specs.declared.fixed.FixedNext.TheVariants as fixed-next
use Rattle.steps.specs.declared.eval.EvalAsk.{EvalAsk}
use Rattle.steps.specs.declared.eval.EvalAsk.TheVariants as eval
use Rattle.steps.specs.declared.eval.EvalNext.{EvalNext}
use Rattle.steps.specs.declared.eval.EvalNext.TheVariants as eval-next
use Rattle.steps.specs.declared.eval.Limit.{Limit}
use Rattle.steps.specs.Steps.{caller_first, over_first, idled_at, MailTaken, take_mail}
use Rattle.steps.specs.StepFixed.{FixedBoth, step_fixed}
use Rattle.steps.specs.StepFixed as one
use Rattle.steps.specs.StepEval.{EvalStarted, EvalBoth, eval_start, step_eval}
use Rattle.steps.specs.StepEval as two
use Rattle.points.specs.declared.at.Cursor.{Cursor}
use Rattle.group.specs.Roster.{slot_at}
use Rattle.theorem.proofs.Steps.{pick_rule}
use Rattle.theorem.specs.Living.{hand_len, step_hand, given, Lives, StepHands, FixedHands, EvalHands}
use Rattle.theorem.specs.Living.{Lively, IsFixed}
use Rattle.theorem.proofs.Living.{Slot, live_slot, live_given_key, Less, less_at, less_lives, FirstLens}
use Rattle.theorem.proofs.Living.{first_lens, over_less, over_left, Same, same_lives, put_same}
use Rattle.theorem.proofs.Living.{changes_lives}
use Rattle.steps.specs.Steps.{step_tables}

mode_apart : ◌≡◌ {A = Mode} mode.Fixed mode.Eval → ⊥
mode_apart e = let z : ◌≡◌ {A = ℕ} 0 1 = cc in omega arith

true_apart : true ≡ false → ⊥
true_apart e = let z : ◌≡◌ {A = ℕ} 0 1 = cc in omega arith

-- ---- the moves of a step

module _ (t keys actors : Table) (good : Good t) (l : Lives t keys actors) (c : Cursor) (live : Lively keys c) where
  abbrev g : ℕ
  g = c.group

  abbrev k : ℕ
  k = c.key

  abbrev slot : ℕ
  slot = slot_at g k

  S : Slot g k
  S = live_slot keys g k live

  here : given keys g k ≡ true
  here = live_given_key keys g k live

  -- with the same actors
  still_lives : (r : Table) → ((j : ℕ) → 6 ≤ j → j ≢ 6 + 2 * (16 * g + k) → j ≢ 7 + 2 * (16 * g + k)
      → len_of r j ≤ len_of t j) → hand_len r g k ≤ 1
      → ((actor_at actors (16 * g + k)).mode ≡ mode.Eval → has_run (actor_at actors (16 * g + k)).run ≡ false
      → hand_len r g k ≡ 0) → Lives r keys actors
  still_lives r others few idle =
      changes_lives g k S.group S.key here (record {
        actors_long = refl;
        others = others;
        modes =
            λ s other. refl;
        runs = λ s other. refl;
        one = few;
        idle = idle;
      }) l

  -- from the actor's hand to the step's
  out_lens : FirstLens t (move_first t (hand_of slot) HAND) (7 + 2 * (16 * g + k)) HAND
  out_lens = rw S.hand (first_lens (record {
    good = good;
    from_is = omega (arith, S.group, S.key);
    to_is =
        omega arith;
    apart = λ e. out_apart e;
  }))
    where
      out_apart : 7 + 2 * (16 * g + k) ≡ HAND → ⊥
      out_apart e = omega arith

  pub out_empty : hand_len (move_first t (hand_of slot) HAND) g k ≡ 0
  out_empty = omega (arith, out_lens.left, l.one g k S.group S.key)

  pub out_hand : step_hand (move_first t (hand_of slot) HAND) ≤ step_hand t + 1
  out_hand = out_lens.joined

  pub out_lives : Lives (move_first t (hand_of slot) HAND) keys actors
  out_lives =
      still_lives _ (λ j high m h. omega (arith, out_lens.others j h (λ e. omega arith))) (omega (arith, out_empty))
      (λ m n. out_empty)

  -- from the step's hand to the actor's
  in_lens : FirstLens t (move_first t HAND (hand_of slot)) HAND (7 + 2 * (16 * g + k))
  in_lens = rw S.hand (first_lens (record {
    good = good;
    from_is = omega arith;
    to_is =
        omega (arith, S.group, S.key);
    apart = λ e. in_apart e;
  }))
    where
      in_apart : HAND ≡ 7 + 2 * (16 * g + k) → ⊥
      in_apart e = omega arith

  pub in_hand_lem : step_hand (move_first t HAND (hand_of slot)) ≡ step_hand t - 1
  in_hand_lem = in_lens.left

  pub in_lives : hand_len t g k ≤ 0 → ((actor_at actors (16 * g + k)).mode ≡ mode.Eval
      → has_run (actor_at actors (16 * g + k)).run ≡ false → ⊥)
      → Lives (move_first t HAND (hand_of slot)) keys actors
  in_lives empty not-idle =
      still_lives _ (λ j high m h. omega (arith, in_lens.others j (λ e. omega arith) h))
      (omega (arith, in_lens.joined)) (λ m n. absurd (not-idle m n))

  -- from the mailbox to the step's hand
  take_lens : FirstLens t (move_first t (mailbox_of slot) HAND) (6 + 2 * (16 * g + k)) HAND
  take_lens = rw S.mail (first_lens (record {
    good = good;
    from_is = omega (arith, S.group, S.key);
    to_is =
        omega arith;
    apart = λ e. take_apart e;
  }))
    where
      take_apart : 6 + 2 * (16 * g + k) ≡ HAND → ⊥
      take_apart e = omega arith

  pub take_held : hand_len (move_first t (mailbox_of slot) HAND) g k ≡ hand_len t g k
  take_held = take_lens.others (7 + 2 * (16 * g + k)) (λ e. omega arith) (λ e. omega arith)

  pub take_hand : step_hand (move_first t (mailbox_of slot) HAND) ≤ step_hand t + 1
  take_hand = take_lens.joined

  pub take_lives : Lives (move_first t (mailbox_of slot) HAND) keys actors
  take_lives =
      still_lives _ (λ j high m h. omega (arith, take_lens.others j m (λ e. omega arith)))
      (omega (arith, take_held, l.one g k S.group S.key))
      (λ m n. take_held ∙ l.runs g k S.group S.key m n)

  -- from the step's hand to the front of the mailbox
  back_moved : MovedToFront t HAND (6 + 2 * (16 * g + k)) 1 (move_first_to_front t HAND (6 + 2 * (16 * g + k)))
  back_moved = move_first_to_front_lem (record {
    good = good;
    from_is = omega arith;
    to_is =
        omega (arith, S.group, S.key);
    apart = λ e. back_apart e;
  })
    where
      back_apart : HAND ≡ 6 + 2 * (16 * g + k) → ⊥
      back_apart e = omega arith

  back_same : (j : ℕ) → j ≢ HAND → j ≢ 6 + 2 * (16 * g + k) → len_of (move_first_to_front t HAND (mailbox_of slot)) j
      ≡ len_of t j
  back_same j p q =
      rw S.mail (omega (
        arith,
        length_view (move_first_to_front t HAND (6 + 2 * (16 * g + k))) j,
        length_view t j,
        ap length (back_moved.others j p q),
      ))

  pub back_hand : step_hand (move_first_to_front t HAND (mailbox_of slot)) ≡ step_hand t - 1
  back_hand =
      rw S.mail
      (omega (
        arith,
        length_view (move_first_to_front t HAND (6 + 2 * (16 * g + k))) HAND,
        length_view t HAND,
        ap length back_moved.left,
        length-drop 1 (view t HAND),
      ))

  back_held : hand_len (move_first_to_front t HAND (mailbox_of slot)) g k ≡ hand_len t g k
  back_held = back_same (7 + 2 * (16 * g + k)) (λ e. omega arith) (λ e. omega arith)

  pub back_lives : Lives (move_first_to_front t HAND (mailbox_of slot)) keys actors
  back_lives =
      still_lives _ (λ j high m h. omega (arith, back_same j (λ e. omega arith) m))
      (omega (arith, back_held, l.one g k S.group S.key))
      (λ m n. back_held ∙ l.runs g k S.group S.key m n)

  -- the message in the actor's hand is over
  pub held_over : (rows : Table) → hand_len (over_first t rows (hand_of slot)) g k ≤ 0
  held_over rows =
      rw S.hand
      (omega (
        arith,
        over_left t rows good (7 + 2 * (16 * g + k)) (omega arith) (omega (arith, S.group, S.key)),
        l.one g k S.group S.key,
      ))

  -- the actor runs, or runs nothing with its hand empty
  pub run_lives : (r : Option ℕ) → (has_run r ≡ false → hand_len t g k ≡ 0)
      → Lives t keys (put_actor actors slot (running_to (actor_at actors slot) r))
  unfolding put_actor
  run_lives r empty =
      changes_lives g k S.group S.key here (record {
        actors_long = simp length-set;
        others = λ j high m h. omega arith;
        modes = λ s other. ap (λ a. a.mode) (actor_other actors slot (running_to (actor_at actors slot) r) s
            (λ e. other (e ∙ S.is)));
        runs = λ s other. ap (λ a. a.run) (actor_other actors slot (running_to (actor_at actors slot) r) s
            (λ e. other (e ∙ S.is)));
        one = l.one g k S.group S.key;
        idle = λ m n. empty (sym (ap (λ a. has_run a.run) put_here) ∙ n);
      }) l
    where
      put_here : actor_at (put_actor actors slot (running_to (actor_at actors slot) r)) (16 * g + k)
          ≡ running_to (actor_at actors slot) r
      put_here =
          subst (λ s. actor_at (put_actor actors slot (running_to (actor_at actors slot) r)) s
          ≡ running_to (actor_at actors slot) r) S.is
          (actor_put actors slot (running_to (actor_at actors slot) r) (omega (
            arith,
            S.is,
            S.group,
            S.key,
            l.actors_are,
          )))

-- an actor that ran on has a run
runs_now : (actors : Table) (slot : ℕ) (r : Option ℕ) → slot < length actors → has_run r ≡ true
    → has_run (actor_at (put_actor actors slot (running_to (actor_at actors slot) r)) slot).run ≡ true
runs_now actors slot r low is = ap (λ a. has_run a.run) (actor_put actors slot (running_to (actor_at actors slot) r)
    low) ∙ is

idled_same : (keys actors : Table) (slot : ℕ) → Same keys actors keys (idled_at actors slot)
unfolding idled_at
idled_same keys actors slot = put_same keys actors slot (idled_as (actor_at actors slot)) refl refl

-- what holds with mail and without holds of the mail that is taken
pub mail_rule : (t l : Table) (slot q : ℕ) (P : MailTaken → Type 0)
    → P (record { links = t; actors = idled_at l slot; mail = record { taken = false; queued = q } })
    → P (record {
      links = move_first t (mailbox_of slot) HAND;
      actors = l;
      mail = record {
        taken = true;
        queued =
            q - 1;
      };
    }) → P (take_mail t l slot q)
unfolding take_mail
mail_rule t l slot q P none some = pick_rule P (eqb (len_of t (mailbox_of slot)) 0) (λ e. none) (λ e. some)

-- ---- a fixed actor

-- the hands at the next question, or at the step's end
abbrev pub FixedNextHands : Cursor → FixedNext → Table → Type 0
FixedNextHands c (fixed-next.Asks a) t = FixedHands c a t
FixedNextHands c (fixed-next.Ended s) t = StepHands c s t

pub record FixedLives (keys : Table) (c : Cursor) (s : FixedBoth) : Type 0 where
  pub lives : Lives s.links keys s.actors
  pub is_fixed : IsFixed s.actors c
  pub hands : FixedNextHands c s.step.next s.links

module _ (t rows keys actors : Table) (q : ℕ) (good : Good t) (l : Lives t keys actors) (c : Cursor)
    (live : Lively keys c) (is_fixed : IsFixed actors c) where
  abbrev at_slot : ℕ
  at_slot = slot_at c.group c.key

  S' : Slot c.group c.key
  S' = live_slot keys c.group c.key live

  not_eval : (actor_at actors (16 * c.group + c.key)).mode ≡ mode.Eval
      → has_run (actor_at actors (16 * c.group + c.key)).run ≡ false → ⊥
  not_eval m n = mode_apart (sym is_fixed ∙ (ap (λ s. (actor_at actors s).mode) S'.is ∙ m))

  stays : (a : FixedAsk) → FixedHands c a t → FixedLives keys c (record {
    links = t;
    actors = actors;
    step =
        record { next = fixed-next.Asks a; queued = q };
  })
  stays a h = record { lives = l; is_fixed = is_fixed; hands = h }

  failed_lives : step_hand t ≤ 0 → FixedLives keys c (one.kept_fixed actors q (one.fixed_failed t at_slot))
  unfolding one.fixed_failed
  failed_lives h = record {
    lives = out_lives t keys actors good l c live;
    is_fixed = is_fixed;
    hands = (
      omega (arith, out_hand t keys actors good l c live),
      omega (
        arith,
        out_empty t keys actors good l c
            live,
      ),
    );
  }

  over_less_held : Less t (over_first t rows (hand_of at_slot))
  over_less_held = over_less t rows good (hand_of at_slot)

  over_step : step_hand t ≤ 0 → step_hand (over_first t rows (hand_of at_slot)) ≤ 0
  over_step h = omega (arith, less_at t (over_first t rows (hand_of at_slot)) over_less_held 5 (omega arith))

  overs : Lives (over_first t rows (hand_of at_slot)) keys actors
  overs = less_lives t (over_first t rows (hand_of at_slot)) keys actors over_less_held l

  ran_lives : step_hand t ≤ 0 → (s : Status)
      → FixedLives keys c (one.kept_fixed actors q (one.fixed_ran t rows at_slot s))
  unfolding one.fixed_ran
  ran_lives h status.Done = record {
    lives = overs;
    is_fixed = is_fixed;
    hands =
        (over_step h, held_over t keys actors good l c live rows);
  }
  ran_lives h status.Exit = record {
    lives = overs;
    is_fixed = is_fixed;
    hands =
        (over_step h, held_over t keys actors good l c live rows);
  }
  ran_lives h status.Preempted = record { lives = l; is_fixed = is_fixed; hands = h }
  ran_lives h status.Event = record {
    lives = overs;
    is_fixed = is_fixed;
    hands =
        (over_step h, held_over t keys actors good l c live rows);
  }
  ran_lives h status.HostCall = record { lives = l; is_fixed = is_fixed; hands = h }
  ran_lives h status.Error = failed_lives h
  ran_lives h status.Broke = failed_lives h

  drained_lives : step_hand t ≤ 0 → hand_len t c.group c.key ≤ 0 → (n : ℕ)
      → FixedLives keys c (one.fixed_drained t actors at_slot q n)
  unfolding one.fixed_drained
  drained_lives h e n =
      pick_rule (FixedLives keys c) (ltb 0 n) (λ z. record { lives = l; is_fixed = is_fixed; hands = h })
      (λ z. mail_rule t actors at_slot q (λ (m : MailTaken). FixedLives keys c (one.fixed_mail m))
      (record {
        lives = same_lives (idled_same keys actors at_slot) l;
        is_fixed = (idled_same keys actors at_slot).modes
            at_slot ∙ is_fixed;
        hands = h;
      })
      (record {
        lives = take_lives t keys actors good l c live;
        is_fixed = is_fixed;
        hands = (
          omega (arith, take_hand t keys actors good l c live),
          omega (
            arith,
            take_held t keys actors good l c
                live,
          ),
        );
      }))

  consumed : Same keys actors keys (put_actor actors at_slot (consumed_as (actor_at actors at_slot)))
  consumed = put_same keys actors at_slot (consumed_as (actor_at actors at_slot)) refl refl

  pushed_lives : step_hand t ≤ 1 → hand_len t c.group c.key ≤ 0 → (b : Bool)
      → FixedLives keys c (one.fixed_pushed t actors at_slot q b)
  unfolding one.fixed_pushed
  pushed_lives h e true = record {
    lives = same_lives consumed (in_lives t keys actors good l c live e not_eval);
    is_fixed = consumed.modes at_slot ∙ is_fixed;
    hands = omega (arith, in_hand_lem t keys actors good l c live);
  }
  pushed_lives h e false = record {
    lives = same_lives (idled_same keys actors at_slot) (back_lives t keys actors good l c live);
    is_fixed = (idled_same keys actors at_slot).modes at_slot ∙ is_fixed;
    hands = omega (arith, back_hand t keys actors good l c live);
  }

  dispatched_lives : step_hand t ≤ 0 → (n : ℕ)
      → FixedLives keys c (one.kept_fixed actors q (one.fixed_dispatched t at_slot n))
  unfolding one.fixed_dispatched
  dispatched_lives h n =
      pick_rule (λ (f : one.FixedLinks). FixedLives keys c (one.kept_fixed actors q f)) (ltb 0 n)
      (λ e. record { lives = l; is_fixed = is_fixed; hands = h }) (λ e. failed_lives h)

  by_run : step_hand t ≤ 0 → (start : Bool) (r : Option Status)
      → FixedLives keys c (one.kept_fixed actors q (one.run_by t rows at_slot start r))
  by_run h start (Some s) = ran_lives h s
  by_run h start None = stays (fixed.Run start) h

  by_drain : FixedHands c fixed.Drain t → (r : Option ℕ) → FixedLives keys c (one.drain_by t actors at_slot q r)
  by_drain (h, e) (Some n) = drained_lives h e n
  by_drain h None = stays fixed.Drain h

  by_push : FixedHands c fixed.Push t → (r : Option Bool) → FixedLives keys c (one.push_by t actors at_slot q r)
  by_push (h, e) (Some true) = pushed_lives h e true
  by_push (h, e) (Some false) = pushed_lives h e false
  by_push h None = stays fixed.Push h

  by_dispatch : step_hand t ≤ 0 → (r : Option ℕ)
      → FixedLives keys c (one.kept_fixed actors q (one.dispatch_by t at_slot r))
  by_dispatch h (Some n) = dispatched_lives h n
  by_dispatch h None = stays fixed.Dispatch h

  pub fixed_lives : (a : FixedAsk) → FixedHands c a t → (r : Reply)
      → FixedLives keys c (step_fixed (step_tables t rows actors) at_slot q a r)
  unfolding one.step_fixed one.run_reply one.drain_reply one.push_reply one.dispatch_reply
  fixed_lives (fixed.Run start) h r = by_run h start (ran_in r)
  fixed_lives fixed.Drain h r = by_drain h (count_in r)
  fixed_lives fixed.Push h r = by_push h (yes_in r)
  fixed_lives fixed.Dispatch h r = by_dispatch h (count_in r)

-- ---- an eval actor

abbrev pub EvalNextHands : Cursor → EvalNext → Table → Type 0
EvalNextHands c (eval-next.Asks a) t = EvalHands c a t
EvalNextHands c (eval-next.Ended p) t = step_hand t ≤ 0

pub record EvalLives (keys : Table) (c : Cursor) (s : EvalBoth) : Type 0 where
  pub lives : Lives s.links keys s.actors
  pub hands : EvalNextHands c s.next s.links

module _ (t rows keys actors : Table) (good : Good t) (l : Lives t keys actors) (c : Cursor) (live : Lively keys c)
  where
    abbrev on : ℕ
    on = slot_at c.group c.key

    abbrev done : Table
    done = over_first t rows HAND

    done_lives : Lives done keys actors
    done_lives = less_lives t done keys actors (over_less t rows good HAND) l

    done_hand : step_hand t ≤ 1 → step_hand done ≤ 0
    done_hand h = omega (arith, over_left t rows good HAND (omega arith) (omega arith))

    over_eval : step_hand t ≤ 1 → EvalLives keys c (two.eval_over (step_tables t rows actors) on)
    unfolding two.eval_over
    over_eval h =
        pick_rule (EvalLives keys c) (eqb (len_of done (mailbox_of on)) 0)
        (λ e. record { lives = same_lives (idled_same keys actors on) done_lives; hands = done_hand h })
        (λ e. record { lives = done_lives; hands = done_hand h })

    tell_eval : step_hand t ≤ 1 → (o : Outcome) → EvalLives keys c (two.eval_tell (step_tables t rows actors) on o)
    unfolding two.eval_tell
    tell_eval h o = go (caller_first rows (first_of t HAND))
      where
        go : (x : Option CallerId) → EvalLives keys c (two.eval_told (step_tables t rows actors) on o x)
        go (Some id) = record { lives = l; hands = h }
        go None = over_eval h

module _ (t rows keys actors : Table) (good : Good t) (l : Lives t keys actors) (c : Cursor) (live : Lively keys c)
  where
    abbrev its : ℕ
    its = slot_at c.group c.key

    finish_eval : step_hand t ≤ 0 → (o : Outcome) → EvalLives keys c (two.eval_finish (step_tables t rows actors) its o)
    unfolding two.eval_finish
    finish_eval h o =
        tell_eval out rows keys _ (move_first_good t good (hand_of its) HAND)
        (run_lives out keys actors (move_first_good t good (hand_of its) HAND) (out_lives t keys actors good l c live) c
        live None (λ e. out_empty t keys actors good l c live))
        c live (omega (arith, out_hand t keys actors good l c live)) o
      where
        out : Table
        out = move_first t (hand_of its) HAND

    stay_eval : (a : EvalAsk) → EvalHands c a t → EvalLives keys c (record {
      links = t;
      actors = actors;
      next =
          eval-next.Asks a;
    })
    stay_eval a h = record { lives = l; hands = h }

    clocked_eval : step_hand t ≤ 0 → (n : ℕ) → EvalLives keys c (two.eval_clocked (step_tables t rows actors) its n)
    unfolding two.eval_clocked
    clocked_eval h n = pick_rule (EvalLives keys c) (leb (deadline_of (actor_at actors its).run) n)
        (λ e. finish_eval h outcome.Late) (λ e. stay_eval (eval.Run false) h)

    booted_eval : EvalHands c eval.Boot t → (b : Bool)
        → EvalLives keys c (two.eval_booted (step_tables t rows actors) its b)
    unfolding two.eval_booted
    booted_eval h true = stay_eval eval.StartClock h
    booted_eval h false = tell_eval t rows keys actors good l c live h.0 outcome.Unbooted

    started_eval_lem : EvalHands c eval.StartClock t → (limit : Limit) (n : ℕ)
        → EvalLives keys c (two.eval_started t actors its limit n)
    unfolding two.eval_started
    started_eval_lem h limit n = record {
      lives = in_lives t keys _ good running c live h.1 (λ m e. true_apart (sym (has_run_lem) ∙ e));
      hands = omega (arith, in_hand_lem t keys _ good running c live, h.0);
    }
      where
        until : Option ℕ
        until = Some (two.deadline_from n limit)

        running : Lives t keys (put_actor actors its (running_to (actor_at actors its) until))
        running = run_lives t keys actors good l c live until (λ e. absurd (true_apart e))

        slot_here : Slot c.group c.key
        slot_here = live_slot keys c.group c.key live

        has_run_lem : has_run (actor_at (put_actor actors its (running_to (actor_at actors its) until)) (16 * c.group + c.key)
            ).run ≡ true
        has_run_lem =
            subst (λ s. has_run (actor_at (put_actor actors its (running_to (actor_at actors its) until)) s).run ≡ true)
            slot_here.is
            (runs_now actors its until (omega (arith, slot_here.is, slot_here.group, slot_here.key, l.actors_are))
            refl)

    ran_eval : step_hand t ≤ 0 → (s : Status) → EvalLives keys c (two.eval_ran (step_tables t rows actors) its s)
    unfolding two.eval_ran
    ran_eval h status.Done = finish_eval h outcome.Ran
    ran_eval h status.Exit = finish_eval h outcome.Ran
    ran_eval h status.Preempted = record { lives = l; hands = h }
    ran_eval h status.Event = finish_eval h outcome.StuckReceive
    ran_eval h status.HostCall = record { lives = l; hands = h }
    ran_eval h status.Error = finish_eval h outcome.Raised
    ran_eval h status.Broke = finish_eval h outcome.Broke

    dispatched_eval : step_hand t ≤ 0 → (n : ℕ) → EvalLives keys c (two.eval_dispatched (step_tables t rows actors) its n)
    unfolding two.eval_dispatched
    dispatched_eval h n = pick_rule (EvalLives keys c) (ltb 0 n) (λ e. record { lives = l; hands = h })
        (λ e. finish_eval h outcome.StuckHostCall)

    by_clock : step_hand t ≤ 0 → (r : Option ℕ) → EvalLives keys c (two.eval_clock_by (step_tables t rows actors) its r)
    by_clock h (Some ns) = clocked_eval h ns
    by_clock h None = stay_eval eval.Clock h

    by_boot : EvalHands c eval.Boot t → (r : Option Bool) → EvalLives keys c (two.boot_by (step_tables t rows actors) its r)
    by_boot h (Some true) = booted_eval h true
    by_boot h (Some false) = booted_eval h false
    by_boot h None = stay_eval eval.Boot h

    by_start : EvalHands c eval.StartClock t → (limit : Limit) (r : Option ℕ)
        → EvalLives keys c (two.start_by t actors its limit r)
    by_start h limit (Some ns) = started_eval_lem h limit ns
    by_start h limit None = stay_eval eval.StartClock h

    by_run_eval : step_hand t ≤ 0 → (start : Bool) (r : Option Status)
        → EvalLives keys c (two.eval_run_by (step_tables t rows actors) its start r)
    by_run_eval h start (Some s) = ran_eval h s
    by_run_eval h start None = stay_eval (eval.Run start) h

    by_dispatch_eval : step_hand t ≤ 0 → (r : Option ℕ)
        → EvalLives keys c (two.eval_dispatch_by (step_tables t rows actors) its r)
    by_dispatch_eval h (Some n) = dispatched_eval h n
    by_dispatch_eval h None = stay_eval eval.Dispatch h

    pub eval_lives : (limit : Limit) (a : EvalAsk) → EvalHands c a t → (r : Reply)
        → EvalLives keys c (step_eval (step_tables t rows actors) its limit a r)
    unfolding two.step_eval two.eval_clock_reply two.boot_reply two.start_reply two.eval_run_reply two.eval_dispatch_reply
        two.tell_reply
    eval_lives limit eval.Clock h r = by_clock h (clock_in r)
    eval_lives limit eval.Boot h r = by_boot h (yes_in r)
    eval_lives limit eval.StartClock h r = by_start h limit (clock_in r)
    eval_lives limit (eval.Run start) h r = by_run_eval h start (ran_in r)
    eval_lives limit eval.Dispatch h r = by_dispatch_eval h (count_in r)
    eval_lives limit (eval.Tell o) h r =
        pick_rule (EvalLives keys c) (is_told r) (λ e. over_eval t rows keys actors good
        l c live h) (λ e. stay_eval (eval.Tell o) h)

    -- a step begins: with a run the clock is asked, else mail is taken, and the hand is empty
    pub eval_begins : (actor_at actors its).mode ≡ mode.Eval → (q : ℕ) → step_hand t ≤ 0
        → EvalLives keys c (record {
          links = (eval_start t actors its q).links;
          actors = (eval_start t actors its q).actors;
          next = (eval_start t actors its q).step.next;
        })
    unfolding two.eval_start
    eval_begins is-eval q h =
        pick_rule (λ (s : EvalStarted). EvalLives keys c (record {
          links = s.links;
          actors = s.actors;
          next =
              s.step.next;
        })) (has_run (actor_at actors its).run)
        (λ e. stay_eval eval.Clock h)
        (λ e. mail_rule t actors its q (λ (m : MailTaken). EvalLives keys c (record {
          links = m.links;
          actors =
              m.actors;
          next = pick m.mail.taken (eval-next.Asks eval.Boot) (eval-next.Ended parked.Waiting);
        }))
        (record { lives = same_lives (idled_same keys actors its) l; hands = h })
        (record {
          lives = take_lives t keys actors good l c live;
          hands = (
            omega (arith, take_hand t keys actors good l c live),
            omega (
              arith,
              take_held t keys actors good l c
                  live,
              empty e,
            ),
          );
        }))
      where
        slot_here : Slot c.group c.key
        slot_here = live_slot keys c.group c.key live

        empty : has_run (actor_at actors its).run ≡ false → hand_len t c.group c.key ≡ 0
        empty e =
            l.runs c.group c.key slot_here.group slot_here.key
            (sym (ap (λ s. (actor_at actors s).mode) slot_here.is) ∙ is-eval)
            (sym (ap (λ s. has_run (actor_at actors s).run) slot_here.is) ∙ e)
