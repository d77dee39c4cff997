-- Recovery: whatever file a cut leaves, opening accepts it and finds a moment no earlier than the last confirmed flush
-- or replace.
use Rattle.std.specs.Prelude.{Option, Some, None}
use mathlib.Core.Path.{◌≡◌, refl, sym, ap, ◌∙◌, subst}
use mathlib.Core.Logic.{◌⊎◌, inl, inr}
use mathlib.Core.List.Memᴰ
use mathlib.Core.List.{List, [], ◌∷◌, ◌++◌, append_assoc, append-nil, Memᴰ}
use Prim.Native.Nat.{ℕ, ◌+◌, ◌-◌, ◌^◌, ◌≤◌, ◌<◌}
use native.Mathlib.Omega.{arith}
use lib.ListN.{length, take, drop, length-append, length-take}
use lib.Seq.{drop-append-le, drop_at}
use Rattle.text.specs.Format.{LF, Message, line, lines}
use Rattle.text.specs.Line.{read_line}
use Rattle.text.specs.Bytes.{Free}
use Rattle.message_log.specs.declared.Order.{Order}
use Rattle.message_log.specs.Stands.{Small, Tries, Stands, Standing}
use Rattle.message_log.specs.Opening.{Rising, Read, take_in, read_lines, nothing_read, read_file, opened, opening, image}
use Rattle.message_log.specs.Log.{Wal}
use Rattle.message_log.specs.Recovery.{LogCall, did_call, Sent, appending, replacing, flushing, sent, settled, waits, lost}
use Rattle.message_log.specs.Recovery.{Disk, Cut, confirm, firm_moment, LogWorld, call_effect, issue, issued, called}
use Rattle.message_log.specs.Recovery.{stored_order}
use Rattle.message_log.specs.Recovery.{failed_order, Event, call, stored, failed, step_log, run_log, Possible}
use Rattle.message_log.proofs.OpeningLaws.{joined, FreeAll, read_joined, joined_snoc, FreeAll-snoc, read_lines_append}
use Rattle.message_log.proofs.OpeningLaws.{lefts, lefts_snoc, Accepted, Accepted-snoc, take_lines, judge_good, texts}
use Rattle.message_log.proofs.OpeningLaws.{image_joined, texts_free, read_texts_left, read_texts_next}
use Rattle.message_log.proofs.CallLaws.{held, Takes, Kind, appends, replaces, flushes, ActsBy, acts}

-- what is held can be written and read again
pub record Fit (h : Read) : Type 0 where
  pub rising : Rising 0 h.left h.next
  pub small : Small h.left
  pub tries : Tries h.left
  pub top : h.next < 2 ^ 64

pub stands_fit : (w : Wal) (ms : List Message) → Stands w ms → Fit (held w ms)
stands_fit w ms s = record { rising = s.rising; small = s.small; tries = s.tries; top = s.top }

-- a file fits a lent log of this length, opening accepts it, and the messages left are those of one of the moments
pub record ReadBack (long : ℕ) (file : List ℕ) (moments : List (List Message)) : Type 0 where
  pub short : length file ≤ long
  pub found : Read
  pub accepted : opening file ≡ opened found
  pub among : Memᴰ found.left moments

abbrev pub ReadsBack : ℕ → LogWorld → Type 0
ReadsBack long w = (file : List ℕ) → Possible w.disk file → ReadBack long file (drop w.firm w.moments)

-- what is on the disk, `size` bytes in all, is read as the messages of the moments since the last confirmed flush or
-- replace; the last of them is h
pub record Stored (disk : Disk) (moments : List (List Message)) (h : Read) (size : ℕ) : Type 0 where
  pub settles : disk.status ≡ settled
  pub base : Read
  pub ts : List (List ℕ)
  pub free : FreeAll ts
  pub sure : (x : List ℕ) → read_file (disk.sure ++ x) ≡ read_lines base (lines x)
  pub since : disk.since ≡ joined ts
  pub accepted : Accepted base ts
  pub trail : moments ≡ lefts base ts
  pub left : (read_lines base ts).left ≡ h.left
  pub next : (read_lines base ts).next ≤ h.next
  pub whole : length disk.sure + length disk.since ≡ size

module _ (long : ℕ) where
  -- a cut file of such a disk
  pub stored_cut : (disk : Disk) (moments : List (List Message)) (h : Read) (size : ℕ) → size ≤ long
      → Stored disk moments h size → (file : List ℕ) → Cut disk.sure disk.since file → ReadBack long file moments
  unfolding opening
  stored_cut disk moments h size fits st file c =
      let p = take_lines st.ts st.base c.0 st.free st.accepted in
      let e : read_file file ≡ p.found = cc (c.1, st.sure (take c.0 disk.since), st.since, p.reads) in
      let n : length file ≡ length disk.sure + length (take c.0 disk.since) = ap length c.1
      ∙ length-append disk.sure (take c.0 disk.since) in
      record {
        short = omega (arith, length-take c.0 disk.since, st.whole);
        found = p.found;
        accepted =
            cc p.good;
        among = rw st.trail p.among;
      }

  -- the three kinds of order, confirmed
  stored_append : (disk : Disk) (moments : List (List Message)) (h h' : Read) (size : ℕ) (t : List ℕ)
      → Stored disk moments h size → Fit h' → Free LF t → Takes h h' t
      → Stored (confirm (appending (line t)) disk) (moments ++ (h'.left ∷ [])) h' (size + length (line t))
  unfolding confirm read_lines
  stored_append disk moments h h' size t st fit f takes =
      let r : Read = read_lines st.base st.ts in
      let p = takes r st.left st.next in
      let e : read_lines st.base (st.ts ++ (t ∷ [])) ≡ take_in r (read_line t) = read_lines_append st.base st.ts
      (t ∷ []) in
      let s : Small (take_in r (read_line t)).left = rw p.0 fit.small in
      record {
        settles = refl;
        base = st.base;
        ts = st.ts ++ (t ∷ []);
        free = FreeAll-snoc st.ts t st.free f;
        sure = st.sure;
        since = cc (st.since, joined_snoc st.ts t);
        accepted = Accepted-snoc st.base st.ts t st.accepted (judge_good (take_in r (read_line t))
            (omega (arith, p.1, fit.top)) s);
        trail = cc (st.trail, lefts_snoc st.base st.ts t, p.0);
        left = ap (λ q. q.left) e ∙ p.0;
        next = rw e p.1;
        whole = rw length-append (omega (arith, st.whole));
      }

  pub stored_replace : (disk : Disk) (h : Read) → Fit h → Stored (confirm (replacing (image h.left)) disk)
      (h.left ∷ []) h (length (image h.left))
  unfolding confirm read_lines joined lefts read_file
  stored_replace disk h fit =
      let base : Read = read_lines nothing_read (texts h.left) in
      let left : base.left ≡ h.left = read_texts_left h.left nothing_read 0 h.next (omega (arith, fit.top))
      fit.tries (omega arith) fit.rising in
      let next : base.next ≤ h.next = read_texts_next h.left nothing_read 0 h.next (omega (arith, fit.top))
      fit.tries (omega arith) (omega arith) fit.rising in
      record {
        settles = refl;
        base = base;
        ts = [];
        free = tt;
        sure = λ x. cc (image_joined h.left, read_joined nothing_read (texts h.left) x (texts_free h.left));
        since = refl;
        accepted = judge_good base (omega (arith, fit.top)) (rw left fit.small);
        trail = cc;
        left = left;
        next = next;
        whole = omega arith;
      }

  stored_flush : (disk : Disk) (moments : List (List Message)) (h h' : Read) (size : ℕ) → Stored disk moments h size
      → Fit h' → h'.left ≡ h.left → h'.next ≡ h.next
      → Stored (confirm flushing disk) (h'.left ∷ []) h' size
  unfolding confirm read_lines joined lefts
  stored_flush disk moments h h' size st fit same next =
      let r : Read = read_lines st.base st.ts in
      let left : r.left ≡ h'.left = st.left ∙ sym same in
      record {
        settles = refl;
        base = r;
        ts = [];
        free = tt;
        sure = λ x. cc (
          append_assoc disk.sure disk.since x,
          st.sure (disk.since ++ x),
          st.since,
          read_joined st.base st.ts x st.free,
        );
        since = refl;
        accepted = judge_good r (omega (arith, st.next, fit.top)) (rw left fit.small);
        trail = cc;
        left = left;
        next = omega (arith, st.next);
        whole = rw length-append (omega (arith, st.whole));
      }

  -- a file that a cut may leave while such an order is not confirmed
  earlier : (file : List ℕ) (moments : List (List Message)) (now : List Message) → ReadBack long file moments
      → ReadBack long file (moments ++ (now ∷ []))
  earlier file moments now r = record {
    short = r.short;
    found = r.found;
    accepted = r.accepted;
    among =
        Memᴰ.append_left (now ∷ []) r.among;
  }

  later : (file : List ℕ) (moments : List (List Message)) (now : List Message) → ReadBack long file (now ∷ [])
      → ReadBack long file (moments ++ (now ∷ []))
  later file moments now r = record {
    short = r.short;
    found = r.found;
    accepted = r.accepted;
    among =
        Memᴰ.append_right moments r.among;
  }

  pub whole_image : (disk : Disk) (h : Read) → Fit h → length (image h.left) ≤ long → (file : List ℕ) → file
      ≡ image h.left → ReadBack long file (h.left ∷ [])
  unfolding confirm
  whole_image disk h fit short file e =
      stored_cut (confirm (replacing (image h.left)) disk) (h.left ∷ []) h (length (image h.left)) short
      (stored_replace disk h fit) file (0, e ∙ sym (append-nil (image h.left)))

  unsure_replace : (disk : Disk) (moments : List (List Message)) (h h' : Read) (size : ℕ) → size ≤ long
      → Stored disk moments h size → Fit h' → length (image h'.left) ≤ long
      → (file : List ℕ) → Cut disk.sure disk.since file ⊎ (file ≡ image h'.left)
      → ReadBack long file (moments ++ (h'.left ∷ []))
  unsure_replace disk moments h h' size fits st fit short file (inl c) = earlier file moments h'.left
      (stored_cut disk moments h size fits st file c)
  unsure_replace disk moments h h' size fits st fit short file (inr e) = later file moments h'.left
      (whole_image disk h' fit short file e)

  -- between two events: the log stands for the messages of the last moment, and so does the disk
  pub record Steady (w : LogWorld) : Type 0 where
    pub stands : Stands w.wal w.now
    pub bytes : length w.wal.bytes ≡ long
    pub on_disk : Stored w.disk (drop w.firm w.moments) (held w.wal w.now) w.wal.counters.size
    pub firm : w.firm ≤ length w.moments

  -- no order waits; or one does, and all is well whether it is confirmed or not; or one failed
  pub data Sound (w : LogWorld) : Type 0 where
    steady : Steady w → Sound w
    waiting : (s : Sent) → w.disk.status ≡ waits s → Steady (stored_order w s) → ReadsBack long (failed_order w s)
        → Sound w
    ended : (s : Sent) → w.disk.status ≡ lost s → Stands w.wal w.now → length w.wal.bytes ≡ long
        → ReadsBack long w → Sound w

  module _ (w : LogWorld) (st : Steady w) (after : Wal) (now : List Message) (stands : Stands after now)
      (same : length after.bytes ≡ length w.wal.bytes) where
    abbrev pub recent : List (List Message)
    recent = drop w.firm w.moments

    abbrev pub before : Read
    before = held w.wal w.now

    fit : Fit (held after now)
    fit = stands_fit after now stands

    bytes_are : length after.bytes ≡ long
    bytes_are = same ∙ st.bytes

    size_fits : w.wal.counters.size ≤ long
    size_fits = omega (arith, st.stands.room, st.bytes)

    after_fits : after.counters.size ≤ long
    after_fits = omega (arith, stands.room, bytes_are)

    drop_recent : drop w.firm (w.moments ++ (now ∷ [])) ≡ recent ++ (now ∷ [])
    drop_recent = drop-append-le w.firm w.moments (now ∷ []) st.firm

    last_moment : length (w.moments ++ (now ∷ [])) - 1 ≡ length w.moments
    last_moment = rw length-append (omega arith)

    drop_now : drop (length (w.moments ++ (now ∷ [])) - 1) (w.moments ++ (now ∷ [])) ≡ now ∷ []
    drop_now = drop_at w.moments (now ∷ []) (length (w.moments ++ (now ∷ [])) - 1) (sym last_moment)

    issue_append : (t : List ℕ) → Free LF t → Takes before (held after now) t → after.counters.size
        ≡ w.wal.counters.size + length (line t) → Sound (issue w after now (appending (line t)))
    unfolding issue stored_order failed_order firm_moment confirm
    issue_append t f takes n =
        let more = subst (Stored (confirm (appending (line t)) w.disk) (recent ++ (now ∷ [])) (held after now))
        (sym n) (stored_append w.disk recent before (held after now) w.wal.counters.size t st.on_disk fit
        f takes) in
        waiting (appending (line t)) refl
        (record {
          stands = stands;
          bytes = bytes_are;
          on_disk = rw drop_recent more;
          firm =
              omega (arith, length-append w.moments (now ∷ []), st.firm);
        })
        (λ file p. rw drop_recent (stored_cut (confirm (appending (line t)) w.disk) (recent ++ (now ∷ []))
        (held after now) after.counters.size after_fits more file p))

    issue_replace : after.counters.size ≡ length (image now) → Sound (issue w after now (replacing (image now)))
    unfolding issue stored_order failed_order firm_moment confirm
    issue_replace n =
        let new = subst (Stored (confirm (replacing (image now)) w.disk) (now ∷ []) (held after now)) (sym n)
        (stored_replace w.disk (held after now) fit) in
        waiting (replacing (image now)) refl
        (record { stands = stands; bytes = bytes_are; on_disk = rw drop_now new; firm = omega arith })
        (λ file p. rw drop_recent (unsure_replace w.disk recent before (held after now) w.wal.counters.size
        size_fits st.on_disk fit (omega (arith, n, after_fits)) file p))

    issue_flush : now ≡ w.now → after.counters.next ≡ w.wal.counters.next → after.counters.size
        ≡ w.wal.counters.size → Sound (issue w after now flushing)
    unfolding issue stored_order failed_order firm_moment confirm
    issue_flush m k n =
        let new = subst (Stored (confirm flushing w.disk) (now ∷ []) (held after now)) (sym n)
        (stored_flush w.disk recent before (held after now) w.wal.counters.size st.on_disk fit m k) in
        waiting flushing refl
        (record { stands = stands; bytes = bytes_are; on_disk = rw drop_now new; firm = omega arith })
        (λ file p. rw drop_recent (earlier file recent now (stored_cut w.disk recent before w.wal.counters.size
        size_fits st.on_disk file p)))

    pub issue_sound : (s : Sent) → Kind before (held after now) w.wal.counters.size after.counters.size s
        → Sound (issue w after now s)
    issue_sound s (appends t e f takes n) = rw e (issue_append t f takes n)
    issue_sound s (replaces e n) = rw e (issue_replace n)
    issue_sound s (flushes e m k n) = rw e (issue_flush m k n)

  -- one event, and then a list of them
  unmoved : (w : LogWorld) (wal : Wal) → Steady w → wal ≡ w.wal
      → Sound (record { wal = wal; disk = w.disk; moments = w.moments; now = w.now; firm = w.firm })
  unmoved w wal st e = steady (record {
    stands = subst (λ v. Stands v w.now) (sym e) st.stands;
    bytes = ap (λ v. length v.bytes) e ∙ st.bytes;
    on_disk = subst (λ v. Stored w.disk (drop w.firm w.moments) (held v w.now) v.counters.size) (sym e)
        st.on_disk;
    firm = st.firm;
  })

  pub issued_sound : (w : LogWorld) (c : LogCall) → Steady w → (wal : Wal) (a : Option Order)
      → ActsBy w.wal w.now c wal a → Sound (issued w c wal a)
  issued_sound w c st wal (Some o) x = issue_sound w st wal (call_effect w.wal c w.now) x.stands x.long
      (sent wal.bytes o) x.kind
  issued_sound w c st wal None x = unmoved w wal st x

  step_settled : (compactAt : ℕ) (w : LogWorld) (e : Event) → Steady w → Sound (step_log compactAt settled w e)
  unfolding step_log called
  step_settled compactAt w (call c) st =
      let did = did_call compactAt w.wal c in
      issued_sound w c st did.wal did.order (acts compactAt w.wal w.now c st.stands)
  step_settled compactAt w stored st = steady st
  step_settled compactAt w failed st = steady st

  step_waits : (compactAt : ℕ) (w : LogWorld) (s : Sent) (e : Event) → w.disk.status ≡ waits s
      → Steady (stored_order w s) → ReadsBack long (failed_order w s) → Sound (step_log compactAt (waits s) w e)
  unfolding step_log failed_order stored_order
  step_waits compactAt w s (call c) q y n = waiting s q y n
  step_waits compactAt w s stored q y n = steady y
  step_waits compactAt w s failed q y n = ended s refl y.stands y.bytes n

  -- `rw` would rewrite the world itself, a record of its fields: so the family is written
  pub step_sound : (compactAt : ℕ) (w : LogWorld) (e : Event) → Sound w
      → Sound (step_log compactAt w.disk.status w e)
  unfolding step_log
  step_sound compactAt w e (steady st) = subst (λ q. Sound (step_log compactAt q w e)) (sym st.on_disk.settles)
      (step_settled compactAt w e st)
  step_sound compactAt w e (waiting s q y n) = subst (λ q. Sound (step_log compactAt q w e)) (sym q)
      (step_waits compactAt w s e q y n)
  step_sound compactAt w e (ended s q g b n) = subst (λ q. Sound (step_log compactAt q w e)) (sym q) (ended s q g b n)

  pub run_sound : (compactAt : ℕ) (es : List Event) (w : LogWorld) → Sound w → Sound (run_log compactAt w es)
  unfolding run_log
  run_sound compactAt [] w s = s
  run_sound compactAt (e ∷ es) w s = run_sound compactAt es (step_log compactAt w.disk.status w e)
      (step_sound compactAt w e s)

  pub sound_reads : (w : LogWorld) → Sound w → ReadsBack long w
  unfolding failed_order
  sound_reads w (steady st) file p =
      stored_cut w.disk (drop w.firm w.moments) (held w.wal w.now) w.wal.counters.size
      (omega (arith, st.stands.room, st.bytes)) st.on_disk file (rw st.on_disk.settles at p)
  sound_reads w (waiting s e y n) file p = n file (rw e at p)
  sound_reads w (ended s e g b n) file p = n file p

  pub sound_stands : (w : LogWorld) → Sound w → Standing long w
  unfolding stored_order
  sound_stands w (steady st) = record {
    stands = st.stands;
    bytes = st.bytes;
    live = st.stands.fits;
  }
  sound_stands w (waiting s e y n) = record {
    stands = y.stands;
    bytes = y.bytes;
    live = y.stands.fits;
  }
  sound_stands w (ended s e g b n) = record { stands = g; bytes = b; live = g.fits }
