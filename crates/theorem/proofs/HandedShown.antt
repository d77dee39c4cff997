-- What the pool shows of a message is the message: the part of the body store that its row names is its name and body.
-- Assumes nothing.
use Rattle.std.specs.Prelude.{Some}
use mathlib.Core.Path.{◌≡◌, refl, sym, ap, subst}
use mathlib.Core.Bool.{true}
use mathlib.Core.List.{List, [], ◌∷◌, map}
use Prim.Native.Nat.{ℕ, suc, ◌+◌, ◌≤◌}
use native.Mathlib.Omega.{arith}
use lib.ListN.{length}
use Rattle.text.specs.Format.{Message}
use Rattle.message_log.specs.Opened.{stored}
use Rattle.message_log.specs.Opening.{all_fit}
use Rattle.message_log.proofs.StoreLaws.{fit_first}
use Rattle.lists.specs.Links.{Table}
use Rattle.lists.specs.Family.{up_from, view}
use Rattle.actor.specs.Messages.{message_at}
use Rattle.actor.specs.Part.{bytes_in, Shows}
use Rattle.actor.proofs.Parts.{Limits, part_is}
use Rattle.theorem.specs.Handing.{message_in, put_messages}
use Rattle.theorem.specs.HandedShown.{ShowAll}
use Rattle.theorem.proofs.Filling.{Stand}
use Rattle.theorem.proofs.Handing.{put_all, hands}

-- an entry whose row is within the limits shows the message that is handed back from it
pub message_shown : (store : List ℕ) (rows : Table) (e : ℕ) → Limits (message_at rows e) e
    → Shows store rows (Some e) (message_in store rows e).name (message_in store rows e).body
message_shown store rows e h =
    let p = sym (part_is rows e (message_at rows e) refl h) in
    record { name_is = ap (λ q. bytes_in store q.name) p; body_is = ap (λ q. bytes_in store q.body) p }

-- entries in which messages that fit stand
stand_shown : (ms : List Message) (store : List ℕ) (rows : Table) (i : ℕ) → Stand rows i ms → all_fit ms ≡ true
    → i + length ms ≤ 256
    → ShowAll store rows (up_from i (length ms)) (map (message_in store rows) (up_from i (length ms)))
unfolding up_from
stand_shown [] store rows i stand fit few = tt
stand_shown (m ∷ ms) store rows i (here, later) fit few =
    let g = fit_first m ms fit in
    let name : (message_at rows i).name_len ≡ length m.name = ap (λ r. r.name_len) here in
    let body : (message_at rows i).body_len ≡ length m.body = ap (λ r. r.body_len) here in
    let limits : Limits (message_at rows i) i =
    record { entry = omega arith; name = omega (arith, g.name); body = omega (arith, g.body) } in
    (message_shown store rows i limits, stand_shown ms store rows (suc i) later g.others (omega arith))

-- after an opening the entries of pending show, in their order, the messages left
pub hands_shown : (rows : Table) (store : List ℕ) (ms : List Message) → length rows ≡ 256 → length store ≡ 40960
    → length ms ≤ 256 → all_fit ms ≡ true
    → ShowAll (stored 0 ms store) (put_messages rows ms).rows (view (put_messages rows ms).links 2) ms
hands_shown rows store ms sized long few fit =
    let put = put_all rows ms sized few in
    let shown = stand_shown ms store' rows' 0 put.stand fit (omega arith) in
    let pending = subst (λ es. ShowAll store' rows' es (map message es)) (sym put.filled.pending) shown in
    subst (λ x. ShowAll store' rows' (view links 2) x) (hands rows store ms sized long few fit).back pending
  where
    links : Table
    links = (put_messages rows ms).links

    rows' : Table
    rows' = (put_messages rows ms).rows

    store' : List ℕ
    store' = stored 0 ms store

    message : ℕ → Message
    message = message_in store' rows'
