-- A retry is written: what every call does with the attempts of a message that was logged. The proof is
-- `retries_written`, in proofs/RetriesWritten.
use Rattle.std.specs.Prelude.{◌≡◌, ◌⊎◌, ◌≢◌, ℕ, ◌<◌, ◌≤◌, length, Some}
use mathlib.Core.List.{List, Memᴰ}
use Rattle.text.specs.Format.{ATTEMPTS, Message}
use Rattle.lists.specs.Links.{FREE}
use Rattle.lists.specs.Family.{count, view}
use Rattle.message_log.specs.declared.LogId.{LogId}
use Rattle.message_log.specs.Opening.{retried, image}
use Rattle.actor.specs.Messages.{message_at}
use Rattle.turn.specs.State.{State}
use Rattle.answers.specs.Answers.{Did}
use Rattle.theorem.specs.Rail.{World, Call, call_of, step_did, EveryCall}

-- the attempts of the message in an entry
abbrev pub attempts_in : State → ℕ → ℕ
attempts_in s e = (message_at s.rows e).attempts

-- the log has these attempts of an id: its message is one of those logged and not done, and has them
pub record Says (now : List Message) (id tried : ℕ) : Type 0 where
  pub message : Message
  pub among : Memᴰ message now
  pub own : message.id ≡ id
  pub told : message.attempts ≡ tried

-- the messages that were logged and not done before a call, that of this id with these attempts, are longer than the
-- lent log
abbrev pub NoRoom : World → ℕ → ℕ → Type 0
NoRoom w id tried = length w.state.bytes < length (image (retried id tried w.journal.now))

-- a number that a retry line can say; and the log, with these messages after the call, has it, or had no room for it
abbrev pub Noted : World → List Message → ℕ → ℕ → Type 0
Noted w now id tried = (tried ≤ ATTEMPTS) × (Says now id tried ⊎ NoRoom w id tried)

-- What a call made of the world, whatever pool it was, refused or not. If it changed the attempts of a message that was
-- logged, in an entry that was not free, it wrote them, or there was no room.
abbrev pub DidRetries : World → Call → Did → Type 0
DidRetries w c d = (e : ℕ) (id : LogId) → count e (view w.state.links FREE) ≡ 0
    → (message_at w.state.rows e).id ≡ Some id → attempts_in d.state e ≢ attempts_in w.state e
    → Noted w (step_did w c d).journal.now id.0 (attempts_in d.state e)

-- so it is with this pool's calls
abbrev pub CallRetries : World → Call → Type 0
CallRetries w c = DidRetries w c (call_of w.state c)

-- every opening that is accepted, every list of calls, every call after it
abbrev pub RetriesWritten : Type 0
RetriesWritten = EveryCall CallRetries
