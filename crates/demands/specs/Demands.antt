-- THE FRONT PAGE. What is demanded of a core: any function that replies to an event with its element at a record. Each
-- field is a promise that stands in `call_promises`; `proofs/Meets.antt` shows that this core keeps them all, and
-- `Decided` that no other does.
use Rattle.std.specs.Prelude.{ℕ, List, ◌≡◌}
use Rattle.call.specs.declared.Call.{Call}
use Rattle.event.specs.declared.Event.{Event}
use Rattle.call.specs.Step.{step_of}
use Rattle.call_promises.specs.Numbers.{Core, AnswersExactly}
use Rattle.call_promises.specs.Notes.{Notes}
use Rattle.call_promises.specs.Refusals.{Refusals}
use Rattle.call_promises.specs.Sound.{Sound, NeverUnsound}
use Rattle.call_promises.specs.Handling.{Unaltered, GoesOut, UnderAService}
use Rattle.call_promises.specs.Services.{Required, Failed, Granted}
use Rattle.call_promises.specs.MoreRights.{MoreRights}
use Rattle.call_promises.specs.Credit.{Credit, Covered}
use Rattle.call_promises.specs.Sends.{SendsExactly}
use Rattle.call_promises.specs.Carriers.{CarriersExactly}
use Rattle.call_promises.specs.Becomes.{BecomesExactly, History}

pub record Demands (f : Core) : Type 0 where
  -- DEMAND 1. Every event, in every phase, ends with one of the numbers in the paper, in the paper's order, and with
  -- the note on its element; a refusal changes nothing except the one congestion mark, and sends nothing but for 14 and
  -- 16
  pub answers : AnswersExactly f
  pub notes : Notes f
  pub refusals : Refusals f
  -- a call that began fresh never comes to hold what is out of range
  pub sound : Sound f
  pub never_unsound : NeverUnsound f
  -- DEMAND 2. User information goes out unaltered (the core holds no octets of it: a message says whether the event's
  -- own element goes in it, and `Sending` in `wire_promises` that the octets stay what they are on the line), and only
  -- under a service in force in that phase or, in SETUP, still asked for; what has no note does go out
  pub unaltered : Unaltered f
  pub goes_out : GoesOut f
  pub under_a_service : UnderAService f
  -- a required service that fails never leaves the call connected, and none is in force that was not granted
  pub required : Required f
  pub failed : Failed f
  pub granted : Granted f
  -- DEMAND 3. With more rights no element is handed over later, altered or not at all
  pub more_rights : MoreRights f
  -- CREDITS. Each credit and count is what the events make it, and nothing goes over unpaid
  pub credit : Credit f
  pub covered : Covered f
  -- THE REST OF THE PAPER ON ONE CALL. What each user is sent, which service carries the element, and every field of
  -- the next record, for every record, event and element; and so after every run
  pub sends : SendsExactly f
  pub carriers : CarriersExactly f
  pub becomes : BecomesExactly f
  pub history : History f

-- DECIDED. Whatever core meets the demands is this one: at every record, sound or not, it gives the same reply.
abbrev pub Decided : Type 0
Decided = (f : Core) → Demands f → (c : Call) (e : Event) (l : List ℕ) → f c e l ≡ step_of c e l
