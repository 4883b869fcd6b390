-- Causes alone: which cause stands in which message. All of it follows from `Sends`, for whatever core keeps that, and
-- is put together here for those who show causes to people.
use Rattle.std.specs.Prelude.{Option, Some, None, ℕ, List, Bool, ◌≡◌}
use Rattle.services.specs.declared.ByService.{ByService}
use Rattle.services.specs.declared.Request.{Request}
use Rattle.services.specs.declared.Given.{Given}
use Rattle.rights.specs.declared.Rights.{Rights}
use Rattle.facility_rules.specs.declared.What.{What}
use Rattle.message_types.specs.declared.Kind.{Kind}
use Rattle.phases.specs.declared.Phase.{Phase}
use Rattle.sent.specs.declared.Message.{Message}
use Rattle.sent.specs.declared.side.Side.{Side}
use Rattle.call.specs.declared.Call.{Call}
use Rattle.event.specs.declared.Event.{Event}
use Rattle.call_promises.specs.Numbers.{Core, other}
use Rattle.call_promises.specs.Refusals.{sent_to}
use Rattle.call_promises.specs.Services.{Failing}
use Rattle.call_promises.specs.Sends.{Hears}

-- ALERTING or CONNECT that does not accept a required service to which an answer is due, rejected or unanswered
abbrev pub RequiredFails : Call → Event → Type 0
RequiredFails c e = Failing c e Phase.Clearing

-- The cause in a message, by the record, the event, the side that it goes to, and its kind.
pub data CauseTold (c : Call) : Event → Side → Kind → Option ℕ → Type 0 where
  -- SETUP: 50 in RELEASE COMPLETE, none in CALL PROCEEDING and SETUP
  refused : {n : ℕ} {r : Rights} {q : ByService Request} → CauseTold c (Event.Setup n r q) Side.Calling Kind.ReleaseComplete (Some 50)
  proceeds : {n : ℕ} {r : Rights} {q : ByService Request} → CauseTold c (Event.Setup n r q) Side.Calling Kind.CallProceeding None
  goes_on : {n : ℕ} {r : Rights} {q : ByService Request} → CauseTold c (Event.Setup n r q) Side.Called Kind.Setup None
  -- ALERTING and CONNECT: where a required service fails 69 to the caller and 31 to the called user, otherwise none
  fails : {e : Event} → RequiredFails c e → CauseTold c e Side.Calling Kind.Disconnect (Some 69)
  fails_too : {e : Event} → RequiredFails c e → CauseTold c e Side.Called Kind.Disconnect (Some 31)
  alerts :
      {a : ByService Given} → (RequiredFails c (Event.Alerting a) → ⊥) →
      CauseTold c (Event.Alerting a) Side.Calling Kind.Alerting None
  connects :
      {a : ByService Given} → (RequiredFails c (Event.Connect a) → ⊥) →
      CauseTold c (Event.Connect a) Side.Calling Kind.Connect None
  -- USER INFORMATION: none in what goes on, 43 in not ready
  informs : {from to : Side} {more : Bool} → to ≡ other from → CauseTold c (Event.Information from more) to Kind.UserInformation None
  not_ready : {from to : Side} {more : Bool} → to ≡ from → CauseTold c (Event.Information from more) to Kind.CongestionControl (Some 43)
  -- FACILITY: none, in what is passed on and in what goes back
  about_three : {from to : Side} {what : What} → CauseTold c (Event.Facility from what) to Kind.Facility None
  -- DISCONNECT: the user's own, whatever it is, also where it rejects a required service
  own :
      {from to : Side} {cause : ℕ} {a : ByService Given} → to ≡ other from →
      CauseTold c (Event.Disconnect from cause a) to Kind.Disconnect (Some cause)
  -- RELEASE COMPLETE: none
  bare : {from to : Side} → to ≡ other from → CauseTold c (Event.ReleaseComplete from) to Kind.ReleaseComplete None
  -- tick: 43 in ready
  ready_again : {to : Side} → CauseTold c Event.Tick to Kind.CongestionControl (Some 43)

-- a message is sent, of this kind and with this cause
pub data Bears (kind : Kind) (cause : Option ℕ) : Option Message → Type 0 where
  bears : {m : Message} → m.kind ≡ kind → m.cause ≡ cause → Bears kind cause (Some m)

-- CAUSES. For every record, event, element and side:
pub record Causes (f : Core) : Type 0 where
  -- the cause of a message that goes to that side is the one told, and nothing goes at an event that is barred
  pub each :
      (c : Call) (e : Event) (l : List ℕ) (side : Side) (m : Message) → sent_to (f c e l) side ≡ Some m →
      Hears c e × CauseTold c e side m.kind m.cause
  -- where a required service fails, at an event that is heard, both users are sent DISCONNECT
  pub both :
      (c : Call) (e : Event) (l : List ℕ) → Hears c e → RequiredFails c e →
      Bears Kind.Disconnect (Some 69) (sent_to (f c e l) Side.Calling)
      × Bears Kind.Disconnect (Some 31) (sent_to (f c e l) Side.Called)
  -- a user's own DISCONNECT that is heard goes on to the other, with its cause
  pub passed :
      (c : Call) (from : Side) (cause : ℕ) (a : ByService Given) (l : List ℕ) → Hears c (Event.Disconnect from cause a) →
      Bears Kind.Disconnect (Some cause) (sent_to (f c (Event.Disconnect from cause a) l) (other from))

-- ONE CAUSE. At one record and event, in one kind of message to one side, one cause only can be told.
abbrev pub OneCause : Type 0
OneCause =
    (c : Call) (e : Event) (side : Side) (kind : Kind) (x y : Option ℕ) → CauseTold c e side kind x → CauseTold c e side kind y → x ≡ y

-- the event is the other user's own DISCONNECT with this cause
pub data OwnWord (cause : ℕ) : Event → Side → Type 0 where
  says : {from to : Side} {a : ByService Given} → to ≡ other from → OwnWord cause (Event.Disconnect from cause a) to

-- TWENTY-NINE. The box has no 29 of its own: a message with cause 29 is a DISCONNECT that the other user's own
-- DISCONNECT with cause 29 brought.
abbrev pub TwentyNine : Core → Type 0
TwentyNine f =
    (c : Call) (e : Event) (l : List ℕ) (side : Side) (m : Message) → sent_to (f c e l) side ≡ Some m →
    m.cause ≡ Some 29 → (m.kind ≡ Kind.Disconnect) × OwnWord 29 e side
