-- What users are handed: "user information goes out unaltered and only under a service in force in that phase or, in
-- SETUP, still asked for".
use Rattle.std.specs.Prelude.{Option, Some, None, ℕ, ◌<◌, ◌≤◌, List, [], ◌⊎◌, Bool, false, cond, ◌≡◌, length}
use Rattle.services.specs.declared.ByService.{ByService}
use Rattle.services.specs.declared.Given.{Given}
use Rattle.rights.specs.declared.Rights.{Rights}
use Rattle.rights.specs.declared.Service.{Service}
use Rattle.services.specs.declared.Request.{Request}
use Rattle.user_element.specs.Element.{note_number_of}
use Rattle.message_types.specs.declared.Kind.{Kind}
use Rattle.sent.specs.declared.Message.{Message}
use Rattle.phases.specs.declared.Phase.{Phase}
use Rattle.sent.specs.declared.side.Side.{Side}
use Rattle.answer.specs.Answer.{number_of}
use Rattle.call.specs.declared.Call.{Call}
use Rattle.event.specs.declared.Event.{Event}
use Rattle.call.specs.declared.reply.Reply.{Reply}
use Rattle.call_promises.specs.Numbers.{WellFormed, InForce, Has, ServesTwo, ServesThree, meter_from, other, Core}
use Rattle.call_promises.specs.Notes.{Bare, limit_for}
use Rattle.call_promises.specs.Refusals.{sent_to}

-- the octets that a message hands over: the event's element if the message says that it goes out, and none otherwise
abbrev pub handed_in : Option Message → List ℕ → List ℕ
handed_in None l = []
handed_in (Some m) l = cond m.element l []

-- the octets that a user is handed at an event
abbrev pub handed_to : Core → Call → Event → List ℕ → Side → List ℕ
handed_to f c e l side = handed_in (sent_to (f c e l) side) l

-- An event's element goes out to one user only and in the event's own message. More data belongs to USER INFORMATION
-- only.
pub data Goes : Event → Side → Kind → Bool → Type 0 where
  setup : {reference : ℕ} {rights : Rights} {requests : ByService Request} → Goes (Event.Setup reference rights requests) Side.Called Kind.Setup false
  alerting : {answers : ByService Given} → Goes (Event.Alerting answers) Side.Calling Kind.Alerting false
  connect : {answers : ByService Given} → Goes (Event.Connect answers) Side.Calling Kind.Connect false
  information : {from : Side} {more : Bool} → Goes (Event.Information from more) (other from) Kind.UserInformation more
  disconnect : {from : Side} {cause : ℕ} {answers : ByService Given} → Goes (Event.Disconnect from cause answers) (other from) Kind.Disconnect false

pub record HandedWhole (f : Core) (c : Call) (e : Event) (l : List ℕ) (side : Side) : Type 0 where
  pub own : handed_to f c e l side ≡ l
  pub formed : WellFormed l
  pub limit : length l ≤ limit_for c e
  pub message : Message
  pub sent : sent_to (f c e l) side ≡ Some message
  pub goes : Goes e side message.kind message.more
  pub alone : handed_to f c e l (other side) ≡ []

-- UNALTERED. Whatever octets a user is handed at an event, they are the event's own element, whole.
abbrev pub Unaltered : Core → Type 0
Unaltered f = (c : Call) (e : Event) (l : List ℕ) (side : Side) → (handed_to f c e l side ≡ [] → ⊥) → HandedWhole f c e l side

-- the event is taken, and there is no note on its element
abbrev pub Unnoted : Reply → Type 0
Unnoted r = (number_of r.answer ≡ 0) × (note_number_of r.note ≡ 0)

pub record Out (f : Core) (c : Call) (e : Event) (l : List ℕ) : Type 0 where
  pub unnoted : (Bare e → ⊥) → (length l ≡ 0 → ⊥) → Unnoted (f c e l) → (to : Side) × HandedWhole f c e l to
  pub dropped : (Unnoted (f c e l) → ⊥) → (side : Side) → handed_to f c e l side ≡ []

-- GOES OUT. "A noted element is dropped and the rest acted on": an event's element goes out, whole and to the user that
-- `Goes` names, exactly if the event is taken and there is no note on the element. Otherwise nobody is handed anything.
abbrev pub GoesOut : Core → Type 0
GoesOut f = (c : Call) (e : Event) (l : List ℕ) → Out f c e l

-- SETUP asks for a service by a request, or for service 1 by its element: "An element without note 1 or 2 and with no
-- explicit request for service 1 is an implicit preferred request."
abbrev pub Explicit : Request → Type 0
Explicit q = (q ≡ Request.Preferred) ⊎ (q ≡ Request.Required)

pub record Implied (rights : Rights) (q : ByService Request) (l : List ℕ) : Type 0 where
  pub unasked : q.one ≡ Request.Unasked
  pub formed : WellFormed l
  pub limit : length l ≤ rights.limit

-- Under which service the element of each event goes out. c is the record before the event, d the one after it.
pub data Under (c : Call) (l : List ℕ) (d : Call) : Event → Type 0 where
  opening : {reference : ℕ} {rights : Rights} {requests : ByService Request} →
      d.phase ≡ Phase.Requested → Has rights Service.One → Explicit requests.one ⊎ Implied rights requests l →
      Under c l d (Event.Setup reference rights requests)
  alerted : {answers : ByService Given} → d.phase ≡ Phase.Alerting → InForce d.standings.one → Under c l d (Event.Alerting answers)
  connected : {answers : ByService Given} → d.phase ≡ Phase.Active → InForce d.standings.one → Under c l d (Event.Connect answers)
  counted : {side : Side} {more : Bool} →
      ServesTwo c side → (meter_from c side).count < 2 → Under c l d (Event.Information side more)
  credited : {side : Side} {more : Bool} →
      ServesThree c → 0 < (meter_from c side).credit → Under c l d (Event.Information side more)
  cleared : {side : Side} {cause : ℕ} {answers : ByService Given} →
      d.phase ≡ Phase.Clearing → InForce d.standings.one → Under c l d (Event.Disconnect side cause answers)

-- UNDER A SERVICE. A user is handed octets only where a service is in force for them in that phase or, in SETUP,
-- service 1 is asked for and the rights have it.
abbrev pub UnderAService : Core → Type 0
UnderAService f =
    (c : Call) (e : Event) (l : List ℕ) (side : Side) →
    (handed_to f c e l side ≡ [] → ⊥) → Under c l (f c e l).call e
