-- Which service carries the event's element, exactly. A constructor for each sentence of the paper; what none of them
-- has carried, nobody carries. Nothing here names a function by which the step makes a message.
use Rattle.std.specs.Prelude.{Option, Some, ℕ, List, Bool, ◌≡◌}
use Rattle.services.specs.declared.ByService.{ByService}
use Rattle.services.specs.declared.Request.{Request}
use Rattle.services.specs.declared.Given.{Given}
use Rattle.rights.specs.declared.Rights.{Rights}
use Rattle.rights.specs.declared.Service.{Service}
use Rattle.sent.specs.declared.side.Side.{Side}
use Rattle.call.specs.declared.Call.{Call}
use Rattle.event.specs.declared.Event.{Event}
use Rattle.call_promises.specs.Numbers.{Core}
use Rattle.call_promises.specs.Sends.{Hears, Rides, CountPays, CreditPays}

-- The service that carries the element of an event that 25, 12, 11 and 24 do not keep from being looked at.
pub data Carries (c : Call) (l : List ℕ) : Event → Service → Type 0 where
  -- "SETUP goes on with the remaining requests and the element (if service 1 remains)"
  setup : {n : ℕ} {r : Rights} {q : ByService Request} → Rides c (Event.Setup n r q) l → Carries c l (Event.Setup n r q) Service.One
  -- "Otherwise the message goes on with these answers, and its element if service 1 is in force."
  alerting : {a : ByService Given} → Rides c (Event.Alerting a) l → Carries c l (Event.Alerting a) Service.One
  connect : {a : ByService Given} → Rides c (Event.Connect a) l → Carries c l (Event.Connect a) Service.One
  -- "Alerting: service 2, two messages each way"; in Active the calling side's "remaining count first"
  counts : {side : Side} {more : Bool} → CountPays c l side → Carries c l (Event.Information side more) Service.Two
  -- "then service 3 .. a message spends one"
  pays : {side : Side} {more : Bool} → CreditPays c l side → Carries c l (Event.Information side more) Service.Three
  -- "Passed on with cause and, if service 1 is in force, the element"
  disconnect :
      {side : Side} {cause : ℕ} {a : ByService Given} → Rides c (Event.Disconnect side cause a) l →
      Carries c l (Event.Disconnect side cause a) Service.One

-- P holds of a service exactly if it is the carrier: of none where that is nobody
abbrev pub IsTheCarrier : (Service → Type 0) → Option Service → Type 0
IsTheCarrier P x = (k : Service) → (x ≡ Some k → P k) × (P k → x ≡ Some k)

-- CARRIERS. For every record, event and element: the service that carries the element, and whether any does.
abbrev pub CarriersExactly : Core → Type 0
CarriersExactly f =
    (c : Call) (e : Event) (l : List ℕ) → IsTheCarrier (λ k. Hears c e × Carries c l e k) (f c e l).dispatch.carrier
