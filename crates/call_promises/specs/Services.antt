-- Services over a run: "only under a service in force", which was granted; "a required service that fails never leaves
-- the call connected".
use Rattle.services.specs.declared.ByService.{ByService}
use Rattle.std.specs.Prelude.{ℕ, List, [], ◌∷◌, ◌++◌, ◌≡◌}
use Rattle.rights.specs.declared.Rights.{Rights}
use Rattle.rights.specs.declared.Service.{Service}
use Rattle.services.specs.declared.Given.{Given}
use Rattle.services.specs.declared.Request.{Request}
use Rattle.services.specs.declared.Standing.{Standing}
use Rattle.facility_rules.specs.declared.What.{What}
use Rattle.phases.specs.declared.Phase.{Phase}
use Rattle.sent.specs.declared.side.Side.{Side}
use Rattle.answer.specs.Answer.{number_of}
use Rattle.call.specs.declared.Call.{Call}
use Rattle.event.specs.declared.Event.{Event}
use Rattle.call.specs.Sound.{fresh_call}
use Rattle.call_promises.specs.Numbers.{InForce, Has, Core}
use Rattle.call_promises.specs.Notes.{LacksRequired, AlertingFails, ConnectFails}
use Rattle.call_promises.specs.Sound.{Offered, run_of}
use Rattle.call_promises.specs.Handling.{Explicit, Implied}

abbrev pub request_for : ByService Request → Service → Request
request_for q Service.One = q.one
request_for q Service.Two = q.two
request_for q Service.Three = q.three

abbrev pub answer_for : ByService Given → Service → Given
answer_for a Service.One = a.one
answer_for a Service.Two = a.two
answer_for a Service.Three = a.three

abbrev pub standing_for : ByService Standing → Service → Standing
standing_for s Service.One = s.one
standing_for s Service.Two = s.two
standing_for s Service.Three = s.three

-- P holds of an event of a run and of the events before it
pub record Happens (P : List Offered → Offered → Type 0) (os : List Offered) : Type 0 where
  pub before : List Offered
  pub event : Offered
  pub after : List Offered
  pub split : os ≡ before ++ (event ∷ after)
  pub holds : P before event

-- the event is answered 0
abbrev pub Taken : Core → Call → Event → List ℕ → Type 0
Taken f c e l = number_of (f c e l).answer ≡ 0

-- in a run from a fresh record the event is taken, and P holds of it
abbrev pub Takes : Core → (Event → List ℕ → Type 0) → List Offered → Offered → Type 0
Takes f P before o = Taken f (run_of f fresh_call before) o.event o.element × P o.event o.element

-- SETUP asks for a service as required
pub data Requires (k : Service) : Event → List ℕ → Type 0 where
  asked : {reference : ℕ} {rights : Rights} {q : ByService Request} {l : List ℕ} → request_for q k ≡ Request.Required → Requires k (Event.Setup reference rights q) l

-- REQUIRED. After every run from a fresh record: if the call is Active, every service is in force that its SETUP asked
-- for as required.
abbrev pub Required : Core → Type 0
Required f =
    (os : List Offered) (k : Service) →
    Happens (Takes f (Requires k)) os → (run_of f fresh_call os).phase ≡ Phase.Active → InForce (standing_for (run_of f fresh_call os).standings k)

-- An event at which a required service fails: SETUP that asks for one the rights lack, ALERTING or CONNECT that does
-- not accept one that is due.
pub data Failing (c : Call) : Event → Phase → Type 0 where
  setup : {reference : ℕ} {rights : Rights} {q : ByService Request} → LacksRequired rights q → Failing c (Event.Setup reference rights q) Phase.Ended
  alerting : {a : ByService Given} → AlertingFails c.standings a → Failing c (Event.Alerting a) Phase.Clearing
  connect : {a : ByService Given} → ConnectFails c.phase c.standings a → Failing c (Event.Connect a) Phase.Clearing

-- FAILED. Where such an event is taken, the call is Ended or Clearing at once.
abbrev pub Failed : Core → Type 0
Failed f =
    (c : Call) (e : Event) (l : List ℕ) (p : Phase) → Taken f c e l → Failing c e p → (f c e l).call.phase ≡ p

-- an event asks for a service, and may: SETUP by a request or, for service 1, by its element; FACILITY for service 3
pub data AsksFor : Service → Event → List ℕ → Type 0 where
  request : {k : Service} {reference : ℕ} {rights : Rights} {q : ByService Request} {l : List ℕ} → Has rights k → Explicit (request_for q k) → AsksFor k (Event.Setup reference rights q) l
  element : {reference : ℕ} {rights : Rights} {q : ByService Request} {l : List ℕ} → Has rights Service.One → Implied rights q l → AsksFor Service.One (Event.Setup reference rights q) l
  facility : {side : Side} {l : List ℕ} → AsksFor Service.Three (Event.Facility side What.Preferred) l

-- an event accepts a service, of those that can be due at its kind: "ALERTING .. Answers to 1 and 2 are due. CONNECT ..
-- The answer to 3 is due, and to 1 if no ALERTING came" (whether one came, `Becomes` looks at); DISCONNECT from the
-- called side for service 1; FACILITY for service 3; an element in SETUP puts service 1 in force by itself
pub data Accepts : Service → Event → List ℕ → Type 0 where
  alerting : {k : Service} {a : ByService Given} {l : List ℕ} → (k ≡ Service.Three → ⊥) → answer_for a k ≡ Given.Accepted → Accepts k (Event.Alerting a) l
  connect : {k : Service} {a : ByService Given} {l : List ℕ} → (k ≡ Service.Two → ⊥) → answer_for a k ≡ Given.Accepted → Accepts k (Event.Connect a) l
  disconnect : {cause : ℕ} {a : ByService Given} {l : List ℕ} → a.one ≡ Given.Accepted → Accepts Service.One (Event.Disconnect Side.Called cause a) l
  facility : {side : Side} {l : List ℕ} → Accepts Service.Three (Event.Facility side What.Accept) l
  element : {reference : ℕ} {rights : Rights} {q : ByService Request} {l : List ℕ} → Implied rights q l → Accepts Service.One (Event.Setup reference rights q) l

-- the rights have the service; an event of the run accepted it, and by then one had asked for it
pub record Grant (f : Core) (os : List Offered) (k : Service) : Type 0 where
  pub had : Has (run_of f fresh_call os).rights k
  pub accepted : Happens (λ before o. Takes f (Accepts k) before o × Happens (Takes f (AsksFor k)) (before ++ (o ∷ []))) os

-- GRANTED. After every run from a fresh record a service is in force only if it was granted in that run.
abbrev pub Granted : Core → Type 0
Granted f = (os : List Offered) (k : Service) → InForce (standing_for (run_of f fresh_call os).standings k) → Grant f os k
