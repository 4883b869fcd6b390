-- Runs that meet the premises of the promises on handling: elements that go out, services in force, and required ones
-- that hold or fail.
use Rattle.services.specs.declared.ByService.{ByService}
use Rattle.std.specs.Prelude.{List, [], ◌∷◌, ◌++◌, true, false, ◌≡◌}
use Rattle.rights.specs.declared.Service.{Service}
use Rattle.services.specs.declared.Given.{Given}
use Rattle.services.specs.declared.Request.{Request}
use Rattle.facility_rules.specs.declared.What.{What}
use Rattle.phases.specs.declared.Phase.{Phase}
use Rattle.sent.specs.declared.side.Side.{Side}
use Rattle.event.specs.declared.Event.{Event}
use Rattle.call.specs.Sound.{fresh_call}
use Rattle.call_promises.specs.Numbers.{InForce}
use Rattle.call_promises.specs.Sound.{Offered, run_of}
use Rattle.call_cases.specs.Cases.{element_of, setup, silent, says}
use Rattle.call_cases.specs.Instances.{bare, served, unserved}
use Rattle.call_promises.specs.Handling.{handed_to}
use Rattle.call_promises.specs.Services.{standing_for, Happens, Takes, Taken, Requires, Failing}
use Rattle.call.specs.Step.{step_of}

abbrev pub gives : Given → Given → Given → ByService Given
gives one two three = record { one = one; two = two; three = three }

-- an event with an element of 4 octets
abbrev pub with : Event → Offered
with e = record { event = e; element = element_of 4 }

-- all three services asked for as required; the called user has accepted 1 and 2 in ALERTING, and 3 in CONNECT
abbrev pub opening : Offered
opening = setup 7 Request.Required Request.Required Request.Required 131 (element_of 5)

abbrev pub asking : List Offered
asking = opening ∷ []

abbrev pub alerted : List Offered
alerted = asking ++ (bare (Event.Alerting (gives Given.Accepted Given.Accepted Given.Silent)) ∷ [])

abbrev pub connected : List Offered
connected = alerted ++ (bare (Event.Connect (gives Given.Silent Given.Silent Given.Accepted)) ∷ [])

-- service 2 in force in Active, with late delivery
abbrev pub late : List Offered
late =
    bare
    (Event.Setup 5 (record { services = 2; late = true; leave = false; limit = 131; burst = 2; refill = 1 })
    (record { one = Request.Unasked; two = Request.Required; three = Request.Unasked }))
    ∷ bare (Event.Alerting (gives Given.Silent Given.Accepted Given.Silent))
    ∷ bare (Event.Connect silent)
    ∷ []

-- service 1 implied
abbrev pub implying : List Offered
implying = setup 7 Request.Unasked Request.Unasked Request.Unasked 131 (element_of 5) ∷ []

-- after a run, an event whose element a user is handed
pub record Hand : Type 0 where
  pub before : List Offered
  pub event : Offered
  pub to : Side

abbrev pub AllHanded : List Hand → Type 0
AllHanded [] = Unit {0}
AllHanded (h ∷ hs) =
    (handed_to step_of (run_of step_of fresh_call h.before) h.event.event h.event.element h.to ≡ h.event.element) × AllHanded hs

abbrev pub hands : List Hand
hands =
    record { before = []; event = opening; to = Side.Called }
    ∷ record { before = []; event = setup 7 Request.Unasked Request.Unasked Request.Unasked 131 (element_of 5); to = Side.Called }
    ∷ record { before = asking; event = with (Event.Alerting (gives Given.Accepted Given.Accepted Given.Silent)); to = Side.Calling }
    ∷ record { before = implying; event = with (Event.Connect silent); to = Side.Calling }
    ∷ record { before = alerted; event = says Side.Calling; to = Side.Called }
    ∷ record { before = alerted; event = says Side.Called; to = Side.Calling }
    ∷ record { before = late; event = says Side.Calling; to = Side.Called }
    ∷ record { before = served; event = says Side.Called; to = Side.Calling }
    ∷ record { before = asking; event = with (Event.Disconnect Side.Called 16 (gives Given.Accepted Given.Silent Given.Silent)); to = Side.Calling }
    ∷ record { before = connected; event = with (Event.Disconnect Side.Calling 16 silent); to = Side.Called }
    ∷ []

-- HANDED. Elements go out in each message and under each service.
abbrev pub ElementsHanded : Type 0
ElementsHanded = AllHanded hands

-- service 3 in force by FACILITY
abbrev pub agreed : List Offered
agreed =
    unserved
    ++ (bare (Event.Facility Side.Calling What.Preferred) ∷ bare (Event.Facility Side.Called What.Accept) ∷ [])

-- HELD. A call is Active with every service in force that was required; a required service fails, and the call is
-- Clearing.
pub record ServicesHeld : Type 0 where
  pub asked : (k : Service) → Happens (Takes step_of (Requires k)) connected
  pub active : (run_of step_of fresh_call connected).phase ≡ Phase.Active
  pub in_force : (k : Service) → InForce (standing_for (run_of step_of fresh_call connected).standings k)
  pub by_facility : InForce (run_of step_of fresh_call agreed).standings.three
  pub taken : Taken step_of (run_of step_of fresh_call asking) (Event.Alerting silent) []
  pub failing : Failing (run_of step_of fresh_call asking) (Event.Alerting silent) Phase.Clearing
  pub clearing : (run_of step_of fresh_call (asking ++ (bare (Event.Alerting silent) ∷ []))).phase ≡ Phase.Clearing
