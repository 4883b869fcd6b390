-- Every number and every note is met, so that no condition of the tables is void and no promise holds for want of
-- cases.
use Rattle.std.specs.Prelude.{Some, None, ℕ, List, [], ◌∷◌, ◌++◌, true, false, ◌≡◌}
use Rattle.services.specs.declared.ByService.{ByService}
use Rattle.rights.specs.declared.Service.{Service}
use Rattle.services.specs.declared.Given.{Given}
use Rattle.services.specs.declared.Request.{Request}
use Rattle.services.specs.declared.Standing.{Standing}
use Rattle.facility_rules.specs.declared.What.{What}
use Rattle.message_types.specs.declared.Kind.{Kind}
use Rattle.phases.specs.declared.Phase.{Phase}
use Rattle.sent.specs.declared.side.Side.{Side}
use Rattle.answer.specs.Answer.{number_of}
use Rattle.call.specs.declared.Call.{Call}
use Rattle.event.specs.declared.Event.{Event}
use Rattle.call.specs.Sound.{fresh_call}
use Rattle.call.specs.Step.{step_of}
use Rattle.call_promises.specs.Ranges.{Live}
use Rattle.call_promises.specs.Sound.{Offered, run_of}
use Rattle.call_promises.specs.Credit.{Account, purse_of, books, unopened}
use Rattle.call_cases.specs.Cases.{nothing, message, Outcome, CallCase, AllCases, element_of, rights, setup, silent, says}

-- an event without an element
abbrev pub bare : Event → Offered
bare e = record { event = e; element = [] }

-- a call in Active, with service 3 in force and two credits each way, and one with no service
abbrev pub served : List Offered
served =
    setup 7 Request.Unasked Request.Unasked Request.Preferred 131 []
    ∷ bare (Event.Connect (record { one = Given.Silent; two = Given.Silent; three = Given.Accepted }))
    ∷ []

abbrev pub unserved : List Offered
unserved = setup 7 Request.Unasked Request.Unasked Request.Unasked 131 [] ∷ bare (Event.Connect silent) ∷ []

-- a number, a note and a phase, with nothing sent
abbrev pub quietly : ℕ → ℕ → Phase → Outcome
quietly n note p = record { answer = n; note = note; phase = p; calling = nothing; called = nothing }

abbrev pub instances : List CallCase
instances =
    record { before = served; event = bare Event.Tick; gives = quietly 0 0 Phase.Active }
    ∷ record { before = []; event = bare (Event.Alerting silent); gives = quietly 11 0 Phase.Fresh }
    ∷ record { before = served; event = bare Event.CallProceeding; gives = quietly 12 0 Phase.Active }
    ∷ record { before = unserved; event = says Side.Called; gives = quietly 13 0 Phase.Active }
    ∷ record {
      before = served ++ (says Side.Called ∷ says Side.Called ∷ []);
      event = says Side.Called;
      gives =
          record {
            answer = 14;
            note = 0;
            phase = Phase.Active;
            calling = nothing;
            called = message Kind.CongestionControl (Some 43) false;
          };
    }
    ∷ record {
      before = served ++ (says Side.Called ∷ says Side.Called ∷ says Side.Called ∷ []);
      event = says Side.Called;
      gives = quietly 14 0 Phase.Active;
    }
    ∷ record {
      before = unserved ++ (bare (Event.Facility Side.Calling What.Preferred) ∷ []);
      event = bare (Event.Facility Side.Calling What.Preferred);
      gives = quietly 15 0 Phase.Active;
    }
    ∷ record {
      before = unserved;
      event = bare (Event.Facility Side.Called What.Preferred);
      gives =
          record {
            answer = 16;
            note = 0;
            phase = Phase.Active;
            calling = nothing;
            called = message Kind.Facility None false;
          };
    }
    ∷ record { before = served; event = bare (Event.Information Side.Calling true); gives = quietly 17 0 Phase.Active }
    ∷ record {
      before = served;
      event = record { event = Event.Information Side.Calling true; element = element_of 2 };
      gives = quietly 17 1 Phase.Active;
    }
    ∷ record {
      before = served;
      event = record { event = Event.Information Side.Calling true; element = element_of 132 };
      gives = quietly 17 2 Phase.Active;
    }
    ∷ record { before = served; event = bare (Event.Facility Side.Called What.Required); gives = quietly 18 0 Phase.Active }
    ∷ record {
      before = served;
      event = bare (Event.Disconnect Side.Calling 128 silent);
      gives = quietly 24 0 Phase.Active;
    }
    ∷ record {
      before = served;
      event = record { event = Event.Disconnect Side.Calling 16 silent; element = element_of 4 };
      gives =
          record {
            answer = 0;
            note = 3;
            phase = Phase.Clearing;
            calling = nothing;
            called = message Kind.Disconnect (Some 16) false;
          };
    }
    ∷ []

-- INSTANCES. Runs that are answered each number but 25, and have each note.
abbrev pub Instances : Type 0
Instances = AllCases instances

-- a run that ends live, as the promise of sound records asks
abbrev pub Reached : Type 0
Reached = Live (run_of step_of fresh_call served).phase

-- a record that no run leads to: one credit more than X
abbrev pub broken : Call
broken =
    record {
      reference = 5;
      rights = rights 7 131;
      phase = Phase.Active;
      standings = record { one = Standing.Closed; two = Standing.Closed; three = Standing.InForce };
      asking = record { calling = false; called = false };
      meters =
          record {
            calling = record { credit = 3; mark = false; count = 0 };
            called = record { credit = 2; mark = false; count = 0 };
          };
    }

abbrev pub Broken : Type 0
Broken = number_of (step_of broken Event.Tick []).answer ≡ 25

-- the paper's example: "SETUP of reference 5, rights 7 0 0 131 2 1, service 3 preferred; ALERTING; CONNECT accepting 3;
-- four calling USER INFORMATION of 4 octets; tick; another; calling DISCONNECT cause 16; called RELEASE COMPLETE"
abbrev pub example : List Offered
example =
    setup 7 Request.Unasked Request.Unasked Request.Preferred 131 []
    ∷ bare (Event.Alerting silent)
    ∷ bare (Event.Connect (record { one = Given.Silent; two = Given.Silent; three = Given.Accepted }))
    ∷ says Side.Calling
    ∷ says Side.Calling
    ∷ says Side.Calling
    ∷ says Side.Calling
    ∷ bare Event.Tick
    ∷ says Side.Calling
    ∷ bare (Event.Disconnect Side.Calling 16 silent)
    ∷ bare (Event.ReleaseComplete Side.Called)
    ∷ []

-- a direction's credit in the account, after each event
abbrev pub credits_of : Side → Account → List Offered → List ℕ
credits_of side a [] = []
credits_of side a (o ∷ os) =
    (purse_of (books a o.event o.element) side).credit ∷ credits_of side (books a o.event o.element) os

-- EXAMPLE. The account at work: two messages are paid, two are not, and the tick pays for one more.
abbrev pub Example : Type 0
Example =
    (credits_of Side.Calling unopened example ≡ 0 ∷ 0 ∷ 2 ∷ 1 ∷ 0 ∷ 0 ∷ 0 ∷ 1 ∷ 0 ∷ 0 ∷ 0 ∷ [])
    × (credits_of Side.Called unopened example ≡ 0 ∷ 0 ∷ 2 ∷ 2 ∷ 2 ∷ 2 ∷ 2 ∷ 2 ∷ 2 ∷ 2 ∷ 2 ∷ [])

-- a SETUP that asks for one service, as required; and answers that speak of one service
abbrev pub requiring : Service → List Offered
requiring Service.One = setup 7 Request.Required Request.Unasked Request.Unasked 131 [] ∷ []
requiring Service.Two = setup 7 Request.Unasked Request.Required Request.Unasked 131 [] ∷ []
requiring Service.Three = setup 7 Request.Unasked Request.Unasked Request.Required 131 [] ∷ []

abbrev pub answering : Service → Given → ByService Given
answering Service.One g = record { one = g; two = Given.Silent; three = Given.Silent }
answering Service.Two g = record { one = Given.Silent; two = g; three = Given.Silent }
answering Service.Three g = record { one = Given.Silent; two = Given.Silent; three = g }

-- the box clears the call: the caller hears this cause, and the called user 31
abbrev pub clearing : ℕ → List Offered → Event → CallCase
clearing cause before e =
    record {
      before = before;
      event = bare e;
      gives =
          record {
            answer = 0;
            note = 0;
            phase = Phase.Clearing;
            calling = message Kind.Disconnect (Some cause) false;
            called = message Kind.Disconnect (Some 31) false;
          };
    }

-- service 3 is due at CONNECT, also after an ALERTING
abbrev pub rung : List Offered
rung = requiring Service.Three ++ (bare (Event.Alerting silent) ∷ [])

-- CLEARED. A required service that fails: each service, at each message at which an answer to it is due, rejected and
-- not answered; service 2 in CONNECT without ALERTING, whatever is said of it. Service 3, not answered in a CONNECT
-- without ALERTING, is one of the paper's cases and stands in `Marked`.
abbrev pub Cleared : Type 0
Cleared =
    AllCases
    (clearing 69 (requiring Service.One) (Event.Alerting (answering Service.One Given.Rejected))
    ∷ clearing 69 (requiring Service.One) (Event.Alerting silent)
    ∷ clearing 69 (requiring Service.One) (Event.Connect (answering Service.One Given.Rejected))
    ∷ clearing 69 (requiring Service.One) (Event.Connect silent)
    ∷ clearing 69 (requiring Service.Two) (Event.Alerting (answering Service.Two Given.Rejected))
    ∷ clearing 69 (requiring Service.Two) (Event.Alerting silent)
    ∷ clearing 69 (requiring Service.Two) (Event.Connect (answering Service.Two Given.Rejected))
    ∷ clearing 69 (requiring Service.Two) (Event.Connect (answering Service.Two Given.Accepted))
    ∷ clearing 69 (requiring Service.Two) (Event.Connect silent)
    ∷ clearing 69 (requiring Service.Three) (Event.Connect (answering Service.Three Given.Rejected))
    ∷ clearing 69 rung (Event.Connect (answering Service.Three Given.Rejected))
    ∷ clearing 69 rung (Event.Connect silent)
    ∷ [])

-- the called user rejects a required service in a DISCONNECT of its own: the cause that it gives, and the caller's
abbrev pub declining : ℕ → ℕ → CallCase
declining own heard =
    record {
      before = requiring Service.Three;
      event = bare (Event.Disconnect Side.Called own (answering Service.Three Given.Rejected));
      gives =
          record {
            answer = 0;
            note = 0;
            phase = Phase.Clearing;
            calling = message Kind.Disconnect (Some heard) false;
            called = nothing;
          };
    }

-- the calling user clears, with a cause of its own
abbrev pub leaving : ℕ → ℕ → CallCase
leaving own heard =
    record {
      before = requiring Service.Three;
      event = bare (Event.Disconnect Side.Calling own silent);
      gives =
          record {
            answer = 0;
            note = 0;
            phase = Phase.Clearing;
            calling = nothing;
            called = message Kind.Disconnect (Some heard) false;
          };
    }

-- MET. A user's own cause goes on as it is: 29, which `TwentyNine` speaks of, and any other.
abbrev pub TwentyNineMet : Type 0
TwentyNineMet = AllCases (declining 29 29 ∷ declining 69 69 ∷ declining 16 16 ∷ leaving 29 29 ∷ [])
