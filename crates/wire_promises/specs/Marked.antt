-- The paper's edges that are marked P, those on reading and those on calls, as one table.
use Rattle.std.specs.Prelude.{Some, None, ℕ, List, [], ◌∷◌, ◌++◌, Bool, true, false, ◌≡◌, replicate}
use Rattle.services.specs.declared.Request.{Request}
use Rattle.message_types.specs.declared.Kind.{Kind}
use Rattle.phases.specs.declared.Phase.{Phase}
use Rattle.sent.specs.declared.side.Side.{Side}
use Rattle.event.specs.declared.Event.{Event}
use Rattle.message_fields.specs.Numbers.{read_number}
use Rattle.message.specs.Reading.{read_of}
use Rattle.call.specs.Sound.{fresh_call}
use Rattle.call.specs.Step.{step_of}
use Rattle.call_promises.specs.Sound.{Offered, run_of}
use Rattle.call_cases.specs.Cases.{nothing, message, Outcome, outcome_of, element_of, setup, silent, says, ringing}

-- octets, with the number that reading them gives; or a run from a fresh record, the event that follows it, and what it
-- gives
pub data Case : Type 0 where
  octets : List ℕ → ℕ → Case
  event : List Offered → Offered → Outcome → Case

abbrev pub Holds : Case → Type 0
Holds (octets m n) = read_number (read_of m) ≡ n
Holds (event before o gives) = outcome_of (step_of (run_of step_of fresh_call before) o.event o.element) ≡ gives

abbrev pub AllHold : List Case → Type 0
AllHold [] = Unit {0}
AllHold (k ∷ ks) = Holds k × AllHold ks

-- a SETUP with so many single octets after its header
abbrev pub setup_with : ℕ → List ℕ
setup_with n = 8 ∷ 1 ∷ 0 ∷ 5 ∷ replicate n 0x80

-- a SETUP with an element of n octets
abbrev pub element_case : ℕ → ℕ → ℕ → Bool → Case
element_case limit n note carried =
    event [] (setup 7 Request.Unasked Request.Unasked Request.Unasked limit (element_of n))
    (record {
      answer = 0;
      note = note;
      phase = Phase.Requested;
      calling = message Kind.CallProceeding None false;
      called = message Kind.Setup None carried;
    })

-- "P empty message: 1. P 260 octets may read, 261: 2.
-- P element of 2 octets: note 1; of 3: carried; at the limit: carried; one more: note 2.
-- P third service 2 message one way: 14. P service 3 required, CONNECT silent: 69 and 31.
-- P service 2 required, not in rights: cause 50, Ended."
abbrev pub cases : List Case
cases =
    octets [] 1
    ∷ octets (setup_with 256) 0
    ∷ octets (setup_with 257) 2
    ∷ element_case 131 2 1 false
    ∷ element_case 131 3 0 true
    ∷ element_case 131 131 0 true
    ∷ element_case 131 132 2 false
    ∷ element_case 3 3 0 true
    ∷ element_case 3 4 2 false
    ∷ event (ringing ++ (says Side.Calling ∷ says Side.Called ∷ says Side.Calling ∷ [])) (says Side.Calling)
    (record { answer = 14; note = 0; phase = Phase.Alerting; calling = nothing; called = nothing })
    ∷ event (setup 7 Request.Unasked Request.Unasked Request.Required 131 [] ∷ []) (record { event = Event.Connect silent; element = [] })
    (record {
      answer = 0;
      note = 0;
      phase = Phase.Clearing;
      calling = message Kind.Disconnect (Some 69) false;
      called = message Kind.Disconnect (Some 31) false;
    })
    ∷ event [] (setup 5 Request.Unasked Request.Required Request.Unasked 131 [])
    (record {
      answer = 0;
      note = 0;
      phase = Phase.Ended;
      calling = message Kind.ReleaseComplete (Some 50) false;
      called = nothing;
    })
    ∷ []

-- MARKED. "Cases marked P are shown of the definitions as a single table under one statement."
abbrev pub Marked : Type 0
Marked = AllHold cases
