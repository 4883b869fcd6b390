-- A run of a call, the event that follows it and what it gives, as rows of a table; and what such rows are made of.
use Rattle.std.specs.Prelude.{Option, Some, None, ℕ, ◌-◌, List, [], ◌∷◌, Bool, false, ◌≡◌, replicate}
use Rattle.sent.specs.declared.Message.{Message}
use Rattle.services.specs.declared.ByService.{ByService}
use Rattle.rights.specs.declared.Rights.{Rights}
use Rattle.services.specs.declared.Given.{Given}
use Rattle.services.specs.declared.Request.{Request}
use Rattle.user_element.specs.Element.{note_number_of}
use Rattle.message_types.specs.declared.Kind.{Kind}
use Rattle.phases.specs.declared.Phase.{Phase}
use Rattle.sent.specs.declared.side.Side.{Side}
use Rattle.answer.specs.Answer.{number_of}
use Rattle.event.specs.declared.Event.{Event}
use Rattle.call.specs.declared.reply.Reply.{Reply}
use Rattle.call.specs.Sound.{fresh_call}
use Rattle.call.specs.Step.{step_of}
use Rattle.call_promises.specs.Sound.{Offered, run_of}

-- what is looked at of a message: its kind, its cause, and whether the event's element goes out in it
pub data Glimpse : Type 0 where
  nothing : Glimpse
  message : Kind → Option ℕ → Bool → Glimpse

abbrev pub glimpse_of : Option Message → Glimpse
glimpse_of None = nothing
glimpse_of (Some m) = message m.kind m.cause m.element

-- what an event gives: answer and note by their numbers, the phase, and a message to each user
pub record Outcome : Type 0 where
  pub answer : ℕ
  pub note : ℕ
  pub phase : Phase
  pub calling : Glimpse
  pub called : Glimpse

abbrev pub outcome_of : Reply → Outcome
outcome_of r =
    record {
      answer = number_of r.answer;
      note = note_number_of r.note;
      phase = r.call.phase;
      calling = glimpse_of r.dispatch.calling;
      called = glimpse_of r.dispatch.called;
    }

-- a run from a fresh record, the event that follows it, and what this event gives
pub record CallCase : Type 0 where
  pub before : List Offered
  pub event : Offered
  pub gives : Outcome

abbrev pub AllCases : List CallCase → Type 0
AllCases [] = Unit {0}
AllCases (k ∷ ks) =
    (outcome_of (step_of (run_of step_of fresh_call k.before) k.event.event k.event.element) ≡ k.gives) × AllCases ks

-- an element of n octets
abbrev pub element_of : ℕ → List ℕ
element_of n = 126 ∷ (n - 2) ∷ replicate (n - 2) 0

abbrev pub rights : ℕ → ℕ → Rights
rights services limit = record { services = services; late = false; leave = false; limit = limit; burst = 2; refill = 1 }

abbrev pub setup : ℕ → Request → Request → Request → ℕ → List ℕ → Offered
setup services one two three limit l =
    record {
      event = Event.Setup 5 (rights services limit) (record { one = one; two = two; three = three });
      element = l;
    }

abbrev pub silent : ByService Given
silent = record { one = Given.Silent; two = Given.Silent; three = Given.Silent }

abbrev pub says : Side → Offered
says side = record { event = Event.Information side false; element = element_of 4 }

-- ALERTING that accepts service 2, asked for as preferred
abbrev pub ringing : List Offered
ringing =
    setup 7 Request.Unasked Request.Preferred Request.Unasked 131 []
    ∷ record {
      event = Event.Alerting (record { one = Given.Silent; two = Given.Accepted; three = Given.Silent });
      element = [];
    }
    ∷ []
