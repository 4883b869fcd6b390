-- What is written for messages of real calls, octet by octet, and the element that is read from there.
use Rattle.std.specs.Prelude.{Option, Some, None, Result, Ok, Err, ℕ, ◌+◌, List, [], ◌∷◌, ◌++◌, true, false, ◌≡◌, take, replicate}
use Rattle.memory.specs.declared.Bar.{Bar}
use Rattle.sent.specs.declared.Message.{Message}
use Rattle.message_fields.specs.declared.Width.{Width}
use Rattle.message.specs.Parts.{user_user_of}
use Rattle.services.specs.declared.Given.{Given}
use Rattle.services.specs.declared.Request.{Request}
use Rattle.sent.specs.declared.side.Side.{Side}
use Rattle.event.specs.declared.Event.{Event}
use Rattle.call.specs.Sound.{fresh_call}
use Rattle.call.specs.Step.{step_of}
use Rattle.call_promises.specs.Sound.{Offered, run_of}
use Rattle.call_cases.specs.Cases.{element_of, setup, silent, says}
use Rattle.call_cases.specs.Instances.{bare, served}
use Rattle.call_promises.specs.Refusals.{sent_to}
use Rattle.wire_promises.specs.Sending.{Host, answer_to, left_in}

-- a run from a fresh record, the event that follows it, a side, and what is written for the message to that side:
-- octets, then its element
pub record Sample : Type 0 where
  pub before : List Offered
  pub event : Offered
  pub side : Side
  pub front : List ℕ
  pub element : List ℕ

abbrev pub host : Host
host = record { width = Width.One; flag = false; reference = 5; one = 11; two = 12; three = 13 }

abbrev pub buffer : List ℕ
buffer = replicate 100 0xFF

abbrev pub written_in : Result ℕ Bar → List ℕ → List ℕ
written_in (Ok n) b = take n b
written_in (Err bar) b = []

abbrev pub line_of : Option Message → List ℕ → List ℕ
line_of None l = []
line_of (Some m) l = written_in (answer_to host m l buffer) (left_in host m l buffer)

abbrev pub AllSent : List Sample → Type 0
AllSent [] = Unit {0}
AllSent (s ∷ ss) =
    (line_of (sent_to (step_of (run_of step_of fresh_call s.before) s.event.event s.event.element) s.side) s.event.element
    ≡ s.front ++ s.element)
    × (user_user_of (s.front ++ s.element) ≡ s.element)
    × AllSent ss

-- the octets of the header, of a cause, and of a service asked for, accepted and rejected
abbrev pub header : ℕ → List ℕ
header kind = 8 ∷ 1 ∷ 5 ∷ kind ∷ []

abbrev pub cause : ℕ → List ℕ
cause v = 8 ∷ 2 ∷ 0x82 ∷ (0x80 + v) ∷ []

abbrev pub asks : ℕ → ℕ → ℕ → List ℕ
asks id service preferred =
    0x1C ∷ 17 ∷ 0x91 ∷ 0xA1 ∷ 14 ∷ 2 ∷ 1 ∷ id ∷ 2 ∷ 1 ∷ 1 ∷ 0x30 ∷ 6 ∷ 0x81 ∷ 1 ∷ service ∷ 0x82 ∷ 1 ∷ preferred ∷ []

abbrev pub accepts : ℕ → List ℕ
accepts id = 0x1C ∷ 6 ∷ 0x91 ∷ 0xA2 ∷ 3 ∷ 2 ∷ 1 ∷ id ∷ []

abbrev pub rejects : ℕ → ℕ → List ℕ
rejects id error = 0x1C ∷ 9 ∷ 0x91 ∷ 0xA3 ∷ 6 ∷ 2 ∷ 1 ∷ id ∷ 2 ∷ 1 ∷ error ∷ []

abbrev pub all_three : Offered
all_three = setup 7 Request.Required Request.Preferred Request.Required 131 (element_of 5)

abbrev pub spent : List Offered
spent = served ++ (says Side.Called ∷ says Side.Called ∷ [])

-- SETUP with all three services; CONNECT that answers them; CALL PROCEEDING with a refusal; not ready, and ready; More
-- data; a cause
abbrev pub samples : List Sample
samples =
    record {
      before = [];
      event = all_three;
      side = Side.Called;
      front = header 0x05 ++ asks 11 1 0 ++ asks 12 2 0xFF ++ asks 13 3 0;
      element = element_of 5;
    }
    ∷ record {
      before = all_three ∷ [];
      event =
          record {
            event = Event.Connect (record { one = Given.Accepted; two = Given.Silent; three = Given.Accepted });
            element = element_of 4;
          };
      side = Side.Calling;
      front = header 0x07 ++ accepts 11 ++ rejects 12 2 ++ accepts 13;
      element = element_of 4;
    }
    ∷ record {
      before = [];
      event = setup 3 Request.Unasked Request.Unasked Request.Preferred 131 [];
      side = Side.Calling;
      front = header 0x02 ++ rejects 13 1;
      element = [];
    }
    ∷ record { before = spent; event = says Side.Called; side = Side.Called; front = header 0x79 ++ (0xBF ∷ cause 43); element = [] }
    ∷ record {
      before = spent ++ (says Side.Called ∷ []);
      event = bare Event.Tick;
      side = Side.Called;
      front = header 0x79 ++ (0xB0 ∷ cause 43);
      element = [];
    }
    ∷ record {
      before = served;
      event = record { event = Event.Information Side.Calling true; element = element_of 4 };
      side = Side.Called;
      front = header 0x20 ++ (0xA0 ∷ []);
      element = element_of 4;
    }
    ∷ record {
      before = served;
      event = bare (Event.Disconnect Side.Calling 16 silent);
      side = Side.Called;
      front = header 0x45 ++ cause 16;
      element = [];
    }
    ∷ []

-- SAMPLES. Each message is written so, and its element is read from there.
abbrev pub Samples : Type 0
Samples = AllSent samples
