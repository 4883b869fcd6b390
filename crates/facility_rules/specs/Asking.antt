-- Service 3 asked for while connected.
use Rattle.sent.specs.declared.side.BySide.{BySide}
use Rattle.flow_meter.specs.declared.Meter.{Meter}
use Rattle.std.specs.Prelude.{Bool, true, false, cond, ◌&&◌, ◌||◌, not, ℕ}
use Rattle.rights.specs.declared.Rights.{Rights}
use Rattle.rights.specs.declared.Service.{Service}
use Rattle.services.specs.declared.Standing.{Standing}
use Rattle.answer.specs.declared.Answer.{Answer}
use Rattle.facility_rules.specs.declared.What.{What}
use Rattle.sent.specs.declared.side.Side.{Side}
use Rattle.rights.specs.Rights.{has_of}
use Rattle.sent.specs.Side.{peer_of}
use Rattle.flow_meter.specs.CallMeters.{grants_of}

unfoldable pub nobody_asks : BySide Bool
nobody_asks = record { calling = false; called = false }

-- "Each side has its own open request."
abbrev pub asks_of : BySide Bool → Side → Bool
asks_of a Side.Calling = a.calling
asks_of a Side.Called = a.called

abbrev pub with_ask_of : BySide Bool → Side → Bool → BySide Bool
with_ask_of a Side.Calling b = record { calling = b; called = a.called }
with_ask_of a Side.Called b = record { calling = a.calling; called = b }

-- Number 16: "not in the rights, or by the called side without leave".
abbrev pub may_ask_of : Rights → Side → Bool
may_ask_of r Side.Calling = has_of r Service.Three
may_ask_of r Side.Called = has_of r Service.Three && r.leave

-- a preferred request: 16, then 15
unfoldable pub to_request_of : Bool → Bool → Answer
to_request_of may shut = cond may (cond shut Answer.NotOpen Answer.Taken) Answer.NotGranted

-- an answer: 15
unfoldable pub to_answer_of : Bool → Answer
to_answer_of shut = cond shut Answer.NotOpen Answer.Taken

-- Number 18: "service 3 asked as required while connected".
abbrev pub facility_answer_of : What → Answer → Answer → Answer
facility_answer_of What.Preferred request answer = request
facility_answer_of What.Accept request answer = answer
facility_answer_of What.Reject request answer = answer
facility_answer_of What.Required request answer = Answer.AskedRequired

-- "for a request 18, 16, 15; for an answer 15". Number 15: "service 3 in force, asker's own request open, or an answer
-- with no open request of the other side".
abbrev pub verdict_of : Rights → BySide Bool → Bool → Side → What → Answer
verdict_of r a force side what =
    facility_answer_of what
    (to_request_of (may_ask_of r side) (force || asks_of a side))
    (to_answer_of (force || not (asks_of a (peer_of side))))

-- What is taken does to the two requests, to service 3 and to the meters. A required request is refused by 18 and never
-- taken: its clauses here and in facility_said_of are there only to be total. "Accept puts the service in force and
-- closes both; reject closes the one."
abbrev pub facility_asking_of : BySide Bool → Side → What → BySide Bool
facility_asking_of a side What.Preferred = with_ask_of a side true
facility_asking_of a side What.Accept = nobody_asks
facility_asking_of a side What.Reject = with_ask_of a (peer_of side) false
facility_asking_of a side What.Required = a

-- how service 3 stands once the message is taken
abbrev pub facility_three_of : Standing → What → Standing
facility_three_of s What.Preferred = s
facility_three_of s What.Accept = Standing.InForce
facility_three_of s What.Reject = s
facility_three_of s What.Required = s

-- "Accept puts the service in force": so each direction gets X credits
abbrev pub facility_meters_of : BySide Meter → ℕ → What → BySide Meter
facility_meters_of m burst What.Preferred = m
facility_meters_of m burst What.Accept = grants_of m burst
facility_meters_of m burst What.Reject = m
facility_meters_of m burst What.Required = m
