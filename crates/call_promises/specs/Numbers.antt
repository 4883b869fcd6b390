-- Numbers given back by one call. Each condition is written from the paper's table, without the functions that decide
-- it.
use Rattle.std.specs.Prelude.{ℕ, ◌-◌, ◌/◌, ◌%◌, ◌<◌, ◌≤◌, List, ◌⊎◌, Bool, true, ◌≡◌, length, get_or}
use Rattle.logic.specs.First.{Rows, end, row, Exactly}
use Rattle.flow_meter.specs.declared.Meter.{Meter}
use Rattle.rights.specs.declared.Rights.{Rights}
use Rattle.rights.specs.declared.Service.{Service}
use Rattle.services.specs.declared.Standing.{Standing}
use Rattle.facility_rules.specs.declared.What.{What}
use Rattle.phases.specs.declared.Phase.{Phase}
use Rattle.sent.specs.declared.side.Side.{Side}
use Rattle.answer.specs.Answer.{number_of}
use Rattle.call.specs.declared.Call.{Call}
use Rattle.event.specs.declared.Event.{Event}
use Rattle.call_promises.specs.Ranges.{Up, Live, ReferenceInRange, RightsInRange, Unsound}
use Rattle.call.specs.declared.reply.Reply.{Reply}

-- 25 and the ranges: `Ranges.antt`.

-- A core: what it replies to an event with its element, at a record. The promises are stated of any core.
abbrev pub Core : Type 0
Core = Call → Event → List ℕ → Reply

-- 12: "CALL PROCEEDING or CONGESTION CONTROL offered as an event"
abbrev pub NotAnEvent : Event → Type 0
NotAnEvent e = (e ≡ Event.CallProceeding) ⊎ (e ≡ Event.CongestionControl)

-- 11: "event not allowed in this phase". The phases stand in brackets behind each event's name.
abbrev pub Allowed : Event → Phase → Type 0
Allowed (Event.Setup reference rights requests) p = p ≡ Phase.Fresh
Allowed (Event.Alerting answers) p = p ≡ Phase.Requested
Allowed (Event.Connect answers) p = (p ≡ Phase.Requested) ⊎ (p ≡ Phase.Alerting)
Allowed (Event.Information side more) p = (p ≡ Phase.Alerting) ⊎ (p ≡ Phase.Active)
Allowed (Event.Facility side what) p = p ≡ Phase.Active
Allowed (Event.Disconnect side cause answers) p = Up p
Allowed (Event.ReleaseComplete side) p = Live p
Allowed Event.Tick p = Live p
Allowed Event.CallProceeding p = ⊥
Allowed Event.CongestionControl p = ⊥

-- 24: "SETUP, reference or rights out of range; DISCONNECT, cause over 127"
abbrev pub OutOfRange : Event → Type 0
OutOfRange (Event.Setup reference rights requests) = ReferenceInRange reference × RightsInRange rights → ⊥
OutOfRange (Event.Alerting answers) = ⊥
OutOfRange (Event.Connect answers) = ⊥
OutOfRange (Event.Information side more) = ⊥
OutOfRange (Event.Facility side what) = ⊥
OutOfRange (Event.Disconnect side cause answers) = 127 < cause
OutOfRange (Event.ReleaseComplete side) = ⊥
OutOfRange Event.Tick = ⊥
OutOfRange Event.CallProceeding = ⊥
OutOfRange Event.CongestionControl = ⊥

-- the event is USER INFORMATION, and P holds of the side that sends it
pub data Informs (P : Side → Type 0) : Event → Type 0 where
  sends : {side : Side} {more : Bool} → P side → Informs P (Event.Information side more)

-- the event is FACILITY, and P holds of its side and of what it says of service 3
pub data Says (P : Side → What → Type 0) : Event → Type 0 where
  tells : {side : Side} {what : What} → P side what → Says P (Event.Facility side what)

-- an element that begins 126 and its length less 2, of 3 octets at least
pub record WellFormed (l : List ℕ) : Type 0 where
  pub least : 3 ≤ length l
  pub first : get_or l 0 0 ≡ 126
  pub second : get_or l 1 0 ≡ length l - 2

-- 17: "USER INFORMATION, element absent, under 3 octets or over the limit", "which note 1 also brings"
abbrev pub BadElement : Call → Event → List ℕ → Type 0
BadElement c e l = Informs (λ side. WellFormed l × (length l ≤ c.rights.limit) → ⊥) e

abbrev pub InForce : Standing → Type 0
InForce s = s ≡ Standing.InForce

-- the meter of what a side sends
abbrev pub meter_from : Call → Side → Meter
meter_from c Side.Calling = c.meters.calling
meter_from c Side.Called = c.meters.called

-- "Alerting: service 2 .. Active: from the calling side, with late delivery and service 2 in force, its remaining count
-- first; then service 3."
abbrev pub ServesTwo : Call → Side → Type 0
ServesTwo c side =
    ((c.phase ≡ Phase.Alerting) × InForce c.standings.two)
    ⊎ ((c.phase ≡ Phase.Active) × (side ≡ Side.Calling) × (c.rights.late ≡ true) × InForce c.standings.two)

abbrev pub ServesThree : Call → Type 0
ServesThree c = (c.phase ≡ Phase.Active) × InForce c.standings.three

-- 13: "USER INFORMATION, no service in force for it"
abbrev pub NoService : Call → Event → Type 0
NoService c e = Informs (λ side. (ServesTwo c side → ⊥) × (ServesThree c → ⊥)) e

-- 14: "USER INFORMATION, count or credit spent". Of every service that serves it nothing is left.
abbrev pub UsedUp : Call → Event → Type 0
UsedUp c e =
    Informs (λ side. (ServesTwo c side → 2 ≤ (meter_from c side).count) × (ServesThree c → (meter_from c side).credit ≡ 0)) e

-- a request for service 3 while connected, and an answer to one
abbrev pub IsRequest : What → Type 0
IsRequest what = (what ≡ What.Preferred) ⊎ (what ≡ What.Required)

abbrev pub IsAnswer : What → Type 0
IsAnswer what = (what ≡ What.Accept) ⊎ (what ≡ What.Reject)

-- 18: "service 3 asked as required while connected"
abbrev pub AskedRequired : Event → Type 0
AskedRequired e = Says (λ side what. what ≡ What.Required) e

-- the rights have a service: "bit 0 is service 1"
abbrev pub Has : Rights → Service → Type 0
Has r Service.One = r.services % 2 ≡ 1
Has r Service.Two = r.services / 2 % 2 ≡ 1
Has r Service.Three = r.services / 4 % 2 ≡ 1

-- 16: "service 3 asked while connected, not in the rights, or by the called side without leave"
abbrev pub NotGranted : Call → Event → Type 0
NotGranted c e =
    Says
    (λ side what. IsRequest what × ((Has c.rights Service.Three → ⊥) ⊎ ((side ≡ Side.Called) × (c.rights.leave ≡ true → ⊥))))
    e

-- "Each side has its own open request."
abbrev pub Asks : Call → Side → Type 0
Asks c Side.Calling = c.asking.calling ≡ true
Asks c Side.Called = c.asking.called ≡ true

abbrev pub other : Side → Side
other Side.Calling = Side.Called
other Side.Called = Side.Calling

-- 15: "service 3 in force, asker's own request open, or an answer with no open request of the other side"
abbrev pub NotOpen : Call → Event → Type 0
NotOpen c e =
    Says
    (λ side what.
    InForce c.standings.three ⊎ ((IsRequest what × Asks c side) ⊎ (IsAnswer what × (Asks c (other side) → ⊥))))
    e

-- "25 comes first of 11 to 25; .. then the call 12, 11, 24, then: for USER INFORMATION 17, 13, 14; for a request 18,
-- 16, 15; for an answer 15."
abbrev pub answer_rows : Call → Event → List ℕ → Rows
answer_rows c e l =
    row (Unsound c) 25
    (row (NotAnEvent e) 12
    (row (Allowed e c.phase → ⊥) 11
    (row (OutOfRange e) 24
    (row (BadElement c e l) 17
    (row (NoService c e) 13
    (row (UsedUp c e) 14
    (row (AskedRequired e) 18
    (row (NotGranted c e) 16
    (row (NotOpen c e) 15 end)))))))))

-- ANSWERS. For every record, event and element: a number is given exactly when the table says it, and 0 exactly when no
-- row applies.
abbrev pub AnswersExactly : Core → Type 0
AnswersExactly f = (c : Call) (e : Event) (l : List ℕ) → Exactly (answer_rows c e l) (number_of (f c e l).answer)
