-- The note on an event's user-user element.
use Rattle.services.specs.declared.ByService.{ByService}
use Rattle.std.specs.Prelude.{ℕ, ◌<◌, List, ◌⊎◌, ◌≡◌, length}
use Rattle.logic.specs.First.{Rows, end, row, First, Exactly}
use Rattle.rights.specs.declared.Rights.{Rights}
use Rattle.rights.specs.declared.Service.{Service}
use Rattle.services.specs.declared.Given.{Given}
use Rattle.services.specs.declared.Request.{Request}
use Rattle.services.specs.declared.Standing.{Standing}
use Rattle.user_element.specs.Element.{note_number_of}
use Rattle.phases.specs.declared.Phase.{Phase}
use Rattle.sent.specs.declared.side.Side.{Side}
use Rattle.call.specs.declared.Call.{Call}
use Rattle.event.specs.declared.Event.{Event}
use Rattle.call_promises.specs.Numbers.{Has, InForce, WellFormed, answer_rows, Core}

-- "A noted element is dropped .., except after 17 ... Every other refusal has note 0." The number is the table's.
abbrev pub Refused : Call → Event → List ℕ → Type 0
Refused c e l = (n : ℕ) × First (answer_rows c e l) n × (n ≡ 0 → ⊥) × (n ≡ 17 → ⊥)

-- events that have no element
abbrev pub Bare : Event → Type 0
Bare (Event.Setup reference rights requests) = ⊥
Bare (Event.Alerting answers) = ⊥
Bare (Event.Connect answers) = ⊥
Bare (Event.Information side more) = ⊥
Bare (Event.Facility side what) = Unit {0}
Bare (Event.Disconnect side cause answers) = ⊥
Bare (Event.ReleaseComplete side) = Unit {0}
Bare Event.Tick = Unit {0}
Bare Event.CallProceeding = Unit {0}
Bare Event.CongestionControl = Unit {0}

-- the limit on the element: SETUP brings its own, "SETUP fills the whole record"
abbrev pub limit_for : Call → Event → ℕ
limit_for c (Event.Setup reference rights requests) = rights.limit
limit_for c (Event.Alerting answers) = c.rights.limit
limit_for c (Event.Connect answers) = c.rights.limit
limit_for c (Event.Information side more) = c.rights.limit
limit_for c (Event.Facility side what) = c.rights.limit
limit_for c (Event.Disconnect side cause answers) = c.rights.limit
limit_for c (Event.ReleaseComplete side) = c.rights.limit
limit_for c Event.Tick = c.rights.limit
limit_for c Event.CallProceeding = c.rights.limit
limit_for c Event.CongestionControl = c.rights.limit

-- SETUP: "If a required service is not in the rights", the message does not go on
abbrev pub Lacking : Rights → Service → Request → Type 0
Lacking r k q = (q ≡ Request.Required) × (Has r k → ⊥)

abbrev pub LacksRequired : Rights → ByService Request → Type 0
LacksRequired r q = Lacking r Service.One q.one ⊎ (Lacking r Service.Two q.two ⊎ Lacking r Service.Three q.three)

-- a request is open until it is answered
abbrev pub Open : Standing → Type 0
Open s = (s ≡ Standing.Preferred) ⊎ (s ≡ Standing.Required)

-- "Required and not accepted": the message does not go on
abbrev pub Fails : Standing → Given → Type 0
Fails s g = (s ≡ Standing.Required) × (g ≡ Given.Accepted → ⊥)

-- a service that is in force once an answer to it, where one is due, has counted
abbrev pub Comes : Type 0 → Standing → Given → Type 0
Comes due s g = InForce s ⊎ (due × Open s × (g ≡ Given.Accepted))

-- ALERTING: "Answers to 1 and 2 are due." CONNECT: "The answer to 3 is due, and to 1 if no ALERTING came; service 2
-- without ALERTING counts as unanswered." ALERTING came exactly if the phase is no longer Requested.
abbrev pub AlertingFails : ByService Standing → ByService Given → Type 0
AlertingFails s a = Fails s.one a.one ⊎ Fails s.two a.two

abbrev pub ConnectFails : Phase → ByService Standing → ByService Given → Type 0
ConnectFails p s a =
    ((p ≡ Phase.Requested) × (Fails s.one a.one ⊎ (s.two ≡ Standing.Required)))
    ⊎ Fails s.three a.three

-- An element that is well-formed and within the limit is not carried: "(not for USER INFORMATION) service 1 not in
-- force, in SETUP not remaining, or the message not carried on". In SETUP such an element asks for service 1 itself
-- where nothing else does, so that service 1 remains exactly if the rights have it. DISCONNECT: "From the called side,
-- .. an acceptance of open service 1 counts first".
abbrev pub NotCarried : Call → Event → Type 0
NotCarried c (Event.Setup reference rights requests) = LacksRequired rights requests ⊎ (Has rights Service.One → ⊥)
NotCarried c (Event.Alerting answers) =
    AlertingFails c.standings answers ⊎ (Comes (Unit {0}) c.standings.one answers.one → ⊥)
NotCarried c (Event.Connect answers) =
    ConnectFails c.phase c.standings answers
    ⊎ (Comes (c.phase ≡ Phase.Requested) c.standings.one answers.one → ⊥)
NotCarried c (Event.Information side more) = ⊥
NotCarried c (Event.Facility side what) = ⊥
NotCarried c (Event.Disconnect side cause answers) = Comes (side ≡ Side.Called) c.standings.one answers.one → ⊥
NotCarried c (Event.ReleaseComplete side) = ⊥
NotCarried c Event.Tick = ⊥
NotCarried c Event.CallProceeding = ⊥
NotCarried c Event.CongestionControl = ⊥

-- "0 none, 1 under 3 octets or not beginning 126 and its length less 2, 2 over the limit, 3 ..; the first that applies.
-- No octets at all is an absent element."
abbrev pub note_rows : Call → Event → List ℕ → Rows
note_rows c e l =
    row (Refused c e l) 0
    (row (Bare e ⊎ (length l ≡ 0)) 0
    (row (WellFormed l → ⊥) 1
    (row (limit_for c e < length l) 2
    (row (NotCarried c e) 3 end))))

-- NOTES. For every record, event and element: a note is given exactly when the table says it.
abbrev pub Notes : Core → Type 0
Notes f = (c : Call) (e : Event) (l : List ℕ) → Exactly (note_rows c e l) (note_number_of (f c e l).note)
