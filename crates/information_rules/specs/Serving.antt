-- Which service serves a USER INFORMATION message.
use Rattle.std.specs.Prelude.{Bool, false, ◌&&◌}
use Rattle.flow_meter.specs.declared.Meter.{Meter}
use Rattle.flow_meter.specs.declared.passage.Passage.{Passage}
use Rattle.flow_meter.specs.Passage.{passage_of}
use Rattle.phases.specs.declared.Phase.{Phase}
use Rattle.sent.specs.declared.side.Side.{Side}

-- "from the calling side, with late delivery"
abbrev pub late_of : Side → Bool → Bool
late_of Side.Calling right = right
late_of Side.Called right = false

-- "Alerting: service 2 .. Active: from the calling side, with late delivery and service 2 in force"
abbrev pub serves_two_of : Phase → Bool → Bool → Bool
serves_two_of Phase.Fresh force late = false
serves_two_of Phase.Requested force late = false
serves_two_of Phase.Alerting force late = force
serves_two_of Phase.Active force late = force && late
serves_two_of Phase.Clearing force late = false
serves_two_of Phase.Ended force late = false

-- "Active: .. then service 3"
abbrev pub serves_three_of : Phase → Bool → Bool
serves_three_of Phase.Fresh force = false
serves_three_of Phase.Requested force = false
serves_three_of Phase.Alerting force = false
serves_three_of Phase.Active force = force
serves_three_of Phase.Clearing force = false
serves_three_of Phase.Ended force = false

-- what a side's message meets in its meter; two and three say which services are in force
abbrev pub served_of : Meter → Phase → Side → Bool → Bool → Bool → Passage
served_of m p side right two three = passage_of m (serves_two_of p two (late_of side right)) (serves_three_of p three)
