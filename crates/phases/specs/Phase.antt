-- "Fresh, Requested, Alerting, Active, Clearing, Ended": which events each phase allows.
use Rattle.std.specs.Prelude.{Bool, true, false}
use Rattle.phases.specs.declared.Phase.{Phase}

-- "SETUP (Fresh)"
abbrev pub fresh_of : Phase → Bool
fresh_of Phase.Fresh = true
fresh_of Phase.Requested = false
fresh_of Phase.Alerting = false
fresh_of Phase.Active = false
fresh_of Phase.Clearing = false
fresh_of Phase.Ended = false

-- "ALERTING (Requested)"
abbrev pub requested_of : Phase → Bool
requested_of Phase.Fresh = false
requested_of Phase.Requested = true
requested_of Phase.Alerting = false
requested_of Phase.Active = false
requested_of Phase.Clearing = false
requested_of Phase.Ended = false

-- "CONNECT (Requested, Alerting)"
abbrev pub connectable_of : Phase → Bool
connectable_of Phase.Fresh = false
connectable_of Phase.Requested = true
connectable_of Phase.Alerting = true
connectable_of Phase.Active = false
connectable_of Phase.Clearing = false
connectable_of Phase.Ended = false

-- "USER INFORMATION (Alerting, Active)"
abbrev pub talking_of : Phase → Bool
talking_of Phase.Fresh = false
talking_of Phase.Requested = false
talking_of Phase.Alerting = true
talking_of Phase.Active = true
talking_of Phase.Clearing = false
talking_of Phase.Ended = false

-- "FACILITY (Active)"
abbrev pub active_of : Phase → Bool
active_of Phase.Fresh = false
active_of Phase.Requested = false
active_of Phase.Alerting = false
active_of Phase.Active = true
active_of Phase.Clearing = false
active_of Phase.Ended = false

-- "DISCONNECT (up)", and "Up" means Requested, Alerting or Active
abbrev pub up_of : Phase → Bool
up_of Phase.Fresh = false
up_of Phase.Requested = true
up_of Phase.Alerting = true
up_of Phase.Active = true
up_of Phase.Clearing = false
up_of Phase.Ended = false

-- "Places Fresh or Ended are free, all others are live." So are the phases of "RELEASE COMPLETE (up, Clearing)" and of
-- the tick.
abbrev pub live_of : Phase → Bool
live_of Phase.Fresh = false
live_of Phase.Requested = true
live_of Phase.Alerting = true
live_of Phase.Active = true
live_of Phase.Clearing = true
live_of Phase.Ended = false
