-- The record of a call: as it is opened, and made anew from the one before it.
use Rattle.std.specs.Prelude.{Bool, ℕ}
use Rattle.services.specs.declared.ByService.{ByService}
use Rattle.services.specs.declared.Standing.{Standing}
use Rattle.sent.specs.declared.side.BySide.{BySide}
use Rattle.flow_meter.specs.declared.Meter.{Meter}
use Rattle.call.specs.declared.Call.{Call}
use Rattle.phases.specs.declared.Phase.{Phase}
use Rattle.rights.specs.declared.Rights.{Rights}
use Rattle.facility_rules.specs.Asking.{nobody_asks}
use Rattle.flow_meter.specs.CallMeters.{empty_meters}

-- nobody has asked for anything yet, and the meters are empty
abbrev pub opened_of : ℕ → Rights → Phase → ByService Standing → Call
opened_of reference rights phase standings =
    record {
      reference = reference;
      rights = rights;
      phase = phase;
      standings = standings;
      asking = nobody_asks;
      meters = empty_meters;
    }

-- an event may change these four parts; all else is kept
abbrev pub renewed_of : Call → Phase → ByService Standing → BySide Bool → BySide Meter → Call
renewed_of c phase standings asking meters =
    record {
      reference = c.reference;
      rights = c.rights;
      phase = phase;
      standings = standings;
      asking = asking;
      meters = meters;
    }
