-- A fresh record, and number 25 for one record.
use Rattle.sent.specs.declared.side.BySide.{BySide}
use Rattle.flow_meter.specs.declared.Meter.{Meter}
use Rattle.std.specs.Prelude.{ℕ, Bool, true, cond, ◌&&◌}
use Rattle.phases.specs.declared.Phase.{Phase}
use Rattle.call.specs.declared.Call.{Call}
use Rattle.rights.specs.declared.Rights.{Rights}
use Rattle.rights.specs.Rights.{no_rights, rights_fit_of, reference_fits_of}
use Rattle.phases.specs.Phase.{live_of}
use Rattle.flow_meter.specs.Meter.{meter_fits_of}
use Rattle.services.specs.Standing.{no_services}
use Rattle.call.specs.Records.{opened_of, renewed_of}

-- a record before its SETUP
unfoldable pub fresh_call : Call
fresh_call = opened_of 0 no_rights Phase.Fresh no_services

-- "a live record or meter with a field out of range, credit over X or count over 2"
abbrev pub ranges_fit : ℕ → Rights → BySide Meter → Bool
ranges_fit reference rights m =
    ((reference_fits_of reference && rights_fit_of rights) && meter_fits_of m.calling rights.burst)
    && meter_fits_of m.called rights.burst

-- what a live record holds is in range
unfoldable pub fields_fit_of : Call → Bool
fields_fit_of c = ranges_fit c.reference c.rights c.meters

-- a record that is not live is sound whatever it holds
unfoldable pub sound_of : Call → Bool
sound_of c = cond (live_of c.phase) (fields_fit_of c) true

-- the record in another phase, all else as it was
unfoldable pub in_phase_of : Call → Phase → Call
in_phase_of c p = renewed_of c p c.standings c.asking c.meters
