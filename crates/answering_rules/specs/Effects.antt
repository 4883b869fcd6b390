-- What the fates of the services make of a call.
use Rattle.services.specs.declared.ByService.{ByService}
use Rattle.sent.specs.declared.side.BySide.{BySide}
use Rattle.flow_meter.specs.declared.Meter.{Meter}
use Rattle.std.specs.Prelude.{Bool, true, false, ◌||◌, ℕ}
use Rattle.answering_rules.specs.declared.Fate.{Fate}
use Rattle.services.specs.declared.Said.{Said}
use Rattle.services.specs.declared.Standing.{Standing}
use Rattle.flow_meter.specs.CallMeters.{grants_of}

-- How a service stands after its answer. Where one failed the call is cleared and this is not asked: Failed is here
-- only to be total, and so it is in told_of and in_force_after_of.
abbrev pub settled_of : Standing → Fate → Standing
settled_of s Fate.Kept = s
settled_of s Fate.Accepted = Standing.InForce
settled_of s Fate.Closed = Standing.Closed
settled_of s Fate.Failed = Standing.Closed

-- "the message goes on with these answers": accepted, or "closed, rejectedByUser to the caller"
abbrev pub told_of : Fate → Said
told_of Fate.Kept = Said.Nothing
told_of Fate.Accepted = Said.Accepted
told_of Fate.Closed = Said.ByUser
told_of Fate.Failed = Said.ByUser

-- "DISCONNECT to the caller with rejectedByUser for each due service not accepted"
abbrev pub declined_of : Fate → Said
declined_of Fate.Kept = Said.Nothing
declined_of Fate.Accepted = Said.Nothing
declined_of Fate.Closed = Said.ByUser
declined_of Fate.Failed = Said.ByUser

abbrev pub failure_of : Fate → Bool
failure_of Fate.Kept = false
failure_of Fate.Accepted = false
failure_of Fate.Closed = false
failure_of Fate.Failed = true

-- "Required and not accepted", whichever service it is
unfoldable pub failed_of : ByService Fate → Bool
failed_of f = (failure_of f.one || failure_of f.two) || failure_of f.three

unfoldable pub settles_of : ByService Standing → ByService Fate → ByService Standing
settles_of s f =
    record {
      one = settled_of s.one f.one;
      two = settled_of s.two f.two;
      three = settled_of s.three f.three;
    }

unfoldable pub tells_of : ByService Fate → ByService Said
tells_of f = record { one = told_of f.one; two = told_of f.two; three = told_of f.three }

unfoldable pub declines_of : ByService Fate → ByService Said
declines_of f = record { one = declined_of f.one; two = declined_of f.two; three = declined_of f.three }

-- "Accepted: in force", which for service 3 gives each direction its credit
abbrev pub in_force_after_of : BySide Meter → ℕ → Fate → BySide Meter
in_force_after_of m burst Fate.Kept = m
in_force_after_of m burst Fate.Accepted = grants_of m burst
in_force_after_of m burst Fate.Closed = m
in_force_after_of m burst Fate.Failed = m
