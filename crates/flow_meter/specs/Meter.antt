-- The flow meter of one direction.
use Rattle.std.specs.Prelude.{ℕ, ◌+◌, Bool, false, cond, ◌&&◌, leb}
use Rattle.flow_meter.specs.declared.Meter.{Meter}

-- "service 2, two messages each way"
abbrev pub greatest_count : ℕ
greatest_count = 2

unfoldable pub empty_of : Meter
empty_of = record { credit = 0; mark = false; count = 0 }

-- "credit over X or count over 2"
unfoldable pub meter_fits_of : Meter → ℕ → Bool
meter_fits_of m burst = leb m.credit burst && leb m.count greatest_count

-- "Coming into force, service 3 gives each direction X credits"
unfoldable pub granted_of : Meter → ℕ → Meter
granted_of m burst = record { credit = burst; mark = m.mark; count = m.count }

-- "A tick adds Y, to at most X."
unfoldable pub refilled_of : ℕ → ℕ → ℕ → ℕ
refilled_of credit burst refill = cond (leb (credit + refill) burst) (credit + refill) burst

-- "A tick with the mark set clears it"
unfoldable pub ticked_of : Meter → ℕ → ℕ → Meter
ticked_of m burst refill = record { credit = refilled_of m.credit burst refill; mark = false; count = m.count }
