-- The two meters of a call, and what the events make of them.
use Rattle.std.specs.Prelude.{Option, ℕ, Bool, cond, ◌&&◌}
use Rattle.sent.specs.declared.Message.{Message}
use Rattle.sent.specs.declared.side.BySide.{BySide}
use Rattle.flow_meter.specs.Meter.{empty_of, granted_of, ticked_of}
use Rattle.flow_meter.specs.Passage.{after_of}
use Rattle.flow_meter.specs.declared.Meter.{Meter}
use Rattle.flow_meter.specs.declared.passage.Passage.{Passage}
use Rattle.sent.specs.declared.side.Side.{Side}
use Rattle.rights.specs.declared.Rights.{Rights}
use Rattle.sent.specs.declared.Level.{Level}
use Rattle.sent.specs.Message.{congestion_of, only_if_of}

unfoldable pub empty_meters : BySide Meter
empty_meters = record { calling = empty_of; called = empty_of }

-- "A call record holds two": the meter of what a side sends
abbrev pub meter_of : BySide Meter → Side → Meter
meter_of m Side.Calling = m.calling
meter_of m Side.Called = m.called

abbrev pub with_meter_of : BySide Meter → Side → Meter → BySide Meter
with_meter_of m Side.Calling n = record { calling = n; called = m.called }
with_meter_of m Side.Called n = record { calling = m.calling; called = n }

-- what a message's passage makes of the meter of its side
abbrev pub spent_of : BySide Meter → Side → Passage → BySide Meter
spent_of m side p = with_meter_of m side (after_of (meter_of m side) p)

-- "Coming into force, service 3 gives each direction X credits"
unfoldable pub grants_of : BySide Meter → ℕ → BySide Meter
grants_of m burst = record { calling = granted_of m.calling burst; called = granted_of m.called burst }

-- both directions of a call
unfoldable pub ticked_meters_of : BySide Meter → Rights → BySide Meter
ticked_meters_of m r =
    record {
      calling = ticked_of m.calling r.burst r.refill;
      called = ticked_of m.called r.burst r.refill;
    }

-- "without service 3 in Active it does nothing"
unfoldable pub refills_of : BySide Meter → Rights → Bool → BySide Meter
refills_of m r runs = cond runs (ticked_meters_of m r) m

-- "A tick with the mark set clears it and sends ready"
unfoldable pub ready_of : Meter → Bool → Option Message
ready_of m runs = only_if_of (runs && m.mark) (congestion_of Level.Ready)
