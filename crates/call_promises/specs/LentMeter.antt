-- The meter that a host lends and the two that a call record holds come to the same: `spend` and `tick` give a lent
-- meter what USER INFORMATION and the tick give the meter of a call.
use Rattle.std.specs.Prelude.{Option, Some, ℕ, ◌≤◌, List, [], ◌∷◌, Bool, true, false, ◌↔◌, ◌≡◌, length}
use Rattle.sent.specs.declared.Message.{Message}
use Rattle.flow_meter.specs.declared.Meter.{Meter}
use Rattle.flow_meter.specs.declared.lent.Spent.{Spent}
use Rattle.flow_meter.specs.declared.lent.Ticked.{Ticked}
use Rattle.flow_meter.specs.Lent.{spends_of, ticks_of, spent_number, ticked_number}
use Rattle.services.specs.declared.Standing.{Standing}
use Rattle.message_types.specs.declared.Kind.{Kind}
use Rattle.phases.specs.declared.Phase.{Phase}
use Rattle.sent.specs.declared.Level.{Level}
use Rattle.sent.specs.declared.side.Side.{Side}
use Rattle.answer.specs.Answer.{number_of}
use Rattle.call.specs.declared.Call.{Call}
use Rattle.event.specs.declared.Event.{Event}
use Rattle.call.specs.declared.reply.Reply.{Reply}
use Rattle.call.specs.Step.{step_of}
use Rattle.call_promises.specs.Ranges.{InRangeCall}
use Rattle.call_promises.specs.Numbers.{Allowed, WellFormed, ServesTwo, ServesThree, meter_from, other}
use Rattle.call_promises.specs.Refusals.{sent_to, not_ready, nothing_said}

-- the services that `spend` is told of are those that serve the side's message
pub record ToldServices (c : Call) (side : Side) (two three : Bool) : Type 0 where
  pub service2 : two ≡ true ↔ ServesTwo c side
  pub service3 : three ≡ true ↔ ServesThree c

-- The reply to a side's message, beside what `spend` makes of a meter m. "sets that direction's mark and sends not
-- ready, cause 43, to its sender". The meter n of the other direction stays.
pub record SpendsAlike (m n : Meter) (burst : ℕ) (two three : Bool) (side : Side) (r : Reply) : Type 0 where
  pub number : number_of r.answer ≡ spent_number (spends_of m burst two three).answer
  pub meter : meter_from r.call side ≡ (spends_of m burst two three).next
  pub stays : meter_from r.call (other side) ≡ n
  pub marked : (spends_of m burst two three).answer ≡ Spent.Marked ↔ sent_to r side ≡ not_ready

-- LENT SPENDING. A message with an element in order, in a phase that allows it, of a record in range: its number, and
-- the meter that it leaves of its side, are those of `spend` on a lent meter that holds the same; the other side's
-- meter is as it was.
abbrev pub LentSpending : Type 0
LentSpending =
    (c : Call) (side : Side) (more : Bool) (l : List ℕ) (two three : Bool) →
    InRangeCall c → Allowed (Event.Information side more) c.phase → WellFormed l → length l ≤ c.rights.limit → ToldServices c side two three →
    SpendsAlike (meter_from c side) (meter_from c (other side)) c.rights.burst two three side
    (step_of c (Event.Information side more) l)

-- "A tick with the mark set clears it and sends ready, with cause 43 too (house)."
abbrev pub ready : Option Message
ready =
    Some
    (record {
      kind = Kind.CongestionControl;
      cause = Some 43;
      level = Level.Ready;
      said = nothing_said;
      more = false;
      element = false;
    })

-- the reply to a tick, beside what `tick` makes of a meter m
pub record TicksAlike (m : Meter) (burst refill : ℕ) (side : Side) (r : Reply) : Type 0 where
  pub number : number_of r.answer ≡ ticked_number (ticks_of m burst refill).answer
  pub meter : meter_from r.call side ≡ (ticks_of m burst refill).next
  pub cleared : (ticks_of m burst refill).answer ≡ Ticked.Ready ↔ sent_to r side ≡ ready

-- LENT TICKING. While service 3 is in force in Active, a tick leaves the meter of each side as `tick` leaves a lent
-- one, and sends ready to the side exactly if `tick` says so.
abbrev pub LentTicking : Type 0
LentTicking =
    (c : Call) (side : Side) (l : List ℕ) → InRangeCall c → ServesThree c →
    TicksAlike (meter_from c side) c.rights.burst c.rights.refill side (step_of c Event.Tick l)

-- a call in Active with late delivery and services 2 and 3 in force, whose calling side has spent count and credit
abbrev pub lending : Call
lending =
    record {
      reference = 5;
      rights = record { services = 7; late = true; leave = false; limit = 131; burst = 2; refill = 1 };
      phase = Phase.Active;
      standings = record { one = Standing.InForce; two = Standing.InForce; three = Standing.InForce };
      asking = record { calling = false; called = false };
      meters =
          record {
            calling = record { credit = 0; mark = false; count = 2 };
            called = record { credit = 2; mark = true; count = 0 };
          };
    }

-- what becomes of the calling side's next message there, and of the called side's meter at a tick
pub record LentSample (l : List ℕ) : Type 0 where
  pub dropped : number_of (step_of lending (Event.Information Side.Calling false) l).answer ≡ 14
  pub marks : (spends_of lending.meters.calling 2 true true).next ≡ record { credit = 0; mark = true; count = 2 }
  pub readies : (ticks_of lending.meters.called 2 1).next ≡ record { credit = 2; mark = false; count = 0 }

-- LENT MET. The premises of both are met there, and what they promise is no refusal.
abbrev pub LentMet : Type 0
LentMet =
    InRangeCall lending
    × Allowed (Event.Information Side.Calling false) lending.phase
    × WellFormed (126 ∷ 2 ∷ 4 ∷ 65 ∷ [])
    × ToldServices lending Side.Calling true true
    × LentSample (126 ∷ 2 ∷ 4 ∷ 65 ∷ [])
