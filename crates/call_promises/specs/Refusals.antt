-- What a refusal leaves, and what it sends.
use Rattle.std.specs.Prelude.{Option, Some, None, Bool, ℕ, List, ◌⊎◌, true, false, ◌≡◌}
use Rattle.sent.specs.declared.Message.{Message}
use Rattle.services.specs.declared.ByService.{ByService}
use Rattle.services.specs.declared.Standing.{Standing}
use Rattle.sent.specs.declared.side.BySide.{BySide}
use Rattle.flow_meter.specs.declared.Meter.{Meter}
use Rattle.services.specs.declared.Said.{Said}
use Rattle.phases.specs.declared.Phase.{Phase}
use Rattle.message_types.specs.declared.Kind.{Kind}
use Rattle.sent.specs.declared.Level.{Level}
use Rattle.sent.specs.declared.side.Side.{Side}
use Rattle.answer.specs.Answer.{number_of}
use Rattle.call.specs.declared.Call.{Call}
use Rattle.event.specs.declared.Event.{Event}
use Rattle.call.specs.declared.reply.Reply.{Reply}
use Rattle.call_promises.specs.Numbers.{Informs, Says, ServesThree, meter_from, other, Core}

-- what a reply sends to a side
abbrev pub sent_to : Reply → Side → Option Message
sent_to r Side.Calling = r.dispatch.calling
sent_to r Side.Called = r.dispatch.called

-- "11 to 25 change no call, meter or table and send nothing"
pub record Unmoved (c : Call) (r : Reply) : Type 0 where
  pub call : r.call ≡ c
  pub calling : r.dispatch.calling ≡ None
  pub called : r.dispatch.called ≡ None

-- the record with other fields; its reference and its rights stay for the whole call
abbrev pub altered : Call → Phase → ByService Standing → BySide Bool → BySide Meter → Call
altered c phase standings asking meters =
    record {
      reference = c.reference;
      rights = c.rights;
      phase = phase;
      standings = standings;
      asking = asking;
      meters = meters;
    }

-- the record with the mark set of what a side sends, and all else as it was
abbrev pub set_mark : Meter → Meter
set_mark m = record { credit = m.credit; mark = true; count = m.count }

abbrev pub set_mark_from : BySide Meter → Side → BySide Meter
set_mark_from m Side.Calling = record { calling = set_mark m.calling; called = m.called }
set_mark_from m Side.Called = record { calling = m.calling; called = set_mark m.called }

abbrev pub with_mark : Call → Side → Call
with_mark c side = altered c c.phase c.standings c.asking (set_mark_from c.meters side)

abbrev pub nothing_said : ByService Said
nothing_said = record { one = Said.Nothing; two = Said.Nothing; three = Said.Nothing }

-- "sends not ready, cause 43, to its sender"
abbrev pub not_ready : Option Message
not_ready =
    Some
    (record {
      kind = Kind.CongestionControl;
      cause = Some 43;
      level = Level.NotReady;
      said = nothing_said;
      more = false;
      element = false;
    })

-- FACILITY with rejectedByNetwork for service 3
abbrev pub rejected_by_network : Option Message
rejected_by_network =
    Some
    (record {
      kind = Kind.Facility;
      cause = None;
      level = Level.Absent;
      said = record { one = Said.Nothing; two = Said.Nothing; three = Said.ByNetwork };
      more = false;
      element = false;
    })

-- "The first message dropped for credit under service 3 sets that direction's mark and sends not ready, cause 43, to
-- its sender."
pub record Marks (c : Call) (side : Side) (r : Reply) : Type 0 where
  pub serves : ServesThree c
  pub spent : (meter_from c side).credit ≡ 0
  pub unset : (meter_from c side).mark ≡ false
  pub call : r.call ≡ with_mark c side
  pub back : sent_to r side ≡ not_ready
  pub on : sent_to r (other side) ≡ None

-- every later one, and one that is dropped without service 3, does nothing
pub record Drops (c : Call) (side : Side) (r : Reply) : Type 0 where
  pub marked : ServesThree c → (meter_from c side).mark ≡ true
  pub unmoved : Unmoved c r

-- "16 sends the asker FACILITY with rejectedByNetwork."
pub record Rejects (c : Call) (side : Side) (r : Reply) : Type 0 where
  pub call : r.call ≡ c
  pub back : sent_to r side ≡ rejected_by_network
  pub on : sent_to r (other side) ≡ None

pub record Refusal (c : Call) (e : Event) (n : ℕ) (r : Reply) : Type 0 where
  pub fourteen : n ≡ 14 → Informs (λ side. Marks c side r ⊎ Drops c side r) e
  pub sixteen : n ≡ 16 → Says (λ side what. Rejects c side r) e
  pub others : (n ≡ 14 → ⊥) → (n ≡ 16 → ⊥) → Unmoved c r

-- REFUSALS. An answer other than 0 leaves the whole record as it was and sends nothing; but for 14 and 16.
abbrev pub Refusals : Core → Type 0
Refusals f =
    (c : Call) (e : Event) (l : List ℕ) →
    (number_of (f c e l).answer ≡ 0 → ⊥) → Refusal c e (number_of (f c e l).answer) (f c e l)
