-- A message of a reply on the line: how the host lays it out for the writer, and that what is written reads back as the
-- same.
use Rattle.std.specs.Prelude.{Option, Some, None, Result, Ok, ℕ, ◌≤◌, List, [], Bool, true, cond, ◌≡◌, length, take}
use Rattle.memory.specs.declared.Bar.{Bar}
use Rattle.services.specs.declared.ByService.{ByService}
use Rattle.facility.specs.declared.Component.{Component}
use Rattle.facility.specs.declared.Refusal.{Refusal}
use Rattle.rights.specs.declared.Service.{Service}
use Rattle.facility.specs.declared.Wish.{Wish}
use Rattle.memory.specs.Numbers.{wrote_number}
use Rattle.message_fields.specs.declared.Facilities.{Facilities as LineFacilities}
use Rattle.message_fields.specs.declared.Message.{Message as LineMessage}
use Rattle.message_fields.specs.declared.Single.{Single}
use Rattle.message_fields.specs.declared.Width.{Width}
use Rattle.elements.specs.Meaning.{and_says, first_three}
use Rattle.message.specs.Parts.{user_user_of}
use Rattle.writer.specs.Writing.{message_octets}
use Rattle.octet_promises.specs.Promises.{highest, answer_of, buffer_of, Back}
use Rattle.services.specs.declared.Said.{Said}
use Rattle.sent.specs.declared.Level.{Level}
use Rattle.sent.specs.declared.Message.{Message}
use Rattle.sent.specs.declared.side.Side.{Side}
use Rattle.call.specs.declared.Call.{Call}
use Rattle.event.specs.declared.Event.{Event}
use Rattle.call.specs.Step.{step_of}
use Rattle.call_promises.specs.Refusals.{sent_to}
use Rattle.call_promises.specs.Handling.{handed_in}

-- the single octet: a congestion level, More data, or none
abbrev pub single_for : Level → Bool → Single
single_for Level.Ready more = Single.Ready
single_for Level.NotReady more = Single.NotReady
single_for Level.Absent more = cond more Single.MoreData Single.Absent

-- what is said of a service, under the invoke number that the host has for it
abbrev pub component_for : ℕ → Service → Said → Option Component
component_for id service Said.Nothing = None
component_for id service Said.Preferred = Some (Component.Invoke id service Wish.Preferred)
component_for id service Said.Required = Some (Component.Invoke id service Wish.Required)
component_for id service Said.Accepted = Some (Component.Accepted id)
component_for id service Said.ByUser = Some (Component.Rejected id Refusal.ByUser)
component_for id service Said.ByNetwork = Some (Component.Rejected id Refusal.ByNetwork)

-- what the host adds: the header's width, flag and reference, and an invoke number for each service
pub record Host : Type 0 where
  pub width : Width
  pub flag : Bool
  pub reference : ℕ
  pub one : ℕ
  pub two : ℕ
  pub three : ℕ

pub record HostInRange (h : Host) : Type 0 where
  pub reference : h.reference ≤ highest h.width
  pub one : h.one ≤ 127
  pub two : h.two ≤ 127
  pub three : h.three ≤ 127

-- services 1, 2 and 3 in that order, each if something is said of it
abbrev pub facilities_for : Host → ByService Said → LineFacilities
facilities_for h s =
    first_three
    (and_says (component_for h.one Service.One s.one)
    (and_says (component_for h.two Service.Two s.two)
    (and_says (component_for h.three Service.Three s.three) [])))

abbrev pub wire_of : Host → Message → LineMessage
wire_of h m =
    record {
      header = record { width = h.width; flag = h.flag; reference = h.reference; kind = m.kind };
      single = single_for m.level m.more;
      cause = m.cause;
      facility = facilities_for h m.said;
    }

-- A message of a reply is offered to the writer with the event's element if it goes out in it, and with none otherwise:
-- the writer's answer, and what it leaves of a buffer.
abbrev pub answer_to : Host → Message → List ℕ → List ℕ → Result ℕ Bar
answer_to h m l b = answer_of (wire_of h m) (handed_in (Some m) l) b

abbrev pub left_in : Host → Message → List ℕ → List ℕ → List ℕ
left_in h m l b = buffer_of (wire_of h m) (handed_in (Some m) l) b

pub record OnTheLine (h : Host) (m : Message) (l b : List ℕ) : Type 0 where
  -- nothing that a call says is out of range
  pub ranged : wrote_number (answer_to h m l b) ≡ 7 → ⊥
  -- a buffer of 260 octets is long enough
  pub room : 260 ≤ length b → wrote_number (answer_to h m l b) ≡ 0
  -- what was written reads back as the same message and the same element
  pub back : (n : ℕ) → answer_to h m l b ≡ Ok n → Back (wire_of h m) (handed_in (Some m) l) (take n (left_in h m l b))
  -- where the event's element goes out, the element that is read is the event's own, whole
  pub own : (n : ℕ) → answer_to h m l b ≡ Ok n → m.element ≡ true → user_user_of (take n (left_in h m l b)) ≡ l

-- SENDING. For every record, event and element, every message of the reply, every header and invoke numbers in range,
-- and every buffer.
abbrev pub Sending : Type 0
Sending =
    (c : Call) (e : Event) (l : List ℕ) (side : Side) (m : Message) → sent_to (step_of c e l) side ≡ Some m →
    (h : Host) → HostInRange h → (b : List ℕ) → OnTheLine h m l b

-- APART. Where the three invoke numbers differ, two messages of replies that are written with the same octets say the
-- same, and have the same element.
pub record Different (h : Host) : Type 0 where
  pub one_two : h.one ≡ h.two → ⊥
  pub one_three : h.one ≡ h.three → ⊥
  pub two_three : h.two ≡ h.three → ⊥

pub record Posted (l : List ℕ) : Type 0 where
  pub call : Call
  pub event : Event
  pub side : Side
  pub message : Message
  pub sent : sent_to (step_of call event l) side ≡ Some message

pub record SaysTheSame (m m' : Message) : Type 0 where
  pub kind : m.kind ≡ m'.kind
  pub cause : m.cause ≡ m'.cause
  pub level : m.level ≡ m'.level
  pub more : m.more ≡ m'.more
  pub one : m.said.one ≡ m'.said.one
  pub two : m.said.two ≡ m'.said.two
  pub three : m.said.three ≡ m'.said.three

abbrev pub octets_of : Host → Message → List ℕ → List ℕ
octets_of h m l = message_octets (wire_of h m) (handed_in (Some m) l)

abbrev pub Apart : Type 0
Apart =
    (h : Host) → HostInRange h → Different h → (l l' : List ℕ) (p : Posted l) (q : Posted l') →
    octets_of h p.message l ≡ octets_of h q.message l' →
    SaysTheSame p.message q.message × (handed_in (Some p.message) l ≡ handed_in (Some q.message) l')
