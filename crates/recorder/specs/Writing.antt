-- A record written: the inverse of reading one.
use Rattle.std.specs.Prelude.{Option, Some, None, unwrap_or, is_some, ℕ, ◌+◌, ◌-◌, ◌/◌, ◌%◌, List, [], ◌∷◌, ◌++◌, Bool, true, false, not, ◌&&◌, length, set, replicate, ltb, eqb}
use Rattle.user_element.specs.Writable.{element_fits_of}
use Rattle.event.specs.declared.Event.{Event}
use Rattle.rights.specs.declared.Rights.{Rights}
use Rattle.trace.specs.declared.kind.RecordKind.{RecordKind}
use Rattle.trace.specs.declared.kind.Layout.{Layout}
use Rattle.trace.specs.Kind.{layout_of}
use Rattle.trace.specs.Values.{flag_octet, side_octet, request_octet, given_octet, what_octet}

-- "n, the n octets, then zeros to 132 in all"
unfoldable pub field_octets : List ℕ → List ℕ
field_octets u = length u ∷ (u ++ replicate (131 - length u) 0)

-- the kind of record that an event is written as; two messages are no events
abbrev pub kind_for : Event → Option RecordKind
kind_for (Event.Setup n rights q) = Some RecordKind.Setup
kind_for (Event.Alerting a) = Some RecordKind.Alerting
kind_for (Event.Connect a) = Some RecordKind.Connect
kind_for (Event.Information side more) = Some RecordKind.Information
kind_for (Event.Facility side what) = Some RecordKind.Facility
kind_for (Event.Disconnect side cause a) = Some RecordKind.Disconnect
kind_for (Event.ReleaseComplete side) = Some RecordKind.ReleaseComplete
kind_for Event.Tick = Some RecordKind.Tick
kind_for Event.CallProceeding = None
kind_for Event.CongestionControl = None

-- an octet put into a record, so many after the place of a field; none where a kind has no such field
abbrev pub set_in : Option ℕ → ℕ → ℕ → List ℕ → List ℕ
set_in None i x o = o
set_in (Some p) i x o = set o (p + i) x

-- three octets put into a record from a place on
abbrev pub three_in : Option ℕ → ℕ → ℕ → ℕ → List ℕ → List ℕ
three_in p a b c o = set_in p 2 c (set_in p 1 b (set_in p 0 a o))

-- "services, late, leave, limit, X, Y"
abbrev pub rights_in : Option ℕ → Rights → List ℕ → List ℕ
rights_in p r o =
    set_in p 5 (r.refill % 256)
    (set_in p 4 (r.burst % 256) (set_in p 3 r.limit (three_in p r.services (flag_octet r.late) (flag_octet r.leave) o)))

-- the fields of an event, each put into a record at its place
abbrev pub fields_in : Event → Layout → List ℕ → List ℕ
fields_in (Event.Setup n rights q) l o =
    three_in l.requests (request_octet q.one) (request_octet q.two) (request_octet q.three) (rights_in l.rights rights o)
fields_in (Event.Alerting a) l o = three_in l.answers (given_octet a.one) (given_octet a.two) (given_octet a.three) o
fields_in (Event.Connect a) l o = three_in l.answers (given_octet a.one) (given_octet a.two) (given_octet a.three) o
fields_in (Event.Information side more) l o = set_in l.side 0 (side_octet side) o
fields_in (Event.Facility side what) l o = set_in l.what 0 (what_octet what) (set_in l.side 0 (side_octet side) o)
fields_in (Event.Disconnect side cause a) l o =
    three_in l.answers (given_octet a.one) (given_octet a.two) (given_octet a.three) (set_in l.cause 0 cause (set_in l.side 0 (side_octet side) o))
fields_in (Event.ReleaseComplete side) l o = set_in l.side 0 (side_octet side) o
fields_in Event.Tick l o = o
fields_in Event.CallProceeding l o = o
fields_in Event.CongestionControl l o = o

-- where the element field begins, or the record ends that has none
abbrev pub head_of : Layout → ℕ
head_of l = unwrap_or l.element l.size

-- the octet of kind, the reference, and zeros up to there, with the fields at their places
abbrev pub head_as : RecordKind → ℕ → Event → List ℕ
head_as k r e = fields_in e (layout_of k) ((layout_of k).octet ∷ r / 256 ∷ r % 256 ∷ replicate (head_of (layout_of k) - 3) 0)

abbrev pub head_octets : Option RecordKind → ℕ → Event → List ℕ
head_octets None r e = []
head_octets (Some k) r e = head_as k r e

-- whether a record of the kind has an element field
abbrev pub has_element : Option RecordKind → Bool
has_element None = false
has_element (Some k) = is_some (layout_of k).element

abbrev pub fielded_of : Event → Bool
fielded_of e = has_element (kind_for e)

abbrev pub tail_octets : Bool → List ℕ → List ℕ
tail_octets true u = field_octets u
tail_octets false u = []

unfoldable pub record_octets : ℕ → Event → List ℕ → List ℕ
record_octets r e u = head_octets (kind_for e) r e ++ tail_octets (fielded_of e) u

-- what a trace can hold of an event: X and Y in one octet, one reference, no More data, a cause up to 127, and none of
-- the two messages that are no events
abbrev pub event_fits_of : ℕ → Event → Bool
event_fits_of r (Event.Setup n rights q) = (eqb n r && ltb rights.burst 256) && ltb rights.refill 256
event_fits_of r (Event.Alerting a) = true
event_fits_of r (Event.Connect a) = true
event_fits_of r (Event.Information side more) = not more
event_fits_of r (Event.Facility side what) = true
event_fits_of r (Event.Disconnect side cause a) = ltb cause 128
event_fits_of r (Event.ReleaseComplete side) = true
event_fits_of r Event.Tick = true
event_fits_of r Event.CallProceeding = false
event_fits_of r Event.CongestionControl = false

-- an event without an element field has no element
abbrev pub tail_fits_of : Bool → List ℕ → Bool
tail_fits_of true u = element_fits_of u
tail_fits_of false u = eqb (length u) 0

unfoldable pub record_fits_of : ℕ → Event → List ℕ → Bool
record_fits_of r e u = event_fits_of r e && tail_fits_of (fielded_of e) u
