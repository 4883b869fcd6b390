-- A record at the front of a trace.
use Rattle.std.specs.Prelude.{Option, Some, None, Result, Ok, Err, ℕ, ◌+◌, ◌*◌, List, false, cond, length, get_or, ltb, eqb}
use Rattle.trace.specs.declared.Field.{Field}
use Rattle.services.specs.declared.ByService.{ByService}
use Rattle.services.specs.declared.Request.{Request}
use Rattle.services.specs.declared.Given.{Given}
use Rattle.event.specs.declared.Event.{Event}
use Rattle.rights.specs.declared.Rights.{Rights}
use Rattle.trace.specs.declared.kind.RecordKind.{RecordKind}
use Rattle.trace.specs.declared.kind.Layout.{Layout}
use Rattle.trace.specs.declared.Fault.{Fault}
use Rattle.trace.specs.declared.Entry.{Entry}
use Rattle.trace.specs.Kind.{record_kind_of, layout_of, size_of}
use Rattle.trace.specs.Ranges.{first_out_of}
use Rattle.trace.specs.Values.{octet_in, flag_of, side_of, request_of, given_of, what_of}
use Rattle.memory.specs.Stretch.{stretch_of}

-- the paper's number for each fault
abbrev pub trace_fault_number : Fault → ℕ
trace_fault_number Fault.Kind = 31
trace_fault_number Fault.Short = 32
trace_fault_number (Fault.Range f) = 33

-- "Bodies start with the reference, high octet first." The octet of kind stands before the body.
unfoldable pub record_reference_of : List ℕ → ℕ
record_reference_of t = get_or t 1 0 * 256 + get_or t 2 0

-- "1: services (bit 0 is service 1; over 7 gives 24), late, leave, limit, X, Y, three requests"
unfoldable pub rights_of : Option ℕ → List ℕ → Rights
rights_of p t =
    record {
      services = octet_in p 0 t;
      late = flag_of (octet_in p 1 t);
      leave = flag_of (octet_in p 2 t);
      limit = octet_in p 3 t;
      burst = octet_in p 4 t;
      refill = octet_in p 5 t;
    }

-- three octets from a place on, one for each service
abbrev pub three_said : {V : Type 0} → (ℕ → V) → Option ℕ → List ℕ → ByService V
three_said said p t = record { one = said (octet_in p 0 t); two = said (octet_in p 1 t); three = said (octet_in p 2 t) }

unfoldable pub requests_of : Option ℕ → List ℕ → ByService Request
requests_of p t = three_said request_of p t

unfoldable pub answers_of : Option ℕ → List ℕ → ByService Given
answers_of p t = three_said given_of p t

-- "2 and 3: three answers. 4: side. 5: side, what. 6: side, cause, answers. 7: side." More data is in no trace.
abbrev pub event_of : RecordKind → Layout → List ℕ → Event
event_of RecordKind.Setup l t = Event.Setup (record_reference_of t) (rights_of l.rights t) (requests_of l.requests t)
event_of RecordKind.Alerting l t = Event.Alerting (answers_of l.answers t)
event_of RecordKind.Connect l t = Event.Connect (answers_of l.answers t)
event_of RecordKind.Information l t = Event.Information (side_of (octet_in l.side 0 t)) false
event_of RecordKind.Facility l t = Event.Facility (side_of (octet_in l.side 0 t)) (what_of (octet_in l.what 0 t))
event_of RecordKind.Disconnect l t = Event.Disconnect (side_of (octet_in l.side 0 t)) (octet_in l.cause 0 t) (answers_of l.answers t)
event_of RecordKind.ReleaseComplete l t = Event.ReleaseComplete (side_of (octet_in l.side 0 t))
event_of RecordKind.Tick l t = Event.Tick

-- where the octets of an element begin whose field stands at a place, and how many there are: they follow their number,
-- and a kind without the field has none
abbrev pub begin_of : Option ℕ → ℕ
begin_of None = 1
begin_of (Some p) = p + 1

abbrev pub count_of : Option ℕ → List ℕ → ℕ
count_of None t = 0
count_of (Some p) t = get_or t p 0

unfoldable pub entry_of : RecordKind → List ℕ → Entry
entry_of k t =
    record {
      kind = k;
      reference = record_reference_of t;
      event = event_of k (layout_of k) t;
      at = begin_of (layout_of k).element;
      count = count_of (layout_of k).element t;
    }

-- a record that is all there
abbrev pub whole_of : Option Field → Entry → Option (Result Entry Fault)
whole_of None e = Some (Ok e)
whole_of (Some f) e = Some (Err (Fault.Range f))

abbrev pub named_of : Option RecordKind → List ℕ → Option (Result Entry Fault)
named_of None t = Some (Err Fault.Kind)
named_of (Some k) t =
    cond (ltb (length t) (size_of k)) (Some (Err Fault.Short)) (whole_of (first_out_of (layout_of k) t) (entry_of k t))

-- "31, 32, 33: trace: unknown kind; record cut short; field out of range; in this order". A trace may end between
-- records.
unfoldable pub record_of : List ℕ → Option (Result Entry Fault)
record_of t = cond (eqb (length t) 0) None (named_of (record_kind_of (get_or t 0 0)) t)

-- the element's octets, as the part of the trace that they are
unfoldable pub element_of : Entry → List ℕ → List ℕ
element_of e t = stretch_of e.at e.count t
