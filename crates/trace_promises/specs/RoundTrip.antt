-- What is promised of a record that is written. Each statement is a type; `proofs/` has its proof.
use Rattle.std.specs.Prelude.{Some, Ok, ℕ, ◌+◌, List, [], ◌∷◌, ◌++◌, true, false, ◌≡◌, take}
use Rattle.services.specs.declared.ByService.{ByService}
use Rattle.event.specs.declared.Event.{Event}
use Rattle.facility_rules.specs.declared.What.{What}
use Rattle.rights.specs.declared.Rights.{Rights}
use Rattle.sent.specs.declared.side.Side.{Side}
use Rattle.services.specs.declared.Given.{Given}
use Rattle.services.specs.declared.Request.{Request}
use Rattle.trace.specs.declared.Entry.{Entry}
use Rattle.trace.specs.Reading.{record_of, element_of}
use Rattle.recorder.specs.Writing.{record_octets, record_fits_of}
use Rattle.trace_promises.specs.Records.{body_of}
use Rattle.trace_promises.specs.WholeRun.{Octets}

-- ROUND TRIP. What is written reads back as the same event and element, whatever follows it in the trace.
pub record Back (r : ℕ) (e : Event) (u t : List ℕ) (x : Entry) : Type 0 where
  pub taken : record_of t ≡ Some (Ok x)
  pub reference : x.reference ≡ r
  pub event : x.event ≡ e
  pub element : element_of x t ≡ u

pub record Again (r : ℕ) (e : Event) (u t : List ℕ) : Type 0 where
  pub entry : Entry
  pub back : Back r e u t entry

abbrev pub RoundTrip : Type 0
RoundTrip =
    (r : ℕ) (e : Event) (u rest : List ℕ) → record_fits_of r e u ≡ true → Again r e u (record_octets r e u ++ rest)

-- FITTING. Of each kind there is an event that can be written; those that have an element field, with one of 4 octets.
abbrev pub four_octets : List ℕ
four_octets = 126 ∷ 2 ∷ 1 ∷ 2 ∷ []

abbrev pub some_rights : Rights
some_rights = record { services = 7; late = true; leave = false; limit = 131; burst = 2; refill = 1 }

abbrev pub some_requests : ByService Request
some_requests = record { one = Request.Unasked; two = Request.Required; three = Request.Preferred }

abbrev pub some_answers : ByService Given
some_answers = record { one = Given.Silent; two = Given.Rejected; three = Given.Accepted }

pub record Fitting : Type 0 where
  pub setup : record_fits_of 5 (Event.Setup 5 some_rights some_requests) four_octets ≡ true
  pub alerting : record_fits_of 5 (Event.Alerting some_answers) four_octets ≡ true
  pub connect : record_fits_of 5 (Event.Connect some_answers) four_octets ≡ true
  pub information : record_fits_of 5 (Event.Information Side.Called false) four_octets ≡ true
  pub facility : record_fits_of 5 (Event.Facility Side.Calling What.Accept) [] ≡ true
  pub disconnect : record_fits_of 5 (Event.Disconnect Side.Calling 16 some_answers) four_octets ≡ true
  pub complete : record_fits_of 5 (Event.ReleaseComplete Side.Called) [] ≡ true
  pub tick : record_fits_of 5 Event.Tick [] ≡ true

-- WRITTEN BACK. Every event that is read in octets can be written, and is written as the octets that it was read in.
pub record Rewritten (t : List ℕ) (x : Entry) : Type 0 where
  pub fits : record_fits_of x.reference x.event (element_of x t) ≡ true
  pub same : record_octets x.reference x.event (element_of x t) ≡ take (1 + body_of x.kind) t

abbrev pub WrittenBack : Type 0
WrittenBack = (t : List ℕ) (x : Entry) → Octets t → record_of t ≡ Some (Ok x) → Rewritten t x
