-- What is promised of the records of a trace, over the definitions. Each statement is a type; `proofs/Records.antt` has
-- its proof.
use Rattle.std.specs.Prelude.{Option, Some, None, Result, Ok, Err, ℕ, ◌+◌, ◌-◌, ◌<◌, ◌≤◌, List, ◌⊎◌, ◌≡◌, length, get_or}
use Rattle.trace.specs.declared.Entry.{Entry}
use Rattle.trace.specs.declared.Fault.{Fault}
use Rattle.logic.specs.First.{Rows, end, row, Exactly}
use Rattle.trace.specs.declared.kind.RecordKind.{RecordKind}
use Rattle.trace.specs.Kind.{record_kind_of}
use Rattle.trace.specs.Reading.{trace_fault_number, record_of}

-- an event, or the end of the trace, has number 0
abbrev pub record_number : Option (Result Entry Fault) → ℕ
record_number None = 0
record_number (Some (Ok e)) = 0
record_number (Some (Err f)) = trace_fault_number f

-- RECORDS. "An element field is n (0 for absent, or 2 to 131), the n octets beginning 126 and n − 2, then zeros to 132
-- in all."
pub record Zeros (t : List ℕ) (p q : ℕ) : Type 0 where
  pub zero : (i : ℕ) → p ≤ i → i < q → get_or t i 0 ≡ 0

pub record HoldsElement (t : List ℕ) (p : ℕ) : Type 0 where
  pub least : 2 ≤ get_or t p 0
  pub most : get_or t p 0 ≤ 131
  pub first : get_or t (p + 1) 0 ≡ 126
  pub second : get_or t (p + 2) 0 ≡ get_or t p 0 - 2

pub record Field (t : List ℕ) (p : ℕ) : Type 0 where
  pub element : (get_or t p 0 ≡ 0) ⊎ HoldsElement t p
  pub after : Zeros t (p + 1 + get_or t p 0) (p + 132)

-- three octets from p on, each at most 2
pub record Three (t : List ℕ) (p : ℕ) : Type 0 where
  pub one : get_or t p 0 ≤ 2
  pub two : get_or t (p + 1) 0 ≤ 2
  pub three : get_or t (p + 2) 0 ≤ 2

-- "33: late, leave or side over 1, request or answer over 2, what over 3, cause over 127, element field not of that
-- form."
abbrev pub FieldsInRange : RecordKind → List ℕ → Type 0
FieldsInRange RecordKind.Setup t = (get_or t 4 0 ≤ 1) × (get_or t 5 0 ≤ 1) × Three t 9 × Field t 12
FieldsInRange RecordKind.Alerting t = Three t 3 × Field t 6
FieldsInRange RecordKind.Connect t = Three t 3 × Field t 6
FieldsInRange RecordKind.Information t = (get_or t 3 0 ≤ 1) × Field t 4
FieldsInRange RecordKind.Facility t = (get_or t 3 0 ≤ 1) × (get_or t 4 0 ≤ 3)
FieldsInRange RecordKind.Disconnect t = (get_or t 3 0 ≤ 1) × (get_or t 4 0 ≤ 127) × Three t 5 × Field t 8
FieldsInRange RecordKind.ReleaseComplete t = get_or t 3 0 ≤ 1
FieldsInRange RecordKind.Tick t = Unit {0}

-- "One octet of kind, then a body of fixed length: 1 SETUP 143, 2 ALERTING 137, 3 CONNECT 137, 4 USER INFORMATION 135,
-- 5 FACILITY 4, 6 DISCONNECT 139, 7 RELEASE COMPLETE 3, 8 tick 2."
abbrev pub body_of : RecordKind → ℕ
body_of RecordKind.Setup = 143
body_of RecordKind.Alerting = 137
body_of RecordKind.Connect = 137
body_of RecordKind.Information = 135
body_of RecordKind.Facility = 4
body_of RecordKind.Disconnect = 139
body_of RecordKind.ReleaseComplete = 3
body_of RecordKind.Tick = 2

abbrev pub Short : Option RecordKind → List ℕ → Type 0
Short None t = ⊥
Short (Some k) t = length t < 1 + body_of k

abbrev pub FieldsOutOfRange : Option RecordKind → List ℕ → Type 0
FieldsOutOfRange None t = ⊥
FieldsOutOfRange (Some k) t = FieldsInRange k t → ⊥

-- "31, 32, 33: unknown kind; record cut short; field out of range; in this order", where the trace does not end here
abbrev pub record_rows : List ℕ → Rows
record_rows t =
    row ((1 ≤ length t) × (record_kind_of (get_or t 0 0) ≡ None)) 31
    (row ((1 ≤ length t) × Short (record_kind_of (get_or t 0 0)) t) 32
    (row ((1 ≤ length t) × FieldsOutOfRange (record_kind_of (get_or t 0 0)) t) 33 end))

-- for every octet string at the front of a trace exactly one of an event (or the end), 31, 32, 33
abbrev pub Records : Type 0
Records = (t : List ℕ) → Exactly (record_rows t) (record_number (record_of t))
