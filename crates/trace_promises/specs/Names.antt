-- What is promised of the field that a faulty record names. The statement is a type; `proofs/Names.antt` has its proof.
use Rattle.std.specs.Prelude.{Some, Err, ℕ, ◌+◌, ◌≤◌, List, ◌⊎◌, ◌≡◌, get_or}
use Rattle.rights.specs.declared.Service.{Service}
use Rattle.trace.specs.declared.kind.RecordKind.{RecordKind}
use Rattle.trace.specs.declared.Fault.{Fault}
use Rattle.trace.specs.declared.Field.{Field}
use Rattle.trace.specs.Kind.{record_kind_of}
use Rattle.trace.specs.Reading.{record_of}
use Rattle.trace_promises.specs.Records.{Zeros, HoldsElement}

-- the fields of a record from left to right, each with what it is for it to be in range
pub data Fields : Type 1 where
  none : Fields
  field : Field → Type 0 → Fields → Fields

-- f is the first that is out of range: it is, and every field before it is in range
abbrev pub FirstOut : Fields → Field → Type 0
FirstOut none f = ⊥
FirstOut (field g InRange rest) f = ((f ≡ g) × (InRange → ⊥)) ⊎ (InRange × FirstOut rest f)

-- "request or answer over 2"
abbrev pub three_fields : (Service → Field) → List ℕ → ℕ → Fields → Fields
three_fields f t p rest =
    field (f Service.One) (get_or t p 0 ≤ 2)
    (field (f Service.Two) (get_or t (p + 1) 0 ≤ 2) (field (f Service.Three) (get_or t (p + 2) 0 ≤ 2) rest))

-- "An element field is n (0 for absent, or 2 to 131), the n octets beginning 126 and n − 2, then zeros to 132 in all."
-- The zeros come last: they are named only where all else is in range.
abbrev pub element_fields : List ℕ → ℕ → Fields
element_fields t p =
    field Field.Element ((get_or t p 0 ≡ 0) ⊎ HoldsElement t p)
    (field Field.Zeros (Zeros t (p + 1 + get_or t p 0) (p + 132)) none)

-- "33: late, leave or side over 1, request or answer over 2, what over 3, cause over 127, element field not of that
-- form."
abbrev pub fields_of : RecordKind → List ℕ → Fields
fields_of RecordKind.Setup t =
    field Field.Late (get_or t 4 0 ≤ 1)
    (field Field.Leave (get_or t 5 0 ≤ 1) (three_fields Field.Request t 9 (element_fields t 12)))
fields_of RecordKind.Alerting t = three_fields Field.Answer t 3 (element_fields t 6)
fields_of RecordKind.Connect t = three_fields Field.Answer t 3 (element_fields t 6)
fields_of RecordKind.Information t = field Field.Side (get_or t 3 0 ≤ 1) (element_fields t 4)
fields_of RecordKind.Facility t = field Field.Side (get_or t 3 0 ≤ 1) (field Field.What (get_or t 4 0 ≤ 3) none)
fields_of RecordKind.Disconnect t =
    field Field.Side (get_or t 3 0 ≤ 1)
    (field Field.Cause (get_or t 4 0 ≤ 127) (three_fields Field.Answer t 5 (element_fields t 8)))
fields_of RecordKind.ReleaseComplete t = field Field.Side (get_or t 3 0 ≤ 1) none
fields_of RecordKind.Tick t = none

-- NAMES. A record that is refused for a field names the first that is out of range.
abbrev pub Names : Type 0
Names = (t : List ℕ) (k : RecordKind) (f : Field) → record_kind_of (get_or t 0 0) ≡ Some k → record_of t ≡ Some (Err (Fault.Range f)) → FirstOut (fields_of k t) f
