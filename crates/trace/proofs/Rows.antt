-- What holds of every row of the layout.
use Prim.Native.Nat.{◌≤◌}
use native.Mathlib.Omega.{arith}
use Rattle.trace.specs.declared.kind.RecordKind.{RecordKind}
use Rattle.trace.specs.Kind.{size_of}

-- how long a record is at the least
pub least : (k : RecordKind) → 3 ≤ size_of k
least RecordKind.Setup = omega arith
least RecordKind.Alerting = omega arith
least RecordKind.Connect = omega arith
least RecordKind.Information = omega arith
least RecordKind.Facility = omega arith
least RecordKind.Disconnect = omega arith
least RecordKind.ReleaseComplete = omega arith
least RecordKind.Tick = omega arith
