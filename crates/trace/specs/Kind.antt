-- "One octet of kind, then a body of fixed length: 1 SETUP 143, 2 ALERTING 137, 3 CONNECT 137, 4 USER INFORMATION 135,
-- 5 FACILITY 4, 6 DISCONNECT 139, 7 RELEASE COMPLETE 3, 8 tick 2."
use Rattle.std.specs.Prelude.{Option, Some, None, Result, ℕ, ◌+◌, ◌≡◌, cond, eqb}
use Rattle.std.specs.Option.{ok_or}
use Rattle.trace.specs.declared.Fault.{Fault}
use Rattle.trace.specs.declared.kind.RecordKind.{RecordKind}
use Rattle.trace.specs.declared.kind.Layout.{Layout}

unfoldable pub record_kind_of : ℕ → Option RecordKind
record_kind_of x =
    cond (eqb x 1) (Some RecordKind.Setup)
    (cond (eqb x 2) (Some RecordKind.Alerting)
    (cond (eqb x 3) (Some RecordKind.Connect)
    (cond (eqb x 4) (Some RecordKind.Information)
    (cond (eqb x 5) (Some RecordKind.Facility)
    (cond (eqb x 6) (Some RecordKind.Disconnect)
    (cond (eqb x 7) (Some RecordKind.ReleaseComplete)
    (cond (eqb x 8) (Some RecordKind.Tick) None)))))))

-- what an octet of kind is read as: one that names none is a fault
abbrev pub KindGives : ℕ → Result RecordKind Fault → Type 0
KindGives x r = r ≡ ok_or (record_kind_of x) Fault.Kind

-- The layout of each kind: what its octet of kind is, where its fields stand, the octet of kind counted as 0, and how
-- many octets it has: the octet of kind and the body. A kind without a field has no place for it. "Bodies start with the
-- reference, high octet first. Then: 1: services, late, leave, limit, X, Y, three requests, element. 2 and 3: three
-- answers, element. 4: side, element. 5: side, what. 6: side, cause, answers, element. 7: side."
abbrev pub layout_of : RecordKind → Layout
layout_of RecordKind.Setup = record { octet = 1; rights = Some 3; side = None; what = None; cause = None; requests = Some 9; answers = None; element = Some 12; size = 1 + 143 }
layout_of RecordKind.Alerting = record { octet = 2; rights = None; side = None; what = None; cause = None; requests = None; answers = Some 3; element = Some 6; size = 1 + 137 }
layout_of RecordKind.Connect = record { octet = 3; rights = None; side = None; what = None; cause = None; requests = None; answers = Some 3; element = Some 6; size = 1 + 137 }
layout_of RecordKind.Information = record { octet = 4; rights = None; side = Some 3; what = None; cause = None; requests = None; answers = None; element = Some 4; size = 1 + 135 }
layout_of RecordKind.Facility = record { octet = 5; rights = None; side = Some 3; what = Some 4; cause = None; requests = None; answers = None; element = None; size = 1 + 4 }
layout_of RecordKind.Disconnect = record { octet = 6; rights = None; side = Some 3; what = None; cause = Some 4; requests = None; answers = Some 5; element = Some 8; size = 1 + 139 }
layout_of RecordKind.ReleaseComplete = record { octet = 7; rights = None; side = Some 3; what = None; cause = None; requests = None; answers = None; element = None; size = 1 + 3 }
layout_of RecordKind.Tick = record { octet = 8; rights = None; side = None; what = None; cause = None; requests = None; answers = None; element = None; size = 1 + 2 }

abbrev pub record_kind_octet : RecordKind → ℕ
record_kind_octet k = (layout_of k).octet

abbrev pub size_of : RecordKind → ℕ
size_of k = (layout_of k).size
