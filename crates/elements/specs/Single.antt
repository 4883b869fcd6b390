-- The elements of a single octet.
use Rattle.std.specs.Prelude.{ℕ, cond, eqb}
use Rattle.message_types.specs.declared.Class.{Class}
use Rattle.message_types.specs.declared.Kind.{Kind}
use Rattle.message_types.specs.Kind.{class_of}
use Rattle.message_fields.specs.declared.Single.{Single}

-- "More data belongs to USER INFORMATION only"
abbrev pub more_in : Class → Single
more_in Class.Plain = Single.Absent
more_in Class.Information = Single.MoreData
more_in Class.Congestion = Single.Absent

-- "and a congestion level to CONGESTION CONTROL; elsewhere the reader passes them over"
abbrev pub level_in : Class → Single → Single
level_in Class.Plain s = Single.Absent
level_in Class.Information s = Single.Absent
level_in Class.Congestion s = s

-- "More data A0, Congestion level B0 (ready) and BF (not ready)"
unfoldable pub single_of : Kind → ℕ → Single
single_of k x =
    cond (eqb x 0xA0) (more_in (class_of k))
    (cond (eqb x 0xB0) (level_in (class_of k) Single.Ready)
    (cond (eqb x 0xBF) (level_in (class_of k) Single.NotReady) Single.Absent))

abbrev pub or_single : Single → Single → Single
or_single Single.Absent s = s
or_single Single.MoreData s = Single.MoreData
or_single Single.Ready s = Single.Ready
or_single Single.NotReady s = Single.NotReady
