-- The fields of a message that are in range.
use Rattle.std.specs.Prelude.{Option, Some, None, ℕ, List, Bool, true, false, ◌&&◌, ltb}
use Rattle.user_element.specs.Writable.{element_fits_of}
use Rattle.cause.specs.Element.{cause_fits}
use Rattle.facility.specs.Facility.{component_fits}
use Rattle.message_types.specs.declared.Class.{Class}
use Rattle.message_types.specs.declared.Kind.{Kind}
use Rattle.message_types.specs.Kind.{class_of}
use Rattle.message_fields.specs.declared.Width.{Width}
use Rattle.message_fields.specs.declared.Single.{Single}
use Rattle.message_fields.specs.declared.Facilities.{Facilities}
use Rattle.message_fields.specs.declared.Message.{Message}

-- "references 0 to 127 or to 32767 by length"
abbrev pub reference_fits : Width → ℕ → Bool
reference_fits Width.One r = ltb r 128
reference_fits Width.Two r = ltb r 32768

-- no single octet; none or More data; a congestion level
abbrev pub plain_fits : Single → Bool
plain_fits Single.Absent = true
plain_fits Single.MoreData = false
plain_fits Single.Ready = false
plain_fits Single.NotReady = false

abbrev pub more_fits : Single → Bool
more_fits Single.Absent = true
more_fits Single.MoreData = true
more_fits Single.Ready = false
more_fits Single.NotReady = false

abbrev pub level_fits : Single → Bool
level_fits Single.Absent = false
level_fits Single.MoreData = false
level_fits Single.Ready = true
level_fits Single.NotReady = true

-- "More data belongs to USER INFORMATION only, and a congestion level to CONGESTION CONTROL, where the writer demands
-- it; elsewhere the writer gives 7"
abbrev pub class_fits : Class → Single → Bool
class_fits Class.Plain s = plain_fits s
class_fits Class.Information s = more_fits s
class_fits Class.Congestion s = level_fits s

abbrev pub single_fits : Kind → Single → Bool
single_fits k s = class_fits (class_of k) s

abbrev pub causes_fit : Option ℕ → Bool
causes_fit None = true
causes_fit (Some v) = cause_fits v

abbrev pub facilities_fit : Facilities → Bool
facilities_fit Facilities.Zero = true
facilities_fit (Facilities.One a) = component_fits a
facilities_fit (Facilities.Two a b) = component_fits a && component_fits b
facilities_fit (Facilities.Three a b c) = (component_fits a && component_fits b) && component_fits c

-- 7 "a field out of range", otherwise
unfoldable pub message_fits : Message → List ℕ → Bool
message_fits w user =
    (((reference_fits w.header.width w.header.reference && single_fits w.header.kind w.single) && causes_fit w.cause)
    && facilities_fit w.facility)
    && element_fits_of user
