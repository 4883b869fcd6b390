-- "Nine types, hexadecimal: ALERTING 01, CALL PROCEEDING 02, SETUP 05, CONNECT 07, USER INFORMATION 20, DISCONNECT 45,
-- RELEASE COMPLETE 5A, FACILITY 62, CONGESTION CONTROL 79."
use Rattle.std.specs.Prelude.{Option, Some, None, ℕ, cond, eqb}
use Rattle.message_types.specs.declared.Kind.{Kind}
use Rattle.message_types.specs.declared.Class.{Class}

abbrev pub kind_octet : Kind → ℕ
kind_octet Kind.Alerting = 0x01
kind_octet Kind.CallProceeding = 0x02
kind_octet Kind.Setup = 0x05
kind_octet Kind.Connect = 0x07
kind_octet Kind.UserInformation = 0x20
kind_octet Kind.Disconnect = 0x45
kind_octet Kind.ReleaseComplete = 0x5A
kind_octet Kind.Facility = 0x62
kind_octet Kind.CongestionControl = 0x79

-- the type that an octet names
unfoldable pub kind_of : ℕ → Option Kind
kind_of x =
    cond (eqb x 0x01) (Some Kind.Alerting)
    (cond (eqb x 0x02) (Some Kind.CallProceeding)
    (cond (eqb x 0x05) (Some Kind.Setup)
    (cond (eqb x 0x07) (Some Kind.Connect)
    (cond (eqb x 0x20) (Some Kind.UserInformation)
    (cond (eqb x 0x45) (Some Kind.Disconnect)
    (cond (eqb x 0x5A) (Some Kind.ReleaseComplete)
    (cond (eqb x 0x62) (Some Kind.Facility)
    (cond (eqb x 0x79) (Some Kind.CongestionControl) None))))))))

-- "More data belongs to USER INFORMATION only, and a congestion level to CONGESTION CONTROL": which single octet a
-- message may have
abbrev pub class_of : Kind → Class
class_of Kind.Alerting = Class.Plain
class_of Kind.CallProceeding = Class.Plain
class_of Kind.Setup = Class.Plain
class_of Kind.Connect = Class.Plain
class_of Kind.UserInformation = Class.Information
class_of Kind.Disconnect = Class.Plain
class_of Kind.ReleaseComplete = Class.Plain
class_of Kind.Facility = Class.Plain
class_of Kind.CongestionControl = Class.Congestion
