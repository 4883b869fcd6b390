-- The number of a message is one digit, and so is that of a service.
use Prim.Native.Nat.{◌+◌}
use mathlib.Core.List.{[], ◌∷◌}
use mathlib.Core.Path.{◌≡◌, refl}
use Rattle.message_fields.specs.declared.Fault.{Fault}
use Rattle.message_fields.specs.Numbers.{fault_number}
use Rattle.text.specs.Decimal.{digits_of, decimal_of}
use Rattle.text.specs.Service.{service_digit}
use Rattle.rights.specs.declared.Service.{Service}
use Rattle.facility.specs.Facility.{service_octet}

pub taken_text : decimal_of 0 ≡ 48 ∷ []
unfolding decimal_of digits_of
taken_text = refl

pub refused_text : (f : Fault) → decimal_of (fault_number f) ≡ (48 + fault_number f) ∷ []
unfolding decimal_of digits_of
refused_text Fault.Short = refl
refused_text Fault.TooLong = refl
refused_text Fault.Foreign = refl
refused_text Fault.Reference = refl
refused_text Fault.Kind = refl

pub digit_is : (s : Service) → service_digit s ≡ 48 + service_octet s
digit_is Service.One = refl
digit_is Service.Two = refl
digit_is Service.Three = refl
