-- A component: the number of its service, and the range of its invoke number.
use Rattle.std.specs.Prelude.{ℕ, Bool, ltb}
use Rattle.rights.specs.declared.Service.{Service}
use Rattle.facility.specs.declared.Component.{Component}

abbrev pub service_octet : Service → ℕ
service_octet Service.One = 1
service_octet Service.Two = 2
service_octet Service.Three = 3

-- "Invoke numbers and causes are 0 to 127"
abbrev pub invoke_number : Component → ℕ
invoke_number (Component.Invoke id s w) = id
invoke_number (Component.Accepted id) = id
invoke_number (Component.Rejected id e) = id

abbrev pub component_fits : Component → Bool
component_fits c = ltb (invoke_number c) 128
