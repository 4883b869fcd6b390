-- A service in a text.
use Rattle.std.specs.Prelude.{ℕ}
use Rattle.rights.specs.declared.Service.{Service}

-- the digit of a service
abbrev pub service_digit : Service → ℕ
service_digit Service.One = 49
service_digit Service.Two = 50
service_digit Service.Three = 51
