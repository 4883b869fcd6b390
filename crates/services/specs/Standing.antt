-- What was asked for of each service, what was answered, how it stands, and what a message says of it.
use Rattle.services.specs.declared.ByService.{ByService}
use Rattle.std.specs.Prelude.{Bool, true, false, ◌||◌}
use Rattle.services.specs.declared.Standing.{Standing}

abbrev pub in_force_of : Standing → Bool
in_force_of Standing.Unasked = false
in_force_of Standing.Preferred = false
in_force_of Standing.Required = false
in_force_of Standing.InForce = true
in_force_of Standing.Closed = false

-- a request is open until it is answered
abbrev pub awaits_of : Standing → Bool
awaits_of Standing.Unasked = false
awaits_of Standing.Preferred = true
awaits_of Standing.Required = true
awaits_of Standing.InForce = false
awaits_of Standing.Closed = false

-- "the element (if service 1 remains)": it is asked for, or implied, and the rights have it
unfoldable pub remains_of : Standing → Bool
remains_of s = in_force_of s || awaits_of s

unfoldable pub no_services : ByService Standing
no_services = record { one = Standing.Unasked; two = Standing.Unasked; three = Standing.Unasked }
