-- Rights of a call.
use Rattle.std.specs.Prelude.{ℕ, ◌/◌, ◌%◌, Bool, ◌&&◌, false, leb, eqb}
use Rattle.rights.specs.declared.Rights.{Rights}
use Rattle.rights.specs.declared.Service.{Service}

-- "Services (any of 1, 2, 3), late delivery, called side's leave to ask, limit on the element 3 to 131, burst X 1 to
-- 255, refill Y 1 to 255. References 1 to 32767."
abbrev pub greatest_services : ℕ
greatest_services = 7

abbrev pub least_limit : ℕ
least_limit = 3

abbrev pub greatest_limit : ℕ
greatest_limit = 131

abbrev pub greatest_burst : ℕ
greatest_burst = 255

abbrev pub greatest_refill : ℕ
greatest_refill = 255

abbrev pub greatest_reference : ℕ
greatest_reference = 32767

-- "bit 0 is service 1"
abbrev pub has_of : Rights → Service → Bool
has_of r Service.One = eqb (r.services % 2) 1
has_of r Service.Two = eqb (r.services / 2 % 2) 1
has_of r Service.Three = eqb (r.services / 4 % 2) 1

abbrev pub within : ℕ → ℕ → ℕ → Bool
within least n greatest = leb least n && leb n greatest

unfoldable pub rights_fit_of : Rights → Bool
rights_fit_of r =
    ((leb r.services greatest_services && within least_limit r.limit greatest_limit) && within 1 r.burst greatest_burst)
    && within 1 r.refill greatest_refill

unfoldable pub reference_fits_of : ℕ → Bool
reference_fits_of n = within 1 n greatest_reference

unfoldable pub no_rights : Rights
no_rights = record { services = 0; late = false; leave = false; limit = 0; burst = 0; refill = 0 }
