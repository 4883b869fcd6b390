-- The first field of a record that is out of range.
use Rattle.std.specs.Prelude.{Option, Some, None, ℕ, ◌+◌, List, cond, get_or, ltb}
use Rattle.rights.specs.declared.Service.{Service}
use Rattle.trace.specs.declared.Field.{Field}
use Rattle.trace.specs.declared.kind.Layout.{Layout}
use Rattle.trace.specs.ElementField.{form_fits_of, zeros_fit_of}

-- the first of two tests that found a field out of range
abbrev pub first_of : Option Field → Option Field → Option Field
first_of None b = b
first_of (Some f) b = Some f

-- octet i of the field at a place, held to the most that it may be, where a kind has the field
unfoldable pub up_to_of : Field → ℕ → Option ℕ → ℕ → List ℕ → Option Field
up_to_of f most None i t = None
up_to_of f most (Some p) i t = cond (ltb most (get_or t (p + i) 0)) (Some f) None

unfoldable pub three_of : (Service → Field) → Option ℕ → List ℕ → Option Field
three_of f place t =
    first_of (up_to_of (f Service.One) 2 place 0 t)
    (first_of (up_to_of (f Service.Two) 2 place 1 t) (up_to_of (f Service.Three) 2 place 2 t))

unfoldable pub element_out_of : Option ℕ → List ℕ → Option Field
element_out_of None t = None
element_out_of (Some p) t =
    cond (form_fits_of p t)
    (cond (zeros_fit_of p t) None (Some Field.Zeros))
    (Some Field.Element)

-- "33: late, leave or side over 1, request or answer over 2, what over 3, cause over 127, element field not of that
-- form." In every kind the fields stand in this order.
unfoldable pub first_out_of : Layout → List ℕ → Option Field
first_out_of l t =
    first_of (up_to_of Field.Late 1 l.rights 1 t)
    (first_of (up_to_of Field.Leave 1 l.rights 2 t)
    (first_of (up_to_of Field.Side 1 l.side 0 t)
    (first_of (up_to_of Field.What 3 l.what 0 t)
    (first_of (up_to_of Field.Cause 127 l.cause 0 t)
    (first_of (three_of Field.Request l.requests t)
    (first_of (three_of Field.Answer l.answers t) (element_out_of l.element t)))))))
