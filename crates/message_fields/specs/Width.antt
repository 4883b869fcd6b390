-- How many octets the call reference has, and the header with it.
use Rattle.std.specs.Prelude.{ℕ, ◌+◌}
use Rattle.message_fields.specs.declared.Width.{Width}

-- "the reference length (1 or 2)"
abbrev pub width_of : Width → ℕ
width_of Width.One = 1
width_of Width.Two = 2

-- "A message is 08, the reference length (1 or 2), the reference, the type, the elements."
abbrev pub header_size : Width → ℕ
header_size w = width_of w + 3
