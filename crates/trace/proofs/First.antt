-- The first of several tests that found a field out of range, however they are joined.
use Rattle.std.specs.Prelude.{Option, Some, None}
use mathlib.Core.Path.{◌≡◌, refl}
use Rattle.std.specs.Option.{option_or}
use Rattle.trace.specs.declared.Field.{Field}
use Rattle.trace.specs.Ranges.{first_of}

pub or_first : (a b : Option Field) → option_or a b ≡ first_of a b
or_first None b = refl
or_first (Some f) b = refl

pub first_assoc : (a b c : Option Field) → first_of (first_of a b) c ≡ first_of a (first_of b c)
first_assoc None b c = refl
first_assoc (Some f) b c = refl
