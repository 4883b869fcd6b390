-- What a message says.
use Rattle.std.specs.Prelude.{Option, Some, None, Result, Err, ℕ, ◌+◌, ◌*◌, ◌%◌, List, cond, length, get_or, drop, ltb, leb, eqb}
use Rattle.message_fields.specs.declared.Reading.{Reading}
use Rattle.message_types.specs.declared.Kind.{Kind}
use Rattle.message_fields.specs.declared.Width.{Width}
use Rattle.message_fields.specs.declared.Header.{Header}
use Rattle.message_types.specs.Kind.{kind_of}
use Rattle.message_fields.specs.declared.Fault.{Fault}
use Rattle.elements.specs.Elements.{elements}
use Rattle.elements.specs.Meaning.{taken_from}
use Rattle.message_fields.specs.Width.{width_of}

-- "the reference (its top bit is the flag, given back apart)": of its octet a, or of its octets a and b
abbrev pub reference_of : Width → ℕ → ℕ → ℕ
reference_of Width.One a b = a % 128
reference_of Width.Two a b = a % 128 * 256 + b

abbrev pub header_of : Width → List ℕ → Kind → Header
header_of w m k =
    record {
      width = w;
      flag = leb 0x80 (get_or m 2 0);
      reference = reference_of w (get_or m 2 0) (get_or m 3 0);
      kind = k;
    }

abbrev pub typed_of : Width → List ℕ → Option Kind → Result Reading Fault
typed_of w m None = Err Fault.Kind
typed_of w m (Some k) = taken_from (header_of w m k) (elements (width_of w + 3) 0 (drop (width_of w + 3) m))

-- the reference, the type, the elements
unfoldable pub headed_of : Width → List ℕ → Result Reading Fault
headed_of w m =
    cond (ltb (length m) (width_of w + 3)) (Err Fault.Short)
    (typed_of w m (kind_of (get_or m (width_of w + 2) 0)))

-- "A message is 08, the reference length (1 or 2), the reference, the type, the elements."
-- "Reading gives 2 first, then the first fault from left to right."
unfoldable pub read_of : List ℕ → Result Reading Fault
read_of m =
    cond (ltb 260 (length m)) (Err Fault.TooLong)
    (cond (ltb (length m) 1) (Err Fault.Short)
    (cond (eqb (get_or m 0 0) 8)
    (cond (ltb (length m) 2) (Err Fault.Short)
    (cond (eqb (get_or m 1 0) 1) (headed_of Width.One m)
    (cond (eqb (get_or m 1 0) 2) (headed_of Width.Two m) (Err Fault.Reference))))
    (Err Fault.Foreign)))
