-- The Cause element.
use Rattle.std.specs.Prelude.{Option, Some, None, ℕ, ◌+◌, ◌%◌, List, [], ◌∷◌, Bool, cond, length, get_or, ltb, leb}

-- "the low seven bits of the octet after the location octet and its extension, absent without that octet": a location
-- octet below 80 hexadecimal has an extension, one of 80 or more has none
unfoldable pub cause_of : List ℕ → Option ℕ
cause_of b =
    cond (ltb (length b) 2) None
    (cond (leb 0x80 (get_or b 0 0)) (Some (get_or b 1 0 % 128))
    (cond (ltb (length b) 3) None (Some (get_or b 2 0 % 128))))

-- "Invoke numbers and causes are 0 to 127"
abbrev pub cause_fits : ℕ → Bool
cause_fits v = ltb v 128

-- "Cause is written 08 02 82 and 80 plus the value"
abbrev pub cause_octets : ℕ → List ℕ
cause_octets v = 0x08 ∷ 0x02 ∷ 0x82 ∷ (0x80 + v) ∷ []
