-- An octet in two hexadecimal digits, in capitals.
use Rattle.std.specs.Prelude.{ℕ, ◌+◌, ◌/◌, ◌%◌, List, [], ◌∷◌, cond, ltb}

-- 48 is the digit 0, and 65, which is 55 and 10, the letter A
unfoldable pub digit_of : ℕ → ℕ
digit_of d = cond (ltb d 10) (48 + d) (55 + d)

abbrev pub hex_of : ℕ → List ℕ
hex_of x = digit_of (x / 16) ∷ digit_of (x % 16) ∷ []
