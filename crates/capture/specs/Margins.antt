-- What stands around the lines of a capture.
use Rattle.std.specs.Prelude.{ℕ, ◌+◌, min, List, [], ◌∷◌, cond, eqb}

-- An offset is a number of 64 bits. One that would be larger stays at the largest: the lines go on, and say so.
unfoldable pub later_of : ℕ → ℕ → ℕ
later_of offset n = min (offset + n) 18446744073709551615

-- First line exactly `at number type flag ref cause single facility element`
abbrev pub first_line : List ℕ
first_line =
    97 ∷ 116 ∷ 32
    ∷ 110 ∷ 117 ∷ 109 ∷ 98 ∷ 101 ∷ 114 ∷ 32
    ∷ 116 ∷ 121 ∷ 112 ∷ 101 ∷ 32
    ∷ 102 ∷ 108 ∷ 97 ∷ 103 ∷ 32
    ∷ 114 ∷ 101 ∷ 102 ∷ 32
    ∷ 99 ∷ 97 ∷ 117 ∷ 115 ∷ 101 ∷ 32
    ∷ 115 ∷ 105 ∷ 110 ∷ 103 ∷ 108 ∷ 101 ∷ 32
    ∷ 102 ∷ 97 ∷ 99 ∷ 105 ∷ 108 ∷ 105 ∷ 116 ∷ 121 ∷ 32
    ∷ 101 ∷ 108 ∷ 101 ∷ 109 ∷ 101 ∷ 110 ∷ 116 ∷ 10 ∷ []

-- A capture that ends inside a length or a message prints `cut` as its last line: so many octets are left
unfoldable pub last_line : ℕ → List ℕ
last_line left = cond (eqb left 0) [] (99 ∷ 117 ∷ 116 ∷ 10 ∷ [])
