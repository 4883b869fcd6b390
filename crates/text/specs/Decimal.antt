-- A number in decimal digits, the most significant first, without leading zeros.
use Rattle.std.specs.Prelude.{ℕ, zero, suc, ◌+◌, ◌/◌, ◌%◌, List, [], ◌∷◌, ◌++◌, cond, ltb}

-- 48 is the digit 0
abbrev pub last_digit : ℕ → List ℕ
last_digit n = (48 + n % 10) ∷ []

-- at most the last k + 1 digits
unfoldable pub digits_of : ℕ → ℕ → List ℕ
digits_of zero n = last_digit n
digits_of (suc k) n = cond (ltb n 10) (last_digit n) (digits_of k (n / 10) ++ last_digit n)

-- all of them: a number has no more digits than it counts, and one
unfoldable pub decimal_of : ℕ → List ℕ
decimal_of n = digits_of n n
