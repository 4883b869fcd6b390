-- What a call of the system's that moves octets came to.
use Rattle.std.specs.Prelude.{ℕ, Option, Some, None, Result, Ok, Err, Bool, false}
use Rattle.streams.specs.declared.Failed.{Failed}

-- how many octets were moved
abbrev pub count_of : Result (Option ℕ) Failed → ℕ
count_of (Ok (Some n)) = n
count_of (Ok None) = 0
count_of (Err e) = 0

-- whether anything came; nothing does by a call that failed
abbrev pub came_of : Result Bool Failed → Bool
came_of (Ok b) = b
came_of (Err e) = false
