-- So many octets from a place on.
use Rattle.std.specs.Prelude.{ℕ, ◌+◌, List, [], cond, length, take, drop, leb}

-- n octets from the place p on; none where they do not all lie there
abbrev pub stretch_of : ℕ → ℕ → List ℕ → List ℕ
stretch_of p n s = cond (leb (p + n) (length s)) (take n (drop p s)) []
