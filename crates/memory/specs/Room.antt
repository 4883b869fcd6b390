-- What a lent buffer holds after something was written into it, or refused.
use Rattle.std.specs.Prelude.{Result, Ok, Err, ℕ, ◌+◌, ◌-◌, List, [], ◌++◌, Bool, cond, ◌≡◌, length, take, drop, leb}
use Rattle.memory.specs.declared.Bar.{Bar}

-- a buffer with a piece in it from a place on: "a written message leaves the octets after it unchanged"
unfoldable pub placed : ℕ → List ℕ → List ℕ → List ℕ
placed at p l = take at l ++ p ++ drop (at + length p) l

-- "Writing gives 7 before 6": a field out of range, then a buffer that is too short
unfoldable pub wrote_of : Bool → ℕ → List ℕ → List ℕ → Result ℕ Bar
wrote_of fits at p l =
    cond fits
    (cond (leb (at + length p) (length l)) (Ok (at + length p)) (Err Bar.Room))
    (Err Bar.Range)

-- "Numbers 1 to 7 write nothing in any lent buffer"
unfoldable pub left_of : Bool → ℕ → List ℕ → List ℕ → List ℕ
left_of fits at p l = cond fits (cond (leb (at + length p) (length l)) (placed at p l) l) l

-- the answer r, and the buffer l' that is left, where a piece p was to go into l at a place
pub record Written (fits : Bool) (at : ℕ) (p l l' : List ℕ) (r : Result ℕ Bar) : Type 0 where
  pub answer : r ≡ wrote_of fits at p l
  pub buffer : l' ≡ left_of fits at p l

-- the octets of a buffer from a place to another; none where the places do not lie in it
unfoldable pub kept_of : ℕ → ℕ → List ℕ → List ℕ
kept_of from to l = cond (leb from to) (cond (leb to (length l)) (take (to - from) (drop from l)) []) []

-- the answer r, and the buffer l' that is left: those octets at its front
pub record Kept (from to : ℕ) (l l' : List ℕ) (r : ℕ) : Type 0 where
  pub count : r ≡ length (kept_of from to l)
  pub buffer : l' ≡ placed 0 (kept_of from to l) l
