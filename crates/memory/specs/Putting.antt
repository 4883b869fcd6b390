-- One piece after another, for whoever writes several: where a piece ends and, for functions inside a crate, what it
-- leaves.
use Rattle.std.specs.Prelude.{Result, Ok, Err, ℕ, ◌+◌, List, ◌≡◌, length}
use Rattle.memory.specs.declared.Bar.{Bar}
use Rattle.memory.specs.Room.{placed}

-- where a piece that was written ends
abbrev pub end_of : Result ℕ Bar → ℕ
end_of (Ok n) = n
end_of (Err b) = 0

-- the buffer l became l' by a piece p at a place, and the piece ends at r
pub record Put (at : ℕ) (p l l' : List ℕ) (r : ℕ) : Type 0 where
  pub end : r ≡ at + length p
  pub octets : l' ≡ placed at p l
