-- A line that is written where it is to stand.
use Rattle.std.specs.Prelude.{ℕ, ◌+◌, ◌≤◌, List, ◌≡◌, length}
use Rattle.memory.specs.Room.{placed}
use Rattle.trace_lines.specs.declared.in_place.InPlace.{InPlace}

-- so many octets more have room
abbrev pub Spare : ℕ → InPlace → Type 0
Spare n s = s.end + n ≤ length s.octets.now

-- The line s became s' by a piece p after its text, of at most so many octets; it is in the same octets that were lent,
-- and no more of them are changed. Nobody has to believe this: it is for functions inside this crate, and no public
-- contract cites it.
pub record Grows (most : ℕ) (p : List ℕ) (s s' : InPlace) : Type 0 where
  pub same : s'.octets.ghost_name ≡ s.octets.ghost_name
  pub end : s'.end ≡ s.end + length p
  pub octets : s'.octets.now ≡ placed s.end p s.octets.now
  pub long : length s'.octets.now ≡ length s.octets.now
  pub small : length p ≤ most
