-- What is held of a buffer while more is read after it. What was read stays unsaid: no contract can say it.
use Rattle.std.specs.Prelude.{ℕ, ◌-◌, ◌≤◌, List, ◌≡◌, length, take, ltb}
use Rattle.memory.specs.Room.{kept_of}
use Rattle.streams.specs.declared.Fetched.{Fetched}
use Rattle.streams.specs.Outcome.{came_of}

-- the answer r, and the buffer l' that is left, where one read went after the first octets of l, n of them: these stay,
-- and no more came than the buffer has room for after them
pub record ReadAfter (n : ℕ) (l l' : List ℕ) (r : ℕ) : Type 0 where
  pub front : take n l' ≡ take n l
  pub long : length l' ≡ length l
  pub room : r ≤ length l - n

-- the answer r, and the buffer l' that is left, where more was fetched after what l holds from a place to another:
-- these octets stand at the front, the new ones after them, and it is told whether there are any; a read has failed
-- only where there are none
pub record Refilled (from to : ℕ) (l l' : List ℕ) (r : Fetched) : Type 0 where
  pub front : take (length (kept_of from to l)) l' ≡ kept_of from to l
  pub long : length l' ≡ length l
  pub least : length (kept_of from to l) ≤ r.to
  pub most : r.to ≤ length l'
  pub told : came_of r.came ≡ ltb (length (kept_of from to l)) r.to
