-- The octets of a message at a place, and its user-user element.
use Rattle.std.specs.Prelude.{Option, Some, None, Result, Ok, Err, ℕ, List, []}
use Rattle.message_fields.specs.declared.Reading.{Reading}
use Rattle.message_fields.specs.declared.Fault.{Fault}
use Rattle.message_fields.specs.declared.Place.{Place}
use Rattle.memory.specs.Stretch.{stretch_of}
use Rattle.message.specs.Reading.{read_of}

-- the octets at a place; none where the place does not lie in the message
abbrev pub part_of : List ℕ → Option Place → List ℕ
part_of m None = []
part_of m (Some p) = stretch_of p.at p.size m

abbrev pub place_in : Result Reading Fault → Option Place
place_in (Ok r) = r.user
place_in (Err f) = None

-- "The reader gives back the whole user-user element as the very part of the caller's message."
unfoldable pub user_user_of : List ℕ → List ℕ
user_user_of m = part_of m (place_in (read_of m))
