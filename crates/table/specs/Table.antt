-- The table looked through: the live record of a reference, the lowest free place, and number 25.
use Rattle.std.specs.Prelude.{Option, Some, None, ℕ, ◌+◌, Bool, true, false, cond, not, ◌&&◌, ◌||◌, List, [], ◌∷◌, leb, length}
use Rattle.call.specs.declared.Call.{Call}
use Rattle.call.specs.Sound.{sound_of}
use Rattle.phases.specs.Phase.{live_of}
use Rattle.table.specs.Sought.{live_as, free_of}

-- "a lent table of at most 32 records"
abbrev pub greatest_table : ℕ
greatest_table = 32

-- the first live record of the reference n, where the first record has the place i
abbrev pub find_from : List Call → ℕ → ℕ → Option ℕ
find_from [] i n = None
find_from (c ∷ cs) i n = cond (live_as c n) (Some i) (find_from cs (i + 1) n)

-- "SETUP takes the lowest free"
abbrev pub place_from : List Call → ℕ → Option ℕ
place_from [] i = None
place_from (c ∷ cs) i = cond (free_of c) (Some i) (place_from cs (i + 1))

-- a live record of the reference n is among them
abbrev pub held_in : List Call → ℕ → Bool
held_in [] n = false
held_in (c ∷ cs) n = live_as c n || held_in cs n

-- "two live records of one reference, or a live record or meter with a field out of range"
abbrev pub calls_sound : List Call → Bool
calls_sound [] = true
calls_sound (c ∷ cs) = (sound_of c && not (live_of c.phase && held_in cs c.reference)) && calls_sound cs

-- "table over 32 records" too
unfoldable pub table_sound : List Call → Bool
table_sound t = leb (length t) greatest_table && calls_sound t
