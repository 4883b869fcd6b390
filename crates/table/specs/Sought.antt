-- One record of the table: live and of a reference, or its place free.
use Rattle.std.specs.Prelude.{Option, Some, None, ℕ, Bool, true, false, not, ◌&&◌, eqb}
use Rattle.call.specs.declared.Call.{Call}
use Rattle.phases.specs.Phase.{live_of}

-- a live record of the reference n
abbrev pub live_as : Call → ℕ → Bool
live_as c n = live_of c.phase && eqb c.reference n

-- "Places Fresh or Ended are free, all others are live"
abbrev pub free_of : Call → Bool
free_of c = not (live_of c.phase)

abbrev pub is_at : Option ℕ → Bool
is_at (Some i) = true
is_at None = false
