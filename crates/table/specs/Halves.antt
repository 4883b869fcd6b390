-- An event at the table in two halves: what the table shows of it, and what is then put there.
use Rattle.std.specs.Prelude.{Option, Some, None, Result, Ok, Err, ℕ, List, get_or, set}
use Rattle.table.specs.declared.verdict.Verdict.{Verdict}
use Rattle.table.specs.declared.plan.Seat.{Seat}
use Rattle.call.specs.declared.Call.{Call}
use Rattle.event.specs.declared.Event.{Event}
use Rattle.call.specs.Sound.{fresh_call}
use Rattle.table.specs.Choice.{chosen_of}

abbrev pub look_at : List Call → Result ℕ Verdict → Result Seat Verdict
look_at t (Ok i) = Ok (record { place = i; call = (get_or t i fresh_call) })
look_at t (Err v) = Err v

unfoldable pub look_of : List Call → ℕ → Event → Result Seat Verdict
look_of t n e = look_at t (chosen_of t n e)

-- every other record is as it was; a place that the table does not have is none
abbrev pub committed : List Call → Option Seat → List Call
committed t (Some s) = set t s.place s.call
committed t None = t
