-- What an event makes of the table, by value: what is put there, and what is answered.
use Rattle.std.specs.Prelude.{Some, None, Result, Ok, Err, ℕ, List}
use Rattle.table.specs.declared.plan.Seat.{Seat}
use Rattle.table.specs.declared.verdict.Verdict.{Verdict}
use Rattle.event.specs.declared.Event.{Event}
use Rattle.table.specs.declared.plan.Plan.{Plan}
use Rattle.table.specs.Settle.{settled_of, table_refusal_of}

-- a number of the table's puts nothing
abbrev pub plan_of : Result Seat Verdict → Event → List ℕ → Plan
plan_of (Ok s) e element =
    record {
      put = Some (record { place = s.place; call = (settled_of s.call e element).call });
      outcome = (settled_of s.call e element).outcome;
    }
plan_of (Err v) e element = record { put = None; outcome = table_refusal_of v }
