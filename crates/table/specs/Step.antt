-- An event at the table: what is answered, and the records afterwards.
use Rattle.std.specs.Prelude.{Result, Ok, Err, ℕ, List, get_or, set}
use Rattle.table.specs.declared.verdict.Verdict.{Verdict}
use Rattle.call.specs.declared.Call.{Call}
use Rattle.event.specs.declared.Event.{Event}
use Rattle.call.specs.Sound.{fresh_call}
use Rattle.table.specs.declared.settle.Outcome.{Outcome}
use Rattle.table.specs.Settle.{settled_of, table_refusal_of}
use Rattle.table.specs.Choice.{chosen_of}

abbrev pub outcome_at : List Call → Result ℕ Verdict → Event → List ℕ → Outcome
outcome_at t (Ok i) e element = (settled_of (get_or t i fresh_call) e element).outcome
outcome_at t (Err v) e element = table_refusal_of v

-- every record but the chosen one is as it was
abbrev pub table_at : List Call → Result ℕ Verdict → Event → List ℕ → List Call
table_at t (Ok i) e element = set t i (settled_of (get_or t i fresh_call) e element).call
table_at t (Err v) e element = t

unfoldable pub step_outcome : List Call → ℕ → Event → List ℕ → Outcome
step_outcome t n e element = outcome_at t (chosen_of t n e) e element

unfoldable pub step_table : List Call → ℕ → Event → List ℕ → List Call
step_table t n e element = table_at t (chosen_of t n e) e element
