-- What is put at a place, or nowhere; and that look, plan and commit are a step.
use Rattle.std.specs.Prelude.{Result, Ok, Err}
use Rattle.table.specs.declared.verdict.Verdict.{Verdict}
use mathlib.Core.Path.{◌≡◌, refl}
use Prim.Native.Nat.{ℕ}
use mathlib.Core.List.{List}
use Rattle.call.specs.declared.Call.{Call}
use Rattle.event.specs.declared.Event.{Event}
use Rattle.table.specs.Halves.{look_at, look_of, committed}
use Rattle.table.specs.Plan.{plan_of}
use Rattle.table.specs.Step.{outcome_at, table_at, step_outcome, step_table}
use Rattle.table.specs.Choice.{chosen_of}

told_at : (l : List Call) (c : Result ℕ Verdict) (e : Event) (es : List ℕ) → (plan_of (look_at l c) e es).outcome ≡ outcome_at l c e es
told_at l (Ok i) e es = refl
told_at l (Err v) e es = refl

put_at : (l : List Call) (c : Result ℕ Verdict) (e : Event) (es : List ℕ) → committed l (plan_of (look_at l c) e es).put ≡ table_at l c e es
put_at l (Ok i) e es = refl
put_at l (Err v) e es = refl

pub plan_told : (l : List Call) (k : ℕ) (e : Event) (es : List ℕ) → (plan_of (look_of l k e) e es).outcome ≡ step_outcome l k e es
unfolding look_of step_outcome
plan_told l k e es = told_at l (chosen_of l k e) e es

pub plan_put : (l : List Call) (k : ℕ) (e : Event) (es : List ℕ) → committed l (plan_of (look_of l k e) e es).put ≡ step_table l k e es
unfolding look_of step_table
plan_put l k e es = put_at l (chosen_of l k e) e es
