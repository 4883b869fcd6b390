-- An event at the table in halves: `look`, `plans` and `commit`, for a host that has something to do between the answer
-- and the change.
use Rattle.std.specs.Prelude.{Option, Some, None, ℕ, ◌<◌, List, [], ◌∷◌, ◌≡◌, length, get_or}
use Rattle.table.specs.declared.plan.Seat.{Seat}
use Rattle.call.specs.declared.Call.{Call}
use Rattle.event.specs.declared.Event.{Event}
use Rattle.call.specs.Sound.{fresh_call}
use Rattle.table.specs.declared.plan.Plan.{Plan}
use Rattle.table.specs.Halves.{look_of, committed}
use Rattle.table.specs.Plan.{plan_of}
use Rattle.table.specs.Step.{step_outcome, step_table}
use Rattle.table_promises.specs.Alone.{setup}
use Rattle.table_promises.specs.Table.{number_at}

-- what `plans` makes of what `look` shows of a table
abbrev pub plan_for : List Call → ℕ → Event → List ℕ → Plan
plan_for t n e element = plan_of (look_of t n e) e element

pub record InHalves (t : List Call) (n : ℕ) (e : Event) (element : List ℕ) : Type 0 where
  pub outcome : (plan_for t n e element).outcome ≡ step_outcome t n e element
  pub table : committed t (plan_for t n e element).put ≡ step_table t n e element

-- HALVES. For every table, reference, event and element: one after the other they are `step`, with the same outcome and
-- the same table afterwards. So whatever is promised of a step is promised of its halves.
abbrev pub Halves : Type 0
Halves = (t : List Call) (n : ℕ) (e : Event) (element : List ℕ) → InHalves t n e element

-- what a change makes of a table s: its record stands at its place, whatever stood there, and no other place changes
pub data Puts (s after : List Call) : Option Seat → Type 0 where
  nowhere : after ≡ s → Puts s after None
  somewhere : {i : ℕ} {c : Call} →
      (i < length s → get_or after i fresh_call ≡ c) → ((j : ℕ) → (j ≡ i → ⊥) → get_or after j fresh_call ≡ get_or s j fresh_call) →
      length after ≡ length s → Puts s after (Some (record { place = i; call = c }))

-- STALE. A plan made from an older table t does to the table s of now what it was made for: `commit` does not look
-- again. Whoever steps in halves lets nothing else change the table in between.
abbrev pub Stale : Type 0
Stale =
    (t s : List Call) (n : ℕ) (e : Event) (element : List ℕ) →
    Puts s (committed s (plan_for t n e element).put) (plan_for t n e element).put

-- a table of one place, before and after the SETUP of reference 5
abbrev pub older : List Call
older = fresh_call ∷ []

abbrev pub newer : List Call
newer = step_table older 5 (setup 5).event (setup 5).element

-- STALE MET. A SETUP of reference 6 planned from the older table takes the place, where a step would be answered 21,
-- "no free place".
pub record StaleMet : Type 0 where
  pub held : (get_or newer 0 fresh_call).reference ≡ 5
  pub lost : (get_or (committed newer (plan_for older 6 (setup 6).event (setup 6).element).put) 0 fresh_call).reference ≡ 6
  pub step : number_at newer 6 (setup 6).event (setup 6).element ≡ 21
