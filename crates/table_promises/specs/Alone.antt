-- "Two runs from such tables, all Fresh, that agree on one reference's events, and on which of its SETUPs met 21, give
-- that reference the same answers."
use Rattle.std.specs.Prelude.{ℕ, ◌<◌, ◌≤◌, Bool, false, cond, List, [], ◌∷◌, ◌≡◌, eqb, length, get_or}
use Rattle.rights.specs.declared.Rights.{Rights}
use Rattle.services.specs.declared.Given.{Given}
use Rattle.services.specs.declared.Request.{Request}
use Rattle.phases.specs.declared.Phase.{Phase}
use Rattle.sent.specs.declared.side.Side.{Side}
use Rattle.call.specs.declared.Call.{Call}
use Rattle.event.specs.declared.Event.{Event}
use Rattle.call.specs.Sound.{fresh_call}
use Rattle.table.specs.declared.settle.Outcome.{Outcome}
use Rattle.table.specs.Choice.{meant_reference_of, opens_of}
use Rattle.table.specs.Verdict.{verdict_number}
use Rattle.table.specs.Step.{step_outcome, step_table}

-- an event as it is offered at a table
pub record Addressed : Type 0 where
  pub reference : ℕ
  pub event : Event
  pub element : List ℕ

-- an event and what it was answered
pub record Response : Type 0 where
  pub offered : Addressed
  pub outcome : Outcome

-- a run: each event meets the table that the one before it left
abbrev pub table_run_of : List Call → List Addressed → List Response
table_run_of t [] = []
table_run_of t (o ∷ os) =
    record { offered = o; outcome = step_outcome t o.reference o.event o.element }
    ∷ table_run_of (step_table t o.reference o.event o.element) os

-- the part of a run that is about the reference n
abbrev pub own_of : ℕ → List Response → List Response
own_of n [] = []
own_of n (u ∷ us) = cond (eqb (meant_reference_of u.offered.reference u.offered.event) n) (u ∷ own_of n us) (own_of n us)

-- its events, each with its element
abbrev pub events_of : List Response → List (Event × List ℕ)
events_of [] = []
events_of (u ∷ us) = (u.offered.event, u.offered.element) ∷ events_of us

-- which of its SETUPs met 21
abbrev pub full_of : List Response → List Bool
full_of [] = []
full_of (u ∷ us) = cond (opens_of u.offered.event) (eqb (verdict_number u.outcome.verdict) 21 ∷ full_of us) (full_of us)

-- its answers: verdict, note and both messages
abbrev pub outcomes_of : List Response → List Outcome
outcomes_of [] = []
outcomes_of (u ∷ us) = u.outcome ∷ outcomes_of us

-- a table of at most 32 records, all Fresh
pub record AllFresh (t : List Call) : Type 0 where
  pub most : length t ≤ 32
  pub fresh : (i : ℕ) → i < length t → (get_or t i fresh_call).phase ≡ Phase.Fresh

-- ALONE. The tables' lengths, and the events of other references, are free.
abbrev pub Alone : Type 0
Alone =
    (n : ℕ) (t t' : List Call) (os os' : List Addressed) → AllFresh t → AllFresh t' →
    events_of (own_of n (table_run_of t os)) ≡ events_of (own_of n (table_run_of t' os')) →
    full_of (own_of n (table_run_of t os)) ≡ full_of (own_of n (table_run_of t' os')) →
    outcomes_of (own_of n (table_run_of t os)) ≡ outcomes_of (own_of n (table_run_of t' os'))

-- MET. Two runs that agree so: at a table of one place and of two, with other references' events in between. The first
-- SETUP of reference 5 meets 21 in both.
abbrev pub offers : ℕ → Event → Addressed
offers n e = record { reference = n; event = e; element = [] }

abbrev pub rights : Rights
rights = record { services = 7; late = false; leave = false; limit = 131; burst = 2; refill = 1 }

abbrev pub setup : ℕ → Addressed
setup n = offers 0 (Event.Setup n rights (record { one = Request.Unasked; two = Request.Unasked; three = Request.Unasked }))

abbrev pub alerting : ℕ → Addressed
alerting n = offers n (Event.Alerting (record { one = Given.Silent; two = Given.Silent; three = Given.Silent }))

abbrev pub says : ℕ → Addressed
says n = record { reference = n; event = Event.Information Side.Calling false; element = 126 ∷ 2 ∷ 4 ∷ 65 ∷ [] }

abbrev pub ends : ℕ → Addressed
ends n = offers n (Event.ReleaseComplete Side.Called)

abbrev pub ticks : ℕ → Addressed
ticks n = offers n Event.Tick

abbrev pub one_run : List Response
one_run =
    own_of 5
    (table_run_of (fresh_call ∷ [])
    (setup 9 ∷ setup 5 ∷ ends 9 ∷ setup 5 ∷ ticks 9 ∷ alerting 5 ∷ setup 5 ∷ says 5 ∷ ends 5 ∷ setup 9 ∷ ticks 5 ∷ []))

abbrev pub two_run : List Response
two_run =
    own_of 5
    (table_run_of (fresh_call ∷ fresh_call ∷ [])
    (setup 7 ∷ setup 8 ∷ alerting 7 ∷ setup 5 ∷ ends 8 ∷ setup 5 ∷ alerting 5 ∷ ends 7 ∷ setup 5 ∷ says 5 ∷ ends 5 ∷ ticks 5 ∷ []))

abbrev pub numbers_of : List Response → List ℕ
numbers_of [] = []
numbers_of (u ∷ us) = verdict_number u.outcome.verdict ∷ numbers_of us

pub record AloneMet : Type 0 where
  pub one : AllFresh (fresh_call ∷ [])
  pub two : AllFresh (fresh_call ∷ fresh_call ∷ [])
  pub events : events_of one_run ≡ events_of two_run
  pub full : full_of one_run ≡ full_of two_run
  pub numbers : numbers_of one_run ≡ 21 ∷ 0 ∷ 0 ∷ 22 ∷ 13 ∷ 0 ∷ 23 ∷ []

-- NEEDED. The same SETUP at a table of no place and of one: which SETUPs met 21 is not in the events.
pub record Needed : Type 0 where
  pub none : AllFresh []
  pub events : events_of (own_of 5 (table_run_of [] (setup 5 ∷ []))) ≡ events_of (own_of 5 (table_run_of (fresh_call ∷ []) (setup 5 ∷ [])))
  pub nowhere : numbers_of (own_of 5 (table_run_of [] (setup 5 ∷ []))) ≡ 21 ∷ []
  pub somewhere : numbers_of (own_of 5 (table_run_of (fresh_call ∷ []) (setup 5 ∷ []))) ≡ 0 ∷ []
