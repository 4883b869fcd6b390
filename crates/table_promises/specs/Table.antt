-- What is promised of the table, over the definitions. Each statement is a type; `proofs/Table.antt` has its proof.
use Rattle.services.specs.declared.ByService.{ByService}
use Rattle.services.specs.declared.Request.{Request}
use Rattle.std.specs.Prelude.{ℕ, ◌<◌, cond, List, [], ◌∷◌, ◌⊎◌, ◌≡◌, length, get_or, set}
use Rattle.logic.specs.First.{Rows, end, row, Exactly}
use Rattle.phases.specs.declared.Phase.{Phase}
use Rattle.answer.specs.Answer.{number_of}
use Rattle.call.specs.declared.Call.{Call}
use Rattle.event.specs.declared.Event.{Event}
use Rattle.call.specs.Sound.{fresh_call}
use Rattle.call.specs.Step.{step_of}
use Rattle.call_promises.specs.Ranges.{ReferenceInRange, RightsInRange, InRangeCall}
use Rattle.table.specs.Sought.{live_as}
use Rattle.table.specs.Verdict.{verdict_number}
use Rattle.table.specs.Step.{step_outcome, step_table}
use Rattle.rights.specs.declared.Rights.{Rights}

-- "Places Fresh or Ended are free, all others are live"
abbrev pub Free : Phase → Type 0
Free p = (p ≡ Phase.Fresh) ⊎ (p ≡ Phase.Ended)

-- a live record of the reference n, at the place i
pub record LiveAt (t : List Call) (i n : ℕ) : Type 0 where
  pub within : i < length t
  pub live : Free (get_or t i fresh_call).phase → ⊥
  pub reference : (get_or t i fresh_call).reference ≡ n

abbrev pub Held : List Call → ℕ → Type 0
Held t n = (i : ℕ) × LiveAt t i n

-- no place is free
abbrev pub Full : List Call → Type 0
Full t = (i : ℕ) → i < length t → Free (get_or t i fresh_call).phase → ⊥

-- "table over 32 records, two live records of one reference, or a live record or meter with a field out of range,
-- credit over X or count over 2"
pub data Faulty (t : List Call) : Type 0 where
  over : 32 < length t → Faulty t
  twins : (i j n : ℕ) → i < j → LiveAt t i n → LiveAt t j n → Faulty t
  unsound : (i n : ℕ) → LiveAt t i n → (InRangeCall (get_or t i fresh_call) → ⊥) → Faulty t

-- the live record of the reference n, where there is one
abbrev pub held_call : List Call → ℕ → Call
held_call [] n = fresh_call
held_call (c ∷ cs) n = cond (live_as c n) c (held_call cs n)

-- the event is SETUP, and P holds of its reference and rights
pub data SetsUp (P : ℕ → Rights → Type 0) : Event → Type 0 where
  setup : {reference : ℕ} {rights : Rights} {requests : ByService Request} → P reference rights → SetsUp P (Event.Setup reference rights requests)

-- any other event
abbrev pub Other : Event → Type 0
Other e = SetsUp (λ reference rights. Unit {0}) e → ⊥

-- TABLE. "25 comes first of 11 to 25; then the table gives 24, 22, 21 for SETUP and 23 for other events; then the
-- call". A SETUP that the table does not refuse is taken.
abbrev pub table_rows : List Call → ℕ → Event → List ℕ → Rows
table_rows t n e element =
    row (Faulty t) 25
    (row (SetsUp (λ reference rights. ReferenceInRange reference × RightsInRange rights → ⊥) e) 24
    (row (SetsUp (λ reference rights. Held t reference) e) 22
    (row (SetsUp (λ reference rights. Full t) e) 21
    (row (Other e × (Held t n → ⊥)) 23
    (row (Other e) (number_of (step_of (held_call t n) e element).answer) end)))))

abbrev pub number_at : List Call → ℕ → Event → List ℕ → ℕ
number_at t n e element = verdict_number (step_outcome t n e element).verdict

abbrev pub Table : Type 0
Table = (t : List Call) (n : ℕ) (e : Event) (element : List ℕ) → Exactly (table_rows t n e element) (number_at t n e element)

-- REFUSED. "11 to 25 change no call, meter or table .., except: 14": every record is as it was.
abbrev pub RefusalsKeep : Type 0
RefusalsKeep =
    (t : List Call) (n : ℕ) (e : Event) (element : List ℕ) →
    (number_at t n e element ≡ 0 → ⊥) → (number_at t n e element ≡ 14 → ⊥) → step_table t n e element ≡ t

-- ONE PLACE. A step leaves the table as long as it was, and changes at most one place of it.
pub record OneChanged (t s : List Call) : Type 0 where
  pub place : ℕ
  pub others : (j : ℕ) → (j ≡ place → ⊥) → get_or s j fresh_call ≡ get_or t j fresh_call
  pub same : length s ≡ length t

abbrev pub OnePlace : Type 0
OnePlace = (t : List Call) (n : ℕ) (e : Event) (element : List ℕ) → OneChanged t (step_table t n e element)

-- NAMED. Every record that a step does not name is left as it was: a place that changes is the lowest free one, for
-- SETUP, or that of the live call of the event's reference.
pub record Lowest (t : List Call) (i : ℕ) : Type 0 where
  pub within : i < length t
  pub free : Free (get_or t i fresh_call).phase
  pub lower : (j : ℕ) → j < i → Free (get_or t j fresh_call).phase → ⊥

pub data Names (t : List Call) (n i : ℕ) : Event → Type 0 where
  lowest : {reference : ℕ} {rights : Rights} {requests : ByService Request} → Lowest t i → Names t n i (Event.Setup reference rights requests)
  holding : {e : Event} → Other e → LiveAt t i n → Names t n i e

abbrev pub Named : Type 0
Named =
    (t : List Call) (n : ℕ) (e : Event) (element : List ℕ) (i : ℕ) →
    (get_or (step_table t n e element) i fresh_call ≡ get_or t i fresh_call → ⊥) → Names t n i e

-- FOURTEEN. "14 may set the not-ready mark": then one live record of the event's reference is what the call itself made
-- of it, answering 14, and all others are as they were. What that changes in the record is the call's to promise.
pub record OneSpent (t s : List Call) (n : ℕ) (e : Event) (element : List ℕ) : Type 0 where
  pub place : ℕ
  pub live : LiveAt t place n
  pub answer : number_of (step_of (get_or t place fresh_call) e element).answer ≡ 14
  pub table : s ≡ set t place (step_of (get_or t place fresh_call) e element).call

abbrev pub Fourteen : Type 0
Fourteen =
    (t : List Call) (n : ℕ) (e : Event) (element : List ℕ) →
    number_at t n e element ≡ 14 → OneSpent t (step_table t n e element) n e element
