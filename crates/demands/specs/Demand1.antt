-- DEMAND 1, as one statement: every octet string and every call event, in every phase, ends with one of the numbers in
-- the paper; a refusal changes nothing except the one congestion mark, and sends nothing but for 14's and 16's message.
-- That a number is one of the paper's follows from the types of the replies; which it is and when, `Reads` says of
-- octet strings, `Table` and `AnswersExactly` of events.
use Rattle.std.specs.Prelude.{Option, None, ℕ, ◌≤◌, List, ◌⊎◌, ◌≡◌, get_or, set}
use Rattle.sent.specs.declared.Message.{Message}
use Rattle.sent.specs.declared.side.Side.{Side}
use Rattle.event.specs.declared.Event.{Event}
use Rattle.message_fields.specs.Numbers.{read_number}
use Rattle.message.specs.Reading.{read_of}
use Rattle.call.specs.declared.Call.{Call}
use Rattle.call.specs.Sound.{fresh_call}
use Rattle.table.specs.declared.settle.Outcome.{Outcome}
use Rattle.table.specs.Step.{step_outcome, step_table}
use Rattle.call_promises.specs.Numbers.{Informs, Says, other}
use Rattle.call_promises.specs.Refusals.{with_mark, not_ready, rejected_by_network}
use Rattle.table_promises.specs.Table.{LiveAt, number_at}

-- the numbers that an event can end with
pub data Listed : ℕ → Type 0 where
  taken : Listed 0
  out_of_phase : Listed 11
  no_event : Listed 12
  no_service : Listed 13
  spent : Listed 14
  not_open : Listed 15
  not_granted : Listed 16
  bad_element : Listed 17
  asked_required : Listed 18
  no_place : Listed 21
  held : Listed 22
  no_call : Listed 23
  out_of_range : Listed 24
  unsound : Listed 25

-- what a side is sent at the table
abbrev pub out_to : Outcome → Side → Option Message
out_to o Side.Calling = o.dispatch.calling
out_to o Side.Called = o.dispatch.called

-- what a side is sent, and the other side nothing
pub record OneMessage (o : Outcome) (side : Side) (s : Option Message) : Type 0 where
  pub back : out_to o side ≡ s
  pub on : out_to o (other side) ≡ None

-- 14 at USER INFORMATION: one live record of the reference n has the sender's mark set and is else as it was, as all
-- other records are, and the sender is told not ready; or nothing is changed and nothing is sent
pub record MarkSet (t s : List Call) (n : ℕ) (o : Outcome) (side : Side) : Type 0 where
  pub place : ℕ
  pub live : LiveAt t place n
  pub table : s ≡ set t place (with_mark (get_or t place fresh_call) side)
  pub message : OneMessage o side not_ready

pub record NothingDone (t s : List Call) (o : Outcome) (side : Side) : Type 0 where
  pub table : s ≡ t
  pub message : OneMessage o side None

pub record EventEnds (t : List Call) (n : ℕ) (e : Event) (l : List ℕ) : Type 0 where
  pub number : Listed (number_at t n e l)
  pub kept : (number_at t n e l ≡ 0 → ⊥) → (number_at t n e l ≡ 14 → ⊥) → step_table t n e l ≡ t
  pub fourteen :
      number_at t n e l ≡ 14 →
      Informs (λ side. MarkSet t (step_table t n e l) n (step_outcome t n e l) side ⊎ NothingDone t (step_table t n e l) (step_outcome t n e l) side) e
  pub quiet :
      (number_at t n e l ≡ 0 → ⊥) → (number_at t n e l ≡ 14 → ⊥) → (number_at t n e l ≡ 16 → ⊥) →
      (side : Side) → out_to (step_outcome t n e l) side ≡ None
  pub sixteen : number_at t n e l ≡ 16 → Says (λ side what. OneMessage (step_outcome t n e l) side rejected_by_network) e

pub record Demand1 : Type 0 where
  pub octets : (m : List ℕ) → read_number (read_of m) ≤ 5
  pub events : (t : List Call) (n : ℕ) (e : Event) (l : List ℕ) → EventEnds t n e l
