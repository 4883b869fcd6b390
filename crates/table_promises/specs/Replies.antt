-- What is sent at the table, and what a taken event leaves there. `AloneMet` in Alone.antt computes runs with events
-- that the table refuses (21, 22, 23), that the call refuses (13) and that are taken.
use Rattle.std.specs.Prelude.{None, ℕ, false, cond, List, ◌≡◌, get_or}
use Rattle.services.specs.declared.ByService.{ByService}
use Rattle.services.specs.declared.Request.{Request}
use Rattle.rights.specs.declared.Rights.{Rights}
use Rattle.user_element.specs.Element.{note_number_of}
use Rattle.answer.specs.Answer.{number_of}
use Rattle.call.specs.declared.Call.{Call}
use Rattle.event.specs.declared.Event.{Event}
use Rattle.call.specs.declared.reply.Reply.{Reply}
use Rattle.call.specs.Sound.{fresh_call}
use Rattle.call.specs.Step.{step_of}
use Rattle.table.specs.declared.settle.Outcome.{Outcome}
use Rattle.table.specs.Choice.{opens_of}
use Rattle.table.specs.Verdict.{verdict_number}
use Rattle.table.specs.Step.{step_outcome, step_table}
use Rattle.call_promises.specs.Ranges.{ReferenceInRange, RightsInRange}
use Rattle.table_promises.specs.Table.{Faulty, Held, Full, Names}

-- "then the table gives 24, 22, 21 for SETUP"
pub data SetupBarred (t : List Call) (reference : ℕ) (rights : Rights) : Type 0 where
  out_of_range : (ReferenceInRange reference × RightsInRange rights → ⊥) → SetupBarred t reference rights
  already_held : Held t reference → SetupBarred t reference rights
  no_place : Full t → SetupBarred t reference rights

-- What the table itself refuses: any event with 25, SETUP as above, "and 23 for other events". n is the reference
-- beside the event, and `opens_of e` says that e is a SETUP.
pub data TableRefuses (t : List Call) (n : ℕ) : Event → Type 0 where
  faulty : (e : Event) → Faulty t → TableRefuses t n e
  setup : (reference : ℕ) (rights : Rights) (requests : ByService Request) →
      SetupBarred t reference rights → TableRefuses t n (Event.Setup reference rights requests)
  other : (e : Event) → opens_of e ≡ false → (Held t n → ⊥) → TableRefuses t n e

-- "11 to 25 .. send nothing", and "Every other refusal has note 0."
pub record Silent (o : Outcome) : Type 0 where
  pub note : note_number_of o.note ≡ 0
  pub calling : o.dispatch.calling ≡ None
  pub called : o.dispatch.called ≡ None
  pub carrier : o.dispatch.carrier ≡ None

-- "SETUP fills the whole record, used for one call": it starts from a fresh one, whatever the place held.
abbrev pub steps_from : Call → Event → Call
steps_from c e = cond (opens_of e) fresh_call c

-- the number and note of the reply r, what it sends, and where the number is 0 its record at the place
pub record Gives (s : List Call) (place : ℕ) (o : Outcome) (r : Reply) : Type 0 where
  pub number : verdict_number o.verdict ≡ number_of r.answer
  pub note : o.note ≡ r.note
  pub dispatch : o.dispatch ≡ r.dispatch
  pub holds : number_of r.answer ≡ 0 → get_or s place fresh_call ≡ r.call

-- the reply of the call at the place that the event names: the lowest free one for SETUP, for others that of the live
-- call of their reference
pub record Own (t s : List Call) (n : ℕ) (e : Event) (element : List ℕ) (o : Outcome) : Type 0 where
  pub place : ℕ
  pub named : Names t n place e
  pub reply : Gives s place o (step_of (steps_from (get_or t place fresh_call) e) e element)

-- REPLIES. Where the table itself refuses, nothing is sent and the note is 0. Otherwise number, note and what is sent
-- are those of the call's own reply, and where it is taken the place holds the record of that reply.
abbrev pub Replies : Type 0
Replies =
    (t : List Call) (n : ℕ) (e : Event) (element : List ℕ) →
    (TableRefuses t n e → Silent (step_outcome t n e element))
    × ((TableRefuses t n e → ⊥) → Own t (step_table t n e element) n e element (step_outcome t n e element))
