-- What an event makes of the record that it goes to.
use Rattle.std.specs.Prelude.{ℕ, Bool, true, false, cond, List, Option}
use Rattle.user_element.specs.declared.Note.{Note}
use Rattle.answer.specs.declared.Answer.{Answer}
use Rattle.sent.specs.Dispatch.{nothing_sent}
use Rattle.call.specs.declared.Call.{Call}
use Rattle.event.specs.declared.Event.{Event}
use Rattle.call.specs.declared.reply.Reply.{Reply}
use Rattle.call.specs.Sound.{fresh_call}
use Rattle.call.specs.Step.{step_of}
use Rattle.table.specs.declared.verdict.Verdict.{Verdict}
use Rattle.table.specs.declared.choice.Opening.{Opening}
use Rattle.table.specs.declared.settle.Outcome.{Outcome}
use Rattle.table.specs.declared.settle.Settled.{Settled}
use Rattle.table.specs.Choice.{wanted_of, is_new}

-- "SETUP fills the whole record, used for one call": it starts from a fresh one
unfoldable pub subject_of : Call → Option Opening → Call
subject_of c w = cond (is_new w) fresh_call c

-- "11 to 25 change no call, meter or table .., except: 14 may set the not-ready mark"
abbrev pub changes_of : Answer → Bool
changes_of Answer.Taken = true
changes_of Answer.OutOfPhase = false
changes_of Answer.NotAnEvent = false
changes_of Answer.NoService = false
changes_of Answer.Spent = true
changes_of Answer.NotOpen = false
changes_of Answer.NotGranted = false
changes_of Answer.BadElement = false
changes_of Answer.AskedRequired = false
changes_of Answer.OutOfRange = false
changes_of Answer.Unsound = false

-- what a place that held c holds after the reply r
unfoldable pub record_kept_of : Call → Reply → Call
record_kept_of c r = cond (changes_of r.answer) r.call c

unfoldable pub heard_outcome_of : Reply → Outcome
heard_outcome_of r = record { verdict = Verdict.Heard r.answer; note = r.note; dispatch = r.dispatch }

-- a number of the table's: "send nothing", and "Every other refusal has note 0"
unfoldable pub table_refusal_of : Verdict → Outcome
table_refusal_of v = record { verdict = v; note = Note.Clear; dispatch = nothing_sent }

unfoldable pub settled_of : Call → Event → List ℕ → Settled
settled_of c e element =
    record {
      call = record_kept_of c (step_of (subject_of c (wanted_of e)) e element);
      outcome = heard_outcome_of (step_of (subject_of c (wanted_of e)) e element);
    }
