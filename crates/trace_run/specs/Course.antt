-- The course of a trace at a table: its events, each with what it is answered. What a program prints or counts is made
-- from that list.
use Rattle.std.specs.Prelude.{Option, Some, None, Result, Ok, Err, ℕ, zero, suc, List, [], ◌∷◌, ◌++◌, Bool, length, drop}
use Rattle.call.specs.declared.Call.{Call}
use Rattle.table.specs.declared.settle.Outcome.{Outcome}
use Rattle.table.specs.Step.{step_outcome, step_table}
use Rattle.trace.specs.declared.Entry.{Entry}
use Rattle.trace.specs.declared.Fault.{Fault}
use Rattle.trace.specs.Kind.{size_of}
use Rattle.trace.specs.Reading.{record_of, element_of}
use Rattle.trace_lines.specs.Line.{line_of}
use Rattle.trace_lines.specs.Notices.{fault_line}
use Rattle.trace_run.specs.Entry.{columns_of}

-- the table that an event leaves, and what it is answered
pub record Turned : Type 0 where
  pub calls : List Call
  pub outcome : Outcome

-- the record's event at the table: its element is a part of the trace
unfoldable pub turned_at : List Call → Entry → List ℕ → Turned
turned_at calls e t =
    record {
      calls = step_table calls e.reference e.event (element_of e t);
      outcome = step_outcome calls e.reference e.event (element_of e t);
    }

-- an event as its record has it, and what it is answered
pub record Answered : Type 0 where
  pub entry : Entry
  pub outcome : Outcome

unfoldable pub answered_at : List Call → Entry → List ℕ → Answered
answered_at calls e t = record { entry = e; outcome = (turned_at calls e t).outcome }

-- the events with their answers, the table that is left, and whether a fault ends them
pub record Course : Type 0 where
  pub list : List Answered
  pub calls : List Call
  pub end : Option Fault

abbrev pub course_by : Option (Result Entry Fault) → List Call → List ℕ → (Entry → Course) → Course
course_by None calls t after = record { list = []; calls = calls; end = None }
course_by (Some (Err f)) calls t after = record { list = []; calls = calls; end = Some f }
course_by (Some (Ok e)) calls t after =
    record { list = answered_at calls e t ∷ (after e).list; calls = (after e).calls; end = (after e).end }

-- at most k records
unfoldable pub course_in : ℕ → List Call → List ℕ → Course
course_in zero calls t = record { list = []; calls = calls; end = None }
course_in (suc k) calls t =
    course_by (record_of t) calls t (λ e. course_in k (turned_at calls e t).calls (drop (size_of e.kind) t))

-- all of them: there are no more records than octets
unfoldable pub course_of : List Call → List ℕ → Course
course_of calls t = course_in (length t) calls t

-- what a program puts out for an event with its answer, and for a fault
pub record Output : Type 0 where
  pub line : Answered → List ℕ
  pub fault : Fault → List ℕ

-- what it puts out at an end
abbrev pub end_text : Output → Option Fault → List ℕ
end_text p None = []
end_text p (Some f) = p.fault f

-- what it puts out for events and their end
abbrev pub text_of : Output → List Answered → Option Fault → List ℕ
text_of p [] e = end_text p e
text_of p (a ∷ rest) e = p.line a ++ text_of p rest e

-- "then one line a record", of `replay` or, explained, of `explain`; "A trace fault prints `error 31` (or 32, 33)"
abbrev pub lines : Bool → Output
lines explained = record { line = λ a. line_of explained (columns_of a.entry a.outcome); fault = fault_line }
