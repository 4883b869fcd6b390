-- What each record of a trace does, and where a faulty one stands. Nothing here names how the course is worked out.
use Rattle.std.specs.Prelude.{Option, Some, None, Ok, Err, ℕ, ◌+◌, List, [], ◌∷◌, Bool, ◌≡◌, length, drop}
use Rattle.call.specs.declared.Call.{Call}
use Rattle.table.specs.Step.{step_outcome, step_table}
use Rattle.trace.specs.declared.Entry.{Entry}
use Rattle.trace.specs.declared.Fault.{Fault}
use Rattle.trace.specs.Kind.{size_of}
use Rattle.trace.specs.Reading.{record_of, element_of}
use Rattle.trace_lines.specs.Words.{words_of}
use Rattle.trace_run.specs.Course.{Answered, Course, course_of, Output}
use Rattle.trace_run.specs.Run.{trace_run_of}
use Rattle.trace_promises.specs.WholeRun.{nothing_at, places}

-- one event at the front of what comes after it
abbrev pub before : Answered → Course → Course
before a m = record { list = a ∷ m.list; calls = m.calls; end = m.end }

-- HEEDED. A record does in a trace what its event does at the table, with its element; the rest goes on at the table
-- that it leaves. A trace ends where there are no octets, and at the first faulty record.
pub record Heeded : Type 0 where
  pub taken :
      (calls : List Call) (t : List ℕ) (x : Entry) → record_of t ≡ Some (Ok x) →
      course_of calls t
      ≡ before (record { entry = x; outcome = step_outcome calls x.reference x.event (element_of x t) })
      (course_of (step_table calls x.reference x.event (element_of x t)) (drop (size_of x.kind) t))
  pub ended : (calls : List Call) (t : List ℕ) → record_of t ≡ None → course_of calls t ≡ nothing_at calls
  pub faulty :
      (calls : List Call) (t : List ℕ) (f : Fault) → record_of t ≡ Some (Err f) →
      course_of calls t ≡ record { list = []; calls = calls; end = Some f }

-- the octets of the records of events
abbrev pub span_of : List Answered → ℕ
span_of [] = 0
span_of (a ∷ rest) = size_of a.entry.kind + span_of rest

-- PLACES. What is used of a piece is the records of its events; and a fault is that of the record behind the events, so
-- that its number, from 1, and the octet at which it begins are these.
pub record Places : Type 0 where
  pub used :
      (p : Output) (last : Bool) (room : ℕ) (calls : List Call) (t : List ℕ) →
      (trace_run_of p last room calls t).used ≡ span_of (trace_run_of p last room calls t).list
  pub fault :
      (calls : List Call) (t : List ℕ) (f : Fault) → (course_of calls t).end ≡ Some f →
      record_of (drop (span_of (course_of calls t).list) t) ≡ Some (Err f)

-- what is said on standard error of a whole trace
abbrev pub said_at : Course → Option Fault → List ℕ
said_at m None = []
said_at m (Some f) = words_of (length m.list + 1) (span_of m.list) f

unfoldable pub said_of : List ℕ → List ℕ
said_of t = said_at (course_of places t) (course_of places t).end
