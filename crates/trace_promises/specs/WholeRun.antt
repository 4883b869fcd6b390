-- What is promised of a trace that is read in pieces, over the definitions: of its events with their answers, whatever
-- a program p puts out for each of them. Each statement is a type; `proofs/` has its proof.
use Rattle.std.specs.Prelude.{Option, Some, None, Ok, Err, ℕ, ◌<◌, ◌≤◌, List, [], ◌++◌, Bool, true, false, ◌≡◌, length, get_or, drop, replicate}
use Rattle.call.specs.declared.Call.{Call}
use Rattle.call.specs.Sound.{fresh_call}
use Rattle.trace.specs.declared.Entry.{Entry}
use Rattle.trace.specs.declared.Fault.{Fault}
use Rattle.trace.specs.Reading.{record_of}
use Rattle.trace_lines.specs.Notices.{first_line}
use Rattle.trace_run.specs.Course.{Course, course_of, Output, text_of, lines}
use Rattle.trace_run.specs.Run.{line_at, Ran, ran_text, trace_run_of}

-- what a program puts out for the course of a trace
abbrev pub course_text : Output → Course → List ℕ
course_text p m = text_of p m.list m.end

-- "The replay program reads standard input and keeps 32 places."
abbrev pub places : List Call
places = replicate 32 fresh_call

-- what is printed of a whole trace; an empty one prints the first line alone
unfoldable pub printed_of : Bool → List ℕ → List ℕ
printed_of explained t = first_line explained ++ course_text (lines explained) (course_of places t)

-- the course of no octets
abbrev pub nothing_at : List Call → Course
nothing_at calls = record { list = []; calls = calls; end = None }

-- what was made of a piece, and, where no fault ended it, what is made of the rest
abbrev pub followed : Ran → Course → Option Fault → Course
followed r m None = record { list = r.list ++ m.list; calls = m.calls; end = m.end }
followed r m (Some f) = record { list = r.list; calls = r.calls; end = Some f }

abbrev pub then_course : Ran → Course → Course
then_course r m = followed r m r.end

-- GOES ON. A piece t of a trace was worked off as far as it went, into a buffer with some room, and what was not used
-- of it is taken up again with whatever comes after it, at the table that it left: the events with their answers, the
-- table and the end are those of the whole. So it does not matter where the trace is cut into pieces, how long they
-- are, how much room there is at a time, or what is put out. Nothing comes after the last piece.
abbrev pub GoesOn : Type 0
GoesOn =
    (p : Output) (last : Bool) (room : ℕ) (calls : List Call) (t more : List ℕ) → (last ≡ true → more ≡ []) →
    course_of calls (t ++ more)
    ≡ then_course (trace_run_of p last room calls t) (course_of (trace_run_of p last room calls t).calls (drop (trace_run_of p last room calls t).used t ++ more))

-- BOUNDED. The line of a record of octets has at most 143 octets, whatever stands in the table: 12 for the four
-- numbers, 6 for the two types, 62 for what each of two messages says, and its end. So in a buffer of 143 octets there
-- is room for any line, and what nothing is printed of there is no whole record: it has at most 143 octets, and more
-- can be read after it; where nothing more comes it has none.
abbrev pub Octets : List ℕ → Type 0
Octets t = (i : ℕ) → get_or t i 0 < 256

abbrev pub longest : ℕ
longest = 143

abbrev pub lines_in : Bool → Bool → ℕ → List Call → List ℕ → List ℕ
lines_in explained last room calls t = ran_text (lines explained) (trace_run_of (lines explained) last room calls t)

pub record Bounds (explained : Bool) (calls : List Call) (t : List ℕ) : Type 0 where
  pub line : (e : Entry) → record_of t ≡ Some (Ok e) → length (line_at (lines explained) calls e t) ≤ longest
  pub fault : (f : Fault) → length ((lines explained).fault f) ≤ longest
  pub waits : (room : ℕ) → longest ≤ room → lines_in explained false room calls t ≡ [] → length t ≤ 143
  pub ends : (room : ℕ) → longest ≤ room → lines_in explained true room calls t ≡ [] → t ≡ []

abbrev pub Bounded : Type 0
Bounded = (explained : Bool) (calls : List Call) (t : List ℕ) → Octets t → Bounds explained calls t

-- there is room for what is put out of what stands at the front
pub record Fits (p : Output) (room : ℕ) (calls : List Call) (t : List ℕ) : Type 0 where
  pub line : (e : Entry) → record_of t ≡ Some (Ok e) → length (line_at p calls e t) ≤ room
  pub fault : (f : Fault) → record_of t ≡ Some (Err f) → length (p.fault f) ≤ room

-- nothing was made of a piece
pub record Idle (r : Ran) : Type 0 where
  pub none : r.list ≡ []
  pub end : r.end ≡ None

-- A RUN of a program that puts out p: whether what it holds is the last, the table, what it holds of a trace, what has
-- yet to be read, what it puts out from here on, and the course that it makes. It reads a part; or nothing comes, and
-- what it holds is the last; or it puts out what it can of what it holds into a buffer, and a fault ends it or it goes
-- on; or nothing could be made of the last, though there was room for what stood there.
pub data Run (p : Output) : Bool → List Call → List ℕ → List ℕ → List ℕ → Course → Type 0 where
  reads :
      {calls : List Call} {made : Course} (held part more : List ℕ) {text : List ℕ}
      → Run p false calls (held ++ part) more text made → Run p false calls held (part ++ more) text made
  nothing :
      {calls : List Call} {made : Course} (held : List ℕ) {text : List ℕ}
      → Run p true calls held [] text made → Run p false calls held [] text made
  prints :
      {calls : List Call} {made : Course} (last : Bool) (room : ℕ) (held more : List ℕ) {text : List ℕ}
      → (trace_run_of p last room calls held).end ≡ None
      → Run p last (trace_run_of p last room calls held).calls (drop (trace_run_of p last room calls held).used held) more text made
      → Run p last calls held more (ran_text p (trace_run_of p last room calls held) ++ text) (followed (trace_run_of p last room calls held) made None)
  faults :
      {calls : List Call} (last : Bool) (room : ℕ) (held more : List ℕ) (f : Fault) → (trace_run_of p last room calls held).end ≡ Some f
      → Run p last calls held more (ran_text p (trace_run_of p last room calls held)) (followed (trace_run_of p last room calls held) (nothing_at calls) (Some f))
  ended :
      {calls : List Call} (room : ℕ) (held : List ℕ) → Fits p room calls held → Idle (trace_run_of p true room calls held)
      → Run p true calls held [] [] (nothing_at calls)

-- WHOLE. However the reads fall and however much room there is at a time, a run from nothing and 32 fresh places makes
-- the course of the whole trace, and puts out what is to be put out for that. So `replay` and `explain` print what is
-- to be printed of it.
pub record Whole (p : Output) (trace text : List ℕ) (made : Course) : Type 0 where
  pub course : made ≡ course_of places trace
  pub out : text ≡ course_text p (course_of places trace)

pub record WholeRun : Type 0 where
  pub any : (p : Output) (trace text : List ℕ) (made : Course) → Run p false places [] trace text made → Whole p trace text made
  pub printed :
      (explained : Bool) (trace text : List ℕ) (made : Course) → Run (lines explained) false places [] trace text made →
      first_line explained ++ text ≡ printed_of explained trace

-- ALWAYS. Whatever a run holds and whatever has yet to come, it can go on to an end: so every trace has a run.
pub record HasRun (p : Output) (last : Bool) (calls : List Call) (held more : List ℕ) : Type 0 where
  pub text : List ℕ
  pub made : Course
  pub run : Run p last calls held more text made

abbrev pub Always : Type 0
Always = (p : Output) (last : Bool) (calls : List Call) (held more : List ℕ) → (last ≡ true → more ≡ []) → HasRun p last calls held more
