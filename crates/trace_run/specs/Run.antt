-- A trace, worked off piece by piece, with a buffer for what is put out: any p says what that is.
use Rattle.std.specs.Prelude.{Option, Some, None, Result, Ok, Err, ℕ, zero, suc, ◌+◌, ◌-◌, List, [], ◌∷◌, Bool, cond, ◌≡◌, length, drop, leb}
use Rattle.memory.specs.Room.{placed}
use Rattle.call.specs.declared.Call.{Call}
use Rattle.trace.specs.declared.Entry.{Entry}
use Rattle.trace.specs.declared.Fault.{Fault}
use Rattle.trace.specs.Kind.{size_of}
use Rattle.trace_run.specs.declared.Worked.{Worked}
use Rattle.trace_run.specs.Front.{front_of}
use Rattle.trace_run.specs.Course.{turned_at, Answered, answered_at, Output, text_of}

-- what is put out for the record e of a piece t
unfoldable pub line_at : Output → List Call → Entry → List ℕ → List ℕ
line_at p calls e t = p.line (answered_at calls e t)

-- what is made of a piece: the table, how much of the piece was used, its events with their answers, and whether a
-- fault ended the run
pub record Ran : Type 0 where
  pub calls : List Call
  pub used : ℕ
  pub list : List Answered
  pub end : Option Fault

abbrev pub ran_text : Output → Ran → List ℕ
ran_text p r = text_of p r.list r.end

abbrev pub rests : List Call → Ran
rests calls = record { calls = calls; used = 0; list = []; end = None }

abbrev pub ends : List Call → Fault → Ran
ends calls f = record { calls = calls; used = 0; list = []; end = Some f }

-- an event of a record of so many octets, and then what comes after it
abbrev pub goes : ℕ → Answered → Ran → Ran
goes size a r = record { calls = r.calls; used = size + r.used; list = a ∷ r.list; end = r.end }

-- one turn, with room for so many octets
abbrev pub turn_of : Option (Result Entry Fault) → Output → ℕ → List Call → List ℕ → (Entry → Ran) → Ran
turn_of None p room calls t after = rests calls
turn_of (Some (Err f)) p room calls t after = cond (leb (length (p.fault f)) room) (ends calls f) (rests calls)
turn_of (Some (Ok e)) p room calls t after =
    cond (leb (length (line_at p calls e t)) room) (goes (size_of e.kind) (answered_at calls e t) (after e)) (rests calls)

-- at most k records
unfoldable pub run_in : ℕ → Output → Bool → ℕ → List Call → List ℕ → Ran
run_in zero p last room calls t = rests calls
run_in (suc k) p last room calls t =
    turn_of (front_of last t) p room calls t
    (λ e. run_in k p last (room - length (line_at p calls e t)) (turned_at calls e t).calls (drop (size_of e.kind) t))

-- all of them: there are no more records than octets
unfoldable pub trace_run_of : Output → Bool → ℕ → List Call → List ℕ → Ran
trace_run_of p last room calls t = run_in (length t) p last room calls t

abbrev pub so_far : List Call → ℕ → ℕ → ℕ → Option Fault → Worked
so_far calls used wrote records end =
    record { calls = calls; used = used; wrote = wrote; records = records; end = end }

-- the answer r, and the buffer l' that is left: what was put out, and after it the octets that stood there
pub record WorkedOff (p : Output) (last : Bool) (table : List Call) (t l l' : List ℕ) (r : Worked) : Type 0 where
  pub calls : r.calls ≡ (trace_run_of p last (length l) table t).calls
  pub used : r.used ≡ (trace_run_of p last (length l) table t).used
  pub wrote : r.wrote ≡ length (ran_text p (trace_run_of p last (length l) table t))
  pub records : r.records ≡ length (trace_run_of p last (length l) table t).list
  pub end : r.end ≡ (trace_run_of p last (length l) table t).end
  pub buffer : l' ≡ placed 0 (ran_text p (trace_run_of p last (length l) table t)) l
