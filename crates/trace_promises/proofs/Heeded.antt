-- What each record of a trace does, and where a faulty one stands.
use Rattle.std.specs.Prelude.{Option, Some, None, Result, Ok, Err}
use Prim.Native.Nat.{ℕ, zero, suc, ◌+◌}
use mathlib.Core.List.{List}
use mathlib.Core.Bool.{Bool}
use mathlib.Core.Path.{◌≡◌, refl, sym, ap, ◌∙◌}
use native.Mathlib.Omega.{arith}
use lib.Dec.{leb}
use lib.ListN.{length, drop}
use lib.Seq.{drop-drop}
use Rattle.logic.proofs.Decide.{by_cond}
use Rattle.call.specs.declared.Call.{Call}
use Rattle.trace.specs.declared.Entry.{Entry}
use Rattle.trace.specs.declared.Fault.{Fault}
use Rattle.trace.specs.Kind.{size_of}
use Rattle.trace.specs.Reading.{record_of}
use Rattle.trace_run.specs.Front.{front_of}
use Rattle.trace_run.specs.Course.{turned_at, answered_at, Course, course_by, course_in, course_of, Output}
use Rattle.trace_run.specs.Run.{line_at, Ran, rests, ends, goes, turn_of, run_in, trace_run_of}
use Rattle.trace_promises.specs.Heeded.{Heeded, span_of, Places}
use Rattle.trace_promises.proofs.Making.{after, course_end, course_fault, course_taken}

pub heeded : Heeded
unfolding turned_at answered_at after
heeded = record { taken = λ calls t x h. course_taken calls t x h; ended = course_end; faulty = course_fault }

-- what is used is the records of the events
abbrev Spans : Ran → Type 0
Spans r = r.used ≡ span_of r.list

module _ (p : Output) (room : ℕ) (calls : List Call) (t : List ℕ) (next : Entry → Ran) (then : (e : Entry) → Spans (next e)) where
  spans_turn : (f : Option (Result Entry Fault)) → Spans (turn_of f p room calls t next)
  unfolding answered_at
  spans_turn None = refl
  spans_turn (Some (Err f)) = by_cond Spans (leb (length (p.fault f)) room) {x = ends calls f} {y = rests calls} (λ _. refl) (λ _. refl)
  spans_turn (Some (Ok e)) =
      by_cond Spans (leb (length (line_at p calls e t)) room) {x = goes (size_of e.kind) (answered_at calls e t) (next e)} {y = rests calls} (λ _. ap (λ (n : ℕ). size_of e.kind + n) (then e)) (λ _. refl)

spans : (k : ℕ) (p : Output) (last : Bool) (room : ℕ) (calls : List Call) (t : List ℕ) → Spans (run_in k p last room calls t)
unfolding run_in
spans zero p last room calls t = refl
spans (suc k) p last room calls t = spans_turn p room calls t _ (λ e. spans k p last _ _ _) (front_of last t)

-- a fault is that of the record behind the events
abbrev Behind : List ℕ → Course → Type 0
Behind t m = (f : Fault) → m.end ≡ Some f → record_of (drop (span_of m.list) t) ≡ Some (Err f)

behind_by : (calls : List Call) (t : List ℕ) (next : Entry → Course) → ((e : Entry) → Behind (drop (size_of e.kind) t) (next e)) → (r : Option (Result Entry Fault)) → record_of t ≡ r → Behind t (course_by r calls t next)
unfolding answered_at
behind_by calls t next then None h f e = let z : ◌≡◌ {A = ℕ} 0 1 = cc in absurd (omega arith)
behind_by calls t next then (Some (Err g)) h f e = let s : Some (Err g) ≡ Some (Err f) = cc in h ∙ s
behind_by calls t next then (Some (Ok x)) h f e = rw (sym (drop-drop (span_of (next x).list) (size_of x.kind) t)) (then x f e)

behind : (k : ℕ) (calls : List Call) (t : List ℕ) → Behind t (course_in k calls t)
unfolding course_in
behind zero calls t f e = let z : ◌≡◌ {A = ℕ} 0 1 = cc in absurd (omega arith)
behind (suc k) calls t f e = behind_by calls t _ (λ x. behind k _ _) (record_of t) refl f e

pub places_hold : Places
unfolding trace_run_of course_of
places_hold =
    record {
      used = λ p last room calls t. spans (length t) p last room calls t;
      fault = λ calls t. behind (length t) calls t;
    }
