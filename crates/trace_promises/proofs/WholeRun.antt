-- The promises, and what they rest on.
use Rattle.std.specs.Prelude.{Option, Some, None, Result, Ok, Err}
use Prim.Native.Nat.{ℕ, zero, suc, ◌≤◌}
use mathlib.Core.List.{List, [], ◌∷◌, ◌++◌, append_assoc, append-nil}
use mathlib.Core.Bool.{Bool, true, false, cond}
use mathlib.Core.Logic.{◌⊎◌, inl, inr, ⊎_elim}
use mathlib.Core.Path.{◌≡◌, refl, sym, ap, ◌∙◌}
use native.Mathlib.Omega.{arith}
use borrow.Author.Tests.{le-leb}
use lib.Dec.{leb}
use lib.ListN.{length, drop, length-append, length-drop}
use Rattle.call.specs.declared.Call.{Call}
use Rattle.trace.specs.declared.Entry.{Entry}
use Rattle.trace.specs.declared.Fault.{Fault}
use Rattle.trace.specs.Reading.{record_of}
use Rattle.trace.proofs.Rows.{least}
use Rattle.trace_run.specs.Front.{heeded_of, front_of}
use Rattle.trace_run.specs.Course.{Answered, Course, course_of, Output, text_of, lines}
use Rattle.trace_run.specs.Run.{line_at, Ran, ran_text, turn_of, run_in, trace_run_of}
use Rattle.trace_promises.specs.WholeRun.{course_text, places, printed_of, followed, GoesOn, Octets, longest, Bounded, Fits, Idle, Run, Whole, WholeRun, HasRun, Always}
use Rattle.logic.proofs.Decide.{by_cond}
use Rattle.trace_promises.proofs.Fronts.{record_none}
use Rattle.trace_promises.proofs.Making.{taken, none_left, cut_short, course_end, Went, went}
use Rattle.trace_promises.proofs.Lines.{record_short, line_some, fault_short}

piece : (p : Output) (last : Bool) (room : ℕ) (calls : List Call) (t more : List ℕ) → (last ≡ true → more ≡ []) → Went calls t more (trace_run_of p last room calls t)
unfolding trace_run_of
piece p last room calls t more end = went (length t) p last room calls t more end

pub goes_on : GoesOn
goes_on p last room calls t more end = (piece p last room calls t more end).made

-- where there is room for what stands at the front and nothing is made of it, there is no whole record
module _ (p : Output) (last : Bool) (calls : List Call) (room : ℕ) where
  abbrev Resting : Option (Result Entry Fault) → Type 0
  Resting None = Unit {0}
  Resting (Some (Ok e)) = ⊥
  Resting (Some (Err Fault.Kind)) = ⊥
  Resting (Some (Err Fault.Short)) = last ≡ false
  Resting (Some (Err (Fault.Range x))) = ⊥

  module _ (t : List ℕ) (fits : Fits p room calls t) (next : Entry → Ran) where
    fault_resting : (f : Fault) → record_of t ≡ Some (Err f) → Idle (turn_of (Some (Err f)) p room calls t next) → ⊥
    fault_resting f e h =
        let s = rw (le-leb (length (p.fault f)) room (fits.fault f e)) at h.end in
        let z : ◌≡◌ {A = ℕ} 0 1 = cc in
        omega arith

    short_resting : (b : Bool) → record_of t ≡ Some (Err Fault.Short) → Idle (turn_of (cond b (Some (Err Fault.Short)) None) p room calls t next) → b ≡ false
    short_resting true e h = absurd (fault_resting Fault.Short e h)
    short_resting false e h = refl

    resting_turn : (r : Option (Result Entry Fault)) → record_of t ≡ r → Idle (turn_of (heeded_of last r) p room calls t next) → Resting r
    resting_turn None e h = tt
    resting_turn (Some (Ok x)) e h =
        let s = rw (le-leb (length (line_at p calls x t)) room (fits.line x e)) at h.none in
        let n = ap length s in
        omega arith
    resting_turn (Some (Err Fault.Kind)) e h = fault_resting Fault.Kind e h
    resting_turn (Some (Err Fault.Short)) e h = short_resting last e h
    resting_turn (Some (Err (Fault.Range x))) e h = fault_resting (Fault.Range x) e h

  resting : (t : List ℕ) → Fits p room calls t → Idle (trace_run_of p last room calls t) → Resting (record_of t)
  unfolding trace_run_of run_in front_of record_of
  resting [] fits h = tt
  resting (x ∷ t) fits h = resting_turn (x ∷ t) fits _ (record_of (x ∷ t)) refl h

module _ (p : Output) (calls : List Call) (room : ℕ) (t : List ℕ) where
  waiting : (r : Option (Result Entry Fault)) → record_of t ≡ r → Resting p false calls room r → length t ≤ 143
  waiting None e h = rw (none_left t e) (omega arith)
  waiting (Some (Ok x)) e h = absurd h
  waiting (Some (Err Fault.Kind)) e h = absurd h
  waiting (Some (Err Fault.Short)) e h = cut_short t e
  waiting (Some (Err (Fault.Range x))) e h = absurd h

  ending : (r : Option (Result Entry Fault)) → record_of t ≡ r → Resting p true calls room r → t ≡ []
  ending None e h = none_left t e
  ending (Some (Ok x)) e h = absurd h
  ending (Some (Err Fault.Kind)) e h = absurd h
  ending (Some (Err Fault.Short)) e h = let z : ◌≡◌ {A = ℕ} 0 1 = cc in absurd (omega arith)
  ending (Some (Err (Fault.Range x))) e h = absurd h

  over : Fits p room calls t → Idle (trace_run_of p true room calls t) → t ≡ []
  over fits h = ending (record_of t) refl (resting p true calls room t fits h)

-- the lines have octets, and at most 143 of them
module _ (explained : Bool) where
  no_line : (l : List Answered) (e : Option Fault) → text_of (lines explained) l e ≡ [] → (l ≡ []) × (e ≡ None)
  no_line [] None h = (refl, refl)
  no_line [] (Some f) h = let n = ap length h in absurd (omega arith)
  no_line (a ∷ l) e h =
      let n = ap length h in
      let m = line_some explained a in
      absurd (omega (arith, rw length-append at n))

  none_made : (r : Ran) → ran_text (lines explained) r ≡ [] → Idle r
  none_made r h = let n = no_line r.list r.end h in record { none = n.0; end = n.1 }

  lines_fit : (calls : List Call) (t : List ℕ) (room : ℕ) → Octets t → longest ≤ room → Fits (lines explained) room calls t
  lines_fit calls t room o roomy =
      record {
        line = λ e h. let n = record_short explained calls t e o (taken t e h) in omega arith;
        fault = λ f h. let n = fault_short f in omega arith;
      }

pub bounded : Bounded
bounded explained calls t o =
    record {
      line = λ e h. record_short explained calls t e o (taken t e h);
      fault = fault_short;
      waits =
          λ room roomy h.
          waiting (lines explained) calls room t (record_of t) refl
          (resting (lines explained) false calls room t (lines_fit explained calls t room o roomy) (none_made explained _ h));
      ends = λ room roomy h. over (lines explained) calls room t (lines_fit explained calls t room o roomy) (none_made explained _ h);
    }

-- what is put out for two lists, one after the other
text_append : (p : Output) (l m : List Answered) (e : Option Fault) → text_of p (l ++ m) e ≡ text_of p l None ++ text_of p m e
text_append p [] m e = refl
text_append p (a ∷ l) m e = rw (text_append p l m e, append_assoc)

-- a run, from wherever it stands
record Makes (p : Output) (calls : List Call) (trace text : List ℕ) (made : Course) : Type 0 where
  course : made ≡ course_of calls trace
  out : text ≡ course_text p made

run : {p : Output} {last : Bool} {calls : List Call} {held more text : List ℕ} {made : Course} → (last ≡ true → more ≡ []) → Run p last calls held more text made → Makes p calls (held ++ more) text made
run end (Run.reads held part more r) = rw append_assoc at (run (λ h. let z : ◌≡◌ {A = ℕ} 0 1 = cc in absurd (omega arith)) r)
run end (Run.nothing held r) = run (λ _. refl) r
run {p} {calls = calls} end (Run.prints {made = made} last room held more {text} e r) =
    let w = piece p last room calls held more end in
    let m = run end r in
    record {
      course = rw (w.made, e) (ap (λ (c : Course). followed (trace_run_of p last room calls held) c None) m.course);
      out = rw (e, m.out) (sym (text_append p (trace_run_of p last room calls held).list made.list made.end));
    }
run {p} {calls = calls} end (Run.faults last room held more f e) =
    let w = piece p last room calls held more end in
    record { course = rw (w.made, e); out = rw e }
run {p} {calls = calls} end (Run.ended room held fits h) =
    let n = over p calls room held fits h in
    record { course = sym (course_end calls (held ++ []) (rw n record_none)); out = refl }

pub whole_run : WholeRun
unfolding printed_of
whole_run = record { any = whole; printed = λ explained trace text made r. rw (whole (lines explained) trace text made r).out }
  where
    whole : (p : Output) (trace text : List ℕ) (made : Course) → Run p false places [] trace text made → Whole p trace text made
    whole p trace text made r =
        let m = run (λ h. let z : ◌≡◌ {A = ℕ} 0 1 = cc in absurd (omega arith)) r in
        record { course = m.course; out = m.out ∙ ap (course_text p) m.course }

-- a piece of which something is made is used, or ends the run
record Faulted (r : Ran) : Type 0 where
  fault : Fault
  is : r.end ≡ Some fault

abbrev Moves : Ran → Type 0
Moves r = Idle r ⊎ (Faulted r ⊎ (1 ≤ r.used))

module _ (p : Output) (last : Bool) (calls : List Call) (room : ℕ) (t : List ℕ) (next : Entry → Ran) where
  fault_moves : (f : Fault) → Moves (turn_of (Some (Err f)) p room calls t next)
  fault_moves f =
      by_cond Moves (leb (length (p.fault f)) room) (λ _. inr (inl (record { fault = f; is = refl }))) (λ _. inl (record { none = refl; end = refl }))

  moves_turn : (r : Option (Result Entry Fault)) → Moves (turn_of (heeded_of last r) p room calls t next)
  moves_turn None = inl (record { none = refl; end = refl })
  moves_turn (Some (Ok e)) =
      by_cond Moves (leb (length (line_at p calls e t)) room) (λ _. inr (inr (omega (arith, least e.kind)))) (λ _. inl (record { none = refl; end = refl }))
  moves_turn (Some (Err Fault.Kind)) = fault_moves Fault.Kind
  moves_turn (Some (Err Fault.Short)) =
      by_cond (λ f. Moves (turn_of f p room calls t next)) last (λ _. fault_moves Fault.Short) (λ _. inl (record { none = refl; end = refl }))
  moves_turn (Some (Err (Fault.Range x))) = fault_moves (Fault.Range x)

moves : (k : ℕ) (p : Output) (last : Bool) (room : ℕ) (calls : List Call) (t : List ℕ) → Moves (run_in k p last room calls t)
unfolding run_in front_of
moves zero p last room calls t = inl (record { none = refl; end = refl })
moves (suc k) p last room calls t = moves_turn p last calls room t _ (record_of t)

-- so the last piece is worked off in as many turns as it has octets, each with room for what stands at the front
module _ (p : Output) where
  abbrev room_for : List Call → List ℕ → Option (Result Entry Fault) → ℕ
  room_for calls held None = 0
  room_for calls held (Some (Ok e)) = length (line_at p calls e held)
  room_for calls held (Some (Err f)) = length (p.fault f)

  abbrev room_at : List Call → List ℕ → ℕ
  room_at calls held = room_for calls held (record_of held)

  fits_there : (calls : List Call) (held : List ℕ) → Fits p (room_at calls held) calls held
  fits_there calls held = record { line = λ e h. rw h (omega arith); fault = λ f h. rw h (omega arith) }

  abbrev turned : List Call → List ℕ → Ran
  turned calls held = trace_run_of p true (room_at calls held) calls held

  faulty : (calls : List Call) (held : List ℕ) (f : Fault) → (turned calls held).end ≡ Some f → HasRun p true calls held []
  faulty calls held f e = record { text = _; made = _; run = Run.faults true (room_at calls held) held [] f e }

  last_turn : (calls : List Call) (held : List ℕ) (e : Option Fault) → (turned calls held).end ≡ e → HasRun p true (turned calls held).calls (drop (turned calls held).used held) [] → HasRun p true calls held []
  last_turn calls held (Some f) e r = faulty calls held f e
  last_turn calls held None e r = record { text = _; made = _; run = Run.prints true (room_at calls held) held [] e r.run }

  last_piece : (calls : List Call) (held : List ℕ) → (1 ≤ (turned calls held).used → HasRun p true (turned calls held).calls (drop (turned calls held).used held) []) → HasRun p true calls held []
  unfolding trace_run_of
  last_piece calls held then =
      ⊎_elim (λ e. record { text = _; made = _; run = Run.ended (room_at calls held) held (fits_there calls held) e })
      (λ m. ⊎_elim (λ w. faulty calls held w.fault w.is) (λ u. last_turn calls held (turned calls held).end refl (then u)) m)
      (moves (length held) p true (room_at calls held) calls held)

  last_pieces : (n : ℕ) (calls : List Call) (held : List ℕ) → length held ≤ n → HasRun p true calls held []
  last_pieces zero calls held h = last_piece calls held (λ u. absurd (omega (arith, (piece p true (room_at calls held) calls held [] (λ _. refl)).within)))
  last_pieces (suc n) calls held h = last_piece calls held (λ u. last_pieces n _ _ (rw length-drop (omega arith)))

  read_all : (calls : List Call) (held more : List ℕ) → HasRun p true calls (held ++ more) [] → HasRun p false calls held more
  read_all calls held more r =
      let all : HasRun p false calls held (more ++ []) = record { text = _; made = _; run = Run.reads held more [] (Run.nothing (held ++ more) r.run) } in
      rw append-nil at all

pub always : Always
always p true calls held more end = rw (end refl) (last_pieces p (length held) calls held (omega arith))
always p false calls held more end = read_all p calls held more (last_pieces p (length (held ++ more)) calls (held ++ more) (omega arith))
