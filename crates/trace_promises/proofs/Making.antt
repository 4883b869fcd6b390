-- The course of a trace, record by record; and what a piece of it makes is the front of that.
use Rattle.std.specs.Prelude.{Option, Some, None, Result, Ok, Err}
use Prim.Native.Nat.{ℕ, zero, suc, ◌≤◌}
use mathlib.Core.List.{List, [], ◌∷◌, ◌++◌, append-nil}
use mathlib.Core.Bool.{Bool, true, false, cond}
use mathlib.Core.Path.{◌≡◌, refl, ◌∙◌}
use native.Mathlib.Omega.{arith}
use lib.Dec.{leb}
use lib.ListN.{length, drop, length-drop}
use lib.Seq.{drop-drop, drop-append-le}
use Rattle.logic.proofs.Decide.{by_cond}
use Rattle.call.specs.declared.Call.{Call}
use Rattle.trace.specs.declared.Entry.{Entry}
use Rattle.trace.specs.declared.Fault.{Fault}
use Rattle.trace.specs.Kind.{size_of}
use Rattle.trace.specs.Reading.{record_of}
use Rattle.trace_run.specs.Front.{heeded_of, front_of}
use Rattle.trace_run.specs.Course.{turned_at, Answered, answered_at, Course, course_by, course_in, course_of, Output}
use Rattle.trace_run.specs.Run.{line_at, Ran, rests, ends, goes, turn_of, run_in}
use Rattle.trace_promises.specs.WholeRun.{nothing_at, followed, then_course}
use Rattle.trace_promises.proofs.Fronts.{Whole, told, stays, size_least, size_within, same_element}

-- the record that was found
pub taken : (t : List ℕ) (e : Entry) → record_of t ≡ Some (Ok e) → Whole t e
taken t e h = rw h at (told t)

pub none_left : (t : List ℕ) → record_of t ≡ None → t ≡ []
none_left t h = rw h at (told t)

pub cut_short : (t : List ℕ) → record_of t ≡ Some (Err Fault.Short) → length t ≤ 143
cut_short t h = rw h at (told t)

same_turn : (calls : List Call) (t : List ℕ) (r : Option (Result Entry Fault)) (f g : Entry → Course) → ((e : Entry) → r ≡ Some (Ok e) → f e ≡ g e) → course_by r calls t f ≡ course_by r calls t g
same_turn calls t None f g h = refl
same_turn calls t (Some (Err x)) f g h = refl
same_turn calls t (Some (Ok e)) f g h = rw (h e refl)

-- more places than octets change nothing
enough : (f g : ℕ) (calls : List Call) (t : List ℕ) → length t ≤ f → length t ≤ g → course_in f calls t ≡ course_in g calls t
unfolding course_in record_of
enough zero zero calls t p q = refl
enough zero (suc g) calls [] p q = refl
enough zero (suc g) calls (x ∷ t) p q = absurd (omega arith)
enough (suc f) zero calls [] p q = refl
enough (suc f) zero calls (x ∷ t) p q = absurd (omega arith)
enough (suc f) (suc g) calls t p q =
    same_turn calls t (record_of t) _ _
    (λ e h.
    let w = taken t e h in
    enough f g (turned_at calls e t).calls (drop (size_of e.kind) t)
    (rw length-drop (omega (arith, size_least w))) (rw length-drop (omega (arith, size_least w))))

unfoldable pub after : List Call → List ℕ → Entry → Course
after calls t e = course_of (turned_at calls e t).calls (drop (size_of e.kind) t)

pub course_turn : (calls : List Call) (t : List ℕ) → course_of calls t ≡ course_by (record_of t) calls t (after calls t)
unfolding course_in course_of after
course_turn calls t =
    enough (length t) (suc (length t)) calls t (omega arith) (omega arith)
    ∙ same_turn calls t (record_of t) _ _
    (λ e h. enough (length t) (length (drop (size_of e.kind) t)) _ _ (rw length-drop (omega arith)) (omega arith))

pub course_end : (calls : List Call) (t : List ℕ) → record_of t ≡ None → course_of calls t ≡ nothing_at calls
course_end calls t h = course_turn calls t ∙ rw h

pub course_fault : (calls : List Call) (t : List ℕ) (f : Fault) → record_of t ≡ Some (Err f) → course_of calls t ≡ record { list = []; calls = calls; end = Some f }
course_fault calls t f h = course_turn calls t ∙ rw h

pub course_taken : (calls : List Call) (t : List ℕ) (e : Entry) → record_of t ≡ Some (Ok e) → course_of calls t ≡ course_by (Some (Ok e)) calls t (after calls t)
course_taken calls t e h = course_turn calls t ∙ rw h

-- what a piece made is the front of what the whole makes
pub record Went (calls : List Call) (t more : List ℕ) (r : Ran) : Type 0 where
  pub within : r.used ≤ length t
  pub made : course_of calls (t ++ more) ≡ then_course r (course_of r.calls (drop r.used t ++ more))

-- one event more at the front
one_more : (n : ℕ) (a : Answered) (r : Ran) (m : Course) (e : Option Fault) → record { list = a ∷ (followed r m e).list; calls = (followed r m e).calls; end = (followed r m e).end } ≡ followed (goes n a r) m e
one_more n a r m None = refl
one_more n a r m (Some f) = refl

module _ (calls : List Call) (t more : List ℕ) where
  went_none : Went calls t more (rests calls)
  went_none = record { within = omega arith; made = refl }

  went_fault : (f : Fault) → record_of (t ++ more) ≡ Some (Err f) → Went calls t more (ends calls f)
  went_fault f h = record { within = omega arith; made = course_fault calls (t ++ more) f h }

  module _ (e : Entry) (w : Whole t e) where
    same_turned : turned_at calls e (t ++ more) ≡ turned_at calls e t
    unfolding turned_at
    same_turned = rw (same_element t more e w)

    same_answered : answered_at calls e (t ++ more) ≡ answered_at calls e t
    unfolding answered_at
    same_answered = rw same_turned

    went_line : (r : Ran) → record_of (t ++ more) ≡ Some (Ok e) → Went (turned_at calls e t).calls (drop (size_of e.kind) t) more r → Went calls t more (goes (size_of e.kind) (answered_at calls e t) r)
    unfolding after
    went_line r h g =
        let n = size_within w in
        record {
          within = omega (arith, rw length-drop at g.within);
          made =
              course_taken calls (t ++ more) e h
              ∙ rw (same_answered, same_turned, drop-append-le (size_of e.kind) t more n, g.made, drop-drop r.used (size_of e.kind) t)
              (one_more (size_of e.kind) (answered_at calls e t) r _ r.end);
        }

-- one turn
module _ (p : Output) (last : Bool) (calls : List Call) (t more : List ℕ) (end : last ≡ true → more ≡ []) (room : ℕ) (next : Entry → Ran) (then : (e : Entry) → Whole t e → Went (turned_at calls e t).calls (drop (size_of e.kind) t) more (next e)) where
  fault_turn : (f : Fault) → record_of (t ++ more) ≡ Some (Err f) → Went calls t more (turn_of (Some (Err f)) p room calls t next)
  fault_turn f h =
      by_cond (Went calls t more) (leb (length (p.fault f)) room) (λ _. went_fault calls t more f h)
      (λ _. went_none calls t more)

  short_turn : (b : Bool) → last ≡ b → record_of t ≡ Some (Err Fault.Short) → Went calls t more (turn_of (cond b (Some (Err Fault.Short)) None) p room calls t next)
  short_turn true l h = fault_turn Fault.Short (rw (end l, append-nil) h)
  short_turn false l h = went_none calls t more

  pub turn : (r : Option (Result Entry Fault)) → record_of t ≡ r → Went calls t more (turn_of (heeded_of last r) p room calls t next)
  turn None h = went_none calls t more
  turn (Some (Err Fault.Kind)) h = fault_turn Fault.Kind (stays t more (rw h tt) ∙ h)
  turn (Some (Err Fault.Short)) h = short_turn last refl h
  turn (Some (Err (Fault.Range f))) h = fault_turn (Fault.Range f) (stays t more (rw h tt) ∙ h)
  turn (Some (Ok e)) h =
      let w = taken t e h in
      by_cond (Went calls t more) (leb (length (line_at p calls e t)) room)
      (λ _. went_line calls t more e w (next e) (stays t more (rw h tt) ∙ h) (then e w))
      (λ _. went_none calls t more)

pub went : (k : ℕ) (p : Output) (last : Bool) (room : ℕ) (calls : List Call) (t more : List ℕ) → (last ≡ true → more ≡ []) → Went calls t more (run_in k p last room calls t)
unfolding run_in front_of
went zero p last room calls t more end = went_none calls t more
went (suc k) p last room calls t more end =
    turn p last calls t more end room _ (λ e w. went k p last _ _ _ more end) (record_of t) refl
