-- One reference's answers in a run are those of a lone run, which never looks at a table.
use Rattle.std.specs.Prelude.{Result, Ok, Err}
use Prim.Native.Nat.{ℕ}
use mathlib.Core.Bool.{Bool, true, false, cond}
use mathlib.Core.List.{List, [], ◌∷◌}
use mathlib.Core.Path.{◌≡◌, refl, sym, ◌∙◌, ap, subst}
use borrow.Author.Tests.{eqb-true, eqb-false}
use lib.Dec.{eqb}
use lib.ListN.{get_or}
use Rattle.answer.specs.declared.Answer.{Answer}
use Rattle.answer.specs.Answer.{number_of}
use Rattle.call.specs.declared.Call.{Call}
use Rattle.event.specs.declared.Event.{Event}
use Rattle.call.specs.Sound.{fresh_call}
use Rattle.call.specs.Step.{step_of}
use Rattle.table.specs.declared.verdict.Verdict.{Verdict}
use Rattle.table.specs.declared.settle.Outcome.{Outcome}
use Rattle.table.specs.Sought.{live_as}
use Rattle.table.specs.Table.{table_sound}
use Rattle.table.specs.Choice.{wanted_of, meant_reference_of, opens_of, setup_ranged_of, chosen_of}
use Rattle.table.specs.Verdict.{verdict_number}
use Rattle.table.specs.Settle.{subject_of, heard_outcome_of, table_refusal_of, settled_of}
use Rattle.table.specs.Step.{outcome_at, table_at, step_outcome, step_table}
use Rattle.table_promises.specs.Table.{held_call}
use Rattle.table_promises.specs.Alone.{Addressed, Response, table_run_of, own_of, events_of, full_of, outcomes_of, Alone}
use Rattle.logic.proofs.Decide.{never}
use Rattle.table_promises.proofs.Counted.{found_call}
use Rattle.table_promises.proofs.AloneKept.{opens_in}
use Rattle.table_promises.proofs.AloneTable.{Chosen, out, held, full, new, none, old, chosen, keeps, held_if_found, placed_own, placed_new, placed_old, step_sound, step_other, fresh_nobody, fresh_sound}

-- ---- the lone run: c is the record of the reference, a fresh one where there is no live call
abbrev lone_choice : (opens ranged live met : Bool) → Result ℕ Verdict
lone_choice true true true met = Err Verdict.Held
lone_choice true true false true = Err Verdict.NoPlace
lone_choice true true false false = Ok 0
lone_choice true false live met = Err (Verdict.Heard Answer.OutOfRange)
lone_choice false ranged true met = Ok 0
lone_choice false ranged false met = Err Verdict.NoCall

-- where the event goes, or the number that the table gives; met: a SETUP met 21
abbrev lone_at : ℕ → Call → Event → Bool → Result ℕ Verdict
lone_at n c e met = lone_choice (opens_of e) (setup_ranged_of e) (live_as c n) met

abbrev lone_outcome : Call → Event → List ℕ → Result ℕ Verdict → Outcome
lone_outcome c e l (Ok i) = (settled_of c e l).outcome
lone_outcome c e l (Err v) = table_refusal_of v

abbrev lone_next : ℕ → Call → Event → List ℕ → Result ℕ Verdict → Call
lone_next n c e l (Ok i) = keeps n (settled_of c e l).call
lone_next n c e l (Err v) = c

abbrev first : List Bool → Bool
first [] = false
first (b ∷ bs) = b

abbrev rest : List Bool → List Bool
rest [] = []
rest (b ∷ bs) = bs

abbrev lone_run : ℕ → Call → List (Event × List ℕ) → List Bool → List Outcome
lone_run n c [] bs = []
lone_run n c (x ∷ xs) bs =
    lone_outcome c x.0 x.1 (lone_at n c x.0 (first bs))
    ∷ lone_run n (lone_next n c x.0 x.1 (lone_at n c x.0 (first bs))) xs (cond (opens_of x.0) (rest bs) bs)

-- ---- one step
not_full : (a : Answer) → eqb (number_of a) 21 ≡ false
not_full Answer.Taken = refl
not_full Answer.OutOfPhase = refl
not_full Answer.NotAnEvent = refl
not_full Answer.NoService = refl
not_full Answer.Spent = refl
not_full Answer.NotOpen = refl
not_full Answer.NotGranted = refl
not_full Answer.BadElement = refl
not_full Answer.AskedRequired = refl
not_full Answer.OutOfRange = refl
not_full Answer.Unsound = refl

settled_not_full : (c : Call) (e : Event) (l : List ℕ) → eqb (verdict_number (settled_of c e l).outcome.verdict) 21 ≡ false
unfolding settled_of heard_outcome_of
settled_not_full c e l = not_full (step_of (subject_of c (wanted_of e)) e l).answer

-- b says of a SETUP whether it met 21, and of another event nothing
abbrev Flag : Event → Outcome → Bool → Type 0
Flag e x b = opens_of e ≡ true → b ≡ eqb (verdict_number x.verdict) 21

-- a step at the table is the lone step: its answer, and the record afterwards
record Agrees (t : List Call) (n : ℕ) (e : Event) (l : List ℕ) (b : Bool) (k : Result ℕ Verdict) : Type 0 where
  outcome : outcome_at t k e l ≡ lone_outcome (held_call t n) e l (lone_at n (held_call t n) e b)
  next : held_call (table_at t k e l) n ≡ lone_next n (held_call t n) e l (lone_at n (held_call t n) e b)

module _ (t : List Call) (m : ℕ) (e : Event) (l : List ℕ) (s : table_sound t ≡ true) where
  abbrev own : ℕ
  own = meant_reference_of m e

  -- the same refusal
  refuses : (b : Bool) (v : Verdict) → lone_at own (held_call t own) e b ≡ Err v → Agrees t own e l b (Err v)
  refuses b v h = record { outcome = rw h; next = rw h }

  agrees : (b : Bool) (k : Result ℕ Verdict) → Chosen t own e k → Flag e (outcome_at t k e l) b → Agrees t own e l b k
  unfolding table_refusal_of
  agrees b k (out eo ef) g = refuses b _ (rw (eo, ef))
  agrees b k (held eo ef i eh) g = refuses b _ (rw (eo, ef, held_if_found t own _ eh))
  agrees b k (full eo ef eh ep) g = refuses b _ (rw (eo, ef, held_if_found t own _ eh, g eo))
  agrees b k (none eo eh) g = refuses b _ (rw (eo, held_if_found t own _ eh))
  agrees b k (new eo ef eh i ep) g =
      let h : lone_at own (held_call t own) e b ≡ Ok 0 = rw (eo, ef, held_if_found t own _ eh, g eo, settled_not_full (get_or t i fresh_call) e l) in
      let w = (opens_in (get_or t i fresh_call) m e l eo ef).whatever (held_call t own) in
      record {
        outcome = rw h (ap (λ x. x.outcome) w);
        next = rw h (placed_own t own i _ (placed_new t m e l s i eo ef eh ep) ∙ ap (λ x. keeps own x.call) w);
      }
  agrees b k (old eo i eh) g =
      let h : lone_at own (held_call t own) e b ≡ Ok 0 = rw (eo, held_if_found t own _ eh) in
      let w = found_call t i own eh in
      record {
        outcome = rw h (ap (λ c. (settled_of c e l).outcome) w);
        next = rw h (placed_own t own i _ (placed_old t m e l s i eo eh) ∙ ap (λ c. keeps own (settled_of c e l).call) w);
      }

  step_agrees : (b : Bool) → Flag e (step_outcome t m e l) b → Agrees t own e l b (chosen_of t m e)
  unfolding step_outcome
  step_agrees b g = agrees b (chosen_of t m e) (chosen t m e s) g

-- ---- a run
abbrev told_at : List Call → Addressed → Response
told_at t o = record { offered = o; outcome = step_outcome t o.reference o.event o.element }

abbrev after : List Call → Addressed → List Call
after t o = step_table t o.reference o.event o.element

-- the answer u is that of the lone step from c, which leaves d
abbrev LoneStep : ℕ → Call → Call → Response → Bool → Type 0
LoneStep n c d u b =
    (u.outcome ≡ lone_outcome c u.offered.event u.offered.element (lone_at n c u.offered.event b))
    × (d ≡ lone_next n c u.offered.event u.offered.element (lone_at n c u.offered.event b))

abbrev Lone : ℕ → Call → List Response → Type 0
Lone n c us = outcomes_of us ≡ lone_run n c (events_of us) (full_of us)

-- the first flag is that of a SETUP, and the others are left
first_full : (o f : Bool) (fs : List Bool) → o ≡ true → first (cond o (f ∷ fs) fs) ≡ f
first_full true f fs e = refl
first_full false f fs e = never e refl

rest_full : (o f : Bool) (fs : List Bool) → fs ≡ cond o (rest (cond o (f ∷ fs) fs)) (cond o (f ∷ fs) fs)
rest_full true f fs = refl
rest_full false f fs = refl

-- an event of n goes before a lone run of the rest
lone_more : (n : ℕ) (c d : Call) (u : Response) (us : List Response) →
    ((b : Bool) → Flag u.offered.event u.outcome b → LoneStep n c d u b) → Lone n d us → Lone n c (u ∷ us)
lone_more n c d u us k r =
    let o : Bool = opens_of u.offered.event in
    let f : Bool = eqb (verdict_number u.outcome.verdict) 21 in
    let p = k (first (full_of (u ∷ us))) (λ h. first_full o f (full_of us) h) in
    λ j. p.0 j ∷ (r ∙ (λ i. lone_run n (p.1 i) (events_of us) (rest_full o f (full_of us) i))) j

-- the step of an event of n is a lone step
own_step : (n : ℕ) (o : Addressed) (t : List Call) → table_sound t ≡ true → meant_reference_of o.reference o.event ≡ n → (b : Bool) → Flag o.event (told_at t o).outcome b →
    LoneStep n (held_call t n) (held_call (after t o) n) (told_at t o) b
unfolding step_outcome step_table
own_step n o t s e b g =
    subst (λ (m : ℕ). LoneStep m (held_call t m) (held_call (after t o) m) (told_at t o) b) e
    (let p = step_agrees t o.reference o.event o.element s b g in (p.outcome, p.next))

-- one event, of n or of another reference
turn : (n : ℕ) (o : Addressed) (os : List Addressed) (t : List Call) (b : Bool) → eqb (meant_reference_of o.reference o.event) n ≡ b → table_sound t ≡ true →
    Lone n (held_call (after t o) n) (own_of n (table_run_of (after t o) os)) →
    Lone n (held_call t n) (cond b (told_at t o ∷ own_of n (table_run_of (after t o) os)) (own_of n (table_run_of (after t o) os)))
turn n o os t true e s r =
    lone_more n (held_call t n) (held_call (after t o) n) (told_at t o) (own_of n (table_run_of (after t o) os)) (own_step n o t s (eqb-true _ n e)) r
turn n o os t false e s r =
    subst (λ (c : Call). Lone n c (own_of n (table_run_of (after t o) os))) (step_other t o.reference o.event o.element s n (eqb-false _ n e)) r

-- the answers of n in a run are those of the lone run from its record
lone : (n : ℕ) (os : List Addressed) (t : List Call) → table_sound t ≡ true → Lone n (held_call t n) (own_of n (table_run_of t os))
lone n [] t s = refl
lone n (o ∷ os) t s =
    turn n o os t (eqb (meant_reference_of o.reference o.event) n) refl s (lone n os (after t o) (step_sound t o.reference o.event o.element s))

pub alone : Alone
alone n t t' os os' a a' ee ef =
    lone n os t (fresh_sound t a)
    ∙ (λ j. lone_run n ((fresh_nobody t a n ∙ sym (fresh_nobody t' a' n)) j) (ee j) (ef j))
    ∙ sym (lone n os' t' (fresh_sound t' a'))
