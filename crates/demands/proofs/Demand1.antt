-- Demand 1, from the promises on reading, on the table and on a call.
use Rattle.std.specs.Prelude.{None, Result, Ok, Err}
use Rattle.message_fields.specs.declared.Reading.{Reading}
use Prim.Native.Nat.{ℕ, ◌<◌, ◌≤◌}
use mathlib.Core.List.{List}
use mathlib.Core.Logic.{◌⊎◌, inl, inr, ⊎_elim}
use mathlib.Core.Bool.{Bool}
use mathlib.Core.Path.{◌≡◌, sym, ◌∙◌, ap}
use native.Mathlib.Omega.{arith}
use lib.ListN.{get_or, set}
use Rattle.answer.specs.declared.Answer.{Answer}
use Rattle.answer.specs.Answer.{number_of}
use Rattle.sent.specs.declared.side.Side.{Side}
use Rattle.event.specs.declared.Event.{Event}
use Rattle.message_fields.specs.declared.Fault.{Fault}
use Rattle.message_fields.specs.Numbers.{read_number}
use Rattle.call.specs.declared.Call.{Call}
use Rattle.call.specs.declared.reply.Reply.{Reply}
use Rattle.call.specs.Sound.{fresh_call}
use Rattle.call.specs.Step.{step_of}
use Rattle.message.specs.Reading.{read_of}
use Rattle.table.specs.declared.verdict.Verdict.{Verdict}
use Rattle.table.specs.declared.settle.Outcome.{Outcome}
use Rattle.table.specs.Verdict.{verdict_number}
use Rattle.table.specs.Step.{step_outcome, step_table}
use Rattle.call_promises.specs.Numbers.{Informs, sends, Says, tells, other as elsewhere}
use Rattle.call_promises.specs.Ranges.{ReferenceInRange, RightsInRange}
use Rattle.call_promises.specs.Refusals.{sent_to, Unmoved, Marks, Drops, Refusal, rejected_by_network}
use Rattle.call_promises.proofs.Refusals.{refusals}
use Rattle.table_promises.specs.Table.{Faulty, twins, LiveAt, Names, holding, Held, Full, SetsUp, Other, number_at, OneSpent, setup as at-setup}
use Rattle.table_promises.specs.Replies.{out_of_range, already_held, no_place, TableRefuses, faulty, setup, other, Silent, Gives, Own, steps_from}
use Rattle.table_promises.proofs.Table.{table, refused, fourteen, no_setup, put_back}
use Rattle.table_promises.proofs.Replies.{told, replies}
use Rattle.demands.specs.Demand1.{no_place as full, out_of_range as range, Listed, taken, out_of_phase, no_event, no_service, spent, not_open, not_granted, bad_element, asked_required, held, no_call, unsound, out_to, OneMessage, MarkSet, NothingDone, EventEnds, Demand1}

-- ---- reading

read_small : (r : Result Reading Fault) → read_number r ≤ 5
read_small (Ok r) = omega arith
read_small (Err Fault.Short) = omega arith
read_small (Err Fault.TooLong) = omega arith
read_small (Err Fault.Foreign) = omega arith
read_small (Err Fault.Reference) = omega arith
read_small (Err Fault.Kind) = omega arith

-- ---- the numbers

answer_listed : (a : Answer) → Listed (number_of a)
answer_listed Answer.Taken = taken
answer_listed Answer.OutOfPhase = out_of_phase
answer_listed Answer.NotAnEvent = no_event
answer_listed Answer.NoService = no_service
answer_listed Answer.Spent = spent
answer_listed Answer.NotOpen = not_open
answer_listed Answer.NotGranted = not_granted
answer_listed Answer.BadElement = bad_element
answer_listed Answer.AskedRequired = asked_required
answer_listed Answer.OutOfRange = range
answer_listed Answer.Unsound = unsound

listed : (v : Verdict) → Listed (verdict_number v)
listed (Verdict.Heard a) = answer_listed a
listed Verdict.NoPlace = full
listed Verdict.Held = held
listed Verdict.NoCall = no_call

-- ---- what is left and what is sent

fourteen_not_zero : {n : ℕ} → n ≡ 14 → n ≡ 0 → ⊥
fourteen_not_zero e f = omega arith

sixteen_not_zero : {n : ℕ} → n ≡ 16 → n ≡ 0 → ⊥
sixteen_not_zero e f = omega arith

informed : {P Q : Side → Type 0} {e : Event} → ((side : Side) → P side → Q side) → Informs P e → Informs Q e
informed f (sends p) = sends (f _ p)

said : {P Q : Side → Type 0} {e : Event} → ((side : Side) → P side → Q side) → Says (λ side what. P side) e → Says (λ side what. Q side) e
said f (tells p) = tells (f _ p)

-- a message at the table is the call's own
own_sent : {s : List Call} {place : ℕ} {o : Outcome} {r : Reply} (side : Side) → Gives s place o r → out_to o side ≡ sent_to r side
own_sent Side.Calling g = ap (λ d. d.calling) g.dispatch
own_sent Side.Called g = ap (λ d. d.called) g.dispatch

silent_to : {o : Outcome} (side : Side) → Silent o → out_to o side ≡ None
silent_to Side.Calling s = s.calling
silent_to Side.Called s = s.called

unmoved_to : {c : Call} {r : Reply} (side : Side) → Unmoved c r → sent_to r side ≡ None
unmoved_to Side.Calling u = u.calling
unmoved_to Side.Called u = u.called

-- a live record of a reference stands at one place
live_of : {t : List Call} {n i : ℕ} {side : Side} {more : Bool} → Names t n i (Event.Information side more) → LiveAt t i n
live_of (holding _ a) = a

same : (t : List Call) (n i j : ℕ) → (Faulty t → ⊥) → LiveAt t i n → LiveAt t j n → i ≡ j
same t n i j f a b =
    let p : i < j → ⊥ = λ x. f (twins i j n x a b) in
    let q : j < i → ⊥ = λ x. f (twins j i n x b a) in
    omega arith

-- 14's record and 14's messages are those of one reply
abbrev Fourteen : List Call → List Call → ℕ → Outcome → Event → Type 0
Fourteen t s n o e = Informs (λ side. MarkSet t s n o side ⊎ NothingDone t s o side) e

joined : (t s : List Call) (n : ℕ) (l : List ℕ) (o : Outcome) (e : Event) (x : OneSpent t s n e l) (y : Own t s n e l o) → (Faulty t → ⊥) → Informs (λ side. Marks (get_or t x.place fresh_call) side (step_of (get_or t x.place fresh_call) e l) ⊎ Drops (get_or t x.place fresh_call) side (step_of (get_or t x.place fresh_call) e l)) e → Fourteen t s n o e
joined t s n l o (Event.Information side more) x y f (sends (inl m)) =
    sends
    (inl
    (record {
      place = x.place;
      live = x.live;
      table = x.table ∙ ap (set t x.place) m.call;
      message = record { back = here side ∙ m.back; on = here (elsewhere side) ∙ m.on };
    }))
  where
    here : (at : Side) → out_to o at ≡ sent_to (step_of (get_or t x.place fresh_call) (Event.Information side more) l) at
    here at = own_sent at y.reply ∙ ap (λ (i : ℕ). sent_to (step_of (get_or t i fresh_call) (Event.Information side more) l) at) (same t n y.place x.place f (live_of y.named) x.live)
joined t s n l o (Event.Information side more) x y f (sends (inr d)) =
    sends
    (inr
    (record {
      table = x.table ∙ ap (set t x.place) d.unmoved.call ∙ put_back t x.place;
      message = record { back = here side ∙ unmoved_to side d.unmoved; on = here (elsewhere side) ∙ unmoved_to (elsewhere side) d.unmoved };
    }))
  where
    here : (at : Side) → out_to o at ≡ sent_to (step_of (get_or t x.place fresh_call) (Event.Information side more) l) at
    here at = own_sent at y.reply ∙ ap (λ (i : ℕ). sent_to (step_of (get_or t i fresh_call) (Event.Information side more) l) at) (same t n y.place x.place f (live_of y.named) x.live)
joined t s n l o (Event.Setup _ _ _) x y f h = elim h [ ]
joined t s n l o (Event.Alerting _) x y f h = elim h [ ]
joined t s n l o (Event.Connect _) x y f h = elim h [ ]
joined t s n l o (Event.Facility _ _) x y f h = elim h [ ]
joined t s n l o (Event.Disconnect _ _ _) x y f h = elim h [ ]
joined t s n l o (Event.ReleaseComplete _) x y f h = elim h [ ]
joined t s n l o Event.Tick x y f h = elim h [ ]
joined t s n l o Event.CallProceeding x y f h = elim h [ ]
joined t s n l o Event.CongestionControl x y f h = elim h [ ]

-- a row of another number does not apply
barred : {P Q : Type 0} {k m : ℕ} → (m ≡ k → ⊥) → (P × (m ≡ k)) ⊎ ((P → ⊥) × Q) → (P → ⊥) × Q
barred n = ⊎_elim (λ x. absurd (n x.1)) (λ x. x)

refuted : (t : List Call) (n : ℕ) (e : Event) → (Faulty t → ⊥) → (SetsUp (λ reference rights. ReferenceInRange reference × RightsInRange rights → ⊥) e → ⊥) → (SetsUp (λ reference rights. Held t reference) e → ⊥) → (SetsUp (λ reference rights. Full t) e → ⊥) → (Other e × (Held t n → ⊥) → ⊥) → TableRefuses t n e → ⊥
refuted t n e a b c d g (faulty _ x) = a x
refuted t n e a b c d g (setup reference rights q (out_of_range x)) = b (at-setup x)
refuted t n e a b c d g (setup reference rights q (already_held x)) = c (at-setup x)
refuted t n e a b c d g (setup reference rights q (no_place x)) = d (at-setup x)
refuted t n e a b c d g (other _ k x) = g (no_setup e k, x)

module _ (t : List Call) (n : ℕ) (e : Event) (l : List ℕ) where
  abbrev o : Outcome
  o = step_outcome t n e l

  abbrev own : Own t (step_table t n e l) n e l o → Reply
  own x = step_of (steps_from (get_or t x.place fresh_call) e) e l

  -- what the call's own refusal says, where the number is the table's answer
  refusal : (x : Own t (step_table t n e l) n e l o) → (number_at t n e l ≡ 0 → ⊥) → Refusal (steps_from (get_or t x.place fresh_call) e) e (number_of (own x).answer) (own x)
  refusal x h = refusals _ e l (λ z. h (x.reply.number ∙ z))

  quiet : (number_at t n e l ≡ 0 → ⊥) → (number_at t n e l ≡ 14 → ⊥) → (number_at t n e l ≡ 16 → ⊥) → (side : Side) → out_to o side ≡ None
  quiet a b c side =
      ⊎_elim (silent_to side)
      (λ x. own_sent side x.reply ∙ unmoved_to side ((refusal x a).others (λ z. b (x.reply.number ∙ z)) (λ z. c (x.reply.number ∙ z))))
      (told t n e l)

  -- 14 and 16 are no numbers of the table's own
  sound_at : (m : ℕ) → (m ≡ 25 → ⊥) → number_at t n e l ≡ m → Faulty t → ⊥
  sound_at m u h = (barred u ((table t n e l m).0 h)).0

  heard_at : (m : ℕ) → 11 ≤ m → m < 21 → number_at t n e l ≡ m → TableRefuses t n e → ⊥
  heard_at m low high h =
      let f = (table t n e l m).0 h in
      let a = barred (λ (k : m ≡ 25). omega arith) f in
      let b = barred (λ (k : m ≡ 24). omega arith) a.1 in
      let c = barred (λ (k : m ≡ 22). omega arith) b.1 in
      let d = barred (λ (k : m ≡ 21). omega arith) c.1 in
      let g = barred (λ (k : m ≡ 23). omega arith) d.1 in
      refuted t n e a.0 b.0 c.0 d.0 g.0

  fourteen_at : number_at t n e l ≡ 14 → Fourteen t (step_table t n e l) n o e
  fourteen_at h =
      let x = fourteen t n e l h in
      joined t (step_table t n e l) n l o e x ((replies t n e l).1 (heard_at 14 (omega arith) (omega arith) h)) (sound_at 14 (omega arith) h) ((refusals _ e l (fourteen_not_zero x.answer)).fourteen x.answer)

  rejects : number_at t n e l ≡ 16 → Says (λ side what. OneMessage o side rejected_by_network) e
  rejects h =
      let x = (replies t n e l).1 (heard_at 16 (omega arith) (omega arith) h) in
      said (λ side r. record { back = own_sent side x.reply ∙ r.back; on = own_sent (elsewhere side) x.reply ∙ r.on })
      ((refusal x (sixteen_not_zero h)).sixteen (sym x.reply.number ∙ h))

  ends : EventEnds t n e l
  ends =
      record {
        number = listed o.verdict;
        kept = refused t n e l;
        fourteen = fourteen_at;
        quiet = quiet;
        sixteen = rejects;
      }

pub demand_1 : Demand1
demand_1 = record { octets = λ m. read_small (read_of m); events = ends }
