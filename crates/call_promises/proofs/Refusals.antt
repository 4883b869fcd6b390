-- A refusal leaves the record and sends nothing, but for 14 and 16.
use Rattle.services.specs.declared.ByService.{ByService}
use Rattle.answering_rules.specs.declared.Fate.{Fate}
use Rattle.std.proofs.Common.{ℕ, List, Bool, true, false, ◌&&◌, ◌⊎◌, inl, inr, ◌≡◌, refl, arith, ltb-false, ltb}
use Rattle.flow_meter.specs.declared.passage.Passage.{Passage}
use Rattle.user_element.specs.declared.Note.{Note}
use Rattle.user_element.specs.declared.Seen.{Seen}
use Rattle.answer.specs.declared.Answer.{Answer}
use Rattle.facility_rules.specs.declared.What.{What}
use Rattle.message_types.specs.declared.Kind.{Kind}
use Rattle.phases.specs.declared.Phase.{Phase}
use Rattle.sent.specs.declared.side.Side.{Side}
use Rattle.call.specs.declared.Call.{Call}
use Rattle.event.specs.declared.Event.{Event}
use Rattle.call.specs.declared.reply.Reply.{Reply}
use Rattle.flow_meter.specs.Passage.{marked_of, under_three_of, passage_of, after_of}
use Rattle.user_element.specs.Element.{whole_of}
use Rattle.answering_rules.specs.Effects.{failed_of}
use Rattle.answer.specs.Answer.{number_of, taken_of}
use Rattle.facility_rules.specs.Asking.{to_request_of, to_answer_of}
use Rattle.facility_rules.specs.Messages.{not_granted_of, about_three_of}
use Rattle.sent.specs.Message.{silence, saying_of, congestion_of, only_if_of}
use Rattle.information_rules.specs.Messages.{passage_answer_of, passes_of, marks_of}
use Rattle.call.specs.Answering.{goes_on_of, clears_of, answering_of, answered_of, alerting_of, connect_of}
use Rattle.call.specs.Disconnect.{passed_on_of, disconnect_of, ends_of, release_complete_of}
use Rattle.call.specs.Facility.{facility_verdict_of, passes_facility_of, facility_of}
use Rattle.flow_meter.specs.CallMeters.{meter_of}
use Rattle.call.specs.Information.{meters_of, information_passage_of, carried_of, with_element_of, information_of}
use Rattle.call.specs.Reply.{refused_of, reply_of}
use Rattle.call.specs.Setup.{proceeds_of, setup_of}
use Rattle.call.specs.Sound.{sound_of}
use Rattle.call.specs.Step.{not_an_event_of, step_of}
use Rattle.call.specs.Tick.{passes_tick_of, tick_of}
use Rattle.call_promises.specs.Numbers.{ServesThree, sends, tells}
use Rattle.call_promises.specs.Refusals.{Unmoved, Marks, Drops, Rejects, Refusal, Refusals}
use Rattle.logic.proofs.Decide.{never, by_cond, Decides}
use Rattle.call_promises.proofs.Heard.{Bar, unsound, phase, range, Heard, through, barred, heard}
use Rattle.call_promises.proofs.Conditions.{serves_three}

-- a reply to an event, if it is a refusal, is as the paper has it
abbrev Fair : Call → Event → Reply → Type 0
Fair c e r = (number_of r.answer ≡ 0 → ⊥) → Refusal c e (number_of r.answer) r

module _ (c : Call) (e : Event) where
  taken_fair : (r : Reply) → r.answer ≡ Answer.Taken → Fair c e r
  taken_fair r t n = absurd (n (rw t refl))

  quiet : (n : ℕ) (r : Reply) → (n ≡ 14 → ⊥) → (n ≡ 16 → ⊥) → Unmoved c r → Refusal c e n r
  quiet n r a b u = record { fourteen = λ h. absurd (a h); sixteen = λ h. absurd (b h); others = λ _ _. u }

  refused_fair : (x : Answer) (note : Note) → (number_of x ≡ 14 → ⊥) → (number_of x ≡ 16 → ⊥) → Fair c e (refused_of c x note)
  unfolding refused_of
  refused_fair x note a b n = quiet _ _ a b (record { call = refl; calling = refl; called = refl })

  bar_fair : {x : Answer} → Bar x → Fair c e (refused_of c x Note.Clear)
  bar_fair unsound = refused_fair _ _ (omega arith) (omega arith)
  bar_fair phase = refused_fair _ _ (omega arith) (omega arith)
  bar_fair range = refused_fair _ _ (omega arith) (omega arith)

  heard_fair : (a g : Bool) (r : Reply) {s : Reply} → Heard c a g r s → Fair c e r → Fair c e s
  heard_fair a g r (through _ _ _) f = f
  heard_fair a g r (barred _ x) f = bar_fair x

outcome_taken : (c : Call) (kind : Kind) (next : Phase) (f : ByService Fate) (seen : Seen) (x : Bool) → (answering_of c kind next f seen x).answer ≡ Answer.Taken
unfolding goes_on_of clears_of
outcome_taken c kind next f seen false = refl
outcome_taken c kind next f seen true = refl

pub answered_taken : (c : Call) (kind : Kind) (next : Phase) (f : ByService Fate) (l : List ℕ) → (answered_of c kind next f l).answer ≡ Answer.Taken
unfolding answered_of
answered_taken c kind next f l = outcome_taken c kind next f _ (failed_of f)

-- USER INFORMATION
abbrev FairPassage : Call → Side → Bool → Passage → Type 0
FairPassage c side more p = Fair c (Event.Information side more) (carried_of c side more p)

module _ (c : Call) (more : Bool) where
  -- a message that is only dropped
  stays : (side : Side) (p : Passage) → after_of (meter_of c.meters side) p ≡ meter_of c.meters side → passes_of p ≡ false → marks_of p ≡ false → Unmoved c (carried_of c side more p)
  unfolding carried_of reply_of meters_of only_if_of
  stays Side.Calling p e f g = record { call = rw e refl; calling = rw g refl; called = rw f refl }
  stays Side.Called p e f g = record { call = rw e refl; calling = rw f refl; called = rw g refl }

  -- the first one dropped for credit
  marks : (side : Side) → ServesThree c → (meter_of c.meters side).credit ≡ 0 → (meter_of c.meters side).mark ≡ false → Marks c side (carried_of c side more (Passage.Marks (marked_of (meter_of c.meters side))))
  unfolding carried_of reply_of meters_of only_if_of marked_of congestion_of silence
  marks Side.Calling s z m = record { serves = s; spent = z; unset = m; call = refl; back = refl; on = refl }
  marks Side.Called s z m = record { serves = s; spent = z; unset = m; call = refl; back = refl; on = refl }

  drops : (side : Side) → (ServesThree c → (meter_of c.meters side).mark ≡ true) → Drops c side (carried_of c side more Passage.Spent)
  drops Side.Calling m = record { marked = m; unmoved = stays Side.Calling Passage.Spent refl refl refl }
  drops Side.Called m = record { marked = m; unmoved = stays Side.Called Passage.Spent refl refl refl }

module _ (c : Call) (side : Side) (more : Bool) where
  fourteen_fair : (p : Passage) → passage_answer_of p ≡ Answer.Spent → Marks c side (carried_of c side more p) ⊎ Drops c side (carried_of c side more p) → FairPassage c side more p
  unfolding carried_of reply_of
  fourteen_fair p e x n =
      record {
        fourteen = λ _. sends x;
        sixteen = λ h. absurd (let k : ◌≡◌ {A = ℕ} 14 16 = rw e at h in omega arith);
        others = λ a b. absurd (a (rw e refl));
      }

  passed_fair : (p : Passage) → passage_answer_of p ≡ Answer.Taken → FairPassage c side more p
  unfolding carried_of reply_of
  passed_fair p e = taken_fair c _ _ e

  spent_fair : (ServesThree c → (meter_of c.meters side).mark ≡ true) → FairPassage c side more Passage.Spent
  spent_fair m = fourteen_fair Passage.Spent refl (inr (drops c more side m))

  unserved_fair : FairPassage c side more Passage.Unserved
  unfolding carried_of reply_of
  unserved_fair n = quiet c _ _ _ (omega arith) (omega arith) (stays c more side Passage.Unserved refl refl refl)

  three_fair : ServesThree c → FairPassage c side more (under_three_of (meter_of c.meters side))
  unfolding under_three_of
  three_fair s =
      by_cond (FairPassage c side more) (ltb 0 (meter_of c.meters side).credit) (λ _. passed_fair (Passage.Three _) refl)
      (λ z.
      by_cond (FairPassage c side more) (meter_of c.meters side).mark (λ m. spent_fair (λ _. m))
      (λ m.
      fourteen_fair (Passage.Marks (marked_of (meter_of c.meters side))) refl
      (inl (marks c more side s (let h = ltb-false 0 (meter_of c.meters side).credit z in omega arith) m))))

  passage_by : (two three : Bool) → Decides three (ServesThree c) → FairPassage c side more (passage_of (meter_of c.meters side) two three)
  unfolding passage_of
  passage_by two three d =
      by_cond (FairPassage c side more) (two && ltb (meter_of c.meters side).count 2) (λ _. passed_fair (Passage.Two _) refl)
      (λ _.
      by_cond (FairPassage c side more) three (λ t. three_fair (d.so t))
      (λ t. by_cond (FairPassage c side more) two (λ _. spent_fair (λ s. never (d.back s) t)) (λ _. unserved_fair)))

  passage_fair : FairPassage c side more (information_passage_of c side)
  unfolding information_passage_of
  passage_fair = passage_by _ _ (serves_three c)

  information_fair : (seen : Seen) → Fair c (Event.Information side more) (with_element_of c seen (carried_of c side more (information_passage_of c side)))
  unfolding with_element_of
  information_fair seen =
      by_cond (Fair c (Event.Information side more)) (whole_of seen) (λ _. passage_fair) (λ _. refused_fair c _ _ _ (omega arith) (omega arith))

-- FACILITY
abbrev FairVerdict : Call → Side → What → Answer → Type 0
FairVerdict c side what v = Fair c (Event.Facility side what) (passes_facility_of c side what v)

module _ (c : Call) (what : What) where
  rejects : (side : Side) → Rejects c side (passes_facility_of c side what Answer.NotGranted)
  unfolding passes_facility_of reply_of only_if_of about_three_of saying_of
  rejects Side.Calling = record { call = refl; back = refl; on = refl }
  rejects Side.Called = record { call = refl; back = refl; on = refl }

  idle : (side : Side) (v : Answer) → taken_of v ≡ false → not_granted_of v ≡ false → Unmoved c (passes_facility_of c side what v)
  unfolding passes_facility_of reply_of only_if_of
  idle Side.Calling v e f = record { call = rw e refl; calling = rw f refl; called = rw e refl }
  idle Side.Called v e f = record { call = rw e refl; calling = rw e refl; called = rw f refl }

  module _ (side : Side) where
    granted_fair : FairVerdict c side what Answer.Taken
    unfolding passes_facility_of reply_of
    granted_fair = taken_fair c _ _ refl

    not_granted_fair : FairVerdict c side what Answer.NotGranted
    unfolding passes_facility_of reply_of
    not_granted_fair n = record { fourteen = λ h. absurd (omega arith); sixteen = λ _. tells (rejects side); others = λ a b. absurd (b refl) }

    not_open_fair : FairVerdict c side what Answer.NotOpen
    unfolding passes_facility_of reply_of
    not_open_fair n = quiet c _ _ _ (omega arith) (omega arith) (idle side Answer.NotOpen refl refl)

    required_fair : FairVerdict c side what Answer.AskedRequired
    unfolding passes_facility_of reply_of
    required_fair n = quiet c _ _ _ (omega arith) (omega arith) (idle side Answer.AskedRequired refl refl)

    request_fair : (may shut : Bool) → FairVerdict c side what (to_request_of may shut)
    unfolding to_request_of
    request_fair true true = not_open_fair
    request_fair true false = granted_fair
    request_fair false shut = not_granted_fair

    answer_fair : (shut : Bool) → FairVerdict c side what (to_answer_of shut)
    unfolding to_answer_of
    answer_fair true = not_open_fair
    answer_fair false = granted_fair

verdict_fair : (c : Call) (side : Side) (what : What) → FairVerdict c side what (facility_verdict_of c side what)
unfolding facility_verdict_of
verdict_fair c side What.Preferred = request_fair c _ side _ _
verdict_fair c side What.Accept = answer_fair c _ side _
verdict_fair c side What.Reject = answer_fair c _ side _
verdict_fair c side What.Required = required_fair c _ side

not_an_event_fair : (c : Call) (e : Event) (s : Bool) → sound_of c ≡ s → Fair c e (not_an_event_of c)
unfolding not_an_event_of
not_an_event_fair c e true h = rw h (refused_fair c e _ _ (omega arith) (omega arith))
not_an_event_fair c e false h = rw h (refused_fair c e _ _ (omega arith) (omega arith))

pub refusals : Refusals step_of
unfolding setup_of proceeds_of alerting_of connect_of information_of facility_of disconnect_of passed_on_of reply_of release_complete_of ends_of tick_of passes_tick_of
refusals c (Event.Setup reference rights q) l = heard_fair c _ _ _ _ (heard c _ _ _) (taken_fair c _ _ refl)
refusals c (Event.Alerting answers) l = heard_fair c _ _ _ _ (heard c _ _ _) (taken_fair c _ _ (answered_taken c _ _ _ l))
refusals c (Event.Connect answers) l = heard_fair c _ _ _ _ (heard c _ _ _) (taken_fair c _ _ (answered_taken c _ _ _ l))
refusals c (Event.Information side more) l = heard_fair c _ _ _ _ (heard c _ _ _) (information_fair c side more _)
refusals c (Event.Facility side what) l = heard_fair c _ _ _ _ (heard c _ _ _) (verdict_fair c side what)
refusals c (Event.Disconnect side cause answers) l = heard_fair c _ _ _ _ (heard c _ _ _) (taken_fair c _ _ refl)
refusals c (Event.ReleaseComplete side) l = heard_fair c _ _ _ _ (heard c _ _ _) (taken_fair c _ _ refl)
refusals c Event.Tick l = heard_fair c _ _ _ _ (heard c _ _ _) (taken_fair c _ _ refl)
refusals c Event.CallProceeding l = not_an_event_fair c _ _ refl
refusals c Event.CongestionControl l = not_an_event_fair c _ _ refl
