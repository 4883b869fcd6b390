-- A step keeps the reference and the rights of a call, and its meters in range.
use Rattle.services.specs.declared.ByService.{ByService}
use Rattle.services.specs.declared.Request.{Request}
use Rattle.sent.specs.declared.side.BySide.{BySide}
use Rattle.std.proofs.Common.{ℕ, ◌+◌, ◌≤◌, List, Bool, true, false, ◌&&◌, ◌≡◌, refl, arith, leb-true, ltb-true, ltb, leb}
use Rattle.flow_meter.specs.declared.Meter.{Meter}
use Rattle.user_element.specs.declared.Seen.{Seen}
use Rattle.rights.specs.declared.Rights.{Rights}
use Rattle.answering_rules.specs.declared.Fate.{Fate}
use Rattle.answer.specs.declared.Answer.{Answer}
use Rattle.facility_rules.specs.declared.What.{What}
use Rattle.message_types.specs.declared.Kind.{Kind}
use Rattle.phases.specs.declared.Phase.{Phase}
use Rattle.sent.specs.declared.side.Side.{Side}
use Rattle.call.specs.declared.Call.{Call}
use Rattle.event.specs.declared.Event.{Event}
use Rattle.call.specs.declared.reply.Reply.{Reply}
use Rattle.flow_meter.specs.Meter.{empty_of, granted_of, refilled_of, ticked_of}
use Rattle.flow_meter.specs.Passage.{counted_of, paid_of, marked_of, under_three_of, passage_of, after_of}
use Rattle.user_element.specs.Element.{whole_of}
use Rattle.answering_rules.specs.Effects.{failed_of, in_force_after_of}
use Rattle.answer.specs.Answer.{taken_of}
use Rattle.flow_meter.specs.CallMeters.{grants_of, meter_of, with_meter_of, empty_meters, refills_of, ticked_meters_of}
use Rattle.call.specs.Answering.{answered_call_of, goes_on_of, clears_of, answering_of, answered_of, alerting_of, connect_of}
use Rattle.call.specs.Disconnect.{closed_call_of, passed_on_of, disconnect_of, ends_of, release_complete_of}
use Rattle.call.specs.Facility.{facility_call_of, passes_facility_of, facility_of}
use Rattle.call.specs.Information.{meters_of, information_passage_of, carried_of, with_element_of, information_of}
use Rattle.call.specs.Reply.{refused_of, heard_of, reply_of}
use Rattle.call.specs.Setup.{proceeds_of}
use Rattle.call.specs.Sound.{in_phase_of}
use Rattle.call.specs.Step.{not_an_event_of, step_of}
use Rattle.call.specs.Tick.{runs_of, passes_tick_of, tick_of}
use Rattle.call_promises.specs.Ranges.{ReferenceInRange, RightsInRange, MeterInRange, InRangeCall}
use Rattle.logic.proofs.Decide.{by_cond}
use Rattle.logic.proofs.Tests.{both}
use Rattle.facility_rules.specs.Asking.{facility_meters_of}

-- one meter
module _ (b : ℕ) (m : Meter) (i : MeterInRange b m) where
  granted_in : MeterInRange b (granted_of m b)
  unfolding granted_of
  granted_in = record { credit = omega arith; count = i.count }

  ticked_in : (refill : ℕ) → MeterInRange b (ticked_of m b refill)
  unfolding ticked_of refilled_of
  ticked_in refill =
      record {
        credit = by_cond (λ n. n ≤ b) (leb (m.credit + refill) b) (λ t. leb-true _ _ t) (λ _. omega arith);
        count = i.count;
      }

  under_three_in : MeterInRange b (after_of m (under_three_of m))
  unfolding under_three_of paid_of marked_of
  under_three_in =
      by_cond (λ p. MeterInRange b (after_of m p)) (ltb 0 m.credit)
      (λ _. record { credit = omega (arith, i.credit); count = i.count })
      (λ _. by_cond (λ p. MeterInRange b (after_of m p)) m.mark (λ _. i) (λ _. record { credit = i.credit; count = i.count }))

  passage_in : (two three : Bool) → MeterInRange b (after_of m (passage_of m two three))
  unfolding passage_of counted_of
  passage_in two three =
      by_cond (λ p. MeterInRange b (after_of m p)) (two && ltb m.count 2)
      (λ t. record { credit = i.credit; count = let h = ltb-true m.count 2 (both two _ t).1 in omega arith })
      (λ _.
      by_cond (λ p. MeterInRange b (after_of m p)) three (λ _. under_three_in)
      (λ _. by_cond (λ p. MeterInRange b (after_of m p)) two (λ _. i) (λ _. i)))

-- both meters
pub record MetersIn (b : ℕ) (m : BySide Meter) : Type 0 where
  pub calling : MeterInRange b m.calling
  pub called : MeterInRange b m.called

meter_in : (b : ℕ) (m : BySide Meter) (side : Side) → MetersIn b m → MeterInRange b (meter_of m side)
meter_in b m Side.Calling i = i.calling
meter_in b m Side.Called i = i.called

with_in : (b : ℕ) (m : BySide Meter) (side : Side) (n : Meter) → MetersIn b m → MeterInRange b n → MetersIn b (with_meter_of m side n)
with_in b m Side.Calling n i k = record { calling = k; called = i.called }
with_in b m Side.Called n i k = record { calling = i.calling; called = k }

grants_in : (b : ℕ) (m : BySide Meter) → MetersIn b m → MetersIn b (grants_of m b)
unfolding grants_of
grants_in b m i = record { calling = granted_in b _ i.calling; called = granted_in b _ i.called }

fate_in : (b : ℕ) (m : BySide Meter) (f : Fate) → MetersIn b m → MetersIn b (in_force_after_of m b f)
fate_in b m Fate.Kept i = i
fate_in b m Fate.Accepted i = grants_in b m i
fate_in b m Fate.Closed i = i
fate_in b m Fate.Failed i = i

what_in : (b : ℕ) (m : BySide Meter) (w : What) → MetersIn b m → MetersIn b (facility_meters_of m b w)
what_in b m What.Preferred i = i
what_in b m What.Accept i = grants_in b m i
what_in b m What.Reject i = i
what_in b m What.Required i = i

abbrev pub NotSetup : Event → Type 0
NotSetup e = (reference : ℕ) (rights : Rights) (q : ByService Request) → e ≡ Event.Setup reference rights q → ⊥

-- the call d, after a step of c
pub record Follows (c d : Call) : Type 0 where
  pub reference : d.reference ≡ c.reference
  pub rights : d.rights ≡ c.rights
  pub meters : MetersIn c.rights.burst c.meters → MetersIn c.rights.burst d.meters

pub follows_in : {c d : Call} → Follows c d → InRangeCall c → InRangeCall d
follows_in s i =
    let m = s.meters (record { calling = i.calling; called = i.called }) in
    record {
      reference = rw s.reference i.reference;
      rights = rw s.rights i.rights;
      calling = rw s.rights m.calling;
      called = rw s.rights m.called;
    }

module _ (c : Call) where
  pub same : Follows c c
  same = record { reference = refl; rights = refl; meters = λ m. m }

  outcome_in : (kind : Kind) (next : Phase) (f : ByService Fate) (seen : Seen) (x : Bool) → Follows c (answering_of c kind next f seen x).call
  unfolding goes_on_of clears_of answered_call_of in_phase_of
  outcome_in kind next f seen false = record { reference = refl; rights = refl; meters = fate_in _ _ f.three }
  outcome_in kind next f seen true = record { reference = refl; rights = refl; meters = λ m. m }

  pub answered_in : (kind : Kind) (next : Phase) (f : ByService Fate) (l : List ℕ) → Follows c (answered_of c kind next f l).call
  unfolding answered_of
  answered_in kind next f l = outcome_in kind next f _ (failed_of f)

  carried_in : (side : Side) (more : Bool) → Follows c (carried_of c side more (information_passage_of c side)).call
  unfolding carried_of reply_of meters_of information_passage_of
  carried_in side more =
      record {
        reference = refl;
        rights = refl;
        meters = λ m. with_in _ c.meters side _ m (passage_in _ _ (meter_in _ c.meters side m) _ _);
      }

  pub element_in_lem : (side : Side) (more : Bool) (seen : Seen) → Follows c (with_element_of c seen (carried_of c side more (information_passage_of c side))).call
  unfolding with_element_of refused_of
  element_in_lem side more seen = by_cond (λ (r : Reply). Follows c r.call) (whole_of seen) (λ _. carried_in side more) (λ _. same)

  pub facility_in : (side : Side) (what : What) (v : Answer) → Follows c (passes_facility_of c side what v).call
  unfolding passes_facility_of reply_of facility_call_of
  facility_in side what v =
      by_cond (Follows c) (taken_of v) (λ _. record { reference = refl; rights = refl; meters = what_in _ _ what }) (λ _. same)

  pub tick_in : Follows c (passes_tick_of c).call
  unfolding passes_tick_of meters_of refills_of ticked_meters_of
  tick_in =
      record {
        reference = refl;
        rights = refl;
        meters =
            λ i.
            by_cond (λ (m : BySide Meter). MetersIn c.rights.burst m) (runs_of c)
            (λ _. record { calling = ticked_in _ _ i.calling _; called = ticked_in _ _ i.called _ })
            (λ _. i);
      }

  heard_in : (a : Answer) (r : Reply) → Follows c r.call → Follows c (heard_of c a r).call
  unfolding heard_of refused_of
  heard_in a r s = by_cond (λ (r : Reply). Follows c r.call) (taken_of a) (λ _. s) (λ _. same)

  -- any event but SETUP
  pub step_in : (e : Event) (l : List ℕ) → NotSetup e → Follows c (step_of c e l).call
  unfolding alerting_of connect_of information_of facility_of disconnect_of passed_on_of closed_call_of reply_of release_complete_of ends_of in_phase_of tick_of not_an_event_of refused_of
  step_in (Event.Setup reference rights q) l o = absurd (o reference rights q refl)
  step_in (Event.Alerting answers) l o = heard_in _ _ (answered_in _ _ _ l)
  step_in (Event.Connect answers) l o = heard_in _ _ (answered_in _ _ _ l)
  step_in (Event.Information side more) l o = heard_in _ _ (element_in_lem side more _)
  step_in (Event.Facility side what) l o = heard_in _ _ (facility_in side what _)
  step_in (Event.Disconnect side cause answers) l o = heard_in _ _ (record { reference = refl; rights = refl; meters = λ m. m })
  step_in (Event.ReleaseComplete side) l o = heard_in _ _ (record { reference = refl; rights = refl; meters = λ m. m })
  step_in Event.Tick l o = heard_in _ _ tick_in
  step_in Event.CallProceeding l o = same
  step_in Event.CongestionControl l o = same

-- a SETUP in range fills the whole record
pub setup_in : (reference : ℕ) (rights : Rights) (q : ByService Request) (seen : Seen) → ReferenceInRange reference → RightsInRange rights → InRangeCall (proceeds_of reference rights q seen).call
unfolding proceeds_of empty_meters empty_of
setup_in reference rights q seen n r =
    record {
      reference = n;
      rights = r;
      calling = record { credit = omega arith; count = omega arith };
      called = record { credit = omega arith; count = omega arith };
    }
