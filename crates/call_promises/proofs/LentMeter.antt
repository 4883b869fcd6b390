-- The lent meter and the meters of a call.
use Rattle.std.proofs.Common.{Option, Some, None, ℕ, ◌≤◌, List, [], ◌∷◌, Bool, true, false, cond, ◌↔◌, inl, inr, ◌≡◌, refl, ap, sym, ◌∙◌, arith, lit≤, length}
use Rattle.sent.specs.declared.Message.{Message}
use Rattle.flow_meter.specs.declared.Meter.{Meter}
use Rattle.flow_meter.specs.declared.lent.Spent.{Spent}
use Rattle.flow_meter.specs.declared.lent.Ticked.{Ticked}
use Rattle.flow_meter.specs.declared.passage.Passage.{Passage}
use Rattle.flow_meter.specs.Meter.{meter_fits_of, ticked_of, refilled_of}
use Rattle.flow_meter.specs.Passage.{passage_of, after_of, under_three_of, marked_of}
use Rattle.flow_meter.specs.Lent.{spent_by, lent_fits_of, spends_of, refill_fits_of, ticks_of, spent_number, ticked_number}
use Rattle.flow_meter.specs.CallMeters.{meter_of, ticked_meters_of, refills_of, ready_of}
use Rattle.user_element.specs.declared.Seen.{Seen}
use Rattle.user_element.specs.Element.{well_formed_of, seen_of, whole_of}
use Rattle.rights.specs.Rights.{rights_fit_of, reference_fits_of}
use Rattle.sent.specs.declared.Level.{Level}
use Rattle.sent.specs.declared.side.Side.{Side}
use Rattle.sent.specs.Message.{silence, congestion_of, only_if_of}
use Rattle.phases.specs.Phase.{talking_of, live_of}
use Rattle.answer.specs.Answer.{number_of}
use Rattle.information_rules.specs.Messages.{passage_answer_of, to_sender_of}
use Rattle.call.specs.declared.Call.{Call}
use Rattle.call.specs.declared.reply.Reply.{Reply}
use Rattle.call.specs.Information.{meters_of, information_passage_of, carried_of, with_element_of, information_of}
use Rattle.call.specs.Reply.{bar_of, heard_of, reply_of}
use Rattle.call.specs.Sound.{sound_of, fields_fit_of}
use Rattle.call.specs.Tick.{runs_of, passes_tick_of, tick_of}
use Rattle.call_promises.specs.Ranges.{Within, MeterInRange, InRangeCall}
use Rattle.call_promises.specs.Numbers.{WellFormed, ServesThree, meter_from, other}
use Rattle.call_promises.specs.Refusals.{not_ready}
use Rattle.call_promises.specs.LentMeter.{ToldServices, SpendsAlike, LentSpending, ready, TicksAlike, LentTicking, LentSample, LentMet}
use Rattle.logic.proofs.Decide.{never, by_cond, Decides, both, le}
use Rattle.call_promises.proofs.Conditions.{serves_two, serves_three}
use Rattle.call_promises.proofs.Phases.{talking, live}
use Rattle.call_promises.proofs.Ranges.{within_range, meter_range, fields_range}
use Rattle.call_promises.proofs.Seen.{Sight, absent, malformed, too_long, whole, sight}

-- two tests of one condition come out alike
alike : (a b : Bool) {P : Type 0} → Decides a P → Decides b P → a ≡ b
alike true b d e = sym (e.back (d.so refl))
alike false true d e = d.back (e.so refl)
alike false false d e = refl

-- a record in range is heard
in_order : (c : Call) → InRangeCall c → sound_of c ≡ true
unfolding sound_of
in_order c i = by_cond (λ (b : Bool). b ≡ true) (live_of c.phase) (λ _. (fields_range c).back i) (λ _. refl)

hears : (c : Call) (allowed : Bool) (r : Reply) → InRangeCall c → allowed ≡ true → heard_of c (bar_of c allowed true) r ≡ r
unfolding heard_of bar_of
hears c allowed r i h = simp (in_order c i, h)

-- the meter of each side fits its burst
meter_in : (c : Call) (side : Side) → InRangeCall c → MeterInRange c.rights.burst (meter_of c.meters side)
meter_in c Side.Calling i = i.calling
meter_in c Side.Called i = i.called

lent_fits : (m : Meter) (burst : ℕ) → Within 1 burst 255 → MeterInRange burst m → lent_fits_of m burst ≡ true
unfolding lent_fits_of
lent_fits m burst w i = (both _ _ (within_range 1 burst 255) (meter_range m burst)).back (w, i)

refill_fits : (m : Meter) (burst refill : ℕ) → Within 1 burst 255 → Within 1 refill 255 → MeterInRange burst m → refill_fits_of m burst refill ≡ true
unfolding refill_fits_of
refill_fits m burst refill w v i = simp (lent_fits m burst w i, (le 1 refill).back v.0, (le refill 255).back v.1)

-- an element in order
seen_whole : {l : List ℕ} {limit : ℕ} {s : Seen} → Sight l limit s → WellFormed l → length l ≤ limit → whole_of s ≡ true
seen_whole (absent e) w h = absurd (omega (arith, w.least))
seen_whole (malformed e n) w h = absurd (n w)
seen_whole (too_long e n k) w h = absurd (omega arith)
seen_whole (whole e n k) w h = refl

-- what is sent, and what spend and tick say, by a test
abbrev is_sent : Option Message → Bool
is_sent None = false
is_sent (Some m) = true

abbrev is_marked : Spent → Bool
is_marked Spent.Two = false
is_marked Spent.Three = false
is_marked Spent.Marked = true
is_marked Spent.Dropped = false
is_marked Spent.Unserved = false
is_marked Spent.Unsound = false

abbrev is_ready : Ticked → Bool
is_ready Ticked.Ready = true
is_ready Ticked.Quiet = false
is_ready Ticked.Unsound = false

-- one message, by its passage
number_so : (p : Passage) → number_of (passage_answer_of p) ≡ spent_number (spent_by p)
number_so (Passage.Two n) = refl
number_so (Passage.Three n) = refl
number_so (Passage.Marks n) = refl
number_so Passage.Spent = refl
number_so Passage.Unserved = refl

mark_so : (p : Passage) → (spent_by p ≡ Spent.Marked ↔ to_sender_of p ≡ not_ready)
unfolding only_if_of congestion_of silence
mark_so (Passage.Two n) = (λ h. never (ap is_marked h) refl, λ k. never (ap is_sent k) refl)
mark_so (Passage.Three n) = (λ h. never (ap is_marked h) refl, λ k. never (ap is_sent k) refl)
mark_so (Passage.Marks n) = (λ h. refl, λ k. refl)
mark_so Passage.Spent = (λ h. never (ap is_marked h) refl, λ k. never (ap is_sent k) refl)
mark_so Passage.Unserved = (λ h. never (ap is_marked h) refl, λ k. never (ap is_sent k) refl)

module _ (c : Call) (more : Bool) (burst : ℕ) (two three : Bool) (p : Passage) where
  carried_alike : (side : Side) → (spends_of (meter_of c.meters side) burst two three).answer ≡ spent_by p → (spends_of (meter_of c.meters side) burst two three).next ≡ after_of (meter_of c.meters side) p → SpendsAlike (meter_from c side) (meter_from c (other side)) burst two three side (carried_of c side more p)
  unfolding carried_of reply_of meters_of
  carried_alike Side.Calling e f =
      record {
        number = number_so p ∙ ap spent_number (sym e);
        meter = sym f;
        stays = refl;
        marked = (λ h. (mark_so p).0 (sym e ∙ h), λ k. e ∙ (mark_so p).1 k);
      }
  carried_alike Side.Called e f =
      record {
        number = number_so p ∙ ap spent_number (sym e);
        meter = sym f;
        stays = refl;
        marked = (λ h. (mark_so p).0 (sym e ∙ h), λ k. e ∙ (mark_so p).1 k);
      }

module _ (m : Meter) (burst : ℕ) (two three : Bool) (fits : lent_fits_of m burst ≡ true) where
  spent_so : (spends_of m burst two three).answer ≡ spent_by (passage_of m two three)
  unfolding spends_of
  spent_so = simp fits

  next_so : (spends_of m burst two three).next ≡ after_of m (passage_of m two three)
  unfolding spends_of
  next_so = simp fits

-- the element is in order, and nothing else bars the message
carried_so : (c : Call) (side : Side) (more : Bool) (l : List ℕ) → InRangeCall c → talking_of c.phase ≡ true → whole_of (seen_of l c.rights.limit) ≡ true → information_of c side more l ≡ carried_of c side more (information_passage_of c side)
unfolding information_of with_element_of
carried_so c side more l i a w = hears c (talking_of c.phase) _ i a ∙ simp w

passage_so : (c : Call) (side : Side) (two three : Bool) → ToldServices c side two three → information_passage_of c side ≡ passage_of (meter_of c.meters side) two three
unfolding information_passage_of
passage_so c side two three t =
    let e = alike _ _ (serves_two c side) (record { so = t.service2.0; back = t.service2.1 }) in
    let f = alike _ _ (serves_three c) (record { so = t.service3.0; back = t.service3.1 }) in
    rw (e, f) refl

pub spending : LentSpending
spending c side more l two three i a w h t =
    let fits = lent_fits (meter_of c.meters side) c.rights.burst i.rights.burst (meter_in c side i) in
    rw (carried_so c side more l i ((talking c.phase).back a) (seen_whole (sight l c.rights.limit) w h), passage_so c side two three t)
    (carried_alike c more c.rights.burst two three (passage_of (meter_of c.meters side) two three) side
    (spent_so (meter_of c.meters side) c.rights.burst two three fits)
    (next_so (meter_of c.meters side) c.rights.burst two three fits))

-- a tick
ready_so : (mark : Bool) → (cond mark Ticked.Ready Ticked.Quiet ≡ Ticked.Ready ↔ only_if_of mark (congestion_of Level.Ready) ≡ ready)
unfolding only_if_of congestion_of silence
ready_so true = (λ h. refl, λ k. refl)
ready_so false = (λ h. never (ap is_ready h) refl, λ k. never (ap is_sent k) refl)

zero_so : (mark : Bool) → 0 ≡ ticked_number (cond mark Ticked.Ready Ticked.Quiet)
zero_so true = refl
zero_so false = refl

ticked_alike : (c : Call) (side : Side) → runs_of c ≡ true → refill_fits_of (meter_of c.meters side) c.rights.burst c.rights.refill ≡ true → TicksAlike (meter_from c side) c.rights.burst c.rights.refill side (passes_tick_of c)
unfolding passes_tick_of meters_of refills_of ticked_meters_of ready_of ticks_of
ticked_alike c Side.Calling r f = record { number = simp f (zero_so c.meters.calling.mark); meter = simp (r, f); cleared = simp (r, f) (ready_so c.meters.calling.mark) }
ticked_alike c Side.Called r f = record { number = simp f (zero_so c.meters.called.mark); meter = simp (r, f); cleared = simp (r, f) (ready_so c.meters.called.mark) }

runs_so : (c : Call) → ServesThree c → runs_of c ≡ true
unfolding runs_of
runs_so c s = (serves_three c).back s

pub ticking : LentTicking
unfolding tick_of
ticking c side l i s =
    let v = (live c.phase).back (inl (inr (inr s.0))) in
    rw (hears c (live_of c.phase) (passes_tick_of c) i v)
    (ticked_alike c side (runs_so c s)
    (refill_fits (meter_of c.meters side) c.rights.burst c.rights.refill i.rights.burst i.rights.refill (meter_in c side i)))

-- computed
sample : LentSample (126 ∷ 2 ∷ 4 ∷ 65 ∷ [])
unfolding information_of heard_of bar_of sound_of fields_fit_of reference_fits_of rights_fit_of meter_fits_of with_element_of seen_of well_formed_of carried_of reply_of information_passage_of passage_of under_three_of marked_of spends_of lent_fits_of ticks_of refill_fits_of ticked_of refilled_of
sample = record { dropped = refl; marks = refl; readies = refl }

pub lent_met : LentMet
lent_met = (
  record {
    reference = (lit≤ tt, lit≤ tt);
    rights =
        record {
          services = lit≤ tt;
          limit = (lit≤ tt, lit≤ tt);
          burst = (lit≤ tt, lit≤ tt);
          refill = (lit≤ tt, lit≤ tt);
        };
    calling = record { credit = lit≤ tt; count = lit≤ tt };
    called = record { credit = lit≤ tt; count = lit≤ tt };
  },
  inr refl,
  record { least = lit≤ tt; first = refl; second = refl },
  record {
    service2 = (λ _. inr (refl, refl, refl, refl), λ _. refl);
    service3 = (λ _. (refl, refl), λ _. refl);
  },
  sample,
)
