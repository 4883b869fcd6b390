-- More rights never hand over less: one event, then runs.
use Rattle.std.proofs.Common.{Option, Some, None, ℕ, List, [], ◌∷◌, Bool, true, false, cond, ◌&&◌, ◌||◌, not, inl, inr, ⊎_elim, ◌≡◌, refl, sym, ap, ◌∙◌, arith}
use Rattle.sent.specs.declared.Message.{Message}
use Rattle.services.specs.declared.ByService.{ByService}
use Rattle.sent.specs.declared.side.BySide.{BySide}
use Rattle.flow_meter.specs.declared.Meter.{Meter}
use Rattle.user_element.specs.declared.Note.{Note}
use Rattle.user_element.specs.declared.Seen.{Seen}
use Rattle.rights.specs.declared.Rights.{Rights}
use Rattle.rights.specs.declared.Service.{Service}
use Rattle.answering_rules.specs.declared.Fate.{Fate}
use Rattle.services.specs.declared.Given.{Given}
use Rattle.services.specs.declared.Request.{Request}
use Rattle.services.specs.declared.Said.{Said}
use Rattle.services.specs.declared.Standing.{Standing}
use Rattle.answer.specs.declared.Answer.{Answer}
use Rattle.facility_rules.specs.declared.What.{What}
use Rattle.message_types.specs.declared.Kind.{Kind}
use Rattle.sent.specs.declared.Level.{Level}
use Rattle.phases.specs.declared.Phase.{Phase}
use Rattle.sent.specs.declared.side.Side.{Side}
use Rattle.call.specs.declared.Call.{Call}
use Rattle.event.specs.declared.Event.{Event}
use Rattle.call.specs.declared.reply.Reply.{Reply}
use Rattle.flow_meter.specs.Meter.{ticked_of}
use Rattle.flow_meter.specs.Passage.{after_of}
use Rattle.user_element.specs.Element.{seen_of, whole_of, goes_out_of}
use Rattle.rights.specs.Rights.{has_of, rights_fit_of, reference_fits_of}
use Rattle.services.specs.Standing.{in_force_of}
use Rattle.setup_rules.specs.Requests.{asked_standing_of, implied_of, first_standing_of, standings_of, lacking_of, lacks_of, setup_phase_of, to_caller_of, to_called_of, setup_carries_of}
use Rattle.answering_rules.specs.Fates.{decided_of, alerting_fates_of, connect_fates_of}
use Rattle.answering_rules.specs.Effects.{settled_of, settles_of, failure_of, failed_of}
use Rattle.answer.specs.Answer.{taken_of}
use Rattle.facility_rules.specs.Asking.{nobody_asks, asks_of, may_ask_of, to_request_of, to_answer_of, facility_answer_of, facility_three_of, facility_meters_of}
use Rattle.facility_rules.specs.Messages.{about_three_of}
use Rattle.sent.specs.Message.{saying_of, bare_of, congestion_of, informs_of, only_if_of}
use Rattle.phases.specs.Phase.{fresh_of, requested_of, connectable_of, talking_of, active_of, up_of, live_of}
use Rattle.information_rules.specs.Serving.{late_of, serves_two_of, serves_three_of}
use Rattle.information_rules.specs.Messages.{passes_of}
use Rattle.sent.specs.Side.{peer_of}
use Rattle.call.specs.Answering.{answered_call_of, goes_on_of, clears_of, answering_of, answered_of, alerting_of, connect_of}
use Rattle.call.specs.Disconnect.{closed_call_of, passed_on_of, disconnect_of, ends_of, release_complete_of}
use Rattle.call.specs.Facility.{facility_verdict_of, facility_call_of, passes_facility_of, facility_of}
use Rattle.flow_meter.specs.CallMeters.{meter_of, with_meter_of, empty_meters, refills_of, ready_of, ticked_meters_of}
use Rattle.call.specs.Information.{meters_of, information_passage_of, carried_of, with_element_of, information_of}
use Rattle.call.specs.Reply.{bar_of, refused_of, heard_of, reply_of}
use Rattle.call.specs.Setup.{proceeds_of, setup_of}
use Rattle.call.specs.Records.{opened_of}
use Rattle.call.specs.Sound.{sound_of, fresh_call, in_phase_of}
use Rattle.call.specs.Step.{not_an_event_of, step_of}
use Rattle.call.specs.Tick.{runs_of, passes_tick_of, tick_of}
use Rattle.call_promises.specs.Ranges.{Live, InRangeCall}
use Rattle.call_promises.specs.Sound.{Offered, run_of}
use Rattle.call_promises.specs.Handling.{handed_in}
use Rattle.call_promises.specs.MoreRights.{event_with, with_rights, NoLess, handed_of, HandedToo, NoFewer, end, also, InStep, MoreRights}
use Rattle.logic.proofs.Decide.{never}
use Rattle.call_promises.proofs.Heard.{Heard, through, barred, heard}
use Rattle.call_promises.proofs.Phases.{requested, connectable, talking, active, up, live}
use Rattle.call_promises.proofs.Ranges.{rights_range, unsound}
use Rattle.call_promises.proofs.Conditions.{has, or_false}
use Rattle.call_promises.proofs.Sound.{step_in}
use Rattle.call_promises.proofs.Beside.{and_right, and_left, idle_of, easy_of, Above, same, less, idle_force, force_up, remains_up, closing_up, twin_decided, twin_due, Third, shared, apart, above_third, Poorer, counts_of, passages, ticked_poorer, Poor, granted_count, grants_poor, third_poor, third_settled, Below}

-- whether the event's element goes out in a message
abbrev carries_of : Option Message → Bool
carries_of None = false
carries_of (Some m) = m.element

abbrev Gives : Option Message → Option Message → Type 0
Gives s t = carries_of s ≡ true → carries_of t ≡ true

-- a call that is over hands nothing over any more
abbrev over_of : Phase → Bool
over_of Phase.Fresh = false
over_of Phase.Requested = false
over_of Phase.Alerting = false
over_of Phase.Active = false
over_of Phase.Clearing = true
over_of Phase.Ended = true

data Stage (c d : Call) : Type 0 where
  early : c.phase ≡ Phase.Fresh → d.phase ≡ Phase.Fresh → Stage c d
  going : up_of c.phase ≡ true → Below c d → Stage c d
  over : over_of c.phase ≡ true → Stage c d

record Both (p q : Reply) : Type 0 where
  stage : Stage p.call q.call
  calling : Gives p.dispatch.calling q.dispatch.calling
  called : Gives p.dispatch.called q.dispatch.called

record Silent (p : Reply) : Type 0 where
  phase : over_of p.call.phase ≡ true
  calling : carries_of p.dispatch.calling ≡ false
  called : carries_of p.dispatch.called ≡ false

from_silent : (p q : Reply) → Silent p → Both p q
from_silent p q s =
    record { stage = over s.phase; calling = λ h. never h s.calling; called = λ h. never h s.called }

both_cond : (b : Bool) {p q x y : Reply} → Both p q → Both x y → Both (cond b p x) (cond b q y)
both_cond true f g = f
both_cond false f g = g

-- messages
unsaid : (b : Bool) (s : Option Message) → carries_of s ≡ false → carries_of (only_if_of b s) ≡ false
unfolding only_if_of
unsaid true s e = e
unsaid false s e = refl

informed : (b more : Bool) → carries_of (only_if_of b (informs_of more)) ≡ b
unfolding only_if_of informs_of
informed true more = refl
informed false more = refl

congested : (b : Bool) (v : Level) → carries_of (only_if_of b (congestion_of v)) ≡ false
unfolding congestion_of
congested b v = unsaid b _ refl

about : (b : Bool) (s : Said) → carries_of (only_if_of b (about_three_of s)) ≡ false
unfolding about_three_of saying_of
about b s = unsaid b _ refl

replies : (side : Side) (c d : Call) (a a' : Answer) (n n' : Note) (s s' t t' : Option Message) (x y : Option Service) → Stage c d → Gives s s' → Gives t t' → Both (reply_of side c a n s t x) (reply_of side d a' n' s' t' y)
unfolding reply_of
replies Side.Calling c d a a' n n' s s' t t' x y st f g = record { stage = st; calling = f; called = g }
replies Side.Called c d a a' n n' s s' t t' x y st f g = record { stage = st; calling = g; called = f }

-- the tests that come first
truth : (b : Bool) → (b ≡ false → ⊥) → b ≡ true
truth true f = refl
truth false f = absurd (f refl)

is_sound : (c : Call) → (Live c.phase → InRangeCall c) → sound_of c ≡ true
is_sound c w = truth (sound_of c) (λ h. let u = (unsound c).so h in u.1 (w u.0))

module _ (c d : Call) (st : Stage c d) where
  refused : (x y : Answer) (n n' : Note) → Both (refused_of c x n) (refused_of d y n')
  unfolding refused_of
  refused x y n n' = record { stage = st; calling = λ h. h; called = λ h. h }

  -- one after the other in both, or refused in both
  pair : (p q : Reply) (a a' g g' : Bool) → sound_of c ≡ true → sound_of d ≡ true → a' ≡ a → g' ≡ g → (a ≡ true → Both p q) → Both (heard_of c (bar_of c a g) p) (heard_of d (bar_of d a' g') q)
  unfolding heard_of bar_of
  pair p q true a' true g' s s' e k f = rw (s, s', e, k) (f refl)
  pair p q true a' false g' s s' e k f = rw (s, s', e, k) (refused _ _ _ _)
  pair p q false a' g g' s s' e k f = rw (s, s', e) (refused _ _ _ _)

module _ (c : Call) (h : over_of c.phase ≡ true) where
  silent_refused : (x : Answer) (n : Note) → Silent (refused_of c x n)
  unfolding refused_of
  silent_refused x n = record { phase = h; calling = refl; called = refl }

  silent_heard : (a g : Bool) (p : Reply) → (a ≡ true → Silent p) → Silent (heard_of c (bar_of c a g) p)
  silent_heard a g p f = view (heard c a g p)
    where
      view : {q : Reply} → Heard c a g p q → Silent q
      view (through s t k) = f t
      view (barred _ x) = silent_refused _ _

-- phases
shut : (p : Phase) → over_of p ≡ true → (fresh_of p ≡ false) × (requested_of p ≡ false) × (connectable_of p ≡ false) × (talking_of p ≡ false) × (active_of p ≡ false) × (up_of p ≡ false)
shut Phase.Fresh h = never h refl
shut Phase.Requested h = never h refl
shut Phase.Alerting h = never h refl
shut Phase.Active h = never h refl
shut Phase.Clearing h = (refl, refl, refl, refl, refl, refl)
shut Phase.Ended h = (refl, refl, refl, refl, refl, refl)

-- once the first call is over
ends_silent : (c : Call) (side : Side) → Silent (ends_of c side)
unfolding ends_of reply_of in_phase_of bare_of saying_of
ends_silent c Side.Calling = record { phase = refl; calling = refl; called = refl }
ends_silent c Side.Called = record { phase = refl; calling = refl; called = refl }

tick_silent : (c : Call) → over_of c.phase ≡ true → Silent (passes_tick_of c)
unfolding passes_tick_of meters_of ready_of
tick_silent c h = record { phase = h; calling = congested _ _; called = congested _ _ }

silent_step : (c : Call) (e : Event) (l : List ℕ) → over_of c.phase ≡ true → Silent (step_of c e l)
unfolding setup_of alerting_of connect_of information_of facility_of disconnect_of release_complete_of tick_of not_an_event_of
silent_step c (Event.Setup reference rights q) l h = silent_heard c h _ _ _ (λ a. never a (shut c.phase h).0)
silent_step c (Event.Alerting answers) l h = silent_heard c h _ _ _ (λ a. never a (shut c.phase h).1)
silent_step c (Event.Connect answers) l h = silent_heard c h _ _ _ (λ a. never a (shut c.phase h).2)
silent_step c (Event.Information side more) l h = silent_heard c h _ _ _ (λ a. never a (shut c.phase h).3)
silent_step c (Event.Facility side what) l h = silent_heard c h _ _ _ (λ a. never a (shut c.phase h).4)
silent_step c (Event.Disconnect side cause answers) l h = silent_heard c h _ _ _ (λ a. never a (shut c.phase h).5)
silent_step c (Event.ReleaseComplete side) l h = silent_heard c h _ _ _ (λ _. ends_silent c side)
silent_step c Event.Tick l h = silent_heard c h _ _ _ (λ _. tick_silent c h)
silent_step c Event.CallProceeding l h = silent_refused c h _ _
silent_step c Event.CongestionControl l h = silent_refused c h _ _

-- SETUP
asked_above : (q : Request) (b b' : Bool) → (b ≡ true → b' ≡ true) → lacking_of q b ≡ false → Above (asked_standing_of q b) (asked_standing_of q b')
asked_above q true b' f h = rw (f refl) (same refl)
asked_above Request.Unasked false b' f h = same refl
asked_above Request.Preferred false true f h = less refl refl
asked_above Request.Preferred false false f h = less refl refl
asked_above Request.Required false b' f h = never refl h

first_above : (q : Request) (s : Seen) (b b' : Bool) → (b ≡ true → b' ≡ true) → lacking_of q b ≡ false → Above (first_standing_of q s b) (first_standing_of q s b')
unfolding first_standing_of
first_above q s b b' f h = implied (implied_of q s) b b' f (asked_above q b b' f h)
  where
    implied : (i b b' : Bool) → (b ≡ true → b' ≡ true) → Above (asked_standing_of q b) (asked_standing_of q b') → Above (cond i (cond b Standing.InForce Standing.Closed) (asked_standing_of q b)) (cond i (cond b' Standing.InForce Standing.Closed) (asked_standing_of q b'))
    implied false b b' f a = a
    implied true true b' f a = rw (f refl) (same refl)
    implied true false true f a = less refl refl
    implied true false false f a = less refl refl

asked_third : (q : Request) (b b' : Bool) (a : BySide Bool) → a ≡ nobody_asks → (b ≡ true → b' ≡ true) → lacking_of q b ≡ false → Third b (asked_standing_of q b) (asked_standing_of q b') a a
asked_third q true b' a e f h = rw (f refl) (shared refl refl refl)
asked_third Request.Unasked false b' a e f h = apart refl refl refl e
asked_third Request.Preferred false true a e f h = apart refl refl refl e
asked_third Request.Preferred false false a e f h = apart refl refl refl e
asked_third Request.Required false b' a e f h = never refl h

lacking_up : (q : Request) (b b' : Bool) → (b ≡ true → b' ≡ true) → lacking_of q b ≡ false → lacking_of q b' ≡ false
lacking_up Request.Unasked b b' f h = refl
lacking_up Request.Preferred b b' f h = refl
lacking_up Request.Required true b' f h = rw (f refl) refl
lacking_up Request.Required false b' f h = never refl h

module _ (r r' : Rights) (n : NoLess r r') where
  has_up : (k : Service) → has_of r k ≡ true → has_of r' k ≡ true
  has_up k h = (has r' k).back (n.services k ((has r k).so h))

  lacks_none : (q : ByService Request) → lacks_of r q ≡ false → (lacking_of q.one (has_of r Service.One) ≡ false) × (lacking_of q.two (has_of r Service.Two) ≡ false) × (lacking_of q.three (has_of r Service.Three) ≡ false)
  unfolding lacks_of
  lacks_none q h =
      let t = or_false _ _ h in
      let u = or_false _ _ t.0 in
      (u.0, u.1, t.1)

  lacks_up : (q : ByService Request) → lacks_of r q ≡ false → lacks_of r' q ≡ false
  unfolding lacks_of
  lacks_up q h =
      let t = lacks_none q h in
      rw (lacking_up _ _ _ (has_up Service.One) t.0, lacking_up _ _ _ (has_up Service.Two) t.1, lacking_up _ _ _ (has_up Service.Three) t.2)

  empty_poor : (two : Side → Bool) (three : Bool) → Poor two three empty_meters empty_meters
  empty_poor two three side = record { credit = λ _. omega arith; count = λ _. omega arith }

  filled_below : (reference : ℕ) (q : ByService Request) (seen : Seen) → lacks_of r q ≡ false → Below (opened_of reference r Phase.Requested (standings_of r q seen)) (opened_of reference r' Phase.Requested (standings_of r' q seen))
  unfolding standings_of
  filled_below reference q seen h =
      let t = lacks_none q h in
      record {
        phase = refl;
        rights = n;
        one = first_above q.one seen _ _ (has_up Service.One) t.0;
        two = asked_above q.two _ _ (has_up Service.Two) t.1;
        three = asked_third q.three _ _ nobody_asks refl (has_up Service.Three) t.2;
        meters = empty_poor _ _;
      }

  setup_by : (reference : ℕ) (q : ByService Request) (seen : Seen) (b : Bool) → lacks_of r q ≡ b → Both (proceeds_of reference r q seen) (proceeds_of reference r' q seen)
  unfolding proceeds_of setup_phase_of to_caller_of to_called_of saying_of goes_out_of setup_carries_of
  setup_by reference q seen true h = from_silent _ _ (rw h (record { phase = refl; calling = refl; called = refl }))
  setup_by reference q seen false h =
      let b = filled_below reference q seen h in
      rw (h, lacks_up q h)
      (record {
        stage = going refl b;
        calling = λ x. x;
        called = λ x. and_right (whole_of seen) _ _ (remains_up _ _ b.one) x;
      })

-- the serving of a message
talk_counts : (p : Phase) (f l : Bool) → talking_of p ≡ true → counts_of p f l ≡ serves_two_of p f l
talk_counts Phase.Fresh f l h = refl
talk_counts Phase.Requested f l h = never h refl
talk_counts Phase.Alerting f l h = refl
talk_counts Phase.Active f l h = refl
talk_counts Phase.Clearing f l h = refl
talk_counts Phase.Ended f l h = refl

and_up : (a a' b b' : Bool) → (a ≡ true → a' ≡ true) → (b ≡ true → b' ≡ true) → (a && b) ≡ true → (a' && b') ≡ true
and_up true a' b b' f g h = rw (f refl) (g h)
and_up false a' b b' f g h = never h refl

two_up : (p : Phase) (f f' l l' : Bool) → (f ≡ true → f' ≡ true) → (l ≡ true → l' ≡ true) → serves_two_of p f l ≡ true → serves_two_of p f' l' ≡ true
two_up Phase.Fresh f f' l l' x y h = h
two_up Phase.Requested f f' l l' x y h = h
two_up Phase.Alerting f f' l l' x y h = x h
two_up Phase.Active f f' l l' x y h = and_up f f' l l' x y h
two_up Phase.Clearing f f' l l' x y h = h
two_up Phase.Ended f f' l l' x y h = h

late_up : (side : Side) (l l' : Bool) → (l ≡ true → l' ≡ true) → late_of side l ≡ true → late_of side l' ≡ true
late_up Side.Calling l l' f h = f h
late_up Side.Called l l' f h = h

three_force : (p : Phase) (f : Bool) → serves_three_of p f ≡ true → f ≡ true
three_force Phase.Fresh f h = never h refl
three_force Phase.Requested f h = never h refl
three_force Phase.Alerting f h = never h refl
three_force Phase.Active f h = h
three_force Phase.Clearing f h = never h refl
three_force Phase.Ended f h = never h refl

third_same : (had : Bool) (s t : Standing) (a b : BySide Bool) → Third had s t a b → in_force_of s ≡ true → t ≡ s
third_same had s t a b (shared h e f) x = e
third_same had s t a b (apart h i z f) x = never x (idle_force s i)

weaker : (t t' three : Bool) (m n : Meter) → (t' ≡ true → t ≡ true) → Poorer t three m n → Poorer t' three m n
weaker t t' three m n f p = record { credit = p.credit; count = λ h. p.count (f h) }

with_poor : (two : Side → Bool) (three : Bool) (m n : BySide Meter) (side : Side) (x y : Meter) → Poor two three m n → Poorer (two side) three x y → Poor two three (with_meter_of m side x) (with_meter_of n side y)
with_poor two three m n Side.Calling x y p k = λ side. at side
  where
    at : (side : Side) → Poorer (two side) three (meter_of (with_meter_of m Side.Calling x) side) (meter_of (with_meter_of n Side.Calling y) side)
    at Side.Calling = k
    at Side.Called = p Side.Called
with_poor two three m n Side.Called x y p k = λ side. at side
  where
    at : (side : Side) → Poorer (two side) three (meter_of (with_meter_of m Side.Called x) side) (meter_of (with_meter_of n Side.Called y) side)
    at Side.Calling = p Side.Calling
    at Side.Called = k

-- ticks
module _ (m n : BySide Meter) (r r' : Rights) (w : NoLess r r') where
  refills_poor : (two : Side → Bool) (three runs : Bool) → Poor two three m n → Poor two three (refills_of m r runs) (refills_of n r' runs)
  unfolding refills_of ticked_meters_of
  refills_poor two three true p = λ side. at side
    where
      at : (side : Side) → Poorer (two side) three (meter_of (ticked_meters_of m r) side) (meter_of (ticked_meters_of n r') side)
      at Side.Calling = ticked_poorer _ _ _ _ _ _ _ _ w.burst w.refill (p Side.Calling)
      at Side.Called = ticked_poorer _ _ _ _ _ _ _ _ w.burst w.refill (p Side.Called)
  refills_poor two three false p = p

refills_count : (m : BySide Meter) (r : Rights) (runs : Bool) (side : Side) → (meter_of (refills_of m r runs) side).count ≡ (meter_of m side).count
unfolding refills_of ticked_meters_of ticked_of
refills_count m r true Side.Calling = refl
refills_count m r true Side.Called = refl
refills_count m r false side = refl

-- requests for service 3 while connected
untaken : (r : Rights) (s : Standing) (a : BySide Bool) (side : Side) (what : What) → has_of r Service.Three ≡ false → in_force_of s ≡ false → a ≡ nobody_asks → taken_of (facility_answer_of what (to_request_of (may_ask_of r side) (in_force_of s || asks_of a side)) (to_answer_of (in_force_of s || not (asks_of a (peer_of side))))) ≡ false
unfolding to_request_of to_answer_of nobody_asks
untaken r s a Side.Calling What.Preferred h f e = rw h refl
untaken r s a Side.Called What.Preferred h f e = rw h refl
untaken r s a Side.Calling What.Accept h f e = rw (f, e) refl
untaken r s a Side.Called What.Accept h f e = rw (f, e) refl
untaken r s a Side.Calling What.Reject h f e = rw (f, e) refl
untaken r s a Side.Called What.Reject h f e = rw (f, e) refl
untaken r s a side What.Required h f e = refl

may_same : (r r' : Rights) (side : Side) → NoLess r r' → has_of r Service.Three ≡ true → may_ask_of r' side ≡ may_ask_of r side
may_same r r' Side.Calling n h = rw (has_up r r' n Service.Three h, h) refl
may_same r r' Side.Called n h = rw (has_up r r' n Service.Three h, h, n.leave) refl

facility_easy : (t : Standing) (what : What) → easy_of t ≡ true → easy_of (facility_three_of t what) ≡ true
facility_easy t What.Preferred h = h
facility_easy t What.Accept h = refl
facility_easy t What.Reject h = h
facility_easy t What.Required h = h

facility_count : (m : BySide Meter) (b : ℕ) (what : What) (side : Side) → (meter_of (facility_meters_of m b what) side).count ≡ (meter_of m side).count
facility_count m b What.Preferred side = refl
facility_count m b What.Accept side = granted_count m b side
facility_count m b What.Reject side = refl
facility_count m b What.Required side = refl

failed_same : (f f' : ByService Fate) → failure_of f'.one ≡ failure_of f.one → failure_of f'.two ≡ failure_of f.two → failure_of f'.three ≡ failure_of f.three → failed_of f' ≡ failed_of f
unfolding failed_of
failed_same f f' a b c = rw (a, b, c) refl

came_counts : (p : Phase) (s : Standing) (late : Bool) → connectable_of p ≡ true → counts_of Phase.Active (in_force_of (settled_of s (cond (not (requested_of p)) Fate.Kept (decided_of s Given.Silent)))) late ≡ true → counts_of p (in_force_of s) late ≡ true
came_counts Phase.Fresh s late h x = never h refl
came_counts Phase.Requested s late h x = refl
came_counts Phase.Alerting s late h x = and_left (in_force_of s) late x
came_counts Phase.Active s late h x = x
came_counts Phase.Clearing s late h x = never h refl
came_counts Phase.Ended s late h x = never h refl

-- each event, while the first call is up
abbrev two_serves : Call → Side → Bool
two_serves c side = serves_two_of c.phase (in_force_of c.standings.two) (late_of side c.rights.late)

abbrev three_serves : Call → Bool
three_serves c = serves_three_of c.phase (in_force_of c.standings.three)

module _ (c d : Call) (u : up_of c.phase ≡ true) (b : Below c d) where
  abbrev two_from : Side → Bool
  two_from side = counts_of c.phase (in_force_of c.standings.two) (late_of side c.rights.late)

  seen_same : (l : List ℕ) → seen_of l d.rights.limit ≡ seen_of l c.rights.limit
  seen_same l = ap (seen_of l) b.rights.limit

  moved : (m n : BySide Meter) → Poor two_from (in_force_of c.standings.three) m n → Below (meters_of c m) (meters_of d n)
  unfolding meters_of
  moved m n p =
      record { phase = b.phase; rights = b.rights; one = b.one; two = b.two; three = b.three; meters = p }

  moved_stage : (m n : BySide Meter) → Poor two_from (in_force_of c.standings.three) m n → Stage (meters_of c m) (meters_of d n)
  unfolding meters_of
  moved_stage m n p = going u (moved m n p)

  -- service 3 in force in the first call serves in both or in neither
  threes : in_force_of c.standings.three ≡ true → three_serves d ≡ three_serves c
  threes h = rw (b.phase, third_same _ _ _ _ _ b.three h) refl

  -- USER INFORMATION
  twos : (side : Side) → two_serves c side ≡ true → two_serves d side ≡ true
  twos side x =
      rw b.phase (two_up c.phase _ _ _ _ (force_up _ _ b.two) (late_up side _ _ b.rights.late) x)

  served : (side : Side) → talking_of c.phase ≡ true → (passes_of (information_passage_of c side) ≡ true → passes_of (information_passage_of d side) ≡ true) × Poorer (two_from side) (in_force_of c.standings.three) (after_of (meter_of c.meters side) (information_passage_of c side)) (after_of (meter_of d.meters side) (information_passage_of d side))
  unfolding information_passage_of
  served side h =
      let k = talk_counts c.phase (in_force_of c.standings.two) (late_of side c.rights.late) h in
      rw k
      (passages (two_serves c side) (three_serves c) (two_serves d side) (three_serves d) (in_force_of c.standings.three)
      (meter_of c.meters side) (meter_of d.meters side) (twos side) (three_force c.phase _) threes (rw k at (b.meters side)))

  carried : (side : Side) (more : Bool) → talking_of c.phase ≡ true → Both (carried_of c side more (information_passage_of c side)) (carried_of d side more (information_passage_of d side))
  unfolding carried_of
  carried side more h =
      let t = served side h in
      replies side _ _ _ _ _ _ _ _ _ _ _ _ (moved_stage _ _ (with_poor _ _ _ _ side _ _ b.meters t.1))
      (λ x. never x (congested _ _)) (λ x. informed _ more ∙ t.0 (sym (informed _ more) ∙ x))

  information : (side : Side) (more : Bool) (l : List ℕ) → talking_of c.phase ≡ true → Both (with_element_of c (seen_of l c.rights.limit) (carried_of c side more (information_passage_of c side))) (with_element_of d (seen_of l d.rights.limit) (carried_of d side more (information_passage_of d side)))
  unfolding with_element_of
  information side more l h =
      rw (seen_same l) (both_cond (whole_of (seen_of l c.rights.limit)) (carried side more h) (refused c d (going u b) _ _ _ _))

  -- the tick
  tick_poor : (f : Bool) → in_force_of c.standings.three ≡ f → Poor two_from (in_force_of c.standings.three) (refills_of c.meters c.rights (runs_of c)) (refills_of d.meters d.rights (runs_of d))
  unfolding runs_of
  tick_poor true h = rw (threes h) (refills_poor _ _ _ _ b.rights _ _ _ b.meters)
  tick_poor false h =
      λ side.
      record {
        credit = λ x. never x h;
        count = λ x. omega (arith, refills_count c.meters c.rights (three_serves c) side, refills_count d.meters d.rights (three_serves d) side, (b.meters side).count x);
      }

  tick : Both (passes_tick_of c) (passes_tick_of d)
  unfolding passes_tick_of ready_of
  tick =
      record {
        stage = moved_stage _ _ (tick_poor _ refl);
        calling = λ x. never x (congested _ _);
        called = λ x. never x (congested _ _);
      }

  -- DISCONNECT
  closed : (side : Side) (cause : ℕ) (a : ByService Given) (seen : Seen) → Both (passed_on_of c side cause a seen) (passed_on_of d side cause a seen)
  unfolding passed_on_of closed_call_of saying_of goes_out_of
  closed side cause a seen =
      replies side _ _ _ _ _ _ _ _ _ _ _ _ (over refl) (λ x. x) (λ x. and_right (whole_of seen) _ _ (closing_up _ _ a.one b.one) x)

  disconnected : (side : Side) (cause : ℕ) (a : ByService Given) (l : List ℕ) → Both (passed_on_of c side cause a (seen_of l c.rights.limit)) (passed_on_of d side cause a (seen_of l d.rights.limit))
  disconnected side cause a l = rw (seen_same l) (closed side cause a _)

  -- FACILITY
  facility_meters : (what : What) (two : Side → Bool) → Poor two (in_force_of c.standings.three) c.meters d.meters → Poor two (in_force_of (facility_three_of c.standings.three what)) (facility_meters_of c.meters c.rights.burst what) (facility_meters_of d.meters d.rights.burst what)
  facility_meters What.Preferred two p = p
  facility_meters What.Accept two p = grants_poor _ _ _ _ _ b.rights.burst p true
  facility_meters What.Reject two p = p
  facility_meters What.Required two p = p

  facility_shared : (side : Side) (what : What) → has_of c.rights Service.Three ≡ true → d.standings.three ≡ c.standings.three → d.asking ≡ c.asking → Below (facility_call_of c side what) (facility_call_of d side what)
  unfolding facility_call_of
  facility_shared side what h e f =
      record {
        phase = b.phase;
        rights = b.rights;
        one = b.one;
        two = b.two;
        three = shared h (rw e refl) (rw f refl);
        meters = facility_meters what _ b.meters;
      }

  facility_apart : (side : Side) (what : What) → has_of c.rights Service.Three ≡ false → idle_of c.standings.three ≡ true → easy_of d.standings.three ≡ true → c.asking ≡ nobody_asks → Below c (facility_call_of d side what)
  unfolding facility_call_of
  facility_apart side what h i z f =
      record {
        phase = b.phase;
        rights = b.rights;
        one = b.one;
        two = b.two;
        three = apart h i (facility_easy _ what z) f;
        meters =
            λ side.
            record {
              credit = λ x. never x (idle_force c.standings.three i);
              count = λ x. omega (arith, facility_count d.meters d.rights.burst what side, (b.meters side).count x);
            };
      }

  verdicts : (side : Side) (what : What) → has_of c.rights Service.Three ≡ true → d.standings.three ≡ c.standings.three → d.asking ≡ c.asking → facility_verdict_of d side what ≡ facility_verdict_of c side what
  unfolding facility_verdict_of
  verdicts side what h e f = rw (may_same _ _ side b.rights h, e, f) refl

  untaken_here : (side : Side) (what : What) → has_of c.rights Service.Three ≡ false → idle_of c.standings.three ≡ true → c.asking ≡ nobody_asks → taken_of (facility_verdict_of c side what) ≡ false
  unfolding facility_verdict_of
  untaken_here side what h i f = untaken c.rights c.standings.three c.asking side what h (idle_force c.standings.three i) f

  shared_stage : (v : Bool) (side : Side) (what : What) → Below (facility_call_of c side what) (facility_call_of d side what) → Stage (cond v (facility_call_of c side what) c) (cond v (facility_call_of d side what) d)
  unfolding facility_call_of
  shared_stage true side what k = going u k
  shared_stage false side what k = going u b

  apart_stage : (v : Bool) {x : Call} → Below c x → Stage c (cond v x d)
  apart_stage true k = going u k
  apart_stage false k = going u b

  facility_stage : (side : Side) (what : What) → Third (has_of c.rights Service.Three) c.standings.three d.standings.three c.asking d.asking → Stage (cond (taken_of (facility_verdict_of c side what)) (facility_call_of c side what) c) (cond (taken_of (facility_verdict_of d side what)) (facility_call_of d side what) d)
  facility_stage side what (shared h e f) = rw (verdicts side what h e f) (shared_stage (taken_of (facility_verdict_of c side what)) side what (facility_shared side what h e f))
  facility_stage side what (apart h i z f) = rw (untaken_here side what h i f) (apart_stage (taken_of (facility_verdict_of d side what)) (facility_apart side what h i z f))

  facility : (side : Side) (what : What) → Both (passes_facility_of c side what (facility_verdict_of c side what)) (passes_facility_of d side what (facility_verdict_of d side what))
  unfolding passes_facility_of
  facility side what =
      replies side _ _ _ _ _ _ _ _ _ _ _ _ (facility_stage side what b.three) (λ x. never x (about _ _)) (λ x. never x (about _ _))

  -- ALERTING and CONNECT
  outcome : (kind : Kind) (next : Phase) (f f' : ByService Fate) (seen : Seen) (x : Bool) → up_of next ≡ true → Below (answered_call_of c next f) (answered_call_of d next f') → Both (answering_of c kind next f seen x) (answering_of d kind next f' seen x)
  unfolding goes_on_of clears_of answered_call_of in_phase_of saying_of bare_of goes_out_of
  outcome kind next f f' seen false v k =
      record {
        stage = going v k;
        calling = λ x. and_right (whole_of seen) _ _ (force_up _ _ k.one) x;
        called = λ x. x;
      }
  outcome kind next f f' seen true v k =
      from_silent _ _ (record { phase = refl; calling = refl; called = refl })

  answered : (kind : Kind) (next : Phase) (f f' : ByService Fate) (l : List ℕ) → up_of next ≡ true → failed_of f' ≡ failed_of f → Below (answered_call_of c next f) (answered_call_of d next f') → Both (answered_of c kind next f l) (answered_of d kind next f' l)
  unfolding answered_of
  answered kind next f f' l v e k = rw (seen_same l, e) (outcome kind next f f' _ (failed_of f) v k)

  alerted_below : (a : ByService Given) → c.phase ≡ Phase.Requested → Below (answered_call_of c Phase.Alerting (alerting_fates_of c.standings a)) (answered_call_of d Phase.Alerting (alerting_fates_of d.standings a))
  unfolding answered_call_of alerting_fates_of settles_of
  alerted_below a e =
      record {
        phase = refl;
        rights = b.rights;
        one = (twin_decided _ _ a.one b.one).stands;
        two = (twin_decided _ _ a.two b.two).stands;
        three = b.three;
        meters = λ side. weaker (two_from side) _ _ _ _ (λ _. rw e refl) (b.meters side);
      }

  alerted : (a : ByService Given) (l : List ℕ) → c.phase ≡ Phase.Requested → Both (answered_of c Kind.Alerting Phase.Alerting (alerting_fates_of c.standings a) l) (answered_of d Kind.Alerting Phase.Alerting (alerting_fates_of d.standings a) l)
  unfolding alerting_fates_of
  alerted a l e =
      answered Kind.Alerting Phase.Alerting (alerting_fates_of c.standings a) (alerting_fates_of d.standings a) l refl
      (failed_same (alerting_fates_of c.standings a) (alerting_fates_of d.standings a) (twin_decided _ _ a.one b.one).failure (twin_decided _ _ a.two b.two).failure refl) (alerted_below a e)

  module _ (came : Bool) (a : ByService Given) (k : (side : Side) → counts_of Phase.Active (in_force_of (settled_of c.standings.two (cond came Fate.Kept (decided_of c.standings.two Given.Silent)))) (late_of side c.rights.late) ≡ true → two_from side ≡ true) where
    connected_below : Below (answered_call_of c Phase.Active (connect_fates_of came c.standings a)) (answered_call_of d Phase.Active (connect_fates_of came d.standings a))
    unfolding answered_call_of connect_fates_of settles_of
    connected_below =
        record {
          phase = refl;
          rights = b.rights;
          one = (twin_due _ _ came a.one b.one).stands;
          two = (twin_due _ _ came Given.Silent b.two).stands;
          three = third_settled _ _ _ _ _ a.three b.three;
          meters =
              λ side.
              weaker (two_from side) _ _ _ _ (k side)
              (third_poor two_from c.meters d.meters _ _ b.rights.burst _ _ _ _ _ a.three b.three b.meters side);
        }

    connected_by : (l : List ℕ) → Both (answered_of c Kind.Connect Phase.Active (connect_fates_of came c.standings a) l) (answered_of d Kind.Connect Phase.Active (connect_fates_of came d.standings a) l)
    unfolding connect_fates_of
    connected_by l =
        answered Kind.Connect Phase.Active (connect_fates_of came c.standings a) (connect_fates_of came d.standings a) l refl
        (failed_same (connect_fates_of came c.standings a) (connect_fates_of came d.standings a) (twin_due _ _ came a.one b.one).failure (twin_due _ _ came Given.Silent b.two).failure
        (twin_decided _ _ a.three (above_third _ _ _ _ _ b.three)).failure)
        connected_below

  connected : (a : ByService Given) (l : List ℕ) → connectable_of c.phase ≡ true → Both (answered_of c Kind.Connect Phase.Active (connect_fates_of (not (requested_of c.phase)) c.standings a) l) (answered_of d Kind.Connect Phase.Active (connect_fates_of (not (requested_of d.phase)) d.standings a) l)
  connected a l h =
      let came : not (requested_of d.phase) ≡ not (requested_of c.phase) = ap (λ p. not (requested_of p)) b.phase in
      rw came (connected_by (not (requested_of c.phase)) a (λ side x. came_counts c.phase c.standings.two _ h x) l)

-- one event
abbrev Good : Call → Type 0
Good c = Live c.phase → InRangeCall c

module _ (r r' : Rights) (n : NoLess r r') where
  fits_same : (b : Bool) → (b && rights_fit_of r') ≡ (b && rights_fit_of r)
  fits_same b = rw ((rights_range r').back n.second, (rights_range r).back n.first) refl

  setup : (reference : ℕ) (q : ByService Request) (l : List ℕ) → Both (proceeds_of reference r q (seen_of l r.limit)) (proceeds_of reference r' q (seen_of l r'.limit))
  setup reference q l =
      let s : seen_of l r'.limit ≡ seen_of l r.limit = ap (seen_of l) n.limit in
      rw s (setup_by r r' n reference q _ _ refl)

  module _ (c d : Call) (w : Good c) (w' : Good d) (st : Stage c d) (ph : d.phase ≡ c.phase) (k : Live c.phase → (up_of c.phase ≡ true) × Below c d) where
    abreast : (e : Event) (l : List ℕ) → Both (step_of c (event_with r e) l) (step_of d (event_with r' e) l)
    unfolding setup_of alerting_of connect_of information_of facility_of disconnect_of release_complete_of tick_of not_an_event_of
    abreast (Event.Setup reference rights q) l =
        pair c d st _ _ _ _ _ _ (is_sound c w) (is_sound d w') (ap fresh_of ph) (fits_same (reference_fits_of reference))
        (λ _. setup reference q l)
    abreast (Event.Alerting answers) l =
        pair c d st _ _ _ _ _ _ (is_sound c w) (is_sound d w') (ap requested_of ph) refl
        (λ h.
        let e = (requested c.phase).so h in
        let t = k (inl (inl e)) in
        alerted c d t.0 t.1 answers l e)
    abreast (Event.Connect answers) l =
        pair c d st _ _ _ _ _ _ (is_sound c w) (is_sound d w') (ap connectable_of ph) refl
        (λ h.
        let t = k (inl (⊎_elim (λ e. inl e) (λ e. inr (inl e)) ((connectable c.phase).so h))) in
        connected c d t.0 t.1 answers l h)
    abreast (Event.Information side more) l =
        pair c d st _ _ _ _ _ _ (is_sound c w) (is_sound d w') (ap talking_of ph) refl
        (λ h.
        let t = k (inl (inr ((talking c.phase).so h))) in
        information c d t.0 t.1 side more l h)
    abreast (Event.Facility side what) l =
        pair c d st _ _ _ _ _ _ (is_sound c w) (is_sound d w') (ap active_of ph) refl
        (λ h.
        let t = k (inl (inr (inr ((active c.phase).so h)))) in
        facility c d t.0 t.1 side what)
    abreast (Event.Disconnect side cause answers) l =
        pair c d st _ _ _ _ _ _ (is_sound c w) (is_sound d w') (ap up_of ph) refl
        (λ h.
        let t = k (inl ((up c.phase).so h)) in
        disconnected c d t.0 t.1 side cause _ l)
    abreast (Event.ReleaseComplete side) l =
        pair c d st _ _ _ _ _ _ (is_sound c w) (is_sound d w') (ap live_of ph) refl (λ _. from_silent _ _ (ends_silent c side))
    abreast Event.Tick l =
        pair c d st _ _ _ _ _ _ (is_sound c w) (is_sound d w') (ap live_of ph) refl
        (λ h.
        let t = k ((live c.phase).so h) in
        tick c d t.0 t.1)
    abreast Event.CallProceeding l = refused c d st _ _ _ _
    abreast Event.CongestionControl l = refused c d st _ _ _ _

  step : (c d : Call) (e : Event) (l : List ℕ) → Good c → Good d → Stage c d → Both (step_of c (event_with r e) l) (step_of d (event_with r' e) l)
  step c d e l w w' (early h h') =
      abreast c d w w' (early h h') (h' ∙ sym h) (λ v. never ((live c.phase).back v) (rw h refl)) e l
  step c d e l w w' (going u b) = abreast c d w w' (going u b) b.phase (λ _. (u, b)) e l
  step c d e l w w' (over h) = from_silent _ _ (silent_step c (event_with r e) l h)

-- runs
in_step : (c d : Call) → Stage c d → InStep c d
in_step c d (early h h') u = h' ∙ sym h
in_step c d (going v b) u = b.phase
in_step c d (over h) u = never ((up c.phase).back u) (shut c.phase h).5

handed_is : (s : Option Message) (l : List ℕ) → handed_in s l ≡ cond (carries_of s) l []
handed_is None l = refl
handed_is (Some m) l = refl

kept_cond : (b b' : Bool) (l : List ℕ) → (b ≡ true → b' ≡ true) → (cond b l [] ≡ [] → ⊥) → cond b' l [] ≡ cond b l []
kept_cond true b' l f h = rw (f refl) refl
kept_cond false b' l f h = absurd (h refl)

kept : (s t : Option Message) (l : List ℕ) → Gives s t → HandedToo (handed_in s l) (handed_in t l)
kept s t l f h = handed_is t l ∙ (kept_cond _ _ l f (λ e. h (handed_is s l ∙ e)) ∙ sym (handed_is s l))

module _ (r r' : Rights) (n : NoLess r r') where
  runs : (c d : Call) (os : List Offered) → Good c → Good d → Stage c d → NoFewer (handed_of step_of c (with_rights r os)) (handed_of step_of d (with_rights r' os)) × InStep (run_of step_of c (with_rights r os)) (run_of step_of d (with_rights r' os))
  runs c d [] w w' st = (end, in_step c d st)
  runs c d (o ∷ os) w w' st =
      let p = step_of c (event_with r o.event) o.element in
      let q = step_of d (event_with r' o.event) o.element in
      let s = step r r' n c d o.event o.element w w' st in
      let t = runs p.call q.call os (step_in c (event_with r o.event) o.element w) (step_in d (event_with r' o.event) o.element w') s.stage in
      (also (kept p.dispatch.calling q.dispatch.calling o.element s.calling) (kept p.dispatch.called q.dispatch.called o.element s.called) t.0, t.1)

fresh_good : Good fresh_call
unfolding fresh_call
fresh_good v = never ((live Phase.Fresh).back v) refl

fresh_stage : Stage fresh_call fresh_call
unfolding fresh_call
fresh_stage = early refl refl

pub more_rights_lem : MoreRights step_of
more_rights_lem r r' n os = runs r r' n fresh_call fresh_call os fresh_good fresh_good fresh_stage
