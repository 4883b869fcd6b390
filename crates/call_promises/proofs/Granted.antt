-- A service in force was asked for and accepted in the run.
use Rattle.services.specs.declared.ByService.{ByService}
use Rattle.sent.specs.declared.side.BySide.{BySide}
use Rattle.std.proofs.Common.{ℕ, List, [], ◌∷◌, ◌++◌, append-nil, append_assoc, Bool, true, false, cond, ◌||◌, not, ◌⊎◌, inl, inr, ⊎_elim, ◌≡◌, refl, arith}
use Rattle.user_element.specs.declared.Seen.{Seen}
use Rattle.rights.specs.declared.Rights.{Rights}
use Rattle.rights.specs.declared.Service.{Service}
use Rattle.answering_rules.specs.declared.Fate.{Fate}
use Rattle.services.specs.declared.Given.{Given}
use Rattle.services.specs.declared.Request.{Request}
use Rattle.services.specs.declared.Standing.{Standing}
use Rattle.answer.specs.declared.Answer.{Answer}
use Rattle.facility_rules.specs.declared.What.{What}
use Rattle.message_types.specs.declared.Kind.{Kind}
use Rattle.phases.specs.declared.Phase.{Phase}
use Rattle.sent.specs.declared.side.Side.{Side}
use Rattle.call.specs.declared.Call.{Call}
use Rattle.event.specs.declared.Event.{Event}
use Rattle.call.specs.declared.reply.Reply.{Reply}
use Rattle.user_element.specs.Element.{whole_of, seen_of}
use Rattle.rights.specs.Rights.{has_of}
use Rattle.services.specs.Standing.{in_force_of, no_services}
use Rattle.setup_rules.specs.Requests.{asked_standing_of, first_standing_of, standings_of}
use Rattle.answering_rules.specs.Fates.{decided_of, alerting_fates_of, connect_fates_of}
use Rattle.answering_rules.specs.Effects.{settled_of, failed_of}
use Rattle.clearing_rules.specs.Closing.{silent_answers, closing_standing_of, heard_answers_of}
use Rattle.answer.specs.Answer.{number_of, taken_of}
use Rattle.facility_rules.specs.Asking.{nobody_asks, asks_of, may_ask_of, to_request_of, to_answer_of}
use Rattle.sent.specs.Side.{peer_of}
use Rattle.call.specs.Answering.{answered_call_of, goes_on_of, clears_of, answering_of, answered_of, alerting_of, connect_of}
use Rattle.call.specs.Disconnect.{closed_call_of, passed_on_of, disconnect_of, ends_of, release_complete_of}
use Rattle.call.specs.Facility.{facility_verdict_of, facility_call_of, passes_facility_of, facility_of}
use Rattle.call.specs.Information.{meters_of, information_passage_of, carried_of, with_element_of, information_of}
use Rattle.call.specs.Reply.{refused_of, reply_of}
use Rattle.call.specs.Setup.{proceeds_of, setup_of}
use Rattle.call.specs.Sound.{fresh_call, in_phase_of}
use Rattle.call.specs.Step.{not_an_event_of, step_of}
use Rattle.call.specs.Tick.{passes_tick_of, tick_of}
use Rattle.call_promises.specs.Numbers.{InForce, Has}
use Rattle.call_promises.specs.Sound.{Offered, run_of}
use Rattle.call_promises.specs.Handling.{Explicit, Implied}
use Rattle.call_promises.specs.Services.{standing_for, Happens, Takes, AsksFor, request, element, facility, Accepts, alerting, connect, disconnect, Granted}
use Rattle.logic.proofs.Decide.{never, by_cond, both, as_is}
use Rattle.call_promises.proofs.Heard.{Heard, through, barred, heard}
use Rattle.call_promises.proofs.Conditions.{has}
use Rattle.call_promises.proofs.Seen.{Sight, absent, malformed, too_long, whole, sight}
use Rattle.call_promises.proofs.Required.{run_append, fate_for, settled_for}

-- a service that is open or in force, or that FACILITY asks for
abbrev Stands : Standing → Type 0
Stands Standing.Unasked = ⊥
Stands Standing.Preferred = Unit {0}
Stands Standing.Required = Unit {0}
Stands Standing.InForce = Unit {0}
Stands Standing.Closed = ⊥

abbrev AskedNow : BySide Bool → Service → Type 0
AskedNow a Service.One = ⊥
AskedNow a Service.Two = ⊥
AskedNow a Service.Three = (a.calling ≡ true) ⊎ (a.called ≡ true)

abbrev Known : Call → Service → Type 0
Known c k = Stands (standing_for c.standings k) ⊎ AskedNow c.asking k

in_force_stands : (s : Standing) → InForce s → Stands s
in_force_stands s e = rw e tt

-- what an event makes of a service, d being the record after it and n its answer: nothing that was not asked for, nor
-- in force that was not accepted
record Traces (c : Call) (k : Service) (e : Event) (l : List ℕ) (d : Call) (n : ℕ) : Type 0 where
  asked : Known d k → (Known c k × (d.rights ≡ c.rights)) ⊎ ((n ≡ 0) × AsksFor k e l × Has d.rights k)
  came : InForce (standing_for d.standings k) → InForce (standing_for c.standings k) ⊎ ((n ≡ 0) × Accepts k e l)

abbrev TracesOf : Call → Service → Event → List ℕ → Reply → Type 0
TracesOf c k e l r = Traces c k e l r.call (number_of r.answer)

module _ (c : Call) (k : Service) (e : Event) (l : List ℕ) where
  same : (d : Call) (n : ℕ) → d.standings ≡ c.standings → d.asking ≡ c.asking → d.rights ≡ c.rights → Traces c k e l d n
  same d n s a r =
      record { asked = λ w. inl (⊎_elim (λ x. inl (rw s at x)) (λ x. inr (rw a at x)) w, r); came = λ i. inl (rw s at i) }

  heard_traces : (a g : Bool) (r : Reply) {s : Reply} → Heard c a g r s → TracesOf c k e l r → TracesOf c k e l s
  unfolding refused_of
  heard_traces a g r (through _ _ _) t = t
  heard_traces a g r (barred _ x) t = same c _ refl refl refl

-- SETUP
stands_asked : (x : Request) (had : Bool) → Stands (asked_standing_of x had) → Explicit x × (had ≡ true)
stands_asked Request.Unasked had w = absurd w
stands_asked Request.Preferred true w = (inl refl, refl)
stands_asked Request.Preferred false w = absurd w
stands_asked Request.Required true w = (inr refl, refl)
stands_asked Request.Required false w = absurd w

not_in_force : (x : Request) (had : Bool) → InForce (asked_standing_of x had) → ⊥
not_in_force Request.Unasked had i = let z : ◌≡◌ {A = ℕ} 0 1 = cc in omega arith
not_in_force Request.Preferred true i = let z : ◌≡◌ {A = ℕ} 0 1 = cc in omega arith
not_in_force Request.Preferred false i = let z : ◌≡◌ {A = ℕ} 0 1 = cc in omega arith
not_in_force Request.Required true i = let z : ◌≡◌ {A = ℕ} 0 1 = cc in omega arith
not_in_force Request.Required false i = let z : ◌≡◌ {A = ℕ} 0 1 = cc in omega arith

module _ (rights : Rights) (q : ByService Request) (l : List ℕ) where
  one_asked : {s : Seen} → Sight l rights.limit s → (x : Request) (had : Bool) → q.one ≡ x → Stands (first_standing_of x s had) → (had ≡ true) × (Explicit x ⊎ Implied rights q l)
  unfolding first_standing_of
  one_asked (absent z) Request.Unasked had e w = absurd w
  one_asked (malformed z f) Request.Unasked had e w = absurd w
  one_asked (too_long z f h) Request.Unasked had e w = absurd w
  one_asked (whole z f h) Request.Unasked true e w = (refl, inr (record { unasked = e; formed = f; limit = h }))
  one_asked (whole z f h) Request.Unasked false e w = absurd w
  one_asked v Request.Preferred had e w = let t = stands_asked Request.Preferred had w in (t.1, inl t.0)
  one_asked v Request.Required had e w = let t = stands_asked Request.Required had w in (t.1, inl t.0)

  one_came : {s : Seen} → Sight l rights.limit s → (x : Request) (had : Bool) → q.one ≡ x → InForce (first_standing_of x s had) → Implied rights q l
  unfolding first_standing_of
  one_came (absent z) Request.Unasked had e i = absurd (not_in_force Request.Unasked had i)
  one_came (malformed z f) Request.Unasked had e i = absurd (not_in_force Request.Unasked had i)
  one_came (too_long z f h) Request.Unasked had e i = absurd (not_in_force Request.Unasked had i)
  one_came (whole z f h) Request.Unasked had e i = record { unasked = e; formed = f; limit = h }
  one_came v Request.Preferred had e i = absurd (not_in_force Request.Preferred had i)
  one_came v Request.Required had e i = absurd (not_in_force Request.Required had i)

nobody : (k : Service) → AskedNow nobody_asks k → ⊥
unfolding nobody_asks
nobody Service.One x = x
nobody Service.Two x = x
nobody Service.Three x = ⊎_elim (λ h. never h refl) (λ h. never h refl) x

module _ (reference : ℕ) (rights : Rights) (q : ByService Request) (l : List ℕ) where
  setup_asked : (k : Service) → Stands (standing_for (standings_of rights q (seen_of l rights.limit)) k) → AsksFor k (Event.Setup reference rights q) l × Has rights k
  unfolding standings_of
  setup_asked Service.One w =
      let t = one_asked rights q l (sight l rights.limit) _ _ refl w in
      let h = (has rights Service.One).so t.0 in (⊎_elim (λ r. request h r) (λ i. element h i) t.1, h)
  setup_asked Service.Two w =
      let t = stands_asked _ _ w in let h = (has rights Service.Two).so t.1 in (request h t.0, h)
  setup_asked Service.Three w =
      let t = stands_asked _ _ w in let h = (has rights Service.Three).so t.1 in (request h t.0, h)

  setup_came : (k : Service) → InForce (standing_for (standings_of rights q (seen_of l rights.limit)) k) → Accepts k (Event.Setup reference rights q) l
  unfolding standings_of
  setup_came Service.One i = element (one_came rights q l (sight l rights.limit) _ _ refl i)
  setup_came Service.Two i = absurd (not_in_force q.two (has_of rights Service.Two) i)
  setup_came Service.Three i = absurd (not_in_force q.three (has_of rights Service.Three) i)

  setup_traces : (c : Call) (k : Service) → TracesOf c k (Event.Setup reference rights q) l (proceeds_of reference rights q (seen_of l rights.limit))
  unfolding proceeds_of
  setup_traces c k =
      record {
        asked = ⊎_elim (λ w. let t = setup_asked k w in inr (refl, t.0, t.1)) (λ x. absurd (nobody k x));
        came = λ i. inr (refl, setup_came k i);
      }

-- ALERTING and CONNECT
record Answered (s : Standing) (f : Fate) (A : Type 0) : Type 0 where
  stands : Stands (settled_of s f) → Stands s
  comes : InForce (settled_of s f) → InForce s ⊎ A

kept : (s : Standing) (A : Type 0) → Answered s Fate.Kept A
kept s A = record { stands = λ w. w; comes = λ i. inl i }

decided_stands : (s : Standing) (g : Given) → Stands (settled_of s (decided_of s g)) → Stands s
decided_stands Standing.Unasked g w = w
decided_stands Standing.Preferred g w = tt
decided_stands Standing.Required g w = tt
decided_stands Standing.InForce g w = tt
decided_stands Standing.Closed g w = w

decided_comes : (s : Standing) (g : Given) → InForce (settled_of s (decided_of s g)) → InForce s ⊎ (g ≡ Given.Accepted)
decided_comes Standing.Unasked g i = inl i
decided_comes Standing.Preferred Given.Silent i = absurd (let z : ◌≡◌ {A = ℕ} 0 1 = cc in omega arith)
decided_comes Standing.Preferred Given.Accepted i = inr refl
decided_comes Standing.Preferred Given.Rejected i = absurd (let z : ◌≡◌ {A = ℕ} 0 1 = cc in omega arith)
decided_comes Standing.Required Given.Silent i = absurd (let z : ◌≡◌ {A = ℕ} 0 1 = cc in omega arith)
decided_comes Standing.Required Given.Accepted i = inr refl
decided_comes Standing.Required Given.Rejected i = absurd (let z : ◌≡◌ {A = ℕ} 0 1 = cc in omega arith)
decided_comes Standing.InForce g i = inl i
decided_comes Standing.Closed g i = inl i

decided : (s : Standing) (g : Given) {A : Type 0} → (g ≡ Given.Accepted → A) → Answered s (decided_of s g) A
decided s g f = record { stands = decided_stands s g; comes = λ i. ⊎_elim (λ x. inl x) (λ x. inr (f x)) (decided_comes s g i) }

module _ (c : Call) (k : Service) (e : Event) (l : List ℕ) (kind : Kind) (next : Phase) (f : ByService Fate) (a : Answered (standing_for c.standings k) (fate_for f k) (Accepts k e l)) where
  outcome_traces : (seen : Seen) (x : Bool) → TracesOf c k e l (answering_of c kind next f seen x)
  unfolding goes_on_of clears_of in_phase_of answered_call_of
  outcome_traces seen false =
      record {
        asked = λ w. inl (⊎_elim (λ x. inl (a.stands (rw (settled_for c next f k) at x))) (λ x. inr x) w, refl);
        came = λ i. ⊎_elim (λ x. inl x) (λ x. inr (refl, x)) (a.comes (rw (settled_for c next f k) at i));
      }
  outcome_traces seen true = same c k e l _ _ refl refl refl

  answered_traces : TracesOf c k e l (answered_of c kind next f l)
  unfolding answered_of
  answered_traces = outcome_traces _ (failed_of f)

module _ (c : Call) (a : ByService Given) (l : List ℕ) where
  alerting_answered : (k : Service) → Answered (standing_for c.standings k) (fate_for (alerting_fates_of c.standings a) k) (Accepts k (Event.Alerting a) l)
  unfolding alerting_fates_of
  alerting_answered Service.One = decided _ _ (λ h. alerting (λ x. let z : ◌≡◌ {A = ℕ} 0 1 = cc in omega arith) h)
  alerting_answered Service.Two = decided _ _ (λ h. alerting (λ x. let z : ◌≡◌ {A = ℕ} 0 1 = cc in omega arith) h)
  alerting_answered Service.Three = kept _ _

  connect_answered : (alerted : Bool) (k : Service) → Answered (standing_for c.standings k) (fate_for (connect_fates_of alerted c.standings a) k) (Accepts k (Event.Connect a) l)
  unfolding connect_fates_of
  connect_answered true Service.One = kept _ _
  connect_answered false Service.One = decided _ _ (λ h. connect (λ x. let z : ◌≡◌ {A = ℕ} 0 1 = cc in omega arith) h)
  connect_answered true Service.Two = kept _ _
  connect_answered false Service.Two = decided _ Given.Silent (λ h. absurd (let z : ◌≡◌ {A = ℕ} 0 1 = cc in omega arith))
  connect_answered alerted Service.Three = decided _ _ (λ h. connect (λ x. let z : ◌≡◌ {A = ℕ} 0 1 = cc in omega arith) h)

-- FACILITY
asks_now : (a : BySide Bool) (side : Side) → asks_of a side ≡ true → AskedNow a Service.Three
asks_now a Side.Calling h = inl h
asks_now a Side.Called h = inr h

may_has : (rights : Rights) (side : Side) → may_ask_of rights side ≡ true → Has rights Service.Three
may_has rights Side.Calling h = (has rights Service.Three).so h
may_has rights Side.Called h = ((both _ _ (has rights Service.Three) (as_is rights.leave)).so h).0

open_request : (f a : Bool) → (f || not a) ≡ false → a ≡ true
open_request true a h = never refl h
open_request false true h = refl
open_request false false h = never refl h

module _ (c : Call) (side : Side) (l : List ℕ) where
  abbrev FacilityTraces : What → Service → Answer → Type 0
  FacilityTraces what k v = Traces c k (Event.Facility side what) l (cond (taken_of v) (facility_call_of c side what) c) (number_of v)

  idle : (what : What) (k : Service) (n : ℕ) → Traces c k (Event.Facility side what) l c n
  idle what k n = same c k _ l c n refl refl refl

  -- a request that is taken
  asks_traces : Has c.rights Service.Three → (k : Service) → FacilityTraces What.Preferred k Answer.Taken
  unfolding facility_call_of
  asks_traces h Service.One = record { asked = λ w. inl (⊎_elim (λ x. inl x) (λ x. absurd x) w, refl); came = λ i. inl i }
  asks_traces h Service.Two = record { asked = λ w. inl (⊎_elim (λ x. inl x) (λ x. absurd x) w, refl); came = λ i. inl i }
  asks_traces h Service.Three = record { asked = λ _. inr (refl, facility, h); came = λ i. inl i }

  -- an acceptance of the other side's request
  accepts_traces : asks_of c.asking (peer_of side) ≡ true → (k : Service) → FacilityTraces What.Accept k Answer.Taken
  unfolding facility_call_of
  accepts_traces h Service.One = record { asked = λ w. inl (⊎_elim (λ x. inl x) (λ x. absurd x) w, refl); came = λ i. inl i }
  accepts_traces h Service.Two = record { asked = λ w. inl (⊎_elim (λ x. inl x) (λ x. absurd x) w, refl); came = λ i. inl i }
  accepts_traces h Service.Three =
      record { asked = λ _. inl (inr (asks_now c.asking (peer_of side) h), refl); came = λ _. inr (refl, facility) }

  -- a rejection of it
  rejects_traces : asks_of c.asking (peer_of side) ≡ true → (k : Service) → FacilityTraces What.Reject k Answer.Taken
  unfolding facility_call_of
  rejects_traces h Service.One = record { asked = λ w. inl (⊎_elim (λ x. inl x) (λ x. absurd x) w, refl); came = λ i. inl i }
  rejects_traces h Service.Two = record { asked = λ w. inl (⊎_elim (λ x. inl x) (λ x. absurd x) w, refl); came = λ i. inl i }
  rejects_traces h Service.Three =
      record { asked = λ _. inl (inr (asks_now c.asking (peer_of side) h), refl); came = λ i. inl i }

  request_traces : (k : Service) (may shut : Bool) → (may ≡ true → Has c.rights Service.Three) → FacilityTraces What.Preferred k (to_request_of may shut)
  unfolding to_request_of
  request_traces k true true h = idle What.Preferred k _
  request_traces k true false h = asks_traces (h refl) k
  request_traces k false shut h = idle What.Preferred k _

  answer_traces : (what : What) (k : Service) (shut : Bool) → (shut ≡ false → FacilityTraces what k Answer.Taken) → FacilityTraces what k (to_answer_of shut)
  unfolding to_answer_of
  answer_traces what k true f = idle what k _
  answer_traces what k false f = f refl

  verdict_traces : (what : What) (k : Service) → FacilityTraces what k (facility_verdict_of c side what)
  unfolding facility_verdict_of
  verdict_traces What.Preferred k = request_traces k _ _ (may_has c.rights side)
  verdict_traces What.Accept k =
      answer_traces What.Accept k _ (λ h. accepts_traces (open_request (in_force_of c.standings.three) _ h) k)
  verdict_traces What.Reject k =
      answer_traces What.Reject k _ (λ h. rejects_traces (open_request (in_force_of c.standings.three) _ h) k)
  verdict_traces What.Required k = idle What.Required k _

-- DISCONNECT
closing_stands : (s : Standing) (g : Given) → Stands (closing_standing_of s g) → Stands s
closing_stands s Given.Silent w = w
closing_stands s Given.Rejected w = w
closing_stands Standing.Unasked Given.Accepted w = w
closing_stands Standing.Preferred Given.Accepted w = tt
closing_stands Standing.Required Given.Accepted w = tt
closing_stands Standing.InForce Given.Accepted w = tt
closing_stands Standing.Closed Given.Accepted w = w

closing_comes : (s : Standing) (g : Given) → InForce (closing_standing_of s g) → InForce s ⊎ (g ≡ Given.Accepted)
closing_comes s Given.Silent i = inl i
closing_comes s Given.Accepted i = inr refl
closing_comes s Given.Rejected i = inl i

heard_accepted : (side : Side) (cause : ℕ) (a : ByService Given) (l : List ℕ) → (heard_answers_of side a).one ≡ Given.Accepted → Accepts Service.One (Event.Disconnect side cause a) l
unfolding silent_answers
heard_accepted Side.Calling cause a l h = absurd (let z : ◌≡◌ {A = ℕ} 0 1 = cc in omega arith)
heard_accepted Side.Called cause a l h = disconnect h

disconnect_traces : (c : Call) (side : Side) (cause : ℕ) (a : ByService Given) (l : List ℕ) (k : Service) → Traces c k (Event.Disconnect side cause a) l (closed_call_of c (closing_standing_of c.standings.one (heard_answers_of side a).one)) 0
unfolding closed_call_of
disconnect_traces c side cause a l Service.One =
    record {
      asked = λ w. inl (⊎_elim (λ x. inl (closing_stands c.standings.one (heard_answers_of side a).one x)) (λ x. absurd x) w, refl);
      came = λ i. ⊎_elim (λ x. inl x) (λ x. inr (refl, heard_accepted side cause a l x)) (closing_comes c.standings.one (heard_answers_of side a).one i);
    }
disconnect_traces c side cause a l Service.Two = record { asked = λ w. inl (w, refl); came = λ i. inl i }
disconnect_traces c side cause a l Service.Three = record { asked = λ w. inl (w, refl); came = λ i. inl i }

-- any event
information_traces : (c : Call) (k : Service) (side : Side) (more : Bool) (l : List ℕ) (seen : Seen) → TracesOf c k (Event.Information side more) l (with_element_of c seen (carried_of c side more (information_passage_of c side)))
unfolding with_element_of refused_of carried_of reply_of meters_of
information_traces c k side more l seen =
    by_cond (TracesOf c k (Event.Information side more) l) (whole_of seen) (λ _. same c k _ l _ _ refl refl refl)
    (λ _. same c k _ l _ _ refl refl refl)

traces : (c : Call) (k : Service) (e : Event) (l : List ℕ) → TracesOf c k e l (step_of c e l)
unfolding setup_of alerting_of connect_of information_of meters_of facility_of passes_facility_of disconnect_of passed_on_of reply_of release_complete_of ends_of in_phase_of tick_of passes_tick_of not_an_event_of refused_of
traces c k (Event.Setup reference rights q) l = heard_traces c k _ l _ _ _ (heard c _ _ _) (setup_traces reference rights q l c k)
traces c k (Event.Alerting a) l =
    heard_traces c k _ l _ _ _ (heard c _ _ _) (answered_traces c k _ l _ _ _ (alerting_answered c a l k))
traces c k (Event.Connect a) l =
    heard_traces c k _ l _ _ _ (heard c _ _ _) (answered_traces c k _ l _ _ _ (connect_answered c a l _ k))
traces c k (Event.Information side more) l =
    heard_traces c k _ l _ _ _ (heard c _ _ _) (information_traces c k side more l _)
traces c k (Event.Facility side what) l = heard_traces c k _ l _ _ _ (heard c _ _ _) (verdict_traces c side l what k)
traces c k (Event.Disconnect side cause a) l = heard_traces c k _ l _ _ _ (heard c _ _ _) (disconnect_traces c side cause a l k)
traces c k (Event.ReleaseComplete side) l = heard_traces c k _ l _ _ _ (heard c _ _ _) (same c k _ l _ _ refl refl refl)
traces c k Event.Tick l = heard_traces c k _ l _ _ _ (heard c _ _ _) (same c k _ l _ _ refl refl refl)
traces c k Event.CallProceeding l = same c k _ l _ _ refl refl refl
traces c k Event.CongestionControl l = same c k _ l _ _ refl refl refl

-- what holds after a run and not of a fresh record came with an event of the run
module _ (Q : Call → Type 0) (P : List Offered → Offered → Type 0) (steps : (b : List Offered) (o : Offered) → Q (step_of (run_of step_of fresh_call b) o.event o.element).call → Q (run_of step_of fresh_call b) ⊎ P b o) where
  came_with : (b os : List Offered) → Q (run_of step_of fresh_call (b ++ os)) → Q (run_of step_of fresh_call b) ⊎ Happens P (b ++ os)
  came_with b [] w = inl (rw append-nil at w)
  came_with b (o ∷ os) w =
      ⊎_elim
      (λ q.
      ⊎_elim (λ x. inl x) (λ p. inr (record { before = b; event = o; after = os; split = refl; holds = p }))
      (steps b o (rw (run_append fresh_call b (o ∷ [])) at q)))
      (λ h. inr (rw (append_assoc b (o ∷ []) os) at h))
      (came_with (b ++ (o ∷ [])) os (rw (append_assoc b (o ∷ []) os) w))

  happens : (Q fresh_call → ⊥) → (os : List Offered) → Q (run_of step_of fresh_call os) → Happens P os
  happens n os w = ⊎_elim (λ q. absurd (n q)) (λ h. h) (came_with [] os w)

fresh_unknown : (k : Service) → Known fresh_call k → ⊥
unfolding fresh_call no_services
fresh_unknown Service.One w = ⊎_elim (λ x. x) (λ x. x) w
fresh_unknown Service.Two w = ⊎_elim (λ x. x) (λ x. x) w
fresh_unknown Service.Three w = ⊎_elim (λ x. x) (nobody Service.Three) w

asked_in : (k : Service) (os : List Offered) → Known (run_of step_of fresh_call os) k → Happens (Takes step_of (AsksFor k)) os
asked_in k os w =
    happens (λ c. Known c k) (Takes step_of (AsksFor k))
    (λ b o x. ⊎_elim (λ y. inl y.0) (λ y. inr (y.0, y.1)) ((traces (run_of step_of fresh_call b) k o.event o.element).asked x))
    (fresh_unknown k) os w

-- the rights have what is asked for
run_has : (k : Service) (c : Call) (os : List Offered) → (Known c k → Has c.rights k) → Known (run_of step_of c os) k → Has (run_of step_of c os).rights k
run_has k c [] h = h
run_has k c (o ∷ os) h =
    run_has k (step_of c o.event o.element).call os
    (λ w. ⊎_elim (λ y. rw y.1 (h y.0)) (λ y. y.2) ((traces c k o.event o.element).asked w))

pub granted : Granted step_of
granted os k i =
    record {
      had = run_has k fresh_call os (λ w. absurd (fresh_unknown k w)) (inl (in_force_stands _ i));
      accepted =
          happens (λ c. InForce (standing_for c.standings k))
          (λ b o. Takes step_of (Accepts k) b o × Happens (Takes step_of (AsksFor k)) (b ++ (o ∷ [])))
          (λ b o x.
          ⊎_elim (λ y. inl y)
          (λ y. inr ((y.0, y.1), asked_in k (b ++ (o ∷ [])) (rw run_append (inl (in_force_stands _ x)))))
          ((traces (run_of step_of fresh_call b) k o.event o.element).came x))
          (λ x. fresh_unknown k (inl (in_force_stands _ x))) os i;
    }
