-- Each credit and each count is that of the account of the events.
use Rattle.services.specs.declared.ByService.{ByService}
use Rattle.sent.specs.declared.side.BySide.{BySide}
use Rattle.std.proofs.Common.{ℕ, List, [], ◌∷◌, Bool, true, false, cond, ◌&&◌, ◌||◌, not, ◌⊎◌, inl, inr, ◌≡◌, refl, ap, ◌∙◌, arith, eqb-true, length, ltb, leb, eqb}
use Rattle.flow_meter.specs.declared.Meter.{Meter}
use Rattle.flow_meter.specs.declared.passage.Passage.{Passage}
use Rattle.user_element.specs.declared.Seen.{Seen}
use Rattle.rights.specs.declared.Rights.{Rights}
use Rattle.answering_rules.specs.declared.Fate.{Fate}
use Rattle.services.specs.declared.Given.{Given}
use Rattle.services.specs.declared.Request.{Request}
use Rattle.services.specs.declared.Standing.{Standing}
use Rattle.answer.specs.declared.Answer.{Answer}
use Rattle.facility_rules.specs.declared.What.{What}
use Rattle.message_types.specs.declared.Kind.{Kind}
use Rattle.phases.specs.declared.Phase.{Phase}
use Rattle.sent.specs.declared.side.Side.{Side}
use Rattle.call.specs.declared.Call.{Call}
use Rattle.event.specs.declared.Event.{Event}
use Rattle.call.specs.declared.reply.Reply.{Reply}
use Rattle.flow_meter.specs.Meter.{empty_of, granted_of, refilled_of, ticked_of}
use Rattle.flow_meter.specs.Passage.{counted_of, paid_of, marked_of, under_three_of, passage_of, after_of}
use Rattle.user_element.specs.Element.{well_formed_of, seen_of, whole_of}
use Rattle.services.specs.Standing.{in_force_of, no_services}
use Rattle.setup_rules.specs.Requests.{asked_standing_of, first_standing_of, lacking_of, standings_of, lacks_of, setup_phase_of}
use Rattle.answering_rules.specs.Fates.{decided_of, alerting_fates_of, connect_fates_of}
use Rattle.answering_rules.specs.Effects.{settled_of, settles_of, failure_of, failed_of, in_force_after_of}
use Rattle.answer.specs.Answer.{number_of, taken_of}
use Rattle.facility_rules.specs.Asking.{nobody_asks, asks_of, may_ask_of, to_request_of, to_answer_of}
use Rattle.phases.specs.Phase.{requested_of, connectable_of, talking_of, active_of, live_of}
use Rattle.information_rules.specs.Serving.{serves_two_of, serves_three_of}
use Rattle.information_rules.specs.Messages.{passage_answer_of}
use Rattle.sent.specs.Side.{peer_of}
use Rattle.flow_meter.specs.CallMeters.{grants_of, empty_meters, refills_of, ticked_meters_of}
use Rattle.call.specs.Answering.{answered_call_of, goes_on_of, clears_of, answering_of, answered_of, alerting_of, connect_of}
use Rattle.call.specs.Disconnect.{closed_call_of, passed_on_of, disconnect_of, ends_of, release_complete_of}
use Rattle.call.specs.Facility.{facility_verdict_of, facility_call_of, passes_facility_of, facility_of}
use Rattle.call.specs.Information.{meters_of, information_passage_of, carried_of, with_element_of, information_of}
use Rattle.call.specs.Reply.{bar_of, refused_of, heard_of, reply_of}
use Rattle.call.specs.Setup.{proceeds_of, setup_of}
use Rattle.call.specs.Sound.{sound_of, fresh_call, in_phase_of}
use Rattle.rights.specs.Rights.{no_rights}
use Rattle.call.specs.Step.{not_an_event_of, step_of}
use Rattle.call.specs.Tick.{runs_of, passes_tick_of, tick_of}
use Rattle.call_promises.specs.Ranges.{Live, InRangeCall}
use Rattle.call_promises.specs.Numbers.{other}
use Rattle.call_promises.specs.Sound.{Offered, run_of}
use Rattle.call_promises.specs.Credit.{Purse, Account, moves, grants, clears, fails, comes, accepts, lacks, remaining, begins, alerts, connects, by_count, by_credit, pays, informs, may, agrees, refills, holds, books, account_of, unopened, Balanced, Credit, Covered}
use Rattle.logic.proofs.Decide.{never, by_cond}
use Rattle.call_promises.proofs.Heard.{bar_not_taken, Heard, through, barred, heard}
use Rattle.call_promises.proofs.Phases.{requested, active, live}
use Rattle.call_promises.proofs.Ranges.{unsound as unsound-when}
use Rattle.call_promises.proofs.Sound.{step_in}

-- the account that a record tells; q: the requests that SETUP left
abbrev purse : Meter → Purse
purse m = record { credit = m.credit; count = m.count }

abbrev told : Call → ByService Request → Account
told c q =
    record {
      rights = c.rights;
      asked = q;
      phase = c.phase;
      two = in_force_of c.standings.two;
      three = in_force_of c.standings.three;
      asks = c.asking;
      calling = purse c.meters.calling;
      called = purse c.meters.called;
    }

-- the request that waits for an answer
abbrev due_of : Standing → Request
due_of Standing.Unasked = Request.Unasked
due_of Standing.Preferred = Request.Preferred
due_of Standing.Required = Request.Required
due_of Standing.InForce = Request.Unasked
due_of Standing.Closed = Request.Unasked

-- what SETUP left is what waits, until ALERTING or CONNECT answers it
record Due (p : Phase) (q : ByService Request) (s : ByService Standing) : Type 0 where
  one : requested_of p ≡ true → q.one ≡ due_of s.one
  two : requested_of p ≡ true → q.two ≡ due_of s.two
  idle : requested_of p ≡ true → in_force_of s.two ≡ false
  three : connectable_of p ≡ true → q.three ≡ due_of s.three

record Agrees (a : Account) (c : Call) : Type 0 where
  requests : ByService Request
  same : a ≡ told c requests
  due : Due c.phase requests c.standings

not_due : (p : Phase) (q : ByService Request) (s : ByService Standing) → requested_of p ≡ false → connectable_of p ≡ false → Due p q s
not_due p q s m n = record { one = λ h. never h m; two = λ h. never h m; idle = λ h. never h m; three = λ h. never h n }

or_no : (b : Bool) → (b || false) ≡ b
or_no true = refl
or_no false = refl

and_yes : (b : Bool) → (b && true) ≡ b
and_yes true = refl
and_yes false = refl

and_cond : {A : Type 0} (a b : Bool) (x y : A) → cond (a && b) x y ≡ cond a (cond b x y) y
and_cond true b x y = refl
and_cond false b x y = refl

-- a sound record hears what its phase and the ranges allow
module _ (a b : Account) (c : Call) (r : Reply) (s : sound_of c ≡ true) (g : Agrees a c) where
  hears : (x y : Bool) → (x ≡ true → y ≡ true → Agrees b r.call) → Agrees (cond (x && y) b a) (heard_of c (bar_of c x y) r).call
  unfolding heard_of bar_of refused_of
  hears true true f = rw s (f refl refl)
  hears true false f = rw s g
  hears false y f = rw s g

  hears_in : (x : Bool) → (x ≡ true → Agrees b r.call) → Agrees (cond x b a) (heard_of c (bar_of c x true) r).call
  unfolding heard_of bar_of refused_of
  hears_in true f = rw s (f refl)
  hears_in false f = rw s g

-- SETUP
fails_lacking : (q : Request) (b : Bool) → fails q b ≡ lacking_of q b
fails_lacking Request.Unasked b = refl
fails_lacking Request.Preferred b = refl
fails_lacking Request.Required b = refl

lacks_same : (r : Rights) (q : ByService Request) → lacks r q ≡ lacks_of r q
unfolding lacks_of
lacks_same r q = rw (fails_lacking q.one _, fails_lacking q.two _, fails_lacking q.three _) refl

asked_due : (q : Request) (b : Bool) → cond b q Request.Unasked ≡ due_of (asked_standing_of q b)
asked_due Request.Unasked true = refl
asked_due Request.Unasked false = refl
asked_due Request.Preferred true = refl
asked_due Request.Preferred false = refl
asked_due Request.Required true = refl
asked_due Request.Required false = refl

first_due : (q : Request) (seen : Seen) (b : Bool) → cond b q Request.Unasked ≡ due_of (first_standing_of q seen b)
unfolding first_standing_of
first_due Request.Unasked seen true = by_cond (λ (s : Standing). Request.Unasked ≡ due_of s) (whole_of seen) (λ _. refl) (λ _. refl)
first_due Request.Unasked seen false = by_cond (λ (s : Standing). Request.Unasked ≡ due_of s) (whole_of seen) (λ _. refl) (λ _. refl)
first_due Request.Preferred seen b = asked_due Request.Preferred b
first_due Request.Required seen b = asked_due Request.Required b

asked_idle : (q : Request) (b : Bool) → in_force_of (asked_standing_of q b) ≡ false
asked_idle Request.Unasked b = refl
asked_idle Request.Preferred true = refl
asked_idle Request.Preferred false = refl
asked_idle Request.Required true = refl
asked_idle Request.Required false = refl

setup_agrees : (reference : ℕ) (r : Rights) (q : ByService Request) (seen : Seen) → Agrees (begins r (remaining r q) (cond (lacks r q) Phase.Ended Phase.Requested)) (proceeds_of reference r q seen).call
unfolding proceeds_of setup_phase_of standings_of empty_meters empty_of nobody_asks
setup_agrees reference r q seen =
    record {
      requests = remaining r q;
      same = rw (lacks_same r q, asked_idle q.two _, asked_idle q.three _) refl;
      due =
          record {
            one = λ _. first_due q.one seen _;
            two = λ _. asked_due q.two _;
            idle = λ _. asked_idle q.two _;
            three = λ _. asked_due q.three _;
          };
    }

-- ALERTING and CONNECT: an answer that is due
decided_failed : (s : Standing) (g : Given) → failure_of (decided_of s g) ≡ fails (due_of s) (accepts g)
decided_failed Standing.Unasked g = refl
decided_failed Standing.Preferred Given.Silent = refl
decided_failed Standing.Preferred Given.Accepted = refl
decided_failed Standing.Preferred Given.Rejected = refl
decided_failed Standing.Required Given.Silent = refl
decided_failed Standing.Required Given.Accepted = refl
decided_failed Standing.Required Given.Rejected = refl
decided_failed Standing.InForce g = refl
decided_failed Standing.Closed g = refl

decided_comes : (s : Standing) (g : Given) → in_force_of s ≡ false → comes (due_of s) (accepts g) ≡ in_force_of (settled_of s (decided_of s g))
decided_comes Standing.Unasked g n = refl
decided_comes Standing.Preferred Given.Silent n = refl
decided_comes Standing.Preferred Given.Accepted n = refl
decided_comes Standing.Preferred Given.Rejected n = refl
decided_comes Standing.Required Given.Silent n = refl
decided_comes Standing.Required Given.Accepted n = refl
decided_comes Standing.Required Given.Rejected n = refl
decided_comes Standing.InForce g n = never refl n
decided_comes Standing.Closed g n = refl

unanswered : (s : Standing) (b : Bool) → in_force_of s ≡ in_force_of (settled_of s (cond b Fate.Kept (decided_of s Given.Silent)))
unanswered s true = refl
unanswered Standing.Unasked false = refl
unanswered Standing.Preferred false = refl
unanswered Standing.Required false = refl
unanswered Standing.InForce false = refl
unanswered Standing.Closed false = refl

-- CONNECT, the account once service 3 is answered
module _ (r : Rights) (q : ByService Request) (two : Bool) (asks : BySide Bool) (m : BySide Meter) where
  abbrev after : Bool → BySide Meter → Account
  after three n =
      record {
        rights = r;
        asked = q;
        phase = Phase.Active;
        two = two;
        three = three;
        asks = asks;
        calling = purse n.calling;
        called = purse n.called;
      }

  three_answered : (s : Standing) (g : Given) → cond (comes (due_of s) (accepts g)) (grants (after (in_force_of s) m)) (after (in_force_of s) m) ≡ after (in_force_of (settled_of s (decided_of s g))) (in_force_after_of m r.burst (decided_of s g))
  unfolding grants_of granted_of
  three_answered Standing.Unasked g = refl
  three_answered Standing.Preferred Given.Silent = refl
  three_answered Standing.Preferred Given.Accepted = refl
  three_answered Standing.Preferred Given.Rejected = refl
  three_answered Standing.Required Given.Silent = refl
  three_answered Standing.Required Given.Accepted = refl
  three_answered Standing.Required Given.Rejected = refl
  three_answered Standing.InForce g = refl
  three_answered Standing.Closed g = refl

  three_comes : (x : Request) (s : Standing) (g : Given) → x ≡ due_of s → cond (comes x (accepts g)) (grants (after (in_force_of s) m)) (after (in_force_of s) m) ≡ after (in_force_of (settled_of s (decided_of s g))) (in_force_after_of m r.burst (decided_of s g))
  three_comes x s g e = rw e (three_answered s g)

-- USER INFORMATION
nothing_formed : (l : List ℕ) → length l ≡ 0 → well_formed_of l ≡ false
unfolding well_formed_of
nothing_formed l h = rw h refl

whole_same : (l : List ℕ) (limit : ℕ) → (well_formed_of l && leb (length l) limit) ≡ whole_of (seen_of l limit)
unfolding seen_of
whole_same l limit =
    let P : Seen → Type 0 = λ s. (well_formed_of l && leb (length l) limit) ≡ whole_of s in
    by_cond P (eqb (length l) 0) (λ z. rw (nothing_formed l (eqb-true _ _ z)) refl)
    (λ _.
    by_cond P (well_formed_of l) (λ w. by_cond P (leb (length l) limit) (λ t. rw (w, t) refl) (λ t. rw (w, t) refl)) (λ w. rw w refl))

serves_two : (p : Phase) (f t : Bool) → talking_of p ≡ true → (f && (not (active_of p) || t)) ≡ serves_two_of p f t
serves_two Phase.Fresh f t h = never h refl
serves_two Phase.Requested f t h = never h refl
serves_two Phase.Alerting f t h = and_yes f
serves_two Phase.Active f t h = refl
serves_two Phase.Clearing f t h = never h refl
serves_two Phase.Ended f t h = never h refl

serves_three : (p : Phase) (f : Bool) → (active_of p && f) ≡ serves_three_of p f
serves_three Phase.Fresh f = refl
serves_three Phase.Requested f = refl
serves_three Phase.Alerting f = refl
serves_three Phase.Active f = refl
serves_three Phase.Clearing f = refl
serves_three Phase.Ended f = refl

module _ (m : Meter) where
  under_pays : (b : Bool) → ltb 0 m.credit ≡ b → pays false b (purse m) ≡ purse (after_of m (under_three_of m))
  unfolding under_three_of paid_of marked_of
  under_pays true e = rw e refl
  under_pays false e = rw e (by_cond (λ p. purse m ≡ purse (after_of m p)) m.mark (λ _. refl) (λ _. refl))

  passage_pays : (two three b : Bool) → (two && ltb m.count 2) ≡ b → pays b (three && ltb 0 m.credit) (purse m) ≡ purse (after_of m (passage_of m two three))
  unfolding passage_of counted_of
  passage_pays two three true e = rw e refl
  passage_pays two true false e = rw e (under_pays _ refl)
  passage_pays two false false e = rw e (by_cond (λ p. purse m ≡ purse (after_of m p)) two (λ _. refl) (λ _. refl))

  -- with services 2 and 3 in force or not, and late delivery or not
  talks_pays : (p : Phase) (two t three : Bool) → talking_of p ≡ true → pays ((two && (not (active_of p) || t)) && ltb m.count 2) ((active_of p && three) && ltb 0 m.credit) (purse m) ≡ purse (after_of m (passage_of m (serves_two_of p two t) (serves_three_of p three)))
  talks_pays p two t three h = rw (serves_two p two t h, serves_three p three) (passage_pays (serves_two_of p two t) (serves_three_of p three) _ refl)

-- FACILITY
may_same : (r : Rights) (side : Side) → may r side ≡ may_ask_of r side
may_same r Side.Calling = refl
may_same r Side.Called = refl

other_same : (side : Side) → other side ≡ peer_of side
other_same Side.Calling = refl
other_same Side.Called = refl

request_taken : (may shut : Bool) → (may && not shut) ≡ taken_of (to_request_of may shut)
unfolding to_request_of
request_taken true true = refl
request_taken true false = refl
request_taken false shut = refl

answer_taken : (three asks : Bool) → (not three && asks) ≡ taken_of (to_answer_of (three || not asks))
unfolding to_answer_of
answer_taken true asks = refl
answer_taken false true = refl
answer_taken false false = refl

-- the tick
abbrev refilled : Account → Account
refilled a = holds a (refills a.rights a.calling) (refills a.rights a.called)

ticks_live : {A : Type 0} (p : Phase) (t : Bool) (x y : A) → cond (active_of p && t) x y ≡ cond (live_of p) (cond (serves_three_of p t) x y) y
ticks_live Phase.Fresh t x y = refl
ticks_live Phase.Requested t x y = refl
ticks_live Phase.Alerting t x y = refl
ticks_live Phase.Active t x y = refl
ticks_live Phase.Clearing t x y = refl
ticks_live Phase.Ended t x y = refl

-- the events that a sound record takes
module _ (c : Call) (q : ByService Request) (d : Due c.phase q c.standings) where
  abbrev a : Account
  a = told c q

  kept : Agrees a c
  kept = record { requests = q; same = refl; due = d }

  outcome_agrees : (kind : Kind) (next : Phase) (f : ByService Fate) (seen : Seen) (x : Bool) (t : Bool) (b : Account) → t ≡ x → Agrees b (answered_call_of c next f) → Agrees (cond t (clears a) b) (answering_of c kind next f seen x).call
  unfolding goes_on_of clears_of in_phase_of
  outcome_agrees kind next f seen false t b e g = rw e g
  outcome_agrees kind next f seen true t b e g =
      rw e (record { requests = q; same = refl; due = not_due Phase.Clearing q _ refl refl })

  alerts_failed : (g : ByService Given) → requested_of c.phase ≡ true → (fails q.one (accepts g.one) || fails q.two (accepts g.two)) ≡ failed_of (alerting_fates_of c.standings g)
  unfolding alerting_fates_of failed_of
  alerts_failed g h =
      rw (decided_failed c.standings.one g.one, decided_failed c.standings.two g.two, d.one h, d.two h, or_no) refl

  alerts_agrees : (g : ByService Given) (l : List ℕ) → requested_of c.phase ≡ true → Agrees (alerts a g) (answered_of c Kind.Alerting Phase.Alerting (alerting_fates_of c.standings g) l).call
  unfolding answered_of alerting_fates_of answered_call_of settles_of
  alerts_agrees g l h =
      outcome_agrees Kind.Alerting Phase.Alerting (alerting_fates_of c.standings g) _ (failed_of (alerting_fates_of c.standings g)) _
      (moves a Phase.Alerting (comes q.two (accepts g.two)) (in_force_of c.standings.three)) (alerts_failed g h)
      (record {
        requests = q;
        same = rw (d.two h, decided_comes c.standings.two g.two (d.idle h)) refl;
        due =
            record {
              one = λ x. never x refl;
              two = λ x. never x refl;
              idle = λ x. never x refl;
              three = λ _. d.three (rw ((requested c.phase).so h) refl);
            };
      })

  connects_failed : (g : ByService Given) (b : Bool) → requested_of c.phase ≡ b → connectable_of c.phase ≡ true → ((b && (fails q.one (accepts g.one) || fails q.two false)) || fails q.three (accepts g.three)) ≡ failed_of (connect_fates_of (not b) c.standings g)
  unfolding connect_fates_of failed_of
  connects_failed g true e h =
      rw (decided_failed c.standings.one g.one, decided_failed c.standings.two Given.Silent, decided_failed c.standings.three g.three, d.one e, d.two e, d.three h) refl
  connects_failed g false e h =
      rw (decided_failed c.standings.three g.three, d.three h) refl

  connects_agrees : (g : ByService Given) (l : List ℕ) → connectable_of c.phase ≡ true → Agrees (connects a g) (answered_of c Kind.Connect Phase.Active (connect_fates_of (not (requested_of c.phase)) c.standings g) l).call
  unfolding answered_of connect_fates_of answered_call_of settles_of
  connects_agrees g l h =
      let s = c.standings in
      let f = connect_fates_of (not (requested_of c.phase)) s g in
      outcome_agrees Kind.Connect Phase.Active f _ (failed_of f) _ _ (connects_failed g _ refl h)
      (record {
        requests = q;
        same =
            rw (← (unanswered s.two (not (requested_of c.phase))))
            (three_comes c.rights q (in_force_of s.two) c.asking c.meters q.three s.three g.three (d.three h));
        due = not_due Phase.Active q _ refl refl;
      })

  carried_agrees : (side : Side) (more : Bool) → talking_of c.phase ≡ true → Agrees (informs a side) (carried_of c side more (information_passage_of c side)).call
  unfolding carried_of reply_of meters_of information_passage_of
  carried_agrees Side.Calling more h =
      record {
        requests = q;
        same = rw (talks_pays c.meters.calling c.phase (in_force_of c.standings.two) c.rights.late (in_force_of c.standings.three) h) refl;
        due = d;
      }
  carried_agrees Side.Called more h =
      record {
        requests = q;
        same = rw (talks_pays c.meters.called c.phase (in_force_of c.standings.two) false (in_force_of c.standings.three) h) refl;
        due = d;
      }

  element_agrees : (t : Bool) (b : Account) (seen : Seen) (r : Reply) → t ≡ whole_of seen → Agrees b r.call → Agrees (cond t b a) (with_element_of c seen r).call
  unfolding with_element_of refused_of
  element_agrees true b seen r e g = rw (← e) g
  element_agrees false b seen r e g = rw (← e) kept

  either : (t u : Bool) (b : Account) (x : Call) → t ≡ u → Agrees b x → Agrees (cond t b a) (cond u x c)
  either true u b x e g = rw (← e) g
  either false u b x e g = rw (← e) kept

  facility_agrees : (side : Side) (what : What) → active_of c.phase ≡ true → Agrees (agrees a side what) (passes_facility_of c side what (facility_verdict_of c side what)).call
  unfolding passes_facility_of reply_of facility_verdict_of facility_call_of grants_of granted_of nobody_asks
  facility_agrees Side.Calling What.Preferred h =
      let shut = in_force_of c.standings.three || asks_of c.asking Side.Calling in
      either _ _ _ (facility_call_of c Side.Calling What.Preferred) (ap (λ b. b && not shut) (may_same c.rights Side.Calling) ∙ request_taken (may_ask_of c.rights Side.Calling) shut)
      (record { requests = q; same = refl; due = d })
  facility_agrees Side.Called What.Preferred h =
      let shut = in_force_of c.standings.three || asks_of c.asking Side.Called in
      either _ _ _ (facility_call_of c Side.Called What.Preferred) (ap (λ b. b && not shut) (may_same c.rights Side.Called) ∙ request_taken (may_ask_of c.rights Side.Called) shut)
      (record { requests = q; same = refl; due = d })
  facility_agrees Side.Calling What.Accept h =
      either _ _ _ (facility_call_of c Side.Calling What.Accept) (answer_taken (in_force_of c.standings.three) (asks_of c.asking (peer_of Side.Calling)))
      (record { requests = q; same = refl; due = let e = (active c.phase).so h in not_due c.phase q _ (rw e refl) (rw e refl) })
  facility_agrees Side.Called What.Accept h =
      either _ _ _ (facility_call_of c Side.Called What.Accept) (answer_taken (in_force_of c.standings.three) (asks_of c.asking (peer_of Side.Called)))
      (record { requests = q; same = refl; due = let e = (active c.phase).so h in not_due c.phase q _ (rw e refl) (rw e refl) })
  facility_agrees Side.Calling What.Reject h =
      either _ _ _ (facility_call_of c Side.Calling What.Reject) (answer_taken (in_force_of c.standings.three) (asks_of c.asking (peer_of Side.Calling)))
      (record { requests = q; same = refl; due = d })
  facility_agrees Side.Called What.Reject h =
      either _ _ _ (facility_call_of c Side.Called What.Reject) (answer_taken (in_force_of c.standings.three) (asks_of c.asking (peer_of Side.Called)))
      (record { requests = q; same = refl; due = d })
  facility_agrees side What.Required h = kept

  closes_agrees : (one : Standing) → Agrees (clears a) (closed_call_of c one)
  unfolding closed_call_of
  closes_agrees one = record { requests = q; same = refl; due = not_due Phase.Clearing q _ refl refl }

  ends_agrees : Agrees (moves a Phase.Ended a.two a.three) (in_phase_of c Phase.Ended)
  unfolding in_phase_of
  ends_agrees = record { requests = q; same = refl; due = not_due Phase.Ended q _ refl refl }

  ticks_agrees : (t : Bool) → Agrees (cond t (refilled a) a) (meters_of c (refills_of c.meters c.rights t))
  unfolding meters_of refills_of ticked_meters_of ticked_of refilled_of
  ticks_agrees true = record { requests = q; same = refl; due = d }
  ticks_agrees false = record { requests = q; same = refl; due = d }

-- one event
module _ (c : Call) (q : ByService Request) (d : Due c.phase q c.standings) (s : sound_of c ≡ true) where
  ticks_told : (l : List ℕ) → books (told c q) Event.Tick l ≡ cond (live_of c.phase) (cond (serves_three_of c.phase (in_force_of c.standings.three)) (refilled (told c q)) (told c q)) (told c q)
  ticks_told l = ticks_live c.phase (in_force_of c.standings.three) (refilled (told c q)) (told c q)

  step_told : (e : Event) (l : List ℕ) → Agrees (books (told c q) e l) (step_of c e l).call
  unfolding setup_of alerting_of connect_of information_of facility_of disconnect_of passed_on_of reply_of release_complete_of ends_of tick_of passes_tick_of runs_of not_an_event_of refused_of
  step_told (Event.Setup reference r q') l = hears _ _ c _ s (kept c q d) _ _ (λ _ _. setup_agrees reference r q' _)
  step_told (Event.Alerting g) l = hears_in _ _ c _ s (kept c q d) _ (λ h. alerts_agrees c q d g l h)
  step_told (Event.Connect g) l = hears_in _ _ c _ s (kept c q d) _ (λ h. connects_agrees c q d g l h)
  step_told (Event.Information side more) l =
      rw (and_cond (talking_of c.phase) (well_formed_of l && leb (length l) c.rights.limit) (informs (told c q) side) (told c q))
      (hears_in _ _ c _ s (kept c q d) _ (λ h. element_agrees c q d _ _ _ _ (whole_same l c.rights.limit) (carried_agrees c q d side more h)))
  step_told (Event.Facility side what) l = hears_in _ _ c _ s (kept c q d) _ (λ h. facility_agrees c q d side what h)
  step_told (Event.Disconnect side cause g) l = hears _ _ c _ s (kept c q d) _ _ (λ _ _. closes_agrees c q d _)
  step_told (Event.ReleaseComplete side) l = hears_in _ _ c _ s (kept c q d) _ (λ _. ends_agrees c q d)
  step_told Event.Tick l =
      rw (ticks_told l) (hears_in _ _ c _ s (kept c q d) _ (λ _. ticks_agrees c q d _))
  step_told Event.CallProceeding l = kept c q d
  step_told Event.CongestionControl l = kept c q d

sound_by : (c : Call) (b : Bool) → sound_of c ≡ b → (Live c.phase → InRangeCall c) → sound_of c ≡ true
sound_by c true e w = e
sound_by c false e w = let u = (unsound-when c).so e in absurd (u.1 (w u.0))

step_agrees : (a : Account) (c : Call) (e : Event) (l : List ℕ) → Agrees a c → (Live c.phase → InRangeCall c) → Agrees (books a e l) (step_of c e l).call
step_agrees a c e l g w = rw g.same (step_told c g.requests g.due (sound_by c _ refl w) e l)

-- runs
run_agrees : (a : Account) (c : Call) (os : List Offered) → Agrees a c → (Live c.phase → InRangeCall c) → Agrees (account_of a os) (run_of step_of c os)
run_agrees a c [] g w = g
run_agrees a c (o ∷ os) g w =
    run_agrees (books a o.event o.element) (step_of c o.event o.element).call os (step_agrees a c o.event o.element g w)
    (step_in c o.event o.element w)

after_run : (os : List Offered) → Agrees (account_of unopened os) (run_of step_of fresh_call os)
unfolding fresh_call no_rights no_services empty_meters empty_of nobody_asks
after_run os =
    run_agrees unopened fresh_call os (record { requests = unopened.asked; same = refl; due = not_due Phase.Fresh _ _ refl refl })
    (λ v. never ((live Phase.Fresh).back v) refl)

balanced : (a : Account) (c : Call) (side : Side) → Agrees a c → Balanced c a side
balanced a c Side.Calling g = rw g.same (record { credit = refl; count = refl })
balanced a c Side.Called g = rw g.same (record { credit = refl; count = refl })

pub credit : Credit step_of
credit os side = balanced _ _ side (after_run os)

-- a message that is answered 0
abbrev Paid : Bool → Bool → Meter → Answer → Type 0
Paid two three m v = number_of v ≡ 0 → ((two && ltb m.count 2) ≡ true) ⊎ ((three && ltb 0 m.credit) ≡ true)

under_paid : (two : Bool) (m : Meter) → Paid two true m (passage_answer_of (under_three_of m))
unfolding under_three_of
under_paid two m =
    let P : Passage → Type 0 = λ p. Paid two true m (passage_answer_of p) in
    by_cond P (ltb 0 m.credit) (λ h _. inr h)
    (λ _. by_cond P m.mark (λ _ z. absurd (omega arith)) (λ _ z. absurd (omega arith)))

passage_paid : (two three : Bool) (m : Meter) → Paid two three m (passage_answer_of (passage_of m two three))
unfolding passage_of
passage_paid two three m =
    let P : Bool → Passage → Type 0 = λ b p. Paid two b m (passage_answer_of p) in
    by_cond (P three) (two && ltb m.count 2) (λ e _. inl e)
    (λ _.
    elim three as (λ b. P b (cond b (under_three_of m) (cond two Passage.Spent Passage.Unserved))) [
      | true ↦ under_paid two m
      | false ↦ by_cond (P false) two (λ _ z. absurd (omega arith)) (λ _ z. absurd (omega arith))
    ])

abbrev Covers : Call → ByService Request → Side → Reply → Type 0
Covers c q side r = number_of r.answer ≡ 0 → (by_count (told c q) side ≡ true) ⊎ (by_credit (told c q) side ≡ true)

module _ (c : Call) (q : ByService Request) (more : Bool) where
  carried_covers : (side : Side) → talking_of c.phase ≡ true → Covers c q side (carried_of c side more (information_passage_of c side))
  unfolding carried_of reply_of information_passage_of
  carried_covers Side.Calling h =
      rw (serves_two c.phase (in_force_of c.standings.two) c.rights.late h, serves_three c.phase (in_force_of c.standings.three))
      (passage_paid _ _ c.meters.calling)
  carried_covers Side.Called h =
      rw (serves_two c.phase (in_force_of c.standings.two) false h, serves_three c.phase (in_force_of c.standings.three))
      (passage_paid _ _ c.meters.called)

  element_covers : (side : Side) (seen : Seen) → talking_of c.phase ≡ true → Covers c q side (with_element_of c seen (carried_of c side more (information_passage_of c side)))
  unfolding with_element_of refused_of
  element_covers side seen h = by_cond (Covers c q side) (whole_of seen) (λ _. carried_covers side h) (λ _ z. absurd (omega arith))

  covers : (side : Side) (l : List ℕ) → Covers c q side (information_of c side more l)
  unfolding information_of refused_of
  covers side l = view (heard c _ _ _)
    where
      view : {s : Reply} → Heard c (talking_of c.phase) true (with_element_of c (seen_of l c.rights.limit) (carried_of c side more (information_passage_of c side))) s → Covers c q side s
      view (through s h k) = element_covers side _ h
      view (barred _ x) = λ z. absurd (bar_not_taken x z)

pub covered : Covered step_of
covered os side more l z =
    let g = after_run os in
    rw g.same (covers (run_of step_of fresh_call os) g.requests more side l z)
