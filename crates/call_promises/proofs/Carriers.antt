-- The service that carries an event's element is the one that the sentences say, and there is no other.
use Rattle.std.proofs.Common.{Option, Some, None, ℕ, List, Bool, true, false, ◌&&◌, not, ◌≡◌, refl, sym, ◌∙◌, ap, subst, arith}
use Rattle.services.specs.declared.ByService.{ByService}
use Rattle.services.specs.declared.Request.{Request}
use Rattle.services.specs.declared.Given.{Given}
use Rattle.answering_rules.specs.declared.Fate.{Fate}
use Rattle.rights.specs.declared.Rights.{Rights}
use Rattle.rights.specs.declared.Service.{Service}
use Rattle.services.specs.Standing.{in_force_of}
use Rattle.user_element.specs.declared.Seen.{Seen}
use Rattle.user_element.specs.Element.{seen_of}
use Rattle.message_types.specs.declared.Kind.{Kind}
use Rattle.phases.specs.declared.Phase.{Phase}
use Rattle.phases.specs.Phase.{requested_of}
use Rattle.sent.specs.declared.side.Side.{Side}
use Rattle.sent.specs.Dispatch.{by_one_of}
use Rattle.event.specs.declared.Event.{Event}
use Rattle.facility_rules.specs.declared.What.{What}
use Rattle.answering_rules.specs.Fates.{alerting_fates_of, connect_fates_of}
use Rattle.answering_rules.specs.Effects.{settled_of, settles_of, failed_of}
use Rattle.clearing_rules.specs.Closing.{heard_answers_of}
use Rattle.flow_meter.specs.declared.Meter.{Meter}
use Rattle.flow_meter.specs.declared.passage.Passage.{Passage}
use Rattle.information_rules.specs.Messages.{carrier_of}
use Rattle.setup_rules.specs.Requests.{setup_carries_of}
use Rattle.call.specs.declared.Call.{Call}
use Rattle.call.specs.declared.reply.Reply.{Reply}
use Rattle.call.specs.Answering.{answered_call_of, goes_on_of, clears_of, answering_of, answered_of, alerting_of, connect_of}
use Rattle.call.specs.Disconnect.{one_after_of, passed_on_of, disconnect_of, ends_of, release_complete_of}
use Rattle.call.specs.Facility.{facility_verdict_of, passes_facility_of, facility_of}
use Rattle.call.specs.Information.{information_passage_of, carried_of, with_element_of, information_of}
use Rattle.call.specs.Reply.{refused_of, reply_of}
use Rattle.call.specs.Setup.{proceeds_of, setup_of}
use Rattle.call.specs.Step.{not_an_event_of, step_of}
use Rattle.call.specs.Tick.{passes_tick_of, tick_of}
use Rattle.logic.proofs.Decide.{never, both, Denies, always, over, denied as denies}
use Rattle.call_promises.specs.Numbers.{Allowed}
use Rattle.call_promises.specs.Notes.{Bare, NotCarried, limit_for}
use Rattle.call_promises.specs.Sends.{Hears, Flags, Rides, Intact, CountPays, CreditPays}
use Rattle.call_promises.specs.Carriers.{Carries, setup, alerting, connect, counts, pays, disconnect, IsTheCarrier, CarriersExactly}
use Rattle.call_promises.proofs.Notes.{setup_carries, disconnect_comes}
use Rattle.call_promises.proofs.Phases.{fresh, requested, connectable, talking, active, up, live}
use Rattle.call_promises.proofs.Ranges.{unsound, reference_range, rights_range}
use Rattle.call_promises.proofs.Seen.{Sight, absent, malformed, too_long, whole, sight}
use Rattle.call_promises.proofs.Heard.{Heard, through, barred, heard}
use Rattle.call_promises.proofs.Parts.{Tests, tests, rides, Met, counted, paid, marked, spent, unserved, met, paid_once, left_once}
use Rattle.call_promises.proofs.Sends.{alerting_denies, connect_denies}

-- ---- a carrier and the sentence that names it

-- the service of a carrier
abbrev within : Service → Option Service → Service
within d None = d
within d (Some k) = k

borne_by : {P : Service → Type 0} {x : Option Service} (k : Service) → x ≡ Some k → P k → ((j : Service) → P j → k ≡ j) → IsTheCarrier P x
borne_by {P} k e p u j = ((λ h. subst P (ap (within k) (sym e ∙ h)) p), (λ y. e ∙ ap Some (u j y)))

none_bears : {k : Service} → None ≡ Some k → ⊥
none_bears {k} e = let z : ◌≡◌ {A = ℕ} 0 1 = cc in omega arith

borne_none : {P : Service → Type 0} {x : Option Service} → x ≡ None → ((j : Service) → P j → ⊥) → IsTheCarrier P x
borne_none e f j = ((λ h. absurd (none_bears (sym e ∙ h))), (λ y. absurd (f j y)))

-- an event that is heard has the carrier of its reply, and one that is barred none
heard_borne : (c : Call) (e : Event) (l : List ℕ) (a g : Bool) (r : Reply) {s : Reply} → Heard c a g r s → Tests c e a g → IsTheCarrier (Carries c l e) r.dispatch.carrier → IsTheCarrier (λ k. Hears c e × Carries c l e k) s.dispatch.carrier
unfolding refused_of
heard_borne c e l a g r (through p q t) x f k = ((λ h. (x.so p q t, (f k).0 h)), (λ y. (f k).1 y.1))
heard_borne c e l a g r (barred n b) x f k =
    borne_none {P = λ j. Hears c e × Carries c l e j} refl (λ j y. let t = x.back y.0 in n t.0 t.1 t.2) k

-- ---- SETUP, ALERTING, CONNECT and DISCONNECT: service 1, where the element goes out

pub data OwnMessage (c : Call) (l : List ℕ) (e : Event) : Type 0 where
  own : (Rides c e l → Carries c l e Service.One) → ((k : Service) → Carries c l e k → (Service.One ≡ k) × Rides c e l) → OwnMessage c l e

rides_borne : (c : Call) (l : List ℕ) (e : Event) → OwnMessage c l e → (b : Bool) → Flags b (Rides c e l) → IsTheCarrier (Carries c l e) (by_one_of b)
unfolding by_one_of
rides_borne c l e (own f g) true d = borne_by Service.One refl (f (d.so refl)) (λ k x. (g k x).0)
rides_borne c l e (own f g) false d = borne_none refl (λ k x. never (d.back (g k x).1) refl)

module _ (c : Call) (l : List ℕ) where
  setup_own : (n : ℕ) (r : Rights) (q : ByService Request) → OwnMessage c l (Event.Setup n r q)
  setup_own n r q = own setup back
    where
      back : (k : Service) → Carries c l (Event.Setup n r q) k → (Service.One ≡ k) × Rides c (Event.Setup n r q) l
      back k (setup x) = (refl, x)

  alerting_own : (a : ByService Given) → OwnMessage c l (Event.Alerting a)
  alerting_own a = own alerting back
    where
      back : (k : Service) → Carries c l (Event.Alerting a) k → (Service.One ≡ k) × Rides c (Event.Alerting a) l
      back k (alerting x) = (refl, x)

  connect_own : (a : ByService Given) → OwnMessage c l (Event.Connect a)
  connect_own a = own connect back
    where
      back : (k : Service) → Carries c l (Event.Connect a) k → (Service.One ≡ k) × Rides c (Event.Connect a) l
      back k (connect x) = (refl, x)

  disconnect_own : (side : Side) (cause : ℕ) (a : ByService Given) → OwnMessage c l (Event.Disconnect side cause a)
  disconnect_own side cause a = own disconnect back
    where
      back : (k : Service) → Carries c l (Event.Disconnect side cause a) k → (Service.One ≡ k) × Rides c (Event.Disconnect side cause a) l
      back k (disconnect x) = (refl, x)

setup_borne : (c : Call) (n : ℕ) (r : Rights) (q : ByService Request) (l : List ℕ) → IsTheCarrier (Carries c l (Event.Setup n r q)) (proceeds_of n r q (seen_of l r.limit)).dispatch.carrier
unfolding proceeds_of
setup_borne c n r q l =
    let s = seen_of l r.limit in
    rides_borne c l _ (setup_own c l n r q) _ (rides c _ l (setup_carries_of r q s) (sight l r.limit) (setup_carries c n r q s))

-- where a required service fails the message does not go on, and its element does not
answering_borne : (c : Call) (l : List ℕ) (e : Event) (kind : Kind) (next : Phase) (f : ByService Fate) {seen : Seen} (x : Bool) → OwnMessage c l e → Sight l (limit_for c e) seen → Denies (not x && in_force_of (settled_of c.standings.one f.one)) (NotCarried c e) → IsTheCarrier (Carries c l e) (answering_of c kind next f seen x).dispatch.carrier
unfolding goes_on_of clears_of answered_call_of settles_of
answering_borne c l e kind next f false o v d = rides_borne c l e o _ (rides c e l _ v (λ _. d))
answering_borne c l e kind next f true (own g h) v d = borne_none refl (λ k x. (h k x).1.carried (d.so refl))

alerting_borne : (c : Call) (a : ByService Given) (l : List ℕ) → IsTheCarrier (Carries c l (Event.Alerting a)) (answered_of c Kind.Alerting Phase.Alerting (alerting_fates_of c.standings a) l).dispatch.carrier
unfolding answered_of
alerting_borne c a l =
    let f = alerting_fates_of c.standings a in
    answering_borne c l (Event.Alerting a) Kind.Alerting Phase.Alerting f (failed_of f) (alerting_own c l a) (sight l c.rights.limit) (alerting_denies c a)

connect_borne : (c : Call) (a : ByService Given) (l : List ℕ) → IsTheCarrier (Carries c l (Event.Connect a)) (answered_of c Kind.Connect Phase.Active (connect_fates_of (not (requested_of c.phase)) c.standings a) l).dispatch.carrier
unfolding answered_of
connect_borne c a l =
    let f = connect_fates_of (not (requested_of c.phase)) c.standings a in
    answering_borne c l (Event.Connect a) Kind.Connect Phase.Active f (failed_of f) (connect_own c l a) (sight l c.rights.limit) (connect_denies c a)

disconnect_borne : (c : Call) (l : List ℕ) (side : Side) (cause : ℕ) (a : ByService Given) → IsTheCarrier (Carries c l (Event.Disconnect side cause a)) (passed_on_of c side cause (heard_answers_of side a) (seen_of l c.rights.limit)).dispatch.carrier
unfolding passed_on_of reply_of
disconnect_borne c l side cause a =
    rides_borne c l _ (disconnect_own c l side cause a) _
    (rides c _ l (in_force_of (one_after_of c (heard_answers_of side a))) (sight l c.rights.limit) (λ _. denies _ (disconnect_comes side c.standings.one a)))

-- ---- USER INFORMATION

module _ (c : Call) (l : List ℕ) (side : Side) (more : Bool) where
  abbrev informs : Event
  informs = Event.Information side more

  unpaid : (CountPays c l side → ⊥) → (CreditPays c l side → ⊥) → (k : Service) → Carries c l informs k → ⊥
  unpaid n o k (counts x) = n x
  unpaid n o k (pays x) = o x

  -- 17: nothing is carried
  damaged : (Intact c l → ⊥) → (k : Service) → Carries c l informs k → ⊥
  damaged n = unpaid (λ x. n x.intact) (λ x. n x.credit.intact)

  met_borne : {n : Meter} {p : Passage} → Met c l side n p → IsTheCarrier (Carries c l informs) (carrier_of p)
  met_borne (counted x) = borne_by Service.Two refl (counts x) only
    where
      only : (k : Service) → Carries c l informs k → Service.Two ≡ k
      only k (counts y) = refl
      only k (pays y) = absurd (paid_once x y.credit)
  met_borne (paid x) = borne_by Service.Three refl (pays x) only
    where
      only : (k : Service) → Carries c l informs k → Service.Three ≡ k
      only k (counts y) = absurd (paid_once y x.credit)
      only k (pays y) = refl
  met_borne (marked x) = borne_none refl none
    where
      none : (k : Service) → Carries c l informs k → ⊥
      none k (counts y) = paid_once y x.credit
      none k (pays y) = left_once y x
  met_borne (spent a b d) = borne_none refl (unpaid a b)
  met_borne (unserved a b d) = borne_none refl (unpaid a b)

  information_borne : {s : Seen} → Sight l c.rights.limit s → IsTheCarrier (Carries c l informs) (with_element_of c s (carried_of c side more (information_passage_of c side))).dispatch.carrier
  unfolding with_element_of refused_of carried_of reply_of
  information_borne (absent z) = borne_none refl (damaged (λ i. let k = i.formed.least in omega arith))
  information_borne (malformed z w) = borne_none refl (damaged (λ i. w i.formed))
  information_borne (too_long z w h) = borne_none refl (damaged (λ i. let k = i.limit in omega arith))
  information_borne (whole z w h) = met_borne (met c l side (record { formed = w; limit = h }))

-- ---- FACILITY, RELEASE COMPLETE and the tick, and what is no event

no_element : (c : Call) (l : List ℕ) (e : Event) → Bare e → (k : Service) → Carries c l e k → ⊥
no_element c l e x k (setup y) = x
no_element c l e x k (alerting y) = x
no_element c l e x k (connect y) = x
no_element c l e x k (counts y) = x
no_element c l e x k (pays y) = x
no_element c l e x k (disconnect y) = x

facility_borne : (c : Call) (l : List ℕ) (side : Side) (what : What) → IsTheCarrier (Carries c l (Event.Facility side what)) (passes_facility_of c side what (facility_verdict_of c side what)).dispatch.carrier
unfolding passes_facility_of reply_of
facility_borne c l side what = borne_none refl (no_element c l _ tt)

release_borne : (c : Call) (l : List ℕ) (side : Side) → IsTheCarrier (Carries c l (Event.ReleaseComplete side)) (ends_of c side).dispatch.carrier
unfolding ends_of reply_of
release_borne c l side = borne_none refl (no_element c l _ tt)

tick_borne : (c : Call) (l : List ℕ) → IsTheCarrier (Carries c l Event.Tick) (passes_tick_of c).dispatch.carrier
unfolding passes_tick_of
tick_borne c l = borne_none refl (no_element c l _ tt)

no_event_lem : (c : Call) (e : Event) (l : List ℕ) → (Allowed e c.phase → ⊥) → IsTheCarrier (λ k. Hears c e × Carries c l e k) (not_an_event_of c).dispatch.carrier
unfolding not_an_event_of refused_of
no_event_lem c e l n = borne_none {P = λ k. Hears c e × Carries c l e k} refl (λ k x. n x.0.allowed)

-- ---- any event

pub carriers : CarriersExactly step_of
unfolding setup_of alerting_of connect_of information_of facility_of disconnect_of release_complete_of tick_of
carriers c (Event.Setup n r q) l =
    heard_borne c _ l _ _ _ (heard c _ _ _)
    (tests c _ _ _ (unsound c) (fresh c.phase) (denies _ (both _ _ (reference_range n) (rights_range r)))) (setup_borne c n r q l)
carriers c (Event.Alerting a) l =
    heard_borne c _ l _ _ _ (heard c _ _ _) (tests c _ _ _ (unsound c) (requested c.phase) always) (alerting_borne c a l)
carriers c (Event.Connect a) l =
    heard_borne c _ l _ _ _ (heard c _ _ _) (tests c _ _ _ (unsound c) (connectable c.phase) always) (connect_borne c a l)
carriers c (Event.Information from more) l =
    heard_borne c _ l _ _ _ (heard c _ _ _) (tests c _ _ _ (unsound c) (talking c.phase) always)
    (information_borne c l from more (sight l c.rights.limit))
carriers c (Event.Facility from what) l =
    heard_borne c _ l _ _ _ (heard c _ _ _) (tests c _ _ _ (unsound c) (active c.phase) always) (facility_borne c l from what)
carriers c (Event.Disconnect from cause a) l =
    heard_borne c _ l _ _ _ (heard c _ _ _) (tests c _ _ _ (unsound c) (up c.phase) (over cause 127)) (disconnect_borne c l from cause a)
carriers c (Event.ReleaseComplete from) l =
    heard_borne c _ l _ _ _ (heard c _ _ _) (tests c _ _ _ (unsound c) (live c.phase) always) (release_borne c l from)
carriers c Event.Tick l =
    heard_borne c _ l _ _ _ (heard c _ _ _) (tests c _ _ _ (unsound c) (live c.phase) always) (tick_borne c l)
carriers c Event.CallProceeding l = no_event_lem c _ l (λ x. x)
carriers c Event.CongestionControl l = no_event_lem c _ l (λ x. x)
