-- Every field of the next record is what the sentences say, and nothing else.
use Rattle.services.specs.declared.ByService.{ByService}
use Rattle.sent.specs.declared.side.BySide.{BySide}
use Rattle.std.proofs.Common.{ℕ, ◌+◌, ◌-◌, List, [], ◌∷◌, Bool, true, false, cond, not, inl, inr, ◌≡◌, refl, sym, ◌∙◌, ap, subst, arith, leb-true, leb-false, le-leb, leb}
use Rattle.std.proofs.lemmas.Bool.{lt-leb}
use Rattle.rights.specs.declared.Rights.{Rights}
use Rattle.rights.specs.declared.Service.{Service}
use Rattle.rights.specs.Rights.{has_of}
use Rattle.services.specs.declared.Given.{Given}
use Rattle.services.specs.declared.Request.{Request}
use Rattle.services.specs.declared.Standing.{Standing}
use Rattle.services.specs.Standing.{in_force_of, awaits_of}
use Rattle.user_element.specs.declared.Note.{Note}
use Rattle.user_element.specs.declared.Seen.{Seen}
use Rattle.user_element.specs.Element.{seen_of}
use Rattle.answer.specs.declared.Answer.{Answer}
use Rattle.answer.specs.Answer.{taken_of}
use Rattle.message_types.specs.declared.Kind.{Kind}
use Rattle.phases.specs.declared.Phase.{Phase}
use Rattle.phases.specs.Phase.{requested_of}
use Rattle.sent.specs.declared.side.Side.{Side}
use Rattle.event.specs.declared.Event.{Event}
use Rattle.facility_rules.specs.declared.What.{What}
use Rattle.facility_rules.specs.Asking.{nobody_asks}
use Rattle.facility_rules.specs.Messages.{not_granted_of}
use Rattle.answering_rules.specs.declared.Fate.{Fate}
use Rattle.answering_rules.specs.Fates.{alerting_fates_of, connect_fates_of}
use Rattle.answering_rules.specs.Effects.{settled_of, failed_of, settles_of, in_force_after_of}
use Rattle.clearing_rules.specs.Closing.{closing_standing_of, silent_answers, heard_answers_of}
use Rattle.flow_meter.specs.declared.Meter.{Meter}
use Rattle.flow_meter.specs.declared.passage.Passage.{Passage}
use Rattle.flow_meter.specs.Meter.{empty_of, granted_of, ticked_of, refilled_of}
use Rattle.flow_meter.specs.Passage.{counted_of, paid_of, marked_of}
use Rattle.flow_meter.specs.CallMeters.{empty_meters, meter_of, with_meter_of, spent_of, grants_of, ticked_meters_of, refills_of}
use Rattle.setup_rules.specs.Requests.{asked_standing_of, implied_of, first_standing_of, standings_of, lacks_of, setup_phase_of}
use Rattle.information_rules.specs.Serving.{serves_three_of}
use Rattle.call.specs.declared.Call.{Call}
use Rattle.call.specs.declared.reply.Reply.{Reply}
use Rattle.call.specs.Answering.{answered_call_of, goes_on_of, clears_of, answering_of, answered_of, alerting_of, connect_of}
use Rattle.call.specs.Disconnect.{closed_call_of, passed_on_of, disconnect_of, ends_of, release_complete_of}
use Rattle.call.specs.Facility.{facility_verdict_of, facility_call_of, passes_facility_of, facility_of}
use Rattle.call.specs.Information.{meters_of, information_passage_of, carried_of, with_element_of, information_of}
use Rattle.call.specs.Reply.{refused_of, reply_of}
use Rattle.call.specs.Setup.{proceeds_of, setup_of}
use Rattle.call.specs.Sound.{fresh_call, in_phase_of}
use Rattle.call.specs.Step.{not_an_event_of, step_of}
use Rattle.call.specs.Tick.{runs_of, passes_tick_of, tick_of}
use Rattle.logic.proofs.Decide.{never, by_cond, Decides, both, always, over, denied as denies}
use Rattle.call_promises.specs.Numbers.{Core, Allowed, ServesThree, meter_from, other, tells}
use Rattle.call_promises.specs.Handling.{Explicit, Implied}
use Rattle.call_promises.specs.Sends.{Hears, FailsAt, Intact, CountPays, CreditPays, FirstDropped, Agreed}
use Rattle.call_promises.specs.Refusals.{altered}
use Rattle.call_promises.specs.Becomes.{turned_to, with_meter, asking_from, topped_both, Stands, unasked, preferred, required, implicit, lacking, Opens, ended, requested, new_record, Earns, earns, earns_not, Answered, on, clears, Last, accepted, as_before, TickAdds, adds, tops, Becomes, setup, alerting, connect, counts, pays, marks, drops, asks, accepts, rejects, refuses, disconnect, release, ticks, rests, NextRecord, acts, bars, IsTheRecord, BecomesExactly, Leads, stays, goes, History}
use Rattle.call_promises.proofs.Conditions.{has, serves_three}
use Rattle.call_promises.proofs.Notes.{lacks}
use Rattle.call_promises.proofs.Phases.{fresh, connectable, talking, active, up, live, requested as is-requested}
use Rattle.call_promises.proofs.Ranges.{unsound, reference_range, rights_range}
use Rattle.call_promises.proofs.Seen.{Sight, absent, malformed, too_long, whole, sight}
use Rattle.call_promises.proofs.Heard.{Heard, through, barred, heard}
use Rattle.call_promises.proofs.Parts.{Tests, tests, View, alerting_one, alerting_two, alerting_three, connect_one, connect_two, connect_three, settles_is, settles_one, failure, Outcome, sound, fails, outcome, Met, counted, paid, marked, spent, unserved, met, paid_once, left_once, Verdict, agreed, ungranted, neither, verdict, awaits, Third, three_accepted, three_kept, third_of}
use Rattle.call_promises.specs.Sound.{Offered, run_of}

-- ---- a record and the sentence that makes it

left_by : {P : Call → Type 0} {c : Call} (d : Call) → c ≡ d → P d → ((n : Call) → P n → d ≡ n) → IsTheRecord P c
left_by {P} d e p u n = ((λ h. subst P (sym e ∙ h) p), (λ x. e ∙ u n x))

-- an event that is heard makes of the record what its reply has, and one that is barred nothing
acted : (c : Call) (l : List ℕ) (e : Event) {d : Call} → Hears c e → (n : Call) → IsTheRecord (Becomes c l e) d → NextRecord c l e n → d ≡ n
acted c l e h n f (acts x b) = (f n).1 b
acted c l e h n f (bars x) = absurd (x h)

unmoved : (c : Call) (l : List ℕ) (e : Event) → (Hears c e → ⊥) → (n : Call) → NextRecord c l e n → c ≡ n
unmoved c l e h n (acts x b) = absurd (h x)
unmoved c l e h n (bars x) = refl

heard_left : (c : Call) (l : List ℕ) (e : Event) (a g : Bool) (r : Reply) {s : Reply} → Heard c a g r s → Tests c e a g → IsTheRecord (Becomes c l e) r.call → IsTheRecord (NextRecord c l e) s.call
unfolding refused_of
heard_left c l e a g r (through p q t) x f =
    let h = x.so p q t in λ n. ((λ k. acts h ((f n).0 k)), (λ y. acted c l e h n f y))
heard_left c l e a g r (barred n b) x f =
    let h : Hears c e → ⊥ = (λ k. let t = x.back k in n t.0 t.1 t.2) in
    left_by c refl (bars h) (unmoved c l e h)

-- ---- SETUP

module _ (r : Rights) (k : Service) where
  asked_is : (q : Request) → Stands r k q ⊥ (asked_standing_of q (has_of r k))
  asked_is Request.Unasked = unasked refl (λ x. x)
  asked_is Request.Preferred = by_cond (Stands r k Request.Preferred ⊥) (has_of r k) (λ h. preferred refl ((has r k).so h)) (λ n. lacking (inl (inl refl)) (λ y. never ((has r k).back y) n))
  asked_is Request.Required = by_cond (Stands r k Request.Required ⊥) (has_of r k) (λ h. required refl ((has r k).so h)) (λ n. lacking (inl (inr refl)) (λ y. never ((has r k).back y) n))

  module _ {I : Type 0} (im : Bool) (d : Decides im I) where
    first_is : (q : Request) → (im ≡ true → q ≡ Request.Unasked) → Stands r k q I (cond im (cond (has_of r k) Standing.InForce Standing.Closed) (asked_standing_of q (has_of r k)))
    first_is Request.Unasked f =
        by_cond (Stands r k Request.Unasked I) im
        (λ i. by_cond (Stands r k Request.Unasked I) (has_of r k) (λ h. implicit (d.so i) ((has r k).so h)) (λ n. lacking (inr (d.so i)) (λ y. never ((has r k).back y) n)))
        (λ i. unasked refl (λ x. never (d.back x) i))
    first_is Request.Preferred f =
        by_cond (Stands r k Request.Preferred I) im (λ i. absurd (let z : ◌≡◌ {A = ℕ} 0 1 = cc (f i) in omega arith))
        (λ i. by_cond (Stands r k Request.Preferred I) (has_of r k) (λ h. preferred refl ((has r k).so h)) (λ n. lacking (inl (inl refl)) (λ y. never ((has r k).back y) n)))
    first_is Request.Required f =
        by_cond (Stands r k Request.Required I) im (λ i. absurd (let z : ◌≡◌ {A = ℕ} 0 1 = cc (f i) in omega arith))
        (λ i. by_cond (Stands r k Request.Required I) (has_of r k) (λ h. required refl ((has r k).so h)) (λ n. lacking (inl (inr refl)) (λ y. never ((has r k).back y) n)))

    not_implicit : (q : Request) → (im ≡ true → q ≡ Request.Unasked) → Explicit q → (b : Bool) → im ≡ b → im ≡ false
    not_implicit q f (inl x) true e = absurd (let z : ◌≡◌ {A = ℕ} 0 1 = cc (f e, x) in omega arith)
    not_implicit q f (inr x) true e = absurd (let z : ◌≡◌ {A = ℕ} 0 1 = cc (f e, x) in omega arith)
    not_implicit q f x false e = e

    stands_one : (q : Request) {t : Standing} → (im ≡ true → q ≡ Request.Unasked) → Stands r k q I t → cond im (cond (has_of r k) Standing.InForce Standing.Closed) (asked_standing_of q (has_of r k)) ≡ t
    stands_one q f (unasked e n) = rw ((denies _ d).back n, e) refl
    stands_one q f (preferred e h) = rw (not_implicit q f (inl e) im refl, (has r k).back h) (rw e refl)
    stands_one q f (required e h) = rw (not_implicit q f (inr e) im refl, (has r k).back h) (rw e refl)
    stands_one q f (implicit i h) = rw (d.back i, (has r k).back h) refl
    stands_one q f (lacking (inl (inl e)) n) = rw (not_implicit q f (inl e) im refl, (denies _ (has r k)).back n) (rw e refl)
    stands_one q f (lacking (inl (inr e)) n) = rw (not_implicit q f (inr e) im refl, (denies _ (has r k)).back n) (rw e refl)
    stands_one q f (lacking (inr i) n) = rw (d.back i, (denies _ (has r k)).back n) refl

  asked_one : (q : Request) {t : Standing} → Stands r k q ⊥ t → asked_standing_of q (has_of r k) ≡ t
  asked_one q x = stands_one false (record { so = λ h. never h refl; back = λ y. absurd y }) q (λ h. never h refl) x

-- an element that asks for service 1 by itself
implied : (r : Rights) (q : ByService Request) (l : List ℕ) (x : Request) {s : Seen} → q.one ≡ x → Sight l r.limit s → Decides (implied_of x s) (Implied r q l)
implied r q l Request.Unasked e (absent z) = record { so = λ h. never h refl; back = λ i. let k = i.formed.least in absurd (omega arith) }
implied r q l Request.Unasked e (malformed z w) = record { so = λ h. never h refl; back = λ i. absurd (w i.formed) }
implied r q l Request.Unasked e (too_long z w h) = record { so = λ h. never h refl; back = λ i. let k = i.limit in absurd (omega arith) }
implied r q l Request.Unasked e (whole z w h) = record { so = λ _. record { unasked = e; formed = w; limit = h }; back = λ _. refl }
implied r q l Request.Preferred e v = record { so = λ h. never h refl; back = λ i. absurd (let z : ◌≡◌ {A = ℕ} 0 1 = cc (e, i.unasked) in omega arith) }
implied r q l Request.Required e v = record { so = λ h. never h refl; back = λ i. absurd (let z : ◌≡◌ {A = ℕ} 0 1 = cc (e, i.unasked) in omega arith) }

implied_unasked : (x : Request) (s : Seen) → implied_of x s ≡ true → x ≡ Request.Unasked
implied_unasked Request.Unasked s h = refl
implied_unasked Request.Preferred s h = never h refl
implied_unasked Request.Required s h = never h refl

module _ (c : Call) (n : ℕ) (r : Rights) (q : ByService Request) (l : List ℕ) where
  abbrev seen : Seen
  seen = seen_of l r.limit

  abbrev im : Bool
  im = implied_of q.one seen

  is_implied : Decides im (Implied r q l)
  is_implied = implied r q l q.one refl (sight l r.limit)

  opens_is : Opens r q (setup_phase_of (lacks_of r q))
  unfolding setup_phase_of
  opens_is = by_cond (Opens r q) (lacks_of r q) (λ y. ended ((lacks r q).so y)) (λ y. requested ((denies _ (lacks r q)).so y))

  opens_one : {p : Phase} → Opens r q p → setup_phase_of (lacks_of r q) ≡ p
  unfolding setup_phase_of
  opens_one (ended x) = rw ((lacks r q).back x) refl
  opens_one (requested x) = rw ((denies _ (lacks r q)).back x) refl

  abbrev first_standing : Standing
  first_standing = cond im (cond (has_of r Service.One) Standing.InForce Standing.Closed) (asked_standing_of q.one (has_of r Service.One))

  abbrev opened : Call
  opened =
      new_record n r (setup_phase_of (lacks_of r q)) first_standing (asked_standing_of q.two (has_of r Service.Two))
      (asked_standing_of q.three (has_of r Service.Three))

  setup_one : (d : Call) → Becomes c l (Event.Setup n r q) d → opened ≡ d
  setup_one d (setup o x y z) =
      λ j. new_record n r (opens_one o j) (stands_one r Service.One im is_implied q.one (implied_unasked q.one seen) x j) (asked_one r Service.Two q.two y j) (asked_one r Service.Three q.three z j)

  setup_left : IsTheRecord (Becomes c l (Event.Setup n r q)) (proceeds_of n r q seen).call
  unfolding proceeds_of standings_of first_standing_of nobody_asks empty_meters empty_of
  setup_left =
      left_by opened refl
      (setup opens_is (first_is r Service.One im is_implied q.one (implied_unasked q.one seen)) (asked_is r Service.Two q.two) (asked_is r Service.Three q.three))
      setup_one

-- ---- ALERTING and CONNECT

module _ (c : Call) (e : Event) (kind : Kind) (next : Phase) (f : ByService Fate) where
  module _
      (one : View c.phase e Service.One c.standings.one f.one)
      (two : View c.phase e Service.Two c.standings.two f.two)
      (three : View c.phase e Service.Three c.standings.three f.three)
    where
      abbrev metered : BySide Meter
      metered = in_force_after_of c.meters c.rights.burst f.three

      earned : {x : Fate} → Third c e x → Earns c e (in_force_after_of c.meters c.rights.burst x)
      unfolding grants_of granted_of
      earned (three_accepted a) = earns a
      earned (three_kept n h) = rw h (earns_not n)

      earned_one : {x : Fate} {m : BySide Meter} → Third c e x → Earns c e m → in_force_after_of c.meters c.rights.burst x ≡ m
      unfolding grants_of granted_of
      earned_one (three_accepted a) (earns b) = refl
      earned_one (three_accepted a) (earns_not n) = absurd (n a)
      earned_one (three_kept n h) (earns b) = absurd (n b)
      earned_one (three_kept n h) (earns_not m) = h

      abbrev gone_on : Call
      gone_on =
          altered c next
          (record { one = settled_of c.standings.one f.one; two = settled_of c.standings.two f.two; three = settled_of c.standings.three f.three })
          c.asking metered

      on_one : ((k : Service) (g : Given) → FailsAt c e k g → ⊥) → (d : Call) → Answered c e next d → gone_on ≡ d
      on_one n d (on x s t u m) =
          λ j. altered c next (record { one = (settles_one c e Service.One one s).0 j; two = (settles_one c e Service.Two two t).0 j; three = (settles_one c e Service.Three three u).0 j }) c.asking (earned_one (third_of c e three) m j)
      on_one n d (clears x) = absurd (n _ _ x)

      clears_one : (k : Service) (g : Given) → FailsAt c e k g → (d : Call) → Answered c e next d → turned_to c Phase.Clearing ≡ d
      clears_one k g x d (on n s t u m) = absurd (n k g x)
      clears_one k g x d (clears y) = refl

      answering_left : (look : Seen) (x : Bool) → Outcome c e x → IsTheRecord (Answered c e next) (answering_of c kind next f look x).call
      unfolding goes_on_of clears_of answered_call_of settles_of in_phase_of
      answering_left look false (sound n) =
          left_by gone_on refl
          (on n (settles_is c e Service.One one) (settles_is c e Service.Two two) (settles_is c e Service.Three three) (earned (third_of c e three))) (on_one n)
      answering_left look true (fails k g x) = left_by (turned_to c Phase.Clearing) refl (clears x) (clears_one k g x)

wrapped : {P Q : Call → Type 0} {c : Call} → ((d : Call) → P d → Q d) → ((d : Call) → Q d → P d) → IsTheRecord P c → IsTheRecord Q c
wrapped f g t d = ((λ h. f d ((t d).0 h)), (λ q. (t d).1 (g d q)))

module _ (c : Call) (a : ByService Given) (l : List ℕ) where
  rang : (d : Call) → Becomes c l (Event.Alerting a) d → Answered c (Event.Alerting a) Phase.Alerting d
  rang d (alerting x) = x

  connected : (d : Call) → Becomes c l (Event.Connect a) d → Answered c (Event.Connect a) Phase.Active d
  connected d (connect x) = x

  alerting_left : IsTheRecord (Becomes c l (Event.Alerting a)) (answered_of c Kind.Alerting Phase.Alerting (alerting_fates_of c.standings a) l).call
  unfolding answered_of failed_of
  alerting_left =
      let e = Event.Alerting a in
      let x = alerting_one c.phase c.standings a in
      let y = alerting_two c.phase c.standings a in
      let z = alerting_three c.phase c.standings a in
      wrapped (λ d. alerting) rang
      (answering_left c e Kind.Alerting Phase.Alerting _ x y z _ _
      (outcome c e (failure c e Service.One x) (failure c e Service.Two y) (failure c e Service.Three z)))

  connect_left : IsTheRecord (Becomes c l (Event.Connect a)) (answered_of c Kind.Connect Phase.Active (connect_fates_of (not (requested_of c.phase)) c.standings a) l).call
  unfolding answered_of failed_of
  connect_left =
      let e = Event.Connect a in
      let r = is-requested c.phase in
      let x = connect_one c.phase c.standings a _ r in
      let y = connect_two c.phase c.standings a _ r in
      let z = connect_three c.phase c.standings a _ r in
      wrapped (λ d. connect) connected
      (answering_left c e Kind.Connect Phase.Active _ x y z _ _
      (outcome c e (failure c e Service.One x) (failure c e Service.Two y) (failure c e Service.Three z)))

-- ---- USER INFORMATION

module _ (c : Call) (l : List ℕ) (side : Side) (more : Bool) where
  abbrev informs : Event
  informs = Event.Information side more

  abbrev own : Meter
  own = meter_from c side

  counts_one : CountPays c l side → (d : Call) → Becomes c l informs d → with_meter c side (record { credit = own.credit; mark = own.mark; count = own.count + 1 }) ≡ d
  counts_one x d (counts y) = refl
  counts_one x d (pays y) = absurd (paid_once x y.credit)
  counts_one x d (marks y) = absurd (paid_once x y.credit)
  counts_one x d (drops a b f) = absurd (a x)

  pays_one : CreditPays c l side → (d : Call) → Becomes c l informs d → with_meter c side (record { credit = own.credit - 1; mark = own.mark; count = own.count }) ≡ d
  pays_one x d (counts y) = absurd (paid_once y x.credit)
  pays_one x d (pays y) = refl
  pays_one x d (marks y) = absurd (left_once x y)
  pays_one x d (drops a b f) = absurd (b x)

  marks_one : FirstDropped c l side → (d : Call) → Becomes c l informs d → with_meter c side (record { credit = own.credit; mark = true; count = own.count }) ≡ d
  marks_one x d (counts y) = absurd (paid_once y x.credit)
  marks_one x d (pays y) = absurd (left_once y x)
  marks_one x d (marks y) = refl
  marks_one x d (drops a b f) = absurd (f x)

  drops_one : (CountPays c l side → ⊥) → (CreditPays c l side → ⊥) → (FirstDropped c l side → ⊥) → (d : Call) → Becomes c l informs d → c ≡ d
  drops_one a b f d (counts y) = absurd (a y)
  drops_one a b f d (pays y) = absurd (b y)
  drops_one a b f d (marks y) = absurd (f y)
  drops_one a b f d (drops x y z) = refl

  -- the call with what the message left in the meter of its side
  put : (n : Meter) → (s : Side) → s ≡ side → meters_of c (with_meter_of c.meters s n) ≡ with_meter c s n
  unfolding meters_of
  put n Side.Calling h = refl
  put n Side.Called h = refl

  same : (s : Side) → meters_of c (with_meter_of c.meters s (meter_of c.meters s)) ≡ c
  unfolding meters_of
  same Side.Calling = refl
  same Side.Called = refl

  met_left : {n : Meter} {p : Passage} → n ≡ own → Met c l side n p → IsTheRecord (Becomes c l informs) (meters_of c (spent_of c.meters side p))
  unfolding counted_of paid_of marked_of
  met_left {n} h (counted x) = left_by (with_meter c side (counted_of own)) (put _ side refl ∙ ap (λ (m : Meter). with_meter c side (counted_of m)) h) (counts x) (counts_one x)
  met_left {n} h (paid x) = left_by (with_meter c side (paid_of own)) (put _ side refl ∙ ap (λ (m : Meter). with_meter c side (paid_of m)) h) (pays x) (pays_one x)
  met_left {n} h (marked x) = left_by (with_meter c side (marked_of own)) (put _ side refl ∙ ap (λ (m : Meter). with_meter c side (marked_of m)) h) (marks x) (marks_one x)
  met_left h (spent a b f) = left_by c (same side) (drops a b f) (drops_one a b f)
  met_left h (unserved a b f) = left_by c (same side) (drops a b f) (drops_one a b f)

  damaged_left : (a : Answer) (note : Note) → (Intact c l → ⊥) → IsTheRecord (Becomes c l informs) (refused_of c a note).call
  unfolding refused_of
  damaged_left a note n =
      let x : CountPays c l side → ⊥ = (λ y. n y.intact) in
      let y : CreditPays c l side → ⊥ = (λ z. n z.credit.intact) in
      let z : FirstDropped c l side → ⊥ = (λ w. n w.credit.intact) in
      left_by c refl (drops x y z) (drops_one x y z)

  carried_left : Intact c l → IsTheRecord (Becomes c l informs) (carried_of c side more (information_passage_of c side)).call
  unfolding carried_of reply_of
  carried_left i = met_left refl (met c l side i)

  information_left : {s : Seen} → Sight l c.rights.limit s → IsTheRecord (Becomes c l informs) (with_element_of c s (carried_of c side more (information_passage_of c side))).call
  unfolding with_element_of
  information_left (absent z) = damaged_left _ _ (λ i. let k = i.formed.least in omega arith)
  information_left (malformed z w) = damaged_left _ _ (λ i. w i.formed)
  information_left (too_long z w h) = damaged_left _ _ (λ i. let k = i.limit in omega arith)
  information_left (whole z w h) = carried_left (record { formed = w; limit = h })

-- ---- FACILITY

module _ (c : Call) (l : List ℕ) where
  abbrev says : Side → What → Event
  says side what = Event.Facility side what

  refuses_one : (side : Side) (what : What) → (Agreed c (says side what) → ⊥) → (d : Call) → Becomes c l (says side what) d → c ≡ d
  refuses_one side what n d (asks x) = absurd (n x)
  refuses_one side what n d (accepts x) = absurd (n x)
  refuses_one side what n d (rejects x) = absurd (n x)
  refuses_one side what n d (refuses x) = refl

  asks_one : (side : Side) → Agreed c (says side What.Preferred) → (d : Call) → Becomes c l (says side What.Preferred) d → asking_from c side true ≡ d
  asks_one side a d (asks x) = refl
  asks_one side a d (refuses x) = absurd (x a)

  accepts_one : (side : Side) → Agreed c (says side What.Accept) → (d : Call) → Becomes c l (says side What.Accept) d → altered c c.phase (record { one = c.standings.one; two = c.standings.two; three = Standing.InForce }) (record { calling = false; called = false }) (topped_both c) ≡ d
  accepts_one side a d (accepts x) = refl
  accepts_one side a d (refuses x) = absurd (x a)

  rejects_one : (side : Side) → Agreed c (says side What.Reject) → (d : Call) → Becomes c l (says side What.Reject) d → asking_from c (other side) false ≡ d
  rejects_one side a d (rejects x) = refl
  rejects_one side a d (refuses x) = absurd (x a)

  agreed_left : (side : Side) (what : What) → Agreed c (says side what) → IsTheRecord (Becomes c l (says side what)) (facility_call_of c side what)
  unfolding facility_call_of grants_of granted_of nobody_asks
  agreed_left Side.Calling What.Preferred a = left_by (asking_from c Side.Calling true) refl (asks a) (asks_one Side.Calling a)
  agreed_left Side.Called What.Preferred a = left_by (asking_from c Side.Called true) refl (asks a) (asks_one Side.Called a)
  agreed_left side What.Accept a = left_by _ refl (accepts a) (accepts_one side a)
  agreed_left Side.Calling What.Reject a = left_by (asking_from c Side.Called false) refl (rejects a) (rejects_one Side.Calling a)
  agreed_left Side.Called What.Reject a = left_by (asking_from c Side.Calling false) refl (rejects a) (rejects_one Side.Called a)
  agreed_left side What.Required a = absurd (a.preferred (tells refl))

  verdict_left : (side : Side) (what : What) (v : Answer) → Verdict c (says side what) (taken_of v) (not_granted_of v) → IsTheRecord (Becomes c l (says side what)) (cond (taken_of v) (facility_call_of c side what) c)
  verdict_left side what v (agreed a t b) = rw t (agreed_left side what a)
  verdict_left side what v (ungranted x y t b) = rw t (left_by c refl (refuses (λ a. a.granted y)) (refuses_one side what (λ a. a.granted y)))
  verdict_left side what v (neither n o t b) = rw t (left_by c refl (refuses n) (refuses_one side what n))

  facility_left : (side : Side) (what : What) → IsTheRecord (Becomes c l (says side what)) (passes_facility_of c side what (facility_verdict_of c side what)).call
  unfolding passes_facility_of reply_of
  facility_left side what = verdict_left side what (facility_verdict_of c side what) (verdict c l side what)

-- ---- DISCONNECT and RELEASE COMPLETE

module _ (c : Call) where
  abbrev one : Standing
  one = c.standings.one

  last_is : (side : Side) (a : ByService Given) → Last c side a.one (closing_standing_of one (heard_answers_of side a).one)
  unfolding silent_answers
  last_is Side.Calling a = as_before (λ x. let z : ◌≡◌ {A = ℕ} 0 1 = cc x.called in omega arith)
  last_is Side.Called a = by_given a.one
    where
      by_given : (g : Given) → Last c Side.Called g (closing_standing_of one g)
      by_given Given.Silent = as_before (λ x. let z : ◌≡◌ {A = ℕ} 0 1 = cc x.given in omega arith)
      by_given Given.Accepted =
          by_cond (Last c Side.Called Given.Accepted) (awaits_of one)
          (λ h. accepted (record { called = refl; first = refl; asked = (awaits one).so h; given = refl }))
          (λ h. as_before (λ x. never ((awaits one).back x.asked) h))
      by_given Given.Rejected = as_before (λ x. let z : ◌≡◌ {A = ℕ} 0 1 = cc x.given in omega arith)

  one_last : (side : Side) (g : Given) {s t : Standing} → Last c side g s → Last c side g t → s ≡ t
  one_last side g (accepted x) (accepted y) = refl
  one_last side g (accepted x) (as_before y) = absurd (y x)
  one_last side g (as_before x) (accepted y) = absurd (x y)
  one_last side g (as_before x) (as_before y) = refl

module _ (c : Call) (l : List ℕ) (side : Side) (cause : ℕ) (a : ByService Given) where
  abbrev closing : Standing → Call
  closing s = altered c Phase.Clearing (record { one = s; two = c.standings.two; three = c.standings.three }) c.asking c.meters

  disconnect_one : {s : Standing} → Last c side a.one s → (d : Call) → Becomes c l (Event.Disconnect side cause a) d → closing s ≡ d
  disconnect_one x d (disconnect y) = ap closing (one_last c side a.one x y)

  disconnect_left : (look : Seen) → IsTheRecord (Becomes c l (Event.Disconnect side cause a)) (passed_on_of c side cause (heard_answers_of side a) look).call
  unfolding passed_on_of reply_of closed_call_of
  disconnect_left look = let x = last_is c side a in left_by (closing _) refl (disconnect x) (disconnect_one x)

module _ (c : Call) (l : List ℕ) (side : Side) where
  release_one : (d : Call) → Becomes c l (Event.ReleaseComplete side) d → turned_to c Phase.Ended ≡ d
  release_one d release = refl

  release_left : IsTheRecord (Becomes c l (Event.ReleaseComplete side)) (ends_of c side).call
  unfolding ends_of reply_of in_phase_of
  release_left = left_by (turned_to c Phase.Ended) refl release release_one

-- ---- a tick

refilled_is : (r : Rights) (n : ℕ) → TickAdds r n (refilled_of n r.burst r.refill)
unfolding refilled_of
refilled_is r n = by_cond (TickAdds r n) (leb (n + r.refill) r.burst) (λ h. adds (leb-true _ _ h)) (λ h. tops (leb-false _ _ h))

refilled_one : (r : Rights) (n : ℕ) {m : ℕ} → TickAdds r n m → refilled_of n r.burst r.refill ≡ m
unfolding refilled_of
refilled_one r n (adds h) = rw (le-leb _ _ h) refl
refilled_one r n (tops h) = rw (lt-leb _ _ h) refl

module _ (c : Call) (l : List ℕ) where
  abbrev refreshed : ℕ → ℕ → Call
  refreshed m n =
      altered c c.phase c.standings c.asking
      (record {
        calling = record { credit = m; mark = false; count = c.meters.calling.count };
        called = record { credit = n; mark = false; count = c.meters.called.count };
      })

  abbrev again : Meter → ℕ
  again m = refilled_of m.credit c.rights.burst c.rights.refill

  ticks_one : ServesThree c → (d : Call) → Becomes c l Event.Tick d → refreshed (again c.meters.calling) (again c.meters.called) ≡ d
  ticks_one s d (ticks t x y) = λ j. refreshed (refilled_one c.rights _ x j) (refilled_one c.rights _ y j)
  ticks_one s d (rests n) = absurd (n s)

  rests_one : (ServesThree c → ⊥) → (d : Call) → Becomes c l Event.Tick d → c ≡ d
  rests_one n d (ticks t x y) = absurd (n t)
  rests_one n d (rests m) = refl

  tick_left : IsTheRecord (Becomes c l Event.Tick) (passes_tick_of c).call
  unfolding passes_tick_of refills_of ticked_meters_of ticked_of meters_of runs_of
  tick_left =
      by_cond (λ (m : BySide Meter). IsTheRecord (Becomes c l Event.Tick) (altered c c.phase c.standings c.asking m)) (serves_three_of c.phase (in_force_of c.standings.three))
      (λ h.
      let s = (serves_three c).so h in
      left_by (refreshed _ _) refl (ticks s (refilled_is c.rights _) (refilled_is c.rights _)) (ticks_one s))
      (λ h. let n = (denies _ (serves_three c)).so h in left_by c refl (rests n) (rests_one n))

-- ---- any event

no_event_lem : (c : Call) (l : List ℕ) (e : Event) → (Allowed e c.phase → ⊥) → IsTheRecord (NextRecord c l e) (not_an_event_of c).call
unfolding not_an_event_of refused_of
no_event_lem c l e n =
    let h : Hears c e → ⊥ = (λ k. n k.allowed) in
    left_by c refl (bars h) (unmoved c l e h)

pub becomes : BecomesExactly step_of
unfolding setup_of alerting_of connect_of information_of facility_of disconnect_of release_complete_of tick_of
becomes c (Event.Setup n r q) l =
    heard_left c l _ _ _ _ (heard c _ _ _)
    (tests c _ _ _ (unsound c) (fresh c.phase) (denies _ (both _ _ (reference_range n) (rights_range r)))) (setup_left c n r q l)
becomes c (Event.Alerting a) l = heard_left c l _ _ _ _ (heard c _ _ _) (tests c _ _ _ (unsound c) (is-requested c.phase) always) (alerting_left c a l)
becomes c (Event.Connect a) l = heard_left c l _ _ _ _ (heard c _ _ _) (tests c _ _ _ (unsound c) (connectable c.phase) always) (connect_left c a l)
becomes c (Event.Information side more) l =
    heard_left c l _ _ _ _ (heard c _ _ _) (tests c _ _ _ (unsound c) (talking c.phase) always)
    (information_left c l side more (sight l c.rights.limit))
becomes c (Event.Facility side what) l = heard_left c l _ _ _ _ (heard c _ _ _) (tests c _ _ _ (unsound c) (active c.phase) always) (facility_left c l side what)
becomes c (Event.Disconnect side cause a) l =
    heard_left c l _ _ _ _ (heard c _ _ _) (tests c _ _ _ (unsound c) (up c.phase) (over cause 127)) (disconnect_left c l side cause a _)
becomes c (Event.ReleaseComplete side) l = heard_left c l _ _ _ _ (heard c _ _ _) (tests c _ _ _ (unsound c) (live c.phase) always) (release_left c l side)
becomes c Event.Tick l = heard_left c l _ _ _ _ (heard c _ _ _) (tests c _ _ _ (unsound c) (live c.phase) always) (tick_left c l)
becomes c Event.CallProceeding l = no_event_lem c l _ (λ x. x)
becomes c Event.CongestionControl l = no_event_lem c l _ (λ x. x)

-- ---- runs

ran_none : {c d : Call} → Leads c [] d → c ≡ d
ran_none stays = refl

module _ (f : Core) (b : BecomesExactly f) where
  ran_on : (c : Call) (o : Offered) (os : List Offered) (r : Call) → ((d : Call) → IsTheRecord (Leads d os) (run_of f d os)) → Leads c (o ∷ os) r → run_of f (f c o.event o.element).call os ≡ r
  ran_on c o os r h (goes {d = d} n x) = ap (λ (k : Call). run_of f k os) ((b c o.event o.element d).1 n) ∙ (h d r).1 x

  ran : (os : List Offered) (c : Call) → IsTheRecord (Leads c os) (run_of f c os)
  ran [] c d = ((λ h. subst (Leads c []) h stays), ran_none)
  ran (o ∷ os) c r = ((λ h. goes ((b c o.event o.element _).0 refl) ((ran os _ r).0 h)), ran_on c o os r (ran os))

  -- whoever makes each record as the sentences say makes the history
  pub history_of : History f
  history_of os = ran os fresh_call

pub history : History step_of
history = history_of step_of becomes
