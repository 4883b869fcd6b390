-- What each user is sent is what the sentences say, and nothing else.
use Rattle.std.proofs.Common.{Option, Some, None, ℕ, List, Bool, true, false, ◌&&◌, ◌||◌, not, inl, inr, ⊎_elim, ◌≡◌, refl, sym, ◌∙◌, ap, subst, arith}
use Rattle.services.specs.declared.ByService.{ByService}
use Rattle.answering_rules.specs.declared.Fate.{Fate}
use Rattle.rights.specs.declared.Rights.{Rights}
use Rattle.rights.specs.declared.Service.{Service}
use Rattle.rights.specs.Rights.{has_of}
use Rattle.services.specs.declared.Given.{Given}
use Rattle.services.specs.declared.Request.{Request}
use Rattle.services.specs.declared.Said.{Said}
use Rattle.services.specs.declared.Standing.{Standing}
use Rattle.services.specs.Standing.{in_force_of, awaits_of}
use Rattle.user_element.specs.declared.Note.{Note}
use Rattle.user_element.specs.declared.Seen.{Seen}
use Rattle.user_element.specs.Element.{seen_of, goes_out_of}
use Rattle.answer.specs.declared.Answer.{Answer}
use Rattle.answer.specs.Answer.{taken_of}
use Rattle.message_types.specs.declared.Kind.{Kind}
use Rattle.phases.specs.declared.Phase.{Phase}
use Rattle.phases.specs.Phase.{requested_of}
use Rattle.sent.specs.declared.Level.{Level}
use Rattle.sent.specs.declared.Message.{Message}
use Rattle.sent.specs.declared.side.Side.{Side}
use Rattle.sent.specs.Message.{silence, saying_of, bare_of, congestion_of, informs_of, only_if_of}
use Rattle.event.specs.declared.Event.{Event}
use Rattle.facility_rules.specs.declared.What.{What}
use Rattle.facility_rules.specs.Messages.{facility_said_of, about_three_of, to_asker_of, to_other_of, not_granted_of}
use Rattle.answering_rules.specs.Fates.{alerting_fates_of, connect_fates_of}
use Rattle.answering_rules.specs.Effects.{told_of, declined_of, settled_of, failed_of, settles_of, tells_of, declines_of}
use Rattle.clearing_rules.specs.Closing.{rejection_of, closing_said_of, silent_answers, heard_answers_of, closing_facilities_of}
use Rattle.flow_meter.specs.declared.Meter.{Meter}
use Rattle.flow_meter.specs.declared.passage.Passage.{Passage}
use Rattle.flow_meter.specs.CallMeters.{ready_of}
use Rattle.information_rules.specs.Messages.{to_sender_of, to_receiver_of}
use Rattle.information_rules.specs.Serving.{serves_three_of}
use Rattle.setup_rules.specs.Requests.{passed_request_of, network_refusal_of, lacks_of, passed_requests_of, network_refusals_of, to_caller_of, to_called_of, setup_carries_of}
use Rattle.call.specs.declared.Call.{Call}
use Rattle.call.specs.declared.reply.Reply.{Reply}
use Rattle.call.specs.Answering.{answered_call_of, goes_on_of, clears_of, answering_of, answered_of, alerting_of, connect_of}
use Rattle.call.specs.Disconnect.{one_after_of, passed_on_of, disconnect_of, ends_of, release_complete_of}
use Rattle.call.specs.Facility.{facility_verdict_of, passes_facility_of, facility_of}
use Rattle.call.specs.Information.{information_passage_of, carried_of, with_element_of, information_of}
use Rattle.call.specs.Reply.{refused_of, reply_of}
use Rattle.call.specs.Setup.{proceeds_of, setup_of}
use Rattle.call.specs.Sound.{sound_of}
use Rattle.call.specs.Step.{not_an_event_of, step_of}
use Rattle.call.specs.Tick.{runs_of, passes_tick_of, tick_of}
use Rattle.logic.proofs.Decide.{never, by_cond, Decides, Denies, both, either, as_is, always, over, denied as denies}
use Rattle.call_promises.specs.Numbers.{Allowed, Has, ServesThree, AskedRequired, NotGranted, meter_from, other, tells}
use Rattle.call_promises.specs.Notes.{LacksRequired, Open, NotCarried, limit_for}
use Rattle.call_promises.specs.Refusals.{sent_to}
use Rattle.call_promises.specs.Handling.{Explicit}
use Rattle.call_promises.specs.Services.{answer_for}
use Rattle.call_promises.specs.Sends.{Hears, Flags, Rides, telling, curt, congested, informing, Denied, denied, undenied, Remaining, preferred, required, gone, FailsAt, Answering, on, clears, clears_too, Intact, CountPays, CreditPays, FirstDropped, Agreed, Worded, request, accept, reject, Pending, LastWord, rejects, accepts, mute, Sends, released, proceeding, setup, alerting, connect, passes, warns, facility, refuses, disconnect, release, ready, IsWhatIsSent, SendsExactly}
use Rattle.call_promises.proofs.Conditions.{has, serves_three}
use Rattle.call_promises.proofs.Notes.{lacks, setup_carries, alerting_carries, connect_carries, disconnect_comes, carries_of}
use Rattle.call_promises.proofs.Phases.{fresh, requested, connectable, talking, active, up, live}
use Rattle.call_promises.proofs.Ranges.{unsound, reference_range, rights_range}
use Rattle.call_promises.proofs.Seen.{Sight, absent, malformed, too_long, whole, sight}
use Rattle.call_promises.proofs.Heard.{Heard, through, barred, heard}
use Rattle.call_promises.proofs.Parts.{Tests, tests, rides, one_flag, View, alerting_one, alerting_two, alerting_three, connect_one, connect_two, connect_three, settles_is, settles_one, turned_is, turned_one, failure, Outcome, sound, fails, outcome, Met, counted, paid, marked, spent, unserved, met, paid_once, left_once, Verdict, agreed, ungranted, neither, verdict, awaits}

-- ---- a message and the sentence that sends it

-- the message of a sent one
abbrev within : Message → Option Message → Message
within d None = d
within d (Some m) = m

told_by : {P : Message → Type 0} {s : Option Message} (m : Message) → s ≡ Some m → P m → ((n : Message) → P n → m ≡ n) → IsWhatIsSent P s
told_by {P} m e p u n = ((λ h. subst P (ap (within m) (sym e ∙ h)) p), (λ x. e ∙ ap Some (u n x)))

none_sent : {m : Message} → None ≡ Some m → ⊥
none_sent {m} e = let z : ◌≡◌ {A = ℕ} 0 1 = cc in omega arith

told_none : {P : Message → Type 0} {s : Option Message} → s ≡ None → ((n : Message) → P n → ⊥) → IsWhatIsSent P s
told_none e f n = ((λ h. absurd (none_sent (sym e ∙ h))), (λ x. absurd (f n x)))

unheard : (c : Call) (e : Event) (l : List ℕ) (side : Side) (a g : Bool) → (sound_of c ≡ true → a ≡ true → g ≡ true → ⊥) → Tests c e a g → IsWhatIsSent (λ m. Hears c e × Sends c l e side m) None
unheard c e l side a g n x =
    told_none {P = λ m. Hears c e × Sends c l e side m} refl (λ k y. let t = x.back y.0 in n t.0 t.1 t.2)

-- an event that is heard sends what its reply sends, and one that is barred nothing
heard_told : (c : Call) (e : Event) (l : List ℕ) (side : Side) (a g : Bool) (r : Reply) {s : Reply} → Heard c a g r s → Tests c e a g → IsWhatIsSent (Sends c l e side) (sent_to r side) → IsWhatIsSent (λ m. Hears c e × Sends c l e side m) (sent_to s side)
unfolding refused_of
heard_told c e l side a g r (through p q t) x f m = ((λ h. (x.so p q t, (f m).0 h)), (λ y. (f m).1 y.1))
heard_told c e l Side.Calling a g r (barred n b) x f m = unheard c e l Side.Calling a g n x m
heard_told c e l Side.Called a g r (barred n b) x f m = unheard c e l Side.Called a g n x m

-- a reply to one side's event
reply_told : (P : Side → Message → Type 0) (side : Side) (d : Call) (a : Answer) (note : Note) (back far : Option Message) (x : Option Service) → IsWhatIsSent (P side) back → IsWhatIsSent (P (other side)) far → (to : Side) → IsWhatIsSent (P to) (sent_to (reply_of side d a note back far x) to)
unfolding reply_of
reply_told P Side.Calling d a note back far x p q Side.Calling = p
reply_told P Side.Calling d a note back far x p q Side.Called = q
reply_told P Side.Called d a note back far x p q Side.Calling = q
reply_told P Side.Called d a note back far x p q Side.Called = p

not_other : (side : Side) → side ≡ other side → ⊥
not_other Side.Calling e = let z : ◌≡◌ {A = ℕ} 0 1 = cc in omega arith
not_other Side.Called e = let z : ◌≡◌ {A = ℕ} 0 1 = cc in omega arith

-- ---- SETUP

plainly : {A : Type 0} → Explicit Request.Unasked → A
plainly (inl e) = absurd (let z : ◌≡◌ {A = ℕ} 0 1 = cc in omega arith)
plainly (inr e) = absurd (let z : ◌≡◌ {A = ℕ} 0 1 = cc in omega arith)

module _ (r : Rights) (k : Service) where
  denied_is : (q : Request) → Denied r k q (network_refusal_of q (has_of r k))
  denied_is Request.Unasked = undenied plainly
  denied_is Request.Preferred = by_cond (Denied r k Request.Preferred) (has_of r k) (λ h. undenied (λ _. (has r k).so h)) (λ n. denied (inl refl) (λ y. never ((has r k).back y) n))
  denied_is Request.Required = by_cond (Denied r k Request.Required) (has_of r k) (λ h. undenied (λ _. (has r k).so h)) (λ n. denied (inr refl) (λ y. never ((has r k).back y) n))

  denied_one : (q : Request) {s : Said} → Denied r k q s → network_refusal_of q (has_of r k) ≡ s
  denied_one Request.Unasked (denied x n) = plainly x
  denied_one Request.Unasked (undenied f) = refl
  denied_one Request.Preferred (denied x n) = rw ((denies _ (has r k)).back n) refl
  denied_one Request.Preferred (undenied f) = rw ((has r k).back (f (inl refl))) refl
  denied_one Request.Required (denied x n) = rw ((denies _ (has r k)).back n) refl
  denied_one Request.Required (undenied f) = rw ((has r k).back (f (inr refl))) refl

  remaining_is : (q : Request) → Remaining r k q (passed_request_of q (has_of r k))
  remaining_is Request.Unasked = gone (λ x _. plainly x)
  remaining_is Request.Preferred = by_cond (Remaining r k Request.Preferred) (has_of r k) (λ h. preferred refl ((has r k).so h)) (λ n. gone (λ _ y. never ((has r k).back y) n))
  remaining_is Request.Required = by_cond (Remaining r k Request.Required) (has_of r k) (λ h. required refl ((has r k).so h)) (λ n. gone (λ _ y. never ((has r k).back y) n))

  gone_one : (q : Request) → (Explicit q → Has r k → ⊥) → passed_request_of q (has_of r k) ≡ Said.Nothing
  gone_one Request.Unasked f = refl
  gone_one Request.Preferred f = rw ((denies _ (has r k)).back (f (inl refl))) refl
  gone_one Request.Required f = rw ((denies _ (has r k)).back (f (inr refl))) refl

  remaining_one : (q : Request) {s : Said} → Remaining r k q s → passed_request_of q (has_of r k) ≡ s
  remaining_one q (preferred e h) = rw (e, (has r k).back h) refl
  remaining_one q (required e h) = rw (e, (has r k).back h) refl
  remaining_one q (gone f) = gone_one q f

module _ (c : Call) (n : ℕ) (r : Rights) (q : ByService Request) (l : List ℕ) where
  abbrev asked : Event
  asked = Event.Setup n r q

  abbrev refusals : Kind → Option ℕ → Message
  refusals kind cause =
      telling kind cause (network_refusal_of q.one (has_of r Service.One)) (network_refusal_of q.two (has_of r Service.Two))
      (network_refusal_of q.three (has_of r Service.Three)) false

  released_one : LacksRequired r q → (m : Message) → Sends c l asked Side.Calling m → refusals Kind.ReleaseComplete (Some 50) ≡ m
  released_one y m (released x a b d) =
      λ j. telling Kind.ReleaseComplete (Some 50) (denied_one r Service.One q.one a j) (denied_one r Service.Two q.two b j) (denied_one r Service.Three q.three d j) false
  released_one y m (proceeding x a b d) = absurd (x y)

  proceeding_one : (LacksRequired r q → ⊥) → (m : Message) → Sends c l asked Side.Calling m → refusals Kind.CallProceeding None ≡ m
  proceeding_one y m (released x a b d) = absurd (y x)
  proceeding_one y m (proceeding x a b d) =
      λ j. telling Kind.CallProceeding None (denied_one r Service.One q.one a j) (denied_one r Service.Two q.two b j) (denied_one r Service.Three q.three d j) false

  caller_told : IsWhatIsSent (Sends c l asked Side.Calling) (to_caller_of (lacks_of r q) (network_refusals_of r q))
  unfolding to_caller_of network_refusals_of saying_of
  caller_told =
      let d = denied_is r Service.One q.one in
      let e = denied_is r Service.Two q.two in
      let f = denied_is r Service.Three q.three in
      by_cond (IsWhatIsSent (Sends c l asked Side.Calling)) (lacks_of r q)
      (λ y. told_by (refusals Kind.ReleaseComplete (Some 50)) refl (released ((lacks r q).so y) d e f) (released_one ((lacks r q).so y)))
      (λ y.
      let g = (denies _ (lacks r q)).so y in
      told_by (refusals Kind.CallProceeding None) refl (proceeding g d e f) (proceeding_one g))

  abbrev onward : Bool → Message
  onward b =
      telling Kind.Setup None (passed_request_of q.one (has_of r Service.One)) (passed_request_of q.two (has_of r Service.Two))
      (passed_request_of q.three (has_of r Service.Three)) b

  no_setup : LacksRequired r q → (m : Message) → Sends c l asked Side.Called m → ⊥
  no_setup y m (setup x a b d f) = x y

  setup_one : (b : Bool) → Flags b (Rides c asked l) → (m : Message) → Sends c l asked Side.Called m → onward b ≡ m
  setup_one b g m (setup x a s d f) =
      λ j. telling Kind.Setup None (remaining_one r Service.One q.one a j) (remaining_one r Service.Two q.two s j) (remaining_one r Service.Three q.three d j) (one_flag g f j)

  called_told : IsWhatIsSent (Sends c l asked Side.Called) (to_called_of (lacks_of r q) (passed_requests_of r q) (goes_out_of (seen_of l r.limit) (setup_carries_of r q (seen_of l r.limit))))
  unfolding to_called_of passed_requests_of saying_of
  called_told =
      let s = seen_of l r.limit in
      let b = rides c asked l (setup_carries_of r q s) (sight l r.limit) (setup_carries c n r q s) in
      by_cond (IsWhatIsSent (Sends c l asked Side.Called)) (lacks_of r q) (λ y. told_none refl (no_setup ((lacks r q).so y)))
      (λ y.
      told_by (onward (goes_out_of s (setup_carries_of r q s))) refl
      (setup ((denies _ (lacks r q)).so y) (remaining_is r Service.One q.one) (remaining_is r Service.Two q.two) (remaining_is r Service.Three q.three) b)
      (setup_one _ b))

  setup_told : (side : Side) → IsWhatIsSent (Sends c l asked side) (sent_to (proceeds_of n r q (seen_of l r.limit)) side)
  unfolding proceeds_of
  setup_told Side.Calling = caller_told
  setup_told Side.Called = called_told

-- ---- ALERTING and CONNECT

module _ (c : Call) (l : List ℕ) (e : Event) (kind : Kind) (next : Phase) (f : ByService Fate) where
  module _
      (one : View c.phase e Service.One c.standings.one f.one)
      (two : View c.phase e Service.Two c.standings.two f.two)
      (three : View c.phase e Service.Three c.standings.three f.three)
    where
      abbrev answers : Bool → Message
      answers b = telling kind None (told_of f.one) (told_of f.two) (told_of f.three) b

      abbrev rejections : Message
      rejections = telling Kind.Disconnect (Some 69) (declined_of f.one) (declined_of f.two) (declined_of f.three) false

      on_one : ((k : Service) (g : Given) → FailsAt c e k g → ⊥) → (b : Bool) → Flags b (Rides c e l) → (m : Message) → Answering c l e kind Side.Calling m → answers b ≡ m
      on_one n b d m (on x s t u g) =
          λ j. telling kind None ((settles_one c e Service.One one s).1 j) ((settles_one c e Service.Two two t).1 j) ((settles_one c e Service.Three three u).1 j) (one_flag d g j)
      on_one n b d m (clears x s t u) = absurd (n _ _ x)

      none_cleared : ((k : Service) (g : Given) → FailsAt c e k g → ⊥) → (m : Message) → Answering c l e kind Side.Called m → ⊥
      none_cleared n m (clears_too x) = n _ _ x

      clears_one : (k : Service) (g : Given) → FailsAt c e k g → (m : Message) → Answering c l e kind Side.Calling m → rejections ≡ m
      clears_one k g x m (on y s t v h) = absurd (y k g x)
      clears_one k g x m (clears y s t v) =
          λ j. telling Kind.Disconnect (Some 69) (turned_one c e Service.One one s j) (turned_one c e Service.Two two t j) (turned_one c e Service.Three three v j) false

      called_one : (m : Message) → Answering c l e kind Side.Called m → curt Kind.Disconnect (Some 31) ≡ m
      called_one m (clears_too x) = refl

      pub answering_told : {seen : Seen} (x : Bool) → Outcome c e x → Sight l (limit_for c e) seen → Denies (not x && in_force_of (settled_of c.standings.one f.one)) (NotCarried c e) → (side : Side) → IsWhatIsSent (Answering c l e kind side) (sent_to (answering_of c kind next f seen x) side)
      unfolding goes_on_of clears_of answered_call_of settles_of tells_of declines_of bare_of saying_of silence
      answering_told false (sound n) v d Side.Calling =
          let b = rides c e l _ v (λ _. d) in
          told_by (answers _) refl (on n (settles_is c e Service.One one) (settles_is c e Service.Two two) (settles_is c e Service.Three three) b) (on_one n _ b)
      answering_told false (sound n) v d Side.Called = told_none refl (none_cleared n)
      answering_told true (fails k g x) v d Side.Calling =
          told_by rejections refl (clears x (turned_is c e Service.One one) (turned_is c e Service.Two two) (turned_is c e Service.Three three)) (clears_one k g x)
      answering_told true (fails k g x) v d Side.Called = told_by (curt Kind.Disconnect (Some 31)) refl (clears_too x) called_one

-- what is said of an answering message is said of its event
wrapped : {P Q : Message → Type 0} {s : Option Message} → ((m : Message) → P m → Q m) → ((m : Message) → Q m → P m) → IsWhatIsSent P s → IsWhatIsSent Q s
wrapped f g t m = ((λ h. f m ((t m).0 h)), (λ q. (t m).1 (g m q)))

abbrev pub carrying : Standing → ByService Fate → Bool
carrying s f = not (failed_of f) && in_force_of (settled_of s f.one)

pub alerting_denies : (c : Call) (a : ByService Given) → Denies (carrying c.standings.one (alerting_fates_of c.standings a)) (NotCarried c (Event.Alerting a))
unfolding carries_of
alerting_denies c a = alerting_carries c a

pub connect_denies : (c : Call) (a : ByService Given) → Denies (carrying c.standings.one (connect_fates_of (not (requested_of c.phase)) c.standings a)) (NotCarried c (Event.Connect a))
unfolding carries_of
connect_denies c a = connect_carries c a

module _ (c : Call) (a : ByService Given) (l : List ℕ) where
  rang : (side : Side) (m : Message) → Sends c l (Event.Alerting a) side m → Answering c l (Event.Alerting a) Kind.Alerting side m
  rang side m (alerting x) = x

  connected : (side : Side) (m : Message) → Sends c l (Event.Connect a) side m → Answering c l (Event.Connect a) Kind.Connect side m
  connected side m (connect x) = x

  alerting_told : (side : Side) → IsWhatIsSent (Sends c l (Event.Alerting a) side) (sent_to (answered_of c Kind.Alerting Phase.Alerting (alerting_fates_of c.standings a) l) side)
  unfolding answered_of failed_of
  alerting_told side =
      let e = Event.Alerting a in
      let x = alerting_one c.phase c.standings a in
      let y = alerting_two c.phase c.standings a in
      let z = alerting_three c.phase c.standings a in
      wrapped (λ m. alerting) (rang side)
      (answering_told c l e Kind.Alerting Phase.Alerting _ x y z _
      (outcome c e (failure c e Service.One x) (failure c e Service.Two y) (failure c e Service.Three z))
      (sight l c.rights.limit) (alerting_denies c a) side)

  connect_told : (side : Side) → IsWhatIsSent (Sends c l (Event.Connect a) side) (sent_to (answered_of c Kind.Connect Phase.Active (connect_fates_of (not (requested_of c.phase)) c.standings a) l) side)
  unfolding answered_of failed_of
  connect_told side =
      let e = Event.Connect a in
      let r = requested c.phase in
      let x = connect_one c.phase c.standings a _ r in
      let y = connect_two c.phase c.standings a _ r in
      let z = connect_three c.phase c.standings a _ r in
      wrapped (λ m. connect) (connected side)
      (answering_told c l e Kind.Connect Phase.Active _ x y z _
      (outcome c e (failure c e Service.One x) (failure c e Service.Two y) (failure c e Service.Three z))
      (sight l c.rights.limit) (connect_denies c a) side)

-- ---- USER INFORMATION

module _ (c : Call) (l : List ℕ) (side : Side) (more : Bool) where
  abbrev informs : Event
  informs = Event.Information side more

  only_warned : FirstDropped c l side → (m : Message) → Sends c l informs side m → congested Level.NotReady ≡ m
  only_warned d m (passes e x) = absurd (not_other side e)
  only_warned d m (warns e x) = refl

  not_warned : (FirstDropped c l side → ⊥) → (m : Message) → Sends c l informs side m → ⊥
  not_warned n m (passes e x) = not_other side e
  not_warned n m (warns e x) = n x

  only_passed : (m : Message) → Sends c l informs (other side) m → informing more ≡ m
  only_passed m (passes e x) = refl
  only_passed m (warns e x) = absurd (not_other side (sym e))

  not_passed : (CountPays c l side → ⊥) → (CreditPays c l side → ⊥) → (m : Message) → Sends c l informs (other side) m → ⊥
  not_passed n o m (passes e x) = ⊎_elim n o x
  not_passed n o m (warns e x) = not_other side (sym e)

  sender_told : {n : Meter} {p : Passage} → Met c l side n p → IsWhatIsSent (Sends c l informs side) (to_sender_of p)
  unfolding only_if_of congestion_of silence
  sender_told (counted x) = told_none refl (not_warned (λ y. paid_once x y.credit))
  sender_told (paid x) = told_none refl (not_warned (λ y. left_once x y))
  sender_told (marked x) = told_by (congested Level.NotReady) refl (warns refl x) (only_warned x)
  sender_told (spent a b d) = told_none refl (not_warned d)
  sender_told (unserved a b d) = told_none refl (not_warned d)

  receiver_told : {n : Meter} {p : Passage} → Met c l side n p → IsWhatIsSent (Sends c l informs (other side)) (to_receiver_of p more)
  unfolding only_if_of informs_of silence
  receiver_told (counted x) = told_by (informing more) refl (passes refl (inl x)) only_passed
  receiver_told (paid x) = told_by (informing more) refl (passes refl (inr x)) only_passed
  receiver_told (marked x) = told_none refl (not_passed (λ y. paid_once y x.credit) (λ y. left_once y x))
  receiver_told (spent a b d) = told_none refl (not_passed a b)
  receiver_told (unserved a b d) = told_none refl (not_passed a b)

  -- 17: nothing is sent
  damaged : (Intact c l → ⊥) → (to : Side) (m : Message) → Sends c l informs to m → ⊥
  damaged n to m (passes e (inl x)) = n x.intact
  damaged n to m (passes e (inr x)) = n x.credit.intact
  damaged n to m (warns e x) = n x.credit.intact

  refused_told : (a : Answer) (note : Note) → (Intact c l → ⊥) → (to : Side) → IsWhatIsSent (Sends c l informs to) (sent_to (refused_of c a note) to)
  unfolding refused_of
  refused_told a note n Side.Calling = told_none refl (damaged n Side.Calling)
  refused_told a note n Side.Called = told_none refl (damaged n Side.Called)

  carried_told : Intact c l → (to : Side) → IsWhatIsSent (Sends c l informs to) (sent_to (carried_of c side more (information_passage_of c side)) to)
  unfolding carried_of
  carried_told i to =
      let x = met c l side i in reply_told (Sends c l informs) side _ _ _ _ _ _ (sender_told x) (receiver_told x) to

  information_told : {s : Seen} → Sight l c.rights.limit s → (to : Side) → IsWhatIsSent (Sends c l informs to) (sent_to (with_element_of c s (carried_of c side more (information_passage_of c side))) to)
  unfolding with_element_of
  information_told (absent z) to = refused_told _ _ (λ i. let k = i.formed.least in omega arith) to
  information_told (malformed z w) to = refused_told _ _ (λ i. w i.formed) to
  information_told (too_long z w h) to = refused_told _ _ (λ i. let k = i.limit in omega arith) to
  information_told (whole z w h) to = carried_told (record { formed = w; limit = h }) to

-- ---- FACILITY

module _ (c : Call) (l : List ℕ) (side : Side) where
  abbrev says : What → Event
  says what = Event.Facility side what

  abbrev about_three : Said → Message
  about_three s = telling Kind.Facility None Said.Nothing Said.Nothing s false

  only_refused : (what : What) (m : Message) → Sends c l (says what) side m → about_three Said.ByNetwork ≡ m
  only_refused what m (facility e x w) = absurd (not_other side e)
  only_refused what m (refuses e x y) = refl

  not_refused : (what : What) → ((AskedRequired (says what) → ⊥) → NotGranted c (says what) → ⊥) → (m : Message) → Sends c l (says what) side m → ⊥
  not_refused what n m (facility e x w) = not_other side e
  not_refused what n m (refuses e x y) = n x y

  worded_one : {what : What} {s : Said} → Worded what s → facility_said_of what ≡ s
  worded_one request = refl
  worded_one accept = refl
  worded_one reject = refl

  worded_is : (what : What) → Agreed c (says what) → Worded what (facility_said_of what)
  worded_is What.Preferred a = request
  worded_is What.Accept a = accept
  worded_is What.Reject a = reject
  worded_is What.Required a = absurd (a.preferred (tells refl))

  only_facility : (what : What) (m : Message) → Sends c l (says what) (other side) m → about_three (facility_said_of what) ≡ m
  only_facility what m (facility e x w) = ap about_three (worded_one w)
  only_facility what m (refuses e x y) = absurd (not_other side (sym e))

  not_facility : (what : What) → (Agreed c (says what) → ⊥) → (m : Message) → Sends c l (says what) (other side) m → ⊥
  not_facility what n m (facility e x w) = n x
  not_facility what n m (refuses e x y) = not_other side (sym e)

  asker_told : (what : What) (v : Answer) → Verdict c (says what) (taken_of v) (not_granted_of v) → IsWhatIsSent (Sends c l (says what) side) (to_asker_of v)
  unfolding only_if_of about_three_of saying_of
  asker_told what v (agreed a t b) = rw b (told_none refl (not_refused what (λ _ y. a.granted y)))
  asker_told what v (ungranted x y t b) = rw b (told_by (about_three Said.ByNetwork) refl (refuses refl x y) (only_refused what))
  asker_told what v (neither n o t b) = rw b (told_none refl (not_refused what o))

  other_told : (what : What) (v : Answer) → Verdict c (says what) (taken_of v) (not_granted_of v) → IsWhatIsSent (Sends c l (says what) (other side)) (to_other_of v what)
  unfolding only_if_of about_three_of saying_of
  other_told what v (agreed a t b) = rw t (told_by (about_three (facility_said_of what)) refl (facility refl a (worded_is what a)) (only_facility what))
  other_told what v (ungranted x y t b) = rw t (told_none refl (not_facility what (λ a. a.granted y)))
  other_told what v (neither n o t b) = rw t (told_none refl (not_facility what n))

  facility_told : (what : What) (to : Side) → IsWhatIsSent (Sends c l (says what) to) (sent_to (passes_facility_of c side what (facility_verdict_of c side what)) to)
  unfolding passes_facility_of
  facility_told what to =
      let v = facility_verdict_of c side what in
      let x = verdict c l side what in
      reply_told (Sends c l (says what)) side _ _ _ _ _ _ (asker_told what v x) (other_told what v x) to

-- ---- DISCONNECT and RELEASE COMPLETE

module _ (c : Call) where
  no_word : (k : Service) (g : Given) → LastWord c Side.Calling k g Said.Nothing
  no_word k g =
      mute (λ x. let z : ◌≡◌ {A = ℕ} 0 1 = cc x.called in omega arith) (λ x. let z : ◌≡◌ {A = ℕ} 0 1 = cc x.called in omega arith)

  no_other_word : (k : Service) (g : Given) {s : Said} → LastWord c Side.Calling k g s → Said.Nothing ≡ s
  no_other_word k g (rejects x) = absurd (let z : ◌≡◌ {A = ℕ} 0 1 = cc x.called in omega arith)
  no_other_word k g (accepts x) = absurd (let z : ◌≡◌ {A = ℕ} 0 1 = cc x.called in omega arith)
  no_other_word k g (mute x y) = refl

  one_word : (k : Service) (g : Given) {s t : Said} → LastWord c Side.Called k g s → LastWord c Side.Called k g t → s ≡ t
  one_word k g (rejects x) (rejects y) = refl
  one_word k g (rejects x) (accepts y) = absurd (let z : ◌≡◌ {A = ℕ} 0 1 = cc (x.given, y.given) in omega arith)
  one_word k g (rejects x) (mute y z) = absurd (y x)
  one_word k g (accepts x) (rejects y) = absurd (let z : ◌≡◌ {A = ℕ} 0 1 = cc (x.given, y.given) in omega arith)
  one_word k g (accepts x) (accepts y) = refl
  one_word k g (accepts x) (mute y z) = absurd (z x)
  one_word k g (mute x y) (rejects z) = absurd (x z)
  one_word k g (mute x y) (accepts z) = absurd (y z)
  one_word k g (mute x y) (mute z w) = refl

  -- a service that can no longer be accepted
  rejection_is : (k : Service) (waits : Bool) → Decides waits (Pending c k) → (k ≡ Service.One → ⊥) → (g : Given) → LastWord c Side.Called k g (rejection_of waits g)
  rejection_is k waits d n Given.Silent = mute (λ x. let z : ◌≡◌ {A = ℕ} 0 1 = cc x.given in omega arith) (λ x. n x.first)
  rejection_is k waits d n Given.Accepted = mute (λ x. let z : ◌≡◌ {A = ℕ} 0 1 = cc x.given in omega arith) (λ x. n x.first)
  rejection_is k waits d n Given.Rejected =
      by_cond (LastWord c Side.Called k Given.Rejected) waits (λ h. rejects (record { called = refl; pending = d.so h; given = refl }))
      (λ h. mute (λ x. never (d.back x.pending) h) (λ x. n x.first))

  pending_one : Pending c Service.One → Open c.standings.one
  pending_one = ⊎_elim (λ o. o) (λ x. absurd (let z : ◌≡◌ {A = ℕ} 0 1 = cc x.0 in omega arith))

  closing_is : (g : Given) → LastWord c Side.Called Service.One g (closing_said_of c.standings.one g)
  closing_is Given.Silent =
      mute (λ x. let z : ◌≡◌ {A = ℕ} 0 1 = cc x.given in omega arith) (λ x. let z : ◌≡◌ {A = ℕ} 0 1 = cc x.given in omega arith)
  closing_is Given.Accepted =
      by_cond (LastWord c Side.Called Service.One Given.Accepted) (awaits_of c.standings.one)
      (λ h. accepts (record { called = refl; first = refl; asked = (awaits c.standings.one).so h; given = refl }))
      (λ h.
      mute (λ x. let z : ◌≡◌ {A = ℕ} 0 1 = cc x.given in omega arith) (λ x. never ((awaits c.standings.one).back x.asked) h))
  closing_is Given.Rejected =
      by_cond (LastWord c Side.Called Service.One Given.Rejected) (awaits_of c.standings.one)
      (λ h. rejects (record { called = refl; pending = inl ((awaits c.standings.one).so h); given = refl }))
      (λ h.
      mute (λ x. never ((awaits c.standings.one).back (pending_one x.pending)) h) (λ x. let z : ◌≡◌ {A = ℕ} 0 1 = cc x.given in omega arith))

  pending_two : Decides (awaits_of c.standings.two) (Pending c Service.Two)
  pending_two =
      record {
        so = λ h. inl ((awaits c.standings.two).so h);
        back = ⊎_elim (λ o. (awaits c.standings.two).back o) (λ x. absurd (let z : ◌≡◌ {A = ℕ} 0 1 = cc x.0 in omega arith));
      }

  pending_three : Decides (awaits_of c.standings.three || c.asking.calling) (Pending c Service.Three)
  pending_three =
      let own : Decides c.asking.calling ((Service.Three ≡ Service.Three) × (c.asking.calling ≡ true)) = record { so = λ h. (refl, h); back = λ x. x.1 } in
      either _ _ (awaits c.standings.three) own

  abbrev said_for : ByService Said → Service → Said
  said_for f Service.One = f.one
  said_for f Service.Two = f.two
  said_for f Service.Three = f.three

  pub word_is : (side : Side) (a : ByService Given) (k : Service) → LastWord c side k (answer_for a k) (said_for (closing_facilities_of c.standings c.asking.calling (heard_answers_of side a)) k)
  unfolding closing_facilities_of silent_answers
  word_is Side.Calling a Service.One = no_word Service.One a.one
  word_is Side.Calling a Service.Two = no_word Service.Two a.two
  word_is Side.Calling a Service.Three = no_word Service.Three a.three
  word_is Side.Called a Service.One = closing_is a.one
  word_is Side.Called a Service.Two = rejection_is Service.Two _ pending_two (λ e. let z : ◌≡◌ {A = ℕ} 0 1 = cc e in omega arith) a.two
  word_is Side.Called a Service.Three = rejection_is Service.Three _ pending_three (λ e. let z : ◌≡◌ {A = ℕ} 0 1 = cc e in omega arith) a.three

  word_one : (side : Side) (k : Service) (g : Given) {s t : Said} → LastWord c side k g s → LastWord c side k g t → s ≡ t
  word_one Side.Calling k g x y = sym (no_other_word k g x) ∙ no_other_word k g y
  word_one Side.Called k g x y = one_word k g x y

module _ (c : Call) (l : List ℕ) (side : Side) (cause : ℕ) (a : ByService Given) where
  abbrev clearing : Event
  clearing = Event.Disconnect side cause a

  abbrev said_last : ByService Said
  said_last = closing_facilities_of c.standings c.asking.calling (heard_answers_of side a)

  abbrev last : Bool → Message
  last b = telling Kind.Disconnect (Some cause) said_last.one said_last.two said_last.three b

  disconnect_one : (b : Bool) → Flags b (Rides c clearing l) → (m : Message) → Sends c l clearing (other side) m → last b ≡ m
  disconnect_one b f m (disconnect e x y z g) =
      λ j. telling Kind.Disconnect (Some cause) (word_one c side Service.One a.one (word_is c side a Service.One) x j) (word_one c side Service.Two a.two (word_is c side a Service.Two) y j) (word_one c side Service.Three a.three (word_is c side a Service.Three) z j) (one_flag f g j)

  not_back : (m : Message) → Sends c l clearing side m → ⊥
  not_back m (disconnect e x y z g) = not_other side e

  disconnect_told : (to : Side) → IsWhatIsSent (Sends c l clearing to) (sent_to (passed_on_of c side cause (heard_answers_of side a) (seen_of l c.rights.limit)) to)
  unfolding passed_on_of saying_of
  disconnect_told to =
      let s = sight l c.rights.limit in
      let b = rides c clearing l (in_force_of (one_after_of c (heard_answers_of side a))) s (λ _. denies _ (disconnect_comes side c.standings.one a)) in
      reply_told (Sends c l clearing) side _ _ _ _ _ _ (told_none refl not_back)
      (told_by (last _) refl (disconnect refl (word_is c side a Service.One) (word_is c side a Service.Two) (word_is c side a Service.Three) b) (disconnect_one _ b)) to

module _ (c : Call) (l : List ℕ) (side : Side) where
  release_one : (m : Message) → Sends c l (Event.ReleaseComplete side) (other side) m → curt Kind.ReleaseComplete None ≡ m
  release_one m (release e) = refl

  not_released : (m : Message) → Sends c l (Event.ReleaseComplete side) side m → ⊥
  not_released m (release e) = not_other side e

  release_told : (to : Side) → IsWhatIsSent (Sends c l (Event.ReleaseComplete side) to) (sent_to (ends_of c side) to)
  unfolding ends_of bare_of saying_of silence
  release_told to =
      reply_told (Sends c l (Event.ReleaseComplete side)) side _ _ _ _ _ _ (told_none refl not_released)
      (told_by (curt Kind.ReleaseComplete None) refl (release refl) release_one) to

-- ---- a tick

module _ (c : Call) (l : List ℕ) where
  ready_one : (side : Side) (m : Message) → Sends c l Event.Tick side m → congested Level.Ready ≡ m
  ready_one side m (ready s k) = refl

  not_ready_lem : (side : Side) → (ServesThree c → (meter_from c side).mark ≡ true → ⊥) → (m : Message) → Sends c l Event.Tick side m → ⊥
  not_ready_lem side n m (ready s k) = n s k

  ready_told : (side : Side) → IsWhatIsSent (Sends c l Event.Tick side) (ready_of (meter_from c side) (runs_of c))
  unfolding ready_of only_if_of congestion_of silence runs_of
  ready_told side =
      let d = both _ _ (serves_three c) (as_is (meter_from c side).mark) in
      by_cond (IsWhatIsSent (Sends c l Event.Tick side)) (serves_three_of c.phase (in_force_of c.standings.three) && (meter_from c side).mark)
      (λ h. let t = d.so h in told_by (congested Level.Ready) refl (ready t.0 t.1) (ready_one side))
      (λ h. told_none refl (not_ready_lem side (λ s k. never (d.back (s, k)) h)))

  tick_told : (side : Side) → IsWhatIsSent (Sends c l Event.Tick side) (sent_to (passes_tick_of c) side)
  unfolding passes_tick_of
  tick_told Side.Calling = ready_told Side.Calling
  tick_told Side.Called = ready_told Side.Called

-- ---- any event

none_told : (c : Call) (e : Event) (l : List ℕ) (side : Side) → (Allowed e c.phase → ⊥) → (a : Answer) (note : Note) → IsWhatIsSent (λ m. Hears c e × Sends c l e side m) (sent_to (refused_of c a note) side)
unfolding refused_of
none_told c e l Side.Calling n a note = told_none {P = λ m. Hears c e × Sends c l e Side.Calling m} refl (λ m x. n x.0.allowed)
none_told c e l Side.Called n a note = told_none {P = λ m. Hears c e × Sends c l e Side.Called m} refl (λ m x. n x.0.allowed)

no_event_lem : (c : Call) (e : Event) (l : List ℕ) (side : Side) → (Allowed e c.phase → ⊥) → IsWhatIsSent (λ m. Hears c e × Sends c l e side m) (sent_to (not_an_event_of c) side)
unfolding not_an_event_of
no_event_lem c e l side n = none_told c e l side n _ _

pub sends : SendsExactly step_of
unfolding setup_of alerting_of connect_of information_of facility_of disconnect_of release_complete_of tick_of
sends c (Event.Setup n r q) l side =
    heard_told c _ l side _ _ _ (heard c _ _ _)
    (tests c _ _ _ (unsound c) (fresh c.phase) (denies _ (both _ _ (reference_range n) (rights_range r)))) (setup_told c n r q l side)
sends c (Event.Alerting a) l side =
    heard_told c _ l side _ _ _ (heard c _ _ _) (tests c _ _ _ (unsound c) (requested c.phase) always) (alerting_told c a l side)
sends c (Event.Connect a) l side =
    heard_told c _ l side _ _ _ (heard c _ _ _) (tests c _ _ _ (unsound c) (connectable c.phase) always) (connect_told c a l side)
sends c (Event.Information from more) l side =
    heard_told c _ l side _ _ _ (heard c _ _ _) (tests c _ _ _ (unsound c) (talking c.phase) always)
    (information_told c l from more (sight l c.rights.limit) side)
sends c (Event.Facility from what) l side =
    heard_told c _ l side _ _ _ (heard c _ _ _) (tests c _ _ _ (unsound c) (active c.phase) always) (facility_told c l from what side)
sends c (Event.Disconnect from cause a) l side =
    heard_told c _ l side _ _ _ (heard c _ _ _) (tests c _ _ _ (unsound c) (up c.phase) (over cause 127)) (disconnect_told c l from cause a side)
sends c (Event.ReleaseComplete from) l side =
    heard_told c _ l side _ _ _ (heard c _ _ _) (tests c _ _ _ (unsound c) (live c.phase) always) (release_told c l from side)
sends c Event.Tick l side =
    heard_told c _ l side _ _ _ (heard c _ _ _) (tests c _ _ _ (unsound c) (live c.phase) always) (tick_told c l side)
sends c Event.CallProceeding l side = no_event_lem c _ l side (λ x. x)
sends c Event.CongestionControl l side = no_event_lem c _ l side (λ x. x)
