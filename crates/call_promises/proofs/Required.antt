-- A call that is Active has its required services.
use Rattle.services.specs.declared.ByService.{ByService}
use Rattle.std.proofs.Common.{ℕ, List, [], ◌∷◌, ◌++◌, Bool, true, false, ◌||◌, not, inl, inr, ⊎_elim, ◌≡◌, refl, sym, arith}
use Rattle.user_element.specs.declared.Seen.{Seen}
use Rattle.rights.specs.declared.Rights.{Rights}
use Rattle.rights.specs.declared.Service.{Service}
use Rattle.answering_rules.specs.declared.Fate.{Fate}
use Rattle.services.specs.declared.Given.{Given}
use Rattle.services.specs.declared.Request.{Request}
use Rattle.services.specs.declared.Standing.{Standing}
use Rattle.answer.specs.declared.Answer.{Answer}
use Rattle.facility_rules.specs.declared.What.{What}
use Rattle.message_types.specs.declared.Kind.{Kind}
use Rattle.phases.specs.declared.Phase.{Phase}
use Rattle.sent.specs.declared.side.Side.{Side}
use Rattle.call.specs.declared.Call.{Call}
use Rattle.event.specs.declared.Event.{Event}
use Rattle.call.specs.declared.reply.Reply.{Reply}
use Rattle.user_element.specs.Element.{whole_of}
use Rattle.rights.specs.Rights.{has_of}
use Rattle.setup_rules.specs.Requests.{asked_standing_of, first_standing_of, standings_of, lacking_of, lacks_of, setup_phase_of}
use Rattle.answering_rules.specs.Fates.{decided_of, alerting_fates_of, connect_fates_of}
use Rattle.answering_rules.specs.Effects.{settled_of, settles_of, failure_of, failed_of}
use Rattle.answer.specs.Answer.{number_of, taken_of}
use Rattle.call.specs.Answering.{answered_call_of, goes_on_of, clears_of, answering_of, answered_of, alerting_of, connect_of}
use Rattle.call.specs.Disconnect.{closed_call_of, passed_on_of, disconnect_of, ends_of, release_complete_of}
use Rattle.call.specs.Facility.{facility_call_of, passes_facility_of, facility_of}
use Rattle.call.specs.Information.{meters_of, information_passage_of, carried_of, with_element_of, information_of}
use Rattle.call.specs.Reply.{refused_of, reply_of}
use Rattle.call.specs.Setup.{proceeds_of, setup_of}
use Rattle.call.specs.Sound.{fresh_call, in_phase_of}
use Rattle.call.specs.Step.{not_an_event_of, step_of}
use Rattle.call.specs.Tick.{passes_tick_of, tick_of}
use Rattle.call_promises.specs.Numbers.{InForce}
use Rattle.call_promises.specs.Sound.{Offered, run_of}
use Rattle.call_promises.specs.Notes.{Lacking, LacksRequired, Fails, AlertingFails, ConnectFails}
use Rattle.call_promises.specs.Services.{request_for, standing_for, Taken, Requires, asked, Required, setup, alerting, connect, Failed}
use Rattle.logic.proofs.Decide.{never, by_cond}
use Rattle.call_promises.proofs.Heard.{bar_not_taken, Heard, through, barred, heard}
use Rattle.call_promises.proofs.Phases.{fresh, requested, connectable, active}
use Rattle.call_promises.proofs.Conditions.{has, or_false}

-- a run goes on from where it came to
pub run_append : (c : Call) (a b : List Offered) → run_of step_of c (a ++ b) ≡ run_of step_of (run_of step_of c a) b
run_append c [] b = refl
run_append c (o ∷ a) b = run_append (step_of c o.event o.element).call a b

-- how a service stands that SETUP asked for as required: open until its answer is due, in force from then on
abbrev AtAlerting : Service → Standing → Type 0
AtAlerting Service.One s = InForce s
AtAlerting Service.Two s = InForce s
AtAlerting Service.Three s = s ≡ Standing.Required

abbrev Due : Service → Phase → Standing → Type 0
Due k Phase.Fresh s = ⊥
Due k Phase.Requested s = s ≡ Standing.Required
Due k Phase.Alerting s = AtAlerting k s
Due k Phase.Active s = InForce s
Due k Phase.Clearing s = Unit {0}
Due k Phase.Ended s = Unit {0}

abbrev DueIn : Service → Call → Type 0
DueIn k c = Due k c.phase (standing_for c.standings k)

moved : (k : Service) (s : Standing) {p q : Phase} → p ≡ q → Due k p s → Due k q s
moved k s e w = rw e at w

-- SETUP
abbrev lack_of : Rights → ByService Request → Service → Bool
lack_of rights q k = lacking_of (request_for q k) (has_of rights k)

pub lacks_false : (rights : Rights) (q : ByService Request) (k : Service) → lacks_of rights q ≡ false → lack_of rights q k ≡ false
unfolding lacks_of
lacks_false rights q k h = let t = or_false (lack_of rights q Service.One || lack_of rights q Service.Two) _ h in each k (or_false (lack_of rights q Service.One) _ t.0) t.1
  where
    each : (k : Service) → (lack_of rights q Service.One ≡ false) × (lack_of rights q Service.Two ≡ false) → lack_of rights q Service.Three ≡ false → lack_of rights q k ≡ false
    each Service.One t u = t.0
    each Service.Two t u = t.1
    each Service.Three t u = u

had_required : (q : Request) (had : Bool) → q ≡ Request.Required → lacking_of q had ≡ false → asked_standing_of q had ≡ Standing.Required
had_required q true e h = rw e refl
had_required q false e h = never (rw e refl) h

asked_standing : (reference : ℕ) (rights : Rights) (q : ByService Request) (seen : Seen) (k : Service) → request_for q k ≡ Request.Required → lack_of rights q k ≡ false → standing_for (proceeds_of reference rights q seen).call.standings k ≡ Standing.Required
unfolding proceeds_of standings_of first_standing_of
asked_standing reference rights q seen Service.One e h = rw e (rw e at (had_required _ _ e h))
asked_standing reference rights q seen Service.Two e h = had_required _ _ e h
asked_standing reference rights q seen Service.Three e h = had_required _ _ e h

setup_due : (reference : ℕ) (rights : Rights) (q : ByService Request) (seen : Seen) (k : Service) → request_for q k ≡ Request.Required → DueIn k (proceeds_of reference rights q seen).call
unfolding proceeds_of setup_phase_of
setup_due reference rights q seen k e =
    by_cond (λ p. Due k p (standing_for (proceeds_of reference rights q seen).call.standings k)) (lacks_of rights q) (λ _. tt)
    (λ h. asked_standing reference rights q seen k e (lacks_false rights q k h))

-- ALERTING and CONNECT
abbrev pub fate_for : ByService Fate → Service → Fate
fate_for f Service.One = f.one
fate_for f Service.Two = f.two
fate_for f Service.Three = f.three

pub settled_for : (c : Call) (next : Phase) (f : ByService Fate) (k : Service) → standing_for (answered_call_of c next f).standings k ≡ settled_of (standing_for c.standings k) (fate_for f k)
unfolding answered_call_of settles_of
settled_for c next f Service.One = refl
settled_for c next f Service.Two = refl
settled_for c next f Service.Three = refl

none_fails : (f : ByService Fate) (k : Service) → failed_of f ≡ false → failure_of (fate_for f k) ≡ false
unfolding failed_of
none_fails f Service.One h = (or_false _ _ (or_false (failure_of f.one || failure_of f.two) _ h).0).0
none_fails f Service.Two h = (or_false (failure_of f.one) _ (or_false (failure_of f.one || failure_of f.two) _ h).0).1
none_fails f Service.Three h = (or_false (failure_of f.one || failure_of f.two) _ h).1

accepted : (g : Given) → failure_of (decided_of Standing.Required g) ≡ false → g ≡ Given.Accepted
accepted Given.Silent h = never refl h
accepted Given.Accepted h = refl
accepted Given.Rejected h = never refl h

comes : (s : Standing) (g : Given) → s ≡ Standing.Required → failure_of (decided_of s g) ≡ false → InForce (settled_of s (decided_of s g))
comes s g e h = rw (e, accepted g (rw e at h)) refl

module _ (c : Call) (a : ByService Given) where
  alerting_due : (k : Service) → standing_for c.standings k ≡ Standing.Required → failure_of (fate_for (alerting_fates_of c.standings a) k) ≡ false → AtAlerting k (settled_of (standing_for c.standings k) (fate_for (alerting_fates_of c.standings a) k))
  unfolding alerting_fates_of
  alerting_due Service.One e h = comes _ _ e h
  alerting_due Service.Two e h = comes _ _ e h
  alerting_due Service.Three e h = e

  connect_due : (alerted : Bool) (k : Service) → (alerted ≡ false → standing_for c.standings k ≡ Standing.Required) → (alerted ≡ true → AtAlerting k (standing_for c.standings k)) → failure_of (fate_for (connect_fates_of alerted c.standings a) k) ≡ false → InForce (settled_of (standing_for c.standings k) (fate_for (connect_fates_of alerted c.standings a) k))
  unfolding connect_fates_of
  connect_due true Service.One r w h = w refl
  connect_due true Service.Two r w h = w refl
  connect_due true Service.Three r w h = comes _ _ (w refl) h
  connect_due false Service.One r w h = comes _ _ (r refl) h
  connect_due false Service.Two r w h = comes _ _ (r refl) h
  connect_due false Service.Three r w h = comes _ _ (r refl) h

module _ (k : Service) (c : Call) where
  outcome_due : (kind : Kind) (next : Phase) (f : ByService Fate) (seen : Seen) (x : Bool) → (x ≡ false → Due k next (settled_of (standing_for c.standings k) (fate_for f k))) → DueIn k (answering_of c kind next f seen x).call
  unfolding goes_on_of clears_of in_phase_of answered_call_of
  outcome_due kind next f seen false w = rw settled_for (w refl)
  outcome_due kind next f seen true w = tt

  answered_due : (kind : Kind) (next : Phase) (f : ByService Fate) (l : List ℕ) → (failure_of (fate_for f k) ≡ false → Due k next (settled_of (standing_for c.standings k) (fate_for f k))) → DueIn k (answered_of c kind next f l).call
  unfolding answered_of
  answered_due kind next f l w = outcome_due kind next f _ (failed_of f) (λ h. w (none_fails f k h))

  heard_due : (a g : Bool) (r : Reply) {s : Reply} → Heard c a g r s → DueIn k c → (a ≡ true → DueIn k r.call) → DueIn k s.call
  unfolding refused_of
  heard_due a g r (through _ h _) w f = f h
  heard_due a g r (barred _ x) w f = w

facility_due : (k : Service) (c : Call) (side : Side) (what : What) → InForce (standing_for c.standings k) → InForce (standing_for (facility_call_of c side what).standings k)
unfolding facility_call_of
facility_due Service.One c side what w = w
facility_due Service.Two c side what w = w
facility_due Service.Three c side What.Preferred w = w
facility_due Service.Three c side What.Accept w = refl
facility_due Service.Three c side What.Reject w = w
facility_due Service.Three c side What.Required w = w

module _ (k : Service) (c : Call) (side : Side) (w : DueIn k c) where
  information_due : (more : Bool) (seen : Seen) → DueIn k (with_element_of c seen (carried_of c side more (information_passage_of c side))).call
  unfolding with_element_of refused_of carried_of reply_of meters_of
  information_due more seen = by_cond (λ (r : Reply). DueIn k r.call) (whole_of seen) (λ _. w) (λ _. w)

  passes_due : (what : What) (v : Answer) → c.phase ≡ Phase.Active → DueIn k (passes_facility_of c side what v).call
  unfolding passes_facility_of reply_of facility_call_of
  passes_due what v e =
      by_cond (λ (d : Call). DueIn k d) (taken_of v)
      (λ _. moved k (standing_for (facility_call_of c side what).standings k) (sym e) (facility_due k c side what (moved k _ e w)))
      (λ _. w)

pub step_due : (k : Service) (c : Call) (e : Event) (l : List ℕ) → DueIn k c → DueIn k (step_of c e l).call
unfolding setup_of alerting_of connect_of information_of meters_of facility_of disconnect_of passed_on_of closed_call_of reply_of release_complete_of ends_of in_phase_of tick_of passes_tick_of not_an_event_of refused_of
step_due k c (Event.Setup reference rights q) l w =
    heard_due k c _ _ _ (heard c _ _ _) w (λ h. absurd (moved k _ ((fresh c.phase).so h) w))
step_due k c (Event.Alerting a) l w =
    heard_due k c _ _ _ (heard c _ _ _) w
    (λ h. answered_due k c _ _ _ l (alerting_due c a k (moved k _ ((requested c.phase).so h) w)))
step_due k c (Event.Connect a) l w =
    heard_due k c _ _ _ (heard c _ _ _) w
    (λ h.
    answered_due k c _ _ _ l
    (⊎_elim
    (λ e. connect_due c a _ k (λ _. moved k _ e w) (λ t. never t (rw e refl)))
    (λ e. connect_due c a _ k (λ t. never (rw e refl) t) (λ _. moved k _ e w))
    ((connectable c.phase).so h)))
step_due k c (Event.Information side more) l w =
    heard_due k c _ _ _ (heard c _ _ _) w
    (λ _. information_due k c side w more _)
step_due k c (Event.Facility side what) l w =
    heard_due k c _ _ _ (heard c _ _ _) w
    (λ h. passes_due k c side w what _ ((active c.phase).so h))
step_due k c (Event.Disconnect side cause answers) l w = heard_due k c _ _ _ (heard c _ _ _) w (λ _. tt)
step_due k c (Event.ReleaseComplete side) l w = heard_due k c _ _ _ (heard c _ _ _) w (λ _. tt)
step_due k c Event.Tick l w = heard_due k c _ _ _ (heard c _ _ _) w (λ _. w)
step_due k c Event.CallProceeding l w = w
step_due k c Event.CongestionControl l w = w

-- a run
run_due : (k : Service) (c : Call) (os : List Offered) → DueIn k c → DueIn k (run_of step_of c os)
run_due k c [] w = w
run_due k c (o ∷ os) w = run_due k (step_of c o.event o.element).call os (step_due k c o.event o.element w)

when_taken : (P : Reply → Type 0) (c : Call) (a g : Bool) (r : Reply) {s : Reply} → Heard c a g r s → number_of s.answer ≡ 0 → P r → P s
unfolding refused_of
when_taken P c a g r (through _ _ _) t w = w
when_taken P c a g r (barred _ x) t w = absurd (bar_not_taken x t)

requires_due : (k : Service) (c : Call) (e : Event) (l : List ℕ) → Taken step_of c e l → Requires k e l → DueIn k (step_of c e l).call
unfolding setup_of
requires_due k c e l t (asked {reference} {rights} {q} h) =
    when_taken (λ r. DueIn k r.call) c _ _ _ (heard c _ _ _) t (setup_due reference rights q _ k h)

pub required : Required step_of
required os k h e =
    let c = run_of step_of fresh_call h.before in
    let w = run_due k _ h.after (requires_due k c h.event.event h.event.element h.holds.0 h.holds.1) in
    let q : DueIn k (run_of step_of fresh_call os) = rw (h.split, run_append) w in
    moved k _ e q

-- a required service that fails
lack : (rights : Rights) (k : Service) (q : Request) → Lacking rights k q → lacking_of q (has_of rights k) ≡ false → ⊥
lack rights k q x h = x.1 ((has rights k).so (not_false _ (rw x.0 at h)))
  where
    not_false : (b : Bool) → not b ≡ false → b ≡ true
    not_false true h = refl
    not_false false h = never refl h

lacks : (rights : Rights) (q : ByService Request) → LacksRequired rights q → lacks_of rights q ≡ false → ⊥
lacks rights q (inl x) h = lack rights Service.One _ x (lacks_false rights q Service.One h)
lacks rights q (inr (inl x)) h = lack rights Service.Two _ x (lacks_false rights q Service.Two h)
lacks rights q (inr (inr x)) h = lack rights Service.Three _ x (lacks_false rights q Service.Three h)

setup_fails : (reference : ℕ) (rights : Rights) (q : ByService Request) (seen : Seen) → LacksRequired rights q → (proceeds_of reference rights q seen).call.phase ≡ Phase.Ended
unfolding proceeds_of setup_phase_of
setup_fails reference rights q seen x =
    by_cond (λ p. p ≡ Phase.Ended) (lacks_of rights q) (λ _. refl) (λ h. absurd (lacks rights q x h))

fails : (s : Standing) (g : Given) → Fails s g → failure_of (decided_of s g) ≡ false → ⊥
fails s g x h = x.1 (accepted g (rw x.0 at h))

module _ (c : Call) (kind : Kind) (next : Phase) (f : ByService Fate) where
  outcome_fails : (seen : Seen) (x : Bool) → (x ≡ false → ⊥) → (answering_of c kind next f seen x).call.phase ≡ Phase.Clearing
  unfolding clears_of in_phase_of
  outcome_fails seen false n = absurd (n refl)
  outcome_fails seen true _ = refl

  answered_fails : (l : List ℕ) (k : Service) → (failure_of (fate_for f k) ≡ false → ⊥) → (answered_of c kind next f l).call.phase ≡ Phase.Clearing
  unfolding answered_of
  answered_fails l k n = outcome_fails _ (failed_of f) (λ h. n (none_fails f k h))

module _ (c : Call) (a : ByService Given) (l : List ℕ) where
  alerting_fails : AlertingFails c.standings a → (answered_of c Kind.Alerting Phase.Alerting (alerting_fates_of c.standings a) l).call.phase ≡ Phase.Clearing
  unfolding alerting_fates_of
  alerting_fails (inl x) = answered_fails c _ _ _ l Service.One (fails _ _ x)
  alerting_fails (inr x) = answered_fails c _ _ _ l Service.Two (fails _ _ x)

  connect_fails : (alerted : Bool) → (c.phase ≡ Phase.Requested → alerted ≡ false) → ConnectFails c.phase c.standings a → (answered_of c Kind.Connect Phase.Active (connect_fates_of alerted c.standings a) l).call.phase ≡ Phase.Clearing
  unfolding connect_fates_of
  connect_fails true r (inl x) = never refl (r x.0)
  connect_fails false r (inl (p, inl x)) = answered_fails c _ _ _ l Service.One (fails _ _ x)
  connect_fails false r (inl (p, inr x)) =
      answered_fails c _ _ _ l Service.Two
      (fails _ Given.Silent (x, λ e. absurd (let z : ◌≡◌ {A = ℕ} 0 1 = cc in omega arith)))
  connect_fails alerted r (inr x) = answered_fails c _ _ _ l Service.Three (fails _ _ x)

phase_after : (p : Phase) (c : Call) (a g : Bool) (r : Reply) {s : Reply} → Heard c a g r s → number_of s.answer ≡ 0 → r.call.phase ≡ p → s.call.phase ≡ p
phase_after p = when_taken (λ r. r.call.phase ≡ p)

pub failed : Failed step_of
unfolding setup_of alerting_of connect_of
failed c e l p t (setup x) = phase_after _ c _ _ _ (heard c _ _ _) t (setup_fails _ _ _ _ x)
failed c e l p t (alerting x) = phase_after _ c _ _ _ (heard c _ _ _) t (alerting_fails c _ l x)
failed c e l p t (connect x) =
    phase_after _ c _ _ _ (heard c _ _ _) t (connect_fails c _ l _ (λ e. rw e refl) x)
