-- The note is that of the first row that applies.
use Rattle.services.specs.declared.ByService.{ByService}
use Rattle.std.proofs.Common.{ℕ, List, Bool, true, false, cond, ◌&&◌, not, true≢false, ◌⊎◌, inl, inr, ⊎_elim, ◌≡◌, refl, ◌∙◌, arith, eqb-true, eqb}
use Rattle.std.proofs.lemmas.Bool.{eqb-false}
use Rattle.logic.specs.First.{First}
use Rattle.logic.proofs.Only.{only, exactly}
use Rattle.flow_meter.specs.declared.passage.Passage.{Passage}
use Rattle.user_element.specs.declared.Note.{Note}
use Rattle.user_element.specs.declared.Seen.{Seen}
use Rattle.rights.specs.declared.Rights.{Rights}
use Rattle.rights.specs.declared.Service.{Service}
use Rattle.answering_rules.specs.declared.Fate.{Fate}
use Rattle.services.specs.declared.Given.{Given}
use Rattle.services.specs.declared.Request.{Request}
use Rattle.services.specs.declared.Standing.{Standing}
use Rattle.answer.specs.declared.Answer.{Answer}
use Rattle.message_types.specs.declared.Kind.{Kind}
use Rattle.phases.specs.declared.Phase.{Phase}
use Rattle.sent.specs.declared.side.Side.{Side}
use Rattle.call.specs.declared.Call.{Call}
use Rattle.event.specs.declared.Event.{Event}
use Rattle.call.specs.declared.reply.Reply.{Reply}
use Rattle.user_element.specs.Element.{note_number_of, seen_of, noted_of}
use Rattle.rights.specs.Rights.{has_of}
use Rattle.services.specs.Standing.{in_force_of, awaits_of, remains_of}
use Rattle.setup_rules.specs.Requests.{first_standing_of, standings_of, lacking_of, lacks_of, setup_carries_of}
use Rattle.answering_rules.specs.Fates.{decided_of, alerting_fates_of, connect_fates_of}
use Rattle.answering_rules.specs.Effects.{settled_of, settles_of, failure_of, failed_of}
use Rattle.clearing_rules.specs.Closing.{silent_answers, closing_standing_of, heard_answers_of}
use Rattle.answer.specs.Answer.{number_of}
use Rattle.phases.specs.Phase.{requested_of}
use Rattle.information_rules.specs.Messages.{passage_answer_of}
use Rattle.call.specs.Answering.{answered_call_of, goes_on_of, clears_of, answering_of, answered_of, alerting_of, connect_of}
use Rattle.call.specs.Disconnect.{passed_on_of, disconnect_of, ends_of, release_complete_of}
use Rattle.call.specs.Facility.{passes_facility_of, facility_of}
use Rattle.call.specs.Information.{information_passage_of, carried_of, with_element_of, information_of}
use Rattle.call.specs.Reply.{refused_of, reply_of}
use Rattle.call.specs.Setup.{proceeds_of, setup_of}
use Rattle.call.specs.Step.{not_an_event_of, step_of}
use Rattle.call.specs.Tick.{passes_tick_of, tick_of}
use Rattle.call_promises.specs.Numbers.{InForce, answer_rows}
use Rattle.call_promises.specs.Notes.{Refused, Bare, limit_for, Lacking, LacksRequired, Open, Fails, Comes, NotCarried, note_rows, Notes}
use Rattle.logic.proofs.Decide.{never, Decides, Denies, denied, via, either, neither, as_is, always}
use Rattle.call_promises.proofs.Heard.{Bar, unsound, phase, range, Heard, through, barred, heard}
use Rattle.call_promises.proofs.Phases.{requested}
use Rattle.call_promises.proofs.Conditions.{in_force, has, silence_no}
use Rattle.call_promises.proofs.Seen.{Sight, absent, malformed, too_long, whole, sight}
use Rattle.call_promises.proofs.Numbers.{answer_first}
use Rattle.call_promises.proofs.Refusals.{answered_taken}

module _ (c : Call) (e : Event) (l : List ℕ) where
  -- 0 and 17 are no refusals that have note 0
  kept : (n : ℕ) → First (answer_rows c e l) n → (n ≡ 0) ⊎ (n ≡ 17) → Refused c e l → ⊥
  kept n f k x =
      let s = only (answer_rows c e l) x.0 n x.1 f in
      ⊎_elim (λ z. x.2 (s ∙ z)) (λ z. x.3 (s ∙ z)) k

  -- an event that has no element has note 0
  bare_by : (n : ℕ) (a b : Bool) → eqb n 0 ≡ a → eqb n 17 ≡ b → First (answer_rows c e l) n → Bare e → First (note_rows c e l) 0
  bare_by n true b p q f x = inr (kept n f (inl (eqb-true n 0 p)), inl (inl x, refl))
  bare_by n false true p q f x = inr (kept n f (inr (eqb-true n 17 q)), inl (inl x, refl))
  bare_by n false false p q f x = inl ((n, f, eqb-false n 0 p, eqb-false n 17 q), refl)

  bare_note : (step_of c e l).note ≡ Note.Clear → Bare e → First (note_rows c e l) (note_number_of (step_of c e l).note)
  bare_note h x = rw h (bare_by _ _ _ refl refl (answer_first c e l) x)

  -- the note on an element, where the answer is 0 or 17
  element_note : {s : Seen} (carried : Bool) → Sight l (limit_for c e) s → (Refused c e l → ⊥) → (Bare e → ⊥) → (s ≡ Seen.Whole → Denies carried (NotCarried c e)) → First (note_rows c e l) (note_number_of (noted_of s carried))
  element_note k (absent z) r b d = inr (r, inl (inr z, refl))
  element_note k (malformed z w) r b d = inr (r, inr (⊎_elim b z, inl (w, refl)))
  element_note k (too_long z w h) r b d = inr (r, inr (⊎_elim b z, inr ((λ x. x w), inl (h, refl))))
  element_note true (whole z w h) r b d =
      inr (r, inr (⊎_elim b z, inr ((λ x. x w), inr ((λ k. omega arith), inr ((λ x. true≢false ((d refl).back x)), refl)))))
  element_note false (whole z w h) r b d =
      inr (r, inr (⊎_elim b z, inr ((λ x. x w), inr ((λ k. omega arith), inl ((d refl).so refl, refl)))))

  -- a bar has note 0
  bar_numbers : {x : Answer} → Bar x → (number_of x ≡ 0 → ⊥) × (number_of x ≡ 17 → ⊥)
  bar_numbers unsound = omega arith
  bar_numbers phase = omega arith
  bar_numbers range = omega arith

  heard_note : (a g : Bool) (r : Reply) {s : Reply} → Heard c a g r s → First (answer_rows c e l) (number_of s.answer) → (First (answer_rows c e l) (number_of r.answer) → First (note_rows c e l) (note_number_of r.note)) → First (note_rows c e l) (note_number_of s.note)
  unfolding refused_of
  heard_note a g r (through _ _ _) f k = k f
  heard_note a g r (barred _ x) f k = let b = bar_numbers x in inl ((_, f, b.0, b.1), refl)

  heard_clear : (a g : Bool) (r : Reply) {s : Reply} → Heard c a g r s → r.note ≡ Note.Clear → s.note ≡ Note.Clear
  unfolding refused_of
  heard_clear a g r (through _ _ _) h = h
  heard_clear a g r (barred _ x) h = refl

-- a message that stops, or that goes on without service 1
stops : (a b : Bool) {P Q : Type 0} → Decides a P → Decides b Q → Denies (not a && b) (P ⊎ (Q → ⊥))
stops true b d e = record { so = λ _. inl (d.so refl); back = λ _. refl }
stops false b d e =
    record { so = λ h. inr (λ q. never (e.back q) h); back = ⊎_elim (λ p. never (d.back p) refl) (denied b e).back }

-- SETUP
lacking : (r : Rights) (k : Service) (q : Request) → Decides (lacking_of q (has_of r k)) (Lacking r k q)
lacking r k Request.Unasked = record { so = λ h. never h refl; back = λ x. absurd (let z : ◌≡◌ {A = ℕ} 0 1 = cc x.0 in omega arith) }
lacking r k Request.Preferred = record { so = λ h. never h refl; back = λ x. absurd (let z : ◌≡◌ {A = ℕ} 0 1 = cc x.0 in omega arith) }
lacking r k Request.Required = via (λ n. (refl, n)) (λ x. x.1) (neither _ (has r k))

pub lacks : (r : Rights) (q : ByService Request) → Decides (lacks_of r q) (LacksRequired r q)
unfolding lacks_of
lacks r q =
    via (⊎_elim (⊎_elim (λ x. inl x) (λ x. inr (inl x))) (λ x. inr (inr x)))
    (⊎_elim (λ x. inl (inl x)) (⊎_elim (λ x. inl (inr x)) (λ x. inr x)))
    (either _ _ (either _ _ (lacking r Service.One q.one) (lacking r Service.Two q.two)) (lacking r Service.Three q.three))

-- an element that is whole leaves service 1 exactly if the rights have it
remains : (q : Request) (had : Bool) → remains_of (first_standing_of q Seen.Whole had) ≡ had
unfolding remains_of first_standing_of
remains Request.Unasked true = refl
remains Request.Unasked false = refl
remains Request.Preferred true = refl
remains Request.Preferred false = refl
remains Request.Required true = refl
remains Request.Required false = refl

pub setup_carries : (c : Call) (reference : ℕ) (r : Rights) (q : ByService Request) (s : Seen) → s ≡ Seen.Whole → Denies (setup_carries_of r q s) (NotCarried c (Event.Setup reference r q))
unfolding setup_carries_of standings_of
setup_carries c reference r q s e = rw (e, remains) (stops _ _ (lacks r q) (has r Service.One))

-- ALERTING and CONNECT
fails_so : (s : Standing) (g : Given) → failure_of (decided_of s g) ≡ true → Fails s g
fails_so Standing.Unasked g h = never h refl
fails_so Standing.Preferred Given.Silent h = never h refl
fails_so Standing.Preferred Given.Accepted h = never h refl
fails_so Standing.Preferred Given.Rejected h = never h refl
fails_so Standing.Required Given.Silent h = (refl, λ e. let z : ◌≡◌ {A = ℕ} 0 1 = cc in omega arith)
fails_so Standing.Required Given.Accepted h = never h refl
fails_so Standing.Required Given.Rejected h = (refl, λ e. let z : ◌≡◌ {A = ℕ} 0 1 = cc in omega arith)
fails_so Standing.InForce g h = never h refl
fails_so Standing.Closed g h = never h refl

required_fails : (g : Given) → (g ≡ Given.Accepted → ⊥) → failure_of (decided_of Standing.Required g) ≡ true
required_fails Given.Silent n = refl
required_fails Given.Accepted n = absurd (n refl)
required_fails Given.Rejected n = refl

fails : (s : Standing) (g : Given) → Decides (failure_of (decided_of s g)) (Fails s g)
fails s g = record { so = fails_so s g; back = λ x. rw x.0 (required_fails g x.1) }

-- an answer counts where it is due
due_fails : (due : Bool) {D : Type 0} (s : Standing) (g : Given) → Decides due D → Decides (failure_of (cond (not due) Fate.Kept (decided_of s g))) (D × Fails s g)
due_fails true s g d = via (λ x. (d.so refl, x)) (λ x. x.1) (fails s g)
due_fails false s g d = record { so = λ h. never h refl; back = λ x. d.back x.0 }

comes_so : (s : Standing) (g : Given) → in_force_of (settled_of s (decided_of s g)) ≡ true → InForce s ⊎ (Open s × (g ≡ Given.Accepted))
comes_so Standing.Unasked g h = never h refl
comes_so Standing.Preferred Given.Silent h = never h refl
comes_so Standing.Preferred Given.Accepted h = inr (inl refl, refl)
comes_so Standing.Preferred Given.Rejected h = never h refl
comes_so Standing.Required Given.Silent h = never h refl
comes_so Standing.Required Given.Accepted h = inr (inr refl, refl)
comes_so Standing.Required Given.Rejected h = never h refl
comes_so Standing.InForce g h = inl refl
comes_so Standing.Closed g h = never h refl

accepted : (s : Standing) → Open s → in_force_of (settled_of s (decided_of s Given.Accepted)) ≡ true
accepted s (inl e) = rw e refl
accepted s (inr e) = rw e refl

comes : (s : Standing) (g : Given) → Decides (in_force_of (settled_of s (decided_of s g))) (InForce s ⊎ (Open s × (g ≡ Given.Accepted)))
comes s g =
    record {
      so = comes_so s g;
      back = ⊎_elim (λ i. rw i refl) (λ x. rw x.1 (accepted s x.0));
    }

due_comes : (due : Bool) {D : Type 0} (s : Standing) (g : Given) → Decides due D → Decides (in_force_of (settled_of s (cond (not due) Fate.Kept (decided_of s g)))) (Comes D s g)
due_comes true s g d = via (⊎_elim (λ i. inl i) (λ x. inr (d.so refl, x.0, x.1))) (⊎_elim (λ i. inl i) (λ x. inr (x.1, x.2))) (comes s g)
due_comes false s g d = via (λ i. inl i) (⊎_elim (λ i. i) (λ x. never (d.back x.0) refl)) (in_force s)

-- the note on an answering message
unfoldable pub carries_of : Standing → ByService Fate → Bool
carries_of s f = not (failed_of f) && in_force_of (settled_of s f.one)

module _ (c : Call) (kind : Kind) (next : Phase) (f : ByService Fate) where
  outcome_note : (seen : Seen) (x : Bool) → (answering_of c kind next f seen x).note ≡ noted_of seen (not x && in_force_of (settled_of c.standings.one f.one))
  unfolding goes_on_of clears_of answered_call_of settles_of
  outcome_note seen false = refl
  outcome_note seen true = refl

  answered_note : (l : List ℕ) → (answered_of c kind next f l).note ≡ noted_of (seen_of l c.rights.limit) (carries_of c.standings.one f)
  unfolding answered_of carries_of
  answered_note l = outcome_note _ (failed_of f)

pub alerting_carries : (c : Call) (a : ByService Given) → Denies (carries_of c.standings.one (alerting_fates_of c.standings a)) (NotCarried c (Event.Alerting a))
unfolding carries_of alerting_fates_of failed_of
alerting_carries c a =
    stops _ _
    (via (⊎_elim (λ x. x) (λ h. never h refl)) (λ x. inl x)
    (either _ _ (either _ _ (fails c.standings.one a.one) (fails c.standings.two a.two)) (as_is false)))
    (due_comes true c.standings.one a.one (record { so = λ _. tt; back = λ _. refl }))

pub connect_carries : (c : Call) (a : ByService Given) → Denies (carries_of c.standings.one (connect_fates_of (not (requested_of c.phase)) c.standings a)) (NotCarried c (Event.Connect a))
unfolding carries_of connect_fates_of failed_of
connect_carries c a =
    let r = requested c.phase in
    stops _ _
    (via
    (⊎_elim (⊎_elim (λ x. inl (x.0, inl x.1)) (λ x. inl (x.0, inr x.1.0))) (λ x. inr x))
    (⊎_elim (λ x. inl (⊎_elim (λ y. inl (x.0, y)) (λ y. inr (x.0, (y, silence_no))) x.1)) (λ x. inr x))
    (either _ _
    (either _ _ (due_fails _ c.standings.one a.one r) (due_fails _ c.standings.two Given.Silent r))
    (fails c.standings.three a.three)))
    (due_comes _ c.standings.one a.one r)

-- DISCONNECT
open_so : (s : Standing) → in_force_of (cond (awaits_of s) Standing.InForce s) ≡ true → InForce s ⊎ Open s
open_so Standing.Unasked h = never h refl
open_so Standing.Preferred h = inr (inl refl)
open_so Standing.Required h = inr (inr refl)
open_so Standing.InForce h = inl refl
open_so Standing.Closed h = never h refl

opens : (s : Standing) → InForce s ⊎ Open s → in_force_of (cond (awaits_of s) Standing.InForce s) ≡ true
opens s (inl e) = rw e refl
opens s (inr (inl e)) = rw e refl
opens s (inr (inr e)) = rw e refl

closing_comes : (s : Standing) (g : Given) → Decides (in_force_of (closing_standing_of s g)) (InForce s ⊎ (Open s × (g ≡ Given.Accepted)))
closing_comes s Given.Silent =
    via (λ i. inl i) (⊎_elim (λ i. i) (λ x. absurd (let z : ◌≡◌ {A = ℕ} 0 1 = cc x.1 in omega arith))) (in_force s)
closing_comes s Given.Accepted =
    record {
      so = λ h. ⊎_elim (λ i. inl i) (λ o. inr (o, refl)) (open_so s h);
      back = λ x. opens s (⊎_elim (λ i. inl i) (λ y. inr y.0) x);
    }
closing_comes s Given.Rejected =
    via (λ i. inl i) (⊎_elim (λ i. i) (λ x. absurd (let z : ◌≡◌ {A = ℕ} 0 1 = cc x.1 in omega arith))) (in_force s)

pub disconnect_comes : (side : Side) (s : Standing) (a : ByService Given) → Decides (in_force_of (closing_standing_of s (heard_answers_of side a).one)) (Comes (side ≡ Side.Called) s a.one)
unfolding silent_answers
disconnect_comes Side.Calling s a =
    via (λ i. inl i) (⊎_elim (λ i. i) (λ x. absurd (let z : ◌≡◌ {A = ℕ} 0 1 = cc x.0 in omega arith))) (in_force s)
disconnect_comes Side.Called s a =
    via (⊎_elim (λ i. inl i) (λ x. inr (refl, x.0, x.1))) (⊎_elim (λ i. inl i) (λ x. inr (x.1, x.2))) (closing_comes s a.one)

-- USER INFORMATION
module _ (c : Call) (side : Side) (more : Bool) (l : List ℕ) where
  abbrev heading : Event
  heading = Event.Information side more

  passage_note : (p : Passage) → Sight l c.rights.limit Seen.Whole → First (answer_rows c heading l) (number_of (passage_answer_of p)) → First (note_rows c heading l) 0
  passage_note (Passage.Two n) v f = element_note c heading l true v (kept c heading l _ f (inl refl)) (λ x. x) (λ _. always)
  passage_note (Passage.Three n) v f = element_note c heading l true v (kept c heading l _ f (inl refl)) (λ x. x) (λ _. always)
  passage_note (Passage.Marks n) v f = inl ((14, f, omega arith, omega arith), refl)
  passage_note Passage.Spent v f = inl ((14, f, omega arith, omega arith), refl)
  passage_note Passage.Unserved v f = inl ((13, f, omega arith, omega arith), refl)

  information_note : {s : Seen} → Sight l c.rights.limit s → First (answer_rows c heading l) (number_of (with_element_of c s (carried_of c side more (information_passage_of c side))).answer) → First (note_rows c heading l) (note_number_of (with_element_of c s (carried_of c side more (information_passage_of c side))).note)
  unfolding with_element_of refused_of carried_of reply_of
  information_note (absent z) f = element_note c heading l true (absent z) (kept c heading l _ f (inr refl)) (λ x. x) (λ _. always)
  information_note (malformed z w) f = element_note c heading l true (malformed z w) (kept c heading l _ f (inr refl)) (λ x. x) (λ _. always)
  information_note (too_long z w h) f = element_note c heading l true (too_long z w h) (kept c heading l _ f (inr refl)) (λ x. x) (λ _. always)
  information_note (whole z w h) f = passage_note (information_passage_of c side) (whole z w h) f

note_first : (c : Call) (e : Event) (l : List ℕ) → First (note_rows c e l) (note_number_of (step_of c e l).note)
unfolding setup_of proceeds_of alerting_of connect_of information_of facility_of passes_facility_of disconnect_of passed_on_of reply_of release_complete_of ends_of tick_of passes_tick_of not_an_event_of refused_of
note_first c (Event.Setup reference rights q) l =
    let e = Event.Setup reference rights q in
    heard_note c e l _ _ _ (heard c _ _ _) (answer_first c e l)
    (λ f. element_note c e l _ (sight l rights.limit) (kept c e l _ f (inl refl)) (λ x. x) (setup_carries c reference rights q _))
note_first c (Event.Alerting answers) l =
    let e = Event.Alerting answers in
    heard_note c e l _ _ _ (heard c _ _ _) (answer_first c e l)
    (λ f.
    rw answered_note
    (element_note c e l _ (sight l c.rights.limit) (kept c e l _ f (inl (rw (answered_taken c _ _ _ l) refl))) (λ x. x) (λ _. alerting_carries c answers)))
note_first c (Event.Connect answers) l =
    let e = Event.Connect answers in
    heard_note c e l _ _ _ (heard c _ _ _) (answer_first c e l)
    (λ f.
    rw answered_note
    (element_note c e l _ (sight l c.rights.limit) (kept c e l _ f (inl (rw (answered_taken c _ _ _ l) refl))) (λ x. x) (λ _. connect_carries c answers)))
note_first c (Event.Information side more) l =
    let e = Event.Information side more in
    heard_note c e l _ _ _ (heard c _ _ _) (answer_first c e l) (information_note c side more l (sight l c.rights.limit))
note_first c (Event.Facility side what) l =
    let e = Event.Facility side what in bare_note c e l (heard_clear c e l _ _ _ (heard c _ _ _) refl) tt
note_first c (Event.Disconnect side cause answers) l =
    let e = Event.Disconnect side cause answers in
    heard_note c e l _ _ _ (heard c _ _ _) (answer_first c e l)
    (λ f.
    element_note c e l _ (sight l c.rights.limit) (kept c e l _ f (inl refl)) (λ x. x)
    (λ _. denied _ (disconnect_comes side c.standings.one answers)))
note_first c (Event.ReleaseComplete side) l =
    let e = Event.ReleaseComplete side in bare_note c e l (heard_clear c e l _ _ _ (heard c _ _ _) refl) tt
note_first c Event.Tick l = bare_note c Event.Tick l (heard_clear c Event.Tick l _ _ _ (heard c _ _ _) refl) tt
note_first c Event.CallProceeding l = bare_note c Event.CallProceeding l refl tt
note_first c Event.CongestionControl l = bare_note c Event.CongestionControl l refl tt

pub notes : Notes step_of
notes c e l = exactly (note_rows c e l) _ (note_first c e l)
